-- All rewrites in their order.
use Rattle.std.proofs.Common.{◌≡◌, Bool, true, false, List, refl}
use Rattle.hm_elements.specs.Settled.{Settled}
use Rattle.hm_options.proofs.Collapsed.{collapsed_settled}
use Rattle.hm_options.proofs.StillSettled.{ruled_settled, uncommented_settled}
use Rattle.hm_base.specs.Walks.{Event}
use Rattle.hm_base.specs.declared.plain.TreeOptions.{TreeOptions}
use Rattle.hm_options.specs.Passes.{all_but_space}
use Rattle.hm_options.specs.Rewrites.{by, uncommented, where_set, rewrite}
use Rattle.hm_options.specs.Rules.{PlainDoctype, BooleanValues, EmptyAttributes, RedundantAttributes, event_rule}
use Rattle.hm_options.specs.Space.{collapsed}

pub in_order : (o : TreeOptions) (w a b : List Event) → a ≡ all_but_space o w → b ≡ where_set o.space (collapsed o.conservative) a → b ≡ rewrite o w
unfolding rewrite
in_order o w a b first second = rw (second, first) refl

where_settled : (flag : Bool) (f : List Event → List Event) (w : List Event) → ((v : List Event) → Settled v → Settled (f v)) → Settled w → Settled (where_set flag f w)
where_settled true f w keeps h = keeps w h
where_settled false f w keeps h = h

-- a settled walk stays settled by all of them
pub rewrite_settled : (o : TreeOptions) (w : List Event) → Settled w → Settled (rewrite o w)
unfolding rewrite
rewrite_settled o w h =
    let a = where_set o.doctype (by (event_rule PlainDoctype)) w in
    let b = where_set o.comments uncommented a in
    let c = where_set o.booleans (by (event_rule BooleanValues)) b in
    let d = where_set o.empty (by (event_rule EmptyAttributes)) c in
    let e = where_set o.redundant (by (event_rule RedundantAttributes)) d in
    let first : Settled a = where_settled o.doctype (by (event_rule PlainDoctype)) w (ruled_settled PlainDoctype) h in
    let second : Settled b = where_settled o.comments uncommented a uncommented_settled first in
    let third : Settled c = where_settled o.booleans (by (event_rule BooleanValues)) b (ruled_settled BooleanValues) second in
    let fourth : Settled d = where_settled o.empty (by (event_rule EmptyAttributes)) c (ruled_settled EmptyAttributes) third in
    let fifth : Settled e = where_settled o.redundant (by (event_rule RedundantAttributes)) d (ruled_settled RedundantAttributes) fourth in
    where_settled o.space (collapsed o.conservative) e (collapsed_settled o.conservative) fifth
