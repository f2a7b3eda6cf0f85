use Rattle.std.proofs.Common.{[], ◌∷◌, arith, ◌∙◌, ap, refl}
use Rattle.std.specs.String.{string_bytes}
use Rattle.hm_base.specs.Source.{Source}
use Rattle.hm_base.specs.Places.{with_pair}
use Rattle.hm_base.proofs.Places.{source_from_pair, IsSourceText-append, IsSourceText_pair}
use Rattle.hm_base.proofs.source.SourceText.push_pair.Goals as goal

pub invariant_of-self-in_err-push-2 : goal.invariant_of-self-in_err-push-2
invariant_of-self-in_err-push-2 c =
    let s = c.self.inside in
    rw (c.in_err-push-2.ensures.items, c.in_ok-push.ensures.bytes, c.in_ok-push.ensures.ascii (omega arith)) (IsSourceText-append s.start s.pairs.items (string_bytes s.text) (10 ∷ []) c.self.invariant refl (omega (arith, ap (λ (v : Source). v.end) c.self.view_is)))

pub invariant_of-self-2 : goal.invariant_of-self-2
invariant_of-self-2 c =
    let s = c.self.inside in
    rw (c.in_ok-push-2.ensures.items, c.len-at.ensures, s.text.bytes.ok.0, c.in_ok-push.ensures.bytes, c.in_ok-push.ensures.ascii (omega arith)) (IsSourceText_pair s.start s.pairs.items (string_bytes s.text) c.self.invariant (omega (arith, ap (λ (v : Source). v.end) c.self.view_is)))

pub returns : goal.returns
returns c =
    let s = c.self.inside in
    rw (c.in_ok-push-2.ensures.items, c.len-at.ensures, s.text.bytes.ok.0, c.in_ok-push.ensures.bytes, c.in_ok-push.ensures.ascii (omega arith)) (source_from_pair s.start s.pairs.items (string_bytes s.text) c.self.invariant.inside ∙ ap with_pair c.self.view_is)
