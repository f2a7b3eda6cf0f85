use Rattle.std.proofs.Common.{◌≡◌, ◌+◌, length, drop, refl, sym, subst, arith}
use Rattle.std.proofs.lemmas.List.{take_at}
use Rattle.hm_refs.specs.declared.limits.TheConstants.{LENGTH_LIMIT}
use Rattle.hm_refs.specs.Nodes.{IsPut, IsSpread, entries_of}
use Rattle.hm_refs.proofs.Growing.{root_spread, length_entries, put_all}
use Rattle.hm_refs.proofs.nodes.grow.Goals as goal

pub loop-depth-init : goal.loop-depth-init
loop-depth-init c = rw (c.in_ok-push.ensures.items, c.requires.empty, c.in_ok-places.ensures.items_if_clones_equal (λ y e. e), c.new.ensures, sym (length_entries c.args.names.now)) (root_spread _ _ (record { depth = refl; ends = refl; first = refl; count = refl }) c.requires.names)

pub grow_deeper-requires-clause-spread : goal.grow_deeper-requires-clause-spread
grow_deeper-requires-clause-spread c = subst (IsSpread (entries_of c.args.names.now) c.loop-depth.depth 0 c.loop-depth.nodes.items) (sym c.deref_mut.ensures.value) c.loop-depth.invariant

pub loop-depth-preserved : goal.loop-depth-preserved
loop-depth-preserved c =
    let l = c.loop-depth in
    let places = c.grow_deeper.new.places in
    let grown = c.in_ok-grow_deeper.ensures in
    let size : length places ≡ l.places.len = omega (arith, grown.as_long, l.invariant.as_long, l.places.ok.0) in
    subst (IsSpread (entries_of c.args.names.now) (l.depth + 1) 0 c.grow_deeper.new.nodes.items) (sym (take_at places (drop (length places) l.places.items) l.places.len size)) grown

pub mark_ends-requires : goal.mark_ends-requires
mark_ends-requires c =
    let l = c.loop-depth in
    let t = entries_of c.args.names.now in
    let all : l.depth ≡ LENGTH_LIMIT = omega (arith, l.auto.depth-end, c.loop-depth-test.false) in
    let put = put_all t l.nodes.items l.places.items (subst (λ d. IsSpread t d 0 l.nodes.items l.places.items) all l.invariant) in
    subst (IsPut t 0 c.deref_mut-2.result.now) (sym c.deref.ensures.value) (subst (λ ns. IsPut t 0 ns l.places.items) (sym c.deref_mut-2.ensures.value) put)

pub returns : goal.returns
returns c =
    let l = c.loop-depth in
    let t = entries_of c.args.names.now in
    let nodes = c.mark_ends.new.nodes in
    let size : length nodes ≡ l.nodes.len = omega (arith, c.mark_ends.auto.nodes, c.deref_mut-2.ensures.len) in
    subst (λ ns. IsPut t (length t) ns l.places.items) (sym (take_at nodes (drop (length nodes) l.nodes.items) l.nodes.len size)) (subst (IsPut t (length t) nodes) c.deref.ensures.value c.mark_ends.ensures)
