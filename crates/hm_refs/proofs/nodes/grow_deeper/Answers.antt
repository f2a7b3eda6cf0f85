use Rattle.std.proofs.Common.{◌≡◌, ◌∙◌, ◌<◌, length, drop, refl, ap, subst, arith}
use Rattle.hm_refs.specs.Nodes.{IsSpread, entries_of}
use Rattle.hm_refs.proofs.Growing.{name_read, length_entries, place_read, still_inside, skips_on, steps_on, deeper}
use Rattle.hm_refs.proofs.nodes.grow_deeper.Goals as goal
use Rattle.hm_refs.proofs.nodes.grow_deeper.Goals.{then-depth-tail+in_ok-places, else-depth-tail}

pub step-requires-clause-inside : goal.step-requires-clause-inside
step-requires-clause-inside c =
    let l : c.loop-number.number < length (entries_of c.args.names.now) = omega (arith, length_entries c.args.names.now, c.loop-number-test.true) in
    let m : c.loop-number.number < length c.loop-number.places = omega (arith, c.loop-number.invariant.as_long) in
    let p = place_read c.loop-number.places _ _ _ m c.index.ensures c.index-places-number.is in
    let i = still_inside _ _ _ _ _ c.loop-number.invariant l c.loop-number.number (omega arith) l in
    omega (arith, p, i)

pub loop-number-preserved : goal.loop-number-preserved
loop-number-preserved c =
    let l : c.loop-number.number < length (entries_of c.args.names.now) = omega (arith, length_entries c.args.names.now, c.loop-number-test.true) in
    let m : c.loop-number.number < length c.loop-number.places = omega (arith, c.loop-number.invariant.as_long) in
    let t = c.after_first_byte-tail.ensures ∙ ap (drop 1) (name_read c.args.names.now c.loop-number.number _ _ c.loop-number-test.true (c.as_bytes.ensures.value ∙ c.as_str.ensures)) in
    elim c.if-depth-tail.branch [
      | then-depth-tail+in_ok-places w ↦ rw (w.nodes-is, w.places-is) (steps_on _ _ _ _ _ _ c.after_first_byte-tail.result.now _ _ _ c.loop-number.invariant l t w.if-depth-tail.true refl (place_read c.loop-number.places _ _ _ m w.index.ensures w.index-places-number.is) w.in_ok-places.ensures)
      | else-depth-tail w ↦ rw (w.nodes-is, w.places-is) (skips_on _ _ _ _ _ c.after_first_byte-tail.result.now c.loop-number.invariant l t w.if-depth-tail.false)
    ]

pub returns : goal.returns
returns c =
    let e : c.loop-number.number ≡ length (entries_of c.args.names.now) = omega (arith, length_entries c.args.names.now, c.loop-number-test.false, c.loop-number.auto.number-end) in
    deeper _ _ _ _ (subst (λ n. IsSpread (entries_of c.args.names.now) c.args.depth n c.loop-number.nodes.items c.loop-number.places) e c.loop-number.invariant)

pub loop-number-init : goal.loop-number-init
loop-number-init c = c.requires.spread

pub after_first_byte-tail-requires : goal.after_first_byte-tail-requires
after_first_byte-tail-requires c =
    let l : c.loop-number.number < length (entries_of c.args.names.now) = omega (arith, length_entries c.args.names.now, c.loop-number-test.true) in
    let is = name_read c.args.names.now c.loop-number.number _ _ c.loop-number-test.true (c.as_bytes.ensures.value ∙ c.as_str.ensures) in
    omega (arith, ap length is, (c.loop-number.invariant.names.short c.loop-number.number l).long)

pub overflow_cast-number : goal.overflow_cast-number
overflow_cast-number c = omega (arith, length_entries c.args.names.now, c.loop-number-test.true, c.loop-number.invariant.names.few)

pub bounds-places-number : goal.bounds-places-number
bounds-places-number c = omega (arith, length_entries c.args.names.now, c.loop-number-test.true, c.loop-number.invariant.as_long)

pub step-requires-clause-few : goal.step-requires-clause-few
step-requires-clause-few c = omega (arith, length_entries c.args.names.now, c.loop-number-test.true, c.loop-number.invariant.names.few, c.loop-number.invariant.few, c.requires.low)

pub step-requires-clause-within : goal.step-requires-clause-within
step-requires-clause-within c = λ n x h e. (c.loop-number.invariant.web.kin n x h e).within

pub bounds-places-number-then-depth-tail : goal.bounds-places-number-then-depth-tail
bounds-places-number-then-depth-tail c = omega (arith, length_entries c.args.names.now, c.loop-number-test.true, c.loop-number.invariant.as_long)
