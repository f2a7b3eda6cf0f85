use Rattle.std.proofs.Common.{◌≡◌, ◌+◌, ◌-◌, ◌*◌, ◌++◌, ap, subst, ◌∙◌, arith, replicate}
use Rattle.std.proofs.lemmas.List.{replicate-append-replicate, take-replicate}
use Rattle.hm_dump.specs.Given.{Gives}
use Rattle.hm_dump.proofs.GivenLemmas.{Gives-then}
use Rattle.hm_dump.proofs.lines.give_spaces.Goals as goal

pub loop-left-preserved : goal.loop-left-preserved
loop-left-preserved g c =
    let all = 2 * c.args.depth in
    let before = all - c.loop-left.left in
    let count : before + 64 ≡ all - (c.loop-left.left - 64) = omega (arith, c.loop-left.invariant.0, c.loop-left-test.true) in
    (omega (arith, c.loop-left.invariant.0), subst (Gives _ _ _ _ _ _) (replicate-append-replicate before 64 32 ∙ ap (λ n. replicate n 32) count) (Gives-then c.loop-left.invariant.1 c.give.ensures))

pub returns : goal.returns
returns g c =
    let all = 2 * c.args.depth in
    let left = c.loop-left.left in
    let count : all - left + left ≡ all = omega (arith, c.loop-left.invariant.0) in
    let rest = take-replicate left 64 32 (omega (arith, c.loop-left-test.false)) in
    subst (Gives _ _ _ _ _ _) (ap (λ l. replicate (all - left) 32 ++ l) rest ∙ replicate-append-replicate (all - left) left 32 ∙ ap (λ n. replicate n 32) count) (Gives-then c.loop-left.invariant.1 c.give-2.ensures)
