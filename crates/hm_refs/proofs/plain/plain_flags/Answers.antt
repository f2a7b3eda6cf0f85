use Rattle.std.proofs.Common.{◌∙◌, inl, inr, sym}
use Rattle.hm_refs.proofs.FlagLaws.{flag_stays, flag_falls}
use Rattle.hm_refs.proofs.plain.plain_flags.Goals as goal
use Rattle.hm_refs.proofs.plain.plain_flags.Goals.{then-first-lt128+then-not-is_long, else-first-lt128, else-first-lt128-via-then-first-lt128+else-not-is_long, else-first-lt128-via-else-first-lt128}

pub loop-name-preserved : goal.loop-name-preserved
loop-name-preserved c = elim c.if-first-lt128.branch [
  | then-first-lt128+then-not-is_long w ↦ rw w.flags-is (flag_falls _ _ c.name-item.result c.loop-name.flags c.loop-name-test.true c.name-item.is (sym w.is_long.ensures ∙ w.if-not-is_long.true) w.if-first-lt128.true c.loop-name.invariant)
  | else-first-lt128 w ↦ rw w.flags-is (elim w.else-first-lt128.branch [
    | else-first-lt128-via-then-first-lt128+else-not-is_long v ↦ flag_stays _ _ c.name-item.result c.loop-name.flags c.loop-name-test.true c.name-item.is (inl (sym v.is_long.ensures ∙ v.if-not-is_long.false)) c.loop-name.invariant
    | else-first-lt128-via-else-first-lt128 v ↦ flag_stays _ _ c.name-item.result c.loop-name.flags c.loop-name-test.true c.name-item.is (inr v.if-first-lt128.false) c.loop-name.invariant
  ])
]
