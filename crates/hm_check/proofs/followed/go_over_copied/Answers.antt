use Rattle.std.proofs.Common.{refl}
use Rattle.hm_check.specs.declared.followed.Followed.{Followed}
use Rattle.hm_check.proofs.Following.{way_after}
use Rattle.hm_check.proofs.followed.go_over_copied.Goals as goal

pub returns-in-Some : goal.returns-in-Some
returns-in-Some c = λ t.
    let new : Followed = record { rest = c.in-Some.rest; place = c.args.way.now.place; spare = c.args.way.now.spare } in
    way_after t c.args.step.now c.args.bytes.now c.args.way.now new c.requires.copied c.requires.ascii c.in-Some.ensures refl
