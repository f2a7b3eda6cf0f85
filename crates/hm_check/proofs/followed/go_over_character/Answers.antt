use Rattle.std.proofs.Common.{refl}
use Rattle.hm_check.specs.declared.followed.Followed.{Followed}
use Rattle.hm_check.proofs.Following.{way_character}
use Rattle.hm_check.proofs.followed.go_over_character.Goals as goal

pub returns-in-Some : goal.returns-in-Some
returns-in-Some c = λ t.
    let new : Followed = record { rest = c.in-Some.rest; place = c.args.way.now.place; spare = c.args.way.now.spare } in
    way_character t c.args.step.now c.args.c c.args.way.now new c.requires c.in-Some.ensures refl
