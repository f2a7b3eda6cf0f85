use Rattle.hm_edges.proofs.Adding.{adds_one, adds_then, adds_stopped}
use Rattle.hm_edges.proofs.characters.add_decimals.Goals as goal

pub returns-in_err-add-in-Some : goal.returns-in_err-add-in-Some
returns-in_err-add-in-Some c = λ v u. rw (← c.best_number.ensures, c.in-Some.is) (adds_stopped _ _ _ _ _ _ _ _ _ c.in_err-add-in-Some.was c.from_residual.ensures.0 (adds_one _ _ _ _ _ _ c.add.ensures (record { name = tt; nodes = tt })))

pub returns-in_ok-add-in-Some : goal.returns-in_ok-add-in-Some
returns-in_ok-add-in-Some c = λ v u. rw (← c.best_number.ensures, c.in-Some.is)
    (adds_then _ _ _ _ _ _ _ _ _ _ c.in_ok-add-in-Some.was (adds_one _ _ _ _ _ _ c.add.ensures (record { name = tt; nodes = tt })) (adds_one _ _ _ _ _ _ c.add-in-Some.ensures (record { name = tt; nodes = tt })))
