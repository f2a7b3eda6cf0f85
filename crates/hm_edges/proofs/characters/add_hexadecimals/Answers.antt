use Rattle.hm_edges.proofs.Adding.{adds_if, adds_then, adds_stopped, adds_as}
use Rattle.hm_edges.proofs.HexadecimalEdges.{two_are}
use Rattle.hm_edges.specs.States.{where_of}
use Rattle.hm_edges.proofs.characters.add_hexadecimals.Goals as goal

pub returns-in_err-add_if : goal.returns-in_err-add_if
returns-in_err-add_if c = λ v u. adds_as _ _ _ _ _ _ _ (two_are (where_of c.args.at) c.args.c _ c.is_shorter_in_hexadecimal-shorter.ensures)
    (adds_stopped _ _ _ _ _ _ _ _ _ c.in_err-add_if.was c.from_residual.ensures.0 (adds_if _ _ _ _ _ _ _ c.add_if.ensures (λ _. record { name = tt; nodes = tt })))

pub returns : goal.returns
returns c = λ v u. adds_as _ _ _ _ _ _ _ (two_are (where_of c.args.at) c.args.c _ c.is_shorter_in_hexadecimal-shorter.ensures)
    (adds_then _ _ _ _ _ _ _ _ _ _ c.in_ok-add_if.was (adds_if _ _ _ _ _ _ _ c.add_if.ensures (λ _. record { name = tt; nodes = tt })) (adds_if _ _ _ _ _ _ _ c.add_if-2.ensures (λ _. record { name = tt; nodes = tt })))
