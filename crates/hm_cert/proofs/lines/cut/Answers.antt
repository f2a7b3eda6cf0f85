use Rattle.std.proofs.Common.{◌+◌}
use Rattle.std.proofs.lemmas.List.{take_rest}
use Rattle.hm_cert.proofs.Pieces.{pieces_cut, pieces_whole}
use Rattle.hm_cert.proofs.lines.cut.Goals as goal

pub returns-in-Some-clause-pieces : goal.returns-in-Some-clause-pieces
returns-in-Some-clause-pieces c = rw (take_rest c.args.text.now (c.in-Some.at + 1)) (pieces_cut c.args.mark c.args.text.now c.in-Some.at c.in-Some.ensures)

pub returns-in-None-clause-pieces : goal.returns-in-None-clause-pieces
returns-in-None-clause-pieces c = pieces_whole c.args.mark c.args.text.now c.in-None.ensures
