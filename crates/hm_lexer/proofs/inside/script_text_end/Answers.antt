use Rattle.std.proofs.Common.{drop}
use Rattle.hm_lexer.proofs.TextEnds.{script_ends, script_open}
use Rattle.hm_lexer.proofs.inside.script_text_end.Goals as goal

pub returns-in-Ok : goal.returns-in-Ok
returns-in-Ok c = script_ends c.args.text.now c.args.at c.in-Ok.to c.in-Ok._token c.in-Ok.ensures.forward c.in-Ok.ensures.ok

pub returns-in-Err : goal.returns-in-Err
returns-in-Err c = script_open (drop c.args.at c.args.text.now) c.in-Err._fault c.in-Err.ensures.err
