use Rattle.std.proofs.Common.{drop}
use Rattle.hm_lexer.proofs.TextEnds.{raw_ends, raw_open}
use Rattle.hm_lexer.proofs.inside.raw_text_end.Goals as goal

pub returns-in-Ok : goal.returns-in-Ok
returns-in-Ok c = raw_ends c.args.name.now c.args.text.now c.args.at c.in-Ok.to c.in-Ok._token c.requires.name c.in-Ok.ensures.forward c.in-Ok.ensures.ok

pub returns-in-Err : goal.returns-in-Err
returns-in-Err c = raw_open c.args.name.now (drop c.args.at c.args.text.now) c.in-Err._fault c.in-Err.ensures.err
