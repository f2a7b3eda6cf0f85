use Rattle.hm_lexer.proofs.TextEnds.{still_kept}
use Rattle.hm_lexer.proofs.lexer.kept_end.Goals as goal

pub returns-in-Some : goal.returns-in-Some
returns-in-Some c = λ s at low starts lexer. still_kept s at c.args.to c.in-Some.kept low c.if-to-kept.true starts (rw c.in-Some.is at lexer)
