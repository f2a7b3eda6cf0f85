use Rattle.std.proofs.lemmas.Str.{IsCharBoundary-start}
use Rattle.hm_lexer.proofs.lexer.Lexer.new.Goals as goal

pub invariant_of-result : goal.invariant_of-result
invariant_of-result c = record { boundary = rw (← c.text-text.ensures.bytes) (IsCharBoundary-start c.text-text.result.now c.text-text.utf8); end = tt }
