use Rattle.std.proofs.Common.{◌≡◌, ◌-◌, length}
use Rattle.hm_lexer.specs.Reading.{text_of}
use Rattle.hm_build.specs.Feeding.{Comes, IsPartway, left}
use Rattle.hm_build.specs.Parsing.{ClosesOn, KnowsClosed}
use Rattle.hm_build.proofs.ready.part_turns.Given as goal

abbrev pub invariant-loop-refused : goal.invariant-loop-refused
invariant-loop-refused l = record {
  names : l.lexer.names ≡ l.initial.lexer.names;
  source : l.lexer.source ≡ l.initial.lexer.source;
  partway : IsPartway l.lexer l.builder;
  closes : KnowsClosed l.initial.closed l.initial.builder → ClosesOn l.initial.closed l.initial.lexer l.initial.builder l.closed l.lexer l.builder;
  comes : Comes l.initial.lexer.names l.initial.builder (left l.initial.lexer) l.builder (left l.lexer);
}

abbrev pub decreases-loop-refused : goal.decreases-loop-refused
decreases-loop-refused l = length (text_of l.lexer) - l.lexer.at
