use Rattle.std.proofs.Common.{◌≡◌, ◌-◌, false, None, length}
use Rattle.hm_lexer.specs.Reading.{text_of}
use Rattle.hm_construction_laws.specs.Closing.{is_after_body}
use Rattle.hm_build.specs.Parsing.{IsParsing, closed_left, first_of, left_tree}
use Rattle.hm_build.proofs.page.turns.Given as goal

abbrev pub invariant-loop-from : goal.invariant-loop-from
invariant-loop-from l = record {
  names : l.lexer.names ≡ l.initial.lexer.names;
  source : l.lexer.source ≡ l.initial.lexer.source;
  parsing : IsParsing l.lexer l.builder;
  tree : left_tree l.initial.lexer l.initial.builder ≡ left_tree l.lexer l.builder;
  closed : is_after_body l.initial.builder.state.insertion_mode ≡ false → (closed_left l.initial.lexer l.initial.builder ≡ first_of l.closed (closed_left l.lexer l.builder)) × (l.closed ≡ None → is_after_body l.builder.state.insertion_mode ≡ false);
}

abbrev pub decreases-loop-from : goal.decreases-loop-from
decreases-loop-from l = length (text_of l.lexer) - l.lexer.at
