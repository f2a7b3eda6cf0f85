use Rattle.std.proofs.Common.{Ok, ap, subst, ◌∙◌}
use Rattle.hm_build.specs.Feeding.{Comes, StopsAs, left}
use Rattle.hm_build.proofs.Coming.{comes_on, stops_on}
use Rattle.hm_build.proofs.PartClosings.{closes_further}
use Rattle.hm_build.proofs.ready.part_turns.Goals as goal

pub loop-refused-preserved : goal.loop-refused-preserved
loop-refused-preserved c =
    let i = c.loop-refused.invariant in
    let partway = c.in-Ok-true.ensures.partway (ap Ok c.in-Ok-true.field-0-test) in
    record {
      names = partway.1.names ∙ i.names;
      source = partway.1.source ∙ i.source;
      partway = partway.0;
      closes = λ knows.
          let before = i.closes knows in
          closes_further c.args.closed.now c.loop-refused.closed c.part_turn.new.closed c.args.lexer.now c.loop-refused.lexer c.part_turn.new.lexer c.args.builder.now c.loop-refused.builder c.part_turn.new.builder before
          (c.in-Ok-true.ensures.closed (ap Ok c.in-Ok-true.field-0-test) before.open_still);
      comes = comes_on c.args.lexer.now.names c.args.builder.now c.loop-refused.builder c.part_turn.new.builder (left c.args.lexer.now) (left c.loop-refused.lexer) (left c.part_turn.new.lexer) i.comes
          (subst (λ t. Comes t c.loop-refused.builder (left c.loop-refused.lexer) c.part_turn.new.builder (left c.part_turn.new.lexer)) i.names (c.in-Ok-true.ensures.more (ap Ok c.in-Ok-true.field-0-test)));
    }

pub returns-in-Err-clause-err : goal.returns-in-Err-clause-err
returns-in-Err-clause-err c =
    let i = c.loop-refused.invariant in
    stops_on c.args.lexer.now.names c.args.builder.now c.loop-refused.builder (left c.args.lexer.now) (left c.loop-refused.lexer) c.in-Err.refused i.comes
    (subst (λ t. StopsAs t c.loop-refused.builder (left c.loop-refused.lexer) c.in-Err.refused) i.names c.in-Err.ensures.err)
