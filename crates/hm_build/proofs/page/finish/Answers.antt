use Rattle.std.proofs.Common.{◌+◌, ◌≤◌, length, subst}
use Rattle.hm_build.specs.Parsing.{span_of}
use Rattle.hm_build.proofs.Turns.{text_here}
use Rattle.hm_build.proofs.PageEnds.{end_fits, end_built, end_inside}
use Rattle.hm_build.proofs.page.finish.Goals as goal

pub finish-requires : goal.finish-requires
finish-requires c =
    end_fits c.args.lexer.now c.args.builder (text_here c.args.lexer.now c.args.text.now c.text.result.now c.requires.source c.text.ensures.bytes c.text.ensures.len c.text.ensures.plain c.text.utf8 c.text.ensures.within c.text.ensures.short) c.requires.read

pub refusal-requires : goal.refusal-requires
refusal-requires c = subst (λ n. length c.text.result.now + span_of c.in-Err.fault ≤ n) c.text.ensures.len (end_inside c.args.builder c.in-Err.fault (length c.text.result.now) c.in-Err.ensures)

pub returns-in-Ok-clause-built : goal.returns-in-Ok-clause-built
returns-in-Ok-clause-built c = end_built c.args.lexer.now c.args.builder c.in-Ok.tree c.requires.read c.in-Ok.ensures
