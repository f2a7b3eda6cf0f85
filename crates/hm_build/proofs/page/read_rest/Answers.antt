use Rattle.std.proofs.Common.{sym, subst, ◌∙◌}
use Rattle.hm_refs.specs.Tables.{IsTable}
use Rattle.hm_build.proofs.PageEnds.{sound_names}
use Rattle.hm_build.proofs.PartClosings.{closed_in_rest}
use Rattle.hm_build.proofs.PartRests.{comes_to, parses_on, stops_at}
use Rattle.hm_build.proofs.Whole.{refused_same}
use Rattle.hm_build.proofs.page.read_rest.Goals as goal

pub returns-in-Err-clause-err : goal.returns-in-Err-clause-err
returns-in-Err-clause-err c = stops_at c.args.lexer.now c.args.builder.now c.in-Err.refused c.in-Err.ensures.err

pub turns-requires-clause-names : goal.turns-requires-clause-names
turns-requires-clause-names c = sound_names c.part_turns.new.lexer.names (subst IsTable (sym c.in-Ok.ensures.names) c.requires.names)

pub turns-requires-clause-source : goal.turns-requires-clause-source
turns-requires-clause-source c = c.in-Ok.ensures.same ∙ c.requires.source

pub turns-requires-clause-parsing : goal.turns-requires-clause-parsing
turns-requires-clause-parsing c =
    parses_on c.part_turns.new.lexer c.part_turns.new.builder c.args.text.now c.text-bytes.result.now (c.in-Ok.ensures.same ∙ c.requires.source) c.text-bytes.ensures.bytes c.text-bytes.ensures.plain c.text-bytes.utf8 c.in-Ok.ensures.partway

pub returns-in-Ok-turns-clause-tree : goal.returns-in-Ok-turns-clause-tree
returns-in-Ok-turns-clause-tree c =
    comes_to c.args.lexer.now c.part_turns.new.lexer c.args.builder.now c.part_turns.new.builder c.in-Ok.ensures.same c.in-Ok.ensures.names c.in-Ok.ensures.more ∙ c.in-Ok-turns.ensures.tree

pub returns-in-Ok-turns-clause-closed : goal.returns-in-Ok-turns-clause-closed
returns-in-Ok-turns-clause-closed c = λ open_still.
    closed_in_rest c.part_turns.new.closed c.in-Ok-turns.later c.args.lexer.now c.part_turns.new.lexer c.args.builder.now c.part_turns.new.builder (c.in-Ok.ensures.closed (λ none. open_still)) c.in-Ok-turns.ensures.closed ∙ sym c.first_closed.ensures

pub returns-in-Err-turns-clause-err : goal.returns-in-Err-turns-clause-err
returns-in-Err-turns-clause-err c =
    refused_same _ _ c.in-Err-turns.refused
    (comes_to c.args.lexer.now c.part_turns.new.lexer c.args.builder.now c.part_turns.new.builder c.in-Ok.ensures.same c.in-Ok.ensures.names c.in-Ok.ensures.more) c.in-Err-turns.ensures.err
