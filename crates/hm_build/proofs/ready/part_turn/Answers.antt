use Rattle.std.proofs.Common.{◌+◌, ◌≤◌, sym, subst}
use Rattle.hm_tree.specs.Lexemes.{spanned_of}
use Rattle.hm_build.specs.Feeding.{StopsAs, left}
use Rattle.hm_build.specs.Parsing.{answer_of, place_of, span_of}
use Rattle.hm_build.proofs.PartClosings.{begins_inside, closes_on, part_closes}
use Rattle.hm_build.proofs.PartTurns.{fault_inside, lexer_stops, taken_here, token_fits, token_refused, token_taken, token_under}
use Rattle.hm_build.proofs.Turns.{same_text, text_here}
use Rattle.hm_build.proofs.ready.part_turn.Goals as goal

pub take-requires-clause-under : goal.take-requires-clause-under
take-requires-clause-under c =
    token_under c.args.lexer.now c.args.builder.now _ (spanned_of c.in-Ok-Some.placed c.part_into.new.tag) _ c.text.result.now c.requires.names
    (text_here c.args.lexer.now c.args.text.now c.text.result.now c.requires.source c.text.ensures.bytes c.text.ensures.len c.text.ensures.plain c.text.utf8 c.text.ensures.within c.text.ensures.short)
    c.requires.partway c.mode.ensures (taken_here c.args.lexer.now _ _ c.in-Ok-Some.placed c.part_into.new.tag _ c.in-Ok-Some.ensures.ok c.in-Ok-Some.field-0-is)
    (same_text c.args.lexer.now c.args.text.now c.text.result.now c.requires.source c.text.ensures.bytes)

pub take-requires-clause-room : goal.take-requires-clause-room
take-requires-clause-room c =
    token_fits c.args.lexer.now c.args.builder.now _ (spanned_of c.in-Ok-Some.placed c.part_into.new.tag) _ c.text.result.now c.requires.names
    (text_here c.args.lexer.now c.args.text.now c.text.result.now c.requires.source c.text.ensures.bytes c.text.ensures.len c.text.ensures.plain c.text.utf8 c.text.ensures.within c.text.ensures.short)
    c.requires.partway c.mode.ensures (taken_here c.args.lexer.now _ _ c.in-Ok-Some.placed c.part_into.new.tag _ c.in-Ok-Some.ensures.ok c.in-Ok-Some.field-0-is)
    (same_text c.args.lexer.now c.args.text.now c.text.result.now c.requires.source c.text.ensures.bytes)

pub refusal-requires : goal.refusal-requires
refusal-requires c =
    subst (λ n. c.in-Ok-Some.placed.from + span_of c.in-Err-take.fault ≤ n) c.text.ensures.len
    (fault_inside c.args.lexer.now c.args.builder.now _ (spanned_of c.in-Ok-Some.placed c.part_into.new.tag) _ c.text.result.now c.in-Err-take.fault c.requires.names c.requires.partway c.mode.ensures
    (taken_here c.args.lexer.now _ _ c.in-Ok-Some.placed c.part_into.new.tag _ c.in-Ok-Some.ensures.ok c.in-Ok-Some.field-0-is)
    (same_text c.args.lexer.now c.args.text.now c.text.result.now c.requires.source c.text.ensures.bytes) c.in-Err-take.ensures)

pub returns-in-Ok-clause-partway : goal.returns-in-Ok-clause-partway
returns-in-Ok-clause-partway c = λ e.
    let on = token_taken c.args.lexer.now c.args.builder.now _ (spanned_of c.in-Ok-Some.placed c.part_into.new.tag) _ c.text.result.now c.take.new.builder c.requires.names c.requires.partway c.mode.ensures
    (taken_here c.args.lexer.now _ _ c.in-Ok-Some.placed c.part_into.new.tag _ c.in-Ok-Some.ensures.ok c.in-Ok-Some.field-0-is)
    (same_text c.args.lexer.now c.args.text.now c.text.result.now c.requires.source c.text.ensures.bytes) c.in-Ok.ensures in
    (on.partway, on.ahead)

pub closed_by-requires : goal.closed_by-requires
closed_by-requires c =
    begins_inside c.args.lexer.now _ (spanned_of c.in-Ok-Some.placed c.part_into.new.tag) _ c.args.text.now c.requires.source (taken_here c.args.lexer.now _ _ c.in-Ok-Some.placed c.part_into.new.tag _ c.in-Ok-Some.ensures.ok c.in-Ok-Some.field-0-is)

pub returns-in-Ok-clause-closed : goal.returns-in-Ok-clause-closed
returns-in-Ok-clause-closed c = λ e knows.
    closes_on c.args.lexer.now c.args.builder.now c.in-Ok-Some.placed.from c.args.text.now c.part_into.new.self c.take.new.builder c.args.closed.now c.closed_by.result c.requires.source c.closed_by.ensures
    (λ o. part_closes c.args.lexer.now c.args.builder.now _ (spanned_of c.in-Ok-Some.placed c.part_into.new.tag) _ c.text.result.now c.take.new.builder c.requires.names c.requires.partway c.mode.ensures
    (taken_here c.args.lexer.now _ _ c.in-Ok-Some.placed c.part_into.new.tag _ c.in-Ok-Some.ensures.ok c.in-Ok-Some.field-0-is)
    (same_text c.args.lexer.now c.args.text.now c.text.result.now c.requires.source c.text.ensures.bytes) c.in-Ok.ensures o) knows

pub returns-in-Ok-clause-more : goal.returns-in-Ok-clause-more
returns-in-Ok-clause-more c = λ e.
    let on = token_taken c.args.lexer.now c.args.builder.now _ (spanned_of c.in-Ok-Some.placed c.part_into.new.tag) _ c.text.result.now c.take.new.builder c.requires.names c.requires.partway c.mode.ensures
    (taken_here c.args.lexer.now _ _ c.in-Ok-Some.placed c.part_into.new.tag _ c.in-Ok-Some.ensures.ok c.in-Ok-Some.field-0-is)
    (same_text c.args.lexer.now c.args.text.now c.text.result.now c.requires.source c.text.ensures.bytes) c.in-Ok.ensures in
    on.comes

pub returns-in-Err-take-clause-err : goal.returns-in-Err-take-clause-err
returns-in-Err-take-clause-err c =
    subst (StopsAs c.args.lexer.now.names c.args.builder.now (left c.args.lexer.now)) (sym c.refusal.ensures)
    (subst (λ p. StopsAs c.args.lexer.now.names c.args.builder.now (left c.args.lexer.now) (answer_of c.in-Err-take.fault (place_of p (c.in-Ok-Some.placed.from + span_of c.in-Err-take.fault)))) c.requires.source
    (token_refused c.args.lexer.now c.args.builder.now _ (spanned_of c.in-Ok-Some.placed c.part_into.new.tag) _ c.text.result.now c.in-Err-take.fault c.requires.names c.requires.partway c.mode.ensures
    (taken_here c.args.lexer.now _ _ c.in-Ok-Some.placed c.part_into.new.tag _ c.in-Ok-Some.ensures.ok c.in-Ok-Some.field-0-is)
    (same_text c.args.lexer.now c.args.text.now c.text.result.now c.requires.source c.text.ensures.bytes) c.in-Err-take.ensures))

pub returns-in-Err-clause-err : goal.returns-in-Err-clause-err
returns-in-Err-clause-err c = lexer_stops c.args.lexer.now c.args.builder.now _ c.in-Err.refused c.requires.names c.requires.partway c.mode.ensures c.in-Err.ensures.err
