use Rattle.std.proofs.Common.{◌≡◌, ◌+◌, ◌≤◌, refl, sym, subst}
use Rattle.hm_lexer.specs.Reading.{IsTaken, text_of}
use Rattle.hm_tree.specs.Lexemes.{spanned_of}
use Rattle.hm_tree.specs.declared.tokens.Spanned.{Spanned}
use Rattle.hm_build.specs.Parsing.{IsRefusedAs, IsTurned, left_tree, span_of}
use Rattle.hm_build.proofs.Closings.{token_closes, token_turned, stays_open}
use Rattle.hm_build.proofs.Turns.{token_under, lexer_refuses, text_ends, token_fits, token_taken, token_refused, fault_inside, same_text, text_here, answer_here, taken_here, ended_here, unchanged_here}
use Rattle.hm_build.proofs.page.turn.Goals as goal

pub take-requires-clause-room : goal.take-requires-clause-room
take-requires-clause-room c =
    token_fits c.args.lexer.now c.args.builder.now _ (spanned_of c.in-Ok-Some.placed c.next_into.new.tag) _ c.text.result.now c.requires.names
    (text_here c.args.lexer.now c.args.text.now c.text.result.now c.requires.source c.text.ensures.bytes c.text.ensures.len c.text.ensures.plain c.text.utf8 c.text.ensures.within c.text.ensures.short)
    c.requires.parsing c.mode.ensures (taken_here c.args.lexer.now _ _ c.in-Ok-Some.placed c.next_into.new.tag _ c.in-Ok-Some.ensures.ok c.in-Ok-Some.field-0-is)
    (same_text c.args.lexer.now c.args.text.now c.text.result.now c.requires.source c.text.ensures.bytes)

pub take-requires-clause-under : goal.take-requires-clause-under
take-requires-clause-under c =
    token_under c.args.lexer.now c.args.builder.now _ (spanned_of c.in-Ok-Some.placed c.next_into.new.tag) _ c.text.result.now c.requires.names c.requires.parsing c.mode.ensures (taken_here c.args.lexer.now _ _ c.in-Ok-Some.placed c.next_into.new.tag _ c.in-Ok-Some.ensures.ok c.in-Ok-Some.field-0-is)
    (same_text c.args.lexer.now c.args.text.now c.text.result.now c.requires.source c.text.ensures.bytes)

pub refusal-requires : goal.refusal-requires
refusal-requires c =
    subst (λ n. c.in-Ok-Some.placed.from + span_of c.in-Err-take.fault ≤ n) c.text.ensures.len
    (fault_inside c.args.lexer.now c.args.builder.now _ (spanned_of c.in-Ok-Some.placed c.next_into.new.tag) _ c.text.result.now c.in-Err-take.fault c.requires.names c.requires.parsing c.mode.ensures (taken_here c.args.lexer.now _ _ c.in-Ok-Some.placed c.next_into.new.tag _ c.in-Ok-Some.ensures.ok c.in-Ok-Some.field-0-is)
    (same_text c.args.lexer.now c.args.text.now c.text.result.now c.requires.source c.text.ensures.bytes) c.in-Err-take.ensures)

pub returns-in-Ok-None-clause-ok : goal.returns-in-Ok-None-clause-ok
returns-in-Ok-None-clause-ok c = (
  text_ends c.args.lexer.now c.args.builder.now _ c.requires.parsing c.mode.ensures (ended_here c.args.lexer.now _ _ c.next_into.new.tag _ c.in-Ok-None.ensures.ok c.in-Ok-None.field-0-is),
  unchanged_here c.args.lexer.now _ _ c.next_into.new.tag _ c.in-Ok-None.ensures.ok c.in-Ok-None.field-0-is,
  refl,
  stays_open c.args.lexer.now c.args.builder.now _ c.mode.ensures (ended_here c.args.lexer.now _ _ c.next_into.new.tag _ c.in-Ok-None.ensures.ok c.in-Ok-None.field-0-is),
)

pub returns-in-Ok-clause-ok : goal.returns-in-Ok-clause-ok
returns-in-Ok-clause-ok c =
    let token : Spanned = spanned_of c.in-Ok-Some.placed c.next_into.new.tag in
    let taken : IsTaken c.args.lexer.now _ token c.next_into.new.self = taken_here c.args.lexer.now _ _ c.in-Ok-Some.placed c.next_into.new.tag _ c.in-Ok-Some.ensures.ok c.in-Ok-Some.field-0-is in
    let text : text_of c.args.lexer.now ≡ c.text.result.now = same_text c.args.lexer.now c.args.text.now c.text.result.now c.requires.source c.text.ensures.bytes in
    subst (λ turn. IsTurned turn c.args.lexer.now c.args.builder.now c.next_into.new.self c.take.new.builder) (sym c.taken_of.ensures)
    (token_turned c.args.lexer.now c.args.builder.now c.in-Ok-Some.placed.lexeme c.next_into.new.tag token c.next_into.new.self c.text.result.now c.take.new.builder refl c.in-Ok.ensures
    (token_taken c.args.lexer.now c.args.builder.now _ token _ c.text.result.now c.take.new.builder c.requires.names c.requires.parsing c.mode.ensures taken text c.in-Ok.ensures)
    (token_closes c.args.lexer.now c.args.builder.now _ token _ c.text.result.now c.take.new.builder c.requires.parsing c.mode.ensures taken text c.in-Ok.ensures))

pub returns-in-Err-take-clause-err : goal.returns-in-Err-take-clause-err
returns-in-Err-take-clause-err c =
    subst (λ a. IsRefusedAs (left_tree c.args.lexer.now c.args.builder.now) a) (sym c.refusal.ensures)
    (answer_here c.args.lexer.now _ c.args.text.now c.in-Err-take.fault _ c.requires.source
    (token_refused c.args.lexer.now c.args.builder.now _ (spanned_of c.in-Ok-Some.placed c.next_into.new.tag) _ c.text.result.now c.in-Err-take.fault c.requires.parsing c.mode.ensures (taken_here c.args.lexer.now _ _ c.in-Ok-Some.placed c.next_into.new.tag _ c.in-Ok-Some.ensures.ok c.in-Ok-Some.field-0-is)
    (same_text c.args.lexer.now c.args.text.now c.text.result.now c.requires.source c.text.ensures.bytes) c.in-Err-take.ensures))

pub returns-in-Err-clause-err : goal.returns-in-Err-clause-err
returns-in-Err-clause-err c = lexer_refuses c.args.lexer.now c.args.builder.now _ c.in-Err.refused c.requires.parsing c.mode.ensures c.in-Err.ensures.err
