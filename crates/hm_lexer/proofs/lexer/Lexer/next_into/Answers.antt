use Rattle.std.proofs.Common.{◌≡◌, ◌<◌, ◌≤◌, length, refl, sym, ap, subst, ◌∙◌, arith}
use Rattle.hm_tree.specs.Lexemes.{token_of}
use Rattle.hm_lexer.specs.Modes.{mode_of}
use Rattle.hm_base.specs.Source.{place_in}
use Rattle.hm_lexer.specs.Reading.{Reading, Refuses, IsTaken, text_of}
use Rattle.hm_lexer.specs.Steps.{IsAfterNothing, refusal_of}
use Rattle.hm_lexer.proofs.Nexts.{next_ends, next_taken, next_refused}
use Rattle.hm_lexer.proofs.lexer.Lexer.next_into.Goals as goal

pub returns-then-from-text-clause-ok : goal.returns-then-from-text-clause-ok
returns-then-from-text-clause-ok c =
    let b : IsAfterNothing (mode_of c.args.mode) (text_of c.args.self.now) c.args.self.now.at c.token_start-from.result =
    subst (λ (r : Reading). IsAfterNothing (mode_of c.args.mode) (text_of r) r.at c.token_start-from.result) c.self.view_is (rw c.text-text.ensures.bytes at c.token_start-from.ensures) in
    let text : length c.text-text.result.now ≡ length (text_of c.args.self.now) = ap length (c.text-text.ensures.bytes ∙ ap text_of c.self.view_is) in
    (next_ends c.args.self.now (mode_of c.args.mode) c.token_start-from.result b (omega (arith, c.if-from-text.true)), refl)

pub returns-in-Ok-clause-ok : goal.returns-in-Ok-clause-ok
returns-in-Ok-clause-ok c =
    let b : IsAfterNothing (mode_of c.args.mode) (text_of c.args.self.now) c.args.self.now.at c.token_start-from.result =
    subst (λ (r : Reading). IsAfterNothing (mode_of c.args.mode) (text_of r) r.at c.token_start-from.result) c.self.view_is (rw c.text-text.ensures.bytes at c.token_start-from.ensures) in
    let text : length c.text-text.result.now ≡ length (text_of c.args.self.now) = ap length (c.text-text.ensures.bytes ∙ ap text_of c.self.view_is) in
    let high : c.token_start-from.result ≤ length (text_of c.args.self.now) = b.boundary.0 in
    let low : c.token_start-from.result < length (text_of c.args.self.now) = omega (arith, c.if-from-text.false) in
    let moved : record c.args.self.now { at = c.in-Ok.to } ≡ c.advance.new.self = sym (c.advance.ensures ∙ ap (λ (r : Reading). record r { at = c.in-Ok.to }) c.in-Ok.ensures.same) in
    subst (λ (r : Reading). IsTaken c.args.self.now (mode_of c.args.mode) (record { token = token_of c.in-Ok.lexeme c.scan.new.tag; from = c.token_start-from.result; to = c.in-Ok.to }) r) moved
    (next_taken c.args.self.now (mode_of c.args.mode) (token_of c.in-Ok.lexeme c.scan.new.tag) c.token_start-from.result c.in-Ok.to b low c.in-Ok.ensures.forward c.in-Ok.ensures.ok c.in-Ok.ensures.placed)

pub returns-in-Err-clause-err : goal.returns-in-Err-clause-err
returns-in-Err-clause-err c =
    let b : IsAfterNothing (mode_of c.args.mode) (text_of c.args.self.now) c.args.self.now.at c.token_start-from.result =
    subst (λ (r : Reading). IsAfterNothing (mode_of c.args.mode) (text_of r) r.at c.token_start-from.result) c.self.view_is (rw c.text-text.ensures.bytes at c.token_start-from.ensures) in
    let text : length c.text-text.result.now ≡ length (text_of c.args.self.now) = ap length (c.text-text.ensures.bytes ∙ ap text_of c.self.view_is) in
    let high : c.token_start-from.result ≤ length (text_of c.args.self.now) = b.boundary.0 in
    let low : c.token_start-from.result < length (text_of c.args.self.now) = omega (arith, c.if-from-text.false) in
    let same : c.refusal.result ≡ refusal_of c.in-Err.fault (place_in c.args.self.now.source.placed c.args.self.now.source.end c.token_start-from.result) =
    c.refusal.ensures ∙ ap (λ (r : Reading). refusal_of c.in-Err.fault (place_in r.source.placed r.source.end c.token_start-from.result)) (c.self-in-Err.view_is ∙ c.in-Err.ensures.same) in
    subst (λ r. Refuses c.args.self.now (mode_of c.args.mode) r) (sym same) (next_refused c.args.self.now (mode_of c.args.mode) c.in-Err.fault c.token_start-from.result b low c.in-Err.ensures.err)
