use Rattle.std.proofs.Common.{◌≡◌, ◌<◌, true, false, drop, sym, subst, refl}
use Rattle.std.specs.Str.{IsCharBoundary}
use Rattle.hm_tree.specs.Lexemes.{token_of}
use Rattle.hm_tree.specs.Tokens.{Reads}
use Rattle.hm_tree.specs.declared.tokens.Tag.{Tag}
use Rattle.hm_lexer.specs.Ready.{text_part}
use Rattle.hm_lexer.specs.Modes.{mode_of}
use Rattle.hm_lexer.specs.Parts.{IsPart, is_told_here, left_of}
use Rattle.hm_lexer.specs.Reading.{Reading, text_of}
use Rattle.hm_lexer.proofs.PartSteps.{part_taken, untold}
use Rattle.hm_lexer.proofs.lexer.Lexer.part_of_text.Goals as goal

pub returns-in-Some : goal.returns-in-Some
returns-in-Some c = λ tag.
    let old = c.args.self.now in
    let mode = mode_of c.args.mode in
    let read : (is_told_here (drop c.args.from (text_of c.args.self.now)) ≡ true) × (c.args.from < c.in-Some.to) × IsCharBoundary (text_of c.args.self.now) c.in-Some.to × ((tag : Tag) → Reads (text_part c.args.self.now.names (drop c.args.from (text_of c.args.self.now))) (text_of c.args.self.now) (token_of c.in-Some.lexeme tag) c.in-Some.to) =
    subst (λ (r : Reading). (is_told_here (drop c.args.from (text_of r)) ≡ true) × (c.args.from < c.in-Some.to) × IsCharBoundary (text_of r) c.in-Some.to × ((tag : Tag) → Reads (text_part r.names (drop c.args.from (text_of r))) (text_of r) (token_of c.in-Some.lexeme tag) c.in-Some.to)) c.self.view_is (rw c.text.ensures.bytes at c.in-Some.ensures) in
    subst (λ (r : Reading). IsPart c.args.self.now (mode_of c.args.mode) (record { token = token_of c.in-Some.lexeme tag; from = c.args.from; to = c.in-Some.to }) r) (sym c.advance.ensures)
    (part_taken old mode (token_of c.in-Some.lexeme tag) c.args.from c.in-Some.to c.requires.markup c.requires.start read.0 c.requires.begins read.1 (read.3 tag))

pub advance-requires-clause-boundary : goal.advance-requires-clause-boundary
advance-requires-clause-boundary c =
    let read = rw c.text.ensures.bytes at c.in-Some.ensures in
    subst (λ (r : Reading). IsCharBoundary (text_of r) c.in-Some.to) c.self.view_is read.2

pub returns-in-None : goal.returns-in-None
returns-in-None c = λ _.
    let untold_here : is_told_here (drop c.args.from (text_of c.args.self.now)) ≡ false =
    subst (λ (r : Reading). is_told_here (drop c.args.from (text_of r)) ≡ false) c.self.view_is (rw c.text.ensures.bytes at c.in-None.ensures) in
    (untold c.args.self.now.names (mode_of c.args.mode) (left_of c.args.self.now) (drop c.args.from (text_of c.args.self.now)) _ c.requires.markup c.requires.start.is untold_here, refl)
