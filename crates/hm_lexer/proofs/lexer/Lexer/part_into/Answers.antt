use Rattle.std.proofs.Common.{◌≡◌, ◌<◌, ◌≤◌, [], true, drop, length, sym, ap, subst, ◌∙◌, refl, arith, length-drop}
use Rattle.std.proofs.lemmas.List.{drop_all}
use Rattle.hm_scan.specs.Reading.{begins_tag}
use Rattle.hm_scan.specs.Texts.{begins_markup}
use Rattle.hm_lexer.specs.Reading.{Reading, text_of}
use Rattle.hm_lexer.specs.Modes.{mode_of}
use Rattle.hm_lexer.specs.Parts.{IsWhole, left_of}
use Rattle.hm_lexer.specs.Steps.{IsAfterNothing}
use Rattle.hm_lexer.proofs.PartSteps.{none_ready, whole_markup, whole_text}
use Rattle.hm_lexer.proofs.TagsFirst.{whole_tag}
use Rattle.hm_lexer.proofs.lexer.Lexer.part_into.Goals as goal

pub whole_part-requires : goal.whole_part-requires
whole_part-requires c = whole_text c.args.self.now.names (mode_of c.args.mode) (left_of c.args.self.now) (sym c.if-not-has_markup.ensures)

pub returns-then-begin-text-clause-ok : goal.returns-then-begin-text-clause-ok
returns-then-begin-text-clause-ok c =
    let b : IsAfterNothing (mode_of c.args.mode) (text_of c.args.self.now) c.args.self.now.at c.token_start-begin.result =
    subst (λ (r : Reading). IsAfterNothing (mode_of c.args.mode) (text_of r) r.at c.token_start-begin.result) c.self.view_is (rw c.text-text.ensures.bytes at c.token_start-begin.ensures) in
    let text : length c.text-text.result.now ≡ length (text_of c.args.self.now) = ap length (c.text-text.ensures.bytes ∙ ap text_of c.self.view_is) in
    let none : drop c.token_start-begin.result (text_of c.args.self.now) ≡ [] = drop_all c.token_start-begin.result (text_of c.args.self.now) (omega (arith, c.if-begin-text.true)) in
    (none_ready c.args.self.now.names (mode_of c.args.mode) (left_of c.args.self.now) (drop c.token_start-begin.result (text_of c.args.self.now)) _ (sym c.if-not-has_markup.ensures) b.is none, refl)

pub whole_part-requires-then-begins_markup : goal.whole_part-requires-then-begins_markup
whole_part-requires-then-begins_markup c =
    let b : IsAfterNothing (mode_of c.args.mode) (text_of c.args.self.now) c.args.self.now.at c.token_start-begin.result =
    subst (λ (r : Reading). IsAfterNothing (mode_of c.args.mode) (text_of r) r.at c.token_start-begin.result) c.self.view_is (rw c.text-text.ensures.bytes at c.token_start-begin.ensures) in
    let text : length c.text-text.result.now ≡ length (text_of c.args.self.now) = ap length (c.text-text.ensures.bytes ∙ ap text_of c.self.view_is) in
    let begins : begins_markup (drop c.token_start-begin.result (text_of c.args.self.now)) ≡ true =
    subst (λ (r : Reading). begins_markup (drop c.token_start-begin.result (text_of r)) ≡ true) c.self.view_is (rw c.text-text.ensures.bytes at (sym c.if-begins_markup.ensures)) in
    let high : c.token_start-begin.result ≤ length (text_of c.args.self.now) = b.boundary.0 in
    let some : 0 < length (drop c.token_start-begin.result (text_of c.args.self.now)) = omega (arith, c.if-begin-text.false, length-drop c.token_start-begin.result (text_of c.args.self.now)) in
    whole_markup c.args.self.now.names (mode_of c.args.mode) (left_of c.args.self.now) (drop c.token_start-begin.result (text_of c.args.self.now)) _ (sym c.if-not-has_markup.ensures) b.is some begins

pub tag_part-requires-clause-whole : goal.tag_part-requires-clause-whole
tag_part-requires-clause-whole c =
    let old : Reading = record { names = c.self.inside.table.now.entries; source = c.self.inside.source.now; at = c.self.inside.at } in
    let begins : begins_tag (drop old.at (text_of old)) ≡ true = rw c.text-text.ensures.bytes at (sym c.begins_tag.ensures ∙ c.if-begins_tag.true) in
    subst (λ (r : Reading). IsWhole r.names (mode_of c.args.mode) (left_of r)) c.self.view_is (whole_tag old.names (mode_of c.args.mode) (text_of old) old.at (sym c.if-not-has_markup.ensures) c.self.invariant.boundary begins)
