use Rattle.std.proofs.Common.{◌≡◌, true, drop, sym, subst}
use Rattle.hm_scan.specs.Reading.{begins_tag}
use Rattle.hm_tree.specs.Lexemes.{token_of}
use Rattle.hm_lexer.specs.Modes.{mode_of}
use Rattle.hm_lexer.specs.Reading.{Reading, Refuses, IsTaken, text_of}
use Rattle.hm_lexer.proofs.TagsFirst.{tag_refused, tag_taken}
use Rattle.hm_lexer.proofs.lexer.Lexer.next_tag.Goals as goal

pub returns-in-Ok-clause-ok : goal.returns-in-Ok-clause-ok
returns-in-Ok-clause-ok c =
    let old : Reading = record { names = c.self.inside.table.now.entries; source = c.self.inside.source.now; at = c.self.inside.at } in
    let begins : begins_tag (drop old.at (text_of old)) ≡ true = subst (λ (r : Reading). begins_tag (drop r.at (text_of r)) ≡ true) (sym c.self.view_is) c.requires.begins in
    subst (λ (r : Reading). IsTaken c.args.self.now (mode_of c.args.mode) (record { token = token_of c.in-Ok.lexeme c.scan_tag_into.new.tag; from = c.self.inside.at; to = c.in-Ok.to }) r) (sym c.advance.ensures)
    (subst (λ (r : Reading). IsTaken r (mode_of c.args.mode) (record { token = token_of c.in-Ok.lexeme c.scan_tag_into.new.tag; from = c.self.inside.at; to = c.in-Ok.to }) (record r { at = c.in-Ok.to })) c.self.view_is
    (tag_taken old (mode_of c.args.mode) (token_of c.in-Ok.lexeme c.scan_tag_into.new.tag) c.in-Ok.to c.requires.markup c.self.invariant.boundary begins c.in-Ok.ensures.forward (rw c.text.ensures.bytes at c.in-Ok.ensures.ok) c.in-Ok.ensures.placed))

pub returns-in-Err-clause-err : goal.returns-in-Err-clause-err
returns-in-Err-clause-err c =
    let old : Reading = record { names = c.self.inside.table.now.entries; source = c.self.inside.source.now; at = c.self.inside.at } in
    let begins : begins_tag (drop old.at (text_of old)) ≡ true = subst (λ (r : Reading). begins_tag (drop r.at (text_of r)) ≡ true) (sym c.self.view_is) c.requires.begins in
    subst (λ (r : Reading). Refuses r (mode_of c.args.mode) c.refusal.result) c.self.view_is
    (subst (λ r. Refuses old (mode_of c.args.mode) r) (sym c.refusal.ensures)
    (tag_refused old (mode_of c.args.mode) c.in-Err.fault c.requires.markup c.self.invariant.boundary begins (rw c.text.ensures.bytes at c.in-Err.ensures.err)))
