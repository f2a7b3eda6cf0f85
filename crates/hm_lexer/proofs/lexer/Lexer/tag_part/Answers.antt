use Rattle.std.proofs.Common.{◌≡◌, true, false, subst}
use Rattle.std.specs.Str.{IsCharBoundary}
use Rattle.hm_lexer.specs.Modes.{mode_of}
use Rattle.hm_lexer.specs.Reading.{Reading, Refuses, text_of}
use Rattle.hm_lexer.proofs.PartSteps.{part_refused, part_whole}
use Rattle.hm_lexer.proofs.lexer.Lexer.tag_part.Goals as goal

no : false ≡ true → ⊥
no e = cc

pub returns-in-Ok-clause-ok : goal.returns-in-Ok-clause-ok
returns-in-Ok-clause-ok c =
    let starts : IsCharBoundary (text_of c.next_tag.new.self) c.next_tag.new.self.at = subst (λ (r : Reading). IsCharBoundary (text_of r) r.at) c.self.view_is c.self.invariant.boundary in
    part_whole c.args.self.now (mode_of c.args.mode) _ c.next_tag.new.self c.requires.whole c.in-Ok.ensures.ok starts

pub returns-clause-err : goal.returns-clause-err
returns-clause-err c =
    let faulty = subst (λ r. Refuses c.args.self.now (mode_of c.args.mode) r) c.in-Err-Page.field-0-is c.in-Err-Page.ensures.err in
    part_refused c.args.self.now (mode_of c.args.mode) c.in-Err-Page.rule c.in-Err-Page.at c.requires.whole faulty (λ e. no (rw e at c.if-eq.ensures))
