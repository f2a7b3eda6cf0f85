use Rattle.std.proofs.Common.{◌≡◌, false, bytes_eq, sym, ◌∙◌, refl}
use Rattle.hm_elements.specs.Names.{html}
use Rattle.hm_insertion.proofs.EndTags.{past_body_done, end_past_body}
use Rattle.hm_insertion.proofs.parts.Parts.end_after_body.Goals as goal

pub returns-then-eq : goal.returns-then-eq
returns-then-eq c = past_body_done c.args.self.now c.args.name.now c.requires.insertion_mode c.requires.no_text (sym c.eq.ensures ∙ c.if-eq.true) c.requires.kept

pub returns-else-eq : goal.returns-else-eq
returns-else-eq c =
    let other : bytes_eq c.args.name.now html ≡ false = sym c.eq.ensures ∙ c.if-eq.false in
    rw c.from.ensures (end_past_body c.args.self.now c.args.name.now c.requires.insertion_mode c.requires.no_text ∙ (rw other refl))
