-- Parts that are added to a buffer, one after the other.
use Rattle.std.proofs.Common.{◌≡◌, List, [], ◌∷◌, ◌++◌, Result, Ok, Err, OnOk, sym, ap, subst, ◌∙◌, append_assoc, append-nil}
use Rattle.std.proofs.lemmas.Result.{on_ok_weaker}
use Rattle.hm_graph_laws.specs.Units as units
use Rattle.hm_event_parts.specs.Adding.{AddsParts}
use Rattle.hm_event_parts.specs.Parts.{AreParts, IsPart, part_units, parts_units}
use Rattle.hm_event_parts.specs.declared.parts.Part.{Part}

units_more : (ps : List Part) (p : Part) → parts_units (ps ++ p ∷ []) ≡ parts_units ps ++ part_units p
units_more [] p = append-nil (part_units p)
units_more (q ∷ ps) p = ap (λ us. part_units q ++ us) (units_more ps p) ∙ sym (append_assoc (part_units q) (parts_units ps) (part_units p))

parts_more : (ps : List Part) (p : Part) → AreParts ps → IsPart p → AreParts (ps ++ p ∷ [])
parts_more [] p are is = (is, tt)
parts_more (q ∷ ps) p are is = (are.0, parts_more ps p are.1 is)

pub adds_one : {E : Type 0} (before now : List Part) (p : Part) → now ≡ before ++ p ∷ [] → IsPart p → AddsParts {E = E} (Ok tt) before now (part_units p)
adds_one before now p put is = record { units = rw put (units_more before p); parts = λ are. rw put (parts_more before p are is) }

pub adds_then : {E : Type 0} (q r : Result (Unit {0}) E) (before between now : List Part) (more again : List units.Unit) (x : Unit {0})
    → q ≡ Ok x → AddsParts q before between more → AddsParts r between now again → AddsParts r before now (more ++ again)
adds_then (Err z) r before between now more again x is h k = absurd (cc)
adds_then (Ok z) (Ok y) before between now more again x is h k = record {
  units = k.units ∙ ap (λ us. us ++ again) h.units ∙ append_assoc (parts_units before) more again;
  parts = λ are. k.parts (h.parts are);
}
adds_then (Ok z) (Err y) before between now more again x is h k = record { units = tt; parts = λ are. tt }

pub adds_as : {E : Type 0} (r : Result (Unit {0}) E) (before now : List Part) (more again : List units.Unit) → more ≡ again → AddsParts r before now more → AddsParts r before now again
adds_as r before now more again e h = subst (λ us. AddsParts r before now us) e h

-- to a buffer that was empty
pub added_first : {E : Type 0} (r : Result (Unit {0}) E) (before now : List Part) (more : List units.Unit) → before ≡ [] → AddsParts r before now more → OnOk r (parts_units now ≡ more)
added_first r before now more none h = on_ok_weaker r (λ is. is ∙ ap (λ ps. parts_units ps ++ more) none) h.units
