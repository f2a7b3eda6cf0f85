-- Pieces that are allowed before one byte that cuts them are allowed before another.
use Rattle.std.proofs.Common.{◌≡◌, ℕ, true, false, List, [], ◌∷◌, ◌++◌, refl, ap, sym, subst, ◌∙◌, append_assoc}
use Rattle.hm_base.specs.Bytes.{head_is, is_letter, is_alnum, is_digit_of}
use Rattle.hm_markup_spec.proofs.LineEnds.{newlines, UpToReturn, same, up_to, up_to_return}
use Rattle.hm_refs.specs.Names.{Entry}
use Rattle.hm_refs.specs.References.{reference}
use Rattle.hm_refs.specs.Tables.{IsTable}
use Rattle.hm_token_laws.specs.Decided.{goes_on}
use Rattle.hm_token_laws.proofs.Decided.{references_are_decided}
use Rattle.hm_spelling_spec.specs.Characters.{Spot, text, rcdata, foreign, unquoted, double, single, is_value, opens, opens_text, stays, CharacterRules, Piece, itself, reference_to, section, spelled, AreAllowed, SpellsPoints}
use Rattle.hm_round_trip_laws.specs.Values.{closes, SpelledValuesAreDecided}
use Rattle.hm_round_trip_laws.proofs.ReferencePieces.{Refers, amp_piece}
use Rattle.hm_round_trip_laws.proofs.ValueBytes.{closes_cuts, closes_value}

-- a byte that neither goes on in a reference nor opens markup after a '<'
pub record Cuts (spot : Spot) (d : ℕ) : Type 0 where
  pub stops : goes_on (is_value spot) d ≡ false
  pub no_opening : opens spot d ≡ false

-- f and one such byte follow, whatever comes after it
module _ (t : List Entry) (table : IsTable t) (rules : CharacterRules) (spot : Spot) (f : List ℕ) (d e : ℕ) (x y : List ℕ) (cuts : Cuts spot d) (cuts' : Cuts spot e) where
  same_reference : (s : List ℕ) → reference t (is_value spot) (38 ∷ (s ++ d ∷ x)) ≡ reference t (is_value spot) (38 ∷ (s ++ e ∷ y))
  same_reference s = references_are_decided t (is_value spot) s d x table cuts.stops ∙ sym (references_are_decided t (is_value spot) s e y table cuts'.stops)

  same_opening : (s : List ℕ) → head_is (opens spot) (s ++ d ∷ x) ≡ head_is (opens spot) (s ++ e ∷ y)
  same_opening [] = cuts.no_opening ∙ sym cuts'.no_opening
  same_opening (c ∷ s) = refl

  same_stays : (c : ℕ) (s : List ℕ) → stays t spot c (s ++ d ∷ x) ≡ stays t spot c (s ++ e ∷ y)
  unfolding stays
  same_stays c s = rw (same_reference s, same_opening s) refl

  same_refers : (qs b s : List ℕ) → Refers t spot qs b (s ++ d ∷ x) → Refers t spot qs b (s ++ e ∷ y)
  same_refers qs b s r =
      let a = amp_piece t spot qs b (s ++ d ∷ x) table r in
      let r' = subst (λ w. Refers t spot qs w (s ++ d ∷ x)) a.is r in
      let there : Refers t spot qs (38 ∷ a.inner) (s ++ e ∷ y) =
      ap (λ w. reference t (is_value spot) (38 ∷ w)) (sym (append_assoc a.inner s (e ∷ y))) ∙ sym (same_reference (a.inner ++ s))
      ∙ ap (λ w. reference t (is_value spot) (38 ∷ w)) (append_assoc a.inner s (d ∷ x)) ∙ r' in
      subst (λ w. Refers t spot qs w (s ++ e ∷ y)) (sym a.is) there

  pub same_allowed : (ps : List Piece) → AreAllowed t rules spot ps (f ++ d ∷ x) → AreAllowed t rules spot ps (f ++ e ∷ y)
  same_allowed [] g = tt
  same_allowed (itself c ∷ ps) ((stands, kept), g) =
      let kept' = sym (same_stays c (spelled ps ++ f)) ∙ subst (λ w. stays t spot c w ≡ true) (sym (append_assoc (spelled ps) f (d ∷ x))) kept in
      ((stands, subst (λ w. stays t spot c w ≡ true) (append_assoc (spelled ps) f (e ∷ y)) kept'), same_allowed ps g)
  same_allowed (reference_to b qs ∷ ps) ((begins, r), g) =
      let r' = same_refers qs b (spelled ps ++ f) (subst (λ w. Refers t spot qs b w) (sym (append_assoc (spelled ps) f (d ∷ x))) r) in
      ((begins, subst (λ w. Refers t spot qs b w) (append_assoc (spelled ps) f (e ∷ y)) r'), same_allowed ps g)
  same_allowed (section cs ∷ ps) (s, g) = (s, same_allowed ps g)

-- ---- values, before what ends them

closing_cuts : (spot : Spot) (d : ℕ) → closes spot d ≡ true → Cuts spot d
closing_cuts spot d h = record { stops = rw (closes_value spot d h) (closes_cuts spot d h); no_opening = by_spot spot (closes_value spot d h) }
  where
    by_spot : (p : Spot) → is_value p ≡ true → opens p d ≡ false
    by_spot text v = absurd (cc)
    by_spot rcdata v = absurd (cc)
    by_spot foreign v = absurd (cc)
    by_spot unquoted v = refl
    by_spot double v = refl
    by_spot single v = refl

pub spelled_values_are_decided : SpelledValuesAreDecided
spelled_values_are_decided t rules spot cs b d e x y k h i s =
    record { pieces = s.pieces; whole = s.whole; means = s.means; allowed = same_allowed t k rules spot [] d e x y (closing_cuts spot d h) (closing_cuts spot e i) s.pieces s.allowed }

-- ---- line ends

return_cuts : (spot : Spot) → Cuts spot 13
unfolding goes_on is_alnum is_letter is_digit_of opens_text
return_cuts text = record { stops = refl; no_opening = refl }
return_cuts rcdata = record { stops = refl; no_opening = refl }
return_cuts foreign = record { stops = refl; no_opening = refl }
return_cuts unquoted = record { stops = refl; no_opening = refl }
return_cuts double = record { stops = refl; no_opening = refl }
return_cuts single = record { stops = refl; no_opening = refl }

feed_cuts : (spot : Spot) → Cuts spot 10
unfolding goes_on is_alnum is_letter is_digit_of opens_text
feed_cuts text = record { stops = refl; no_opening = refl }
feed_cuts rcdata = record { stops = refl; no_opening = refl }
feed_cuts foreign = record { stops = refl; no_opening = refl }
feed_cuts unquoted = record { stops = refl; no_opening = refl }
feed_cuts double = record { stops = refl; no_opening = refl }
feed_cuts single = record { stops = refl; no_opening = refl }

allowed_lines : (t : List Entry) (rules : CharacterRules) (spot : Spot) (ps : List Piece) (after : List ℕ) → IsTable t → AreAllowed t rules spot ps after → AreAllowed t rules spot ps (newlines after)
allowed_lines t rules spot ps after k g = by_return (up_to_return after)
  where
    by_return : UpToReturn after → AreAllowed t rules spot ps (newlines after)
    by_return (same e) = subst (AreAllowed t rules spot ps) (sym e) g
    by_return (up_to f x is e) = subst (AreAllowed t rules spot ps) (sym e) (same_allowed t k rules spot f 13 10 x _ (return_cuts spot) (feed_cuts spot) ps (subst (AreAllowed t rules spot ps) is g))

-- Code points are spelled before what follows just as where each line end of it is a line feed.
pub points_lines : (t : List Entry) (rules : CharacterRules) (spot : Spot) (cs b after : List ℕ) → IsTable t → SpellsPoints t rules spot cs b after → SpellsPoints t rules spot cs b (newlines after)
points_lines t rules spot cs b after k s = record { pieces = s.pieces; whole = s.whole; means = s.means; allowed = allowed_lines t rules spot s.pieces after k s.allowed }
