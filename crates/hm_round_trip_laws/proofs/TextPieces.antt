-- A text that is spelled stands in pieces.
use Rattle.std.proofs.Common.{◌≡◌, ℕ, ◌≤◌, Bool, true, false, cond, not, ◌&&◌, ◌||◌, ◌==◌, List, [], ◌∷◌, ◌++◌, length, Option, Some, None, is_none, is_some, refl, ap, sym, subst, ◌∙◌, arith, append_assoc, encode_utf8_all}
use Rattle.std.proofs.lemmas.Bool.{and_parts, eqb-true}
use Rattle.std.proofs.lemmas.Str.{encodes-append, encode_ascii}
use lib.Utf8.{encode}
use Rattle.hm_base.specs.Bytes.{all_pass, head_is, is_null, is_letter}
use Rattle.hm_refs.specs.Names.{Entry}
use Rattle.hm_refs.specs.References.{Reference, reference}
use Rattle.hm_refs.specs.Tables.{IsTable}
use Rattle.hm_scan.specs.TextPlaces.{reference_here}
use Rattle.hm_scan.specs.Texts.{opens_markup, begins_markup, reference_in, ends_plain}
use Rattle.hm_token_laws.specs.Decided.{TextPiece, literal, referred, written_so, meant, ArePieces}
use Rattle.hm_spelling_spec.specs.Characters as characters
use Rattle.hm_spelling_spec.specs.Characters.{Spot, is_value, is_foreign, opens, opens_text, stays, CharacterRules, Piece, itself, reference_to, section, spelled, AreAllowed}
use Rattle.hm_round_trip_laws.specs.Texts.{InPieces, text_spot, TouchingTextsAreInPieces, SpelledPointsAreInPieces}
use Rattle.hm_round_trip_laws.proofs.Encoded.{PassesHigh, encode_passes}
use Rattle.hm_round_trip_laws.proofs.ReferencePieces.{Refers, amp_piece}

-- neither '&' nor '<'
unfoldable pub is_unmarked : ℕ → Bool
is_unmarked c = not (c == 38) && not (c == 60)

unmarked_high : PassesHigh is_unmarked
unfolding is_unmarked
unmarked_high d h = grind arith

-- ---- bytes that stand for themselves

abbrev pub literals : List ℕ → List TextPiece → List TextPiece
literals [] ps = ps
literals (c ∷ s) ps = literal c ∷ literals s ps

literals_written : (s : List ℕ) (ps : List TextPiece) → written_so (literals s ps) ≡ s ++ written_so ps
literals_written [] ps = refl
literals_written (c ∷ s) ps = ap (λ x. c ∷ x) (literals_written s ps)

literals_meant : (s : List ℕ) (ps : List TextPiece) → meant (literals s ps) ≡ s ++ meant ps
literals_meant [] ps = refl
literals_meant (c ∷ s) ps = ap (λ x. c ∷ x) (literals_meant s ps)

unmarked_plain : (t : List Entry) (in_rcdata : Bool) (c : ℕ) (s : List ℕ) → is_unmarked c ≡ true → ends_plain t in_rcdata c s ≡ false
unfolding is_unmarked begins_markup reference_in
unmarked_plain t in_rcdata c s h = by_tests (c == 38) (c == 60) in_rcdata h
  where
    by_tests : (a b r : Bool) → not a && not b ≡ true → (not r && (b && opens_markup s)) || is_some (cond a (reference t false (c ∷ s)) None) ≡ false
    by_tests true b r h = absurd (cc)
    by_tests false true r h = absurd (cc)
    by_tests false false true h = refl
    by_tests false false false h = refl

literals_good : (t : List Entry) (in_rcdata : Bool) (s : List ℕ) (ps : List TextPiece) (after : List ℕ) → all_pass is_unmarked s ≡ true → ArePieces t in_rcdata ps after → ArePieces t in_rcdata (literals s ps) after
literals_good t in_rcdata [] ps after h g = g
literals_good t in_rcdata (c ∷ s) ps after h g =
    let both = and_parts (is_unmarked c) (all_pass is_unmarked s) h in
    (unmarked_plain t in_rcdata c (written_so (literals s ps) ++ after) both.0, literals_good t in_rcdata s ps after both.1 g)

-- ---- the spots of texts

-- a spot of text, and whether no markup begins there
pub record IsTextSpot (spot : Spot) (in_rcdata : Bool) : Type 0 where
  pub no_value : is_value spot ≡ false
  pub opening : in_rcdata ≡ false → (c : ℕ) → opens spot c ≡ opens_text c

pub text_spots : (in_rcdata : Bool) → IsTextSpot (text_spot in_rcdata) in_rcdata
text_spots true = record { no_value = refl; opening = λ e c. cc }
text_spots false = record { no_value = refl; opening = λ e c. refl }

pub svg_spot : IsTextSpot characters.foreign false
svg_spot = record { no_value = refl; opening = λ e c. refl }

-- ---- '&' and '<'

amp_plain : (t : List Entry) (spot : Spot) (in_rcdata : Bool) (s : List ℕ) → IsTextSpot spot in_rcdata → stays t spot 38 s ≡ true → ends_plain t in_rcdata 38 s ≡ false
unfolding stays begins_markup reference_in
amp_plain t spot in_rcdata s k h = by_rcdata in_rcdata (subst (λ v. is_none (reference t v (38 ∷ s)) ≡ true) k.no_value h)
  where
    by_found : (o : Option Reference) → is_none o ≡ true → is_some o ≡ false
    by_found None h = refl
    by_found (Some r) h = absurd (cc)

    by_rcdata : (r : Bool) → is_none (reference t false (38 ∷ s)) ≡ true → (not r && false) || is_some (reference t false (38 ∷ s)) ≡ false
    by_rcdata true h = by_found (reference t false (38 ∷ s)) h
    by_rcdata false h = by_found (reference t false (38 ∷ s)) h

no_markup : (s : List ℕ) → not (head_is opens_text s) ≡ true → opens_markup s ≡ false
unfolding opens_text
no_markup [] h = refl
no_markup (c ∷ s) h = by_tests (is_letter c) (c == 33) (c == 47) (c == 63) (not (is_null s)) h
  where
    by_tests : (a b d e n : Bool) → not (a || (b || (d || e))) ≡ true → a || (b || (e || (d && n))) ≡ false
    by_tests true b d e n h = absurd (cc)
    by_tests false true d e n h = absurd (cc)
    by_tests false false true e n h = absurd (cc)
    by_tests false false false true n h = absurd (cc)
    by_tests false false false false n h = refl

same_heads : (p q : ℕ → Bool) (s : List ℕ) → ((c : ℕ) → p c ≡ q c) → head_is p s ≡ head_is q s
same_heads p q [] h = refl
same_heads p q (c ∷ s) h = h c

lt_plain : (t : List Entry) (spot : Spot) (in_rcdata : Bool) (s : List ℕ) → IsTextSpot spot in_rcdata → stays t spot 60 s ≡ true → ends_plain t in_rcdata 60 s ≡ false
unfolding stays begins_markup reference_in
lt_plain t spot true s k h = refl
lt_plain t spot false s k h = rw (no_markup s (subst (λ b. not b ≡ true) (same_heads (opens spot) opens_text s (k.opening refl)) h)) refl

-- ---- pieces

-- c as itself is one literal, or several where it isn't ASCII
pub record OneMore (t : List Entry) (in_rcdata : Bool) (bytes : List ℕ) (ps : List TextPiece) (after : List ℕ) : Type 0 where
  pub pieces : List TextPiece
  pub written : written_so pieces ≡ bytes ++ written_so ps
  pub means : meant pieces ≡ bytes ++ meant ps
  pub good : ArePieces t in_rcdata pieces after

-- '&' or '<', where it stays
one_literal : (t : List Entry) (spot : Spot) (in_rcdata : Bool) (c d : ℕ) (ps : List TextPiece) (after : List ℕ) → c ≡ d → d ≤ 127 → (stays t spot d (written_so ps ++ after) ≡ true → ends_plain t in_rcdata d (written_so ps ++ after) ≡ false)
    → stays t spot c (written_so ps ++ after) ≡ true → ArePieces t in_rcdata ps after → OneMore t in_rcdata (encode c) ps after
one_literal t spot in_rcdata c d ps after same low plain h g =
    let one : encode c ≡ d ∷ [] = ap encode same ∙ encode_ascii d (omega arith) in
    record {
      pieces = literal d ∷ ps;
      written = ap (λ x. x ++ written_so ps) (sym one);
      means = ap (λ x. x ++ meant ps) (sym one);
      good = (plain (subst (λ x. stays t spot x (written_so ps ++ after) ≡ true) same h), g);
    }

pub itself_pieces : (t : List Entry) (spot : Spot) (in_rcdata : Bool) (c : ℕ) (ps : List TextPiece) (after : List ℕ) → IsTextSpot spot in_rcdata → stays t spot c (written_so ps ++ after) ≡ true → ArePieces t in_rcdata ps after
    → OneMore t in_rcdata (encode c) ps after
unfolding is_unmarked
itself_pieces t spot in_rcdata c ps after k h g = by_tests (c == 38) refl (c == 60) refl
  where
    by_tests : (a : Bool) → (c == 38) ≡ a → (b : Bool) → (c == 60) ≡ b → OneMore t in_rcdata (encode c) ps after
    by_tests true e b f = one_literal t spot in_rcdata c 38 ps after (eqb-true c 38 e) (omega arith) (amp_plain t spot in_rcdata (written_so ps ++ after) k) h g
    by_tests false e true f = one_literal t spot in_rcdata c 60 ps after (eqb-true c 60 f) (omega arith) (lt_plain t spot in_rcdata (written_so ps ++ after) k) h g
    by_tests false e false f = record {
      pieces = literals (encode c) ps;
      written = literals_written (encode c) ps;
      means = literals_meant (encode c) ps;
      good = literals_good t in_rcdata (encode c) ps after (encode_passes is_unmarked c unmarked_high (rw (e, f) refl)) g;
    }

pub here_read : (t : List Entry) (spot : Spot) (in_rcdata : Bool) (qs b x : List ℕ) → IsTable t → IsTextSpot spot in_rcdata → Refers t spot qs b x → reference_here t (b ++ x) ≡ Some (record { points = qs; len = length b })
unfolding reference_in
here_read t spot in_rcdata qs b x k s r =
    let a = amp_piece t spot qs b x k r in
    let r' = subst (λ w. reference t (is_value spot) (w ++ x) ≡ Some (record { points = qs; len = length w })) a.is r in
    let r'' = subst (λ v. reference t v ((38 ∷ a.inner) ++ x) ≡ Some (record { points = qs; len = length (38 ∷ a.inner) })) s.no_value r' in
    subst (λ w. reference_here t (w ++ x) ≡ Some (record { points = qs; len = length w })) (sym a.is) r''

-- one more piece before the others, as itself or a reference
pub with_itself : (t : List Entry) (spot : Spot) (in_rcdata : Bool) (c : ℕ) (s b after : List ℕ) → IsTextSpot spot in_rcdata → stays t spot c (b ++ after) ≡ true → InPieces t in_rcdata s b after
    → InPieces t in_rcdata (encode c ++ s) (encode c ++ b) after
with_itself t spot in_rcdata c s b after k h more =
    let kept = subst (λ x. stays t spot c (x ++ after) ≡ true) (sym more.written) h in
    let one = itself_pieces t spot in_rcdata c more.pieces after k kept more.good in
    record { pieces = one.pieces; written = one.written ∙ ap (λ x. encode c ++ x) more.written; means = one.means ∙ ap (λ x. encode c ++ x) more.means; good = one.good }

pub with_reference : (t : List Entry) (spot : Spot) (in_rcdata : Bool) (qs a s b after : List ℕ) → IsTable t → IsTextSpot spot in_rcdata → Refers t spot qs a (b ++ after) → InPieces t in_rcdata s b after
    → InPieces t in_rcdata (encode_utf8_all qs ++ s) (a ++ b) after
with_reference t spot in_rcdata qs a s b after table k r more =
    let r' = subst (λ x. Refers t spot qs a (x ++ after)) (sym more.written) r in
    record {
      pieces = referred a qs ∷ more.pieces;
      written = ap (λ x. a ++ x) more.written;
      means = ap (λ x. encode_utf8_all qs ++ x) more.means;
      good = (here_read t spot in_rcdata qs a (written_so more.pieces ++ after) table k r', more.good);
    }

-- no section stands in HTML
no_section : (in_rcdata : Bool) → is_foreign (text_spot in_rcdata) ≡ true → ⊥
no_section true f = cc
no_section false f = cc

text_pieces : (t : List Entry) (rules : CharacterRules) (in_rcdata : Bool) (ps : List Piece) (after : List ℕ) → IsTable t → AreAllowed t rules (text_spot in_rcdata) ps after
    → InPieces t in_rcdata (encode_utf8_all (characters.meant ps)) (spelled ps) after
text_pieces t rules in_rcdata [] after k g = record { pieces = []; written = refl; means = refl; good = tt }
text_pieces t rules in_rcdata (itself c ∷ ps) after k ((stands, kept), g) = with_itself t (text_spot in_rcdata) in_rcdata c (encode_utf8_all (characters.meant ps)) (spelled ps) after (text_spots in_rcdata) kept (text_pieces t rules in_rcdata ps after k g)
text_pieces t rules in_rcdata (reference_to b qs ∷ ps) after k ((begins, r), g) =
    let more = with_reference t (text_spot in_rcdata) in_rcdata qs b (encode_utf8_all (characters.meant ps)) (spelled ps) after k (text_spots in_rcdata) r (text_pieces t rules in_rcdata ps after k g) in
    subst (λ x. InPieces t in_rcdata x (b ++ spelled ps) after) (sym (encodes-append qs (characters.meant ps))) more
text_pieces t rules in_rcdata (section cs ∷ ps) after k ((here, good), g) = absurd (no_section in_rcdata here)

pub spelled_points_are_in_pieces : SpelledPointsAreInPieces
spelled_points_are_in_pieces t rules in_rcdata cs b after k s =
    let p = text_pieces t rules in_rcdata s.pieces after k s.allowed in
    record { pieces = p.pieces; written = p.written ∙ s.whole; means = p.means ∙ ap encode_utf8_all s.means; good = p.good }

-- ---- texts that touch

pub written_join : (ps qs : List TextPiece) → written_so (ps ++ qs) ≡ written_so ps ++ written_so qs
written_join [] qs = refl
written_join (literal c ∷ ps) qs = ap (λ x. c ∷ x) (written_join ps qs)
written_join (referred b cs ∷ ps) qs = ap (λ x. b ++ x) (written_join ps qs) ∙ sym (append_assoc b (written_so ps) (written_so qs))

meant_join : (ps qs : List TextPiece) → meant (ps ++ qs) ≡ meant ps ++ meant qs
meant_join [] qs = refl
meant_join (literal c ∷ ps) qs = ap (λ x. c ∷ x) (meant_join ps qs)
meant_join (referred b cs ∷ ps) qs = ap (λ x. encode_utf8_all cs ++ x) (meant_join ps qs) ∙ sym (append_assoc (encode_utf8_all cs) (meant ps) (meant qs))

-- what follows pieces, put together either way
after_same : (ps qs : List TextPiece) (after : List ℕ) → written_so ps ++ (written_so qs ++ after) ≡ written_so (ps ++ qs) ++ after
after_same ps qs after = sym (append_assoc (written_so ps) (written_so qs) after) ∙ ap (λ x. x ++ after) (sym (written_join ps qs))

pieces_join : (t : List Entry) (in_rcdata : Bool) (ps qs : List TextPiece) (after : List ℕ) → ArePieces t in_rcdata ps (written_so qs ++ after) → ArePieces t in_rcdata qs after → ArePieces t in_rcdata (ps ++ qs) after
pieces_join t in_rcdata [] qs after g h = h
pieces_join t in_rcdata (literal c ∷ ps) qs after (k, g) h = (subst (λ x. ends_plain t in_rcdata c x ≡ false) (after_same ps qs after) k, pieces_join t in_rcdata ps qs after g h)
pieces_join t in_rcdata (referred b cs ∷ ps) qs after (k, g) h =
    (subst (λ x. reference_here t (b ++ x) ≡ Some (record { points = cs; len = length b })) (after_same ps qs after) k, pieces_join t in_rcdata ps qs after g h)

pub touching_texts_are_in_pieces : TouchingTextsAreInPieces
touching_texts_are_in_pieces t in_rcdata s b more c after h i = record {
  pieces = h.pieces ++ i.pieces;
  written = written_join h.pieces i.pieces ∙ ap (λ x. x ++ written_so i.pieces) h.written ∙ ap (λ x. b ++ x) i.written;
  means = meant_join h.pieces i.pieces ∙ ap (λ x. x ++ meant i.pieces) h.means ∙ ap (λ x. s ++ x) i.means;
  good = pieces_join t in_rcdata h.pieces i.pieces after (subst (λ x. ArePieces t in_rcdata h.pieces (x ++ after)) (sym i.written) h.good) i.good;
}
