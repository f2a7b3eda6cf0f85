-- A text without '<' is made of pieces, before a tag or at the end.
use Rattle.std.proofs.Common.{◌≡◌, ℕ, zero, suc, ◌+◌, ◌≤◌, Bool, true, false, cond, ◌==◌, List, [], ◌∷◌, ◌++◌, length, Option, Some, None, refl, ap, sym, subst, ◌∙◌, arith, append_assoc, append-nil, length-append}
use Rattle.hm_base.specs.Bytes.{is_alnum, is_letter, is_digit_of}
use Rattle.hm_base.specs.Forms.{has_byte, is_byte}
use Rattle.hm_refs.specs.Names.{Entry}
use Rattle.hm_refs.specs.References.{Reference, reference}
use Rattle.hm_refs.specs.Tables.{IsTable}
use Rattle.hm_scan.specs.TextPlaces.{reference_here}
use Rattle.hm_scan.specs.Texts.{begins_markup, reference_in, ends_plain}
use Rattle.hm_token_laws.specs.Decided.{TextPiece, literal, referred, written_so, ArePieces, goes_on}
use Rattle.hm_token_laws.proofs.References.{GoodReference, reference_good}
use Rattle.std.proofs.lemmas.Bool.{eqb-true}
use Rattle.hm_token_laws.proofs.Bools.{or_parts}
use Rattle.hm_token_laws.proofs.Decided.{references_are_decided}
use Rattle.hm_token_laws.proofs.TextPieces.{names_of_table}

-- nothing follows, or a tag
pub data Ends : List ℕ → Type 0 where
  over : Ends []
  tag : (s : List ℕ) → begins_markup (60 ∷ s) ≡ true → Ends (60 ∷ s)

-- the pieces of a text before what follows
pub record InPieces (t : List Entry) (s after : List ℕ) : Type 0 where
  pub pieces : List TextPiece
  pub written : written_so pieces ≡ s
  pub good : ArePieces t false pieces after

-- ---- References

sign_stops : goes_on false 60 ≡ false
unfolding goes_on is_alnum is_letter is_digit_of
sign_stops = refl

-- what follows decides no reference
decided : (t : List Entry) → IsTable t → (s after : List ℕ) → Ends after → reference t false (38 ∷ (s ++ after)) ≡ reference t false (38 ∷ s)
decided t k s after over = ap (λ x. reference t false (38 ∷ x)) (append-nil s)
decided t k s after (tag y h) = references_are_decided t false s 60 y k sign_stops

-- a reference that begins with c and stands in the text
record ReferenceIn (t : List Entry) (c : ℕ) (s : List ℕ) (r : Reference) : Type 0 where
  amp : c ≡ 38
  is : reference t false (38 ∷ s) ≡ Some r

inside : (t : List Entry) → IsTable t → (c : ℕ) (s after : List ℕ) (r : Reference) → Ends after → reference_in t c (s ++ after) ≡ Some r → ReferenceIn t c s r
unfolding reference_in
inside t k c s after r e h = by_test (c == 38) refl h
  where
    by_test : (b : Bool) → (c == 38) ≡ b → cond b (reference t false (c ∷ (s ++ after))) None ≡ Some r → ReferenceIn t c s r
    by_test true f g = let same : c ≡ 38 = eqb-true c 38 f in record { amp = same; is = sym (decided t k s after e) ∙ (rw same at g) }
    by_test false f g = absurd (cc)

-- ---- Pieces

no_byte_after : (d : ℕ) (x y : List ℕ) → has_byte d (x ++ y) ≡ false → has_byte d y ≡ false
no_byte_after d [] y h = h
no_byte_after d (c ∷ x) y h = no_byte_after d x y (or_parts (is_byte d c) (has_byte d (x ++ y)) h).1

stands_alone : (t : List Entry) (c : ℕ) (s : List ℕ) → is_byte 60 c ≡ false → reference_in t c s ≡ None → ends_plain t false c s ≡ false
unfolding begins_markup
stands_alone t c s h e = rw (h, e) refl

literal_first : (t : List Entry) (c : ℕ) (s after : List ℕ) → is_byte 60 c ≡ false → reference_in t c (s ++ after) ≡ None → InPieces t s after → InPieces t (c ∷ s) after
literal_first t c s after h e p = record {
  pieces = literal c ∷ p.pieces;
  written = ap (λ x. c ∷ x) p.written;
  good = (subst (λ x. ends_plain t false c (x ++ after) ≡ false) (sym p.written) (stands_alone t c (s ++ after) h e), p.good);
}

referred_first : (t : List Entry) (c : ℕ) (s after : List ℕ) (r : Reference) (g : GoodReference (c ∷ s) r) → reference_in t c (s ++ after) ≡ Some r → InPieces t g.rest after → InPieces t (c ∷ s) after
referred_first t c s after r g e p =
    let whole : g.written ++ written_so p.pieces ≡ c ∷ s = ap (λ x. g.written ++ x) p.written ∙ sym g.is in
    let cut : g.written ++ (written_so p.pieces ++ after) ≡ c ∷ (s ++ after) = sym (append_assoc g.written (written_so p.pieces) after) ∙ ap (λ x. x ++ after) whole in
    let is : reference_here t (g.written ++ (written_so p.pieces ++ after)) ≡ Some (record { points = r.points; len = length g.written }) =
    ap (reference_here t) cut ∙ e ∙ ap (λ (n : ℕ). Some (record { points = r.points; len = n })) g.len in
    record { pieces = referred g.written r.points ∷ p.pieces; written = whole; good = (is, p.good) }

in_pieces : (t : List Entry) → IsTable t → (n : ℕ) (s after : List ℕ) → Ends after → length s ≤ n → has_byte 60 s ≡ false → InPieces t s after
in_pieces t k n [] after e l h = record { pieces = []; written = refl; good = tt }
in_pieces t k zero (c ∷ s) after e l h = absurd (omega arith)
in_pieces t k (suc n) (c ∷ s) after e l h = by_reference (reference_in t c (s ++ after)) refl (λ x. in_pieces t k n x after e)
  where
    by_reference : (o : Option Reference) → reference_in t c (s ++ after) ≡ o → ((x : List ℕ) → length x ≤ n → has_byte 60 x ≡ false → InPieces t x after) → InPieces t (c ∷ s) after
    by_reference None f more =
        let parts = or_parts (is_byte 60 c) (has_byte 60 s) h in
        literal_first t c s after parts.0 f (more s (omega arith) parts.1)
    by_reference (Some r) f more =
        let a = inside t k c s after r e f in
        let g : GoodReference (c ∷ s) r = subst (λ d. GoodReference (d ∷ s) r) (sym a.amp) (reference_good t false s r (names_of_table t k) a.is) in
        let all : length (c ∷ s) ≡ length g.written + length g.rest = ap length g.is ∙ length-append g.written g.rest in
        let long = g.long in
        let none : has_byte 60 g.rest ≡ false = no_byte_after 60 g.written g.rest (rw (← g.is) h) in
        referred_first t c s after r g f (more g.rest (omega arith) none)

-- A text without '<' is made of pieces, whatever it refers to.
pub texts_in_pieces : (t : List Entry) → IsTable t → (s after : List ℕ) → Ends after → has_byte 60 s ≡ false → InPieces t s after
texts_in_pieces t k s after e h = in_pieces t k (length s) s after e (omega arith) h
