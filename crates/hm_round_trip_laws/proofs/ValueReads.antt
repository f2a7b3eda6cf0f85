-- Pieces of a value before the byte that ends it are read as their code points.
use Rattle.std.proofs.Common.{◌≡◌, ℕ, suc, Bool, true, false, cond, not, ◌&&◌, ◌==◌, List, [], ◌∷◌, ◌++◌, length, Option, Some, None, is_none, refl, ap, sym, subst, ◌∙◌, arith, append_assoc, encode_utf8_all}
use Rattle.std.proofs.lemmas.Bool.{eqb-true}
use Rattle.std.proofs.lemmas.Str.{encodes-append, encode_ascii}
use lib.Utf8.{encode}
use Rattle.hm_base.specs.Bytes.{all_pass}
use Rattle.hm_refs.specs.Names.{Entry}
use Rattle.hm_refs.specs.References.{Reference, reference}
use Rattle.hm_refs.specs.Tables.{IsTable}
use Rattle.hm_spelling_spec.specs.Characters.{Spot, text, rcdata, foreign, unquoted, double, single, is_value, is_foreign, stays, CharacterRules, Piece, itself, reference_to, section, spelled, meant, AreAllowed}
use Rattle.hm_scan.specs.Values.{reference_at, read_on, value_from, read_value}
use Rattle.hm_token_laws.specs.Decided.{goes_on}
use Rattle.hm_token_laws.proofs.Decided.{references_are_decided}
use Rattle.hm_round_trip_laws.proofs.Encoded.{PassesHigh, encode_passes}
use Rattle.hm_round_trip_laws.proofs.ReferencePieces.{Refers, amp_piece}

pub passed_over : (t : List Entry) (xs ys : List ℕ) → value_from t (length xs) (xs ++ ys) ≡ value_from t 0 ys
passed_over t [] ys = refl
passed_over t (x ∷ xs) ys = passed_over t xs ys

unfoldable pub no_amp : ℕ → Bool
no_amp c = not (c == 38)

no_amp_high : PassesHigh no_amp
unfolding no_amp
no_amp_high d h = grind arith

pub read_as_they_are : (t : List Entry) (xs ys : List ℕ) → all_pass no_amp xs ≡ true → value_from t 0 (xs ++ ys) ≡ xs ++ value_from t 0 ys
unfolding no_amp reference_at
read_as_they_are t [] ys h = refl
read_as_they_are t (x ∷ xs) ys h = by_test (x == 38) h (read_as_they_are t xs ys)
  where
    by_test : (b : Bool) → not b && all_pass no_amp xs ≡ true → (all_pass no_amp xs ≡ true → value_from t 0 (xs ++ ys) ≡ xs ++ value_from t 0 ys)
        → read_on (cond b (reference t true (x ∷ (xs ++ ys))) None) x (λ k. value_from t k (xs ++ ys)) ≡ x ∷ (xs ++ value_from t 0 ys)
    by_test true h more = absurd (cc)
    by_test false h more = ap (λ s. x ∷ s) (more h)

none_there : (o : Option Reference) → is_none o ≡ true → o ≡ None
none_there None h = refl
none_there (Some r) h = absurd (cc)

-- no section stands in a value
no_section : (spot : Spot) → is_value spot ≡ true → is_foreign spot ≡ true → ⊥
no_section text v f = cc
no_section rcdata v f = cc
no_section foreign v f = cc
no_section unquoted v f = cc
no_section double v f = cc
no_section single v f = cc

module _ (t : List Entry) (table : IsTable t) (rules : CharacterRules) (spot : Spot) (in_value : is_value spot ≡ true) (d : ℕ) (y : List ℕ) (cuts : goes_on true d ≡ false) where
  -- what follows the closing byte makes no difference
  decided : (s : List ℕ) → reference t (is_value spot) (38 ∷ (s ++ d ∷ y)) ≡ reference t true (38 ∷ s)
  decided s = ap (λ b. reference t b (38 ∷ (s ++ d ∷ y))) in_value ∙ references_are_decided t true s d y table cuts

  amp_stays : (s : List ℕ) → stays t spot 38 (s ++ d ∷ y) ≡ true → value_from t 0 (38 ∷ s) ≡ 38 ∷ value_from t 0 s
  unfolding stays reference_at
  amp_stays s h = ap (λ o. read_on o 38 (λ k. value_from t k s)) (sym (decided s) ∙ none_there (reference t (is_value spot) (38 ∷ (s ++ d ∷ y))) h)

  itself_read : (c : ℕ) (s : List ℕ) → stays t spot c (s ++ d ∷ y) ≡ true → value_from t 0 (encode c ++ s) ≡ encode c ++ value_from t 0 s
  unfolding no_amp
  itself_read c s h = by_test (c == 38) refl
    where
      by_test : (b : Bool) → (c == 38) ≡ b → value_from t 0 (encode c ++ s) ≡ encode c ++ value_from t 0 s
      by_test true e =
          let same : c ≡ 38 = eqb-true c 38 e in
          let one : encode c ≡ 38 ∷ [] = ap encode same ∙ encode_ascii 38 (omega arith) in
          rw one (amp_stays s (subst (λ x. stays t spot x (s ++ d ∷ y) ≡ true) same h))
      by_test false e = read_as_they_are t (encode c) s (encode_passes no_amp c no_amp_high (rw e refl))

  reference_read : (qs inner s : List ℕ) → Refers t spot qs (38 ∷ inner) (s ++ d ∷ y) → value_from t 0 ((38 ∷ inner) ++ s) ≡ encode_utf8_all qs ++ value_from t 0 s
  unfolding reference_at
  reference_read qs inner s r =
      let there : reference t true (38 ∷ (inner ++ s)) ≡ Some (record { points = qs; len = suc (length inner) }) =
      sym (decided (inner ++ s)) ∙ ap (λ x. reference t (is_value spot) (38 ∷ x)) (append_assoc inner s (d ∷ y)) ∙ r in
      ap (λ o. read_on o 38 (λ k. value_from t k (inner ++ s))) there ∙ ap (λ x. encode_utf8_all qs ++ x) (passed_over t inner s)

  pub pieces_read : (ps : List Piece) → AreAllowed t rules spot ps (d ∷ y) → read_value t (spelled ps) ≡ encode_utf8_all (meant ps)
  pieces_read [] g = refl
  pieces_read (itself c ∷ ps) ((stands, kept), g) = itself_read c (spelled ps) kept ∙ ap (λ x. encode c ++ x) (pieces_read ps g)
  pieces_read (reference_to b qs ∷ ps) ((begins, r), g) =
      let a = amp_piece t spot qs b (spelled ps ++ d ∷ y) table r in
      ap (λ x. value_from t 0 (x ++ spelled ps)) a.is ∙ reference_read qs a.inner (spelled ps) (subst (λ x. Refers t spot qs x (spelled ps ++ d ∷ y)) a.is r)
      ∙ ap (λ x. encode_utf8_all qs ++ x) (pieces_read ps g) ∙ sym (encodes-append qs (meant ps))
  pieces_read (section cs ∷ ps) ((here, good), g) = absurd (no_section spot in_value here)
