-- The form of a name, byte by byte.
use Rattle.std.proofs.Common.{◌≡◌, ℕ, ◌+◌, ◌-◌, ◌<◌, Bool, true, false, ◌&&◌, ◌||◌, ◌==◌, List, [], ◌∷◌, length, get_or, drop, refl, ap, ◌∙◌, subst, arith, length-drop}
use Rattle.std.proofs.lemmas.List.{at_drop_more}
use Rattle.hm_base.specs.Bytes.{is_digit_of, is_letter, is_alnum, is_null}
use Rattle.hm_refs.specs.Names.{is_tail}
use Rattle.hm_refs.proofs.Bools.{eq_of}

semicolon_no : is_alnum 59 ≡ false
unfolding is_alnum is_letter is_digit_of
semicolon_no = refl

no_semicolon : (c : ℕ) → is_alnum c ≡ true → (c == 59) ≡ false
no_semicolon c h = by_test (c == 59) refl
  where
    by_test : (b : Bool) → (c == 59) ≡ b → b ≡ false
    by_test true e = let i : is_alnum 59 ≡ true = subst (λ d. is_alnum d ≡ true) (eq_of c 59 e) h in let n = semicolon_no in absurd (cc)
    by_test false e = refl

pub tail_goes_on : (text : List ℕ) (i : ℕ) → i < length text → is_alnum (get_or text i 0) ≡ true → is_tail (drop i text) ≡ is_tail (drop (i + 1) text)
tail_goes_on text i l h = at_drop_more is_tail text i 0 l ∙ rw (h, no_semicolon (get_or text i 0) h) (by_test (is_tail (drop (i + 1) text)))
  where
    by_test : (b : Bool) → (b || false) ≡ b
    by_test true = refl
    by_test false = refl

null_end : (text : List ℕ) (i : ℕ) → i < length text → is_null (drop (i + 1) text) ≡ (i + 1 == length text)
null_end text i l = by_rest (drop (i + 1) text) (length-drop (i + 1) text)
  where
    by_rest : (s : List ℕ) → length s ≡ length text - (i + 1) → is_null s ≡ (i + 1 == length text)
    by_rest [] e = grind arith
    by_rest (c ∷ s) e = grind arith

pub tail_stops : (text : List ℕ) (i : ℕ) → i < length text → is_alnum (get_or text i 0) ≡ false → is_tail (drop i text) ≡ ((get_or text i 0 == 59) && (i + 1 == length text))
tail_stops text i l h = at_drop_more is_tail text i 0 l ∙ rw h (ap (λ b. (get_or text i 0 == 59) && b) (null_end text i l))
