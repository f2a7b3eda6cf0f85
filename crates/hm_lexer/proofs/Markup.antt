-- What markup is a comment.
use Rattle.std.proofs.Common.{◌≡◌, ℕ, Bool, true, false, cond, not, ◌&&◌, ◌||◌, ◌==◌, List, [], ◌∷◌, Some, None, refl, subst}
use Rattle.std.proofs.lemmas.Bool.Decides.{Decides-eqb}
use Rattle.hm_base.specs.Bytes.{is_letter, is_null}
use Rattle.hm_scan.specs.Texts.{begins_markup}
use Rattle.hm_scan.specs.Reading.{begins_tag, followed_by_letter}
use Rattle.hm_scan.specs.Comments.{begins_comment}
use Rattle.hm_scan.specs.Doctypes.{begins_doctype}
use Rattle.hm_lexer.specs.Steps.{begins_empty_tag}

-- after `</`
by_slash : (s : List ℕ) → not (is_null s) ≡ true → begins_empty_tag (60 ∷ 47 ∷ s) ≡ false → begins_tag (60 ∷ 47 ∷ s) ≡ false → begins_comment (60 ∷ 47 ∷ s) ≡ true
unfolding begins_comment begins_tag is_letter
by_slash [] h empty tag = absurd (cc)
by_slash (c ∷ s) h empty tag = rw (tag, empty) refl

-- after `<`, by the next byte
by_second : (b : ℕ) (s : List ℕ) → is_letter b || (b == 33 || (b == 63 || (b == 47 && not (is_null s)))) ≡ true
    → begins_empty_tag (60 ∷ b ∷ s) ≡ false → begins_tag (60 ∷ b ∷ s) ≡ false → begins_doctype (60 ∷ b ∷ s) ≡ false → begins_comment (60 ∷ b ∷ s) ≡ true
unfolding begins_comment begins_tag
by_second b s h empty tag doctype = by_tests (is_letter b) refl (b == 33) refl (b == 63) refl (b == 47) refl h
  where
    by_tests : (w : Bool) → is_letter b ≡ w → (x : Bool) → (b == 33) ≡ x → (y : Bool) → (b == 63) ≡ y → (z : Bool) → (b == 47) ≡ z → w || (x || (y || (z && not (is_null s)))) ≡ true → begins_comment (60 ∷ b ∷ s) ≡ true
    by_tests true e x f y g z i h = absurd (let none : is_letter b || followed_by_letter (cond (47 == b) (Some s) None) ≡ false = tag in cc)
    by_tests false e true f y g z i h = let same : b ≡ 33 = (Decides-eqb b 33).0 f in rw same (rw (rw same at doctype) refl)
    by_tests false e false f true g z i h = let same : b ≡ 63 = (Decides-eqb b 63).0 g in rw same refl
    by_tests false e false f false g true i h = let same : b ≡ 47 = (Decides-eqb b 47).0 i in rw same (by_slash s h (subst (λ x. begins_empty_tag (60 ∷ x ∷ s) ≡ false) same empty) (subst (λ x. begins_tag (60 ∷ x ∷ s) ≡ false) same tag))
    by_tests false e false f false g false i h = absurd (cc)

pub comment_begins : (s : List ℕ) → begins_markup s ≡ true → begins_empty_tag s ≡ false → begins_tag s ≡ false → begins_doctype s ≡ false → begins_comment s ≡ true
unfolding begins_markup
comment_begins [] h empty tag doctype = absurd (cc)
comment_begins (a ∷ []) h empty tag doctype = by_test (a == 60) h
  where
    by_test : (b : Bool) → b && false ≡ true → begins_comment (a ∷ []) ≡ true
    by_test true h = absurd (cc)
    by_test false h = absurd (cc)
comment_begins (a ∷ b ∷ s) h empty tag doctype = by_test (a == 60) refl h
  where
    by_test : (x : Bool) → (a == 60) ≡ x → x && (is_letter b || (b == 33 || (b == 63 || (b == 47 && not (is_null s))))) ≡ true → begins_comment (a ∷ b ∷ s) ≡ true
    by_test true e h = let same : a ≡ 60 = (Decides-eqb a 60).0 e in rw same (by_second b s h (subst (λ x. begins_empty_tag (x ∷ b ∷ s) ≡ false) same empty) (subst (λ x. begins_tag (x ∷ b ∷ s) ≡ false) same tag) (subst (λ x. begins_doctype (x ∷ b ∷ s) ≡ false) same doctype))
    by_test false e h = absurd (cc)
