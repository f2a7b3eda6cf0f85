-- The byte order mark at the start of a page.
use Rattle.std.proofs.Common.{◌≡◌, ℕ, ◌≢◌, Bool, true, false, cond, ◌&&◌, List, [], ◌∷◌, None, refl, ◌∙◌, nat_eq}
use lib.Utf8.{encode}
use Rattle.std.proofs.lemmas.Bool.{eqb-true}
use Rattle.std.specs.Str.Pattern.{FindsCharPrefix, StripsPrefix}
use Rattle.hm_base.specs.Source.{numbered, without_mark}
use Rattle.hm_base.proofs.Bytes.{first_true, second_true}

mark_bytes : encode 0xFEFF ≡ 0xEF ∷ 0xBB ∷ 0xBF ∷ []
unfolding encode
mark_bytes = refl

-- what `strip_prefix` gives where it finds the mark
pub mark_stripped : (s rest : List ℕ) → StripsPrefix (FindsCharPrefix 0xFEFF) s rest → s ≡ 0xEF ∷ 0xBB ∷ 0xBF ∷ rest
mark_stripped s rest h = h.1.split ∙ rw (mark_bytes, h.2) refl

-- and where it doesn't
pub no_mark : (s : List ℕ) → FindsCharPrefix 0xFEFF s None → (rest : List ℕ) → s ≢ 0xEF ∷ 0xBB ∷ 0xBF ∷ rest
no_mark s h rest e = h rest (e ∙ rw mark_bytes refl)

pub mark_dropped : (s rest : List ℕ) → s ≡ 0xEF ∷ 0xBB ∷ 0xBF ∷ rest → without_mark (numbered 0 s) ≡ numbered 3 rest
mark_dropped s rest e = rw e refl

other : {A : Type 0} (b : Bool) (x y : A) → (b ≡ true → ⊥) → cond b x y ≡ y
other true x y h = absurd (h refl)
other false x y h = refl

pub mark_missing : (s : List ℕ) → ((rest : List ℕ) → s ≢ 0xEF ∷ 0xBB ∷ 0xBF ∷ rest) → without_mark (numbered 0 s) ≡ numbered 0 s
mark_missing [] h = refl
mark_missing (a ∷ []) h = refl
mark_missing (a ∷ b ∷ []) h = refl
mark_missing (a ∷ b ∷ c ∷ s) h =
    other _ _ _ (λ e.
    let others = second_true (nat_eq a 0xEF) (nat_eq b 0xBB && nat_eq c 0xBF) e in
    let a_is : a ≡ 0xEF = eqb-true _ _ (first_true (nat_eq a 0xEF) (nat_eq b 0xBB && nat_eq c 0xBF) e) in
    let b_is : b ≡ 0xBB = eqb-true _ _ (first_true (nat_eq b 0xBB) (nat_eq c 0xBF) others) in
    let c_is : c ≡ 0xBF = eqb-true _ _ (second_true (nat_eq b 0xBB) (nat_eq c 0xBF) others) in
    h s (rw (a_is, b_is, c_is) refl))
