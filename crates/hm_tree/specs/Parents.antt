-- The index of an event, or none, as one number.
use Rattle.std.specs.Prelude.{◌≡◌, ℕ, ◌==◌, Bool, true, false, Option, Some, None, if◌then◌else◌, refl}
use Rattle.std.proofs.Common.{sym, ap}
use Rattle.std.proofs.lemmas.Bool.Decides.{Decides-eqb}

-- the greatest number of four bytes stands for none
abbrev pub parent_in : ℕ → Option ℕ
parent_in at = if at == 4294967295 then None else Some at

abbrev pub place_of : Option ℕ → ℕ
place_of None = 4294967295
place_of (Some at) = at

same_place : (at : ℕ) → place_of (parent_in at) ≡ at
same_place at = by_test (at == 4294967295) refl
  where
    by_test : (b : Bool) → (at == 4294967295) ≡ b → place_of (if b then None else Some at) ≡ at
    by_test true e = sym ((Decides-eqb at 4294967295).0 e)
    by_test false e = refl

-- nothing is lost
pub place_in : {A : Type 0} (at : ℕ) (f : ℕ → A) → f (place_of (parent_in at)) ≡ f at
place_in at f = ap f (same_place at)
