-- A list that begins with another.
use Rattle.std.proofs.Common.{◌≡◌, ℕ, true, ◌==◌, List, [], ◌∷◌, ◌++◌, refl}
use Rattle.hm_refs.specs.Names.{begins}
use Rattle.hm_refs.proofs.Bools.{and_left, and_right, eq_of}

-- what begins so goes on
pub record Split (q n : List ℕ) : Type 0 where
  pub more : List ℕ
  pub whole : n ≡ q ++ more

split_more : (c d : ℕ) (q n : List ℕ) → c ≡ d → Split q n → Split (c ∷ q) (d ∷ n)
split_more c d q n e s = record { more = s.more; whole = rw (e, s.whole) refl }

pub begins_split : (q n : List ℕ) → begins q n ≡ true → Split q n
begins_split [] n h = record { more = n; whole = refl }
begins_split (c ∷ q) [] h = absurd (cc)
begins_split (c ∷ q) (d ∷ n) h = split_more c d q n (eq_of c d (and_left (c == d) (begins q n) h)) (begins_split q n (and_right (c == d) (begins q n) h))
