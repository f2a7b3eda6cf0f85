-- What the code's arrays of names hold, as lists.
use Rattle.std.specs.Prelude.{ℕ, List, [], ◌∷◌, Option, Some, None}
use denote.Ref.{Bor}

abbrev pub texts : List (Bor (List ℕ)) → List (List ℕ)
texts [] = []
texts (r ∷ rs) = r.now ∷ texts rs

abbrev pub text_of : Option (Bor (List ℕ)) → Option (List ℕ)
text_of None = None
text_of (Some r) = Some r.now
