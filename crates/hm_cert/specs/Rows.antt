-- Rows of prices below a bound.
use Rattle.std.specs.Prelude.{ℕ, ◌<◌, [], ◌∷◌, Option, Some, None}
use Rattle.hm_cert.specs.Certificate.{Row}

-- a price that isn't closed is below a bound
abbrev pub IsBelow : ℕ → Option ℕ → Type 0
IsBelow bound None = Prim.Unit {0}
IsBelow bound (Some n) = n < bound

abbrev pub AreBelow : ℕ → Row → Type 0
AreBelow bound [] = Prim.Unit {0}
AreBelow bound (price ∷ row) = IsBelow bound price × AreBelow bound row
