-- The two references in hexadecimal, where they are shorter.
use Rattle.std.proofs.Common.{◌≡◌, ℕ, Bool, true, false, cond, ◌&&◌, [], ◌∷◌, ◌++◌, nat_le, codes, map, refl}
use Rattle.std.specs.Fmt.{digits}
use Rattle.hm_graph_laws.specs.CharacterEdges.{kept_at, by_hexadecimal}
use Rattle.hm_graph_laws.specs.Edges.{edge}
use Rattle.hm_graph_laws.specs.States.{Where, hexadecimal, nothing}

pub two_are : (at : Where) (c : ℕ) (b : Bool) → b ≡ (nat_le 1000000 c && nat_le c 1048575)
    → cond b (edge (codes "&#x" ++ digits 16 false c) at hexadecimal ∷ []) [] ++ cond b (edge (codes "&#x" ++ (digits 16 false c ++ codes ";")) at nothing ∷ []) [] ≡ map (kept_at at) (by_hexadecimal c)
two_are at c b e = rw e (by_test (nat_le 1000000 c && nat_le c 1048575))
  where
    by_test : (w : Bool) → cond w (edge (codes "&#x" ++ digits 16 false c) at hexadecimal ∷ []) [] ++ cond w (edge (codes "&#x" ++ (digits 16 false c ++ codes ";")) at nothing ∷ []) []
        ≡ map (kept_at at) (cond w (record { bytes = codes "&#x" ++ digits 16 false c; to = hexadecimal } ∷ record { bytes = codes "&#x" ++ (digits 16 false c ++ codes ";"); to = nothing } ∷ []) [])
    by_test true = refl
    by_test false = refl
