-- The bytes of attributes and of a tag's close.
use Rattle.std.proofs.Common.{◌≡◌, ℕ, Bool, true, false, not, ◌&&◌, cond, List, [], ◌∷◌, ◌++◌, codes, refl}
use Rattle.hm_graph_laws.specs.AttributeEdges.{gap_at, is_after_quoted, is_after_unquoted}
use Rattle.hm_edges.specs.Pieces.{with_gap}
use Rattle.hm_graph_laws.specs.States.{Where}

pub gap_is : (tight gap : Bool) (at : Where) (n : List ℕ) → gap ≡ not (tight && is_after_quoted at) → with_gap gap n ≡ gap_at tight at ++ n
gap_is tight gap at n e = rw e (by_test (tight && is_after_quoted at))
  where
    by_test : (b : Bool) → cond (not b) (32 ∷ []) [] ++ n ≡ cond b [] (32 ∷ []) ++ n
    by_test true = refl
    by_test false = refl

pub close_is : (space : Bool) (at : Where) → space ≡ is_after_unquoted at → with_gap space (codes "/>") ≡ cond (is_after_unquoted at) (codes " />") (codes "/>")
close_is space at e = rw e (by_test (is_after_unquoted at))
  where
    by_test : (b : Bool) → cond b (32 ∷ []) [] ++ codes "/>" ≡ cond b (codes " />") (codes "/>")
    by_test true = refl
    by_test false = refl
