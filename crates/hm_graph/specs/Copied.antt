-- Hops that copy a byte.
use Rattle.std.specs.Prelude.{◌≡◌, ℕ, List, [], ◌∷◌}
use Rattle.hm_edges.specs.declared.pieces.Piece.TheVariants as pieces
use Rattle.hm_graph.specs.declared.hops.Hop.{Hop}

-- one hop, which copies the unit's own bytes and leads to this place
abbrev pub Copies : ℕ → List Hop → Type 0
Copies place [] = ⊥
Copies place (h ∷ []) = (h.piece ≡ pieces.Itself) × (h.to ≡ place)
Copies place (h ∷ g ∷ hops) = ⊥
