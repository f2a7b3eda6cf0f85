-- The reference at an '&', by what follows it.
use Rattle.std.proofs.Common.{◌≡◌, ℕ, Bool, true, false, cond, ◌==◌, List, [], ◌∷◌, Some, None, refl}
use Rattle.hm_refs.specs.Names.{Entry, found, found_here}
use Rattle.hm_refs.specs.References as references
use Rattle.hm_refs.specs.References.{reference, reference_by}
use Rattle.hm_refs.specs.Tables.{IsTable}
use Rattle.hm_refs.proofs.Found.{or_else_none, here_none, no_empty_name}
use Rattle.hm_graph_laws.specs.Steps.{is_root, reference_after}

pub reference_amp : (t : List Entry) → IsTable t → (v : Bool) (s : List ℕ) → reference t v (38 ∷ s) ≡ reference_after t v (38 ∷ []) s
unfolding reference reference_after is_root
reference_amp t k v [] = rw (here_none t [] (38 ∷ []) (no_empty_name t k), or_else_none (found_here t (38 ∷ []) [])) refl
reference_amp t k v (c ∷ s) = by_test (35 == c)
  where
    by_test : (b : Bool) → reference_by t v (cond b (Some s) None) (38 ∷ c ∷ s) ≡ cond b (references.hash s) (references.named v (found t (38 ∷ []) (c ∷ s)))
    by_test true = refl
    by_test false = rw (here_none t [] (38 ∷ c ∷ s) (no_empty_name t k), or_else_none (found t (38 ∷ []) (c ∷ s))) refl

pub read_after : (t : List Entry) (v : Bool) (c : ℕ) (s : List ℕ) → (35 == c) ≡ false → reference_after t v (38 ∷ []) (c ∷ s) ≡ references.named v (found t (38 ∷ []) (c ∷ s))
unfolding reference_after is_root
read_after t v c s h = rw h refl

pub read_end : (t : List Entry) (v : Bool) → reference_after t v (38 ∷ []) [] ≡ references.named v (found t (38 ∷ []) [])
unfolding reference_after
read_end t v = refl

pub read_hash : (t : List Entry) (v : Bool) (c : ℕ) (s : List ℕ) → (35 == c) ≡ true → reference_after t v (38 ∷ []) (c ∷ s) ≡ references.hash s
unfolding reference_after is_root
read_hash t v c s h = rw h refl
