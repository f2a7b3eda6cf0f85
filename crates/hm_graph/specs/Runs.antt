-- Runs of equal numbers, and places among them.
use Rattle.std.specs.Prelude.{◌≡◌, ℕ, zero, suc, ◌<◌, ◌≤◌, ◌-◌, List, [], ◌∷◌, ◌++◌}
use Rattle.std.proofs.Math.ListN.{replicate}
use Rattle.hm_graph.specs.declared.numbers.Run.{Run}

-- the numbers, one by one
abbrev pub unroll : List Run → List ℕ
unroll [] = []
unroll (r ∷ runs) = replicate r.count r.number ++ unroll runs

-- no run is empty
abbrev pub AreRuns : List Run → Type 0
AreRuns [] = Prim.Unit {0}
AreRuns (r ∷ runs) = (0 < r.count) × AreRuns runs

-- Number `used` of run `run` is number `at` of all. After the last run is the place after the last number.
abbrev pub IsAt : List Run → ℕ → ℕ → ℕ → Type 0
IsAt [] run used at = (run ≡ 0) × (used ≡ 0) × (at ≡ 0)
IsAt (r ∷ runs) zero used at = (used < r.count) × (at ≡ used)
IsAt (r ∷ runs) (suc run) used at = IsAt runs run used (at - r.count) × (r.count ≤ at)
