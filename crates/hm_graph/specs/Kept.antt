-- How many layers a certificate writes.
use Rattle.std.specs.Prelude.{ℕ, suc, List, [], ◌∷◌, if◌then◌else◌}
use Rattle.hm_base.specs.declared.plain.Format.{Format}
use Rattle.hm_graph.specs.Steps.{Step, leaves_out}

-- how many of these steps come after a layer that a format writes, if none of these layers is the first one
abbrev pub kept_count : Format → List Step → ℕ
kept_count format [] = 0
kept_count format (step ∷ steps) = if leaves_out format step then kept_count format steps else suc (kept_count format steps)
