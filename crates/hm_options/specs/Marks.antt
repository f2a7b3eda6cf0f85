-- What is known of the events before an event while a walk is gone through.
use Rattle.std.specs.Prelude.{ℕ, suc, List, [], ◌∷◌, if◌then◌else◌}
use Rattle.hm_base.specs.Walks.{Element}
use Rattle.hm_options.specs.Space.{keeps_space}

-- how many of the open elements keep their whitespace
abbrev pub kept_count : List Element → ℕ
kept_count [] = 0
kept_count (e ∷ path) = if keeps_space e then suc (kept_count path) else kept_count path
