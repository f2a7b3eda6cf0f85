-- Characters that names tell of, as the code finds them.
use Rattle.std.specs.Prelude.{ℕ, Bool, true, false, ◌&&◌, ◌==◌, Option, Some, None, if◌then◌else◌}
use Rattle.hm_edges.specs.declared.units.Need.{Need}
use Rattle.hm_edges.specs.declared.units.Need.TheVariants as need

-- the character is c
abbrev pub is_target : ℕ → Option ℕ → Bool
is_target c None = false
is_target c (Some d) = d == c

-- ---- Needs

abbrev pub is_absent : Need → Bool
is_absent need.Absent = true
is_absent need.Cheap = false
is_absent need.Dear = false

abbrev pub is_costly_need : Need → Bool
is_costly_need need.Absent = false
is_costly_need need.Cheap = false
is_costly_need need.Dear = true

-- the need with that of more characters
abbrev pub joined : Need → Bool → Bool → Need
joined n has costly = if costly then need.Dear else if has && is_absent n then need.Cheap else n
