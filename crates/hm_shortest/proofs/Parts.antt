-- The parts of an event, one by one.
use Rattle.std.proofs.Common.{ℕ, zero, suc, ◌<◌, List, [], ◌∷◌, length, get_or, arith}
use Rattle.hm_event_parts.specs.Parts.{AreParts, IsPart}
use Rattle.hm_event_parts.specs.declared.parts.Part.{Part}

pub part_at : (parts : List Part) (n : ℕ) (d : Part) → AreParts parts → n < length parts → IsPart (get_or parts n d)
part_at [] n d are within = absurd (omega arith)
part_at (p ∷ parts) zero d are within = are.0
part_at (p ∷ parts) (suc n) d are within = part_at parts n d are.1 (omega arith)
