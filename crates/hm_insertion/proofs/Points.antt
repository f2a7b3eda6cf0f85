-- What a character reference stands for.
use Rattle.std.proofs.Common.{◌≡◌, ℕ, ◌≤◌, List, [], ◌∷◌, ◌++◌, length, Option, Some, None, ap, refl, arith, length-append}
use Rattle.std.proofs.lemmas.Str.{length-encode, len_utf8_bounds}
use Rattle.std.specs.Prelude.{encode_utf8_all, option_to_list}
use lib.Utf8.{encode}
use Rattle.hm_base.specs.Walks.{Event}
use Rattle.hm_construction_laws.specs.Steps.{Construction, Stepped, went, stops, step, step_bytes, at_front}
use Rattle.hm_tree.specs.Tokens as tokens
use Rattle.hm_insertion.specs.Building.{Fits, IsStepped, IsRefused, front_of}
use Rattle.hm_insertion.specs.declared.fault.BuildFault.{BuildFault}
use Rattle.hm_insertion.specs.declared.fault.BuildFault.TheVariants as faults
use Rattle.hm_insertion.specs.Inside.{building_of, IsDone}
use Rattle.hm_insertion.specs.declared.parts.Parts.{Parts}

pub points_step : (ps : List ℕ) (st : Construction) → step st (tokens.points ps) ≡ at_front (step_bytes (encode_utf8_all ps) st)
unfolding step
points_step ps st = refl

pub points_short : (first : ℕ) (second : Option ℕ) → length (encode_utf8_all (first ∷ option_to_list second)) ≤ 8
points_short first None = omega (arith, length-append (encode first) [], length-encode first, (len_utf8_bounds first).1)
points_short first (Some second) =
    omega (arith, length-append (encode first) (encode second ++ []), length-append (encode second) [], length-encode first, length-encode second, (len_utf8_bounds first).1, (len_utf8_bounds second).1)

pub front_fits : (s : Stepped) (w : List Event) → Fits (at_front s) w → Fits s w
front_fits (went es st) w fits = fits
front_fits (stops rule n) w fits = tt

front_stepped : (s : Stepped) (p new : Parts) → IsStepped s (building_of p) (building_of new) → IsStepped (at_front s) (building_of p) (building_of new)
front_stepped (went es st) p new h = h
front_stepped (stops rule n) p new h = h

pub front_done : (s : Stepped) (p new : Parts) → IsDone s p new → IsDone (at_front s) p new
front_done s p new done = record { kept = done.kept; stepped = front_stepped s p new done.stepped }

pub front_refused : (s : Stepped) (fault : BuildFault) → IsRefused s fault → IsRefused (at_front s) (front_of fault)
front_refused s (faults.Rule rule n) h = ap at_front h
front_refused s faults.OutOfMemory h = tt
