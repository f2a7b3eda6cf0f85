use Rattle.std.proofs.Common.{◌≡◌, ◌++◌, false, length, string_bytes}
use denote.Shadow.{shadow}
use denote.Text.{Utf8}
use Rattle.hm_options.specs.Space.{spaced}
use Rattle.hm_options.proofs.spaces.push_spaced.Given as goal

abbrev pub invariant-runs : goal.invariant-runs
invariant-runs l = (string_bytes l.out ++ spaced false l.rest ≡ string_bytes l.initial.out ++ spaced false l.text) × shadow (Utf8 l.rest)

abbrev pub decreases-runs : goal.decreases-runs
decreases-runs l = length l.rest
