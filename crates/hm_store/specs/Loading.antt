-- One turn of a load.
use Rattle.std.specs.Prelude.{ℕ, ◌≡◌, ◌<◌, List, length, Bool, true, false}
use Rattle.std.specs.declared.option.Option.{Option}
use Rattle.std.specs.Io.KnownBytes.{prepend_known, IsAtEnd}

-- what was taken was appended to the bytes; where `more` is false, the end is reached
pub record FollowsOn (old : List ℕ) (rest_old : Option (List ℕ)) (new : List ℕ) (rest_new : Option (List ℕ)) (more : Bool) : Type 0 where
  pub whole : prepend_known old rest_old ≡ prepend_known new rest_new
  pub longer : more ≡ true → length old < length new
  pub ended : more ≡ false → IsAtEnd rest_new
