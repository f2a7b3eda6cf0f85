-- A text whose runs of whitespace become single spaces: the prefix of it that stays as it is, and what it becomes.
use Rattle.std.specs.Prelude.{◌≡◌, ◌<◌, ◌≤◌, ◌-◌, Bool, true, false, not, ◌&&◌, ◌||◌, ◌==◌, List, [], ◌∷◌, Option, ℕ, ◌++◌, length, take, drop, get_or, if◌then◌else◌}
use Rattle.hm_base.specs.Bytes.{is_space}
use Rattle.hm_base.specs.Walks.{Event, Element, text}
use Rattle.hm_options.specs.Space.{spaced, trimmed}
use Rattle.hm_options.specs.declared.spaces.SpacedFront.{SpacedFront}

-- the byte is whitespace that changes; `after` says that whitespace stands directly before
abbrev pub changes : Bool → ℕ → Bool
changes after c = is_space c && (after || not (c == 32))

-- no byte of the second list changes after the one at its place in the first
abbrev pub AreSteady : List ℕ → List ℕ → Type 0
AreSteady earlier here = (k : ℕ) → k < length here → changes (is_space (get_or earlier k 0)) (get_or here k 0) ≡ false

-- no byte of s from a place up to another changes
abbrev pub IsSteady : List ℕ → ℕ → ℕ → Type 0
IsSteady s from to = (k : ℕ) → from ≤ k → k < to → changes (is_space (get_or s (k - 1) 0)) (get_or s k 0) ≡ false

-- what is known of such a prefix of s: whitespace follows it, unless the text ends there
pub record IsSpacedFront (s : List ℕ) (front : SpacedFront) : Type 0 where
  pub inside : front.to ≤ length s
  pub same : spaced false s ≡ take front.to s ++ spaced front.after (drop front.to s)
  pub space : front.to < length s → is_space (get_or s front.to 0) ≡ true

-- a text whose runs of whitespace are single spaces, conservatively or not
abbrev pub spaced_text : Bool → List Element → Option Event → Option Event → List ℕ → List Event
spaced_text conservative path before next s = if conservative then text s false ∷ [] else trimmed path before next s
