-- A page that comes from a store: what is known after each pull.
use Rattle.std.specs.Prelude.{ℕ, ◌≡◌, ◌+◌, ◌≤◌, List, ◌++◌, length}
use Rattle.std.specs.declared.option.Option.{Option}
use Rattle.std.specs.Io.KnownBytes.{prepend_known, IsAtEnd}
use Rattle.hm_store.specs.Files.{Takes}
use Rattle.hm_page_loading.specs.Spacing.{Spaced, HasTaken}

-- The next n bytes of a file were taken, none only at its end.
pub record TakesNext (old : Spaced) (rest_old : Option (List ℕ)) (n : ℕ) (new : Spaced) (rest_new : Option (List ℕ)) : Type 0 where
  pub next : List ℕ
  pub count : length next ≡ n
  pub front : rest_old ≡ prepend_known next rest_new
  pub taken : (taken : List ℕ) → HasTaken old taken → HasTaken new (taken ++ next)
  pub ended : n ≡ 0 → IsAtEnd rest_new

-- n bytes of a file were taken, and this is left of it.
pub record IsUnderWay (s : Spaced) (file rest : Option (List ℕ)) (n : ℕ) : Type 0 where
  pub taken : List ℕ
  pub has : HasTaken s taken
  pub whole : file ≡ prepend_known taken rest
  pub count : length taken ≡ n

-- All n bytes of a file were taken, or its first n ones, which are one more than the limit.
pub record IsTaken (s : Spaced) (file : Option (List ℕ)) (limit n : ℕ) : Type 0 where
  pub taken : List ℕ
  pub has : HasTaken s taken
  pub front : Takes file (limit + 1) taken
  pub count : length taken ≡ n
  pub within : n ≤ limit + 1
