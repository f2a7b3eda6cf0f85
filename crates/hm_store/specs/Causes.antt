-- What a count of failed calls says of an answer.
use Rattle.std.specs.Prelude.{ℕ, ◌≡◌, ◌+◌, ◌<◌, ◌≤◌, ◌⊎◌, min, OnOk, OnErr, is_err, if◌then◌else◌}
use Rattle.std.specs.declared.result.Result.{Result}

-- one more, up to the greatest number of 64 bits, at which a count stays
abbrev pub one_more : ℕ → ℕ
one_more n = min (n + 1) 18446744073709551615

-- the count after a call with this answer, where a failed call raises it and no other
abbrev pub counted : {T E : Type 0} → ℕ → Result T E → ℕ
counted n result = if is_err result then one_more n else n

-- the count is greater than before, or is at its greatest value
abbrev pub Rose : ℕ → ℕ → Type 0
Rose before now = (before < now) ⊎ (now ≡ 18446744073709551615)

-- the count never falls; a failure is reported only where it rose, and a success only where it stays
pub record HasCause {T E : Type 0} (before now : ℕ) (result : Result T E) : Type 0 where
  pub later : before ≤ now
  pub failed : OnErr result (Rose before now)
  pub steady : OnOk result (now ≡ before)
