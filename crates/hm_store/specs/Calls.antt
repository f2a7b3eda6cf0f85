-- The calls on an object in memory: which are listed to fail, and how many were made and have failed.
use Rattle.std.specs.Prelude.{ℕ, Bool, refl}
use Rattle.std.specs.declared.result.Result.{Result}
use Rattle.std.specs.Coded.{Coded, code_by, coded×, coded_ℕ}
use Rattle.std.specs.Ordering.{nat_cmp}
use Rattle.std.specs.FinSet as set
use Rattle.hm_store.specs.Causes.{one_more, counted}

pub record CallLog : Type 0 where
  pub listed : set.FinSet nat_cmp  -- the numbers of the calls that are to fail, the first call having the number 1
  pub made : ℕ
  pub faults : ℕ

-- a log is stored as the tuple of its fields
abbrev pub call_log_code : Coded CallLog
call_log_code = code_by (set.FinSet nat_cmp × (ℕ × ℕ)) (coded× (set.code coded_ℕ) (coded× coded_ℕ coded_ℕ)) (λ c. (c.listed, (c.made, c.faults))) (λ p. record { listed = p.0; made = p.1.0; faults = p.1.1 }) (λ _. refl)

-- no call is listed, and none was made
abbrev pub no_calls : CallLog
no_calls = record { listed = set.empty; made = 0; faults = 0 }

-- the next call is listed to fail
abbrev pub fails_next : CallLog → Bool
fails_next calls = set.contains calls.listed (one_more calls.made)

-- the call of this number is listed too
abbrev pub with_listed : CallLog → ℕ → CallLog
with_listed calls number = record calls { listed = set.insert calls.listed number }

-- one more call was made, with this answer
abbrev pub after_call : {T E : Type 0} → CallLog → Result T E → CallLog
after_call calls result = record { listed = calls.listed; made = one_more calls.made; faults = counted calls.faults result }
