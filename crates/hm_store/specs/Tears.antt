-- The puts on an object in memory: which are listed to be torn, and how many were made.
use Rattle.std.specs.Prelude.{ℕ, List, take, Some, None, refl}
use Rattle.std.specs.declared.option.Option.{Option}
use Rattle.std.specs.Coded.{Coded, code_by, coded×, coded_ℕ}
use Rattle.std.specs.Ordering.{nat_cmp}
use Rattle.std.specs.FinMap as finmap
use Rattle.hm_store.specs.Causes.{one_more}

pub record TearLog : Type 0 where
  pub listed : finmap.FinMap nat_cmp ℕ  -- by the number of a put, the first having the number 1: how many bytes it appends before it fails
  pub puts : ℕ

-- a log is stored as the pair of its fields
abbrev pub tear_log_code : Coded TearLog
tear_log_code = code_by (finmap.FinMap nat_cmp ℕ × ℕ) (coded× (finmap.code coded_ℕ coded_ℕ) coded_ℕ) (λ t. (t.listed, t.puts)) (λ p. record { listed = p.0; puts = p.1 }) (λ _. refl)

-- no put is listed, and none was made
abbrev pub no_tears : TearLog
no_tears = record { listed = finmap.empty; puts = 0 }

-- how many bytes the next put appends before it fails, where it is listed to be torn
abbrev pub tear_next : TearLog → Option ℕ
tear_next tears = finmap.get tears.listed (one_more tears.puts)

-- the put of this number is listed to be torn after this many bytes, and no longer after another number of them
abbrev pub with_tear : TearLog → ℕ → ℕ → TearLog
with_tear tears put bytes = record tears { listed = finmap.insert tears.listed put bytes }

-- one more put was made
abbrev pub after_put : TearLog → TearLog
after_put tears = record tears { puts = one_more tears.puts }

-- what a put appends of its bytes: the first ones where it is torn after so many, and otherwise all
abbrev pub front_of : Option ℕ → List ℕ → List ℕ
front_of (Some count) bytes = take count bytes
front_of None bytes = bytes
