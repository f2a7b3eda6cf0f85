-- What contracts see of a sink in memory.
use Rattle.std.specs.Prelude.{ℕ, List, [], refl}
use Rattle.std.specs.Coded.{Coded, code_by, coded×, coded_ℕ, coded_list}
use Rattle.hm_store.specs.Calls.{CallLog, call_log_code, no_calls}
use Rattle.hm_store.specs.Tears.{TearLog, tear_log_code, no_tears}

pub record SunkBytes : Type 0 where
  pub bytes : List ℕ
  pub calls : CallLog
  pub tears : TearLog

-- it is stored as the tuple of its fields
abbrev pub sunk_bytes_code : Coded SunkBytes
sunk_bytes_code = code_by (List ℕ × (CallLog × TearLog)) (coded× (coded_list coded_ℕ) (coded× call_log_code tear_log_code)) (λ s. (s.bytes, (s.calls, s.tears))) (λ p. record { bytes = p.0; calls = p.1.0; tears = p.1.1 }) (λ _. refl)

-- no bytes, no call made, and none listed to fail or to be torn
abbrev pub no_bytes : SunkBytes
no_bytes = record { bytes = []; calls = no_calls; tears = no_tears }
