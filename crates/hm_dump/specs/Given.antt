-- What became of bytes that were given to a buffer that feeds a sink.
use Rattle.std.specs.Prelude.{ℕ, ◌≡◌, ◌≤◌, Bool, true, false, List, [], ◌++◌}
use Rattle.std.specs.declared.option.Option.{Option}
use Rattle.std.specs.Io.KnownBytes.{append_known}
use Rattle.hm_store.specs.Causes.{Rose}
use Rattle.hm_store.specs.Files.{AppendsFront}
use Rattle.hm_dump.specs.declared.buffer.Buffer.{Buffer}

-- nothing waits, and no put has failed
pub record IsFresh (buffer : Buffer) : Type 0 where
  pub empty : buffer.bytes.items ≡ []
  pub sound : buffer.failed ≡ false

-- bytes are put to a sink, unless a put has failed before; then the sink stays as it is
abbrev pub Puts : (sink_old sink_new : Option (List ℕ)) (faults_old faults_new : ℕ) (failed_old failed_new : Bool) (bytes : List ℕ) → Type 0
Puts sink_old sink_new faults_old faults_new true failed_new bytes = (failed_new ≡ true) × (sink_new ≡ sink_old) × (faults_new ≡ faults_old)
Puts sink_old sink_new faults_old faults_new false false bytes = (faults_new ≡ faults_old) × (sink_new ≡ append_known sink_old bytes)
Puts sink_old sink_new faults_old faults_new false true bytes = (faults_old ≤ faults_new) × AppendsFront sink_old sink_new bytes × Rose faults_old faults_new

-- a prefix of the given bytes was put to the sink, and the others wait
pub record AreSplit (sink_old sink_new : Option (List ℕ)) (given waiting : List ℕ) : Type 0 where
  pub put : List ℕ
  pub sunk : sink_new ≡ append_known sink_old put
  pub whole : put ++ waiting ≡ given

-- of the given bytes a prefix was put and the others wait; or a put has failed, and a prefix of them was put
abbrev pub ArePut : (sink_old sink_new : Option (List ℕ)) (faults_old faults_new : ℕ) (given waiting : List ℕ) (failed : Bool) → Type 0
ArePut sink_old sink_new faults_old faults_new given waiting false = (faults_new ≡ faults_old) × AreSplit sink_old sink_new given waiting
ArePut sink_old sink_new faults_old faults_new given waiting true = (faults_old ≤ faults_new) × AppendsFront sink_old sink_new given × Rose faults_old faults_new

-- Further bytes are given: whatever was given since the sink was as it began, these are given after it.
pub record Gives (sink_old sink_new : Option (List ℕ)) (faults_old faults_new : ℕ) (old new : Buffer) (more : List ℕ) : Type 0 where
  pub after : (sink : Option (List ℕ)) (faults : ℕ) (given : List ℕ) → ArePut sink sink_old faults faults_old given old.bytes.items old.failed → ArePut sink sink_new faults faults_new (given ++ more) new.bytes.items new.failed
