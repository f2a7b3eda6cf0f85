-- Bytes that are given to a buffer one after the other.
use Rattle.std.proofs.Common.{◌≡◌, ℕ, ◌+◌, ◌≤◌, inl, inr, List, [], ◌++◌, length, take, drop, Bool, true, false, Some, None, refl, sym, ap, ◌∙◌, subst, arith, append_assoc}
use Rattle.std.proofs.Math.Seq.{take-append_seam, take-append-add}
use Rattle.std.proofs.lemmas.Bool.{false≢true}
use Rattle.std.proofs.lemmas.List.{append-nil, take-append-drop}
use Rattle.std.specs.declared.option.Option.{Option}
use Rattle.std.specs.Io.KnownBytes.{append_known}
use Rattle.hm_store.specs.Causes.{Rose}
use Rattle.hm_store.specs.Files.{AppendsFront}
use Rattle.hm_dump.specs.declared.buffer.Buffer.{Buffer}
use Rattle.hm_dump.specs.Given.{IsFresh, Puts, ArePut, Gives}

known_none : (known : Option (List ℕ)) → append_known known [] ≡ known
known_none None = refl
known_none (Some s) = ap Some (append-nil s)

known_twice : (known : Option (List ℕ)) (a b : List ℕ) → append_known (append_known known a) b ≡ append_known known (a ++ b)
known_twice None a b = refl
known_twice (Some s) a b = ap Some (append_assoc s a b)

rose_later : (a b c : ℕ) → a ≤ b → Rose b c → Rose a c
rose_later a b c low (inl higher) = inl (omega (arith, low, higher))
rose_later a b c low (inr most) = inr most

-- a prefix of bytes is a prefix of them with more after them
front_more : (old new : Option (List ℕ)) (s more : List ℕ) → AppendsFront old new s → AppendsFront old new (s ++ more)
front_more old new s more h =
    let front = take h.taken s in
    let parts : s ++ more ≡ front ++ (drop h.taken s ++ more) = ap (λ l. l ++ more) (sym (take-append-drop h.taken s)) ∙ append_assoc front (drop h.taken s) more in
    let same : take (length front) (s ++ more) ≡ front = ap (take (length front)) parts ∙ take-append_seam front (drop h.taken s ++ more) in
    record { taken = length front; bytes_are = h.bytes_are ∙ ap (append_known old) (sym same) }

-- where a prefix of `more` was put after all of s, a prefix of both together was put
front_after : (old mid new : Option (List ℕ)) (s more : List ℕ) → mid ≡ append_known old s → AppendsFront mid new more → AppendsFront old new (s ++ more)
front_after old mid new s more is h = record {
  taken = length s + h.taken;
  bytes_are = h.bytes_are ∙ ap (λ o. append_known o (take h.taken more)) is ∙ known_twice old s (take h.taken more) ∙ ap (append_known old) (sym (take-append-add s more h.taken));
}

module _ (sink_old sink_new : Option (List ℕ)) (faults_old faults_new : ℕ) (old new : Buffer) (more : List ℕ) where
  -- the bytes that wait are put with more after them, and then nothing waits
  pub Gives-put : (put : List ℕ) → Puts sink_old sink_new faults_old faults_new old.failed new.failed put → put ≡ old.bytes.items ++ more → new.bytes.items ≡ [] → Gives sink_old sink_new faults_old faults_new old new more
  Gives-put put h is none = record { after = λ sink faults given before. subst (λ w. ArePut sink sink_new faults faults_new (given ++ more) w new.failed) (sym none) (go old.failed new.failed sink faults given before h) }
    where
      go : (failed_old failed_new : Bool) (sink : Option (List ℕ)) (faults : ℕ) (given : List ℕ) → ArePut sink sink_old faults faults_old given old.bytes.items failed_old → Puts sink_old sink_new faults_old faults_new failed_old failed_new put
          → ArePut sink sink_new faults faults_new (given ++ more) [] failed_new
      go true true sink faults given before h = rw (h.1, h.2) (before.0, front_more sink sink_old given more before.1, before.2)
      go true false sink faults given before h = absurd (false≢true h.0)
      go false false sink faults given before h =
          let split = before.1 in (
            h.0 ∙ before.0,
            record {
              put = split.put ++ put;
              sunk = h.1 ∙ ap (λ o. append_known o put) split.sunk ∙ known_twice sink split.put put;
              whole = append-nil (split.put ++ put) ∙ ap (λ s. split.put ++ s) is ∙ sym (append_assoc split.put old.bytes.items more) ∙ ap (λ s. s ++ more) split.whole;
            },
          )
      go false true sink faults given before h =
          let split = before.1 in
          let whole : split.put ++ put ≡ given ++ more = ap (λ s. split.put ++ s) is ∙ sym (append_assoc split.put old.bytes.items more) ∙ ap (λ s. s ++ more) split.whole in
          (omega (arith, before.0, h.0), subst (AppendsFront sink sink_new) whole (front_after sink sink_old sink_new split.put put split.sunk h.1), rose_later faults faults_old faults_new (omega (arith, before.0)) h.2)

  -- once a put has failed, more is left out
  pub Gives-failed : (rest : List ℕ) → new.failed ≡ true → Gives sink_old sink_new faults_old faults_new old new more → Gives sink_old sink_new faults_old faults_new old new (more ++ rest)
  Gives-failed rest failed h = record { after = λ sink faults given before. go new.failed sink faults given failed (h.after sink faults given before) }
    where
      go : (failed_new : Bool) (sink : Option (List ℕ)) (faults : ℕ) (given : List ℕ) → failed_new ≡ true → ArePut sink sink_new faults faults_new (given ++ more) new.bytes.items failed_new → ArePut sink sink_new faults faults_new (given ++ (more ++ rest)) new.bytes.items failed_new
      go true sink faults given failed h = (h.0, subst (AppendsFront sink sink_new) (append_assoc given more rest) (front_more sink sink_new (given ++ more) rest h.1), h.2)
      go false sink faults given failed h = absurd (false≢true failed)

  -- all that was given to a buffer in which nothing waited
  pub Gives-all : IsFresh old → Gives sink_old sink_new faults_old faults_new old new more → ArePut sink_old sink_new faults_old faults_new more new.bytes.items new.failed
  Gives-all fresh h = h.after sink_old faults_old [] (rw (fresh.empty, fresh.sound) (refl, record { put = []; sunk = sym (known_none sink_old); whole = refl }))

module _ (sink : Option (List ℕ)) (faults : ℕ) (old new : Buffer) where
  -- more waits
  pub Gives-wait : (more : List ℕ) → new.bytes.items ≡ old.bytes.items ++ more → new.failed ≡ old.failed → Gives sink sink faults faults old new more
  Gives-wait more waits same = record { after = λ start before given h. rw (waits, same) (go old.failed start before given h) }
    where
      go : (failed : Bool) (start : Option (List ℕ)) (before : ℕ) (given : List ℕ) → ArePut start sink before faults given old.bytes.items failed → ArePut start sink before faults (given ++ more) (old.bytes.items ++ more) failed
      go false start before given h = (h.0, record { put = h.1.put; sunk = h.1.sunk; whole = sym (append_assoc h.1.put old.bytes.items more) ∙ ap (λ s. s ++ more) h.1.whole })
      go true start before given h = (h.0, front_more start sink given more h.1, h.2)

-- nothing is given
pub Gives-none : (sink : Option (List ℕ)) (faults : ℕ) (old : Buffer) → Gives sink sink faults faults old old []
Gives-none sink faults old = Gives-wait sink faults old old [] (sym (append-nil old.bytes.items)) refl

-- bytes are given, and then others
pub Gives-then : {sink_old sink_mid sink_new : Option (List ℕ)} {faults_old faults_mid faults_new : ℕ} {old mid new : Buffer} {a b : List ℕ}
    → Gives sink_old sink_mid faults_old faults_mid old mid a → Gives sink_mid sink_new faults_mid faults_new mid new b → Gives sink_old sink_new faults_old faults_new old new (a ++ b)
Gives-then {sink_old} {sink_mid} {sink_new} {faults_old} {faults_mid} {faults_new} {old} {mid} {new} {a} {b} first second = record {
  after = λ sink faults given before. subst (λ s. ArePut sink sink_new faults faults_new s new.bytes.items new.failed) (append_assoc given a b) (second.after sink faults (given ++ a) (first.after sink faults given before));
}

module _ (sink_old sink_new : Option (List ℕ)) (faults_old faults_new : ℕ) (old new : Buffer) (all : List ℕ) (fresh : IsFresh old) (given : Gives sink_old sink_new faults_old faults_new old new all) where
  -- where no put has failed and nothing waits, all was put
  pub put_whole : new.failed ≡ false → new.bytes.items ≡ [] → (faults_new ≡ faults_old) × (sink_new ≡ append_known sink_old all)
  put_whole sound empty = go new.bytes.items new.failed sound empty (Gives-all sink_old sink_new faults_old faults_new old new all fresh given)
    where
      go : (waiting : List ℕ) (failed : Bool) → failed ≡ false → waiting ≡ [] → ArePut sink_old sink_new faults_old faults_new all waiting failed → (faults_new ≡ faults_old) × (sink_new ≡ append_known sink_old all)
      go waiting true sound empty h = absurd (false≢true (sym sound))
      go waiting false sound empty h = (h.0, h.1.sunk ∙ ap (append_known sink_old) (sym (append-nil h.1.put) ∙ ap (λ w. h.1.put ++ w) (sym empty) ∙ h.1.whole))

  -- else a prefix was put
  pub put_front : new.failed ≡ true → (faults_old ≤ faults_new) × AppendsFront sink_old sink_new all × Rose faults_old faults_new
  put_front failed = go new.failed failed (Gives-all sink_old sink_new faults_old faults_new old new all fresh given)
    where
      go : (failed : Bool) → failed ≡ true → ArePut sink_old sink_new faults_old faults_new all new.bytes.items failed → (faults_old ≤ faults_new) × AppendsFront sink_old sink_new all × Rose faults_old faults_new
      go true failed h = h
      go false failed h = absurd (false≢true failed)
