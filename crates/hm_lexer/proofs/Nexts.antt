-- The next token, by its steps.
use Rattle.std.proofs.Common.{◌≡◌, ◌≢◌, ℕ, ◌+◌, ◌-◌, ◌<◌, true, false, List, length, drop, refl, ap, ◌∙◌, arith}
use Rattle.std.proofs.lemmas.List.{drop_all, drop_more}
use Rattle.hm_base.specs.Bytes.{is_null}
use Rattle.hm_base.specs.Source.{place_in}
use Rattle.hm_refs.specs.Names.{Entry}
use Rattle.hm_token_laws.specs.First.{Mode, ordinary, in_svg, rcdata, raw, script, at_end, after_bytes, first, rule_of}
use Rattle.hm_tree.specs.Tokens.{BeginsAt, Reads, refused}
use Rattle.hm_tree.specs.declared.tokens.Token.{Token}
use Rattle.hm_tree.specs.declared.tokens.ScanFault.{ScanFault}
use Rattle.hm_tree.specs.declared.tokens.ScanFault.TheVariants as faults
use Rattle.hm_lexer.specs.Reading.{Reading, IsTaken, IsFaulty, Refuses, next_of, text_front, text_of}
use Rattle.hm_lexer.specs.Steps.{IsAfterNothing, after_nothing, next_after, read_in, refusal_of}

next_is : (t : List Entry) (mode : Mode) (s : List ℕ) → first t mode s ≡ next_after t mode (after_nothing mode s)
unfolding first
next_is t ordinary s = refl
next_is t in_svg s = refl
next_is t (rcdata name) s = refl
next_is t (raw name) s = refl
next_is t script s = refl

null_at_end : (s : List ℕ) → is_null (drop (length s) s) ≡ true
null_at_end s = ap is_null (drop_all (length s) s (omega arith))

-- nothing is left
pub next_ends : (old : Reading) (mode : Mode) (from : ℕ) → IsAfterNothing mode (text_of old) old.at from → from ≡ length (text_of old) → next_of old mode ≡ at_end
next_ends old mode from b e =
    let left : is_null (drop from (text_of old)) ≡ true = rw e (null_at_end (text_of old)) in
    next_is old.names mode (drop old.at (text_of old)) ∙ ap (next_after old.names mode) b.is ∙ rw left refl

next_reads : (old : Reading) (mode : Mode) (from : ℕ) → IsAfterNothing mode (text_of old) old.at from → from < length (text_of old) → next_of old mode ≡ after_bytes (from - old.at) (read_in old.names mode (drop from (text_of old)))
next_reads old mode from b low =
    let left : is_null (drop from (text_of old)) ≡ false = ap is_null (drop_more (text_of old) from 0 low) in
    next_is old.names mode (drop old.at (text_of old)) ∙ ap (next_after old.names mode) b.is ∙ rw left refl

-- a token is read
pub next_taken : (old : Reading) (mode : Mode) (token : Token) (from to : ℕ) → IsAfterNothing mode (text_of old) old.at from → from < length (text_of old) → from < to
    → Reads (read_in old.names mode (drop from (text_of old))) (text_of old) token to → BeginsAt (from + text_front mode (drop from (text_of old))) token → IsTaken old mode (record { token = token; from = from; to = to }) (record old { at = to })
next_taken old mode token from to b low forward r placed =
    record {
      passed = from - old.at;
      is = next_reads old mode from b low ∙ ap (after_bytes (from - old.at)) r.is;
      from = omega (arith, b.forward);
      moved = refl;
      forward = forward;
      inside = r.boundary.0;
      pieces = r.inside;
      places = placed;
    }

-- a fault
pub next_refused : (old : Reading) (mode : Mode) (fault : ScanFault) (from : ℕ) → IsAfterNothing mode (text_of old) old.at from → from < length (text_of old)
    → (fault ≢ faults.OutOfMemory → read_in old.names mode (drop from (text_of old)) ≡ refused fault) → Refuses old mode (refusal_of fault (place_in old.source.placed old.source.end from))
next_refused old mode fault from b low read = by_fault fault read
  where
    place : place_in old.source.placed old.source.end from ≡ place_in old.source.placed old.source.end (old.at + (from - old.at))
    place = ap (place_in old.source.placed old.source.end) (omega (arith, b.forward))

    is_faulty : (fault : ScanFault) → fault ≢ faults.OutOfMemory → read_in old.names mode (drop from (text_of old)) ≡ refused fault → IsFaulty old mode (rule_of fault) (place_in old.source.placed old.source.end from)
    is_faulty fault never e = record { passed = from - old.at; fault = fault; is = next_reads old mode from b low ∙ ap (after_bytes (from - old.at)) e; of_text = never; rule_is = refl; place_is = place }

    by_fault : (fault : ScanFault) → (fault ≢ faults.OutOfMemory → read_in old.names mode (drop from (text_of old)) ≡ refused fault) → Refuses old mode (refusal_of fault (place_in old.source.placed old.source.end from))
    by_fault faults.Cut read = is_faulty faults.Cut (λ e. cc) (read (λ e. cc))
    by_fault faults.BadName read = is_faulty faults.BadName (λ e. cc) (read (λ e. cc))
    by_fault faults.TooManyAttributes read = is_faulty faults.TooManyAttributes (λ e. cc) (read (λ e. cc))
    by_fault faults.BadDoctype read = is_faulty faults.BadDoctype (λ e. cc) (read (λ e. cc))
    by_fault faults.OutOfMemory read = tt
