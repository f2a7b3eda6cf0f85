use Rattle.std.proofs.Common.{◌≡◌, ◌∙◌, ℕ, zero, suc, ◌<◌, ◌≤◌, ◌==◌, Bool, true, false, not, List, ◌++◌, length, take, refl, sym, ap, arith, append_assoc, length-append, length-take, Some, None}
use Rattle.std.proofs.lemmas.Bool.{not-false}
use Rattle.std.specs.declared.option.Option.{Option}
use Rattle.std.specs.Io.KnownBytes.{prepend_known}
use Rattle.std.proofs.Transfers.{starts_with_of_append}
use Rattle.std.proofs.lemmas.Bool.Decides.{Decides-eqb}
use Rattle.std.proofs.lemmas.List.{take-append-le}
use Rattle.hm_store.specs.Files.{Pulls}
use Rattle.hm_store.specs.Loading.{FollowsOn}
use Rattle.hm_store.proofs.whole_files.pull_more.Goals as goal

some_taken : (n : ℕ) → not (n == 0) ≡ true → 0 < n
some_taken zero h = absurd (cc)
some_taken (suc n) h = omega arith

none_taken : (n : ℕ) → not (n == 0) ≡ false → n ≡ 0
none_taken n h = (Decides-eqb n 0).0 (not-false (n == 0) h)

known_after : (old s : List ℕ) (b : Option (List ℕ)) → prepend_known old (prepend_known s b) ≡ prepend_known (old ++ s) b
known_after old s None = refl
known_after old s (Some r) = ap Some (sym (append_assoc old s r))

-- n bytes are taken into a piece, and appended to those that are there
one_turn : (old new into tail : List ℕ) (a b : Option (List ℕ)) (n : ℕ) → new ≡ old ++ take n (into ++ tail) → n ≤ length into → 0 < length into → Pulls a b n into → FollowsOn old a new b (not (n == 0))
one_turn old new into tail a b n e within some p =
    let is : new ≡ old ++ take n into = e ∙ ap (λ s. old ++ s) (take-append-le n into tail within) in
    record {
      whole = ap (prepend_known old) p.front ∙ known_after old (take n into) b ∙ ap (λ s. prepend_known s b) (sym is);
      longer = λ more. omega (arith, ap length is, length-append old (take n into), length-take n into, within, some_taken n more);
      ended = λ none. p.ended (none_taken n none) some;
    }

pub returns-in_ok-extend_from_slice-in-Ok-clause-follows : goal.returns-in_ok-extend_from_slice-in-Ok-clause-follows
returns-in_ok-extend_from_slice-in-Ok-clause-follows g c =
    let some : 0 < length c.pull.new.into = omega (arith, c.pull.auto.into, length-take c.min-most.result c.args.piece.now, c.min-most.ensures, c.len.ensures, c.requires.piece, c.requires.room, c.args.bytes.now.ok.0) in
    one_turn _ _ _ _ _ _ _ c.in_ok-extend_from_slice-in-Ok.ensures.items c.in-Ok.ensures.bound.0 some c.in-Ok.ensures.bytes

pub returns-in_ok-extend_from_slice-in-Ok-clause-kept : goal.returns-in_ok-extend_from_slice-in-Ok-clause-kept
returns-in_ok-extend_from_slice-in-Ok-clause-kept g c = starts_with_of_append _ _ _ c.in_ok-extend_from_slice-in-Ok.ensures.items
