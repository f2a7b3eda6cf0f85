-- Runs of equal numbers, and places among them.
use Rattle.std.proofs.Common.{◌≡◌, ◌∙◌, ℕ, zero, suc, ◌+◌, ◌-◌, ◌<◌, ◌≤◌, List, [], ◌∷◌, ◌++◌, length, get_or, refl, sym, ap, subst, arith, append_assoc, append-nil, length-append}
use Rattle.std.proofs.Math.ListN.{replicate}
use Rattle.std.proofs.lemmas.List.{length-replicate, replicate-append-replicate, get_or-map, get_or-replicate, get_or_append_left, get_or-append_right}
use Rattle.hm_graph.specs.Steps.{Step}
use Rattle.hm_graph.specs.Graphs.{spread}
use Rattle.hm_graph.specs.Runs.{unroll, AreRuns, IsAt}
use Rattle.hm_graph.specs.declared.numbers.Run.{Run}

-- ---- One more

pub unroll_more : (runs : List Run) (r : Run) → unroll (runs ++ r ∷ []) ≡ unroll runs ++ replicate r.count r.number
unroll_more [] r = append-nil (replicate r.count r.number)
unroll_more (x ∷ runs) r = ap (λ ns. replicate x.count x.number ++ ns) (unroll_more runs r) ∙ sym (append_assoc (replicate x.count x.number) (unroll runs) (replicate r.count r.number))

pub runs_more : (runs : List Run) (r : Run) → AreRuns runs → 0 < r.count → AreRuns (runs ++ r ∷ [])
runs_more [] r are some = (some, tt)
runs_more (x ∷ runs) r are some = (are.0, runs_more runs r are.1 some)

pub more_same : (ns : List ℕ) (n m number : ℕ) → ns ++ replicate (n + m) number ≡ (ns ++ replicate n number) ++ replicate m number
more_same ns n m number = ap (λ ms. ns ++ ms) (sym (replicate-append-replicate n m number)) ∙ sym (append_assoc ns (replicate n number) (replicate m number))

-- ---- Places

length_run : (r : Run) (runs : List Run) → length (unroll (r ∷ runs)) ≡ r.count + length (unroll runs)
length_run r runs = length-append (replicate r.count r.number) (unroll runs) ∙ ap (λ n. n + length (unroll runs)) (length-replicate r.count r.number)

pub at_first : (runs : List Run) → AreRuns runs → IsAt runs 0 0 0
at_first [] are = (refl, refl, refl)
at_first (r ∷ runs) are = (are.0, refl)

as_at : (runs : List Run) (run used at other : ℕ) → at ≡ other → IsAt runs run used at → IsAt runs run used other
as_at runs run used at other same is = subst (IsAt runs run used) same is

pub at_end : (runs : List Run) → IsAt runs (length runs) 0 (length (unroll runs))
at_end [] = (refl, refl, refl)
at_end (r ∷ runs) =
    (as_at runs (length runs) 0 (length (unroll runs)) (length (unroll (r ∷ runs)) - r.count) (omega (arith, length_run r runs)) (at_end runs), omega (arith, length_run r runs))

-- a place before the end is in a run
pub at_run : (runs : List Run) (run used at : ℕ) → IsAt runs run used at → at < length (unroll runs) → run < length runs
at_run [] run used at is inside = absurd (omega arith)
at_run (r ∷ runs) zero used at is inside = omega arith
at_run (r ∷ runs) (suc run) used at is inside = let i : run < length runs = at_run runs run used (at - r.count) is.0 (omega (arith, length_run r runs, is.1)) in omega (arith, i)

pub at_used : (runs : List Run) (run used at : ℕ) (d : Run) → IsAt runs run used at → run < length runs → used < (get_or runs run d).count
at_used [] run used at d is inside = absurd (omega arith)
at_used (r ∷ runs) zero used at d is inside = is.0
at_used (r ∷ runs) (suc run) used at d is inside = at_used runs run used (at - r.count) d is.0 (omega arith)

pub at_number : (runs : List Run) (run used at : ℕ) (d : Run) (e : ℕ) → IsAt runs run used at → run < length runs → get_or (unroll runs) at e ≡ (get_or runs run d).number
at_number [] run used at d e is inside = absurd (omega arith)
at_number (r ∷ runs) zero used at d e is inside =
    let low : at < r.count = omega (arith, is.0, is.1) in
    get_or_append_left (replicate r.count r.number) (unroll runs) e at (omega (arith, low, length-replicate r.count r.number)) ∙ get_or-replicate r.count at r.number e low
at_number (r ∷ runs) (suc run) used at d e is inside =
    get_or-append_right (replicate r.count r.number) (unroll runs) r.count at e (length-replicate r.count r.number) is.1 ∙ at_number runs run used (at - r.count) d e is.0 (omega arith)

pub used_least : (runs : List Run) (run used at : ℕ) → IsAt runs run used at → used ≤ at
used_least [] run used at is = omega (arith, is.1)
used_least (r ∷ runs) zero used at is = omega (arith, is.1)
used_least (r ∷ runs) (suc run) used at is = omega (arith, used_least runs run used (at - r.count) is.0)

none_before : (runs : List Run) (at : ℕ) → IsAt runs 0 0 at → at ≡ 0
none_before [] at is = is.2
none_before (r ∷ runs) at is = is.1

some_before : (runs : List Run) (run at : ℕ) → AreRuns runs → IsAt runs (suc run) 0 at → 0 < at
some_before [] run at are is = absurd (omega (arith, is.0))
some_before (r ∷ runs) run at are is = omega (arith, are.0, is.1)

pub run_before : (runs : List Run) (run at : ℕ) → IsAt runs run 0 at → 0 < at → 0 < run
run_before runs zero at is some = absurd (omega (arith, none_before runs at is))
run_before runs (suc run) at is some = omega arith

pub run_within : (runs : List Run) (run used at : ℕ) → IsAt runs run used at → run ≤ length runs
run_within [] run used at is = omega (arith, is.0)
run_within (r ∷ runs) zero used at is = omega arith
run_within (r ∷ runs) (suc run) used at is = omega (arith, run_within runs run used (at - r.count) is.0)

-- ---- On and back

pub next_in : (runs : List Run) (run used at : ℕ) (d : Run) → IsAt runs run used at → used + 1 < (get_or runs run d).count → run < length runs → IsAt runs run (used + 1) (at + 1)
next_in [] run used at d is more inside = absurd (omega arith)
next_in (r ∷ runs) zero used at d is more inside = (more, omega (arith, is.1))
next_in (r ∷ runs) (suc run) used at d is more inside =
    (as_at runs run (used + 1) (at - r.count + 1) (at + 1 - r.count) (omega (arith, is.1)) (next_in runs run used (at - r.count) d is.0 more (omega arith)), omega (arith, is.1))

next_run : (runs : List Run) (run used at : ℕ) (d : Run) → AreRuns runs → IsAt runs run used at → (get_or runs run d).count ≤ used + 1 → run < length runs → IsAt runs (suc run) 0 (at + 1)
next_run [] run used at d are is last inside = absurd (omega arith)
next_run (r ∷ runs) zero used at d are is last inside = (as_at runs 0 0 0 (at + 1 - r.count) (omega (arith, is.0, is.1, last)) (at_first runs are.1), omega (arith, is.0, is.1, last))
next_run (r ∷ runs) (suc run) used at d are is last inside =
    (as_at runs (suc run) 0 (at - r.count + 1) (at + 1 - r.count) (omega (arith, is.1)) (next_run runs run used (at - r.count) d are.1 is.0 last (omega arith)), omega (arith, is.1))

pub next_out : (runs : List Run) (run used at : ℕ) (d : Run) → AreRuns runs → IsAt runs run used at → (get_or runs run d).count ≤ used + 1 → run < length runs → IsAt runs (run + 1) 0 (at + 1)
next_out runs run used at d are is last inside = let next : suc run ≡ run + 1 = omega arith in subst (λ k. IsAt runs k 0 (at + 1)) next (next_run runs run used at d are is last inside)

pub back_in : (runs : List Run) (run used at : ℕ) → IsAt runs run used at → 0 < used → IsAt runs run (used - 1) (at - 1)
back_in [] run used at is some = absurd (omega (arith, is.1))
back_in (r ∷ runs) zero used at is some = (omega (arith, is.0), omega (arith, is.1))
back_in (r ∷ runs) (suc run) used at is some =
    let least : used ≤ at - r.count = used_least runs run used (at - r.count) is.0 in
    (as_at runs run (used - 1) (at - r.count - 1) (at - 1 - r.count) (omega arith) (back_in runs run used (at - r.count) is.0 some), omega (arith, is.1, least, some))

back_run : (runs : List Run) (run at : ℕ) (d : Run) → AreRuns runs → IsAt runs (suc run) 0 at → IsAt runs run ((get_or runs run d).count - 1) (at - 1)
back_run [] run at d are is = absurd (omega (arith, is.0))
back_run (r ∷ runs) zero at d are is = let none : at - r.count ≡ 0 = none_before runs (at - r.count) is.0 in (omega (arith, are.0), omega (arith, are.0, none, is.1))
back_run (r ∷ runs) (suc run) at d are is =
    let some : 0 < at - r.count = some_before runs run (at - r.count) are.1 is.0 in
    (as_at runs run ((get_or runs run d).count - 1) (at - r.count - 1) (at - 1 - r.count) (omega arith) (back_run runs run (at - r.count) d are.1 is.0), omega (arith, some))

pub back_out : (runs : List Run) (run at : ℕ) (d : Run) → AreRuns runs → IsAt runs run 0 at → 0 < at → IsAt runs (run - 1) ((get_or runs (run - 1) d).count - 1) (at - 1)
back_out runs zero at d are is some = absurd (omega (arith, none_before runs at is))
back_out runs (suc run) at d are is some =
    let same : run ≡ suc run - 1 = omega arith in
    subst (λ k. IsAt runs k ((get_or runs k d).count - 1) (at - 1)) same (back_run runs run at d are is)

pub count_some : (runs : List Run) (run : ℕ) (d : Run) → AreRuns runs → run < length runs → 0 < (get_or runs run d).count
count_some [] run d are inside = absurd (omega arith)
count_some (r ∷ runs) zero d are inside = are.0
count_some (r ∷ runs) (suc run) d are inside = count_some runs run d are.1 (omega arith)

-- ---- Back over equal numbers

pub back_many : (runs : List Run) (run used at n : ℕ) → IsAt runs run used at → n ≤ used → IsAt runs run (used - n) (at - n)
back_many [] run used at n is few = (is.0, omega (arith, is.1), omega (arith, is.2))
back_many (r ∷ runs) zero used at n is few = (omega (arith, is.0), omega (arith, is.1))
back_many (r ∷ runs) (suc run) used at n is few =
    let least : used ≤ at - r.count = used_least runs run used (at - r.count) is.0 in
    (as_at runs run (used - n) (at - r.count - n) (at - n - r.count) (omega arith) (back_many runs run used (at - r.count) n is.0 few), omega (arith, is.1, least))

same_number : (runs : List Run) (run used at k : ℕ) (d : Run) (e : ℕ) → IsAt runs run used at → run < length runs → k ≤ at → at ≤ k + used → get_or (unroll runs) k e ≡ get_or (unroll runs) at e
same_number runs run used at k d e is inside low high =
    let front : IsAt runs run (used - (at - k)) k = as_at runs run (used - (at - k)) (at - (at - k)) k (omega arith) (back_many runs run used at (at - k) is (omega arith)) in
    at_number runs run (used - (at - k)) k d e front inside ∙ sym (at_number runs run used at d e is inside)

pub same_step : (steps : List Step) (runs : List Run) (run used at k : ℕ) (d : Run) → IsAt runs run used at → at < length (unroll runs) → k ≤ at → at ≤ k + used
    → get_or (spread steps (unroll runs)) k [] ≡ get_or (spread steps (unroll runs)) at []
same_step steps runs run used at k d is inside low high =
    get_or-map (λ m. get_or steps m []) (unroll runs) k 0 [] (omega arith)
    ∙ ap (λ m. get_or steps m []) (same_number runs run used at k d 0 is (at_run runs run used at is inside) low high)
    ∙ sym (get_or-map (λ m. get_or steps m []) (unroll runs) at 0 [] inside)

-- ---- On over equal numbers

pub next_many : (runs : List Run) (run used at n : ℕ) (d : Run) → IsAt runs run used at → used + n < (get_or runs run d).count → run < length runs → IsAt runs run (used + n) (at + n)
next_many [] run used at n d is more inside = absurd (omega arith)
next_many (r ∷ runs) zero used at n d is more inside = (more, omega (arith, is.1))
next_many (r ∷ runs) (suc run) used at n d is more inside =
    (as_at runs run (used + n) (at - r.count + n) (at + n - r.count) (omega (arith, is.1)) (next_many runs run used (at - r.count) n d is.0 more (omega arith)), omega (arith, is.1))

pub run_end : (runs : List Run) (run used at : ℕ) (d : Run) → IsAt runs run used at → run < length runs → at + ((get_or runs run d).count - used) ≤ length (unroll runs)
run_end [] run used at d is inside = absurd (omega arith)
run_end (r ∷ runs) zero used at d is inside = omega (arith, is.0, is.1, length_run r runs)
run_end (r ∷ runs) (suc run) used at d is inside = omega (arith, is.1, length_run r runs, run_end runs run used (at - r.count) d is.0 (omega arith))

-- after the last of a run
pub next_all : (runs : List Run) (run used at : ℕ) (d : Run) → AreRuns runs → IsAt runs run used at → run < length runs → IsAt runs (run + 1) 0 (at + ((get_or runs run d).count - used))
next_all runs run used at d are is inside =
    let count : ℕ = (get_or runs run d).count in
    let some : used < count = at_used runs run used at d is inside in
    let last : IsAt runs run (used + (count - used - 1)) (at + (count - used - 1)) = next_many runs run used at (count - used - 1) d is (omega (arith, some)) inside in
    as_at runs (run + 1) 0 (at + (count - used - 1) + 1) (at + (count - used)) (omega (arith, some)) (next_out runs run (used + (count - used - 1)) (at + (count - used - 1)) d are last (omega (arith, some)) inside)

pub same_later : (steps : List Step) (runs : List Run) (run used at k : ℕ) (d : Run) → IsAt runs run used at → run < length runs → at ≤ k → k < at + ((get_or runs run d).count - used)
    → get_or (spread steps (unroll runs)) k [] ≡ get_or (spread steps (unroll runs)) at []
same_later steps runs run used at k d is inside low high =
    let later : IsAt runs run (used + (k - at)) k = as_at runs run (used + (k - at)) (at + (k - at)) k (omega (arith, low)) (next_many runs run used at (k - at) d is (omega (arith, low, high)) inside) in
    sym (same_step steps runs run (used + (k - at)) k at d later (omega (arith, high, run_end runs run used at d is inside)) low (omega (arith, low)))
