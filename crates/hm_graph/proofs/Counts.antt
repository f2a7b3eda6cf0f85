-- Layers that are written, counted by runs.
use Rattle.std.proofs.Common.{◌≡◌, ◌∙◌, ℕ, zero, suc, ◌+◌, ◌<◌, ◌≤◌, Bool, true, false, cond, List, [], ◌∷◌, ◌++◌, ◌-◌, length, length-append, get_or, drop, refl, sym, ap, subst, arith}
use Rattle.std.proofs.Math.ListN.{replicate}
use Rattle.std.proofs.lemmas.List.{drop_all, drop_more, get_or-append_right, get_or-replicate, get_or_append_left, get_or_default, length-map, length-replicate}
use Rattle.hm_base.specs.declared.plain.Format.{Format}
use Rattle.hm_graph.specs.Steps.{Step, leaves_out}
use Rattle.hm_graph.specs.Graphs.{AreNumbers, spread}
use Rattle.hm_graph.specs.Kept.{kept_count}
use Rattle.hm_graph.specs.Runs.{AreRuns, unroll}
use Rattle.hm_graph.specs.declared.numbers.Run.{Run}

pub kept_within : (format : Format) (steps : List Step) → kept_count format steps ≤ length steps
kept_within format [] = omega arith
kept_within format (step ∷ steps) = by_test (leaves_out format step) (kept_within format steps)
  where
    by_test : (b : Bool) → kept_count format steps ≤ length steps → cond b (kept_count format steps) (suc (kept_count format steps)) ≤ suc (length steps)
    by_test true h = omega (arith, h)
    by_test false h = omega (arith, h)

-- the same step `n` times, and more after it
kept_alike : (format : Format) (step : Step) (n : ℕ) (steps : List Step) → kept_count format (replicate n step ++ steps) ≡ cond (leaves_out format step) 0 n + kept_count format steps
kept_alike format step zero steps = by_test (leaves_out format step)
  where
    by_test : (b : Bool) → kept_count format steps ≡ cond b 0 0 + kept_count format steps
    by_test true = omega arith
    by_test false = omega arith
kept_alike format step (suc n) steps = by_test (leaves_out format step) refl (kept_alike format step n steps)
  where
    by_test : (b : Bool) → leaves_out format step ≡ b → kept_count format (replicate n step ++ steps) ≡ cond (leaves_out format step) 0 n + kept_count format steps
        → cond (leaves_out format step) (kept_count format (replicate n step ++ steps)) (suc (kept_count format (replicate n step ++ steps))) ≡ cond (leaves_out format step) 0 (suc n) + kept_count format steps
    by_test true e h = rw e (h ∙ ap (λ b. cond b 0 n + kept_count format steps) e)
    by_test false e h = rw e (omega (arith, h ∙ ap (λ b. cond b 0 n + kept_count format steps) e))

spread_run : (steps : List Step) (n number : ℕ) (more : List ℕ) → spread steps (replicate n number ++ more) ≡ replicate n (get_or steps number []) ++ spread steps more
spread_run steps zero number more = refl
spread_run steps (suc n) number more = ap (λ s. get_or steps number [] ∷ s) (spread_run steps n number more)

abbrev pub no_run : Run
no_run = record { number = 0; count = 0 }

-- the layers of these runs
abbrev pub runs_count : Format → List Step → List Run → ℕ
runs_count format steps runs = kept_count format (spread steps (unroll runs))

-- those of the first n runs were counted
abbrev pub RunsCounted : Format → List Step → List Run → ℕ → ℕ → Type 0
RunsCounted format steps runs n count = count + runs_count format steps (drop n runs) ≡ runs_count format steps runs

pub run_counted : (format : Format) (steps : List Step) (runs : List Run) (n : ℕ) (none : Run) (count : ℕ) → n < length runs → RunsCounted format steps runs n count
    → RunsCounted format steps runs (n + 1) (count + cond (leaves_out format (get_or steps (get_or runs n none).number [])) 0 (get_or runs n none).count)
run_counted format steps runs n none count inside h =
    let run : Run = get_or runs n none in
    let step : Step = get_or steps run.number [] in
    let rest : List Run = drop (n + 1) runs in
    let here : runs_count format steps (drop n runs) ≡ cond (leaves_out format step) 0 run.count + runs_count format steps rest =
    ap (runs_count format steps) (drop_more runs n none inside) ∙ ap (kept_count format) (spread_run steps run.count run.number (unroll rest)) ∙ kept_alike format step run.count (spread steps (unroll rest)) in
    omega (arith, h, here)

pub all_counted : (format : Format) (steps : List Step) (runs : List Run) (n count : ℕ) → length runs ≤ n → RunsCounted format steps runs n count → count ≡ runs_count format steps runs
all_counted format steps runs n count past h = omega (arith, h, ap (runs_count format steps) (drop_all n runs past))

-- with one that is left out, or written
pub run_passed : (format : Format) (steps : List Step) (runs : List Run) (n : ℕ) (step : Step) (count more : ℕ) → n < length runs → (get_or runs n no_run).number < length steps → step ≡ get_or steps (get_or runs n no_run).number step → more ≡ count + cond (leaves_out format step) 0 (get_or runs n no_run).count
    → RunsCounted format steps runs n count → RunsCounted format steps runs (n + 1) more
run_passed format steps runs n step count more inside there found all h =
    let is : step ≡ get_or steps (get_or runs n no_run).number [] = found ∙ get_or_default steps (get_or runs n no_run).number step [] there in
    subst (RunsCounted format steps runs (n + 1)) (ap (λ s. count + cond (leaves_out format s) 0 (get_or runs n no_run).count) (sym is) ∙ sym all) (run_counted format steps runs n no_run count inside h)

-- the layers that were counted are some of all
pub counted_within : (format : Format) (steps : List Step) (runs : List Run) (n count : ℕ) → RunsCounted format steps runs n count → count ≤ length (unroll runs)
counted_within format steps runs n count h = omega (arith, h, kept_within format (spread steps (unroll runs)), length-map (unroll runs) (λ m. get_or steps m []))

-- each run's number is that of a step
pub run_number : (steps : List Step) (runs : List Run) (k : ℕ) → AreRuns runs → AreNumbers steps (unroll runs) → k < length runs → (get_or runs k no_run).number < length steps
run_number steps [] k some are inside = absurd (omega arith)
run_number steps (r ∷ runs) zero some are inside =
    let front : List ℕ = replicate r.count r.number in
    let within : 0 < length (front ++ unroll runs) = omega (arith, some.0, length-append front (unroll runs), length-replicate r.count r.number) in
    let first : get_or (front ++ unroll runs) 0 0 ≡ r.number = get_or_append_left front (unroll runs) 0 0 (omega (arith, some.0, length-replicate r.count r.number)) ∙ get_or-replicate r.count 0 r.number 0 some.0 in
    subst (λ n. n < length steps) first (are 0 0 within)
run_number steps (r ∷ runs) (suc k) some are inside =
    run_number steps runs k some.1
    (λ j d within. subst (λ n. n < length steps) (get_or-append_right front (unroll runs) r.count (r.count + j) d (length-replicate r.count r.number) (omega arith) ∙ ap (λ m. get_or (unroll runs) m d) (back j)) (are (r.count + j) d (omega (arith, within, length-append front (unroll runs), length-replicate r.count r.number))))
    (omega (arith, inside))
  where
    front : List ℕ
    front = replicate r.count r.number

    back : (j : ℕ) → r.count + j - r.count ≡ j
    back j = omega arith
