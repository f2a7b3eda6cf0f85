-- How many layers are written from one on, and whether their rows have the right widths.
use Rattle.std.proofs.Common.{◌≡◌, ◌≢◌, ◌≤◌, ◌<◌, ◌+◌, ◌==◌, ℕ, zero, suc, Bool, true, false, not, ◌&&◌, cond, add-one, List, [], ◌∷◌, length, drop, get_or, Some, None, refl, sym, ap, ◌∙◌, subst, arith}
use Rattle.std.proofs.Math.Seq.{drop-length}
use Rattle.std.proofs.lemmas.Bool.{eqb-true}
use Rattle.std.proofs.lemmas.List.{drop_more}
use Rattle.hm_base.specs.declared.plain.Format.{Format}
use Rattle.hm_graph_laws.specs.Prices.{Row}
use Rattle.hm_graph.specs.Prices.{is_left_out}
use Rattle.hm_graph.specs.Steps.{Step, leaves_out}
use Rattle.hm_graph.specs.Kept.{kept_count}
use Rattle.hm_check.specs.Steps.{count_over, other_width_over}

pub other_test : (a b : ℕ) → a ≢ b → (a == b) ≡ false
other_test a b h = by_test (a == b) refl
  where
    by_test : (t : Bool) → (a == b) ≡ t → t ≡ false
    by_test true e = absurd (h (eqb-true a b e))
    by_test false e = refl

-- ---- How many

pub some_counted : (format : Format) (k : ℕ) (steps : List Step) → 0 < count_over format k steps
some_counted format k [] = omega arith
some_counted format k (step ∷ steps) = by_test (is_left_out format k step) (some_counted format (suc k) steps)
  where
    by_test : (b : Bool) → 0 < count_over format (suc k) steps → 0 < cond b (count_over format (suc k) steps) (suc (count_over format (suc k) steps))
    by_test true more = more
    by_test false more = omega arith

-- the layers from one on are counted by its step
pub counted : (format : Format) (k : ℕ) (steps : List Step) → k < length steps
    → count_over format k (drop k steps) ≡ cond (is_left_out format k (get_or steps k [])) (count_over format (k + 1) (drop (k + 1) steps)) (suc (count_over format (k + 1) (drop (k + 1) steps)))
counted format k steps h =
    ap (count_over format k) (drop_more steps k [] h)
    ∙ ap (λ j. cond (is_left_out format k (get_or steps k [])) (count_over format j (drop (k + 1) steps)) (suc (count_over format j (drop (k + 1) steps)))) (sym (add-one k))

pub counted_out : (format : Format) (k : ℕ) (steps : List Step) → k < length steps → is_left_out format k (get_or steps k []) ≡ true → count_over format k (drop k steps) ≡ count_over format (k + 1) (drop (k + 1) steps)
counted_out format k steps h e = counted format k steps h ∙ rw e refl

pub counted_in : (format : Format) (k : ℕ) (steps : List Step) → k < length steps → is_left_out format k (get_or steps k []) ≡ false → count_over format k (drop k steps) ≡ suc (count_over format (k + 1) (drop (k + 1) steps))
counted_in format k steps h e = counted format k steps h ∙ rw e refl

-- after all steps the last layer is left
pub counted_end : (format : Format) (k : ℕ) (steps : List Step) → k ≡ length steps → count_over format k (drop k steps) ≡ 1
counted_end format k steps e = rw (e, drop-length steps) refl

pub out_later : (format : Format) (k : ℕ) (step : Step) → 0 < k → is_left_out format k step ≡ leaves_out format step
out_later format k step some = ap (λ b. not b && leaves_out format step) (other_test k 0 (λ none. omega (arith, none, some)))

-- after the first layer each layer is written whose step says so
kept_counted : (format : Format) (k : ℕ) (steps : List Step) → 0 < k → count_over format k steps ≡ kept_count format steps + 1
kept_counted format k [] some = refl
kept_counted format k (step ∷ steps) some = by_test (leaves_out format step) (out_later format k step some) (kept_counted format (suc k) steps (omega arith))
  where
    by_test : (b : Bool) → is_left_out format k step ≡ b → count_over format (suc k) steps ≡ kept_count format steps + 1
        → cond (is_left_out format k step) (count_over format (suc k) steps) (suc (count_over format (suc k) steps)) ≡ cond b (kept_count format steps) (suc (kept_count format steps)) + 1
    by_test true e more = rw e more
    by_test false e more = rw e (omega (arith, more))

-- the first one is written in any case
pub first_counted : (format : Format) (steps : List Step) (out : Bool) → 0 < length steps → out ≡ leaves_out format (get_or steps 0 []) → count_over format 0 steps ≡ cond out (kept_count format steps + 2) (kept_count format steps + 1)
first_counted format [] out some is = absurd (omega (arith, some))
first_counted format (step ∷ steps) out some is = by_test out is (kept_counted format 1 steps (omega arith))
  where
    by_test : (b : Bool) → b ≡ leaves_out format step → count_over format 1 steps ≡ kept_count format steps + 1
        → suc (count_over format 1 steps) ≡ cond b (cond (leaves_out format step) (kept_count format steps) (suc (kept_count format steps)) + 2) (cond (leaves_out format step) (kept_count format steps) (suc (kept_count format steps)) + 1)
    by_test true e more = rw (sym e) (omega (arith, more))
    by_test false e more = rw (sym e) (omega (arith, more))

-- no more layers are written after one than in all
pub fewer_counted : (format : Format) (j n m : ℕ) (steps : List Step) → n ≡ j + m → count_over format n (drop m steps) ≤ count_over format j steps
fewer_counted format j n zero steps e =
    let same : j ≡ n = omega (arith, e) in
    subst (λ i. count_over format i steps ≤ count_over format j steps) same (omega arith)
fewer_counted format j n (suc m) [] e = omega arith
fewer_counted format j n (suc m) (step ∷ steps) e = by_test (is_left_out format j step) (fewer_counted format (suc j) n m steps (omega (arith, e)))
  where
    by_test : (b : Bool) → count_over format n (drop m steps) ≤ count_over format (suc j) steps → count_over format n (drop m steps) ≤ cond b (count_over format (suc j) steps) (suc (count_over format (suc j) steps))
    by_test true more = more
    by_test false more = omega (arith, more)

-- ---- Widths

wide : (format : Format) (last k : ℕ) (steps : List Step) (row : Row) (rows : List Row) → k < length steps
    → other_width_over format k last (drop k steps) (row ∷ rows) ≡ cond (is_left_out format k (get_or steps k [])) (other_width_over format (k + 1) last (drop (k + 1) steps) (row ∷ rows))
    (cond (length row == length (get_or steps k [])) (other_width_over format (k + 1) last (drop (k + 1) steps) rows) (Some (record { layer = k; got = length row; want = length (get_or steps k []) })))
wide format last k steps row rows h =
    ap (λ s. other_width_over format k last s (row ∷ rows)) (drop_more steps k [] h)
    ∙ ap (λ j. cond (is_left_out format k (get_or steps k [])) (other_width_over format j last (drop (k + 1) steps) (row ∷ rows))
    (cond (length row == length (get_or steps k [])) (other_width_over format j last (drop (k + 1) steps) rows) (Some (record { layer = k; got = length row; want = length (get_or steps k []) })))) (sym (add-one k))

pub wide_out : (format : Format) (last k at : ℕ) (steps : List Step) (rows : List Row) → k < length steps → at < length rows → is_left_out format k (get_or steps k []) ≡ true
    → other_width_over format k last (drop k steps) (drop at rows) ≡ other_width_over format (k + 1) last (drop (k + 1) steps) (drop at rows)
wide_out format last k at steps rows h there e =
    subst (λ left. other_width_over format k last (drop k steps) left ≡ other_width_over format (k + 1) last (drop (k + 1) steps) left) (sym (drop_more rows at [] there))
    (wide format last k steps (get_or rows at []) (drop (at + 1) rows) h ∙ rw e refl)

pub wide_kept : (format : Format) (last k at : ℕ) (steps : List Step) (rows : List Row) → k < length steps → at < length rows → is_left_out format k (get_or steps k []) ≡ false
    → other_width_over format k last (drop k steps) (drop at rows) ≡ cond (length (get_or rows at []) == length (get_or steps k [])) (other_width_over format (k + 1) last (drop (k + 1) steps) (drop (at + 1) rows))
    (Some (record { layer = k; got = length (get_or rows at []); want = length (get_or steps k []) }))
wide_kept format last k at steps rows h there e =
    ap (other_width_over format k last (drop k steps)) (drop_more rows at [] there)
    ∙ wide format last k steps (get_or rows at []) (drop (at + 1) rows) h ∙ rw e refl

-- the last layer
pub wide_end : (format : Format) (last k at : ℕ) (steps : List Step) (rows : List Row) → k ≡ length steps → at < length rows
    → other_width_over format k last (drop k steps) (drop at rows) ≡ cond (length (get_or rows at []) == last) None (Some (record { layer = k; got = length (get_or rows at []); want = last }))
wide_end format last k at steps rows h there = rw (drop_more rows at [] there, h, drop-length steps) refl
