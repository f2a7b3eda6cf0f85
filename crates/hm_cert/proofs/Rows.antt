-- Rows that are kept in one list: how many there are, each of them, and one more.
use Rattle.std.proofs.Common.{◌≡◌, ◌-◌, ◌<◌, ◌≤◌, ℕ, zero, suc, List, [], ◌∷◌, ◌++◌, length, get_or, take, drop, map, refl, sym, ap, ◌∙◌, subst, arith, length-append, length-drop}
use Rattle.std.proofs.Math.Seq.{drop-append_seam}
use Rattle.std.proofs.lemmas.List.{take-append-le, take_all, drop-append-le}
use Rattle.std.specs.Prelude.{slice_range}
use Rattle.hm_cert.specs.Layout.{told, rows_from, EndsAscend}

pub length-rows_from : (numbers : List ℕ) (start : ℕ) (ends : List ℕ) → length (rows_from numbers start ends) ≡ length ends
length-rows_from numbers start [] = refl
length-rows_from numbers start (end ∷ ends) = ap suc (length-rows_from numbers end ends)

pub ascends_le : (start : ℕ) (ends : List ℕ) (total : ℕ) → EndsAscend start ends total → start ≤ total
ascends_le start [] total h = omega (arith, h)
ascends_le start (end ∷ ends) total h = omega (arith, h.0, ascends_le end ends total h.1)

-- one more end
pub ascends_push : (start : ℕ) (ends : List ℕ) (total next : ℕ) → EndsAscend start ends total → total ≤ next → EndsAscend start (ends ++ next ∷ []) next
ascends_push start [] total next h l = (omega (arith, h, l), refl)
ascends_push start (end ∷ ends) total next h l = (h.0, ascends_push end ends total next h.1 l)

same_range : (xs ys : List ℕ) (s e : ℕ) → s ≤ e → e ≤ length xs → slice_range (xs ++ ys) s e ≡ slice_range xs s e
same_range xs ys s e low high =
    ap (take (e - s)) (drop-append-le s xs ys (omega arith))
    ∙ take-append-le (e - s) (drop s xs) ys (omega (arith, length-drop s xs))

last_range : (xs ys : List ℕ) → slice_range (xs ++ ys) (length xs) (length (xs ++ ys)) ≡ ys
last_range xs ys = ap (take (length (xs ++ ys) - length xs)) (drop-append_seam xs ys) ∙ take_all (length (xs ++ ys) - length xs) ys (omega (arith, length-append xs ys))

-- one more row
pub rows_push : (numbers row : List ℕ) (start : ℕ) (ends : List ℕ) → EndsAscend start ends (length numbers) → rows_from (numbers ++ row) start (ends ++ length (numbers ++ row) ∷ []) ≡ rows_from numbers start ends ++ map told row ∷ []
rows_push numbers row start [] h = ap (λ xs. map told xs ∷ []) (subst (λ k. slice_range (numbers ++ row) k (length (numbers ++ row)) ≡ row) (sym h) (last_range numbers row))
rows_push numbers row start (end ∷ ends) h =
    let first : map told (slice_range (numbers ++ row) start end) ≡ map told (slice_range numbers start end) = ap (map told) (same_range numbers row start end h.0 (ascends_le end ends (length numbers) h.1)) in
    ap (λ x. x ∷ rows_from (numbers ++ row) end (ends ++ length (numbers ++ row) ∷ [])) first
    ∙ ap (λ x. map told (slice_range numbers start end) ∷ x) (rows_push numbers row end ends h.1)

-- where a row begins and ends
pub record RowAt (numbers : List ℕ) (start : ℕ) (ends : List ℕ) (k : ℕ) : Type 0 where
  pub low : get_or (start ∷ ends) k 0 ≤ get_or ends k 0
  pub high : get_or ends k 0 ≤ length numbers
  pub row : get_or (rows_from numbers start ends) k [] ≡ map told (slice_range numbers (get_or (start ∷ ends) k 0) (get_or ends k 0))

pub row_at : (numbers : List ℕ) (start : ℕ) (ends : List ℕ) (k : ℕ) → EndsAscend start ends (length numbers) → k < length ends → RowAt numbers start ends k
row_at numbers start [] k h l = absurd (omega arith)
row_at numbers start (end ∷ ends) zero h l = record { low = h.0; high = ascends_le end ends (length numbers) h.1; row = refl }
row_at numbers start (end ∷ ends) (suc k) h l =
    let r = row_at numbers end ends k h.1 (omega arith) in
    record { low = r.low; high = r.high; row = r.row }

-- a row and its end that are pushed
pub pushed : (numbers row more : List ℕ) (ends more_ends : List ℕ) (at : ℕ) → EndsAscend 0 ends (length numbers) → more ≡ numbers ++ row → at ≡ length more → more_ends ≡ ends ++ at ∷ [] → EndsAscend 0 more_ends (length more) × (rows_from more 0 more_ends ≡ rows_from numbers 0 ends ++ map told row ∷ [])
pushed numbers row more ends more_ends at h grown here ended =
    let same_ends : more_ends ≡ ends ++ length (numbers ++ row) ∷ [] = ended ∙ ap (λ k. ends ++ k ∷ []) (here ∙ ap length grown) in
    let P : List ℕ → List ℕ → Type 0 = λ ns es. EndsAscend 0 es (length ns) × (rows_from ns 0 es ≡ rows_from numbers 0 ends ++ map told row ∷ []) in
    subst (λ ns. P ns more_ends) (sym grown) (subst (P (numbers ++ row)) (sym same_ends)
    (ascends_push 0 ends (length numbers) (length (numbers ++ row)) h (omega (arith, length-append numbers row)), rows_push numbers row 0 ends h))
