-- The prices and the first way over the steps from a layer of one state to the next one.
use Rattle.std.proofs.Common.{◌≡◌, ◌∙◌, ℕ, zero, suc, ◌+◌, ◌-◌, ◌*◌, ◌<◌, ◌≤◌, ◌^◌, Bool, true, false, cond, List, [], ◌∷◌, ◌++◌, length, map, get_or, drop, Option, Some, None, refl, sym, ap, subst, arith, append_assoc, append-nil, ◌⊎◌, inl, inr, ⊎_elim, slice_index_or}
use Rattle.std.proofs.Math.ListN as lists
use Rattle.std.proofs.Math.Seq.{drop-length}
use Rattle.std.proofs.lemmas.Bool.{cases_lt}
use Rattle.std.proofs.lemmas.List.{drop_all, drop_more, get_or_append_left, get_or_at, length-append, length-drop, length-map}
use Rattle.hm_base.specs.declared.plain.Format.TheVariants.{Sparse}
use Rattle.hm_cert.specs.Rows.{AreBelow}
use Rattle.hm_edges.specs.Pieces.{piece_bytes, piece_text}
use Rattle.hm_graph.specs.Graphs.{AreLow, IsLowStep}
use Rattle.hm_graph.specs.Joined.{IsOnePrice, kept_rows}
use Rattle.hm_graph.specs.Prices.{first_row, row_over, rows_of, zeros}
use Rattle.hm_graph.specs.Steps.{Step, is_forced}
use Rattle.hm_graph.specs.Ways.{along, hop_taken}
use Rattle.hm_graph.specs.declared.hops.Hop.{Hop}
use Rattle.hm_graph_laws.specs.Prices.{Row}
use Rattle.hm_graph_laws.specs.Units.{fixed}
use Rattle.hm_shortest.proofs.FromLast.{prices_below}
use Rattle.hm_shortest.specs.Stretches.{AreFound, AreUpTo, KeptView, own_way, owns_in, placed, steps_in}
use Rattle.hm_refs.specs.Names.{Entry}

-- ---- Rows

-- the rows from layer k on are found, and no step from there on writes too much
pub record IsFoundFrom (last : ℕ) (steps : List Step) (k : ℕ) (found : List Row) : Type 0 where
  pub rows : AreFound last steps k found
  pub low : AreLow (drop k steps)

pub found_last : (last : ℕ) (steps : List Step) (row : Row) → row ≡ zeros last → IsFoundFrom last steps (length steps) (row ∷ [])
found_last last steps row is =
    let none : drop (length steps) steps ≡ [] = drop-length steps in
    record {
      rows = record {
        within = omega arith;
        count = omega arith;
        at = λ j low high.
            let same : length steps ≡ j = omega (arith, low, high) in
            let here : length steps - j ≡ 0 = omega (arith, same) in
            ap (λ n. slice_index_or (row ∷ []) n []) here ∙ is ∙ ap (λ s. first_row (rows_of last s)) (sym none) ∙ ap (λ n. first_row (rows_of last (drop n steps))) same;
      };
      low = subst AreLow (sym none) tt;
    }

-- the steps from k on
pub steps_from : (stretch : List KeptView) (k : ℕ) (kept : KeptView) → k < length stretch → kept ≡ get_or stretch k kept → drop k (steps_in stretch) ≡ kept.step ∷ drop (k + 1) (steps_in stretch)
steps_from stretch k kept inside is =
    drop_more (steps_in stretch) k kept.step (omega (arith, inside, length-map stretch (λ (x : KeptView). x.step)))
    ∙ ap (λ s. s ∷ drop (k + 1) (steps_in stretch)) (lists.get_or-map (λ (x : KeptView). x.step) stretch k kept ∙ ap (λ x. x.step) (sym is))

pub owns_from : (stretch : List KeptView) (k : ℕ) (kept : KeptView) → k < length stretch → kept ≡ get_or stretch k kept → drop k (owns_in stretch) ≡ kept.own ∷ drop (k + 1) (owns_in stretch)
owns_from stretch k kept inside is =
    drop_more (owns_in stretch) k kept.own (omega (arith, inside, length-map stretch (λ (x : KeptView). x.own)))
    ∙ ap (λ s. s ∷ drop (k + 1) (owns_in stretch)) (lists.get_or-map (λ (x : KeptView). x.own) stretch k kept ∙ ap (λ x. x.own) (sym is))

pub found_more : (last : ℕ) (stretch : List KeptView) (k : ℕ) (kept : KeptView) (found : List Row) (row front : Row) → k < length stretch → kept ≡ get_or stretch k kept → IsLowStep kept.step → IsFoundFrom last (steps_in stretch) (k + 1) found
    → row ≡ slice_index_or found (length found - 1) [] → front ≡ row_over row kept.step → IsFoundFrom last (steps_in stretch) k (found ++ front ∷ [])
found_more last stretch k kept found row front inside is low some after over =
    let steps : List Step = steps_in stretch in
    let size : length steps ≡ length stretch = length-map stretch (λ (x : KeptView). x.step) in
    let cut : drop k steps ≡ kept.step ∷ drop (k + 1) steps = steps_from stretch k kept inside is in
    let place : length found - 1 ≡ length steps - (k + 1) = omega (arith, some.rows.count, some.rows.within) in
    let next : row ≡ first_row (rows_of last (drop (k + 1) steps)) = after ∙ ap (λ n. slice_index_or found n []) place ∙ some.rows.at (k + 1) (omega arith) some.rows.within in
    let here : front ≡ first_row (rows_of last (drop k steps)) = over ∙ ap (λ r. row_over r kept.step) next ∙ ap (λ s. first_row (rows_of last s)) (sym cut) in
    record {
      rows = record {
        within = omega (arith, some.rows.within);
        count = omega (arith, some.rows.count, length-append found (front ∷ []));
        at = λ j from to. by_place j to (cases_lt k j) from here (some.rows.at j) some.rows.count some.rows.within;
      };
      low = subst AreLow (sym cut) (low, some.low);
    }
  where
    by_place : (j : ℕ) → j ≤ length (steps_in stretch) → (k < j) ⊎ (j ≤ k) → k ≤ j → front ≡ first_row (rows_of last (drop k (steps_in stretch)))
        → (k + 1 ≤ j → j ≤ length (steps_in stretch) → slice_index_or found (length (steps_in stretch) - j) [] ≡ first_row (rows_of last (drop j (steps_in stretch))))
        → length found + (k + 1) ≡ length (steps_in stretch) + 1 → k + 1 ≤ length (steps_in stretch)
        → slice_index_or (found ++ front ∷ []) (length (steps_in stretch) - j) [] ≡ first_row (rows_of last (drop j (steps_in stretch)))
    by_place j to (inl later) from here at count within = get_or_append_left found (front ∷ []) [] (length (steps_in stretch) - j) (omega (arith, later, count, within, to)) ∙ at (omega (arith, later)) to
    by_place j to (inr not) from here at count within =
        let same : j ≡ k = omega (arith, not, from) in
        get_or_at found front [] [] (length (steps_in stretch) - j) (omega (arith, count, same, within)) ∙ here ∙ ap (λ n. first_row (rows_of last (drop n (steps_in stretch)))) (sym same)

-- no price is too great
pub found_below : (last : ℕ) (steps : List Step) (k : ℕ) (found : List Row) (row : Row) → length steps < 2 ^ 28 → IsFoundFrom last steps k found → row ≡ slice_index_or found (length found - 1) [] → AreBelow (2 ^ 62) row
found_below last steps k found row few some is =
    let place : length found - 1 ≡ length steps - k = omega (arith, some.rows.count, some.rows.within) in
    let here : row ≡ first_row (rows_of last (drop k steps)) = is ∙ ap (λ n. slice_index_or found n []) place ∙ some.rows.at k (omega arith) some.rows.within in
    subst (AreBelow (2 ^ 62)) (sym here) (prices_below last (drop k steps) 0 some.low (omega (arith, few, length-drop k steps)))

-- ---- The first price

-- there is one row more than steps
pub found_count : (last : ℕ) (stretch same : List KeptView) (found : List Row) → same ≡ stretch → AreFound last (steps_in same) 0 found → length found ≡ length stretch + 1
found_count last stretch same found e h = omega (arith, ap length e, length-map same (λ (x : KeptView). x.step), h.count)

-- the only price of the first row, which isn't too great
pub record IsOne (last : ℕ) (steps : List Step) (price : ℕ) : Type 0 where
  pub is : IsOnePrice last steps price
  pub low : price < 2 ^ 62

pub one_is : (last : ℕ) (stretch same : List KeptView) (found : List Row) (row : Row) (price : ℕ) → same ≡ stretch → length stretch < 2 ^ 28 → AreFound last (steps_in same) 0 found → AreLow (steps_in same) → row ≡ slice_index_or found (length stretch) []
    → row ≡ Some price ∷ [] → IsOne last (steps_in stretch) price
one_is last stretch same found row price is few rows low at one =
    let steps : List Step = steps_in stretch in
    let here : AreFound last steps 0 found = subst (λ x. AreFound last (steps_in x) 0 found) is rows in
    let size : length stretch ≡ length steps - 0 = omega (arith, length-map stretch (λ (x : KeptView). x.step)) in
    let first : row ≡ first_row (rows_of last steps) = at ∙ ap (λ n. slice_index_or found n []) size ∙ here.at 0 (omega arith) (omega arith) in
    let below : AreBelow (2 ^ 62) (first_row (rows_of last steps)) = prices_below last steps 0 (subst (λ x. AreLow (steps_in x)) is low) (omega (arith, few, size)) in
    record { is = sym first ∙ one; low = (subst (AreBelow (2 ^ 62)) (sym first ∙ one) below).0 }

beyond : (rows : List Row) (k : ℕ) → length rows ≤ k → slice_index_or rows k [] ≡ []
beyond [] k past = refl
beyond (row ∷ rows) zero past = absurd (omega (arith, past))
beyond (row ∷ rows) (suc k) past = beyond rows k (omega (arith, past))

-- no price is too great
pub all_up_to : (last : ℕ) (stretch same : List KeptView) (found : List Row) → same ≡ stretch → length stretch < 2 ^ 28 → AreFound last (steps_in same) 0 found → AreLow (steps_in same) → AreUpTo (2 ^ 62) found
all_up_to last stretch same found is few rows low = λ k. by_place k (cases_lt (length steps) k)
  where
    steps : List Step
    steps = steps_in same

    size : length steps ≡ length stretch
    size = length-map same (λ (x : KeptView). x.step) ∙ ap length is

    by_place : (k : ℕ) → (length steps < k) ⊎ (k ≤ length steps) → AreBelow (2 ^ 62) (slice_index_or found k [])
    by_place k (inl past) = subst (AreBelow (2 ^ 62)) (sym (beyond found k (omega (arith, past, rows.count)))) tt
    by_place k (inr within) =
        let back : length steps - (length steps - k) ≡ k = omega (arith, within) in
        let at : slice_index_or found k [] ≡ first_row (rows_of last (drop (length steps - k) steps)) = ap (λ n. slice_index_or found n []) (sym back) ∙ rows.at (length steps - k) (omega arith) (omega arith) in
        subst (AreBelow (2 ^ 62)) (sym at) (prices_below last steps (length steps - k) low (omega (arith, few, size)))

-- ---- The way

-- the first k steps of the way are written, and this is the place that they lead to
abbrev pub WayWritten : List Entry → List KeptView → List Row → List ℕ → ℕ → List ℕ → ℕ → Type 0
WayWritten t stretch found start k out place =
    (last : ℕ) → AreFound last (steps_in stretch) 0 found → start ++ own_way t last (owns_in stretch) (steps_in stretch) 0 ≡ out ++ own_way t last (drop k (owns_in stretch)) (drop k (steps_in stretch)) place

pub way_more : (t : List Entry) (stretch : List KeptView) (found : List Row) (start out more : List ℕ) (k place : ℕ) (kept : KeptView) (hop : Hop) (row : Row) → k < length stretch → kept ≡ get_or stretch k kept
    → row ≡ slice_index_or found (length stretch - k - 1) [] → Some hop ≡ hop_taken row kept.step place → more ≡ out ++ piece_text t kept.own hop.piece → WayWritten t stretch found start k out place → WayWritten t stretch found start (k + 1) more hop.to
way_more t stretch found start out more k place kept hop row inside is after taken text written = λ last rows.
    let steps : List Step = steps_in stretch in
    let size : length steps ≡ length stretch = length-map stretch (λ (x : KeptView). x.step) in
    let at : length stretch - k - 1 ≡ length steps - (k + 1) = omega (arith, size) in
    let next : row ≡ first_row (rows_of last (drop (k + 1) steps)) = after ∙ ap (λ n. slice_index_or found n []) at ∙ rows.at (k + 1) (omega arith) (omega (arith, inside, size)) in
    let rest : ℕ → List ℕ = own_way t last (drop (k + 1) (owns_in stretch)) (drop (k + 1) steps) in
    let one : own_way t last (drop k (owns_in stretch)) (drop k steps) place ≡ piece_text t kept.own hop.piece ++ rest hop.to =
    (λ i. own_way t last (owns_from stretch k kept inside is i) (steps_from stretch k kept inside is i) place)
    ∙ ap (along (piece_bytes t (fixed kept.own)) rest) (ap (λ r. hop_taken r kept.step place) (sym next) ∙ sym taken) in
    written last rows ∙ ap (λ b. out ++ b) one ∙ sym (append_assoc out (piece_text t kept.own hop.piece) (rest hop.to)) ∙ ap (λ b. b ++ rest hop.to) (sym text)

pub way_all : (t : List Entry) (stretch : List KeptView) (found : List Row) (start out : List ℕ) (k place : ℕ) → length stretch ≤ k → WayWritten t stretch found start k out place
    → (last : ℕ) → AreFound last (steps_in stretch) 0 found → out ≡ start ++ own_way t last (owns_in stretch) (steps_in stretch) 0
way_all t stretch found start out k place past written last rows =
    let none : drop k (owns_in stretch) ≡ [] = drop_all k (owns_in stretch) (omega (arith, past, length-map stretch (λ (x : KeptView). x.own))) in
    let over : own_way t last (drop k (owns_in stretch)) (drop k (steps_in stretch)) place ≡ [] = ap (λ owns. own_way t last owns (drop k (steps_in stretch)) place) none ∙ no_units t last (drop k (steps_in stretch)) place in
    sym (written last rows ∙ ap (λ b. out ++ b) over ∙ append-nil out)
  where
    no_units : (t : List Entry) (last : ℕ) (steps : List Step) (place : ℕ) → own_way t last [] steps place ≡ []
    no_units t last [] place = refl
    no_units t last (step ∷ steps) place = refl

-- ---- Rows that are kept

-- those of the first k steps are
abbrev pub RowsKept : List KeptView → List Row → ℕ → List Row → ℕ → List Row → Type 0
RowsKept stretch found top start k rows =
    (last : ℕ) → AreFound last (steps_in stretch) 0 found → start ++ map (placed top) (kept_rows Sparse last (steps_in stretch)) ≡ rows ++ map (placed top) (kept_rows Sparse last (drop k (steps_in stretch)))

pub row_forced : (stretch : List KeptView) (found : List Row) (top : ℕ) (start rows : List Row) (k : ℕ) (kept : KeptView) → k < length stretch → kept ≡ get_or stretch k kept → is_forced kept.step ≡ true → RowsKept stretch found top start k rows → RowsKept stretch found top start (k + 1) rows
row_forced stretch found top start rows k kept inside is forced done = λ last at.
    let steps : List Step = steps_in stretch in
    let rest : List Row = kept_rows Sparse last (drop (k + 1) steps) in
    done last at
    ∙ ap (λ r. rows ++ map (placed top) r)
    (ap (kept_rows Sparse last) (steps_from stretch k kept inside is) ∙ ap (λ b. cond b rest (row_over (first_row (rows_of last (drop (k + 1) steps))) kept.step ∷ rest)) forced)

pub row_kept : (stretch : List KeptView) (found : List Row) (top : ℕ) (start rows : List Row) (k : ℕ) (kept : KeptView) (row : Row) → k < length stretch → kept ≡ get_or stretch k kept → is_forced kept.step ≡ false
    → row ≡ placed top (slice_index_or found (length stretch - k) []) → RowsKept stretch found top start k rows → RowsKept stretch found top start (k + 1) (rows ++ row ∷ [])
row_kept stretch found top start rows k kept row inside is free own done = λ last at.
    let steps : List Step = steps_in stretch in
    let size : length steps ≡ length stretch = length-map stretch (λ (x : KeptView). x.step) in
    let rest : List Row = kept_rows Sparse last (drop (k + 1) steps) in
    let front : Row = row_over (first_row (rows_of last (drop (k + 1) steps))) kept.step in
    let place : length stretch - k ≡ length steps - k = omega (arith, size) in
    let cut : drop k steps ≡ kept.step ∷ drop (k + 1) steps = steps_from stretch k kept inside is in
    let here : row ≡ placed top front = own ∙ ap (placed top) (ap (λ n. slice_index_or found n []) place ∙ at.at k (omega arith) (omega (arith, inside, size)) ∙ ap (λ s. first_row (rows_of last s)) cut) in
    done last at ∙ ap (λ r. rows ++ map (placed top) r) (ap (kept_rows Sparse last) cut ∙ ap (λ b. cond b rest (front ∷ rest)) free) ∙ ap (λ r. rows ++ r ∷ map (placed top) rest) (sym here) ∙ sym (append_assoc rows (row ∷ []) (map (placed top) rest))

pub rows_all : (stretch : List KeptView) (found : List Row) (top : ℕ) (start rows : List Row) (k : ℕ) → length stretch ≤ k → RowsKept stretch found top start k rows
    → (last : ℕ) → AreFound last (steps_in stretch) 0 found → rows ≡ start ++ map (placed top) (kept_rows Sparse last (steps_in stretch))
rows_all stretch found top start rows k past done last at =
    let none : drop k (steps_in stretch) ≡ [] = drop_all k (steps_in stretch) (omega (arith, past, length-map stretch (λ (x : KeptView). x.step))) in
    sym (done last at ∙ ap (λ s. rows ++ map (placed top) (kept_rows Sparse last s)) none ∙ append-nil rows)
