-- What is known of rows, one layer on.
use Rattle.std.proofs.Common.{◌≡◌, ◌==◌, cond, ◌≤◌, ◌<◌, ◌+◌, ◌*◌, ◌^◌, ℕ, suc, Bool, true, false, add-one, List, [], ◌∷◌, length, map, drop, get_or, Option, Some, None, refl, sym, ap, ◌∙◌, subst, arith}
use Rattle.std.specs.Option.{option_map, option_or}
use Rattle.std.proofs.Math.Seq.{drop-length}
use Rattle.std.proofs.lemmas.Bool.{eq-eqb, eqb-true}
use Rattle.std.proofs.lemmas.List.{drop_more, drop_all, length-map}
use Rattle.hm_base.specs.declared.plain.Format.{Format}
use Rattle.hm_cert.specs.Layout.{told}
use Rattle.hm_cert.specs.Places.{IsRowPlace}
use Rattle.hm_graph_laws.specs.Prices.{Row, first_price}
use Rattle.hm_graph.specs.Graphs.{GraphView, AreLow}
use Rattle.hm_graph.specs.Prices.{row_over, is_left_out, full_rows}
use Rattle.hm_graph.specs.Steps.{Step}
use Rattle.hm_check.specs.Rows.{OtherWidth, HighPrice, high_in, high_at_end, or_else}
use Rattle.hm_check.specs.Steps.{count_over, other_width_over, high_price_over, by_full_over, by_width_over}
use Rattle.hm_check.specs.Verdicts.{by_first, by_high}
use Rattle.hm_cert.specs.Rows.{AreBelow}
use Rattle.hm_check.specs.Sweeps.{width_why, high_why, AreInPlace, ArePriced, AreKnown, IsSwept, judged, judged_at_end}
use Rattle.hm_check.specs.declared.sweep.SweepFound.{SweepFound}
use Rattle.hm_check.specs.declared.sweep.Sweep.{Sweep}
use Rattle.hm_check.specs.declared.verdicts.Why.{Why}
use Rattle.hm_check.specs.declared.verdicts.Why.TheVariants.{WrongWidth}
use Rattle.hm_check.specs.declared.verdicts.Verdict.TheVariants.{No}
use Rattle.hm_check.proofs.Counting.{some_counted, counted_out, counted_in, counted_end, fewer_counted, wide_out, wide_kept, wide_end}
use Rattle.hm_graph.proofs.Low.{low_step}
use Rattle.hm_check.proofs.Sums.{below_more, row_below, written_below, row_at, high_self}

-- there is a row at hand
pub has_row : (g : GraphView) (rows : List Row) (k at : ℕ) → at + count_over g.source.format k (drop k g.steps) ≡ length rows → at < length rows
has_row g rows k at left = omega (arith, left, some_counted g.source.format k (drop k g.steps))

-- and one before a layer that is written
pub has_front : (g : GraphView) (rows : List Row) (k at : ℕ) → AreInPlace g rows → k < length g.steps → is_left_out g.source.format k (get_or g.steps k []) ≡ false
    → at + count_over g.source.format (k + 1) (drop (k + 1) g.steps) ≡ length rows → 1 ≤ at
has_front g rows k at h within kept left =
    omega (arith, left, h.count, counted_in g.source.format k g.steps within kept, fewer_counted g.source.format 0 k k g.steps (omega arith))

pub front_left : (g : GraphView) (rows : List Row) (k at front : ℕ) → k < length g.steps → is_left_out g.source.format k (get_or g.steps k []) ≡ false
    → at + count_over g.source.format (k + 1) (drop (k + 1) g.steps) ≡ length rows → front + 1 ≡ at → front + count_over g.source.format k (drop k g.steps) ≡ length rows
front_left g rows k at front within kept left e = omega (arith, left, e, counted_in g.source.format k g.steps within kept)

-- ---- Where no width is wrong

pub priced : (g : GraphView) (rows : List Row) (k : ℕ) (s : Sweep) (o : Option OtherWidth) → AreKnown g rows k s o → s.found.right ≡ true → ArePriced g rows k s
priced g rows k s None h e = h.1
priced g rows k s (Some w) h e = absurd (cc)

-- the next layer's prices are low enough
pub swept_below : (g : GraphView) (rows : List Row) (k : ℕ) (s : Sweep) → length g.steps < 2 ^ 29 → IsSwept g rows k s → s.found.right ≡ true → AreBelow (2 ^ 63 + 2 ^ 62) (map told s.next_row.items)
swept_below g rows k s few h right =
    let p = priced g rows k s _ h.known right in
    below_more (2 ^ 63 + p.turns * 2 ^ 33) (2 ^ 63 + 2 ^ 62) (map told s.next_row.items) (omega (arith, few, p.turned)) p.below

-- ---- What is found with one more row

pub judged_right : (found : SweepFound) (k : ℕ) (numbers next_row : List ℕ) (step : Step) (why high : Option Why) → length numbers ≡ length step → found.right ≡ true → why ≡ option_or high found.why
    → high ≡ option_map high_why (high_in k 0 (map told numbers) (row_over (map told next_row) step)) → record { right = true; why = why } ≡ judged found k (map told numbers) (map told next_row) step
judged_right found k numbers next_row step why high h e is f =
    ap (λ w. record { right = true; why = w }) (is ∙ ap (λ o. option_or o found.why) f)
    ∙ sym (rw (length-map numbers told, eq-eqb (length numbers) (length step) h, e) refl)

pub judged_low : (found : SweepFound) (k : ℕ) (numbers next_row : List ℕ) (step : Step) → length numbers ≡ length step → found.right ≡ true
    → None ≡ option_map high_why (high_in k 0 (map told numbers) (row_over (map told next_row) step)) → found ≡ judged found k (map told numbers) (map told next_row) step
judged_low found k numbers next_row step h e f = ap (λ r. record { right = r; why = found.why }) e ∙ judged_right found k numbers next_row step found.why None h e refl f

-- ---- The last layer

pub end_swept : (g : GraphView) (rows : List Row) (s : Sweep) → AreInPlace g rows → IsRowPlace rows s.at → s.at.row + 1 ≡ length rows → map told s.next_row.items ≡ get_or rows s.at.row []
    → s.found ≡ judged_at_end (length g.steps) (get_or rows s.at.row []) g.last → IsSwept g rows (length g.steps) s
end_swept g rows s h place at row found = record {
  place = place;
  written = ap (λ m. s.at.row + m) (counted_end g.source.format (length g.steps) g.steps refl) ∙ at;
  known = subst (AreKnown g rows (length g.steps) s) (sym (wide_end g.source.format g.last (length g.steps) s.at.row g.steps rows refl (omega (arith, at)))) (by_test (length (get_or rows s.at.row []) == g.last) refl found);
}
  where
    n : ℕ
    n = length g.steps

    here : Row
    here = get_or rows s.at.row []

    end_priced : length here ≡ g.last → s.found.why ≡ option_map high_why (high_at_end n 0 here) → ArePriced g rows n s
    end_priced width is =
        let there : s.at.row < length rows = omega (arith, at) in
        let cut : drop s.at.row rows ≡ here ∷ [] = drop_more rows s.at.row [] there ∙ ap (λ more. here ∷ more) (drop_all (s.at.row + 1) rows (omega (arith, at))) in
        record {
          more = [];
          full = (λ i. full_rows g.source.format n g.last (drop-length g.steps i) (cut i)) ∙ rw (eq-eqb (length here) g.last width) (ap (λ r. Some (r ∷ [])) (sym row));
          found = is ∙ sym (λ i. option_map high_why (high_price_over n (drop-length g.steps i) (row i ∷ [])));
          turns = 0;
          turned = omega arith;
          below = subst (AreBelow (2 ^ 63 + 0 * 2 ^ 33)) (sym row) (below_more (2 ^ 63) (2 ^ 63 + 0 * 2 ^ 33) here (omega arith) (written_below here (row_at rows s.at.row h.prices)));
        }

    by_test : (b : Bool) → (length here == g.last) ≡ b
        → s.found ≡ cond b (record { right = true; why = option_map high_why (high_at_end n 0 here) }) (record { right = false; why = Some (WrongWidth n (length here) g.last) })
        → AreKnown g rows n s (cond b None (Some (record { layer = n; got = length here; want = g.last })))
    by_test true e f = (ap (λ x. x.right) f, end_priced (eqb-true (length here) g.last e) (ap (λ x. x.why) f))
    by_test false e f = (ap (λ x. x.right) f, ap (λ x. x.why) f)

-- ---- A layer that is left out

pub out_full : (format : Format) (k last : ℕ) (step : Step) (steps : List Step) (row next : Row) (rows more : List Row) → is_left_out format k step ≡ true
    → full_rows format (k + 1) last steps (row ∷ rows) ≡ Some (next ∷ more) → full_rows format k last (step ∷ steps) (row ∷ rows) ≡ Some (row_over next step ∷ next ∷ more)
out_full format k last step steps row next rows more out h =
    let next_row : full_rows format (suc k) last steps (row ∷ rows) ≡ Some (next ∷ more) = subst (λ j. full_rows format j last steps (row ∷ rows) ≡ Some (next ∷ more)) (add-one k) h in
    rw (out, next_row) refl

pub out_high : (k : ℕ) (step : Step) (steps : List Step) (next : Row) (more : List Row) → high_price_over k (step ∷ steps) (row_over next step ∷ next ∷ more) ≡ high_price_over (k + 1) steps (next ∷ more)
out_high k step steps next more = ap (λ found. or_else found (high_price_over (suc k) steps (next ∷ more))) (high_self k 0 (row_over next step)) ∙ ap (λ j. high_price_over j steps (next ∷ more)) (sym (add-one k))

out_priced : (g : GraphView) (rows : List Row) (k : ℕ) (s t : Sweep) → k < length g.steps → AreLow g.steps → is_left_out g.source.format k (get_or g.steps k []) ≡ true → s.at.row < length rows → ArePriced g rows (k + 1) s
    → t.at ≡ s.at → t.found ≡ s.found → map told t.next_row.items ≡ row_over (map told s.next_row.items) (get_or g.steps k []) → ArePriced g rows k t
out_priced g rows k s t within low out there h at found row =
    let step : Step = get_or g.steps k [] in
    let next : Row = map told s.next_row.items in
    let cut : drop k g.steps ≡ step ∷ drop (k + 1) g.steps = drop_more g.steps k [] within in
    let left : drop s.at.row rows ≡ get_or rows s.at.row [] ∷ drop (s.at.row + 1) rows = drop_more rows s.at.row [] there in
    let next_row : full_rows g.source.format (k + 1) g.last (drop (k + 1) g.steps) (get_or rows s.at.row [] ∷ drop (s.at.row + 1) rows) ≡ Some (next ∷ h.more) = subst (λ r. full_rows g.source.format (k + 1) g.last (drop (k + 1) g.steps) r ≡ Some (next ∷ h.more)) left h.full in
    record {
      more = next ∷ h.more;
      full =
          (λ i. full_rows g.source.format k g.last (cut i) ((ap (λ n. drop n.row rows) at ∙ left) i))
          ∙ out_full g.source.format k g.last step (drop (k + 1) g.steps) (get_or rows s.at.row []) next (drop (s.at.row + 1) rows) h.more out next_row ∙ ap (λ r. Some (r ∷ next ∷ h.more)) (sym row);
      found = ap (λ x. x.why) found ∙ h.found ∙ ap (option_map high_why) (sym (out_high k step (drop (k + 1) g.steps) next h.more)) ∙ sym (λ i. option_map high_why (high_price_over k (cut i) (row i ∷ next ∷ h.more)));
      turns = h.turns + 1;
      turned = omega (arith, h.turned);
      below = subst (AreBelow (2 ^ 63 + (h.turns + 1) * 2 ^ 33)) (sym row)
          (below_more (2 ^ 63 + h.turns * 2 ^ 33 + 2 ^ 33) (2 ^ 63 + (h.turns + 1) * 2 ^ 33) (row_over next step) (omega arith) (row_below (2 ^ 63 + h.turns * 2 ^ 33) next step h.below (low_step g.steps k low)));
    }

pub out_swept : (g : GraphView) (rows : List Row) (k : ℕ) (s t : Sweep) → k < length g.steps → AreLow g.steps → is_left_out g.source.format k (get_or g.steps k []) ≡ true → IsSwept g rows (k + 1) s
    → t.at ≡ s.at → t.found ≡ s.found → (s.found.right ≡ true → map told t.next_row.items ≡ row_over (map told s.next_row.items) (get_or g.steps k [])) → IsSwept g rows k t
out_swept g rows k s t within low out h at found row = record {
  place = subst (IsRowPlace rows) (sym at) h.place;
  written = omega (arith, ap (λ p. p.row) at, h.written, counted_out g.source.format k g.steps within out);
  known = subst (AreKnown g rows k t) (sym (ap (λ p. other_width_over g.source.format k g.last (drop k g.steps) (drop p.row rows)) at ∙ wide_out g.source.format g.last k s.at.row g.steps rows within there out))
      (by_known (other_width_over g.source.format (k + 1) g.last (drop (k + 1) g.steps) (drop s.at.row rows)) h.known);
}
  where
    there : s.at.row < length rows
    there = has_row g rows (k + 1) s.at.row h.written

    by_known : (o : Option OtherWidth) → AreKnown g rows (k + 1) s o → AreKnown g rows k t o
    by_known None p = (ap (λ x. x.right) found ∙ p.0, out_priced g rows k s t within low out there p.1 at found (row p.0))
    by_known (Some w) p = (ap (λ x. x.right) found ∙ p.0, ap (λ x. x.why) found ∙ p.1)

-- ---- A layer that is written

in_full : (format : Format) (k last : ℕ) (step : Step) (steps : List Step) (row next : Row) (rows more : List Row) → is_left_out format k step ≡ false → length row ≡ length step
    → full_rows format (k + 1) last steps rows ≡ Some (next ∷ more) → full_rows format k last (step ∷ steps) (row ∷ rows) ≡ Some (row ∷ next ∷ more)
in_full format k last step steps row next rows more kept width h =
    let next_row : full_rows format (suc k) last steps rows ≡ Some (next ∷ more) = subst (λ j. full_rows format j last steps rows ≡ Some (next ∷ more)) (add-one k) h in
    rw (kept, eq-eqb (length row) (length step) width, next_row) refl

first_why : (a b : Option HighPrice) → option_map high_why (or_else a b) ≡ option_or (option_map high_why a) (option_map high_why b)
first_why None b = refl
first_why (Some a) b = refl

in_high : (k : ℕ) (step : Step) (steps : List Step) (row next : Row) (more : List Row)
    → option_map high_why (high_price_over k (step ∷ steps) (row ∷ next ∷ more)) ≡ option_or (option_map high_why (high_in k 0 row (row_over next step))) (option_map high_why (high_price_over (k + 1) steps (next ∷ more)))
in_high k step steps row next more =
    first_why (high_in k 0 row (row_over next step)) (high_price_over (suc k) steps (next ∷ more))
    ∙ ap (λ j. option_or (option_map high_why (high_in k 0 row (row_over next step))) (option_map high_why (high_price_over j steps (next ∷ more)))) (sym (add-one k))

in_priced : (g : GraphView) (rows : List Row) (k : ℕ) (s t : Sweep) → AreInPlace g rows → k < length g.steps → is_left_out g.source.format k (get_or g.steps k []) ≡ false → t.at.row < length rows
    → length (get_or rows t.at.row []) ≡ length (get_or g.steps k []) → ArePriced g rows (k + 1) s
    → t.at.row + 1 ≡ s.at.row → map told t.next_row.items ≡ get_or rows t.at.row []
    → t.found.why ≡ option_or (option_map high_why (high_in k 0 (get_or rows t.at.row []) (row_over (map told s.next_row.items) (get_or g.steps k [])))) s.found.why → ArePriced g rows k t
in_priced g rows k s t place within kept there width h at row found =
    let step : Step = get_or g.steps k [] in
    let next : Row = map told s.next_row.items in
    let here : Row = get_or rows t.at.row [] in
    let cut : drop k g.steps ≡ step ∷ drop (k + 1) g.steps = drop_more g.steps k [] within in
    let left : drop t.at.row rows ≡ here ∷ drop (t.at.row + 1) rows = drop_more rows t.at.row [] there in
    let next_row : full_rows g.source.format (k + 1) g.last (drop (k + 1) g.steps) (drop (t.at.row + 1) rows) ≡ Some (next ∷ h.more) = subst (λ n. full_rows g.source.format (k + 1) g.last (drop (k + 1) g.steps) (drop n rows) ≡ Some (next ∷ h.more)) (sym at) h.full in
    record {
      more = next ∷ h.more;
      full =
          (λ i. full_rows g.source.format k g.last (cut i) (left i))
          ∙ in_full g.source.format k g.last step (drop (k + 1) g.steps) here next (drop (t.at.row + 1) rows) h.more kept width next_row ∙ ap (λ r. Some (r ∷ next ∷ h.more)) (sym row);
      found = found ∙ ap (option_or (option_map high_why (high_in k 0 here (row_over next step)))) h.found ∙ sym (in_high k step (drop (k + 1) g.steps) here next h.more)
          ∙ sym (λ i. option_map high_why (high_price_over k (cut i) (row i ∷ next ∷ h.more)));
      turns = h.turns + 1;
      turned = omega (arith, h.turned);
      below = subst (AreBelow (2 ^ 63 + (h.turns + 1) * 2 ^ 33)) (sym row)
          (below_more (2 ^ 63) (2 ^ 63 + (h.turns + 1) * 2 ^ 33) here (omega arith) (written_below here (row_at rows t.at.row place.prices)));
    }

pub in_swept : (g : GraphView) (rows : List Row) (k : ℕ) (s t : Sweep) → AreInPlace g rows → k < length g.steps → is_left_out g.source.format k (get_or g.steps k []) ≡ false → IsSwept g rows (k + 1) s
    → IsRowPlace rows t.at → t.at.row + 1 ≡ s.at.row → map told t.next_row.items ≡ get_or rows t.at.row [] → t.found ≡ judged s.found k (get_or rows t.at.row []) (map told s.next_row.items) (get_or g.steps k []) → IsSwept g rows k t
in_swept g rows k s t place within kept h stands at row found = record {
  place = stands;
  written = written;
  known = subst (AreKnown g rows k t) (sym (wide_kept g.source.format g.last k t.at.row g.steps rows within there kept)) (by_test (length here == length step) refl found);
}
  where
    step : Step
    step = get_or g.steps k []

    here : Row
    here = get_or rows t.at.row []

    next : Row
    next = map told s.next_row.items

    written : t.at.row + count_over g.source.format k (drop k g.steps) ≡ length rows
    written = front_left g rows k s.at.row t.at.row within kept h.written at

    there : t.at.row < length rows
    there = has_row g rows k t.at.row written

    better : SweepFound
    better = record { right = true; why = option_or (option_map high_why (high_in k 0 here (row_over next step))) s.found.why }

    by_known : length here ≡ length step → t.found ≡ cond s.found.right better s.found → (o : Option OtherWidth) → AreKnown g rows (k + 1) s o → AreKnown g rows k t o
    by_known width f None p =
        let is : t.found ≡ better = f ∙ ap (λ r. cond r better s.found) p.0 in (
          ap (λ x. x.right) is,
          in_priced g rows k s t place within kept there width p.1 at row (ap (λ x. x.why) is),
        )
    by_known width f (Some w) p =
        let is : t.found ≡ s.found = f ∙ ap (λ r. cond r better s.found) p.0 in
        (ap (λ x. x.right) is ∙ p.0, ap (λ x. x.why) is ∙ p.1)

    by_test : (b : Bool) → (length here == length step) ≡ b → t.found ≡ cond b (cond s.found.right better s.found) (record { right = false; why = Some (WrongWidth k (length here) (length step)) })
        → AreKnown g rows k t (cond b (other_width_over g.source.format (k + 1) g.last (drop (k + 1) g.steps) (drop (t.at.row + 1) rows)) (Some (record { layer = k; got = length here; want = length step })))
    by_test true e f =
        by_known (eqb-true (length here) (length step) e) f _
        (subst (λ n. AreKnown g rows (k + 1) s (other_width_over g.source.format (k + 1) g.last (drop (k + 1) g.steps) (drop n rows))) (sym at) h.known)
    by_test false e f = (ap (λ x. x.right) f, ap (λ x. x.why) f)

-- ---- The first layer

none_high : (h : Option HighPrice) → option_map high_why h ≡ None → h ≡ None
none_high None e = refl
none_high (Some h) e = absurd (cc)

-- what is known of all rows
all_known : (g : GraphView) (rows : List Row) (s : Sweep) → AreInPlace g rows → IsSwept g rows 0 s → AreKnown g rows 0 s (other_width_over g.source.format 0 g.last g.steps rows)
all_known g rows s place h =
    let front : s.at.row ≡ 0 = omega (arith, h.written, place.count) in
    subst (λ n. AreKnown g rows 0 s (other_width_over g.source.format 0 g.last g.steps (drop n rows))) front h.known

whole : (g : GraphView) (rows : List Row) (s : Sweep) → AreInPlace g rows → IsSwept g rows 0 s → (h : ArePriced g rows 0 s) → full_rows g.source.format 0 g.last g.steps rows ≡ Some (map told s.next_row.items ∷ h.more)
whole g rows s place swept h =
    let front : s.at.row ≡ 0 = omega (arith, swept.written, place.count) in
    subst (λ n. full_rows g.source.format 0 g.last g.steps (drop n rows) ≡ Some (map told s.next_row.items ∷ h.more)) front h.full

-- nothing is found
pub none_swept : (g : GraphView) (rows : List Row) (n : ℕ) (s : Sweep) (first : Option ℕ) → AreInPlace g rows → IsSwept g rows 0 s → s.found.why ≡ None
    → ((more : List Row) → first ≡ first_price (map told s.next_row.items ∷ more)) → by_first n first ≡ by_width_over g.source.format g.last g.steps n rows (other_width_over g.source.format 0 g.last g.steps rows)
none_swept g rows n s first place swept none is = by_known (other_width_over g.source.format 0 g.last g.steps rows) (all_known g rows s place swept)
  where
    by_known : (o : Option OtherWidth) → AreKnown g rows 0 s o → by_first n first ≡ by_width_over g.source.format g.last g.steps n rows o
    by_known (Some w) p = absurd (cc)
    by_known None p =
        let h : ArePriced g rows 0 s = p.1 in
        ap (by_first n) (is h.more)
        ∙ sym (ap (by_full_over n g.steps) (whole g rows s place swept h) ∙ ap (by_high n (map told s.next_row.items ∷ h.more)) (none_high (high_price_over 0 g.steps (map told s.next_row.items ∷ h.more)) (sym h.found ∙ none)))

-- something is
pub some_swept : (g : GraphView) (rows : List Row) (n : ℕ) (s : Sweep) (why : Why) → AreInPlace g rows → IsSwept g rows 0 s → s.found.why ≡ Some why
    → No why ≡ by_width_over g.source.format g.last g.steps n rows (other_width_over g.source.format 0 g.last g.steps rows)
some_swept g rows n s why place swept some = by_known (other_width_over g.source.format 0 g.last g.steps rows) (all_known g rows s place swept)
  where
    by_case : (h : ArePriced g rows 0 s) (high : Option HighPrice) → option_map high_why high ≡ Some why → No why ≡ by_high n (map told s.next_row.items ∷ h.more) high
    by_case h None e = absurd (cc)
    by_case h (Some high) e = let is : high_why high ≡ why = cc in ap No (sym is)

    by_known : (o : Option OtherWidth) → AreKnown g rows 0 s o → No why ≡ by_width_over g.source.format g.last g.steps n rows o
    by_known None p =
        let h : ArePriced g rows 0 s = p.1 in
        by_case h (high_price_over 0 g.steps (map told s.next_row.items ∷ h.more)) (sym h.found ∙ some)
        ∙ sym (ap (by_full_over n g.steps) (whole g rows s place swept h))
    by_known (Some w) p = let is : width_why w ≡ why = cc in ap No (sym is)
