-- Over steps over which no state changes its place.
use Rattle.std.proofs.Common.{◌≡◌, ◌∙◌, ℕ, zero, suc, ◌+◌, ◌-◌, ◌*◌, ◌<◌, ◌≤◌, ◌^◌, true, List, [], ◌∷◌, length, map, get_or, drop, Some, None, Option, refl, sym, ap, subst, arith}
use Rattle.std.specs.Option.{option_map}
use Rattle.std.proofs.lemmas.List.{drop_more, length-map}
use Rattle.hm_cert.specs.Layout.{told}
use Rattle.hm_cert.specs.Places.{IsRowPlace}
use Rattle.hm_graph_laws.specs.Prices.{Row}
use Rattle.hm_graph_laws.specs.Ways.{over}
use Rattle.hm_graph.specs.Graphs.{GraphView, AreLow}
use Rattle.hm_graph.specs.Prices.{row_over, is_left_out, full_rows}
use Rattle.hm_graph.specs.Steps.{Step}
use Rattle.hm_graph.proofs.StepsStill.{each_none, still_row}
use Rattle.hm_graph.proofs.Low.{low_step}
use Rattle.hm_graph.specs.StillRuns.{AreStillOver}
use Rattle.hm_check.specs.Rows.{OtherWidth}
use Rattle.hm_check.specs.Steps.{count_over, other_width_over, high_price_over}
use Rattle.hm_cert.specs.Rows.{AreBelow}
use Rattle.hm_check.specs.Sweeps.{high_why, AreKnown, IsSwept}
use Rattle.hm_check.specs.declared.sweep.Sweep.{Sweep}
use Rattle.hm_check.specs.declared.verdicts.Why.{Why}
use Rattle.hm_check.proofs.Counting.{counted_out, out_later, wide_out}
use Rattle.hm_check.proofs.Sums.{below_more, row_below}
use Rattle.hm_check.proofs.Sweeping.{has_row, out_full, out_high}

over_sum : (own rest : ℕ) (p : Option ℕ) → over (own + rest) p ≡ over own (over rest p)
over_sum own rest None = refl
over_sum own rest (Some x) = ap Some (omega arith)

each_sum : (own rest : ℕ) (row : Row) → map (over (own + rest)) row ≡ map (over own) (map (over rest) row)
each_sum own rest [] = refl
each_sum own rest (p ∷ row) = λ i. over_sum own rest p i ∷ each_sum own rest row i

-- what is known from layer k on where no width is wrong, by how many rows are before it, what is found and the prices
-- of the layer
record AreRight (g : GraphView) (rows : List Row) (k at : ℕ) (why : Option Why) (row : Row) : Type 0 where
  pub written : at + count_over g.source.format k (drop k g.steps) ≡ length rows
  pub widths : other_width_over g.source.format k g.last (drop k g.steps) (drop at rows) ≡ None
  pub more : List Row
  pub full : full_rows g.source.format k g.last (drop k g.steps) (drop at rows) ≡ Some (row ∷ more)
  pub found : why ≡ option_map high_why (high_price_over k (drop k g.steps) (row ∷ more))
  pub turns : ℕ
  pub turned : turns + k ≡ length g.steps
  pub below : AreBelow (2 ^ 63 + turns * 2 ^ 33) row

are_right : (g : GraphView) (rows : List Row) (k : ℕ) (s : Sweep) → IsSwept g rows k s → s.found.right ≡ true → AreRight g rows k s.at.row s.found.why (map told s.next_row.items)
are_right g rows k s h right = by_known (other_width_over g.source.format k g.last (drop k g.steps) (drop s.at.row rows)) refl h.known
  where
    by_known : (o : Option OtherWidth) → other_width_over g.source.format k g.last (drop k g.steps) (drop s.at.row rows) ≡ o → AreKnown g rows k s o → AreRight g rows k s.at.row s.found.why (map told s.next_row.items)
    by_known (Some w) e p = absurd (cc)
    by_known None e p = record {
      written = h.written;
      widths = e;
      more = p.1.more;
      full = p.1.full;
      found = p.1.found;
      turns = p.1.turns;
      turned = p.1.turned;
      below = p.1.below;
    }

is_swept : (g : GraphView) (rows : List Row) (k : ℕ) (t : Sweep) → IsRowPlace rows t.at → t.found.right ≡ true → AreRight g rows k t.at.row t.found.why (map told t.next_row.items) → IsSwept g rows k t
is_swept g rows k t place right h = record {
  place = place;
  written = h.written;
  known = subst (AreKnown g rows k t) (sym h.widths) (
    right,
    record {
      more = h.more;
      full = h.full;
      found = h.found;
      turns = h.turns;
      turned = h.turned;
      below = h.below;
    },
  );
}

-- over one layer that is left out
out_right : (g : GraphView) (rows : List Row) (k at : ℕ) (why : Option Why) (row : Row) → k < length g.steps → AreLow g.steps → is_left_out g.source.format k (get_or g.steps k []) ≡ true
    → AreRight g rows (k + 1) at why row → AreRight g rows k at why (row_over row (get_or g.steps k []))
out_right g rows k at why row within low out h =
    let step : Step = get_or g.steps k [] in
    let steps : List Step = drop (k + 1) g.steps in
    let there : at < length rows = has_row g rows (k + 1) at h.written in
    let cut : drop k g.steps ≡ step ∷ steps = drop_more g.steps k [] within in
    let left : drop at rows ≡ get_or rows at [] ∷ drop (at + 1) rows = drop_more rows at [] there in
    let next_row : full_rows g.source.format (k + 1) g.last steps (get_or rows at [] ∷ drop (at + 1) rows) ≡ Some (row ∷ h.more) = subst (λ r. full_rows g.source.format (k + 1) g.last steps r ≡ Some (row ∷ h.more)) left h.full in
    record {
      written = omega (arith, h.written, counted_out g.source.format k g.steps within out);
      widths = wide_out g.source.format g.last k at g.steps rows within there out ∙ h.widths;
      more = row ∷ h.more;
      full = (λ i. full_rows g.source.format k g.last (cut i) (left i)) ∙ out_full g.source.format k g.last step steps (get_or rows at []) row (drop (at + 1) rows) h.more out next_row;
      found = h.found ∙ ap (option_map high_why) (sym (out_high k step steps row h.more)) ∙ sym (λ i. option_map high_why (high_price_over k (cut i) (row_over row step ∷ row ∷ h.more)));
      turns = h.turns + 1;
      turned = omega (arith, h.turned);
      below = below_more (2 ^ 63 + h.turns * 2 ^ 33 + 2 ^ 33) (2 ^ 63 + (h.turns + 1) * 2 ^ 33) (row_over row step) (omega arith) (row_below (2 ^ 63 + h.turns * 2 ^ 33) row step h.below (low_step g.steps k low));
    }

-- over n layers that are left out, over which no state changes its place
along_right : (g : GraphView) (rows : List Row) (n k at : ℕ) (why : Option Why) (row : Row) (len : ℕ) → AreLow g.steps → 0 < k → k + n ≤ length g.steps → AreStillOver g.source.format (drop k g.steps) n (length row) len
    → AreRight g rows (k + n) at why row → AreRight g rows k at why (map (over len) row)
along_right g rows zero k at why row len low some inside still h =
    let here : k + 0 ≡ k = omega arith in
    let prices : row ≡ map (over len) row = each_none row ∙ ap (λ m. map (over m) row) (sym still) in
    subst (λ A. A) (λ i. AreRight g rows (here i) at why (prices i)) h
along_right g rows (suc n) k at why row len low some inside still h =
    let step : Step = get_or g.steps k [] in
    let next : k + suc n ≡ k + 1 + n = omega arith in
    let cut : drop k g.steps ≡ step ∷ drop (k + 1) g.steps = drop_more g.steps k [] (omega (arith, inside)) in
    let first : AreStillOver g.source.format (step ∷ drop (k + 1) g.steps) (suc n) (length row) len = subst (λ steps. AreStillOver g.source.format steps (suc n) (length row) len) cut still in
    let own : ℕ = first.0 in
    let rest : ℕ = first.1 in
    let next_row : Row = map (over rest) row in
    let more : AreRight g rows (k + 1) at why next_row =
    along_right g rows n (k + 1) at why row rest low (omega arith) (omega (arith, inside)) first.6 (subst (λ j. AreRight g rows j at why row) next h) in
    let out : is_left_out g.source.format k step ≡ true = out_later g.source.format k step some ∙ first.4 in
    let width : length next_row ≡ length step = length-map row (over rest) ∙ sym first.3 in
    let prices : row_over next_row step ≡ map (over len) row = still_row next_row own step width first.5 ∙ sym (each_sum own rest row) ∙ ap (λ m. map (over m) row) (sym first.2) in
    subst (AreRight g rows k at why) prices (out_right g rows k at why next_row (omega (arith, inside)) low out more)

pub along_swept : (g : GraphView) (rows : List Row) (k front len : ℕ) (s t : Sweep) → AreLow g.steps → 0 < front → front ≤ k → k ≤ length g.steps → AreStillOver g.source.format (drop front g.steps) (k - front) (length s.next_row.items) len → s.found.right ≡ true
    → IsSwept g rows k s → t.at ≡ s.at → t.found ≡ s.found → map told t.next_row.items ≡ map (over len) (map told s.next_row.items) → IsSwept g rows front t
along_swept g rows k front len s t low some within inside still right h at found row =
    let end : k ≡ front + (k - front) = omega (arith, within) in
    let width : length s.next_row.items ≡ length (map told s.next_row.items) = sym (length-map s.next_row.items told) in
    let all : AreRight g rows front s.at.row s.found.why (map (over len) (map told s.next_row.items)) =
    along_right g rows (k - front) front s.at.row s.found.why (map told s.next_row.items) len low some (omega (arith, within, inside)) (subst (λ w. AreStillOver g.source.format (drop front g.steps) (k - front) w len) width still)
    (subst (λ j. AreRight g rows j s.at.row s.found.why (map told s.next_row.items)) end (are_right g rows k s h right)) in
    is_swept g rows front t (subst (IsRowPlace rows) (sym at) h.place) (ap (λ x. x.right) found ∙ right)
    (subst (λ A. A) (λ i. AreRight g rows front (sym at i).row (sym found i).why (sym row i)) all)
