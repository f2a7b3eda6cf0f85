-- Rows of layers before steps over which no state changes its place.
use Rattle.std.proofs.Common.{◌≡◌, ◌∙◌, ℕ, ◌+◌, ◌<◌, ◌≤◌, ◌==◌, ◌&&◌, not, Bool, true, false, List, length, map, get_or, drop, None, Option, refl, sym, ap, add-one}
use Rattle.std.specs.Option.{option_map}
use Rattle.std.proofs.lemmas.List.{drop_more, drop_all, length-map}
use Rattle.hm_base.specs.declared.plain.Format.{Format}
use Rattle.hm_cert.specs.Layout.{told}
use Rattle.hm_graph_laws.specs.Ways.{over}
use Rattle.hm_graph.specs.Prices.{row_over, is_left_out}
use Rattle.hm_graph.specs.Steps.{Step, leaves_out}
use Rattle.hm_graph.specs.Still.{AreStill}
use Rattle.hm_graph.proofs.StepsStill.{still_row}
use Rattle.hm_check.specs.Rows.{HighPrice, high_in, is_above}
use Rattle.hm_check.specs.Sweeps.{high_why, judged}
use Rattle.hm_check.specs.declared.sweep.SweepFound.{SweepFound}
use Rattle.hm_check.proofs.Sums.{high_later}
use Rattle.hm_check.proofs.Sweeping.{judged_low}

-- what is left to find from a place on
abbrev pub high_from : ℕ → ℕ → ℕ → List ℕ → List ℕ → Option HighPrice
high_from k i len row next_row = high_in k i (map told (drop i row)) (map (over len) (map told (drop i next_row)))

pub within_more : (k i len : ℕ) (row next_row : List ℕ) → i < length row → i < length next_row → is_above (told (get_or row i 0)) (over len (told (get_or next_row i 0))) ≡ false → high_from k (i + 1) len row next_row ≡ high_from k i len row next_row
within_more k i len row next_row inside there e = sym (
    (λ j. high_in k i (map told (drop_more row i 0 inside j)) (map (over len) (map told (drop_more next_row i 0 there j))))
    ∙ high_later k i (told (get_or row i 0)) (over len (told (get_or next_row i 0))) (map told (drop (i + 1) row)) (map (over len) (map told (drop (i + 1) next_row))) e
    ∙ ap (λ n. high_in k n (map told (drop (i + 1) row)) (map (over len) (map told (drop (i + 1) next_row)))) (sym (add-one i))
    )

pub within_end : (k i len : ℕ) (row next_row : List ℕ) → length row ≤ i → high_from k i len row next_row ≡ None
within_end k i len row next_row past = ap (λ r. high_in k i (map told r) (map (over len) (map told (drop i next_row)))) (drop_all i row past)

-- a row none of whose prices is above the next layer's price plus the length
pub judged_still : (found : SweepFound) (k len : ℕ) (numbers next_row : List ℕ) (step : Step) → found.right ≡ true → length numbers ≡ length step → length next_row ≡ length numbers → AreStill len step
    → high_in k 0 (map told numbers) (map (over len) (map told next_row)) ≡ None → found ≡ judged found k (map told numbers) (map told next_row) step
judged_still found k len numbers next_row step right width same still none =
    let bounds : row_over (map told next_row) step ≡ map (over len) (map told next_row) = still_row (map told next_row) len step (length-map next_row told ∙ same ∙ width) still in
    judged_low found k numbers next_row step width right (sym (ap (option_map high_why) (ap (high_in k 0 (map told numbers)) bounds ∙ none)))

-- a layer after the first one, before a step that leaves none out
pub kept_later : (format : Format) (k : ℕ) (step : Step) → leaves_out format step ≡ false → is_left_out format k step ≡ false
kept_later format k step e = by_test (k == 0)
  where
    by_test : (b : Bool) → (not b && leaves_out format step) ≡ false
    by_test true = refl
    by_test false = e
