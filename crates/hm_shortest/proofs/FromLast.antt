-- What is found from the last layer of a graph on.
use Rattle.std.proofs.Common.{◌≡◌, ◌∙◌, ℕ, zero, suc, ◌+◌, ◌-◌, ◌*◌, ◌<◌, ◌≤◌, ◌^◌, Bool, true, false, cond, List, [], ◌∷◌, ◌++◌, length, get_or, drop, reverse, Option, Some, None, refl, sym, ap, subst, arith, append-nil}
use Rattle.std.proofs.Math.Seq.{drop-length}
use Rattle.std.proofs.lemmas.List.{get_or_default, reverse-append, reverse-reverse, length-drop}
use Rattle.std.specs.declared.result.Result.{Result}
use Rattle.std.specs.declared.result.Result.TheVariants.{Ok, Err}
use Rattle.std.specs.Result.{IfOk}
use Rattle.hm_cert.specs.Certificate.{head_lines, row_line, row_lines}
use Rattle.hm_cert.specs.Layout.{told}
use Rattle.hm_cert.proofs.Below.{below_in}
use Rattle.hm_graph_laws.specs.Prices.{Row, first_price}
use Rattle.hm_graph_laws.specs.Ways.{lesser, over}
use Rattle.hm_graph.specs.Graphs.{GraphView, AreLow, IsLowStep, AreLowHops}
use Rattle.hm_graph.specs.Prices.{price_over, best_price, row_over, first_row, zeros, rows_of, is_left_out, written_rows}
use Rattle.hm_graph.specs.Steps.{Step}
use Rattle.hm_graph.specs.Ways.{choices_of, step_choices}
use Rattle.hm_graph.specs.declared.hops.Hop.{Hop}
use Rattle.hm_shortest.specs.Plans.{IsBack, IsPlan}
use Rattle.hm_cert.specs.Rows.{IsBelow, AreBelow}
use Rattle.hm_shortest.specs.declared.plans.Plan.{Plan}
use Rattle.hm_shortest.proofs.Prices.{cut_before}

-- ---- No price is too great

is_below : (bound more : ℕ) (price : Option ℕ) → bound ≤ more → IsBelow bound price → IsBelow more price
is_below bound more None h b = tt
is_below bound more (Some n) h b = omega arith

pub are_below : (bound more : ℕ) (row : Row) → bound ≤ more → AreBelow bound row → AreBelow more row
are_below bound more [] h b = tt
are_below bound more (price ∷ row) h b = (is_below bound more price h b.0, are_below bound more row h b.1)

over_below : (bound len : ℕ) (price : Option ℕ) → len < 2 ^ 33 → IsBelow bound price → IsBelow (bound + 2 ^ 33) (over len price)
over_below bound len None l h = tt
over_below bound len (Some n) l h = omega arith

lesser_below : (bound : ℕ) (p q : Option ℕ) → IsBelow bound p → IsBelow bound q → IsBelow bound (lesser p q)
lesser_below bound None q h l = l
lesser_below bound (Some n) None h l = h
lesser_below bound (Some n) (Some m) h l = omega arith

best_below : (row : Row) (bound : ℕ) (hops : List Hop) → AreBelow bound row → AreLowHops hops → IsBelow (bound + 2 ^ 33) (best_price row hops)
best_below row bound [] b l = tt
best_below row bound (x ∷ hops) b l = lesser_below (bound + 2 ^ 33) (price_over row x) (best_price row hops) (over_below bound x.len (get_or row x.to None) l.0 (below_in row bound x.to b)) (best_below row bound hops b l.1)

row_below : (row : Row) (bound : ℕ) (step : Step) → AreBelow bound row → IsLowStep step → AreBelow (bound + 2 ^ 33) (row_over row step)
row_below row bound [] b l = tt
row_below row bound (hops ∷ step) b l = (best_below row bound hops b l.0, row_below row bound step b l.1)

zeros_below : (last : ℕ) → AreBelow 1 (zeros last)
zeros_below zero = tt
zeros_below (suc last) = (omega arith, zeros_below last)

rows_below : (last : ℕ) (steps : List Step) → AreLow steps → AreBelow (length steps * 2 ^ 33 + 1) (first_row (rows_of last steps))
rows_below last [] l = zeros_below last
rows_below last (step ∷ steps) l =
    are_below (length steps * 2 ^ 33 + 1 + 2 ^ 33) (length (step ∷ steps) * 2 ^ 33 + 1) (row_over (first_row (rows_of last steps)) step) (omega arith)
    (row_below (first_row (rows_of last steps)) (length steps * 2 ^ 33 + 1) step (rows_below last steps l.1) l.0)

low_drop : (steps : List Step) (k : ℕ) → AreLow steps → AreLow (drop k steps)
low_drop [] zero l = l
low_drop [] (suc k) l = l
low_drop (step ∷ steps) zero l = l
low_drop (step ∷ steps) (suc k) l = low_drop steps k l.1

-- the prices of each layer of a small graph are below 2^62
pub prices_below : (last : ℕ) (steps : List Step) (k : ℕ) → AreLow steps → length steps < 2 ^ 29 → AreBelow (2 ^ 62) (first_row (rows_of last (drop k steps)))
prices_below last steps k l few =
    are_below (length (drop k steps) * 2 ^ 33 + 1) (2 ^ 62) (first_row (rows_of last (drop k steps))) (omega (arith, length-drop k steps)) (rows_below last (drop k steps) (low_drop steps k l))

-- ---- From layer to layer

pub step_cut : (steps : List Step) (k : ℕ) (step : Step) → 0 < k → k ≤ length steps → step ≡ get_or steps (k - 1) [] → drop (k - 1) steps ≡ step ∷ drop k steps
step_cut steps k step some inside is = cut_before steps k step some inside (is ∙ get_or_default steps (k - 1) [] step (omega arith))

pub last_back : (g : GraphView) (text choices : List ℕ) (row : Row) → text ≡ reverse (row_line (zeros g.last)) → choices ≡ [] → row ≡ zeros g.last → IsBack g (length g.steps) text choices row
last_back g text choices row t c r = let none : drop (length g.steps) g.steps ≡ [] = drop-length g.steps in record {
  lines = t ∙ ap reverse (sym (append-nil (row_line (zeros g.last)))) ∙ ap (λ steps. reverse (row_lines (written_rows g.source.format (length g.steps) steps (rows_of g.last steps)))) (sym none);
  chosen = c ∙ ap (choices_of g.last) (sym none);
  prices = r ∙ ap (λ steps. first_row (rows_of g.last steps)) (sym none);
}

-- one more line, from its end, where it is written
line_more : (left_out : Bool) (row : Row) (rows : List Row) → reverse (row_lines rows) ++ cond left_out [] (reverse (row_line row)) ≡ reverse (row_lines (cond left_out rows (row ∷ rows)))
line_more true row rows = append-nil (reverse (row_lines rows))
line_more false row rows = sym (reverse-append (row_line row) (row_lines rows))

pub back_more : (g : GraphView) (k : ℕ) (step : Step) (text more choices chosen : List ℕ) (row front : Row) → 0 < k → drop (k - 1) g.steps ≡ step ∷ drop k g.steps → IsBack g k text choices row
    → more ≡ text ++ cond (is_left_out g.source.format (k - 1) step) [] (reverse (row_line (row_over row step))) → chosen ≡ choices ++ step_choices row step → front ≡ row_over row step
    → IsBack g (k - 1) more chosen front
back_more g k step text more choices chosen row front some cut b t c r =
    let rest : List Step = drop k g.steps in
    let next : suc (k - 1) ≡ k = omega arith in
    let rows : List Row = rows_of g.last rest in record {
      lines =
          t
          ∙ (λ i. b.lines i ++ cond (is_left_out g.source.format (k - 1) step) [] (reverse (row_line (row_over (b.prices i) step))))
          ∙ line_more (is_left_out g.source.format (k - 1) step) (row_over (first_row rows) step) (written_rows g.source.format k rest rows)
          ∙ (λ i. reverse (row_lines (cond (is_left_out g.source.format (k - 1) step) (written_rows g.source.format (sym next i) rest rows) (row_over (first_row rows) step ∷ written_rows g.source.format (sym next i) rest rows))))
          ∙ ap (λ steps. reverse (row_lines (written_rows g.source.format (k - 1) steps (rows_of g.last steps)))) (sym cut);
      chosen = c ∙ (λ i. b.chosen i ++ step_choices (b.prices i) step) ∙ ap (choices_of g.last) (sym cut);
      prices = r ∙ ap (λ x. row_over x step) b.prices ∙ ap (λ steps. first_row (rows_of g.last steps)) (sym cut);
    }

-- ---- The plan

first_is : (rows : List Row) → get_or (first_row rows) 0 None ≡ first_price rows
first_is [] = refl
first_is ([] ∷ rows) = refl
first_is ((price ∷ row) ∷ rows) = refl

pub plan_is : (g : GraphView) (k : ℕ) (text choices : List ℕ) (row : Row) (plan : Plan) → k ≤ 0 → IsBack g k text choices row
    → plan.certificate.items ≡ reverse (text ++ reverse (head_lines g.source.format g.source.rules)) → plan.choices.items ≡ choices → told plan.first ≡ get_or row 0 None → IsPlan g plan
plan_is g k text choices row plan h b t c f =
    let all : IsBack g 0 text choices row = let zero_ : k ≡ 0 = omega arith in subst (λ j. IsBack g j text choices row) zero_ b in
    let lines : List ℕ = row_lines (written_rows g.source.format 0 g.steps (rows_of g.last g.steps)) in record {
      certificate =
          t ∙ reverse-append text (reverse (head_lines g.source.format g.source.rules))
          ∙ (λ i. reverse-reverse (head_lines g.source.format g.source.rules) i ++ (ap reverse all.lines ∙ reverse-reverse lines) i);
      choices = c ∙ all.chosen;
      first = f ∙ ap (λ x. get_or x 0 None) all.prices ∙ first_is (rows_of g.last g.steps);
    }

-- one clause on an Ok value, from three
pub if_three : {T E : Type 0} (r : Result T E) {P Q R S : T → Type 0} → ((x : T) → P x → Q x → R x → S x) → IfOk r P → IfOk r Q → IfOk r R → IfOk r S
if_three (Ok x) f p q r = f x p q r
if_three (Err e) f p q r = tt
