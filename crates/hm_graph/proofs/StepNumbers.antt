-- The step at a place.
use Rattle.std.proofs.Common.{◌≡◌, ◌∙◌, ◌<◌, ℕ, List, [], length, get_or, sym, ap, subst}
use Rattle.std.proofs.lemmas.List.{get_or-map, get_or_default}
use Rattle.std.proofs.lemmas.List.Elements.{All-get_or}
use Rattle.hm_graph.specs.Steps.{Step}
use Rattle.hm_graph.specs.Graphs.{AreNumbers, spread}

pub number_below : (steps : List Step) (numbers : List ℕ) (k n : ℕ) → AreNumbers steps numbers → k < length numbers → n ≡ get_or numbers k n → n < length steps
number_below steps numbers k n are low is = subst (λ m. m < length steps) (sym is) (All-get_or (λ m. m < length steps) numbers k n low are)

pub step_at : (steps : List Step) (numbers : List ℕ) (k n : ℕ) (step : Step) → AreNumbers steps numbers → k < length numbers → n ≡ get_or numbers k n → step ≡ get_or steps n step → step ≡ get_or (spread steps numbers) k []
step_at steps numbers k n step are low is found =
    found ∙ get_or_default steps n step [] (number_below steps numbers k n are low is) ∙ ap (λ m. get_or steps m []) is ∙ sym (get_or-map (λ m. get_or steps m []) numbers k n [] low)
