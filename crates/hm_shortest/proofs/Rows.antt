-- Lists that are made element by element, each by one of another list.
use Rattle.std.proofs.Common.{◌≡◌, ◌∙◌, ℕ, ◌+◌, ◌<◌, Bool, true, false, cond, List, [], ◌∷◌, ◌++◌, length, map, get_or, take, Some, sym, ap, arith, append_assoc, append-nil}
use Rattle.std.proofs.lemmas.List.{map_more, map_push, replicate_more}
use Rattle.hm_cert.specs.Layout.{told}
use Rattle.hm_graph_laws.specs.Prices.{Row}
use Rattle.hm_graph.specs.Prices.{best_price, price_over, zeros}
use Rattle.hm_graph.specs.Steps.{Step}
use Rattle.hm_graph.specs.declared.hops.Hop.{Hop}
use Rattle.hm_shortest.proofs.FirstWay.{lesser_none}

-- one more element
pub made_more : {A B C : Type 0} (f : A → C) (g : B → C) (now next : List A) (x : A) (all : List B) (k : ℕ) (d : B) → k < length all → map f now ≡ map g (take k all) → next ≡ now ++ x ∷ [] → f x ≡ g (get_or all k d) → map f next ≡ map g (take (k + 1) all)
made_more f g now next x all k d inside is pushed same = ap (map f) pushed ∙ map_push f now x ∙ (λ i. is i ++ same i ∷ []) ∙ sym (map_more g all k d inside)

-- one more choice, where there is something to choose
pub chosen_more : (f : List Hop → ℕ) (forced : Bool) (first now next : List ℕ) (x : ℕ) (step : Step) (k : ℕ) → k < length step → now ≡ first ++ cond forced [] (map f (take k step)) → next ≡ now ++ cond forced [] (x ∷ []) → x ≡ f (get_or step k [])
    → next ≡ first ++ cond forced [] (map f (take (k + 1) step))
chosen_more f true first now next x step k inside is put same = put ∙ append-nil now ∙ is
chosen_more f false first now next x step k inside is put same =
    put ∙ (λ i. is i ++ same i ∷ []) ∙ append_assoc first (map f (take k step)) (f (get_or step k []) ∷ []) ∙ ap (λ ys. first ++ ys) (sym (map_more f step k [] inside))

-- the price over the only hop
pub only_best : (next_row : Row) (hops : List Hop) (h : Hop) → length hops ≡ 1 → h ≡ get_or hops 0 h → price_over next_row h ≡ best_price next_row hops
only_best next_row [] h one is = absurd (omega (arith, one))
only_best next_row (x ∷ []) h one is = ap (price_over next_row) is ∙ sym (lesser_none (price_over next_row x))
only_best next_row (x ∷ y ∷ hops) h one is = absurd (omega (arith, one))

-- one more price of nothing
pub zeros_more : (now next : List ℕ) (k : ℕ) → map told now ≡ zeros k → next ≡ now ++ 0 ∷ [] → map told next ≡ zeros (k + 1)
zeros_more now next k is pushed = ap (map told) pushed ∙ map_push told now 0 ∙ ap (λ xs. xs ++ Some 0 ∷ []) is ∙ replicate_more k (Some 0)
