-- What an attribute costs, from the least prices of tags that stand alone.
use Rattle.std.proofs.Common.{◌≡◌, ◌+◌, ◌-◌, ◌≤◌, ℕ, Bool, true, false, cond, ◌==◌, List, [], ◌∷◌, ◌++◌, length, Option, Some, None, refl, sym, ap, ap₂, ◌∙◌, arith}
use Rattle.hm_base.specs.Walks.{Attribute}
use Rattle.hm_base.specs.declared.plain.SpellRules.{SpellRules}
use Rattle.hm_cert.specs.Layout.{told}
use Rattle.hm_elements.specs.Names.{is_among}
use Rattle.hm_elements.specs.Tables.{is_void, voids}
use Rattle.hm_graph_laws.specs.AttributeEdges.{gap_at}
use Rattle.hm_graph_laws.specs.States.{first_state, in_unquoted, in_double, in_single}
use Rattle.hm_graph_laws.specs.UnitEdges.{edges_of}
use Rattle.hm_graph_laws.specs.Units.{Unit, attribute_units, end_tag, is_omission_noted, tag_close, tag_name, units_of}
use Rattle.hm_graph_laws.specs.Ways.{least, lesser, over}
use Rattle.hm_optimality_laws.specs.SpellingLaws.{SparesOnlyPlain}
use Rattle.hm_spelling_spec.specs.Omission.{may_omit_end}
use Rattle.hm_spelling_spec.specs.Tags.{Spelling}
use Rattle.hm_order.specs.Alone.{element_alone, walk_alone}
use Rattle.hm_order.specs.Costs.{plus, value_cost, cost_of, inner_cost, last_cost}
use Rattle.hm_order.specs.Laws.{close_cost, ClosesBefore}
use Rattle.hm_order.proofs.Best.{AreNumbers}
use Rattle.hm_order.proofs.Numbers.{last_of, never, numbers, tag_is}
use Rattle.hm_order.proofs.Prices.{lesser_over}
use Rattle.hm_order.proofs.Split.{tags_split}

-- ---- An inner attribute costs as much as a last one in another tag

-- under the rule `tight`: as in a tag that closes itself
pub inner_tight : (g : Spelling) (name : List ℕ) (c : ℕ) (s : List ℕ) → g.rules.tight ≡ true → inner_cost g (record { name = name; value = c ∷ s }) ≡ last_cost g true (record { name = name; value = c ∷ s })
inner_tight g name c s h = ap (λ t. cost_of g (λ at. length (gap_at t at)) name (c ∷ s)) h

one_more : (n : ℕ) (v : Option ℕ) → over n (plus v (Some 1)) ≡ over 1 (over n (plus v (Some 0)))
one_more n None = refl
one_more n (Some a) = ap Some (omega arith)

abbrev form : ℕ → Option ℕ → ℕ → Option ℕ
form n v after = over n (plus v (Some after))

three_more : (u : Bool) (n m : ℕ) (a b c : Option ℕ)
    → lesser (cond u (form n a 1) None) (lesser (form m b 1) (form m c 1)) ≡ over 1 (lesser (cond u (form n a 0) None) (lesser (form m b 0) (form m c 0)))
three_more u n m a b c =
    ap₂ lesser (by u) (ap₂ lesser (one_more m b) (one_more m c) ∙ sym (lesser_over 1 (form m b 0) (form m c 0)))
    ∙ sym (lesser_over 1 (cond u (form n a 0) None) (lesser (form m b 0) (form m c 0)))
  where
    by : (u : Bool) → cond u (form n a 1) None ≡ over 1 (cond u (form n a 0) None)
    by true = one_more n a
    by false = refl

-- without it: one byte more than in a tag that doesn't close itself
pub inner_apart : (g : Spelling) (a : Attribute) → g.rules.tight ≡ false → inner_cost g a ≡ over 1 (last_cost g false a)
inner_apart g a h = ap (λ t. cost_of g (λ at. length (gap_at t at)) a.name a.value) h ∙ by a.value
  where
    by : (value : List ℕ) → cost_of g (λ at. length (gap_at false at)) a.name value ≡ over 1 (cost_of g (λ at. 0) a.name value)
    by [] = ap Some (omega arith)
    by (c ∷ s) = three_more g.rules.unquote (length a.name + 1) (length a.name + 2) (value_cost g in_unquoted (c ∷ s)) (value_cost g in_double (c ∷ s)) (value_cost g in_single (c ∷ s))

-- ---- The price of a tag that stands alone

told_is : (n m : ℕ) → told n ≡ Some m → n ≡ m
told_is n m h = by (n == 18446744073709551615) h
  where
    by : (b : Bool) → cond b None (Some n) ≡ Some m → n ≡ m
    by true h = cc
    by false h = cc

-- the end tag after a tag that stands alone, which an element of HTML doesn't have
abbrev after_alone : SpellRules → Bool → List Unit
after_alone r false = []
after_alone r true = end_tag (element_alone true) (may_omit_end r (element_alone true) true [] []) (is_omission_noted (element_alone true)) ∷ []

closes_alone : (r : SpellRules) (closes : Bool) → ClosesBefore closes (after_alone r closes)
closes_alone r false = tt
closes_alone r true = (element_alone true, is_omission_noted (element_alone true), [], ap (λ o. end_tag (element_alone true) o (is_omission_noted (element_alone true)) ∷ []) (never r (element_alone true) [] []))

no_end_tag : is_void (element_alone false) ≡ true
unfolding is_void is_among voids
no_end_tag = refl

units_alone : (r : SpellRules) (closes : Bool) (a : Attribute) → units_of r (walk_alone closes a) ≡ (tag_name (element_alone closes) ∷ (attribute_units (a ∷ []) ++ tag_close closes ∷ [])) ++ after_alone r closes
units_alone r false a = rw no_end_tag refl
units_alone r true a = refl

price_by : (g : Spelling) (closes : Bool) (a : Attribute) → least (edges_of g) (units_of g.rules (walk_alone closes a)) first_state ≡ over (length (element_alone closes) + 2) (plus (last_cost g closes a) (close_cost g closes (after_alone g.rules closes)))
price_by g false a = ap (λ us. least (edges_of g) us first_state) (units_alone g.rules false a ∙ tag_is (element_alone false) a [] false (after_alone g.rules false)) ∙ tags_split g (element_alone false) a [] false (after_alone g.rules false) first_state (closes_alone g.rules false)
price_by g true a = ap (λ us. least (edges_of g) us first_state) (units_alone g.rules true a ∙ tag_is (element_alone true) a [] true (after_alone g.rules true)) ∙ tags_split g (element_alone true) a [] true (after_alone g.rules true) first_state (closes_alone g.rules true)

close_alone : (g : Spelling) (closes : Bool) → over (length (element_alone closes) + 2) (close_cost g closes (after_alone g.rules closes)) ≡ Some 5
close_alone g false = refl
close_alone g true = ap (λ us. over 3 (close_cost g true us)) (ap (λ o. end_tag (element_alone true) o (is_omission_noted (element_alone true)) ∷ []) (never g.rules (element_alone true) [] []))

sum_five : (k l : ℕ) (close : Option ℕ) → over k close ≡ Some 5 → over k (plus (Some l) close) ≡ Some (l + 5)
sum_five k l None h = cc
sum_five k l (Some n) h = let e : k + n ≡ 5 = cc in ap Some (omega (arith, e))

pub record IsLastCost (g : Spelling) (closes : Bool) (a : Attribute) (price : ℕ) : Type 0 where
  pub long : 5 ≤ price
  pub cost : last_cost g closes a ≡ Some (price - 5)

-- the price of the tag is five bytes more than the cost of the attribute
pub alone_costs : (g : Spelling) → SparesOnlyPlain g → (closes : Bool) (a : Attribute) (price : ℕ) → told price ≡ least (edges_of g) (units_of g.rules (walk_alone closes a)) first_state → IsLastCost g closes a price
alone_costs g plain closes a price h =
    let n : AreNumbers g closes _ _ = numbers g plain closes in
    let l : ℕ = last_of g plain closes a in
    let close : Option ℕ = close_cost g closes (after_alone g.rules closes) in
    let is : price ≡ l + 5 = told_is price (l + 5) (h ∙ price_by g closes a ∙ ap (λ x. over (length (element_alone closes) + 2) (plus x close)) (n.last_is a) ∙ sum_five (length (element_alone closes) + 2) l close (close_alone g closes)) in
    record { long = omega (arith, is); cost = n.last_is a ∙ ap Some (omega (arith, is)) }
