-- What attributes cost are numbers: each tag can be written.
use Rattle.std.proofs.Common.{◌≡◌, ℕ, Bool, true, false, List, [], ◌∷◌, ◌++◌, Option, Some, None, ◌&&◌, refl, sym, ap, ◌∙◌, subst, append_assoc}
use Rattle.hm_base.specs.Walks.{Attribute, Event, start, end, Element}
use Rattle.hm_base.specs.declared.plain.SpellRules.{SpellRules}
use Rattle.hm_graph_laws.specs.UnitEdges.{edges_of}
use Rattle.hm_graph_laws.specs.Ways.{Way, over}
use Rattle.hm_graph_laws.proofs.LeastPrices.{least_number}
use Rattle.hm_spelling_spec.specs.Tags.{Spelling}
use Rattle.hm_graph_laws.specs.States.{first_state}
use Rattle.hm_graph_laws.specs.Units.{Unit, tag_name, attribute_units, tag_close, end_tag, is_omission_noted}
use Rattle.hm_spelling_spec.specs.Omission.{may_omit_end}
use Rattle.hm_optimality_laws.specs.SpellingLaws.{SparesOnlyPlain}
use Rattle.hm_optimality_laws.proofs.Direct.{trees_have_ways}
use Rattle.hm_order.specs.Costs.{plus, inner_cost, last_cost, attributes_cost}
use Rattle.hm_order.specs.Laws.{close_cost, ClosesBefore}
use Rattle.hm_order.proofs.Split.{tags_split}
use Rattle.hm_order.proofs.Best.{AreNumbers}

abbrev pub IsNumber : Option ℕ → Type 0
IsNumber p = (n : ℕ) × (p ≡ Some n)

-- the end tag of an element of SVG isn't left out
pub never : (r : SpellRules) (n : List ℕ) (path : List Element) (w : List Event) → may_omit_end r n true path w ≡ false
unfolding may_omit_end
never r n path w = by r.omit
  where
    by : (o : Bool) → (o && false) ≡ false
    by true = refl
    by false = refl

of_over : (k : ℕ) (p : Option ℕ) → IsNumber (over k p) → IsNumber p
of_over k None (n, e) = cc
of_over k (Some a) h = (a, refl)

of_plus : (p q : Option ℕ) → IsNumber (plus p q) → IsNumber p × IsNumber q
of_plus None q (n, e) = cc
of_plus (Some a) q h = ((a, refl), of_over a q h)

-- the units of a tag and all after it
pub tag_is : (n : List ℕ) (a : Attribute) (attributes : List Attribute) (closes : Bool) (rest : List Unit) → (tag_name n ∷ (attribute_units (a ∷ attributes) ++ tag_close closes ∷ [])) ++ rest ≡ tag_name n ∷ (attribute_units (a ∷ attributes) ++ tag_close closes ∷ rest)
tag_is n a attributes closes rest = ap (λ us. tag_name n ∷ us) (append_assoc (attribute_units (a ∷ attributes)) (tag_close closes ∷ []) rest)

-- from a number that a tag with two attributes costs
of_tag : (g : Spelling) (closes : Bool) (a b : Attribute) (rest : List Unit) → ClosesBefore closes rest → (bytes : List ℕ) → Way (edges_of g) ((tag_name [] ∷ (attribute_units (a ∷ b ∷ []) ++ tag_close closes ∷ [])) ++ rest) first_state bytes → IsNumber (inner_cost g a) × IsNumber (last_cost g closes b)
of_tag g closes a b rest before bytes way =
    let units : List Unit = tag_name [] ∷ (attribute_units (a ∷ b ∷ []) ++ tag_close closes ∷ rest) in
    let (n, is, less) = least_number (edges_of g) units first_state bytes (subst (λ us. Way (edges_of g) us first_state bytes) (tag_is [] a (b ∷ []) closes rest) way) in
    let costs = of_plus (attributes_cost g closes a (b ∷ [])) (close_cost g closes rest) (of_over 2 (plus (attributes_cost g closes a (b ∷ [])) (close_cost g closes rest)) (n, sym (tags_split g [] a (b ∷ []) closes rest first_state before) ∙ is)) in
    of_plus (inner_cost g a) (last_cost g closes b) costs.0

pub tag_costs : (g : Spelling) → SparesOnlyPlain g → (closes : Bool) (a b : Attribute) → IsNumber (inner_cost g a) × IsNumber (last_cost g closes b)
tag_costs g plain false a b =
    let (bytes, way) = trees_have_ways g plain (start [] false (a ∷ b ∷ []) ∷ []) in
    of_tag g false a b [] tt bytes way
tag_costs g plain true a b =
    let (bytes, way) = trees_have_ways g plain (start [] true (a ∷ b ∷ []) ∷ end [] true ∷ []) in
    of_tag g true a b (end_tag [] (may_omit_end g.rules [] true [] []) (is_omission_noted []) ∷ []) ([], is_omission_noted [], [], ap (λ o. end_tag [] o (is_omission_noted []) ∷ []) (never g.rules [] [] [])) bytes way

-- what each attribute costs
pub inner_of : (g : Spelling) → SparesOnlyPlain g → Bool → Attribute → ℕ
inner_of g plain closes a = (tag_costs g plain closes a a).0.0

pub last_of : (g : Spelling) → SparesOnlyPlain g → Bool → Attribute → ℕ
last_of g plain closes a = (tag_costs g plain closes a a).1.0

pub numbers : (g : Spelling) (plain : SparesOnlyPlain g) (closes : Bool) → AreNumbers g closes (inner_of g plain closes) (last_of g plain closes)
unfolding inner_of last_of
numbers g plain closes = record { inner_is = λ a. (tag_costs g plain closes a a).0.1; last_is = λ a. (tag_costs g plain closes a a).1.1 }
