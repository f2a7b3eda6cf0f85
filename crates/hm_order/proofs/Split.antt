-- The least price of a tag with attributes is the sum of what they take, each by whether it is the last one.
use Rattle.std.proofs.Common.{◌≡◌, ◌+◌, ◌≤◌, ℕ, suc, Bool, true, false, cond, ◌&&◌, List, [], ◌∷◌, ◌++◌, length, Option, Some, None, refl, sym, ap, ap₂, ◌∙◌, arith, append_assoc, length-append, codes}
use Rattle.hm_graph_laws.specs.AttributeEdges.{gap_at, is_after_unquoted}
use Rattle.hm_base.specs.Walks.{Attribute}
use Rattle.hm_graph_laws.specs.UnitEdges.{edges_of}
use Rattle.hm_graph_laws.specs.Ways.{least, lesser, over}
use Rattle.hm_spelling_spec.specs.Tags.{Spelling}
use Rattle.hm_graph_laws.specs.TagEdges.{end_bytes}
use Rattle.hm_graph_laws.specs.States.{Where, after_name, nothing, state, first_state}
use Rattle.hm_graph_laws.specs.Units.{Unit, attribute_units, tag_close}
use Rattle.hm_order.specs.Costs.{plus, inner_cost, attributes_cost}
use Rattle.hm_order.specs.Laws.{close_cost, ClosesBefore, TagsSplit}
use Rattle.hm_order.proofs.Prices.{lesser_none, over_over, plus_assoc}
use Rattle.hm_order.proofs.Values.{InTag, named, unquoted, quoted, WrittenAfter, units_by, attribute_takes}

over_zero : (p : Option ℕ) → p ≡ over 0 p
over_zero None = refl
over_zero (Some a) = ap Some (omega arith)

-- ---- The close of the tag

shorter : (a b : ℕ) (m : Option ℕ) → b ≤ a → lesser (over a m) (over b m) ≡ over b m
shorter a b None h = refl
shorter a b (Some m) h = ap Some (omega (arith, h))

-- with the end tag after it, a tag is best closed by itself
by_itself : (a b : ℕ) (m : Option ℕ) (n : List ℕ) → b ≤ 3 → lesser (over 1 (lesser (over (length (end_bytes n)) m) None)) (lesser (over b (lesser (over 0 m) None)) None) ≡ over b (lesser (over 0 m) None)
by_itself a b m n h =
    let r : Option ℕ = lesser (over 0 m) None in
    let is : r ≡ m = lesser_none (over 0 m) ∙ sym (over_zero m) in
    let long : length (end_bytes n) ≡ 2 + (length n + 1) = length-append (codes "</") (n ++ codes ">") ∙ ap (λ k. 2 + k) (length-append n (codes ">")) in
    ap₂ lesser (ap (over 1) (lesser_none (over (length (end_bytes n)) m)) ∙ over_over 1 (length (end_bytes n)) m) (lesser_none (over b r) ∙ ap (over b) is)
    ∙ shorter (1 + length (end_bytes n)) b m (omega (arith, h, long))
    ∙ ap (over b) (sym is)

abbrev extra : Bool → Where → ℕ
extra closes at = cond (closes && is_after_unquoted at) 1 0

closed_after : (g : Spelling) (closes : Bool) (rest : List Unit) → ClosesBefore closes rest → WrittenAfter g (tag_close closes ∷ rest) (extra closes) (close_cost g closes rest)
closed_after g false rest h = record { at = λ at tag. lesser_none (over 1 (least (edges_of g) rest first_state)) ∙ over_zero (over 1 (least (edges_of g) rest first_state)) }
closed_after g true rest (n, notes_omission, more, is) = record { at = λ at tag. rw is (by at tag) }
  where
    m : Option ℕ
    m = least (edges_of g) more first_state

    r : Option ℕ
    r = lesser (over 0 m) None

    by : (at : Where) → InTag at → lesser (over 1 (lesser (over (length (end_bytes n)) m) None)) (lesser (over (length (cond (is_after_unquoted at) (codes " />") (codes "/>"))) r) None) ≡ over (cond (is_after_unquoted at) 1 0) (over 2 r)
    by at named = by_itself 1 2 m n (omega arith) ∙ over_zero (over 2 r)
    by at quoted = by_itself 1 2 m n (omega arith) ∙ over_zero (over 2 r)
    by at unquoted = by_itself 1 3 m n (omega arith) ∙ sym (over_over 1 2 r)

-- ---- All attributes

of_parts : (name value : List ℕ) (attributes : List Attribute) → attribute_units (record { name = name; value = value } ∷ attributes) ≡ units_by name value ++ attribute_units attributes
of_parts name [] attributes = refl
of_parts name (c ∷ s) attributes = refl

units_split : (a : Attribute) (attributes : List Attribute) (tail : List Unit) → attribute_units (a ∷ attributes) ++ tail ≡ units_by a.name a.value ++ (attribute_units attributes ++ tail)
units_split a attributes tail = ap (λ us. us ++ tail) (of_parts a.name a.value attributes) ∙ append_assoc (units_by a.name a.value) (attribute_units attributes) tail

attributes_take : (g : Spelling) (closes : Bool) (rest : List Unit) → ClosesBefore closes rest → (attributes : List Attribute) (a : Attribute) (at : Where)
    → least (edges_of g) (attribute_units (a ∷ attributes) ++ tag_close closes ∷ rest) (state at nothing) ≡ over (length (gap_at g.rules.tight at)) (plus (attributes_cost g closes a attributes) (close_cost g closes rest))
attributes_take g closes rest h [] a at =
    ap (λ us. least (edges_of g) us (state at nothing)) (units_split a [] (tag_close closes ∷ rest))
    ∙ attribute_takes g a.name a.value (tag_close closes ∷ rest) (extra closes) (close_cost g closes rest) at (closed_after g closes rest h)
attributes_take g closes rest h (b ∷ attributes) a at =
    let k : Option ℕ = plus (attributes_cost g closes b attributes) (close_cost g closes rest) in
    ap (λ us. least (edges_of g) us (state at nothing)) (units_split a (b ∷ attributes) (tag_close closes ∷ rest))
    ∙ attribute_takes g a.name a.value (attribute_units (b ∷ attributes) ++ tag_close closes ∷ rest) (λ place. length (gap_at g.rules.tight place)) k at
    (record { at = λ place tag. attributes_take g closes rest h attributes b place })
    ∙ ap (over (length (gap_at g.rules.tight at))) (sym (plus_assoc (inner_cost g a) (attributes_cost g closes b attributes) (close_cost g closes rest)))

first_gap : (tight : Bool) → length (gap_at tight after_name) ≡ 1
first_gap true = refl
first_gap false = refl

pub tags_split : TagsSplit
tags_split g name a attributes closes rest s h =
    let k : Option ℕ = plus (attributes_cost g closes a attributes) (close_cost g closes rest) in
    lesser_none (over (suc (length name)) (least (edges_of g) (attribute_units (a ∷ attributes) ++ tag_close closes ∷ rest) (state after_name nothing)))
    ∙ ap (over (suc (length name))) (attributes_take g closes rest h attributes a after_name ∙ ap (λ n. over n k) (first_gap g.rules.tight))
    ∙ over_over (suc (length name)) 1 k ∙ ap (λ n. over n k) (omega arith)
