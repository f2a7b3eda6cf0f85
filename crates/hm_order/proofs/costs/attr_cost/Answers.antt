use Rattle.std.proofs.Common.{◌≡◌, ◌<◌, ℕ, Bool, true, false, ◌==◌, ◌&&◌, ◌+◌, not, List, [], ◌∷◌, length, Some, if◌then◌else◌, sym, ap, ◌∙◌, arith}
use Rattle.std.proofs.lemmas.Bool.Decides.{Decides-eqb}
use Rattle.hm_graph_laws.specs.AttributeEdges.{gap_at}
use Rattle.hm_graph_laws.specs.ExchangeLaws.{sparing_plain}
use Rattle.hm_graph_laws.specs.States.{after_name}
use Rattle.hm_spelling_spec.specs.Tags.{Spelling}
use Rattle.hm_order.specs.Costs.{inner_cost, last_cost}
use Rattle.hm_order.specs.Weights.{easy_cost}
use Rattle.hm_order.proofs.Easy.{inner_easy, last_easy}
use Rattle.hm_order.proofs.costs.attr_cost.Goals as goal

-- ---- An attribute without a value, and one with it

bare_inner : (g : Spelling) (name value : List ℕ) → (length value == 0) ≡ true → inner_cost g (record { name = name; value = value }) ≡ Some (length name + 1)
bare_inner g name [] none = by g.rules.tight
  where
    by : (tight : Bool) → Some (length name + length (gap_at tight after_name)) ≡ Some (length name + 1)
    by true = ap Some (omega arith)
    by false = ap Some (omega arith)
bare_inner g name (c ∷ s) none = absurd (omega (arith, (Decides-eqb (length (c ∷ s)) 0).0 none))

bare_last : (g : Spelling) (closes : Bool) (name value : List ℕ) → (length value == 0) ≡ true → last_cost g closes (record { name = name; value = value }) ≡ Some (length name)
bare_last g true name [] none = ap Some (omega arith)
bare_last g false name [] none = ap Some (omega arith)
bare_last g closes name (c ∷ s) none = absurd (omega (arith, (Decides-eqb (length (c ∷ s)) 0).0 none))

some_value : (value : List ℕ) → (length value == 0) ≡ false → 0 < length value
some_value [] some = absurd (cc)
some_value (c ∷ s) some = omega arith

pub returns-then-is_empty-clause-inner : goal.returns-then-is_empty-clause-inner
returns-then-is_empty-clause-inner c = bare_inner (sparing_plain c.args.table.now.entries c.args.rules) c.args.name.now c.args.value.now (sym c.is_empty.ensures ∙ c.if-is_empty.true) ∙ ap Some (sym c.bare_cost.ensures.inner)

pub returns-then-is_empty-clause-last : goal.returns-then-is_empty-clause-last
returns-then-is_empty-clause-last c = bare_last (sparing_plain c.args.table.now.entries c.args.rules) c.args.closes c.args.name.now c.args.value.now (sym c.is_empty.ensures ∙ c.if-is_empty.true) ∙ ap Some (sym c.bare_cost.ensures.last)

pub graph_cost-requires-clause-some : goal.graph_cost-requires-clause-some
graph_cost-requires-clause-some c = some_value c.args.value.now (sym c.is_empty.ensures ∙ c.if-is_empty.false)

pub returns-clause-inner : goal.returns-clause-inner
returns-clause-inner c =
    let r = c.args.rules in
    let some : 0 < length c.args.value.now = some_value c.args.value.now (sym c.is_empty.ensures ∙ c.if-is_empty.false) in
    inner_easy c.args.table.now.entries c.every_table.ensures.names r c.is_ascii-low.result c.args.name.now c.args.value.now c.utf8.value some c.in-Some.ensures.easy c.in-Some.ensures.literal
    ∙ ap (λ b. Some (easy_cost b (length c.args.name.now) (length c.args.value.now) 1 (if r.tight then 0 else 1))) (ap (λ x. r.unquote && not x) (sym c.in-Some.ensures.barred) ∙ sym c.stands_bare-bare.ensures)
    ∙ ap Some (sym c.easy_cost.ensures.inner)

pub returns-clause-last : goal.returns-clause-last
returns-clause-last c =
    let r = c.args.rules in
    let some : 0 < length c.args.value.now = some_value c.args.value.now (sym c.is_empty.ensures ∙ c.if-is_empty.false) in
    last_easy c.args.table.now.entries c.every_table.ensures.names r c.is_ascii-low.result c.args.closes c.args.name.now c.args.value.now c.utf8.value some c.in-Some.ensures.easy c.in-Some.ensures.literal
    ∙ ap (λ b. Some (easy_cost b (length c.args.name.now) (length c.args.value.now) (if c.args.closes then 1 else 0) 0)) (ap (λ x. r.unquote && not x) (sym c.in-Some.ensures.barred) ∙ sym c.stands_bare-bare.ensures)
    ∙ ap Some (sym c.easy_cost.ensures.last)
