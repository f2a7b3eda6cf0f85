use Rattle.std.proofs.Common.{◌≡◌, ◌∙◌, ℕ, ◌<◌, true, List, [], ◌∷◌, length, Some, sym, ap, arith}
use Rattle.hm_base.specs.Walks.{Attribute}
use Rattle.hm_graph_laws.specs.ExchangeLaws.{sparing_plain}
use Rattle.hm_graph_laws.specs.Ways.{over}
use Rattle.hm_spelling_spec.specs.Tags.{Spelling}
use Rattle.hm_order.specs.Costs.{inner_cost, last_cost}
use Rattle.hm_order.proofs.Alone.{inner_apart, inner_tight}
use Rattle.hm_order.proofs.costs.graph_cost.Goals.{else-rules, then-rules}
use Rattle.hm_order.proofs.costs.graph_cost.Goals as goal

-- under the rule `tight`, of a value that isn't empty
inner_touching : (g : Spelling) (name value : List ℕ) → 0 < length value → g.rules.tight ≡ true → inner_cost g (record { name = name; value = value }) ≡ last_cost g true (record { name = name; value = value })
inner_touching g name [] some tight = absurd (omega (arith, some))
inner_touching g name (c ∷ s) some tight = inner_tight g name c s tight

pub returns-clause-inner : goal.returns-clause-inner
returns-clause-inner c =
    let g : Spelling = sparing_plain c.args.table.now.entries c.args.rules in
    let a : Attribute = record { name = c.args.name.now; value = c.args.value.now } in
    elim c.if-rules.branch [
      | then-rules w ↦ inner_touching g c.args.name.now c.args.value.now c.requires.some w.if-rules.true ∙ ap (λ t. last_cost g t a) (sym w.if-rules.true) ∙ c.in_ok-near.ensures.cost ∙ ap Some (sym w.inner-is)
      | else-rules w ↦ inner_apart g a w.if-rules.false ∙ ap (over 1) (ap (λ t. last_cost g t a) (sym w.if-rules.false) ∙ c.in_ok-near.ensures.cost) ∙ ap Some (omega (arith, w.inner-is))
    ]

pub returns-clause-last : goal.returns-clause-last
returns-clause-last c = c.in_ok-last.ensures.cost
