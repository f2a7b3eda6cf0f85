use Rattle.std.proofs.Common.{◌∙◌, sym}
use Rattle.std.proofs.lemmas.Result.{on_ok_weaker}
use Rattle.hm_graph.proofs.Going.{bare_added, value_added}
use Rattle.hm_graph.proofs.along.add_attribute.Goals as goal

pub returns-then-is_empty : goal.returns-then-is_empty
returns-then-is_empty g c =
    on_ok_weaker c.add_one.result (λ goes. bare_added g.V.Visitor.goes_on c.args.name.now c.args.value.now c.args.along.now c.add_one.new.along (sym c.is_empty.ensures ∙ c.if-is_empty.true) goes) c.add_one.ensures

pub returns : goal.returns
returns g c =
    on_ok_weaker c.add_one-2.result
    (λ goes. value_added g.V.Visitor.goes_on c.args.name.now c.args.value.now c.args.along.now c.add_opening.new.along c.add_characters.new.along c.add_one-2.new.along (sym c.is_empty.ensures ∙ c.if-is_empty.false) c.in_ok-add_opening.ensures
    c.in_ok-add_characters.ensures goes)
    c.add_one-2.ensures
