use Rattle.std.proofs.Common.{[], refl, sym, subst}
use Rattle.std.proofs.lemmas.Result.{on_ok_weaker}
use Rattle.hm_edges.specs.Units as edges
use Rattle.hm_graph_laws.specs.Units as units
use Rattle.hm_event_parts.specs.Parts.{IsPart, comment_bytes, part_units}
use Rattle.hm_graph.specs.Going.{Goes}
use Rattle.hm_graph.proofs.Parts.{comment_length}
use Rattle.hm_graph.proofs.along.add_part.Goals as goal

pub add_one-requires : goal.add_one-requires
add_one-requires g c = subst IsPart c.in-One.is c.requires

pub returns-in-One : goal.returns-in-One
returns-in-One g c =
    on_ok_weaker c.add_one.result (λ goes. subst (λ p. Goes g.V.Visitor.goes_on (part_units p) [] c.args.along.now c.add_one.new.along) (sym c.in-One.is) goes) c.add_one.ensures

pub add_opening-requires : goal.add_opening-requires
add_opening-requires g c = subst IsPart c.in-Opening.is c.requires

pub returns-in-Opening : goal.returns-in-Opening
returns-in-Opening g c =
    on_ok_weaker c.add_opening.result (λ goes. subst (λ p. Goes g.V.Visitor.goes_on (part_units p) [] c.args.along.now c.add_opening.new.along) (sym c.in-Opening.is) goes) c.add_opening.ensures

pub returns-in-Comment : goal.returns-in-Comment
returns-in-Comment g c =
    let C = g.V.Visitor.goes_on in
    on_ok_weaker c.add.result
    (λ goes.
    subst (λ p. Goes C (part_units p) [] c.args.along.now c.add.new.along) (sym c.in-Comment.is)
    (goes (units.fixed (comment_bytes c.in-Comment.text.now)) (edges.fixed (comment_bytes c.in-Comment.text.now) _ (comment_length c.in-Comment.text.now)) refl))
    c.add.ensures

pub returns-in-Chars : goal.returns-in-Chars
returns-in-Chars g c =
    on_ok_weaker c.add_characters.result (λ goes. subst (λ p. Goes g.V.Visitor.goes_on (part_units p) [] c.args.along.now c.add_characters.new.along) (sym c.in-Chars.is) goes) c.add_characters.ensures
