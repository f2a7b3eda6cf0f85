use Rattle.std.proofs.Common.{◌≡◌, ◌∙◌, ◌∷◌, [], ap, arith}
use Rattle.hm_base.specs.Walks as walks
use Rattle.hm_tree.specs.Views.{attributes_shown}
use Rattle.hm_graph_laws.specs.Units.{fixed}
use Rattle.hm_event_parts.proofs.EventUnits.{units_here}
use Rattle.hm_event_parts.proofs.Sizes.{event_within, end_within}
use Rattle.hm_event_parts.proofs.found.find_event.Goals as goal

pub text_found-requires-clause-short : goal.text_found-requires-clause-short
text_found-requires-clause-short c = omega (arith, c.len-len.ensures.walk.bytes, event_within c.args.tree.now c.args.i (walks.text c.in-Text.text.now c.in-Text.raw) c.in-Text.ensures)

pub start_found-requires-clause-short : goal.start_found-requires-clause-short
start_found-requires-clause-short c = omega (arith, c.len-len.ensures.walk.bytes, event_within c.args.tree.now c.args.i (walks.start c.in-Start.name.now c.in-Start.foreign (attributes_shown c.in-Start.attrs)) c.in-Start.ensures)

pub end_found-requires-clause-short : goal.end_found-requires-clause-short
end_found-requires-clause-short c = omega (arith, c.len-len.ensures.walk.bytes, end_within c.args.tree.now c.args.i c.in-End.name.now c.in-End.foreign c.len-len.ensures.walk.matched c.in-End.ensures)

pub returns-in-Doctype-clause-units : goal.returns-in-Doctype-clause-units
returns-in-Doctype-clause-units c = c.fixed_part.ensures.units ∙ ap (λ b. fixed b ∷ []) c.doctype_text.ensures.value ∙ units_here c.args.rules c.args.tree.now c.args.i (walks.doctype c.in-Doctype.legacy) c.in-Doctype.ensures

pub returns-in-Comment-clause-units : goal.returns-in-Comment-clause-units
returns-in-Comment-clause-units c = units_here c.args.rules c.args.tree.now c.args.i (walks.comment c.in-Comment.text.now) c.in-Comment.ensures

pub returns-in-Comment-clause-found : goal.returns-in-Comment-clause-found
returns-in-Comment-clause-found c = omega (arith, c.len-len.ensures.walk.bytes, event_within c.args.tree.now c.args.i (walks.comment c.in-Comment.text.now) c.in-Comment.ensures)

pub returns-in-Text-clause-units : goal.returns-in-Text-clause-units
returns-in-Text-clause-units c = c.text_found.ensures.units ∙ units_here c.args.rules c.args.tree.now c.args.i (walks.text c.in-Text.text.now c.in-Text.raw) c.in-Text.ensures

pub returns-in-Start-clause-units : goal.returns-in-Start-clause-units
returns-in-Start-clause-units c = c.start_found.ensures.units ∙ units_here c.args.rules c.args.tree.now c.args.i (walks.start c.in-Start.name.now c.in-Start.foreign (attributes_shown c.in-Start.attrs)) c.in-Start.ensures

pub returns-in-End-clause-units : goal.returns-in-End-clause-units
returns-in-End-clause-units c = c.end_found.ensures.units ∙ units_here c.args.rules c.args.tree.now c.args.i (walks.end c.in-End.name.now c.in-End.foreign) c.in-End.ensures
