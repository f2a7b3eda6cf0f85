use Rattle.std.proofs.Common.{◌≡◌, ◌∙◌, ◌≤◌, ◌<◌, ◌+◌, ◌++◌, Some, ap, arith, drop, length, sym}
use Rattle.hm_event_parts.specs.Events.{units_at}
use Rattle.hm_event_parts.specs.Parts.{parts_units}
use Rattle.hm_graph.specs.Graphs.{GraphView}
use Rattle.hm_graph.specs.Ways.{choices_of}
use Rattle.hm_shortest.specs.Paths.{way_on}
use Rattle.hm_shortest.specs.declared.paths.WrittenWay.{WrittenWay}
use Rattle.hm_shortest.proofs.Graphs.{units_count}
use Rattle.hm_shortest.proofs.Walking.{all_events, event_inside, event_taken, goes_none, left_at}
use Rattle.hm_shortest.proofs.paths.write_path.Goals as goal

pub loop-i-init : goal.loop-i-init
loop-i-init c =
    let g : GraphView = c.args.graph.now in
    let start : WrittenWay = record { out = c.new.result; at = c.first_layer.result; place = Some 0; choices = c.args.choices } in
    goes_none g (left_at g 0) start (record { place = c.first_layer.ensures.place; choices = c.requires ∙ ap (λ k. choices_of g.last (drop k g.steps)) (sym c.first_layer.ensures.layer) })

pub take_parts-requires-clause-inside : goal.take_parts-requires-clause-inside
take_parts-requires-clause-inside c =
    let g : GraphView = c.args.graph.now in
    let start : WrittenWay = record { out = c.new.result; at = c.first_layer.result; place = Some 0; choices = c.args.choices } in
    let whole : start.at.layer + length (left_at g 0) ≤ length g.steps = omega (arith, c.first_layer.ensures.layer, units_count g c.every_graph.ensures.graph) in
    let inside : c.loop-i.i < length g.source.tree = omega (arith, c.len-i-end.ensures.len, ap length c.tree-tree.ensures) in
    let are : parts_units c.deref.result.now ≡ units_at g.source.rules g.source.tree c.loop-i.i =
    ap parts_units c.deref.ensures.value ∙ c.in_ok-find_parts.ensures.units ∙ (λ j. units_at (c.rules.ensures j) (c.tree-tree.ensures j) c.loop-i.i) in
    event_inside g start c.loop-i.i c.deref.result.now c.loop-i.way whole inside are c.loop-i.invariant

pub take_parts-requires-clause-on : goal.take_parts-requires-clause-on
take_parts-requires-clause-on c = c.loop-i.invariant.on

pub loop-i-preserved : goal.loop-i-preserved
loop-i-preserved c =
    let g : GraphView = c.args.graph.now in
    let start : WrittenWay = record { out = c.new.result; at = c.first_layer.result; place = Some 0; choices = c.args.choices } in
    let inside : c.loop-i.i < length g.source.tree = omega (arith, c.len-i-end.ensures.len, ap length c.tree-tree.ensures) in
    let are : parts_units c.deref.result.now ≡ units_at g.source.rules g.source.tree c.loop-i.i =
    ap parts_units c.deref.ensures.value ∙ c.in_ok-find_parts.ensures.units ∙ (λ j. units_at (c.rules.ensures j) (c.tree-tree.ensures j) c.loop-i.i) in
    event_taken g start c.loop-i.i c.deref.result.now c.loop-i.way c.take_parts.new.way inside are c.loop-i.invariant c.in_ok-take_parts.ensures

pub returns : goal.returns
returns c =
    let g : GraphView = c.args.graph.now in
    let start : WrittenWay = record { out = c.new.result; at = c.first_layer.result; place = Some 0; choices = c.args.choices } in
    let past : c.loop-i.i ≡ length g.source.tree = omega (arith, c.loop-i-test.false, c.loop-i.auto.i-end, c.len-i-end.ensures.len, ap length c.tree-tree.ensures) in
    sym (all_events g start c.loop-i.i c.loop-i.way past c.loop-i.invariant) ∙ (λ j. c.new.ensures.items j ++ way_on g (left_at g 0) (c.first_layer.ensures.layer j) (Some 0))
