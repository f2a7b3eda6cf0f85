use Rattle.std.proofs.Common.{◌∙◌, ◌++◌, length, chars, drop, take, sym, subst, arith}
use Rattle.std.proofs.Math.ListN.{replicate}
use Rattle.hm_edges.specs.Units.{kind_of}
use Rattle.hm_graph.specs.Going.{GoesOver}
use Rattle.hm_graph.specs.declared.along.Along.{Along}
use Rattle.hm_graph.proofs.Characters.{ascii_boundary}
use Rattle.hm_graph.proofs.Going.{by_table, front_by, goes_none, low_by, named_by, text_alike}
use Rattle.hm_graph_laws.specs.Units.{character_units}
use Rattle.hm_graph.proofs.along.add_alike.Goals as goal

pub take_alike-requires-clause-named : goal.take_alike-requires-clause-named
take_alike-requires-clause-named g c =
    named_by c.table.result.now c.add_alike.new.self c.in_ok-to.field-0.to.number c.step.result.now c.table.ensures c.step.ensures (c.in_ok-to.ensures.step (omega (arith, c.if-count-eq0.false)))

pub take_alike-requires-clause-low : goal.take_alike-requires-clause-low
take_alike-requires-clause-low g c =
    low_by c.add_alike.new.self c.in_ok-to.field-0.to.number c.step.result.now c.step.ensures (c.in_ok-to.ensures.step (omega (arith, c.if-count-eq0.false)))

pub returns-then-count-eq0-clause-goes : goal.returns-then-count-eq0-clause-goes
returns-then-count-eq0-clause-goes g c =
    let us = character_units (kind_of c.args.kind) (chars c.args.text.now) in
    let C = g.V.Visitor.goes_on in
    subst (λ graph. GoesOver C (kind_of c.args.kind) (chars c.args.text.now) (chars c.args.text.now) c.args.along.now (record { graph = graph; by = c.args.along.now.by })) (sym (c.in_ok-to.ensures.none c.if-count-eq0.true)) (goes_none C us c.args.along.now)

pub range_from-requires : goal.range_from-requires
range_from-requires g c = λ some. ascii_boundary c.args.text.now c.in_ok-to.field-0.count c.utf8.text c.in_ok-to.ensures.within c.in_ok-to.ensures.ascii

pub returns-clause-goes : goal.returns-clause-goes
returns-clause-goes g c =
    let C = g.V.Visitor.goes_on in
    let kind = kind_of c.args.kind in
    let text = c.args.text.now in
    let count = c.in_ok-to.field-0.count in
    let step = c.step.result.now in
    let adds = front_by c.args.along.now.graph c.add_alike.new.self kind (chars text) (chars (drop count text)) count c.in_ok-to.field-0.to.number step c.step.ensures (c.in_ok-to.ensures.adds (omega (arith, c.if-count-eq0.false))) in
    let new : Along g.row.V.Denot = record { graph = c.add_alike.new.self; by = c.take_alike.new.self } in
    subst (λ rest. GoesOver C kind (chars text) (chars rest) c.args.along.now new) (sym c.range_from.ensures.value)
    (text_alike C kind text count step c.args.along.now new c.in_ok-to.ensures.within c.in_ok-to.ensures.ascii adds
    (λ end rest more steps.
    by_table (C end) c.args.along.now.graph.table c.table.result.now (character_units kind rest ++ more) (character_units kind (take count text ++ rest) ++ more) steps (replicate (length (take count text)) step ++ steps) c.take_alike.new.self c.args.along.now.by
    (c.table.ensures ∙ adds.adds.table)
    (subst
    (λ bytes. C end c.table.result.now.entries (character_units kind rest ++ more) steps c.take_alike.new.self → C end c.table.result.now.entries (character_units kind (take count bytes ++ rest) ++ more) (replicate (length (take count bytes)) step ++ steps) c.args.along.now.by)
    c.as_bytes.ensures.value (c.in_ok-take_alike.ensures end kind rest more steps))))
