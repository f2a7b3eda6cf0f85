use Rattle.std.proofs.Common.{◌≡◌, ◌∙◌, ◌+◌, [], ap, sym}
use Rattle.hm_base.specs.declared.plain.Format.TheVariants.{Sparse}
use Rattle.hm_cert.specs.Certificate.{certificate_text}
use Rattle.hm_graph.specs.Prices.{rows_of, written_rows}
use Rattle.hm_graph.specs.Graphs.{GraphSource, GraphView}
use Rattle.hm_graph_laws.specs.Units.{units_of}
use Rattle.hm_shortest.proofs.Directly.{at_end, from_start}
use Rattle.hm_shortest.proofs.Graphs.{certificate_is, text_is_shortest, units_count}
use Rattle.hm_shortest.proofs.Whole.{whole_lines, whole_text}
use Rattle.hm_shortest.proofs.Written.{certified_readable}
use Rattle.hm_shortest.specs.Direct.{rows_in}
use Rattle.hm_shortest.proofs.direct.write_directly.Goals as goal

pub returns-clause-made : goal.returns-clause-made
returns-clause-made c =
    let t = c.args.table.now.entries in
    let source : GraphSource = record { tree = c.args.tree.now; table = c.args.table.now; rules = c.args.rules; format = Sparse } in
    let walk = c.in_ok-walked.ensures in
    let g : GraphView = record { source = source; steps = walk.steps; runs = []; last = c.in_ok-walked.walked.last } in
    let end = c.settle.new.self in
    let settled = c.in_ok-settle.ensures.settled in
    let units = units_of c.args.rules c.args.tree.now in
    let written = from_start end t units g.steps c.new-start.result c.new-start.ensures.stretch c.new-start.ensures.first c.new-start.ensures.place (walk.on end (at_end t g.last c.in_ok-walked.way end settled)) in
    let text = whole_text t units g.steps g.last end settled.last_is written.1 in
    let lines : rows_in end ≡ written_rows Sparse 0 g.steps (rows_of g.last g.steps) = whole_lines t _ g.steps g.last end settled.last_is walk.graph.low walk.few written.0 written.1 in
    record {
      out = text ∙ text_is_shortest g c.every_table.ensures.names walk.graph;
      certificate = c.in_ok-certificate.ensures ∙ ap (certificate_text Sparse c.args.rules) lines ∙ certificate_is g walk.graph;
      layers = ap (λ n. n + 1) (walk.len ∙ sym (units_count g walk.graph));
    }

pub returns-clause-readable : goal.returns-clause-readable
returns-clause-readable c = λ s.
    let walk = c.in_ok-walked.ensures in
    let g : GraphView = record { source = record { tree = c.args.tree.now; table = c.args.table.now; rules = c.args.rules; format = Sparse }; steps = walk.steps; runs = []; last = c.in_ok-walked.walked.last } in
    certified_readable g c.every_table.ensures.names walk.graph walk.few s
