use Rattle.std.proofs.Common.{◌∙◌, ◌++◌, List, option_and_then, ap, subst, sym, arith, drop}
use Rattle.std.specs.Option.{IfSome}
use Rattle.hm_edges.specs.Pieces.{HasName, piece_text}
use Rattle.hm_graph_laws.specs.Prices.{Row}
use Rattle.hm_graph.specs.Graphs.{GraphView, IsNamedStep}
use Rattle.hm_graph.specs.Ways.{along, choices_of, hop_taken, step_choices}
use Rattle.hm_event_parts.specs.UnitText.{own_text}
use Rattle.hm_refs.specs.Names.{Entry}
use Rattle.hm_shortest.specs.Paths.{row_after}
use Rattle.hm_shortest.specs.declared.paths.WrittenWay.{WrittenWay}
use Rattle.hm_graph.proofs.Named.{named_step}
use Rattle.hm_shortest.proofs.FirstWay.{text_one}
use Rattle.hm_shortest.proofs.paths.take.Goals as goal

pub put_hop-requires : goal.put_hop-requires
put_hop-requires c =
    let g : GraphView = c.args.graph.now in
    let t : List Entry = g.source.table.entries in
    let named : IsNamedStep t c.step.result.now = subst (IsNamedStep t) (sym c.step.ensures) (named_step t g.steps c.args.way.now.at.layer c.every_graph.ensures.graph.named) in
    subst (λ v. IfSome c.next_hop-hop.result (λ hop. HasName v.entries hop.piece)) (sym c.table.ensures) (c.next_hop-hop.ensures.named t named)

pub returns : goal.returns
returns c = λ u is.
    let g : GraphView = c.args.graph.now in
    let old : WrittenWay = c.args.way.now in
    let new : WrittenWay = record { out = c.put_hop.new.out; at = c.next-way.result; place = c.in_ok-way.field-0; choices = c.cut_choices.result.0 } in
    let after : Row = row_after g old.at.layer in
    let taken = c.next_hop-hop.ensures.taken after (c.cut_choices.ensures.front ∙ ap (step_choices after) (sym c.step.ensures)) ∙ ap (λ step. option_and_then (hop_taken after step) old.place) c.step.ensures in
    record {
      count = omega (arith, c.next-way.ensures.layer);
      on = record { place = c.next-way.ensures.place; choices = c.cut_choices.ensures.after ∙ ap (λ k. choices_of g.last (drop k g.steps)) (sym c.next-way.ensures.layer) };
      text = text_one g u (own_text c.args.own) c.next_hop-hop.result old new c.requires.inside c.next-way.ensures.layer is taken
          (λ more. c.in_ok-way.ensures more ∙ ap (λ v. old.out.items ++ along (piece_text v.entries (own_text c.args.own)) more c.next_hop-hop.result) c.table.ensures);
    }
