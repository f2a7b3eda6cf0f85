use Rattle.std.proofs.Common.{◌≡◌, ◌*◌, ◌++◌, map}
use Rattle.hm_cert.specs.Layout.{told}
use Rattle.hm_graph_laws.specs.Ways.{over}
use Rattle.hm_shortest.specs.Plans.{raised_lines}
use Rattle.hm_shortest.proofs.plans.Back.write_alike.Given as goal

abbrev pub invariant-loop-layer : goal.invariant-loop-layer
invariant-loop-layer l = record {
  text : l.self.text ≡ l.initial.self.text ++ raised_lines l._layer l.len (map told l.initial.self.row.items);
  choices : l.self.choices ≡ l.initial.self.choices;
  row : map told l.self.row.items ≡ map (over (l._layer * l.len)) (map told l.initial.self.row.items);
}
