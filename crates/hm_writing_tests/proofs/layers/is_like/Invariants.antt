use Rattle.std.proofs.Common.{◌≡◌}
use denote.Text.{Utf8}
use denote.Shadow.{shadow}
use Rattle.hm_graph.specs.Graphs.{IsPlace}
use Rattle.hm_writing_tests.proofs.layers.is_like.Given as goal

abbrev pub invariant-loop-k : goal.invariant-loop-k
invariant-loop-k l = record {
  place : IsPlace l.graph l.at;
  layer : l.at.layer ≡ l.k;
  text : shadow (Utf8 l.rest);
}
