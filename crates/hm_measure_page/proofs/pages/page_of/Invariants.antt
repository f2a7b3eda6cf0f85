use Rattle.std.proofs.Common.{◌≡◌, ◌++◌, string_bytes}
use Rattle.hm_measure_page.specs.Pages.{chance, heading, lines}
use Rattle.hm_measure_page.proofs.pages.page_of.Given as goal

abbrev pub invariant-loop-k : goal.invariant-loop-k
invariant-loop-k l = record {
  sequence : l.chance ≡ chance l.fn.number l.k;
  text : string_bytes l.text ≡ heading l.fn.number ++ lines l.fn.number l.k;
}
