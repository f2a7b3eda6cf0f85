use Rattle.std.proofs.Common.{◌≡◌, drop}
use Rattle.hm_elements.specs.Settled.{no_zero_in_values}
use Rattle.hm_json_tree.proofs.attributes.have_zero.Given as goal

abbrev pub invariant-loop-i : goal.invariant-loop-i
invariant-loop-i l = no_zero_in_values l.pairs ≡ no_zero_in_values (drop l.i l.pairs)
