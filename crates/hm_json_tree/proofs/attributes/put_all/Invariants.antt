use Rattle.std.proofs.Common.{◌≡◌, true, take}
use Rattle.hm_elements.specs.Settled.{all_names_in_form}
use Rattle.hm_json_tree.proofs.attributes.put_all.Given as goal

abbrev pub invariant-loop-i : goal.invariant-loop-i
invariant-loop-i l = (l.attrs ≡ take l.i l.pairs) × (all_names_in_form l.attrs ≡ true)
