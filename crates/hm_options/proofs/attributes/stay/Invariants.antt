use Rattle.std.proofs.Common.{◌≡◌, flat_map, take}
use Rattle.hm_options.specs.Passes.{attribute_pass}
use Rattle.hm_tree.specs.Views.{attributes_shown}
use Rattle.hm_options.proofs.attributes.stay.Given as goal

abbrev pub invariant-loop-i : goal.invariant-loop-i
invariant-loop-i l = flat_map (attribute_pass l.options l.element) (take l.i (attributes_shown l.attrs)) ≡ take l.i (attributes_shown l.attrs)
