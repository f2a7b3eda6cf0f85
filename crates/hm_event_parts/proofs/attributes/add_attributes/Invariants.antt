use Rattle.std.proofs.Common.{take, Ok}
use Rattle.hm_base.specs.declared.plain.OutOfMemory.{OutOfMemory}
use Rattle.hm_tree.specs.Views.{attributes_shown}
use Rattle.hm_graph_laws.specs.Units.{attribute_units}
use Rattle.hm_event_parts.specs.Adding.{AddsParts}
use Rattle.hm_event_parts.proofs.attributes.add_attributes.Given as goal

abbrev pub invariant-loop-i : goal.invariant-loop-i
invariant-loop-i l = AddsParts {E = OutOfMemory} (Ok tt) l.initial.into.items l.into.items (attribute_units (take l.i (attributes_shown l.attrs)))
