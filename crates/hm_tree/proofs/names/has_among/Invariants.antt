use Rattle.std.proofs.Common.{◌≡◌, drop}
use Rattle.hm_base.specs.Walks.{has_name}
use Rattle.hm_tree.specs.Pairs.{attributes_of}
use Rattle.hm_tree.proofs.names.has_among.Given as goal

abbrev pub invariant-loop-pair : goal.invariant-loop-pair
invariant-loop-pair l = has_name l.name (attributes_of l.text l.pairs) ≡ has_name l.name (attributes_of l.text (drop l.pair-index l.pairs))
