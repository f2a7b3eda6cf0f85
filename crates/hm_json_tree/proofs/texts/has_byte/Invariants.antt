use Rattle.std.proofs.Common.{◌≡◌, drop}
use Rattle.hm_base.specs.Forms.{has_byte}
use Rattle.hm_json_tree.proofs.texts.has_byte.Given as goal

abbrev pub invariant-loop-one : goal.invariant-loop-one
invariant-loop-one l = has_byte l.byte l.text ≡ has_byte l.byte (drop l.one-index l.text)
