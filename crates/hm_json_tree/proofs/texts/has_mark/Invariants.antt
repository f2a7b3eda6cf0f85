use Rattle.std.proofs.Common.{◌≡◌, drop}
use Rattle.hm_base.specs.Forms.{has_mark}
use Rattle.hm_json_tree.proofs.texts.has_mark.Given as goal

abbrev pub invariant-loop-i : goal.invariant-loop-i
invariant-loop-i l = has_mark l.mark l.text ≡ has_mark l.mark (drop l.i l.text)
