use Rattle.std.proofs.Common.{◌≡◌, length}
use Rattle.hm_json_tree.specs.Progress.{IsAt, AreListed}
use Rattle.hm_json_tree.proofs.reading.take_items.Given as goal

abbrev pub invariant-loop-i : goal.invariant-loop-i
invariant-loop-i l = IsAt l.reader × (l.i ≡ length l.reader.maker) × AreListed l.items l.i l.reader.maker l.reader.path
