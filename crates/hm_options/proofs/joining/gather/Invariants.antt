use Rattle.std.proofs.Common.{◌≡◌, take, string_bytes}
use Rattle.hm_options.specs.Passing.{texts_of}
use Rattle.hm_options.proofs.joining.gather.Given as goal

abbrev pub invariant-loop-i : goal.invariant-loop-i
invariant-loop-i l = string_bytes l.texts ≡ texts_of (take l.i l.editor.left)
