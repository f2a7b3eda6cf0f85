use Rattle.std.proofs.Common.{◌≡◌, drop}
use Rattle.hm_base.specs.Bytes.{all_pass, is_space}
use Rattle.hm_options.proofs.attributes.is_blank.Given as goal

abbrev pub invariant-loop-byte : goal.invariant-loop-byte
invariant-loop-byte l = all_pass is_space l.text ≡ all_pass is_space (drop l.byte-index l.text)
