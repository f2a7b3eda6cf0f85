use Rattle.std.proofs.Common.{◌≡◌, drop}
use Rattle.hm_base.specs.Bytes.{all_pass}
use Rattle.hm_base.specs.Forms.{is_attribute_byte}
use Rattle.hm_json_tree.proofs.texts.are_attribute_bytes.Given as goal

abbrev pub invariant-loop-byte : goal.invariant-loop-byte
invariant-loop-byte l = all_pass is_attribute_byte l.name ≡ all_pass is_attribute_byte (drop l.byte-index l.name)
