use Rattle.std.proofs.Common.{◌≡◌, drop}
use Rattle.hm_base.specs.Bytes.{all_pass}
use Rattle.hm_base.specs.Forms.{is_tag_byte}
use Rattle.hm_scan.proofs.names.are_tag_bytes.Given as goal

abbrev pub invariant-loop-byte : goal.invariant-loop-byte
invariant-loop-byte l = all_pass is_tag_byte l.name ≡ all_pass is_tag_byte (drop l.byte-index l.name)
