use Rattle.std.proofs.Common.{◌≡◌, true, false, not, ap, sym, ◌∙◌}
use Rattle.hm_base.specs.Forms.{has_byte}
use Rattle.hm_base.specs.Walks.{Attribute}
use Rattle.hm_json_tree.proofs.Told.{zero_found, zero_goes_on}
use Rattle.hm_json_tree.proofs.attributes.have_zero.Goals as goal

pub returns-then-has_byte : goal.returns-then-has_byte
returns-then-has_byte c =
    let a : Attribute = record { name = c.at.result.0.now; value = c.at.result.1.now } in
    let zero : has_byte 0 a.value ≡ true = sym (rw c.as_bytes.ensures.value at c.if-has_byte.ensures) in
    sym (ap not (c.loop-i.invariant ∙ zero_found c.args.pairs.now c.loop-i.i a c.at.ensures zero))

pub loop-i-preserved : goal.loop-i-preserved
loop-i-preserved c =
    let a : Attribute = record { name = c.at.result.0.now; value = c.at.result.1.now } in
    let none : has_byte 0 a.value ≡ false = sym (rw c.as_bytes.ensures.value at c.if-has_byte.ensures) in
    c.loop-i.invariant ∙ zero_goes_on c.args.pairs.now c.loop-i.i a c.at.ensures none
