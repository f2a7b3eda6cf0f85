use Rattle.std.proofs.Common.{◌≡◌, length, sym, ◌∙◌, arith}
use Rattle.hm_scan.proofs.Faults.{bad_tag_name, bad_attribute, too_many, no_fault}
use Rattle.hm_scan.proofs.tag.fault_of.Goals as goal

pub returns-then-not-is_read : goal.returns-then-not-is_read
returns-then-not-is_read c = λ t written kept k. sym (bad_tag_name c.args.name.now written (sym c.is_read.ensures ∙ c.if-not-is_read.true))

pub returns-then-collected : goal.returns-then-collected
returns-then-collected c = λ t written kept k. sym (bad_attribute c.args.name.now written (sym k.bad ∙ c.if-collected.true))

pub returns-then-collected-gt-ATTRIBUTE_LIMIT : goal.returns-then-collected-gt-ATTRIBUTE_LIMIT
returns-then-collected-gt-ATTRIBUTE_LIMIT c = λ t written kept k.
    let count : c.args.collected.now.count ≡ length written = k.count in
    sym (too_many c.args.name.now written (sym c.is_read.ensures ∙ c.if-not-is_read.false) (sym k.bad ∙ c.if-collected.false) (omega arith))

pub returns : goal.returns
returns c = λ t written kept k.
    let count : c.args.collected.now.count ≡ length written = k.count in
    sym (no_fault c.args.name.now written (sym c.is_read.ensures ∙ c.if-not-is_read.false) (sym k.bad ∙ c.if-collected.false) (omega arith))
