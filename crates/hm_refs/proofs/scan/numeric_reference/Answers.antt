use Rattle.std.proofs.Common.{◌∙◌}
use Rattle.hm_base.specs.Bytes.{is_digit_of}
use Rattle.hm_refs.proofs.ReferenceReads.{digits_pass, number_read}
use Rattle.hm_refs.proofs.scan.numeric_reference.Goals as goal

pub number-requires-clause-digits : goal.number-requires-clause-digits
number-requires-clause-digits c = digits_pass (is_digit_of c.args.base) c.args.text.now c.args.from c.digits_end-to.result c.digits_end-to.ensures

pub returns : goal.returns
returns c =
    number_read c.args.text.now c.args.from c.digits_end-to.result c.args.base c.number_value.result c.semicolon_len.result c.requires.high c.digits_end-to.ensures c.if-to-from.false (c.number_value.ensures ∙ c.number.ensures) c.semicolon_len.ensures
