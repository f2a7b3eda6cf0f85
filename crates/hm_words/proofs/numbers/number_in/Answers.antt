use Rattle.std.proofs.Common.{◌∙◌, sym}
use Rattle.hm_words.proofs.Decimals.{number_too_great}
use Rattle.hm_words.proofs.numbers.number_in.Goals as goal

pub returns-in_default-3 : goal.returns-in_default-3
returns-in_default-3 c = number_too_great c.args.word.now c.args.least c.args.most _ c.parse.result (sym c.is_number.ensures ∙ c.if-not-is_number.false) c.parse.ensures.value.0 c.in_default.is c.ranges.most.fits
