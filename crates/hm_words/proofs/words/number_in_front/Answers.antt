use Rattle.std.proofs.Common.{rules}
use Rattle.hm_words.proofs.Decimals.{few_names}
use Rattle.hm_words.proofs.words.number_in_front.Goals as goal

pub returns-in_default : goal.returns-in_default
returns-in_default c = few_names c.args.names.now (search rules)
