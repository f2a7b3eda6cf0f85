use Rattle.std.proofs.Common.{rules}
use Rattle.hm_words.proofs.Unasked.{asks_nothing}
use Rattle.hm_words.proofs.notices.notice_in.Goals as goal

pub returns-in-len1-clause-unasked : goal.returns-in-len1-clause-unasked
returns-in-len1-clause-unasked c = asks_nothing c.args.words.now c.notice_of.result (search rules)
