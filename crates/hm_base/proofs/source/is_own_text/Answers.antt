use Rattle.std.proofs.Common.{arith, refl}
use Rattle.hm_base.proofs.Lines.{text_bytes}
use Rattle.hm_base.proofs.source.is_own_text.Goals as goal

pub returns-in-None-clause-plain : goal.returns-in-None-clause-plain
returns-in-None-clause-plain c = λ own nonzero. text_bytes c.args.page.now nonzero (λ i inside is_return. c.in-None.ensures i (omega arith) inside (rw is_return refl))
