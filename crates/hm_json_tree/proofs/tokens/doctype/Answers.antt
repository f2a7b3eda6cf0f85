use Rattle.std.proofs.Common.{refl}
use Rattle.hm_json_tree.proofs.ByTokens.{one_said}
use Rattle.hm_json_tree.proofs.tokens.doctype.Goals as goal

pub returns-in-plain : goal.returns-in-plain
returns-in-plain c = (refl, one_said _ _ _ (rw c.in-plain.is at c.in_ok-word.ensures))

pub returns-in-legacy : goal.returns-in-legacy
returns-in-legacy c = (refl, one_said _ _ _ (rw c.in-legacy.is at c.in_ok-word.ensures))
