use Rattle.std.proofs.Common.{refl}
use Rattle.hm_json_tree.proofs.ByTokens.{start_said}
use Rattle.hm_json_tree.proofs.tokens.start.Goals as goal

pub returns : goal.returns
returns c = rw c.of_texts.ensures (refl, start_said _ _ _ _ _ c.in_ok-name.ensures c.in_ok-texts.ensures)
