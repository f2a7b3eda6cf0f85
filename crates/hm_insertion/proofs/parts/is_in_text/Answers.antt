use Rattle.std.proofs.Common.{◌∙◌}
use Rattle.hm_insertion.proofs.Open.{no_text_around, text_in_head}
use Rattle.hm_insertion.proofs.parts.is_in_text.Goals as goal

pub returns-in-Initial : goal.returns-in-Initial
returns-in-Initial c = no_text_around c.args.insertion_mode c.args.path.now c.in-Initial.is

pub returns-in-InHead : goal.returns-in-InHead
returns-in-InHead c = rw c.in-InHead.is (c.is_some.ensures ∙ text_in_head c.in-InHead.noscript c.in-InHead.text)
