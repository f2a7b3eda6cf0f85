use Rattle.std.proofs.Common.{length, ap, ◌∙◌}
use Rattle.hm_tree.proofs.ShownLemmas.{length-texts_of}
use Rattle.hm_tree.proofs.appended.text_len.Goals as goal

pub returns-in-Tag : goal.returns-in-Tag
returns-in-Tag c = rw (c.in-Tag.is) (ap length c.text.ensures ∙ length-texts_of c.in-Tag.attrs.now)
