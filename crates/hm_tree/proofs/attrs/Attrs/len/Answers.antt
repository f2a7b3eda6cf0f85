use Rattle.std.proofs.Common.{string_bytes}
use Rattle.std.proofs.lemmas.Str.{IsUtf8-string_bytes}
use Rattle.hm_tree.proofs.PairLemmas.{texts_held}
use Rattle.hm_tree.proofs.attrs.Attrs.len.Goals as goal

pub returns-clause-texts : goal.returns-clause-texts
returns-clause-texts c = rw (← c.self.view_is) (texts_held (string_bytes c.self.inside.text) c.self.inside.pairs.items (IsUtf8-string_bytes c.self.inside.text) c.self.invariant.0.inside)
