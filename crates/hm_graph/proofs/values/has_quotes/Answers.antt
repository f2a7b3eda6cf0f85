use Rattle.std.proofs.Common.{◌∙◌, sym}
use Rattle.hm_graph.proofs.ValueBytes.{no_quotes}
use Rattle.hm_graph.proofs.values.has_quotes.Goals as goal

pub returns : goal.returns
returns c = λ none. no_quotes c.args.bytes.now c.memchr2.result c.memchr2.ensures (sym c.is_some.ensures ∙ none)
