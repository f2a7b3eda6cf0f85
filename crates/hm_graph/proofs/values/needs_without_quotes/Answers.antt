use Rattle.hm_graph.proofs.ValueBytes.{needs_unquoted}
use Rattle.hm_graph.proofs.values.needs_without_quotes.Goals as goal

pub returns : goal.returns
returns c = needs_unquoted c.args.table.now.entries c.args.value.now c.other_along.result c.utf8.value c.requires.none c.other_along.ensures
