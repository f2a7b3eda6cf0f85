use Rattle.std.proofs.Common.{sym, ◌∙◌}
use Rattle.hm_tree.proofs.NameLemmas.{HasNames-push}
use Rattle.hm_tree.proofs.names.add.Goals as goal

pub returns-clause-ok : goal.returns-clause-ok
returns-clause-ok c attributes a named had = HasNames-push c.args.table.now c.insert.new.self c.in_ok-name.name attributes a (named ∙ sym c.in_ok-name.ensures.ok) c.in_ok-insert.ensures.updates had
