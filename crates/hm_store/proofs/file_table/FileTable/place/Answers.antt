use Rattle.std.proofs.Common.{◌∙◌}
use Rattle.hm_store.proofs.NamedFileLemmas.{has, placed}
use Rattle.hm_store.proofs.file_table.FileTable.place.Goals as goal

pub returns-clause-found : goal.returns-clause-found
returns-clause-found c = c.get_index_of.ensures.found ∙ has c.self.inside.files.entries c.args.name.now c.args.self.now c.self.view_is

pub returns-clause-named : goal.returns-clause-named
returns-clause-named c = placed c.self.inside.files.entries c.args.name.now c.args.self.now c.get_index_of.result c.self.view_is c.get_index_of.ensures.index
