use Rattle.hm_store.proofs.NamedFileLemmas.{named-none}
use Rattle.hm_store.proofs.file_table.FileTable.new.Goals as goal

pub returns : goal.returns
returns c = named-none c.new.result.entries c.new.ensures.empty
