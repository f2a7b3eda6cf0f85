use Rattle.std.proofs.Common.{ap, ◌∙◌, Some, None}
use Rattle.hm_store.proofs.NamedFileLemmas.{got}
use Rattle.hm_store.proofs.file_table.FileTable.get.Goals as goal

pub returns-in-Some : goal.returns-in-Some
returns-in-Some c =
    ap Some c.as_slice.ensures.value
    ∙ got c.self.inside.files.entries c.args.name.now c.args.self.now (Some c.in-Some.bytes.now) c.self.view_is c.in-Some.ensures.value

pub returns-in-None : goal.returns-in-None
returns-in-None c = got c.self.inside.files.entries c.args.name.now c.args.self.now None c.self.view_is c.in-None.ensures.value
