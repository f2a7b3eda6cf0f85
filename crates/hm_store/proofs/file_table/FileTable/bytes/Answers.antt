use Rattle.std.proofs.Common.{sym, ◌∙◌}
use Rattle.hm_store.proofs.NamedFileLemmas.{content_at}
use Rattle.hm_store.proofs.file_table.FileTable.bytes.Goals as goal

pub returns : goal.returns
returns c =
    c.as_slice.ensures.value
    ∙ content_at c.self.inside.files.entries c.args.self.now c.args.place c.in-Some.field-0-0.now c.in-Some.bytes.now c.self.view_is (sym c.in-Some.ensures.entry) c.in-Some.ensures.value
