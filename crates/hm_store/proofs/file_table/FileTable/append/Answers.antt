use Rattle.std.proofs.Common.{sym}
use Rattle.hm_store.proofs.NamedFileLemmas.{appended, kept}
use Rattle.hm_store.proofs.ResultLemmas.{on_err}
use Rattle.hm_store.proofs.file_table.FileTable.append.Goals as goal

pub returns-in_err-extend_from_slice-in-Some-clause-err :
    goal.returns-in_err-extend_from_slice-in-Some-clause-err
returns-in_err-extend_from_slice-in-Some-clause-err c =
    on_err c.from_residual.result (kept c.self.inside.files.entries c.args.place c.in-Some.file.now c.extend_from_slice.new.self c.args.self.now c.self.view_is (sym c.in-Some.ensures.value) c.in_err-extend_from_slice-in-Some.ensures.items)

pub returns-clause-ok : goal.returns-clause-ok
returns-clause-ok c =
    appended c.self.inside.files c.args.place c.in-Some.file.now c.extend_from_slice.new.self c.args.bytes.now c.args.self.now c.self.view_is c.in-Some.ensures.unique (sym c.in-Some.ensures.value) c.in_ok-extend_from_slice-in-Some.ensures.items
