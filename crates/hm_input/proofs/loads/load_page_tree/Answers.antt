use Rattle.std.proofs.Common.{sym, subst}
use Rattle.hm_input.specs.Loads.{NoPage}
use Rattle.hm_input.proofs.Loaded.{no_page_of}
use Rattle.hm_input.proofs.loads.load_page_tree.Goals as goal

pub returns-in-Err-clause-err : goal.returns-in-Err-clause-err
returns-in-Err-clause-err g c =
    let told = g.S.Store.files c.args.store.now in
    subst (NoPage told c.args.name.now c.args.table.now.entries) (sym c.from.ensures) (no_page_of told c.args.name.now c.args.table.now.entries c.in-Err.fault c.in-Err.ensures.err)
