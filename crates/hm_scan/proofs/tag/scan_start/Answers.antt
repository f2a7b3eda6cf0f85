use Rattle.std.proofs.lemmas.Result.{err_from_is_err_and}
use Rattle.hm_scan.proofs.Faults.{start_refused, start_is}
use Rattle.hm_scan.proofs.tag.scan_start.Goals as goal

pub returns-in_err-whole-clause-err : goal.returns-in_err-whole-clause-err
returns-in_err-whole-clause-err c =
    let p = err_from_is_err_and c.from_residual.result c.from_residual.ensures.1 in
    rw (p.1, p.2) (λ never. start_refused c.args.table.now.entries _ c.in_err-whole.field-0.0 (c.in_err-whole.ensures.err never))

pub returns-clause-ok : goal.returns-clause-ok
returns-clause-ok c = start_is c.args.table.now.entries c.args.text.now c.args.from c.read_whole.new.tag c.in_ok-whole.whole c.in_ok-whole.ensures.ok
