use Rattle.hm_scan.proofs.ValueReads.{read_none}
use Rattle.hm_scan.proofs.values.read_value.Goals as goal

pub loop-placed-init : goal.loop-placed-init
loop-placed-init c = rw c.new-value.ensures.bytes (read_none c.args.table.now.entries c.args.written.now c.utf8.written)
