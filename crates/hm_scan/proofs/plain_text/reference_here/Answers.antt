use Rattle.hm_scan.proofs.Ends.{here_amp, here_other}
use Rattle.hm_scan.proofs.plain_text.reference_here.Goals as goal

pub returns-then-bytes-eq38 : goal.returns-then-bytes-eq38
returns-then-bytes-eq38 c = rw (here_amp c.args.table.now.entries c.args.bytes.now c.requires c.if-bytes-eq38.true) c.read_reference.ensures

pub returns-else-bytes-eq38 : goal.returns-else-bytes-eq38
returns-else-bytes-eq38 c = here_other c.args.table.now.entries c.args.bytes.now c.if-bytes-eq38.false
