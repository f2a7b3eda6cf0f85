use Rattle.hm_cert.proofs.Read.{rows_are}
use Rattle.hm_cert.proofs.certificate.Certificate.read.Goals as goal

pub returns-clause-rows : goal.returns-clause-rows
returns-clause-rows c = rows_are c.in_ok-head.head.lines.number c.in_ok-head.head.lines.rest.now c.in_ok-prices.prices c.in_ok-prices.ensures
