use Rattle.std.proofs.Common.{length, ap, arith}
use Rattle.hm_cert.proofs.Rows.{length-rows_from}
use Rattle.hm_cert.proofs.prices.Prices.rows.Goals as goal

pub returns : goal.returns
returns c =
    omega (arith, c.len.ensures, c.self.inside.ends.ok.0, length-rows_from c.self.inside.numbers.items 0 c.self.inside.ends.items, ap length c.self.view_is)
