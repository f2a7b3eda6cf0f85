use Rattle.std.proofs.Common.{rules, append_assoc}
use Rattle.hm_cert.proofs.Texts.{turned_row}
use Rattle.hm_cert.proofs.reversed.put_row.Goals as goal

pub returns-in_ok-put_price : goal.returns-in_ok-put_price
returns-in_ok-put_price c = rw (turned_row c.args.row.now c.in-len1-up.len_at_least) (search (rules, append_assoc))
