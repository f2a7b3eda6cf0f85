use Rattle.std.proofs.Common.{rules, append_assoc}
use Rattle.hm_cert.proofs.Texts.{row_parts}
use Rattle.hm_cert.proofs.text.put_row.Goals as goal

pub returns-in_ok-put_more : goal.returns-in_ok-put_more
returns-in_ok-put_more c = rw (row_parts c.args.row.now c.in-len1-up.len_at_least) (search (rules, append_assoc))
