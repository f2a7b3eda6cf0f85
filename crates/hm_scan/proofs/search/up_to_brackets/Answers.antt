use Rattle.std.proofs.Common.{codes, arith}
use Rattle.std.proofs.lemmas.List.{take_rest}
use Rattle.hm_scan.proofs.Searches.{found_piece, found_none}
use Rattle.hm_scan.proofs.search.up_to_brackets.Goals as goal

pub returns-in-Some : goal.returns-in-Some
returns-in-Some c =
    let h = rw (take_rest c.args.bytes.now c.args.from) at c.in-Some.ensures in
    found_piece c.args.bytes.now (codes "]]>") c.args.from c.in-Some.found h.1 (λ j l o. h.0.before j (omega arith) l o) (omega arith) (omega arith) (omega arith) c.requires

pub returns-in-None : goal.returns-in-None
returns-in-None c =
    let h = rw (take_rest c.args.bytes.now c.args.from) at c.in-None.ensures in
    found_none c.args.bytes.now (codes "]]>") c.args.from (λ j l o. h j (omega arith) (omega arith) o)
