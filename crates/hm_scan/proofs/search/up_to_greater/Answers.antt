use Rattle.std.proofs.Common.{arith}
use Rattle.std.proofs.lemmas.List.{take_rest}
use Rattle.hm_scan.proofs.Searches.{byte_piece, byte_none}
use Rattle.hm_scan.proofs.search.up_to_greater.Goals as goal

pub returns-in-Some : goal.returns-in-Some
returns-in-Some c = byte_piece c.args.bytes.now 62 c.args.from c.in-Some.found (omega arith) c.requires (rw (take_rest c.args.bytes.now c.args.from) at c.in-Some.ensures)

pub returns-in-None : goal.returns-in-None
returns-in-None c = byte_none c.args.bytes.now 62 c.args.from (rw (take_rest c.args.bytes.now c.args.from) at c.in-None.ensures)
