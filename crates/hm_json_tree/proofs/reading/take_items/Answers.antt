use Rattle.std.proofs.Common.{arith}
use Rattle.std.proofs.lemmas.Result.{err_from_is_err_and}
use Rattle.hm_json_tree.proofs.Whole.{read_end}
use Rattle.hm_json_tree.proofs.reading.take_items.Goals as goal

pub loop-i-preserved : goal.loop-i-preserved
loop-i-preserved c = (c.in_ok-take_item.ensures.at, c.in_ok-take_item.ensures.count, c.in_ok-take_item.ensures.listed)

pub returns-clause-read : goal.returns-clause-read
returns-clause-read c = read_end c.args.items.now c.loop-i.i c.loop-i.reader.maker c.loop-i.reader.path c.loop-i.invariant.2 c.loop-i-test.false
