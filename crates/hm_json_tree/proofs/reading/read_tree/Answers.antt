use Rattle.hm_json_tree.proofs.Whole.{long_walk}
use Rattle.hm_json_tree.proofs.reading.read_tree.Goals as goal

pub returns-then-bytes-clause-fault : goal.returns-then-bytes-clause-fault
returns-then-bytes-clause-fault c = λ _. long_walk c.args.bytes.now c.if-bytes.true
