use Rattle.std.proofs.Common.{refl}
use Rattle.hm_refs.proofs.ReadingLaws.{json_read, json_none}
use Rattle.hm_json_tree.proofs.reading.parse.Goals as goal

pub returns-in-Ok-clause-ok : goal.returns-in-Ok-clause-ok
returns-in-Ok-clause-ok c = json_read c.args.bytes.now _ c.in-Ok.ensures.ok.0 c.in-Ok.ensures.ok.1

pub returns-else-is_memory-clause-fault : goal.returns-else-is_memory-clause-fault
returns-else-is_memory-clause-fault c = λ _. (refl, json_none c.args.bytes.now (c.in-Err.ensures.err (λ m. absurd (let t = c.if-is_memory.ensures.1 m in cc))))
