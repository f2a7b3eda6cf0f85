use Rattle.std.proofs.Common.{◌∙◌}
use Rattle.hm_refs.proofs.ReferenceReads.{blocks_is}
use Rattle.hm_edges.proofs.steps.blocks.Goals as goal

pub returns-else-byte-eq61 : goal.returns-else-byte-eq61
returns-else-byte-eq61 c = c.is_ascii_alphanumeric.ensures.value ∙ blocks_is c.args.byte c.if-byte-eq61.false
