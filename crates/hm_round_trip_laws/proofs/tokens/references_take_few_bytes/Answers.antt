use Rattle.hm_round_trip_laws.proofs.ReferenceBytes.{references_take_few_bytes}
use Rattle.hm_round_trip_laws.proofs.tokens.references_take_few_bytes.Goals as goal

pub returns : goal.returns
returns c = references_take_few_bytes
