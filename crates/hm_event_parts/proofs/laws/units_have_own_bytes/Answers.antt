use Rattle.hm_event_parts.proofs.OwnBytes.{stands_for, own_bytes_kept}
use Rattle.hm_event_parts.proofs.laws.units_have_own_bytes.Goals as goal

pub returns : goal.returns
returns c = record { stands = stands_for; own = own_bytes_kept }
