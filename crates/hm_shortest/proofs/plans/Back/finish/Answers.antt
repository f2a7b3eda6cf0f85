use Rattle.std.proofs.Common.{◌≡◌, ◌∙◌, drop, length, reverse, ap, arith}
use Rattle.std.proofs.lemmas.List.{take_at}
use Rattle.hm_shortest.proofs.plans.Back.finish.Goals as goal

pub returns-clause-certificate : goal.returns-clause-certificate
returns-clause-certificate c =
    let certificate = c.into_bytes-certificate.result in
    let bytes = c.turn.new.bytes in
    let size : length bytes ≡ certificate.len = omega (arith, c.turn.auto.bytes, c.deref_mut.ensures.len) in
    take_at bytes (drop (length bytes) certificate.items) certificate.len size ∙ c.turn.ensures ∙ ap reverse (c.deref_mut.ensures.value ∙ c.into_bytes-certificate.ensures ∙ c.in_ok-put_head.ensures)
