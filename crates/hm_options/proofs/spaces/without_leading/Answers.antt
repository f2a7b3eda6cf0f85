use Rattle.std.proofs.Common.{◌≡◌, ◌<◌, get_or, length, arith}
use Rattle.std.proofs.lemmas.Str.{IsCharBoundary-after_ascii}
use Rattle.hm_options.proofs.Runs.{some_bytes}
use Rattle.hm_options.proofs.spaces.without_leading.Goals as goal

pub range_from-requires : goal.range_from-requires
range_from-requires c =
    let space : get_or c.args.text.now 0 0 ≡ 32 = rw (c.as_bytes-bytes.ensures.value) at c.if-bytes-eq32.true in
    let some : 0 < length c.args.text.now = rw (← c.as_bytes-bytes.ensures.value) (some_bytes c.as_bytes-bytes.result.now c.is_empty.result c.is_empty.ensures c.if-not-is_empty.true) in
    λ _. IsCharBoundary-after_ascii c.args.text.now 0 c.utf8.text some (omega (arith, space))
