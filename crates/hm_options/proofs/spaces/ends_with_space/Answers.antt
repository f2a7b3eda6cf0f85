use Rattle.std.proofs.Common.{◌-◌, get_or, length}
use Rattle.std.proofs.lemmas.Bool.{eqb-false}
use Rattle.hm_options.proofs.Runs.{some_bytes, trailing_kept}
use Rattle.hm_options.proofs.spaces.ends_with_space.Goals as goal

pub returns-then-not-is_empty : goal.returns-then-not-is_empty
returns-then-not-is_empty c = λ edge other.
    let bytes = c.as_bytes-bytes.result.now in
    trailing_kept c.args.text.now bytes edge c.as_bytes-bytes.ensures.value (some_bytes bytes c.is_empty.result c.is_empty.ensures c.if-not-is_empty.true) (eqb-false (get_or bytes (length bytes - 1) 0) 32 other)
