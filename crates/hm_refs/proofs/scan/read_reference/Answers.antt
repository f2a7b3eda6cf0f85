use Rattle.std.proofs.Common.{◌≡◌, ◌<◌, length, get_or, arith}
use Rattle.hm_refs.proofs.ReferenceReads.{reference_hash, reference_named}
use Rattle.hm_refs.proofs.scan.read_reference.Goals as goal
use Rattle.hm_refs.proofs.scan.read_reference.Goals.{else-text-gt1-via-then-text-gt1+else-text-eq35, else-text-gt1-via-else-text-gt1}

pub returns-then-text-eq35 : goal.returns-then-text-eq35
returns-then-text-eq35 c = rw (reference_hash c.args.table.now.entries c.args.in_value c.args.text.now c.if-text-gt1.true c.requires.amp c.if-text-eq35.true) c.hash_reference.ensures

pub returns-else-text-gt1 : goal.returns-else-text-gt1
returns-else-text-gt1 c =
    let text = c.args.text.now in
    let no_hash : 1 < length text → get_or text 1 0 ≡ 35 → ⊥ =
    elim c.else-text-gt1.branch [
      | else-text-gt1-via-then-text-gt1+else-text-eq35 w ↦ λ l e. w.if-text-eq35.false e
      | else-text-gt1-via-else-text-gt1 w ↦ λ l e. omega arith
    ] in
    rw (reference_named c.args.table.now.entries c.args.in_value text c.requires.some c.requires.amp no_hash) c.named_reference.ensures
