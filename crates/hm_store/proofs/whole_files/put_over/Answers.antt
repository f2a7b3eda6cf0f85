use Rattle.std.proofs.Common.{◌≡◌, ◌∙◌, ◌+◌, ◌++◌, take, drop, length, ap, sym, ◌-◌, arith, rules}
use Rattle.std.proofs.Math.Seq.{take-add}
use Rattle.hm_store.proofs.whole_files.put_over.Goals as goal

pub returns-then-eq-clause-put : goal.returns-then-eq-clause-put
returns-then-eq-clause-put c =
    let at = c.args.at in
    let bytes = c.args.bytes.now.items in
    let piece = c.args.piece.now in
    let same : take (at + length piece - at) (drop at c.deref.result.now) ≡ piece = search rules in (
      take-add at (length piece) bytes ∙ ap (λ s. take at bytes ++ s) (ap (λ n. take n (drop at bytes)) (omega arith) ∙ ap (λ b. take (at + length piece - at) (drop at b)) (sym c.deref.ensures.value) ∙ same),
      omega (arith, c.if-end-len.true, c.len.ensures),
    )
