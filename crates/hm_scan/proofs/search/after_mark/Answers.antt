use Rattle.std.proofs.Common.{◌≡◌, ◌∙◌, sym, length, true, false}
use Rattle.std.proofs.lemmas.List.{take_rest}
use Rattle.hm_scan.specs.Comments.{begins}
use Rattle.hm_scan.proofs.Steps.{begins_is}
use Rattle.hm_scan.proofs.Searches.{begins_front, begins_not}
use Rattle.hm_scan.proofs.search.after_mark.Goals as goal

pub returns-then-starts_with : goal.returns-then-starts_with
returns-then-starts_with c =
    let mark = c.args.mark.now in
    let s = c.args.bytes.now in
    let here : begins mark s ≡ true = sym (begins_is mark s) ∙ (sym c.starts_with.ensures.value ∙ c.if-starts_with.true) in
    rw (take_rest s (length mark)) (begins_front mark s here)

pub returns-else-starts_with : goal.returns-else-starts_with
returns-else-starts_with c =
    let mark = c.args.mark.now in
    let s = c.args.bytes.now in
    let here : begins mark s ≡ false = sym (begins_is mark s) ∙ (sym c.starts_with.ensures.value ∙ c.if-starts_with.false) in
    begins_not mark s here
