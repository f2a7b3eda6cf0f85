use Rattle.std.proofs.Common.{◌≡◌, suc, ◌+◌, ap, ◌-◌, drop, length, false, sym, ◌∙◌, arith, length-drop}
use Rattle.std.proofs.lemmas.List.{take_all}
use Rattle.hm_base.specs.Bytes.{strip}
use Rattle.hm_base.specs.Forms.{has_mark}
use Rattle.hm_base.specs.RawText.{is_found}
use Rattle.hm_json_tree.proofs.Told.{mark_goes_on}
use Rattle.hm_json_tree.proofs.texts.has_mark.Goals as goal

pub loop-i-preserved : goal.loop-i-preserved
loop-i-preserved c =
    let s = c.args.text.now in
    let i = c.loop-i.i in
    let none : is_found (strip c.args.mark.now (drop i s)) ≡ false = sym (rw (take_all (length s - i) (drop i s) (omega (arith, length-drop i s))) at c.if-begins.ensures) in
    let next : suc i ≡ i + 1 = omega arith in
    c.loop-i.invariant ∙ mark_goes_on c.args.mark.now s i c.loop-i-test.true none ∙ ap (λ n. has_mark c.args.mark.now (drop n s)) next
