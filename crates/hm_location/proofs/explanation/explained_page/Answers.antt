use Rattle.std.proofs.Common.{◌≡◌, ℕ, ◌<◌, List, length, take, IfOk, subst, sym, arith}
use Rattle.std.proofs.lemmas.Grind.{common_steps}
use Rattle.std.proofs.lemmas.List.{take_all}
use Rattle.hm_base.specs.declared.limits.TheConstants.{PAGE_LIMIT}
use Rattle.hm_location.specs.Explanations.{explained}
use Rattle.hm_location.proofs.explanation.explained_page.Goals as goal

taken : (n : ℕ) (s : List ℕ) → n < length s → n ≡ length (take n s)
taken n s h = grind (arith, common_steps)

pub slice_bounds-explained-end : goal.slice_bounds-explained-end
slice_bounds-explained-end c = taken PAGE_LIMIT c.args.page.now c.if-page-most.true

pub returns-else-page-most : goal.returns-else-page-most
returns-else-page-most c = subst (λ page. IfOk c.explained-else-page-most.result (λ lines. lines.items ≡ explained c.args.name.now page c.args.rule c.args.at)) (sym (take_all PAGE_LIMIT c.args.page.now c.if-page-most.false)) c.explained-else-page-most.ensures
