use Rattle.std.proofs.Common.{arith, [], ap, sym, length, ◌∙◌}
use Rattle.std.proofs.lemmas.Result.{on_ok_weaker}
use Rattle.hm_base.specs.Source.{Source}
use Rattle.hm_base.specs.Places.{with_lines}
use Rattle.hm_base.proofs.Mark.{mark_stripped, no_mark}
use Rattle.hm_base.proofs.Places.{source_from-end}
use Rattle.hm_decoder.proofs.Growing.{before_grows, grows_first, grows_marked, grows_on}
use Rattle.hm_decoder.proofs.pieces.grow.Goals as goal
use Rattle.hm_decoder.proofs.pieces.grow.Goals.{then-end-eq0+in_default, else-end-eq0}

pub append-requires-clause-room : goal.append-requires-clause-room
append-requires-clause-room c =
    let marked = mark_stripped c.args.page.now c.in-Some.rest.now c.in-Some.ensures.cases in
    omega (arith, c.requires.room, ap length marked, ap (λ (v : Source). v.end) c.empty.ensures, source_from-end 3 [] [])

pub returns-in-Some-clause-grown : goal.returns-in-Some-clause-grown
returns-in-Some-clause-grown c =
    let marked = mark_stripped c.args.page.now c.in-Some.rest.now c.in-Some.ensures.cases in
    on_ok_weaker c.append.result (λ e. e ∙ ap (λ (v : Source). with_lines v c.in-Some.rest.now) c.empty.ensures ∙ grows_marked c.args.source.now c.args.page.now c.in-Some.rest.now (sym c.end.ensures ∙ c.if-end-eq0.true) marked) c.append.ensures

pub returns-clause-grown : goal.returns-clause-grown
returns-clause-grown c = elim c.if-end-eq0.branch [
  | then-end-eq0+in_default w ↦ on_ok_weaker c.append-2.result (λ e. e ∙ grows_first c.args.source.now c.args.page.now (sym c.end.ensures ∙ w.if-end-eq0.true) (omega (arith, c.text-text.ensures.within, c.text-text.ensures.len)) (no_mark c.args.page.now w.in_default.ensures.cases)) c.append-2.ensures
  | else-end-eq0 w ↦ on_ok_weaker c.append-2.result (λ e. e ∙ grows_on c.args.source.now c.args.page.now (λ f. w.if-end-eq0.false (c.end.ensures ∙ f))) c.append-2.ensures
]

pub returns-clause-before : goal.returns-clause-before
returns-clause-before c = on_ok_weaker c.append-2.result (λ e. rw e (before_grows c.args.source.now c.args.page.now (omega (arith, c.text-text.ensures.within, c.text-text.ensures.len)))) (returns-clause-grown c)
