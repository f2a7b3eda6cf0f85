use Rattle.std.proofs.Common.{get_or, take, arith, refl, sym, subst}
use Rattle.std.specs.List.{All}
use Rattle.std.proofs.lemmas.List.{take_more}
use Rattle.std.proofs.lemmas.List.Elements.{All-push}
use Rattle.hm_graph.specs.Interned.{IsToward}
use Rattle.hm_graph.proofs.PlainRows.{all_first}
use Rattle.hm_graph.proofs.plain.alike_run.Goals as goal

pub fours-init : goal.fours-init
fours-init c = (omega arith, (c.requires.some, all_first (IsToward c.args.steps.now c.args.to) c.args.text.now (omega (arith, c.requires.some)) c.requires.first))

pub fours-preserved : goal.fours-preserved
fours-preserved c = (omega arith, (omega (arith, c.fours-test.true), c.if-are_toward.ensures refl c.fours.invariant.1.1))

pub loop-count-preserved : goal.loop-count-preserved
loop-count-preserved c =
    let n = c.loop-count.count in
    let text = c.args.text.now in
    let toward = IsToward c.args.steps.now c.args.to in (
      omega arith,
      (
        omega (arith, c.loop-count-test.true),
        subst (All toward) (sym (take_more text n 0 (omega (arith, c.loop-count-test.true)))) (All-push toward (take n text) (get_or text n 0) c.loop-count.invariant.1.1 (c.if-is_toward.ensures refl)),
      ),
    )
