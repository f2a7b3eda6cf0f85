use Rattle.std.proofs.Common.{◌++◌, [], length, take, drop, ap, sym, subst, ◌∙◌, arith}
use Rattle.hm_base.specs.Walks.{path_after}
use Rattle.hm_tree.proofs.WalkLemmas.{path_after-take}
use Rattle.hm_tree.specs.Views.{event_of}
use Rattle.hm_dump.specs.Dump.{line_of, lines_from}
use Rattle.hm_dump.specs.Given.{Gives}
use Rattle.hm_dump.proofs.DumpLemmas.{lines_from-rest, lines_from-take}
use Rattle.hm_dump.proofs.GivenLemmas.{Gives-failed, Gives-then}
use Rattle.hm_dump.proofs.lines.give_lines.Goals as goal

pub returns-then-buffer : goal.returns-then-buffer
returns-then-buffer g c =
    let w = c.args.tree.now in
    let i = c.loop-i.i in
    subst (Gives _ _ _ _ _ _) (lines_from-rest w i) (Gives-failed _ _ _ _ _ _ _ (lines_from (path_after [] (take i w)) (drop i w)) c.if-buffer.true c.loop-i.invariant.2)

pub loop-i-preserved : goal.loop-i-preserved
loop-i-preserved g c =
    let w = c.args.tree.now in
    let i = c.loop-i.i in
    let e = event_of c.event-event.result in
    let depth = c.loop-i.invariant.0 in
    let line = ap (λ d. lines_from [] (take i w) ++ line_of d e) depth ∙ lines_from-take w i e c.event-event.ensures in (
      c.depth_after_event-depth.ensures.depth (path_after [] (take i w)) depth ∙ ap length (sym (path_after-take w i e c.event-event.ensures)),
      omega (arith, c.depth_after_event-depth.ensures.bound, c.loop-i.invariant.1),
      subst (Gives _ _ _ _ _ _) line (Gives-then c.loop-i.invariant.2 c.give_line.ensures),
    )
