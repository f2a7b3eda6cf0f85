use Rattle.std.proofs.Common.{◌++◌, ap, subst, ◌∙◌, arith, flat_map, take}
use Rattle.hm_dump.specs.Dump.{quoted_byte}
use Rattle.hm_dump.specs.Given.{Gives}
use Rattle.hm_dump.proofs.DumpLemmas.{quoted_one, quoted_run}
use Rattle.hm_dump.proofs.GivenLemmas.{Gives-then}
use Rattle.hm_dump.proofs.lines.give_escaped.Goals as goal

pub loop-from-preserved-then-to-bytes : goal.loop-from-preserved-then-to-bytes
loop-from-preserved-then-to-bytes g c =
    let s = c.args.bytes.now in
    let to = c.plain_end-to.result in
    let run = quoted_run s c.loop-from.from to c.plain_end-to.ensures.forward c.plain_end-to.ensures.inside c.plain_end-to.ensures.plain in
    let more = ap (λ l. flat_map quoted_byte (take to s) ++ l) c.escaped.ensures ∙ quoted_one s to c.if-to-bytes.true in
    (omega (arith, c.if-to-bytes.true), subst (Gives _ _ _ _ _ _) more (Gives-then (subst (Gives _ _ _ _ _ _) run (Gives-then c.loop-from.invariant.1 c.give.ensures)) c.give-then-to-bytes.ensures))

pub loop-from-preserved : goal.loop-from-preserved
loop-from-preserved g c =
    let run = quoted_run c.args.bytes.now c.loop-from.from c.plain_end-to.result c.plain_end-to.ensures.forward c.plain_end-to.ensures.inside c.plain_end-to.ensures.plain in
    (c.plain_end-to.ensures.inside, subst (Gives _ _ _ _ _ _) run (Gives-then c.loop-from.invariant.1 c.give.ensures))
