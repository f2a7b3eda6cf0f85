use Rattle.std.proofs.lemmas.List.{take_rest}
use Rattle.hm_cert.proofs.ShortLines.{words_last, words_more}
use Rattle.hm_cert.proofs.short.short_line.Goals as goal

pub returns-then-text-end-eq10 : goal.returns-then-text-end-eq10
returns-then-text-end-eq10 c = words_last c.args.text.now _ c.loop-len.at c.in-Some.len c.loop-len.invariant c.in-Some.ensures (take_rest c.args.text.now c.loop-len.at) c.if-text-end-eq10.true

pub loop-len-preserved : goal.loop-len-preserved
loop-len-preserved c = words_more c.args.text.now _ c.loop-len.at c.in-Some.len c.loop-len.invariant c.in-Some.ensures (take_rest c.args.text.now c.loop-len.at) c.if-text-end-ne32.false
