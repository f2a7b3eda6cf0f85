use Rattle.std.proofs.Common.{[], ◌++◌, sym, ap, ◌∙◌, arith}
use Rattle.hm_json_tree.specs.Progress.{fault_walk}
use Rattle.hm_json_tree.proofs.Whole.{follows_none, follows_bad, follows_more, follows_end, follows_open, ends_closed}
use Rattle.hm_json_tree.proofs.reading.follow.Goals as goal

pub loop-i-init : goal.loop-i-init
loop-i-init c = λ path l. follows_none c.args.items.now c.args.from path c.args.opened l

pub returns-in-None-clause-fault : goal.returns-in-None-clause-fault
returns-in-None-clause-fault c = λ m w path l.
    let f = c.loop-i.invariant path l in
    follows_bad c.args.items.now c.args.from path c.loop-i.i c.loop-i.depth f c.index-items-i.result c.index-items-i.is c.loop-i-test.true (rw c.in-None.is at (c.in_ok-next.ensures f.now_open f.depth_is)) w ∙ sym (ap fault_walk (c.bad_event.ensures m))

pub loop-i-preserved : goal.loop-i-preserved
loop-i-preserved c = λ path l.
    let f = c.loop-i.invariant path l in
    follows_more c.args.items.now c.args.from path c.loop-i.i c.loop-i.depth f c.index-items-i.result c.index-items-i.is c.loop-i-test.true c.in-Some.next (rw c.in-Some.is at (c.in_ok-next.ensures f.now_open f.depth_is))

pub returns-then-depth-gt0-clause-fault : goal.returns-then-depth-gt0-clause-fault
returns-then-depth-gt0-clause-fault c = λ m w path l.
    follows_open c.args.items.now c.args.from path c.loop-i.i c.loop-i.depth (c.loop-i.invariant path l) c.loop-i-test.false c.if-depth-gt0.true w

pub returns-clause-ok : goal.returns-clause-ok
returns-clause-ok c = λ path l.
    let f = c.loop-i.invariant path l in
    (f.events ++ [], follows_end c.args.items.now c.args.from path c.loop-i.i c.loop-i.depth f c.loop-i-test.false ∙ ends_closed f.now_open f.events (omega (arith, f.depth_is, c.if-depth-gt0.false)))
