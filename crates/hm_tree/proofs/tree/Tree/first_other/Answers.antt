use Rattle.std.proofs.Common.{◌≡◌, min, length, sym, ◌∙◌, arith}
use Rattle.hm_tree.specs.Views.{event_of}
use Rattle.hm_tree.proofs.ListLemmas.{take_more_alike, differ_at_end}
use Rattle.hm_tree.proofs.tree.Tree.first_other.Goals as goal

pub loop-i-preserved : goal.loop-i-preserved
loop-i-preserved c =
    let alike : event_of c.event.result ≡ event_of c.event-in-loop-i.result = c.same.ensures.0 c.if-not-same.false in
    take_more_alike c.args.self.now c.args.other.now c.loop-i.i (event_of c.event.result) c.loop-i.invariant c.event.ensures (rw alike c.event-in-loop-i.ensures)

pub returns-else-len : goal.returns-else-len
returns-else-len c =
    let both : c.min-both.result ≡ min (length c.args.self.now) (length c.args.other.now) = rw (c.len.ensures.len, c.len-2.ensures.len) at c.min-both.ensures in
    let other : length c.args.self.now ≡ length c.args.other.now → ⊥ = λ e. c.if-len.false (c.len-3.ensures.len ∙ e ∙ sym c.len-4.ensures.len) in
    let at : c.loop-i.i ≡ c.min-both.result = omega arith in
    record {
      same_before = rw (← at) c.loop-i.invariant;
      differ = differ_at_end c.args.self.now c.args.other.now c.min-both.result both other;
    }
