use Rattle.std.proofs.Common.{◌≡◌, ◌+◌, length, take, drop, refl, arith}
use Rattle.hm_tree.specs.Views.{attributes_shown}
use Rattle.hm_event_parts.specs.Events.{previous_at}
use Rattle.hm_event_parts.proofs.TagUnits.{start_alone}
use Rattle.hm_event_parts.proofs.found.start_found.Goals as goal

pub returns-clause-units : goal.returns-clause-units
returns-clause-units c =
    let none : length (attributes_shown c.args.attrs) ≡ 0 = omega (arith, c.len.ensures.len, c.if-len-gt0.false) in
    let after = drop (c.args.i + 1) c.args.tree.now in
    start_alone c.args.rules c.args.name.now c.args.foreign (take 1 after) after refl (previous_at c.args.tree.now c.args.i) c.may_close_itself-closes.result c.may_close_itself-closes.ensures (attributes_shown c.args.attrs) c.may_omit_start.result c.is_required_after_omission.result none
    c.may_omit_start.ensures c.is_required_after_omission.ensures
