use Rattle.std.proofs.Common.{◌≡◌, ◌+◌, ◌-◌, length, sym, ap, ◌∙◌, arith}
use Rattle.hm_options.specs.Space as space
use Rattle.hm_options.proofs.Steps.{last_at}
use Rattle.hm_tree.specs.Views.{event_of}
use Rattle.hm_options.proofs.walk.is_edge_before.Goals as goal

pub returns-then-done-gt0 : goal.returns-then-done-gt0
returns-then-done-gt0 c =
    let count : (c.done-done.result - 1) + 1 ≡ length c.args.editor.now.done = omega (arith, c.done-done.ensures, c.if-done-gt0.true) in
    c.is_edge.ensures ∙ ap space.is_edge (sym (last_at c.args.editor.now.done (c.done-done.result - 1) (event_of c.event.result) count c.event.ensures))
