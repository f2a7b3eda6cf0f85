use Rattle.std.proofs.Common.{◌+◌, ◌≤◌, length, length-append, arith}
use Rattle.hm_options.proofs.Passing.{count_short, joined_so, some_text_first}
use Rattle.hm_options.proofs.joining.join_next.Goals as goal

pub overflow_add-count : goal.overflow_add-count
overflow_add-count c =
    let short : c.loose_after-count.result + 1 ≤ length c.args.editor.now.left = omega (arith, c.loose_after-count.ensures, count_short c.args.editor.now.done c.args.editor.now.left c.requires.walk (some_text_first c.args.editor.now.left c.requires.text)) in
    omega (arith, short, c.requires.walk.events, length-append c.args.editor.now.done c.args.editor.now.left)

pub join-requires : goal.join-requires
join-requires c = rw (c.as_str.ensures.value, c.in_ok-gather.ensures, c.loose_after-count.ensures) (joined_so c.args.editor.now.done c.args.editor.now.left c.requires.text c.requires.walk)
