use Rattle.std.proofs.Common.{take, bytes_eq, [], sym}
use Rattle.hm_base.specs.Walks.{path_after}
use Rattle.hm_elements.specs.Names.{is_among, noscript, head}
use Rattle.hm_elements.specs.Nesting.{is_name}
use Rattle.hm_elements.specs.Paths.{current_name}
use Rattle.hm_tree.specs.Views.{attributes_shown}
use Rattle.hm_elements.specs.Tables.{space_parents}
use Rattle.hm_options.specs.Space.{hides_space}
use Rattle.hm_options.proofs.Parents.{hidden_done, nothing_open, hidden_by_name, hidden_in_head, shown, shown_in_svg}
use Rattle.hm_options.proofs.walk.hides_space.Goals as goal

pub returns-in_default : goal.returns-in_default
returns-in_default c = sym (nothing_open c.args.editor.now.done c.done.result c.done.ensures c.in_default.ensures.element)

pub returns-then-is_space_parent : goal.returns-then-is_space_parent
returns-then-is_space_parent c =
    let there = hidden_done c.args.editor.now.done c.done.result c.in-Some.parent c.done.ensures c.in-Some.ensures.element.0 c.in-Start.name.now c.in-Start.foreign (attributes_shown c.in-Start.attrs) c.in-Start.ensures (sym c.in-Some.ensures.value) c.in-Some.ensures.element.1 in
    hidden_by_name (hides_space (path_after [] c.args.editor.now.done)) c.in-Start.foreign (is_among c.in-Start.name.now space_parents) (bytes_eq c.in-Start.name.now noscript)
    (is_name head (current_name (path_after [] (take c.in-Some.parent c.args.editor.now.done)))) there c.is_space_parent.result c.if-not-foreign.true c.is_space_parent.ensures c.if-is_space_parent.true

pub returns-then-same_name : goal.returns-then-same_name
returns-then-same_name c =
    let there = hidden_done c.args.editor.now.done c.done.result c.in-Some.parent c.done.ensures c.in-Some.ensures.element.0 c.in-Start.name.now c.in-Start.foreign (attributes_shown c.in-Start.attrs) c.in-Start.ensures (sym c.in-Some.ensures.value) c.in-Some.ensures.element.1 in
    hidden_in_head (hides_space (path_after [] c.args.editor.now.done)) c.in-Start.foreign (is_among c.in-Start.name.now space_parents) (bytes_eq c.in-Start.name.now noscript)
    (is_name head (current_name (path_after [] (take c.in-Some.parent c.args.editor.now.done)))) there c.is_space_parent.result c.same_name.result c.is_in_head.result c.if-not-foreign.true c.is_space_parent.ensures c.if-is_space_parent.false c.same_name.ensures c.if-same_name.true c.is_in_head.ensures

pub returns-else-same_name : goal.returns-else-same_name
returns-else-same_name c =
    let there = hidden_done c.args.editor.now.done c.done.result c.in-Some.parent c.done.ensures c.in-Some.ensures.element.0 c.in-Start.name.now c.in-Start.foreign (attributes_shown c.in-Start.attrs) c.in-Start.ensures (sym c.in-Some.ensures.value) c.in-Some.ensures.element.1 in
    shown (hides_space (path_after [] c.args.editor.now.done)) c.in-Start.foreign (is_among c.in-Start.name.now space_parents) (bytes_eq c.in-Start.name.now noscript)
    (is_name head (current_name (path_after [] (take c.in-Some.parent c.args.editor.now.done)))) there c.is_space_parent.result c.same_name.result c.if-not-foreign.true c.is_space_parent.ensures c.if-is_space_parent.false c.same_name.ensures c.if-same_name.false

pub returns-else-not-foreign : goal.returns-else-not-foreign
returns-else-not-foreign c =
    let there = hidden_done c.args.editor.now.done c.done.result c.in-Some.parent c.done.ensures c.in-Some.ensures.element.0 c.in-Start.name.now c.in-Start.foreign (attributes_shown c.in-Start.attrs) c.in-Start.ensures (sym c.in-Some.ensures.value) c.in-Some.ensures.element.1 in
    shown_in_svg (hides_space (path_after [] c.args.editor.now.done)) c.in-Start.foreign (is_among c.in-Start.name.now space_parents) (bytes_eq c.in-Start.name.now noscript)
    (is_name head (current_name (path_after [] (take c.in-Some.parent c.args.editor.now.done)))) there c.if-not-foreign.false
