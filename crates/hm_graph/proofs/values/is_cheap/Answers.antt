use Rattle.std.proofs.Common.{◌∙◌, ◌||◌, Some, ap, sym}
use Rattle.std.specs.List.{list_any}
use Rattle.hm_edges.specs.Units.{has_pair}
use Rattle.hm_graph.proofs.ValueNeeds.{cheap_by}
use Rattle.hm_graph_laws.specs.Forms.{gives_both, makes_cheap}
use Rattle.hm_graph.proofs.values.is_cheap.Goals as goal

pub returns-then-told-c : goal.returns-then-told-c
returns-then-told-c c =
    let t = c.args.table.now.entries in
    sym (cheap_by t c.args.c c.args.next ∙ ap (λ x. x || list_any (λ e. gives_both c.args.c c.args.next e.points) t) (sym (c.requires.told.cheap c.args.c c.requires.ascii) ∙ c.if-told-c.true))

pub returns-in-Some : goal.returns-in-Some
returns-in-Some c =
    let t = c.args.table.now.entries in
    c.are_paired.ensures
    ∙ sym (ap (λ n. list_any (makes_cheap c.args.c n) t) c.in-Some.is ∙ cheap_by t c.args.c (Some c.in-Some.d) ∙ ap (λ x. x || has_pair t c.args.c c.in-Some.d) (sym (c.requires.told.cheap c.args.c c.requires.ascii) ∙ c.if-told-c.false))
