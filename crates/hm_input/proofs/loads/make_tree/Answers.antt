use Rattle.std.proofs.Common.{sym, subst}
use Rattle.hm_measure_page.specs.Pages.{page as made_page}
use Rattle.hm_input.specs.Loads.{NoTreeOf}
use Rattle.hm_input.proofs.Generated.{no_tree_of_text, no_tree_without_text, tree_of_text}
use Rattle.hm_input.proofs.loads.make_tree.Goals as goal

pub returns-in-Ok-text_tree-clause-ok : goal.returns-in-Ok-text_tree-clause-ok
returns-in-Ok-text_tree-clause-ok c = tree_of_text (made_page c.args.number c.args.size) c.in-Ok.text c.in-Ok.bytes c.args.table.now.entries c.in-Ok-text_tree.tree c.in-Ok.ensures.ok c.in-Ok-text_tree.ensures.built

pub returns-in-Err-text_tree-clause-err : goal.returns-in-Err-text_tree-clause-err
returns-in-Err-text_tree-clause-err c =
    let page = made_page c.args.number c.args.size in
    subst (NoTreeOf page c.args.table.now.entries) (sym c.from.ensures) (no_tree_of_text page c.in-Ok.text c.in-Ok.bytes c.args.table.now.entries c.in-Err-text_tree.refused c.in-Ok.ensures.ok c.in-Err-text_tree.ensures.refused)

pub returns-in-Err-clause-err : goal.returns-in-Err-clause-err
returns-in-Err-clause-err c = no_tree_without_text (made_page c.args.number c.args.size) c.args.table.now.entries c.in-Err.unread c.in-Err.ensures.err
