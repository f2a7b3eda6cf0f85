use Rattle.std.proofs.Common.{◌∙◌, string_bytes}
use Rattle.hm_tree.proofs.TableLemmas.{row_parent}
use Rattle.hm_tree.proofs.table.EventTable.parent.Goals as goal

pub returns : goal.returns
returns c = c.index-2.ensures ∙ row_parent (string_bytes c.self.inside.text) c.self.inside.attributes.items c.self.inside.rows.items c.args.self.now c.self.view_is c.args.i c.requires c.self.invariant c.index.result.now c.index.ensures
