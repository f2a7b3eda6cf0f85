use Rattle.std.proofs.Common.{◌++◌, [], ◌∷◌, Some, string_bytes, sym, ◌∙◌, ap, subst, arith}
use Rattle.std.proofs.lemmas.Str.{IsUtf8-string_bytes}
use Rattle.hm_base.specs.Walks.{path_after}
use Rattle.hm_tree.specs.Starts.{end_part}
use Rattle.hm_tree.specs.Trees.{end_of}
use Rattle.hm_tree.proofs.EndLemmas.{has_name, start_within, IsTableOf-end}
use Rattle.hm_tree.proofs.TableLemmas.{IsTableOf}
use Rattle.hm_tree.proofs.ParentLemmas.{no_last}
use Rattle.hm_tree.proofs.rows.Rows.push_end.Goals as goal

pub index-row-requires : goal.index-row-requires
index-row-requires c = omega (arith, start_within (string_bytes c.self.inside.text) c.self.inside.attributes.items c.self.inside.rows.items c.args.self.now c.self.view_is c.args.start c.requires.parent)

pub end_part-part-requires : goal.end_part-part-requires
end_part-part-requires c =
    rw c.as_slice.ensures.value
    (has_name (string_bytes c.self.inside.text) c.self.inside.attributes.items c.self.inside.rows.items c.args.self.now c.self.view_is c.args.start c.requires.parent c.self.invariant c.index-row.result.now c.index-row.ensures)

pub of-parent-requires : goal.of-parent-requires
of-parent-requires c = no_last c.args.self.now (Some c.args.start) c.requires.parent c.requires.room

pushed : (c : goal.In_ok-push)
    → IsTableOf (string_bytes c.self.inside.text) c.self.inside.attributes.items
    (c.self.inside.rows.items ++ record { part = c.end_part-part.result; parent = Some c.args.start } ∷ []) (c.args.self.now ++ end_of (path_after [] c.args.self.now))
pushed c =
    let s = string_bytes c.self.inside.text in
    let pieces = c.self.inside.attributes.items in
    let rows = c.self.inside.rows.items in
    let w = c.args.self.now in
    subst (λ part. IsTableOf s pieces (rows ++ record { part = part; parent = Some c.args.start } ∷ []) (w ++ end_of (path_after [] w)))
    (sym (c.end_part-part.ensures ∙ ap (λ own. end_part own c.index-row.result.now.part) c.as_slice.ensures.value))
    (IsTableOf-end s pieces rows w c.self.view_is c.args.start c.requires.parent c.self.invariant c.index-row.result.now c.index-row.ensures (IsUtf8-string_bytes c.self.inside.text) c.requires.room)

pub invariant_of-self-2 : goal.invariant_of-self-2
invariant_of-self-2 c = rw (c.in_ok-push.ensures.items, c.of-parent.ensures) (pushed c).0

pub returns-clause-ok : goal.returns-clause-ok
returns-clause-ok c = rw (c.in_ok-push.ensures.items, c.of-parent.ensures) (pushed c).1
