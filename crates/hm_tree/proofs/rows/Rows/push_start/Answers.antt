use Rattle.std.proofs.Common.{◌≡◌, ◌++◌, [], ◌∷◌, length, string_bytes, subst, ap, arith}
use Rattle.hm_base.specs.Walks.{start}
use Rattle.hm_tree.specs.Rows.{IsStartAppended}
use Rattle.hm_tree.specs.Sources.{listed}
use Rattle.hm_tree.proofs.ShownLemmas.{few_attributes}
use Rattle.hm_tree.proofs.StartLemmas.{IsTableOf-start}
use Rattle.hm_tree.proofs.TableLemmas.{IsTableOf, row_count}
use Rattle.hm_tree.proofs.ParentLemmas.{no_last}
use Rattle.hm_tree.proofs.rows.Rows.push_start.Goals as goal

pub start_part-requires-clause-indices : goal.start_part-requires-clause-indices
start_part-requires-clause-indices c =
    omega (arith, ap length c.start_room.ensures.kept.1, row_count c.self.invariant, few_attributes (listed c.args.attrs.now) c.start_room.ensures.sound.0, c.requires.bytes)

pub of-parent-requires : goal.of-parent-requires
of-parent-requires c = no_last c.args.self.now c.args.parent c.requires.parent c.requires.room

pushed : (c : goal.After-unwrap)
    → IsTableOf (string_bytes c.start_part.new.text) c.start_part.new.attributes.items
    (c.self.inside.rows.items ++ record { part = c.in_ok-part.part; parent = c.args.parent } ∷ []) (c.args.self.now ++ start c.args.name.now c.args.foreign (listed c.args.attrs.now) ∷ [])
pushed c =
    let s = string_bytes c.self.inside.text in
    let n = c.args.name.now in
    let pieces = c.self.inside.attributes.items in
    let t = string_bytes c.start_part.new.text in
    let new = c.start_part.new.attributes.items in
    let list = listed c.args.attrs.now in
    let appended : IsStartAppended s pieces n c.args.foreign list t new c.in_ok-part.part =
    subst (λ u. IsStartAppended u pieces n c.args.foreign list t new c.in_ok-part.part) c.start_room.ensures.kept.0
    (subst (λ old. IsStartAppended (string_bytes c.start_room.new.text) old n c.args.foreign list t new c.in_ok-part.part) c.start_room.ensures.kept.1 c.in_ok-part.ensures.ok) in
    IsTableOf-start s n t pieces new c.self.inside.rows.items c.args.self.now c.args.foreign list c.args.parent c.in_ok-part.part
    c.utf8.name c.start_room.ensures.sound.1 c.start_room.ensures.sound.0 appended c.self.view_is c.self.invariant c.requires.parent c.requires.room c.requires.bytes

-- the rows that are then there
items : (c : goal.After-unwrap) → c.push.new.self.items ≡ c.self.inside.rows.items ++ record { part = c.in_ok-part.part; parent = c.args.parent } ∷ []
items c = rw (c.unwrap.ensures, c.start_room.ensures.kept.2, c.of-parent.ensures) at c.push.ensures.items

pub invariant_of-self-2 : goal.invariant_of-self-2
invariant_of-self-2 c = rw (items c) (pushed c).0

pub returns-clause-ok : goal.returns-clause-ok
returns-clause-ok c = rw (items c) (pushed c).1
