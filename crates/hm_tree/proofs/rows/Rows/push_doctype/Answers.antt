use Rattle.std.proofs.Common.{◌++◌, [], ◌∷◌, string_bytes, ap, refl, arith}
use Rattle.std.proofs.lemmas.List.{append-nil}
use Rattle.std.proofs.lemmas.List.Elements.{All-nil}
use Rattle.std.proofs.lemmas.Str.{IsUtf8-nil}
use Rattle.hm_base.specs.Walks.{doctype, walk_size}
use Rattle.hm_tree.specs.Pieces.{HasPieces}
use Rattle.hm_tree.specs.declared.rows.RowPart.TheVariants.{Doctype}
use Rattle.hm_tree.proofs.TableLemmas.{IsTableOf, IsTableOf-push}
use Rattle.hm_tree.proofs.ParentLemmas.{no_last}
use Rattle.hm_tree.proofs.rows.Rows.push_doctype.Goals as goal

pub of-parent-requires : goal.of-parent-requires
of-parent-requires c = no_last c.args.self.now c.args.parent c.requires.parent c.requires.room

pushed : (c : goal.In_ok-push)
    → IsTableOf (string_bytes c.self.inside.text) c.self.inside.attributes.items (c.self.inside.rows.items ++ record { part = Doctype c.args.legacy; parent = c.args.parent } ∷ []) (c.args.self.now ++ doctype c.args.legacy ∷ [])
pushed c =
    let s = string_bytes c.self.inside.text in
    let pieces = c.self.inside.attributes.items in
    IsTableOf-push s [] s pieces [] pieces c.self.inside.rows.items c.args.self.now (record { part = Doctype c.args.legacy; parent = c.args.parent }) (doctype c.args.legacy)
    (append-nil s) (append-nil pieces) c.self.view_is c.self.invariant (record {
      utf8 = IsUtf8-nil;
      event = refl;
      inside = tt;
      own = λ n all_kept. tt;
      reaches = tt;
      parent = c.requires.parent;
      sound = refl;
      room = c.requires.room;
      bytes = omega (arith, c.self.invariant.told.bytes, ap walk_size c.self.view_is);
      size = omega arith;
      attributes = All-nil (HasPieces s);
      count = omega arith;
    })

pub invariant_of-self-2 : goal.invariant_of-self-2
invariant_of-self-2 c = rw (c.in_ok-push.ensures.items, c.of-parent.ensures) (pushed c).0

pub returns-clause-ok : goal.returns-clause-ok
returns-clause-ok c = rw (c.in_ok-push.ensures.items, c.of-parent.ensures) (pushed c).1
