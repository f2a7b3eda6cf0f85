use Rattle.std.proofs.Common.{◌≡◌, ◌+◌, ◌++◌, [], ◌∷◌, length, string_bytes, refl, ap, sym, ◌∙◌, arith, length-append}
use Rattle.std.proofs.lemmas.List.{append-nil}
use Rattle.std.proofs.lemmas.List.Elements.{All-nil}
use Rattle.std.proofs.lemmas.Str.{is_utf8-from_IsUtf8}
use Rattle.hm_base.specs.Walks.{text}
use Rattle.hm_tree.specs.Pieces.{HasPieces}
use Rattle.hm_tree.specs.declared.rows.RowPart.TheVariants.{Text}
use Rattle.hm_tree.proofs.PieceLemmas.{IsPiece-new, bytes_of-new}
use Rattle.hm_tree.proofs.TableLemmas.{IsTableOf, IsTableOf-push}
use Rattle.hm_tree.proofs.ParentLemmas.{no_last}
use Rattle.hm_tree.proofs.rows.Rows.push_text.Goals as goal

pub of-parent-requires : goal.of-parent-requires
of-parent-requires c = no_last c.args.self.now c.args.parent c.requires.parent c.requires.room

pushed : (c : goal.After-unwrap)
    → IsTableOf (string_bytes c.append-text.new.text) (c.self.inside.attributes.items) (c.self.inside.rows.items ++ record { part = Text c.args.raw c.append-text.result; parent = c.args.parent } ∷ []) (c.args.self.now ++ text c.args.text.now c.args.raw ∷ [])
pushed c =
    let s = string_bytes c.self.inside.text in
    let pieces = c.self.inside.attributes.items in
    let bytes : s ++ c.args.text.now ≡ string_bytes c.append-text.new.text = sym (c.append-text.ensures.bytes ∙ ap (λ t. t ++ c.args.text.now) c.row_room.ensures.kept.0) in
    let from : c.append-text.result.from ≡ length s = c.append-text.ensures.from ∙ ap length c.row_room.ensures.kept.0 in
    let to : c.append-text.result.to ≡ length s + length c.args.text.now = c.append-text.ensures.to ∙ ap (λ t. length t + length c.args.text.now) c.row_room.ensures.kept.0 in
    IsTableOf-push s c.args.text.now (string_bytes c.append-text.new.text) pieces [] (c.self.inside.attributes.items) c.self.inside.rows.items c.args.self.now (record { part = Text c.args.raw c.append-text.result; parent = c.args.parent }) (text c.args.text.now c.args.raw)
    bytes (append-nil pieces) c.self.view_is c.self.invariant (record {
      utf8 = c.utf8.text;
      event = rw (← bytes, bytes_of-new s c.args.text.now c.append-text.result from to) refl;
      inside = rw (← bytes) (IsPiece-new s c.args.text.now c.append-text.result c.utf8.text from to);
      own = λ n all_kept. tt;
      reaches = rw (← bytes, length-append s c.args.text.now) to;
      parent = c.requires.parent;
      sound = is_utf8-from_IsUtf8 c.args.text.now c.utf8.text;
      room = c.requires.room;
      bytes = c.requires.bytes;
      size = omega arith;
      attributes = All-nil (HasPieces (string_bytes c.append-text.new.text));
      count = omega arith;
    })

-- the rows that are then there
items : (c : goal.After-unwrap) → c.push.new.self.items ≡ c.self.inside.rows.items ++ record { part = Text c.args.raw c.append-text.result; parent = c.args.parent } ∷ []
items c = rw (c.unwrap.ensures, c.row_room.ensures.kept.1, c.of-parent.ensures) at c.push.ensures.items

pub invariant_of-self-2 : goal.invariant_of-self-2
invariant_of-self-2 c = rw (items c) (pushed c).0

pub returns-clause-ok : goal.returns-clause-ok
returns-clause-ok c = rw (items c) (pushed c).1
