-- The row of the innermost open start, and the row of its end.
use Rattle.std.proofs.Common.{◌≡◌, ℕ, ◌+◌, ◌^◌, ◌<◌, Bool, List, [], ◌∷◌, ◌++◌, length, get_or, slice_range, IsUtf8, Some, sym, ap, ap₂, subst, ◌∙◌, refl, arith}
use Rattle.std.proofs.lemmas.List.{append-nil}
use Rattle.std.proofs.lemmas.List.Elements.{All-nil}
use Rattle.std.proofs.lemmas.Option.{slice_get_within}
use Rattle.std.proofs.lemmas.Str.{IsUtf8-nil, is_utf8-from_IsUtf8}
use Rattle.hm_base.specs.Walks.{Attribute, Event, start, end, path_after, walk_size}
use Rattle.hm_tree.specs.Trees.{innermost, end_of}
use Rattle.hm_tree.specs.Pieces.{HasPieces, IsPiece, attributes_in, bytes_of}
use Rattle.hm_tree.specs.Rows.{IsInside, IsRowTable, event_at, events_of}
use Rattle.hm_tree.specs.Starts.{HasName, end_part, flag_of, name_at, own_of}
use Rattle.hm_tree.specs.declared.pieces.AttributePieces.{AttributePieces}
use Rattle.hm_tree.specs.declared.pieces.TextRange.{TextRange}
use Rattle.hm_tree.specs.declared.rows.RowPart.{RowPart}
use Rattle.hm_tree.specs.declared.rows.RowPart.TheVariants as parts
use Rattle.hm_tree.specs.declared.rows.EventRow.{EventRow}
use Rattle.hm_tree.specs.declared.starts.AttributeRange.{AttributeRange}
use Rattle.hm_tree.proofs.OpenLemmas.{IsInnermost, innermost-IsInnermost}
use Rattle.hm_tree.proofs.PartLemmas.{IsStart, is_start}
use Rattle.hm_tree.proofs.PieceLemmas.{IsUtf8-bytes_of}
use Rattle.hm_tree.proofs.TableLemmas.{IsTableOf, IsTableOf-push, of_rows, row_within, part_event, part_inside}

module _ (s : List ℕ) (pieces : List AttributePieces) (rows : List EventRow) (w : List Event) (view : events_of s pieces rows ≡ w) (k : ℕ) (open_start : Some k ≡ innermost w) where
  around : IsInnermost w k
  around = innermost-IsInnermost w k open_start

  within : k < length w
  within = slice_get_within w k _ around.start.at

  -- it has a row
  pub start_within : k < length rows
  start_within = row_within s pieces rows w view k within

  module _ (table : IsRowTable s pieces rows) (r : EventRow) (is : r ≡ get_or rows k r) where
    same_event : event_at s pieces r.part ≡ start around.element.name around.element.foreign around.start.attributes
    same_event =
        let both : Some (event_at s pieces r.part) ≡ Some (start around.element.name around.element.foreign around.start.attributes) =
        sym (part_event s pieces rows w view k within (of_rows table) r is r.part refl) ∙ around.start.at in
        cc

    by_part : (part : RowPart) (n : List ℕ) (foreign : Bool) (attributes : List Attribute) → event_at s pieces part ≡ start n foreign attributes → (own : AttributeRange) × (own_of part ≡ Some own)
    by_part (parts.Doctype legacy) n foreign attributes e = absurd (cc)
    by_part (parts.Start flag len count from first) n foreign attributes e = (record { first = first; count = count }, refl)
    by_part (parts.LongStart flag count first) n foreign attributes e = (record { first = first; count = count }, refl)
    by_part (parts.Text raw p) n foreign attributes e = absurd (cc)
    by_part (parts.Comment p) n foreign attributes e = absurd (cc)
    by_part (parts.End flag name) n foreign attributes e = absurd (cc)

    owns : (own : AttributeRange) × (own_of r.part ≡ Some own)
    owns = by_part r.part around.element.name around.element.foreign around.start.attributes same_event

    -- which is that of a start
    begun : IsStart r.part owns.0.first owns.0.count
    begun = is_start r.part owns.0 owns.1

    inside : IsInside s (length pieces) r.part
    inside = part_inside s pieces rows w view k within (of_rows table) r is r.part refl

    -- whose name can be read
    pub has_name : HasName pieces r.part
    has_name = begun.has_name s pieces (omega (arith, table.size, table.told.bytes)) inside

    module _ (utf8 : IsUtf8 s) (room : length w + 1 < 2 ^ 29) where
      abbrev name : TextRange
      name = name_at pieces r.part

      abbrev foreign : Bool
      foreign = flag_of r.part

      same_start : start (bytes_of s name) foreign (attributes_in s (slice_range pieces owns.0.first (owns.0.first + owns.0.count))) ≡ start around.element.name around.element.foreign around.start.attributes
      same_start = sym (begun.event s pieces) ∙ same_event

      names : bytes_of s name ≡ around.element.name
      names = let h = same_start in cc

      flags : foreign ≡ around.element.foreign
      flags = let h = same_start in cc

      piece : IsPiece s name
      piece = begun.named s pieces inside table.attributes

      ended : IsTableOf s pieces (rows ++ record { part = parts.End foreign name; parent = Some k } ∷ []) (w ++ end_of (path_after [] w))
      ended =
          rw around.path (IsTableOf-push s [] s pieces [] pieces rows w (record { part = parts.End foreign name; parent = Some k }) (end around.element.name around.element.foreign)
          (append-nil s) (append-nil pieces) view table (record {
            utf8 = IsUtf8-nil;
            event = ap₂ (λ n flag. end n flag) names flags;
            inside = piece;
            own = λ n all_kept. tt;
            reaches = tt;
            parent = open_start;
            sound = rw (← names) (is_utf8-from_IsUtf8 (bytes_of s name) (IsUtf8-bytes_of s name utf8 piece));
            room = room;
            bytes = omega (arith, table.told.bytes, ap walk_size view);
            size = omega arith;
            attributes = All-nil (HasPieces s);
            count = omega arith;
          }))

      -- the end of that element can be appended to the table
      pub IsTableOf-end : IsTableOf s pieces (rows ++ record { part = end_part pieces r.part; parent = Some k } ∷ []) (w ++ end_of (path_after [] w))
      IsTableOf-end = subst (λ part. IsTableOf s pieces (rows ++ record { part = part; parent = Some k } ∷ []) (w ++ end_of (path_after [] w))) (sym (begun.end_is pieces)) ended
