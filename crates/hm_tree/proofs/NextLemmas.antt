-- The row that an editor comes to next is there, and it stands for the event that a step asks for.
use Rattle.std.proofs.Common.{◌≡◌, ℕ, ◌+◌, ◌<◌, Bool, List, [], ◌∷◌, length, drop, get_or, Option, None, refl, subst, arith}
use Rattle.hm_base.specs.Walks.{Event}
use Rattle.hm_tree.specs.Edits.{Edited, HasAttribute, IsCut, IsEditing}
use Rattle.hm_tree.specs.Rows.{event_at, events_of}
use Rattle.hm_tree.specs.Starts.{own_of}
use Rattle.hm_tree.specs.declared.pieces.AttributePieces.{AttributePieces}
use Rattle.hm_tree.specs.declared.pieces.TextRange.{TextRange}
use Rattle.hm_tree.specs.declared.rows.RowPart.{RowPart}
use Rattle.hm_tree.specs.declared.rows.RowPart.TheVariants as parts
use Rattle.hm_tree.specs.declared.rows.EventRow.{EventRow}
use Rattle.hm_tree.proofs.ChangedLemmas.{first_is, row_there}
use Rattle.hm_tree.proofs.EditorLemmas.{edited_of, next_there}

some_cut : (l : List Event) (from to : ℕ) → IsCut l from to → 0 < length l
some_cut [] from to cut = absurd cut
some_cut (x ∷ l) from to cut = omega arith

module _ (s : List ℕ) (pieces : List AttributePieces) (rows : List EventRow) (done next : ℕ) (parent : Option ℕ) (h : IsEditing s pieces rows done next parent) (e : Edited) (view : edited_of s pieces rows done next ≡ e) where
  abbrev rest : List Event
  rest = events_of s pieces (drop (next + 1) rows)

  pub cut_there : (from to : ℕ) → IsCut e.left from to → next < length rows
  cut_there from to cut = next_there s pieces rows done next parent h e view (some_cut e.left from to cut)

  module _ (r : EventRow) (is : r ≡ get_or rows next r) where
    -- a text is next where one is cut
    pub no_cut : ((raw : Bool) (p : TextRange) → r.part ≡ parts.Text raw p → ⊥) → (from to : ℕ) → IsCut e.left from to → ⊥
    no_cut other from to cut =
        by_part r.part refl (subst (λ l. IsCut l from to) (first_is s pieces rows done next parent h e view r is (cut_there from to cut)) cut)
      where
        by_part : (part : RowPart) → r.part ≡ part → IsCut (event_at s pieces part ∷ rest) from to → ⊥
        by_part (parts.Doctype legacy) was c = c
        by_part (parts.Start foreign len count from first) was c = c
        by_part (parts.LongStart foreign count first) was c = c
        by_part (parts.Text raw p) was c = other raw p was
        by_part (parts.Comment p) was c = c
        by_part (parts.End foreign name) was c = c

    -- a start is next where it has an attribute
    pub no_attribute : own_of r.part ≡ None → (at : ℕ) → HasAttribute e.left at → ⊥
    no_attribute none at has =
        by_part r.part none (subst (λ l. HasAttribute l at) (first_is s pieces rows done next parent h e view r is (row_there s pieces rows done next parent h e view at has)) has)
      where
        by_part : (part : RowPart) → own_of part ≡ None → HasAttribute (event_at s pieces part ∷ rest) at → ⊥
        by_part (parts.Doctype legacy) was c = c
        by_part (parts.Start foreign len count from first) was c = absurd (cc)
        by_part (parts.LongStart foreign count first) was c = absurd (cc)
        by_part (parts.Text raw p) was c = c
        by_part (parts.Comment p) was c = c
        by_part (parts.End foreign name) was c = c
