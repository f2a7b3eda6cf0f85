-- The last row of a table, and the text that stands last.
use Rattle.std.proofs.Common.{◌≡◌, ℕ, suc, ◌+◌, ◌^◌, ◌<◌, Bool, true, false, List, [], ◌∷◌, ◌++◌, length, take, drop, set, get_or, IsUtf8, sym, ap, subst, ◌∙◌, refl, arith}
use Rattle.std.proofs.lemmas.List.{take_all, take_more, set_split, drop_all, map-append}
use Rattle.hm_base.specs.Walks.{Event, text, walk_size}
use Rattle.hm_tree.specs.Pieces.{bytes_of}
use Rattle.hm_tree.specs.Rows.{IsRowTable, event_at, events_of, is_text, ends_in_text, with_more, extended}
use Rattle.hm_tree.specs.declared.pieces.AttributePieces.{AttributePieces}
use Rattle.hm_tree.specs.declared.pieces.TextRange.{TextRange}
use Rattle.hm_tree.specs.declared.rows.RowPart.{RowPart}
use Rattle.hm_tree.specs.declared.rows.RowPart.TheVariants as parts
use Rattle.hm_tree.specs.declared.rows.EventRow.{EventRow}
use Rattle.hm_tree.proofs.TableLemmas.{IsTableOf, longer, IsTable-longer, events_of-longer}

-- a list is what stands before its last element, and that
pub split_last : {X : Type 0} (xs : List X) (n : ℕ) (x : X) → n + 1 ≡ length xs → x ≡ get_or xs n x → xs ≡ take n xs ++ x ∷ []
split_last xs n x last at =
    let all : take (n + 1) xs ≡ xs = take_all (n + 1) xs (omega arith) in
    let more : take (n + 1) xs ≡ take n xs ++ get_or xs n x ∷ [] = take_more xs n x (omega arith) in
    sym all ∙ more ∙ ap (λ y. take n xs ++ y ∷ []) (sym at)

pub set_last : {X : Type 0} (xs : List X) (n : ℕ) (x : X) → n + 1 ≡ length xs → set xs n x ≡ take n xs ++ x ∷ []
set_last xs n x last =
    let none : drop (suc n) xs ≡ [] = drop_all (suc n) xs (omega arith) in
    set_split xs n x (omega arith) ∙ ap (λ rest. take n xs ++ x ∷ rest) none

pub ends_in_text-push : (w : List Event) (e : Event) → ends_in_text (w ++ e ∷ []) ≡ is_text e
ends_in_text-push [] e = refl
ends_in_text-push (x ∷ []) e = refl
ends_in_text-push (x ∷ y ∷ w) e = ends_in_text-push (y ∷ w) e

pub extended-push : (w : List Event) (e : Event) (more : List ℕ) → extended (w ++ e ∷ []) more ≡ w ++ with_more e more ∷ []
extended-push [] e more = refl
extended-push (x ∷ []) e more = refl
extended-push (x ∷ y ∷ w) e more = ap (λ rest. x ∷ rest) (extended-push (y ∷ w) e more)

-- where a text stands last, something does
pub some_last : (w : List Event) → ends_in_text w ≡ true → 0 < length w
some_last [] h = absurd (cc)
some_last (e ∷ w) h = omega arith

not_text : (s : List ℕ) (pieces : List AttributePieces) (part : RowPart) → ((raw : Bool) (p : TextRange) → part ≡ parts.Text raw p → ⊥) → is_text (event_at s pieces part) ≡ false
not_text s pieces (parts.Doctype legacy) other = refl
not_text s pieces (parts.Start foreign len count from first) other = refl
not_text s pieces (parts.LongStart foreign count first) other = refl
not_text s pieces (parts.Text raw p) other = absurd (other raw p refl)
not_text s pieces (parts.Comment p) other = refl
not_text s pieces (parts.End foreign name) other = refl

module _ (s : List ℕ) (pieces : List AttributePieces) (rows : List EventRow) (w : List Event) (view : events_of s pieces rows ≡ w) (n : ℕ) (r : EventRow) (last : n + 1 ≡ length rows) (at : r ≡ get_or rows n r) where
  split : w ≡ events_of s pieces (take n rows) ++ event_at s pieces r.part ∷ []
  split = sym view ∙ ap (events_of s pieces) (split_last rows n r last at) ∙ map-append (λ q. event_at s pieces q.part) (take n rows) (r ∷ [])

  last_event : ends_in_text w ≡ is_text (event_at s pieces r.part)
  last_event = ap ends_in_text split ∙ ends_in_text-push (events_of s pieces (take n rows)) (event_at s pieces r.part)

  -- a text stands last exactly where the last row is one
  pub last_is_text : (p : TextRange) (raw : Bool) → r.part ≡ parts.Text raw p → ends_in_text w ≡ true
  last_is_text p raw is = last_event ∙ ap (λ part. is_text (event_at s pieces part)) is

  pub last_is_other : ((raw : Bool) (p : TextRange) → r.part ≡ parts.Text raw p → ⊥) → ends_in_text w ≡ false
  last_is_other other = last_event ∙ not_text s pieces r.part other

  -- the text that stands last can have more bytes
  pub IsTableOf-extended : (more t : List ℕ) (p q : TextRange) (raw : Bool) → s ++ more ≡ t → IsRowTable s pieces rows → r.part ≡ parts.Text raw p → IsUtf8 more
      → walk_size w + length more < 2 ^ 29 → q.from ≡ p.from → q.to ≡ length t → IsTableOf t pieces (set rows n (longer r q raw)) (extended w more)
  IsTableOf-extended more t p q raw bytes table is utf8 room from to =
      let front = take n rows in
      let parts_of : rows ≡ front ++ r ∷ [] = split_last rows n r last at in
      let whole : IsRowTable s pieces (front ++ r ∷ []) = subst (IsRowTable s pieces) parts_of table in
      let fits : walk_size (events_of s pieces (front ++ r ∷ [])) + length more < 2 ^ 29 = rw (← parts_of, view) room in
      let end_at : q.to ≡ length (s ++ more) = rw bytes to in
      let becomes : extended w more ≡ events_of s pieces front ++ text (bytes_of s p ++ more) raw ∷ [] =
      ap (λ v. extended v more) split ∙ extended-push (events_of s pieces front) (event_at s pieces r.part) more ∙ ap (λ part. events_of s pieces front ++ with_more (event_at s pieces part) more ∷ []) is in
      rw (set_last rows n (longer r q raw) last, becomes, ← bytes)
      (IsTable-longer s more pieces front r p q raw whole is utf8 fits from end_at, events_of-longer s more pieces front r p q raw whole is utf8 fits from end_at)
