-- What a maker knows, after each of its calls.
use Rattle.std.proofs.Common.{◌≡◌, ℕ, ◌+◌, ◌-◌, Bool, true, false, List, [], ◌∷◌, ◌++◌, length, slice_get, Option, Some, sym, ap, subst, ◌∙◌, refl, arith, length-append}
use Rattle.std.specs.Cmp.Lexicographic.{nat_list_eq_equiv}
use Rattle.hm_base.specs.Walks.{Event, doctype, start, text, comment, end, Attribute, Element, same_flag, path_after, ends_match, with_text}
use Rattle.hm_tree.specs.Trees.{HasRoom, IsMaking, innermost, open_after_event, open_after, parent_of, end_of}
use Rattle.hm_tree.specs.Rows.{ends_in_text, extended}
use Rattle.hm_tree.proofs.ApartLemmas.{are_texts_apart-other, are_texts_apart-text, are_texts_apart-extended}
use Rattle.hm_tree.proofs.OpenLemmas.{IsInnermost, innermost-IsInnermost}
use Rattle.hm_tree.proofs.TextLemmas.{with_text-extended, with_text-push, path_after-extended, open_after-extended, ends_match-extended}
use Rattle.hm_tree.proofs.WalkLemmas.{path_after-push, open_after-push, ends_match-push, walk_size-push}

pub innermost-push : (w : List Event) (e : Event) → innermost (w ++ e ∷ []) ≡ slice_get (open_after_event (open_after [] 0 w) (length w) e) 0
innermost-push w e = ap (λ ks. slice_get ks 0) (open_after-push [] 0 w e (length w) (omega arith))

module _ (w : List Event) (parent : Option ℕ) (depth : ℕ) (making : IsMaking w parent depth) where
  pub IsMaking-doctype : (legacy : Bool) → HasRoom (w ++ doctype legacy ∷ []) → IsMaking (w ++ doctype legacy ∷ []) parent depth
  IsMaking-doctype legacy room = record {
    matched = rw (ends_match-push [] w (doctype legacy), making.matched) refl;
    apart = are_texts_apart-other w (doctype legacy) making.apart refl;
    parent = making.parent ∙ sym (innermost-push w (doctype legacy));
    depth = making.depth ∙ sym (ap length (path_after-push [] w (doctype legacy)));
    room = room;
  }

  pub IsMaking-comment : (s : List ℕ) → HasRoom (w ++ comment s ∷ []) → IsMaking (w ++ comment s ∷ []) parent depth
  IsMaking-comment s room = record {
    matched = rw (ends_match-push [] w (comment s), making.matched) refl;
    apart = are_texts_apart-other w (comment s) making.apart refl;
    parent = making.parent ∙ sym (innermost-push w (comment s));
    depth = making.depth ∙ sym (ap length (path_after-push [] w (comment s)));
    room = room;
  }

  one_text : (c : ℕ) (s : List ℕ) (raw : Bool) → ends_in_text w ≡ false → HasRoom (w ++ text (c ∷ s) raw ∷ []) → IsMaking (w ++ text (c ∷ s) raw ∷ []) parent depth
  one_text c s raw ends room = record {
    matched = rw (ends_match-push [] w (text (c ∷ s) raw), making.matched) refl;
    apart = are_texts_apart-text w c s raw making.apart ends;
    parent = making.parent ∙ sym (innermost-push w (text (c ∷ s) raw));
    depth = making.depth ∙ sym (ap length (path_after-push [] w (text (c ∷ s) raw)));
    room = room;
  }

  more_text : (s : List ℕ) → HasRoom (extended w s) → IsMaking (extended w s) parent depth
  more_text s room = record {
    matched = ends_match-extended w s [] ∙ making.matched;
    apart = are_texts_apart-extended w s making.apart;
    parent = making.parent ∙ sym (ap (λ ks. slice_get ks 0) (open_after-extended [] 0 w s));
    depth = making.depth ∙ sym (ap length (path_after-extended [] w s));
    room = room;
  }

  by_end : (b : Bool) → ends_in_text w ≡ b → (c : ℕ) (s : List ℕ) (raw : Bool) → HasRoom (with_text w (c ∷ s) raw) → IsMaking (with_text w (c ∷ s) raw) parent depth
  by_end true ends c s raw room =
      let is = with_text-extended w (c ∷ s) raw (omega arith) ends in
      subst (λ v. IsMaking v parent depth) (sym is) (more_text (c ∷ s) (subst HasRoom is room))
  by_end false ends c s raw room =
      let is = with_text-push w (c ∷ s) raw (omega arith) ends in
      subst (λ v. IsMaking v parent depth) (sym is) (one_text c s raw ends (subst HasRoom is room))

  pub IsMaking-text : (s : List ℕ) (raw : Bool) → HasRoom (with_text w s raw) → IsMaking (with_text w s raw) parent depth
  IsMaking-text [] raw room = making
  IsMaking-text (c ∷ s) raw room = by_end (ends_in_text w) refl c s raw room

  pub IsMaking-start : (n : List ℕ) (foreign : Bool) (attributes : List Attribute) (i : ℕ) → i ≡ length w → HasRoom (w ++ start n foreign attributes ∷ [])
      → IsMaking (w ++ start n foreign attributes ∷ []) (Some i) (depth + 1)
  IsMaking-start n foreign attributes i at room = record {
    matched = rw (ends_match-push [] w (start n foreign attributes), making.matched) refl;
    apart = are_texts_apart-other w (start n foreign attributes) making.apart refl;
    parent = ap Some at ∙ sym (innermost-push w (start n foreign attributes));
    depth = omega (arith, making.depth, ap length (path_after-push [] w (start n foreign attributes)));
    room = room;
  }

same_flag-self : (b : Bool) → same_flag b b ≡ true
same_flag-self true = refl
same_flag-self false = refl

own_end : (e : Element) (path : List Element) → ends_match (e ∷ path) (end e.name e.foreign ∷ []) ≡ true
own_end e path = rw (nat_list_eq_equiv.refl e.name, same_flag-self e.foreign) refl

module _ (w : List Event) (k : ℕ) (depth : ℕ) (making : IsMaking w (Some k) depth) where
  around : IsInnermost w k
  around = innermost-IsInnermost w k making.parent

  one_end : IsMaking (w ++ end around.element.name around.element.foreign ∷ []) (parent_of w k) (depth - 1)
  one_end =
      let e = end around.element.name around.element.foreign in
      let below : path_after [] (w ++ e ∷ []) ≡ around.around = rw (path_after-push [] w e, around.path) refl in
      let count : length (path_after [] w) ≡ 1 + length around.around = omega (arith, ap length around.path) in
      record {
        matched = rw (ends_match-push [] w e, making.matched, around.path) (own_end around.element around.around);
        apart = are_texts_apart-other w e making.apart refl;
        parent = around.parent ∙ sym (rw (innermost-push w e, around.open_starts) refl);
        depth = omega (arith, making.depth, count, ap length below);
        room = record {
          events = omega (arith, making.room.events, count, ap length below, length-append w (e ∷ []));
          bytes = omega (arith, making.room.bytes, walk_size-push w e);
        };
      }

  pub IsMaking-end : IsMaking (w ++ end_of (path_after [] w)) (parent_of w k) (depth - 1)
  IsMaking-end = rw around.path one_end
