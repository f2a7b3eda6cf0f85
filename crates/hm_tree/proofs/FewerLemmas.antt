-- Attributes of which one is left out, or has no value.
use Rattle.std.proofs.Common.{◌≡◌, ℕ, zero, suc, ◌+◌, ◌-◌, ◌<◌, ◌≤◌, Bool, true, false, not, ◌&&◌, List, [], ◌∷◌, ◌++◌, length, map, take, drop, set, get_or, slice_range, All, bytes_eq, cond, sym, ap, subst, ◌∙◌, refl, arith, length-append, length-take}
use Rattle.std.proofs.lemmas.Bool.{and_parts, and_from, not-true}
use Rattle.std.proofs.lemmas.List.{length-map, take-append-le, take-take, take_all}
use Rattle.std.proofs.lemmas.List.Elements.{All-cons, All-head, All-tail}
use Rattle.std.proofs.lemmas.Str.{IsUtf8-nil, is_utf8-from_IsUtf8}
use Rattle.std.specs.List.{remove}
use Rattle.std.specs.Str.{is_utf8}
use Rattle.hm_base.specs.Walks.{Attribute, has_name, has_distinct_names, attributes_size}
use Rattle.hm_tree.specs.Attributes.{are_texts}
use Rattle.hm_tree.specs.Edits.{without_value}
use Rattle.hm_tree.specs.Moved.{moved}
use Rattle.hm_tree.specs.Pieces.{HasPieces, IsPiece, attribute_in, attributes_in, bytes_of, emptied, name_of, value_of}
use Rattle.hm_tree.specs.declared.pieces.AttributePieces.{AttributePieces}
use Rattle.hm_tree.proofs.MovedLemmas.{moved_removed}

-- ---- One is left out

fewer_named : (n : List ℕ) (xs : List Attribute) (i : ℕ) → has_name n xs ≡ false → has_name n (remove xs i) ≡ false
fewer_named n [] zero h = refl
fewer_named n [] (suc i) h = refl
fewer_named n (x ∷ xs) zero h = rest (bytes_eq x.name n) h
  where
    rest : (b : Bool) → cond b true (has_name n xs) ≡ false → has_name n xs ≡ false
    rest true k = absurd (cc)
    rest false k = k
fewer_named n (x ∷ xs) (suc i) h = by_name (bytes_eq x.name n) h (λ k. fewer_named n xs i k)
  where
    by_name : (b : Bool) → cond b true (has_name n xs) ≡ false → (has_name n xs ≡ false → has_name n (remove xs i) ≡ false) → cond b true (has_name n (remove xs i)) ≡ false
    by_name true k more = absurd (cc)
    by_name false k more = more k

pub distinct_removed : (xs : List Attribute) (i : ℕ) → has_distinct_names xs ≡ true → has_distinct_names (remove xs i) ≡ true
distinct_removed [] zero h = refl
distinct_removed [] (suc i) h = refl
distinct_removed (x ∷ xs) zero h = (and_parts (not (has_name x.name xs)) (has_distinct_names xs) h).1
distinct_removed (x ∷ xs) (suc i) h =
    let parts = and_parts (not (has_name x.name xs)) (has_distinct_names xs) h in
    and_from (not (has_name x.name (remove xs i))) (has_distinct_names (remove xs i)) (ap not (fewer_named x.name xs i (not-true (has_name x.name xs) parts.0))) (distinct_removed xs i parts.1)

pub texts_removed : (xs : List Attribute) (i : ℕ) → are_texts xs ≡ true → are_texts (remove xs i) ≡ true
texts_removed [] zero h = refl
texts_removed [] (suc i) h = refl
texts_removed (x ∷ xs) zero h = (and_parts (is_utf8 x.name && is_utf8 x.value) (are_texts xs) h).1
texts_removed (x ∷ xs) (suc i) h =
    let parts = and_parts (is_utf8 x.name && is_utf8 x.value) (are_texts xs) h in
    and_from (is_utf8 x.name && is_utf8 x.value) (are_texts (remove xs i)) parts.0 (texts_removed xs i parts.1)

pub size_removed : (xs : List Attribute) (i : ℕ) → attributes_size (remove xs i) ≤ attributes_size xs
size_removed [] zero = omega arith
size_removed [] (suc i) = omega arith
size_removed (x ∷ xs) zero = omega arith
size_removed (x ∷ xs) (suc i) = omega (arith, size_removed xs i)

map_removed : {A B : Type 0} (f : A → B) (xs : List A) (i : ℕ) → map f (remove xs i) ≡ remove (map f xs) i
map_removed f [] zero = refl
map_removed f [] (suc i) = refl
map_removed f (x ∷ xs) zero = refl
map_removed f (x ∷ xs) (suc i) = ap (λ ys. f x ∷ ys) (map_removed f xs i)

length_removed : {A : Type 0} (xs : List A) (i : ℕ) → i < length xs → length (remove xs i) + 1 ≡ length xs
length_removed [] i h = absurd (omega (arith, h))
length_removed (x ∷ xs) zero h = omega arith
length_removed (x ∷ xs) (suc i) h = omega (arith, length_removed xs i (omega (arith, h)))

-- of a list in which one element went after the others, all but that one
but_last : {A : Type 0} (xs : List A) (i k : ℕ) (d : A) → i < length xs → k + 1 ≡ length xs → take k (moved i xs) ≡ remove xs i
but_last xs i k d within count =
    let short : k ≤ length (remove xs i) = omega (arith, count, length_removed xs i within) in
    ap (take k) (sym (moved_removed i xs d within)) ∙ take-append-le k (remove xs i) (get_or xs i d ∷ []) short ∙ take_all k (remove xs i) (omega (arith, count, length_removed xs i within))

-- the attributes of a row with one fewer, where the one that is left out went after the others
pub fewer_shown : (s : List ℕ) (own new : List AttributePieces) (first count at : ℕ) (d : AttributePieces) → at < count → length own ≡ count → slice_range new first (first + count) ≡ moved at own
    → attributes_in s (slice_range new first (first + (count - 1))) ≡ remove (attributes_in s own) at
fewer_shown s own new first count at d within as_many is =
    let some : count - 1 ≤ count = omega arith in
    let one : first + (count - 1) - first ≡ count - 1 = omega arith in
    let all : first + count - first ≡ count = omega arith in
    let cut : take (count - 1) (take count (drop first new)) ≡ take (count - 1) (drop first new) = take-take (count - 1) count (drop first new) some in
    let whole : take count (drop first new) ≡ moved at own = ap (λ k. take k (drop first new)) (sym all) ∙ is in
    let part : slice_range new first (first + (count - 1)) ≡ remove own at =
    ap (λ k. take k (drop first new)) one ∙ sym cut ∙ ap (take (count - 1)) whole ∙ but_last own at (count - 1) d (omega (arith, within, as_many)) (omega (arith, within, as_many)) in
    ap (attributes_in s) part ∙ map_removed (attribute_in s) own at

-- ---- One has no value

pub same_named : (n : List ℕ) (i : ℕ) (xs : List Attribute) → has_name n (without_value i xs) ≡ has_name n xs
same_named n i [] = refl
same_named n zero (x ∷ xs) = refl
same_named n (suc i) (x ∷ xs) = rw (same_named n i xs) refl

pub distinct_emptied : (i : ℕ) (xs : List Attribute) → has_distinct_names (without_value i xs) ≡ has_distinct_names xs
distinct_emptied i [] = refl
distinct_emptied zero (x ∷ xs) = refl
distinct_emptied (suc i) (x ∷ xs) = rw (same_named x.name i xs, distinct_emptied i xs) refl

pub texts_emptied : (i : ℕ) (xs : List Attribute) → are_texts xs ≡ true → are_texts (without_value i xs) ≡ true
texts_emptied i [] h = refl
texts_emptied zero (x ∷ xs) h =
    let parts = and_parts (is_utf8 x.name && is_utf8 x.value) (are_texts xs) h in
    and_from (is_utf8 x.name && is_utf8 []) (are_texts xs) (and_from (is_utf8 x.name) (is_utf8 []) (and_parts (is_utf8 x.name) (is_utf8 x.value) parts.0).0 (is_utf8-from_IsUtf8 [] IsUtf8-nil)) parts.1
texts_emptied (suc i) (x ∷ xs) h =
    let parts = and_parts (is_utf8 x.name && is_utf8 x.value) (are_texts xs) h in
    and_from (is_utf8 x.name && is_utf8 x.value) (are_texts (without_value i xs)) parts.0 (texts_emptied i xs parts.1)

pub size_emptied : (i : ℕ) (xs : List Attribute) → attributes_size (without_value i xs) ≤ attributes_size xs
size_emptied i [] = omega arith
size_emptied zero (x ∷ xs) = omega arith
size_emptied (suc i) (x ∷ xs) = omega (arith, size_emptied i xs)

pub emptied_shown : (s : List ℕ) (i : ℕ) (own : List AttributePieces) → attributes_in s (emptied i own) ≡ without_value i (attributes_in s own)
emptied_shown s i [] = refl
emptied_shown s zero (a ∷ own) =
    let none : a.middle - a.middle ≡ 0 = omega arith in
    ap (λ k. record { name = bytes_of s (name_of a); value = take k (drop a.middle s) } ∷ attributes_in s own) none
emptied_shown s (suc i) (a ∷ own) = ap (λ xs. attribute_in s a ∷ xs) (emptied_shown s i own)

pub emptied_count : (i : ℕ) (own : List AttributePieces) → length (emptied i own) ≡ length own
emptied_count i [] = refl
emptied_count zero (a ∷ own) = refl
emptied_count (suc i) (a ∷ own) = ap suc (emptied_count i own)

pub emptied_inside : (s : List ℕ) (i : ℕ) (own : List AttributePieces) → All (HasPieces s) own → All (HasPieces s) (emptied i own)
emptied_inside s i [] h = h
emptied_inside s zero (a ∷ own) h =
    let mine = All-head (HasPieces s) a own h in
    let none : IsPiece s (record { from = a.middle; to = a.middle }) = record { ordered = omega arith; from_boundary = mine.0.to_boundary; to_boundary = mine.0.to_boundary } in
    All-cons (HasPieces s) (record { from = a.from; middle = a.middle; to = a.middle }) own (mine.0, none) (All-tail (HasPieces s) a own h)
emptied_inside s (suc i) (a ∷ own) h = All-cons (HasPieces s) a (emptied i own) (All-head (HasPieces s) a own h) (emptied_inside s i own (All-tail (HasPieces s) a own h))

-- it is set in its place
pub emptied_at : (own : List AttributePieces) (i : ℕ) → i < length own
    → set own i (record { from = (get_or own i (record { from = 0; middle = 0; to = 0 })).from; middle = (get_or own i (record { from = 0; middle = 0; to = 0 })).middle; to = (get_or own i (record { from = 0; middle = 0; to = 0 })).middle }) ≡ emptied i own
emptied_at [] i h = absurd (omega (arith, h))
emptied_at (a ∷ own) zero h = refl
emptied_at (a ∷ own) (suc i) h = ap (λ xs. a ∷ xs) (emptied_at own i (omega (arith, h)))
