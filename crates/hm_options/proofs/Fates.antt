-- Attributes that are changed one by one, from the last one to the first.
use Rattle.std.proofs.Common.{◌≡◌, ℕ, zero, suc, ◌+◌, ◌<◌, Bool, true, false, ◌&&◌, List, [], ◌∷◌, ◌++◌, flat_map, length, take, drop, slice_get, Some, sym, ap, ◌∙◌, refl, arith, length-append, length-take}
use Rattle.std.proofs.lemmas.List.{append-nil, drop_all, take_all}
use Rattle.std.specs.List.{remove}
use Rattle.hm_base.specs.Walks.{Attribute, Event, doctype, start, text, comment, end, begins_start, begins_comment}
use Rattle.hm_base.specs.declared.plain.TreeOptions.{TreeOptions}
use Rattle.hm_options.specs.Passes.{attribute_pass}
use Rattle.hm_options.specs.Passing.{IsChanged, IsFate, IsFated, StartStays, begins_html_start, fated, first_attributes, with_passed}
use Rattle.hm_options.specs.declared.attributes.Fate.{Fate}
use Rattle.hm_options.specs.declared.attributes.Fate.TheVariants as fates
use Rattle.hm_options.proofs.Passing.{changed_so}
use Rattle.hm_tree.specs.Edits.{HasAttribute, with_attributes, without_value}

-- ---- One attribute of a list

next : (i : ℕ) → i + 1 ≡ suc i
next i = omega arith

kept_there : {A : Type 0} (xs : List A) (i : ℕ) (a : A) → slice_get xs i ≡ Some a → xs ≡ take i xs ++ (a ∷ [] ++ drop (suc i) xs)
kept_there [] i a at = absurd (cc)
kept_there (x ∷ xs) zero a at = let same : x ≡ a = cc in ap (λ y. y ∷ xs) same
kept_there (x ∷ xs) (suc i) a at = ap (λ ys. x ∷ ys) (kept_there xs i a at)

emptied_there : (xs : List Attribute) (i : ℕ) (a : Attribute) → slice_get xs i ≡ Some a → without_value i xs ≡ take i xs ++ (record { name = a.name; value = [] } ∷ [] ++ drop (suc i) xs)
emptied_there [] i a at = absurd (cc)
emptied_there (x ∷ xs) zero a at = let same : x ≡ a = cc in ap (λ y. record { name = y.name; value = [] } ∷ xs) same
emptied_there (x ∷ xs) (suc i) a at = ap (λ ys. x ∷ ys) (emptied_there xs i a at)

removed_there : {A : Type 0} (xs : List A) (i : ℕ) (a : A) → slice_get xs i ≡ Some a → remove xs i ≡ take i xs ++ ([] ++ drop (suc i) xs)
removed_there [] i a at = absurd (cc)
removed_there (x ∷ xs) zero a at = refl
removed_there (x ∷ xs) (suc i) a at = ap (λ ys. x ∷ ys) (removed_there xs i a at)

-- a list of which the elements from a place on are others
abbrev from_place : (Attribute → List Attribute) → ℕ → List Attribute → List Attribute
from_place f i xs = take i xs ++ flat_map f (drop i xs)

one_earlier : (f : Attribute → List Attribute) (xs : List Attribute) (i : ℕ) (a : Attribute) → slice_get xs i ≡ Some a → take i (from_place f (suc i) xs) ++ (f a ++ drop (suc i) (from_place f (suc i) xs)) ≡ from_place f i xs
one_earlier f [] i a at = absurd (cc)
one_earlier f (x ∷ xs) zero a at = let same : x ≡ a = cc in ap (λ y. f y ++ flat_map f xs) (sym same)
one_earlier f (x ∷ xs) (suc i) a at = ap (λ ys. x ∷ ys) (one_earlier f xs i a at)

still_there : (f : Attribute → List Attribute) (xs : List Attribute) (i : ℕ) (a : Attribute) → slice_get xs i ≡ Some a → slice_get (from_place f (suc i) xs) i ≡ Some a
still_there f [] i a at = absurd (cc)
still_there f (x ∷ xs) zero a at = at
still_there f (x ∷ xs) (suc i) a at = still_there f xs i a at

one_there : {A : Type 0} (xs : List A) (i : ℕ) → i < length xs → (a : A) × (slice_get xs i ≡ Some a)
one_there [] i h = absurd (omega (arith, h))
one_there (x ∷ xs) zero h = (x, refl)
one_there (x ∷ xs) (suc i) h = one_there xs i (omega (arith, h))

-- ---- The start that is first

pub has_attribute : (o : TreeOptions) (at : ℕ) (l : List Event) → at < length (first_attributes l) → HasAttribute (with_passed o (at + 1) l) at
has_attribute o at [] h = absurd (omega (arith, h))
has_attribute o at (doctype legacy ∷ w) h = absurd (omega (arith, h))
has_attribute o at (start n foreign attributes ∷ w) h =
    omega (arith, h, length-append (take (at + 1) attributes) (flat_map (attribute_pass o n) (drop (at + 1) attributes)), length-take (at + 1) attributes)
has_attribute o at (text s raw ∷ w) h = absurd (omega (arith, h))
has_attribute o at (comment s ∷ w) h = absurd (omega (arith, h))
has_attribute o at (end n foreign ∷ w) h = absurd (omega (arith, h))

pub none_passed : (o : TreeOptions) (count : ℕ) (l : List Event) → count ≡ length (first_attributes l) → with_passed o count l ≡ l
none_passed o count [] h = refl
none_passed o count (doctype legacy ∷ w) h = refl
none_passed o count (start n foreign attributes ∷ w) h =
    ap (λ xs. start n foreign xs ∷ w)
    (rw (take_all count attributes (omega (arith, h)), drop_all count attributes (omega (arith, h))) (append-nil attributes))
none_passed o count (text s raw ∷ w) h = refl
none_passed o count (comment s ∷ w) h = refl
none_passed o count (end n foreign ∷ w) h = refl

pub one_passed : (o : TreeOptions) (at : ℕ) (l after : List Event) → at < length (first_attributes l) → IsFated o at (with_passed o (at + 1) l) after → after ≡ with_passed o at l
one_passed o at [] after h fated_so = absurd (omega (arith, h))
one_passed o at (doctype legacy ∷ w) after h fated_so = absurd (omega (arith, h))
one_passed o at (start n foreign attributes ∷ w) after h fated_so =
    let found = one_there attributes at h in
    let f = attribute_pass o n in
    let one = next at in
    let there : slice_get (from_place f (at + 1) attributes) at ≡ Some found.0 = ap (λ k. slice_get (from_place f k attributes) at) one ∙ still_there f attributes at found.0 found.1 in
    fated_so found.0 there
    ∙ ap (λ k. start n foreign (take at (from_place f k attributes) ++ (f found.0 ++ drop k (from_place f k attributes))) ∷ w) one
    ∙ ap (λ xs. start n foreign xs ∷ w) (one_earlier f attributes at found.0 found.1)
one_passed o at (text s raw ∷ w) after h fated_so = absurd (omega (arith, h))
one_passed o at (comment s ∷ w) after h fated_so = absurd (omega (arith, h))
one_passed o at (end n foreign ∷ w) after h fated_so = absurd (omega (arith, h))

-- what each fate makes of an attribute
abbrev fated_events : Fate → ℕ → List Event → List Event
fated_events fates.Stays at l = l
fated_events fates.Emptied at l = with_attributes (without_value at) l
fated_events fates.LeftOut at l = with_attributes (λ attributes. remove attributes at) l

fated_list : (fate : Fate) (n : List ℕ) (foreign : Bool) (xs : List Attribute) (w : List Event) (at : ℕ) (a : Attribute) → slice_get xs at ≡ Some a → fated_events fate at (start n foreign xs ∷ w) ≡ start n foreign (take at xs ++ (fated fate a ++ drop (at + 1) xs)) ∷ w
fated_list fates.Stays n foreign xs w at a there = ap (λ ys. start n foreign ys ∷ w) (kept_there xs at a there ∙ ap (λ k. take at xs ++ (a ∷ [] ++ drop k xs)) (sym (next at)))
fated_list fates.Emptied n foreign xs w at a there = ap (λ ys. start n foreign ys ∷ w) (emptied_there xs at a there ∙ ap (λ k. take at xs ++ (record { name = a.name; value = [] } ∷ [] ++ drop k xs)) (sym (next at)))
fated_list fates.LeftOut n foreign xs w at a there = ap (λ ys. start n foreign ys ∷ w) (removed_there xs at a there ∙ ap (λ k. take at xs ++ ([] ++ drop k xs)) (sym (next at)))

pub is_fated : (o : TreeOptions) (fate : Fate) (at : ℕ) (l after : List Event) → IsFate o l at fate → after ≡ fated_events fate at l → IsFated o at l after
is_fated o fate at [] after h is = tt
is_fated o fate at (doctype legacy ∷ w) after h is = tt
is_fated o fate at (start n foreign attributes ∷ w) after h is = λ a there.
    is ∙ fated_list fate n foreign attributes w at a there ∙ ap (λ xs. start n foreign (take at attributes ++ (xs ++ drop (at + 1) attributes)) ∷ w) (sym (h a there))
is_fated o fate at (text s raw ∷ w) after h is = tt
is_fated o fate at (comment s ∷ w) after h is = tt
is_fated o fate at (end n foreign ∷ w) after h is = tt

-- ---- The start becomes what it becomes

plain_start : (b : Bool) (n : List ℕ) (foreign : Bool) (attributes : List Attribute) (w : List Event) → b && begins_comment (start n foreign attributes ∷ w) ≡ false
plain_start true n foreign attributes w = refl
plain_start false n foreign attributes w = refl

pub start_stays : (o : TreeOptions) (l : List Event) → begins_start l ≡ true → StartStays o l → IsChanged o l l
start_stays o [] b h = absurd (cc)
start_stays o (doctype legacy ∷ w) b h = absurd (cc)
start_stays o (start n foreign attributes ∷ w) b h = changed_so o (start n foreign attributes) (start n foreign attributes) w (plain_start o.comments n foreign attributes w) (ap (start n foreign) h) refl
start_stays o (text s raw ∷ w) b h = absurd (cc)
start_stays o (comment s ∷ w) b h = absurd (cc)
start_stays o (end n foreign ∷ w) b h = absurd (cc)

pub start_changes : (o : TreeOptions) (l after : List Event) → begins_html_start l ≡ true → after ≡ with_passed o 0 l → IsChanged o l after
start_changes o [] after b is = absurd (cc)
start_changes o (doctype legacy ∷ w) after b is = absurd (cc)
start_changes o (start n true attributes ∷ w) after b is = absurd (cc)
start_changes o (start n false attributes ∷ w) after b is =
    rw is (changed_so o (start n false attributes) (start n false (flat_map (attribute_pass o n) attributes)) w (plain_start o.comments n false attributes w) refl refl)
start_changes o (text s raw ∷ w) after b is = absurd (cc)
start_changes o (comment s ∷ w) after b is = absurd (cc)
start_changes o (end n foreign ∷ w) after b is = absurd (cc)
