-- A tree put into order tag by tag.
use Rattle.std.proofs.Common.{◌≡◌, ◌+◌, ◌<◌, ◌≤◌, ℕ, zero, suc, Bool, false, ◌&&◌, nat_lt, List, [], ◌∷◌, length, slice_get, Bor, Option, Some, refl, sym, ap, ap₂, ◌∙◌, subst, arith}
use Rattle.std.specs.Prelude.{IsPermutation, sum_by}
use Rattle.std.proofs.lemmas.Bool.Decides.{nat_tests}
use Rattle.std.proofs.lemmas.List.Sums.{sum_by-cons}
use Rattle.std.proofs.lemmas.List.Sorted.{sum_by-IsPermutation}
use Rattle.hm_base.specs.Walks.{Attribute, attributes_size, begins_end, doctype, end, Event, comment, start, text}
use Rattle.hm_spelling_spec.specs.Tags.{Spelling}
use Rattle.hm_tree.specs.Moved.{moved, put_last}
use Rattle.hm_tree.specs.Views.{event_of}
use Rattle.hm_tree.specs.declared.attrs_view.AttrsView.{AttrsView}
use Rattle.hm_tree.specs.declared.events.EventView.{EventView}
use Rattle.hm_tree.specs.declared.events.EventView.TheVariants.{Doctype, Start, Text, Comment, End}
use Rattle.hm_order.specs.Laws.{OrderedIsAsLarge}
use Rattle.hm_order.specs.Orders.{is_end, ordered, ordered_event, reordered}
use Rattle.hm_order.specs.Places.{ordered_at}
use Rattle.hm_order.proofs.Best.{ordered_same}

-- ---- The first tags

-- a walk with the first i events in order
abbrev pub partly : Spelling → ℕ → List Event → List Event
partly g zero w = w
partly g (suc i) [] = []
partly g (suc i) (e ∷ w) = ordered_event g e (slice_get w 0) ∷ partly g i w

-- one event more
more_partly : (g : Spelling) (i : ℕ) (w : List Event) → i < length w → ordered_at g (partly g i w) i ≡ partly g (suc i) w
more_partly g i [] h = absurd (omega (arith, h))
more_partly g zero (e ∷ w) h = refl
more_partly g (suc i) (e ∷ w) h = ap (λ v. ordered_event g e (slice_get w 0) ∷ v) (more_partly g i w (omega (arith, h)))

pub partly_more : (g : Spelling) (i : ℕ) (w v u : List Event) → v ≡ partly g i w → i < length w → u ≡ ordered_at g v i → u ≡ partly g (i + 1) w
partly_more g i w v u is h put =
    let next : suc i ≡ i + 1 = omega arith in
    put ∙ ap (λ x. ordered_at g x i) is ∙ more_partly g i w h ∙ ap (λ n. partly g n w) next

pub length-partly : (g : Spelling) (i : ℕ) (w : List Event) → length (partly g i w) ≡ length w
length-partly g zero w = refl
length-partly g (suc i) [] = refl
length-partly g (suc i) (e ∷ w) = ap suc (length-partly g i w)

ends_first : (w : List Event) → is_end (slice_get w 0) ≡ begins_end w
ends_first [] = refl
ends_first (doctype legacy ∷ w) = refl
ends_first (start n foreign attributes ∷ w) = refl
ends_first (text s raw ∷ w) = refl
ends_first (comment s ∷ w) = refl
ends_first (end n foreign ∷ w) = refl

-- the whole walk
pub partly_all : (g : Spelling) (i : ℕ) (w : List Event) → length w ≤ i → partly g i w ≡ reordered g w
partly_all g zero [] past = refl
partly_all g (suc i) [] past = refl
partly_all g zero (e ∷ w) past = absurd (omega (arith, past))
partly_all g (suc i) (e ∷ w) past = by e (partly_all g i w (omega (arith, past)))
  where
    by : (e : Event) → partly g i w ≡ reordered g w → ordered_event g e (slice_get w 0) ∷ partly g i w ≡ reordered g (e ∷ w)
    by (doctype legacy) more = ap (λ v. doctype legacy ∷ v) more
    by (start n foreign attributes) more = ap₂ (λ c v. start n foreign (ordered g (foreign && c) attributes) ∷ v) (ends_first w) more
    by (text s raw) more = ap (λ v. text s raw ∷ v) more
    by (comment s) more = ap (λ v. comment s ∷ v) more
    by (end n foreign) more = ap (λ v. end n foreign ∷ v) more

-- ---- One tag

-- its attribute at a place goes last
tag_ordered : (g : Spelling) (w : List Event) (i at : ℕ) (n : List ℕ) (foreign closes : Bool) (attributes : List Attribute) → slice_get w i ≡ Some (start n foreign attributes) → closes ≡ (foreign && is_end (slice_get w (suc i)))
    → ordered g closes attributes ≡ moved at attributes → put_last w i at ≡ ordered_at g w i
tag_ordered g [] i at n foreign closes attributes there ends order = absurd (cc)
tag_ordered g (e ∷ w) zero at n foreign closes attributes there ends order =
    let is : e ≡ start n foreign attributes = cc in
    subst (λ x. put_last (x ∷ w) 0 at ≡ ordered_at g (x ∷ w) 0) (sym is) (ap (λ xs. start n foreign xs ∷ w) (sym order ∙ ap (λ c. ordered g c attributes) ends))
tag_ordered g (e ∷ w) (suc i) at n foreign closes attributes there ends order = ap (λ v. e ∷ v) (tag_ordered g w i at n foreign closes attributes there ends order)

pub tag_is_ordered : (g : Spelling) (w : List Event) (i at : ℕ) (n : List ℕ) (foreign closes : Bool) (attributes : List Attribute) → slice_get w i ≡ Some (start n foreign attributes) → closes ≡ (foreign && is_end (slice_get w (i + 1)))
    → ordered g closes attributes ≡ moved at attributes → put_last w i at ≡ ordered_at g w i
tag_is_ordered g w i at n foreign closes attributes there ends order =
    let next : i + 1 ≡ suc i = omega arith in
    tag_ordered g w i at n foreign closes attributes there (ends ∙ ap (λ k. foreign && is_end (slice_get w k)) next) order

few_stay : (g : Spelling) (closes : Bool) (attributes : List Attribute) → nat_lt 1 (length attributes) ≡ false → ordered g closes attributes ≡ attributes
few_stay g closes [] h = refl
few_stay g closes (a ∷ []) h = refl
few_stay g closes (a ∷ b ∷ attributes) h = absurd (let k : 1 < length (a ∷ b ∷ attributes) = omega arith in grind (arith, nat_tests, h, k))

stays : (g : Spelling) (w : List Event) (i : ℕ) (e : Event) → slice_get w i ≡ Some e → ((next : Option Event) → ordered_event g e next ≡ e) → ordered_at g w i ≡ w
stays g [] i e there same = absurd (cc)
stays g (x ∷ w) zero e there same = let is : x ≡ e = cc in subst (λ y. ordered_event g y (slice_get w 0) ∷ w ≡ y ∷ w) (sym is) (ap (λ y. y ∷ w) (same (slice_get w 0)))
stays g (x ∷ w) (suc i) e there same = ap (λ v. x ∷ v) (stays g w i e there same)

-- a tag with less than two attributes stays as it is
pub few_stay_so : (g : Spelling) (w : List Event) (i : ℕ) (n : List ℕ) (foreign : Bool) (attributes : List Attribute) → slice_get w i ≡ Some (start n foreign attributes) → length attributes ≤ 1 → ordered_at g w i ≡ w
few_stay_so g w i n foreign attributes there few =
    stays g w i (start n foreign attributes) there (λ next. ap (start n foreign) (few_stay g (foreign && is_end next) attributes (grind (arith, nat_tests, few))))

-- so does another event
pub other_view_stays : (g : Spelling) (w : List Event) (i : ℕ) (view : EventView) → slice_get w i ≡ Some (event_of view) → ((name : Bor (List ℕ)) (foreign : Bool) (attrs : AttrsView) → view ≡ Start name foreign attrs → ⊥) → ordered_at g w i ≡ w
other_view_stays g w i view there other = stays g w i (event_of view) there (by view other)
  where
    by : (view : EventView) → ((name : Bor (List ℕ)) (foreign : Bool) (attrs : AttrsView) → view ≡ Start name foreign attrs → ⊥) → (next : Option Event) → ordered_event g (event_of view) next ≡ event_of view
    by (Doctype legacy) other next = refl
    by (Start name foreign attrs) other next = absurd (other name foreign attrs refl)
    by (Text s raw) other next = refl
    by (Comment s) other next = refl
    by (End name foreign) other next = refl

-- ---- As many events and bytes

abbrev own_size : Attribute → ℕ
own_size a = length a.name + length a.value

size_is : (attributes : List Attribute) → attributes_size attributes ≡ sum_by own_size attributes
size_is [] = refl
size_is (a ∷ attributes) = ap (λ n. own_size a + n) (size_is attributes) ∙ sym (sum_by-cons own_size a attributes)

pub same_size : (xs ys : List Attribute) → IsPermutation xs ys → attributes_size ys ≡ attributes_size xs
same_size xs ys same = size_is ys ∙ sum_by-IsPermutation own_size xs ys same ∙ sym (size_is xs)

pub ordered_is_as_large : OrderedIsAsLarge
ordered_is_as_large g [] = (refl, refl)
ordered_is_as_large g (doctype legacy ∷ w) = let h = ordered_is_as_large g w in (ap suc h.0, ap (λ y. 0 + y) h.1)
ordered_is_as_large g (start n foreign attributes ∷ w) =
    let h = ordered_is_as_large g w in
    let size = same_size attributes (ordered g (foreign && begins_end w) attributes) (ordered_same g (foreign && begins_end w) attributes) in
    (ap suc h.0, ap₂ (λ x y. length n + x + y) size h.1)
ordered_is_as_large g (text s raw ∷ w) = let h = ordered_is_as_large g w in (ap suc h.0, ap (λ y. length s + y) h.1)
ordered_is_as_large g (comment s ∷ w) = let h = ordered_is_as_large g w in (ap suc h.0, ap (λ y. length s + y) h.1)
ordered_is_as_large g (end n foreign ∷ w) = let h = ordered_is_as_large g w in (ap suc h.0, ap (λ y. 0 + y) h.1)
