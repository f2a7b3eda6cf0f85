-- Where two walks differ first.
use Rattle.std.proofs.Common.{◌≡◌, ◌≢◌, ℕ, zero, suc, Bool, true, false, ◌&&◌, List, [], ◌∷◌, take, Option, Some, None, cond, refl, ap, subst}
use Rattle.std.specs.Option.{option_map}
use Rattle.std.specs.Str.{bytes_eq}
use Rattle.hm_base.specs.Walks.{Attribute, Event, doctype, start, text, comment, end, same_flag}
use Rattle.hm_elements.proofs.Events.{same_is, is_same}
use Rattle.hm_elements.proofs.TableTools.{eq_self, same_bytes}
use Rattle.hm_tree.specs.Trees.{DifferFirstAt}
use Rattle.hm_check.specs.Differences.{same_attributes, same_event, first_difference}

both_parts : (a b : Bool) → (a && b) ≡ true → (a ≡ true) × (b ≡ true)
both_parts true b h = (refl, h)
both_parts false b h = absurd (cc)

-- ---- Events

attributes_same : (attributes : List Attribute) → same_attributes attributes attributes ≡ true
attributes_same [] = refl
attributes_same (a ∷ attributes) = rw (eq_self a.name, eq_self a.value) (attributes_same attributes)

attributes_are : (attributes others : List Attribute) → same_attributes attributes others ≡ true → attributes ≡ others
attributes_are [] [] h = refl
attributes_are [] (b ∷ others) h = absurd (cc)
attributes_are (a ∷ attributes) [] h = absurd (cc)
attributes_are (a ∷ attributes) (b ∷ others) h =
    let p = both_parts (bytes_eq a.name b.name) (bytes_eq a.value b.value && same_attributes attributes others) h in
    let q = both_parts (bytes_eq a.value b.value) (same_attributes attributes others) p.1 in
    λ i. record { name = same_bytes a.name b.name p.0 i; value = same_bytes a.value b.value q.0 i } ∷ attributes_are attributes others q.1 i

pub event_same : (e : Event) → same_event e e ≡ true
event_same (doctype a) = is_same a a refl
event_same (start n foreign attributes) = rw (eq_self n, is_same foreign foreign refl) (attributes_same attributes)
event_same (text s raw) = rw (eq_self s) (is_same raw raw refl)
event_same (comment s) = eq_self s
event_same (end n foreign) = rw (eq_self n) (is_same foreign foreign refl)

pub event_is : (e f : Event) → same_event e f ≡ true → e ≡ f
event_is (doctype a) (doctype b) h = ap doctype (same_is a b h)
event_is (doctype a) (start m svg others) h = absurd (cc)
event_is (doctype a) (text u as_is) h = absurd (cc)
event_is (doctype a) (comment u) h = absurd (cc)
event_is (doctype a) (end m svg) h = absurd (cc)
event_is (start n foreign attributes) (doctype b) h = absurd (cc)
event_is (start n foreign attributes) (start m svg others) h =
    let p = both_parts (bytes_eq n m) (same_flag foreign svg && same_attributes attributes others) h in
    let q = both_parts (same_flag foreign svg) (same_attributes attributes others) p.1 in
    λ i. start (same_bytes n m p.0 i) (same_is foreign svg q.0 i) (attributes_are attributes others q.1 i)
event_is (start n foreign attributes) (text u as_is) h = absurd (cc)
event_is (start n foreign attributes) (comment u) h = absurd (cc)
event_is (start n foreign attributes) (end m svg) h = absurd (cc)
event_is (text s raw) (doctype b) h = absurd (cc)
event_is (text s raw) (start m svg others) h = absurd (cc)
event_is (text s raw) (text u as_is) h = let p = both_parts (bytes_eq s u) (same_flag raw as_is) h in λ i. text (same_bytes s u p.0 i) (same_is raw as_is p.1 i)
event_is (text s raw) (comment u) h = absurd (cc)
event_is (text s raw) (end m svg) h = absurd (cc)
event_is (comment s) (doctype b) h = absurd (cc)
event_is (comment s) (start m svg others) h = absurd (cc)
event_is (comment s) (text u as_is) h = absurd (cc)
event_is (comment s) (comment u) h = ap comment (same_bytes s u h)
event_is (comment s) (end m svg) h = absurd (cc)
event_is (end n foreign) (doctype b) h = absurd (cc)
event_is (end n foreign) (start m svg others) h = absurd (cc)
event_is (end n foreign) (text u as_is) h = absurd (cc)
event_is (end n foreign) (comment u) h = absurd (cc)
event_is (end n foreign) (end m svg) h = let p = both_parts (bytes_eq n m) (same_flag foreign svg) h in λ i. end (same_bytes n m p.0 i) (same_is foreign svg p.1 i)

event_other : (e f : Event) → e ≢ f → same_event e f ≡ false
event_other e f h = by_test (same_event e f) refl
  where
    by_test : (b : Bool) → same_event e f ≡ b → b ≡ false
    by_test true is = absurd (h (event_is e f is))
    by_test false is = refl

-- ---- Walks

-- a walk doesn't differ from itself
pub no_difference : (w : List Event) → first_difference w w ≡ None
no_difference [] = refl
no_difference (e ∷ w) = rw (event_same e, no_difference w) refl

-- walks that don't differ are the same
pub walks_same : (w v : List Event) → first_difference w v ≡ None → w ≡ v
walks_same [] [] h = refl
walks_same [] (f ∷ v) h = absurd (cc)
walks_same (e ∷ w) [] h = absurd (cc)
walks_same (e ∷ w) (f ∷ v) h = by_test (same_event e f) refl (λ k. walks_same w v k) h
  where
    by_rest : (p : Option ℕ) → option_map (λ i. suc i) p ≡ None → p ≡ None
    by_rest None k = refl
    by_rest (Some i) k = absurd (cc)

    by_test : (b : Bool) → same_event e f ≡ b → (first_difference w v ≡ None → w ≡ v) → cond b (option_map (λ i. suc i) (first_difference w v)) (Some 0) ≡ None → e ∷ w ≡ f ∷ v
    by_test true is more k = λ i. event_is e f is i ∷ more (by_rest (first_difference w v) k) i
    by_test false is more k = absurd (cc)

-- the first difference is where everything before is the same
pub difference_at : (w v : List Event) (i : ℕ) → DifferFirstAt w v i → first_difference w v ≡ Some i
difference_at [] [] i h = absurd (h.differ refl)
difference_at [] (f ∷ v) zero h = refl
difference_at [] (f ∷ v) (suc i) h = let same = h.same_before in absurd (cc)
difference_at (e ∷ w) [] zero h = refl
difference_at (e ∷ w) [] (suc i) h = let same = h.same_before in absurd (cc)
difference_at (e ∷ w) (f ∷ v) zero h = rw (event_other e f (λ k. h.differ (ap Some k))) refl
difference_at (e ∷ w) (f ∷ v) (suc i) h =
    let before : e ∷ take i w ≡ f ∷ take i v = h.same_before in
    let head : e ≡ f = cc in
    let tail : take i w ≡ take i v = cc in
    let same : same_event e f ≡ true = subst (λ x. same_event e x ≡ true) head (event_same e) in
    let more : first_difference w v ≡ Some i = difference_at w v i (record { same_before = tail; differ = h.differ }) in
    rw (same, more) refl
