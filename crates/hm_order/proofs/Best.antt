-- No order of the attributes of a tag costs less.
use Rattle.std.proofs.Common.{◌≡◌, ◌+◌, ◌≤◌, ℕ, Bool, true, false, nat_le, List, [], ◌∷◌, ◌++◌, Some, refl, sym, ap, ap₂, ◌∙◌, subst, arith}
use Rattle.std.specs.Prelude.{IsPermutation, sum_by}
use Rattle.std.proofs.lemmas.Bool.Decides.{nat_tests}
use Rattle.std.proofs.lemmas.List.Elements.{All-nil, All-cons, All-weaker, All-head, All-tail}
use Rattle.std.proofs.lemmas.List.Sums.{sum_by-cons, sum_by-append}
use Rattle.std.proofs.lemmas.List.Sorted.{sum_by-IsPermutation, All-permutation, IsPermutation-refl, IsPermutation-sym, IsPermutation-cons, IsPermutation-to_front}
use Rattle.std.specs.Prelude.{All}
use Rattle.hm_base.specs.Walks.{Attribute}
use Rattle.hm_spelling_spec.specs.Tags.{Spelling}
use Rattle.hm_order.specs.Costs.{plus, inner_cost, last_cost, attributes_cost}
use Rattle.hm_order.specs.Orders.{is_at_most, is_better_last, Picked, chosen, picked, ordered}

-- what attributes cost, as numbers
pub record AreNumbers (g : Spelling) (closes : Bool) (inner last : Attribute → ℕ) : Type 0 where
  pub inner_is : (a : Attribute) → inner_cost g a ≡ Some (inner a)
  pub last_is : (a : Attribute) → last_cost g closes a ≡ Some (last a)

abbrev pub total : (Attribute → ℕ) → (Attribute → ℕ) → List Attribute → ℕ
total i l [] = 0
total i l (a ∷ []) = l a
total i l (a ∷ b ∷ xs) = i a + total i l (b ∷ xs)

total_snoc : (i l : Attribute → ℕ) (xs : List Attribute) (x : Attribute) → total i l (xs ++ x ∷ []) ≡ sum_by i xs + l x
total_snoc i l [] x = omega arith
total_snoc i l (y ∷ []) x = omega arith
total_snoc i l (y ∷ z ∷ xs) x = let h = total_snoc i l (z ∷ xs) x in let k = sum_by-cons i y (z ∷ xs) in omega (arith, h, k)

pub cost_is : (g : Spelling) (closes : Bool) (i l : Attribute → ℕ) → AreNumbers g closes i l → (xs : List Attribute) (a : Attribute) → attributes_cost g closes a xs ≡ Some (total i l (a ∷ xs))
cost_is g closes i l k [] a = k.last_is a
cost_is g closes i l k (b ∷ xs) a = ap₂ plus (k.inner_is a) (cost_is g closes i l k xs b)

-- ---- The one that is picked

abbrev pub NoBetter : (Attribute → ℕ) → (Attribute → ℕ) → Attribute → Attribute → Type 0
NoBetter i l a c = l a + i c ≤ l c + i a

pub record IsBestLast (i l : Attribute → ℕ) (all : List Attribute) (p : Picked) : Type 0 where
  pub whole : sum_by i all ≡ sum_by i p.others + i p.last
  pub best : All (NoBetter i l p.last) all
  pub same : IsPermutation all (p.others ++ p.last ∷ [])

better_is : (g : Spelling) (closes : Bool) (i l : Attribute → ℕ) → AreNumbers g closes i l → (a b : Attribute) → is_better_last g closes a b ≡ nat_le (l a + i b) (l b + i a)
better_is g closes i l k a b = (λ j. is_at_most (plus (k.last_is a j) (k.inner_is b j)) (plus (k.last_is b j) (k.inner_is a j)))

at_most_by : (a b : ℕ) → nat_le a b ≡ true → a ≤ b
at_most_by a b h = grind (arith, nat_tests)

above_by : (a b : ℕ) → nat_le a b ≡ false → b ≤ a
above_by a b h = grind (arith, nat_tests)

pub pick_is_best : (g : Spelling) (closes : Bool) (i l : Attribute → ℕ) → AreNumbers g closes i l → (xs : List Attribute) (a : Attribute) → IsBestLast i l (a ∷ xs) (picked g closes a xs)
pick_is_best g closes i l k [] a = record { whole = omega arith; best = All-cons (NoBetter i l a) a [] (omega arith) (All-nil (NoBetter i l a)); same = IsPermutation-refl (a ∷ []) }
pick_is_best g closes i l k (b ∷ xs) a = by (is_better_last g closes a p.last) refl (pick_is_best g closes i l k xs b)
  where
    p : Picked
    p = picked g closes b xs

    by : (t : Bool) → is_better_last g closes a p.last ≡ t → IsBestLast i l (b ∷ xs) p → IsBestLast i l (a ∷ b ∷ xs) (chosen t a (b ∷ xs) p)
    by true e m =
        let h : l a + i p.last ≤ l p.last + i a = at_most_by _ _ (sym (better_is g closes i l k a p.last) ∙ e) in
        let w = sum_by-cons i a (b ∷ xs) in
        record {
          whole = omega (arith, w);
          best = All-cons (NoBetter i l a) a (b ∷ xs) (omega arith) (All-weaker (NoBetter i l p.last) (NoBetter i l a) (λ c q. omega (arith, q, h)) (b ∷ xs) m.best);
          same = IsPermutation-sym ((b ∷ xs) ++ a ∷ []) (a ∷ b ∷ xs) (IsPermutation-to_front (b ∷ xs) a);
        }
    by false e m =
        let h : l p.last + i a ≤ l a + i p.last = above_by _ _ (sym (better_is g closes i l k a p.last) ∙ e) in
        let w = m.whole in
        let x = sum_by-cons i a (b ∷ xs) in
        let y = sum_by-cons i a p.others in
        record {
          whole = omega (arith, w, x, y);
          best = All-cons (NoBetter i l p.last) a (b ∷ xs) h m.best;
          same = IsPermutation-cons a (b ∷ xs) (p.others ++ p.last ∷ []) m.same;
        }

-- whatever is chosen, the attributes are the same
picked_same : (g : Spelling) (closes : Bool) (xs : List Attribute) (a : Attribute) → IsPermutation (a ∷ xs) ((picked g closes a xs).others ++ (picked g closes a xs).last ∷ [])
picked_same g closes [] a = IsPermutation-refl (a ∷ [])
picked_same g closes (b ∷ xs) a = by (is_better_last g closes a (picked g closes b xs).last) (picked_same g closes xs b)
  where
    by : (t : Bool) → IsPermutation (b ∷ xs) ((picked g closes b xs).others ++ (picked g closes b xs).last ∷ []) → IsPermutation (a ∷ b ∷ xs) ((chosen t a (b ∷ xs) (picked g closes b xs)).others ++ (chosen t a (b ∷ xs) (picked g closes b xs)).last ∷ [])
    by true h = IsPermutation-sym ((b ∷ xs) ++ a ∷ []) (a ∷ b ∷ xs) (IsPermutation-to_front (b ∷ xs) a)
    by false h = IsPermutation-cons a (b ∷ xs) ((picked g closes b xs).others ++ (picked g closes b xs).last ∷ []) h

pub ordered_same : (g : Spelling) (closes : Bool) (xs : List Attribute) → IsPermutation xs (ordered g closes xs)
ordered_same g closes [] = IsPermutation-refl []
ordered_same g closes (a ∷ xs) = picked_same g closes xs a

-- ---- No other order costs less

-- a list that isn't empty has a last one
record Snoc (all : List Attribute) : Type 0 where
  others : List Attribute
  last : Attribute
  is : all ≡ others ++ last ∷ []

snoc : (xs : List Attribute) (a : Attribute) → Snoc (a ∷ xs)
snoc [] a = record { others = []; last = a; is = refl }
snoc (b ∷ xs) a = let s = snoc xs b in record { others = a ∷ s.others; last = s.last; is = ap (λ x. a ∷ x) s.is }

all_last : (P : Attribute → Type 0) (xs : List Attribute) (a : Attribute) → All P (xs ++ a ∷ []) → P a
all_last P [] a h = All-head P a [] h
all_last P (x ∷ xs) a h = all_last P xs a (All-tail P x (xs ++ a ∷ []) h)

pub picked_costs_least : (g : Spelling) (closes : Bool) (i l : Attribute → ℕ) → AreNumbers g closes i l → (a b : Attribute) (xs ys : List Attribute) → IsPermutation (a ∷ xs) (b ∷ ys) → total i l (ordered g closes (a ∷ xs)) ≤ total i l (b ∷ ys)
picked_costs_least g closes i l k a b xs ys same =
    let p : Picked = picked g closes a xs in
    let m = pick_is_best g closes i l k xs a in
    let s = snoc ys b in
    let best = all_last (NoBetter i l p.last) s.others s.last (subst (All (NoBetter i l p.last)) s.is (All-permutation (NoBetter i l p.last) (a ∷ xs) (b ∷ ys) same m.best)) in
    let first = total_snoc i l p.others p.last in
    let other : total i l (b ∷ ys) ≡ sum_by i s.others + l s.last = ap (total i l) s.is ∙ total_snoc i l s.others s.last in
    let whole = m.whole in
    let sums = sum_by-IsPermutation i (a ∷ xs) (b ∷ ys) same in
    let split : sum_by i (b ∷ ys) ≡ sum_by i s.others + i s.last = ap (sum_by i) s.is ∙ sum_by-append i s.others (s.last ∷ []) ∙ ap (λ n. sum_by i s.others + n) (omega arith) in
    omega (arith, best, first, other, whole, sums, split)
