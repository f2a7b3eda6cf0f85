-- Places of the names that a code point begins.
use Rattle.std.proofs.Common.{◌≡◌, ℕ, Vec, zero, suc, ◌+◌, ◌<◌, ◌≤◌, Bool, true, false, cond, ◌&&◌, ◌==◌, ◌-◌, drop, Option, Some, None, not, List, [], ◌∷◌, ◌++◌, length, get_or, take, refl, sym, ap, ◌∙◌, arith, count_by, All, zero-add, append-nil, append_assoc, add-zero}
use Rattle.std.proofs.lemmas.Bool.Decides.{nat_tests}
use Rattle.std.proofs.lemmas.List.Sums.{sum_by-cons}
use Rattle.std.proofs.lemmas.List.{take_more, at_drop_more, length-map, get_or-map, length-take-le, length_push, get_or_at}
use Rattle.std.specs.Ordering.{nat_cmp}
use Rattle.std.specs.Option.{option_map_or}
use Rattle.std.specs.Bool.{then_some}
use Rattle.std.specs.BTreeMap.{BTreeMap, get}
use Rattle.std.specs.declared.alloc.Global.{Global}
use Rattle.hm_refs.specs.Names.{Entry, is_closed}
use Rattle.hm_refs.specs.Tables.{is_for, is_open_for, places_from, places_for, no_entry}
use Rattle.hm_refs.specs.Json.{is_crowded, if_crowded, lesser, least_crowded}
use Rattle.hm_refs.specs.Nodes.{entry_of, entries_of}
use Rattle.hm_refs.specs.Firsts.{IsIndex, is_open_at, are_many}
use Rattle.hm_refs.specs.declared.nodes.ReferenceName.{ReferenceName}

abbrev if_for : Bool → ℕ → List ℕ
if_for true i = i ∷ []
if_for false i = []

places_push : (c i : ℕ) (t : List Entry) (e : Entry) → places_from c i (t ++ e ∷ []) ≡ places_from c i t ++ if_for (is_for c e) (i + length t)
places_push c i [] e = by_test (is_for c e)
  where
    by_test : (b : Bool) → cond b (i ∷ []) [] ≡ if_for b (i + 0)
    by_test true = ap (λ n. n ∷ []) (sym (add-zero i))
    by_test false = refl
places_push c i (x ∷ t) e = by_test (is_for c x) (places_push c (suc i) t e)
  where
    by_test : (b : Bool) → places_from c (suc i) (t ++ e ∷ []) ≡ places_from c (suc i) t ++ if_for (is_for c e) (suc i + length t)
        → cond b (i ∷ places_from c (suc i) (t ++ e ∷ [])) (places_from c (suc i) (t ++ e ∷ [])) ≡ cond b (i ∷ places_from c (suc i) t) (places_from c (suc i) t) ++ if_for (is_for c e) (i + suc (length t))
    by_test true h = let n : suc i + length t ≡ i + suc (length t) = omega arith in rw (h, n) refl
    by_test false h = let n : suc i + length t ≡ i + suc (length t) = omega arith in rw (h, n) refl

-- one name more
pub places_next : (c : ℕ) (ns : List ReferenceName) (i : ℕ) (x : ReferenceName) → i < length ns → x ≡ get_or ns i x
    → places_for c (take (i + 1) (entries_of ns)) ≡ cond (x.points.first == c) (places_for c (take i (entries_of ns)) ++ i ∷ []) (places_for c (take i (entries_of ns)))
unfolding places_for
places_next c ns i x l e =
    let m : i < length (entries_of ns) = omega (arith, length-map ns entry_of) in
    let n : length (take i (entries_of ns)) ≡ i = length-take-le i (entries_of ns) (omega arith) in
    let g : get_or (entries_of ns) i (entry_of x) ≡ entry_of x = get_or-map entry_of ns i x (entry_of x) l ∙ ap entry_of (sym e) in
    let t = take_more (entries_of ns) i (entry_of x) m in
    let k : 0 + length (take i (entries_of ns)) ≡ i = omega (arith, n) in
    rw (t, g, places_push c 0 (take i (entries_of ns)) (entry_of x), k) (by_test (x.points.first == c))
  where
    by_test : (b : Bool) → places_from c 0 (take i (entries_of ns)) ++ if_for b i ≡ cond b (places_from c 0 (take i (entries_of ns)) ++ i ∷ []) (places_from c 0 (take i (entries_of ns)))
    by_test true = refl
    by_test false = append-nil (places_from c 0 (take i (entries_of ns)))

pub no_places : (c : ℕ) → places_for c [] ≡ []
unfolding places_for
no_places c = refl

-- ---- how many names a code point begins

pub count_cons : {X : Type 0} (p : X → Bool) (x : X) (xs : List X) → count_by p (x ∷ xs) ≡ cond (p x) 1 0 + count_by p xs
count_cons p x xs = sum_by-cons (λ y. cond (p y) 1 0) x xs

count_places : (c i : ℕ) (t : List Entry) → count_by (is_for c) t ≡ length (places_from c i t)
count_places c i [] = refl
count_places c i (e ∷ t) = count_cons (is_for c) e t ∙ by_test (is_for c e) (count_places c (suc i) t)
  where
    by_test : (b : Bool) → count_by (is_for c) t ≡ length (places_from c (suc i) t) → cond b 1 0 + count_by (is_for c) t ≡ length (cond b (i ∷ places_from c (suc i) t) (places_from c (suc i) t))
    by_test true h = omega (arith, h)
    by_test false h = omega (arith, h)

pub count_for : (c : ℕ) (t : List Entry) → count_by (is_for c) t ≡ length (places_for c t)
unfolding places_for
count_for c t = count_places c 0 t

count_open_places : (c : ℕ) (before t : List Entry) → count_by (is_open_for c) t ≡ count_by (is_open_at (before ++ t)) (places_from c (length before) t)
count_open_places c before [] = refl
count_open_places c before (e ∷ t) =
    let s : (before ++ e ∷ []) ++ t ≡ before ++ e ∷ t = append_assoc before (e ∷ []) t in
    let n : length (before ++ e ∷ []) ≡ suc (length before) = omega (arith, length_push before e) in
    let h : count_by (is_open_for c) t ≡ count_by (is_open_at (before ++ e ∷ t)) (places_from c (suc (length before)) t) = rw (sym s, sym n) (count_open_places c (before ++ e ∷ []) t) in
    count_cons (is_open_for c) e t ∙ by_test (is_for c e) h
  where
    here : is_open_at (before ++ e ∷ t) (length before) ≡ not (is_closed e.name)
    here = ap (λ (x : Entry). not (is_closed x.name)) (get_or_at before e t no_entry (length before) refl)

    by_test : (b : Bool) → count_by (is_open_for c) t ≡ count_by (is_open_at (before ++ e ∷ t)) (places_from c (suc (length before)) t)
        → cond (b && not (is_closed e.name)) 1 0 + count_by (is_open_for c) t
        ≡ count_by (is_open_at (before ++ e ∷ t)) (cond b (length before ∷ places_from c (suc (length before)) t) (places_from c (suc (length before)) t))
    by_test true h = rw h (ap (λ o. cond o 1 0 + count_by (is_open_at (before ++ e ∷ t)) (places_from c (suc (length before)) t)) (sym here) ∙ sym (count_cons (is_open_at (before ++ e ∷ t)) (length before) (places_from c (suc (length before)) t)))
    by_test false h = rw h (zero-add (count_by (is_open_at (before ++ e ∷ t)) (places_from c (suc (length before)) t)))

pub count_open_for : (c : ℕ) (t : List Entry) → count_by (is_open_for c) t ≡ count_by (is_open_at t) (places_for c t)
unfolding places_for
count_open_for c t = count_open_places c [] t

pub crowded_is : (c : ℕ) (t : List Entry) (ids : List ℕ) → ids ≡ places_for c t → is_crowded t c ≡ are_many t ids
crowded_is c t ids e = rw (e, count_for c t, count_open_for c t) refl

places_inside : (c n i : ℕ) (t : List Entry) → i + length t ≡ n → (k : ℕ) (d : ℕ) → k < length (places_from c i t) → get_or (places_from c i t) k d < n
places_inside c n i [] e k d l = absurd (omega arith)
places_inside c n i (x ∷ t) e k d l = by_test (is_for c x) k l (λ j m. places_inside c n (suc i) t (omega arith) j d m)
  where
    by_test : (b : Bool) (k : ℕ) → k < length (cond b (i ∷ places_from c (suc i) t) (places_from c (suc i) t)) → ((j : ℕ) → j < length (places_from c (suc i) t) → get_or (places_from c (suc i) t) j d < n)
        → get_or (cond b (i ∷ places_from c (suc i) t) (places_from c (suc i) t)) k d < n
    by_test true zero l more = omega arith
    by_test true (suc k) l more = more k (omega arith)
    by_test false k l more = more k l

pub places_are_inside : (c : ℕ) (t : List Entry) (n : ℕ) (ids : List ℕ) → length t ≡ n → ids ≡ places_for c t → All (λ i. i < n) ids
unfolding places_for
places_are_inside c t n ids e h = λ k d l. rw h (places_inside c n 0 t (omega arith) k d (omega (arith, ap length h)))

-- ---- the last byte

pub closed_last : (s : List ℕ) → 1 ≤ length s → (get_or s (length s - 1) 0 == 59) ≡ is_closed s
closed_last [] l = absurd (omega arith)
closed_last (c ∷ []) l = grind (arith, nat_tests)
closed_last (c ∷ d ∷ s) l = let e : length (c ∷ d ∷ s) - 1 ≡ suc (length (d ∷ s) - 1) = omega arith in rw e (closed_last (d ∷ s) (omega arith))

-- ---- the least of crowded points

lesser_min : (a b c : Option ℕ) → lesser (lesser a b) c ≡ lesser a (lesser b c)
lesser_min None b c = refl
lesser_min (Some x) None c = refl
lesser_min (Some x) (Some y) None = refl
lesser_min (Some x) (Some y) (Some z) = ap Some (omega arith)

-- one name more is looked at
pub least_next : (t : List Entry) (ns : List ReferenceName) (i : ℕ) (x : ReferenceName) (least found : Option ℕ) → i < length ns → x ≡ get_or ns i x → found ≡ if_crowded t (x.points.first ∷ [])
    → lesser (lesser least found) (least_crowded t (drop (i + 1) (entries_of ns))) ≡ lesser least (least_crowded t (drop i (entries_of ns)))
least_next t ns i x least found l e f =
    let m : i < length (entries_of ns) = omega (arith, length-map ns entry_of) in
    let g : get_or (entries_of ns) i (entry_of x) ≡ entry_of x = get_or-map entry_of ns i x (entry_of x) l ∙ ap entry_of (sym e) in
    let d : least_crowded t (drop i (entries_of ns)) ≡ lesser (if_crowded t (entry_of x).points) (least_crowded t (drop (i + 1) (entries_of ns))) =
    at_drop_more (least_crowded t) (entries_of ns) i (entry_of x) m ∙ ap (λ (y : Entry). lesser (if_crowded t y.points) (least_crowded t (drop (i + 1) (entries_of ns)))) g in
    lesser_min least found (least_crowded t (drop (i + 1) (entries_of ns))) ∙ ap (λ o. lesser least (lesser o (least_crowded t (drop (i + 1) (entries_of ns))))) f ∙ ap (lesser least) (sym d)

-- ---- the map

pub index_some : (t : List Entry) (m : BTreeMap ℕ (Vec ℕ Global)) (c : ℕ) (v : Vec ℕ Global) → IsIndex t m → Some v ≡ get nat_cmp m c → v.items ≡ places_for c t
index_some t m c v h e = ap (λ o. option_map_or (λ (w : Vec ℕ Global). w.items) o []) e ∙ h c

pub index_none : (t : List Entry) (m : BTreeMap ℕ (Vec ℕ Global)) (c : ℕ) → IsIndex t m → None ≡ get nat_cmp m c → [] ≡ places_for c t
index_none t m c h e = ap (λ o. option_map_or (λ (w : Vec ℕ Global). w.items) o []) e ∙ h c

pub crowded_some : (t : List Entry) (m : BTreeMap ℕ (Vec ℕ Global)) (c : ℕ) (v : Vec ℕ Global) (ids : List ℕ) (b : Bool) → IsIndex t m → Some v ≡ get nat_cmp m c → ids ≡ v.items → b ≡ are_many t ids → then_some b c ≡ if_crowded t (c ∷ [])
crowded_some t m c v ids b h e i j = by_test b (is_crowded t c) (j ∙ sym (crowded_is c t ids (i ∙ index_some t m c v h e)))
  where
    by_test : (b d : Bool) → b ≡ d → then_some b c ≡ cond d (Some c) None
    by_test true true k = refl
    by_test true false k = absurd (cc)
    by_test false true k = absurd (cc)
    by_test false false k = refl

pub crowded_none : (t : List Entry) (m : BTreeMap ℕ (Vec ℕ Global)) (c : ℕ) → IsIndex t m → None ≡ get nat_cmp m c → None ≡ if_crowded t (c ∷ [])
crowded_none t m c h e = rw (crowded_is c t [] (index_none t m c h e)) refl
