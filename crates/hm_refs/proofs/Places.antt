-- The place of a list among lists.
use Rattle.std.proofs.Common.{◌≡◌, ℕ, zero, suc, ◌<◌, ◌≤◌, ◌⊎◌, inl, inr, Bool, true, false, cond, List, [], ◌∷◌, ◌++◌, length, get_or, take, Option, Some, None, option_map, refl, sym, ap, ◌∙◌, subst, arith, bytes_eq, is_some}
use Rattle.std.proofs.lemmas.Bool.{cases_lt}
use Rattle.std.proofs.lemmas.List.{get_or-take, length-take-le, get_or_append_left, get_or_push, length_push}
use Rattle.std.proofs.lemmas.Slice.Eq.{bytes_eq-Decides}
use Rattle.hm_refs.specs.Nodes.{place, AreApart}

pub same_bytes : (q : List ℕ) → bytes_eq q q ≡ true
same_bytes q = (bytes_eq-Decides q q).1 refl

pub other_bytes : (p q : List ℕ) → (p ≡ q → ⊥) → bytes_eq p q ≡ false
other_bytes p q h = by_test (bytes_eq p q) refl
  where
    by_test : (b : Bool) → bytes_eq p q ≡ b → b ≡ false
    by_test true e = absurd (h ((bytes_eq-Decides p q).0 e))
    by_test false e = refl

-- what stands at a place that was found
pub record StandsAt (q : List ℕ) (fs : List (List ℕ)) (n : ℕ) : Type 0 where
  pub inside : n < length fs
  pub is : get_or fs n [] ≡ q

stands_later : (f q : List ℕ) (fs : List (List ℕ)) (n : ℕ) → StandsAt q fs n → StandsAt q (f ∷ fs) (suc n)
stands_later f q fs n s = record { inside = omega (arith, s.inside); is = s.is }

stands_here : (f q : List ℕ) (fs : List (List ℕ)) (n : ℕ) → f ≡ q → 0 ≡ n → StandsAt q (f ∷ fs) n
stands_here f q fs n i e = subst (λ m. StandsAt q (f ∷ fs) m) e (record { inside = omega arith; is = i })

stands_after : (f q : List ℕ) (fs : List (List ℕ)) (n : ℕ) (o : Option ℕ) → ((m : ℕ) → o ≡ Some m → StandsAt q fs m) → option_map suc o ≡ Some n → StandsAt q (f ∷ fs) n
stands_after f q fs n None more k = absurd (cc)
stands_after f q fs n (Some m) more k = let i : suc m ≡ n = cc in subst (λ l. StandsAt q (f ∷ fs) l) i (stands_later f q fs m (more m refl))

pub place_stands : (q : List ℕ) (fs : List (List ℕ)) (n : ℕ) → place q fs ≡ Some n → StandsAt q fs n
place_stands q [] n h = absurd (cc)
place_stands q (f ∷ fs) n h = by_test (bytes_eq f q) refl (λ m e. place_stands q fs m e) h
  where
    by_test : (b : Bool) → bytes_eq f q ≡ b → ((m : ℕ) → place q fs ≡ Some m → StandsAt q fs m) → cond b (Some 0) (option_map suc (place q fs)) ≡ Some n → StandsAt q (f ∷ fs) n
    by_test true e more k = stands_here f q fs n ((bytes_eq-Decides f q).0 e) (cc)
    by_test false e more k = stands_after f q fs n (place q fs) more k

-- what stands somewhere has a place
pub place_some : (q : List ℕ) (fs : List (List ℕ)) (n : ℕ) → n < length fs → get_or fs n [] ≡ q → is_some (place q fs) ≡ true
place_some q [] n l h = absurd (omega arith)
place_some q (f ∷ fs) zero l h = rw (h, same_bytes q) refl
place_some q (f ∷ fs) (suc n) l h = by_test (bytes_eq f q) (place q fs) (place_some q fs n (omega arith) h)
  where
    by_test : (b : Bool) (o : Option ℕ) → is_some o ≡ true → is_some (cond b (Some 0) (option_map suc o)) ≡ true
    by_test true o e = refl
    by_test false None e = e
    by_test false (Some m) e = refl

-- ---- one more

abbrev pub if_so : Bool → ℕ → Option ℕ
if_so true l = Some l
if_so false l = None

abbrev pub place_or : Option ℕ → Bool → ℕ → Option ℕ
place_or (Some n) b l = Some n
place_or None b l = if_so b l

pub place_push : (q p : List ℕ) (fs : List (List ℕ)) → place q (fs ++ p ∷ []) ≡ place_or (place q fs) (bytes_eq p q) (length fs)
place_push q p [] = by_test (bytes_eq p q)
  where
    by_test : (b : Bool) → cond b (Some 0) None ≡ if_so b 0
    by_test true = refl
    by_test false = refl
place_push q p (f ∷ fs) = rw (place_push q p fs) (by_test (bytes_eq f q) (place q fs) (bytes_eq p q))
  where
    by_test : (a : Bool) (o : Option ℕ) (b : Bool) → cond a (Some 0) (option_map suc (place_or o b (length fs))) ≡ place_or (cond a (Some 0) (option_map suc o)) b (suc (length fs))
    by_test true o b = refl
    by_test false (Some n) b = refl
    by_test false None true = refl
    by_test false None false = refl

-- where it was, it stays
pub place_stays : (q p : List ℕ) (fs : List (List ℕ)) (n : ℕ) → place q fs ≡ Some n → place q (fs ++ p ∷ []) ≡ Some n
place_stays q p fs n h = rw (place_push q p fs, h) refl

pub place_other : (q p : List ℕ) (fs : List (List ℕ)) → (p ≡ q → ⊥) → place q (fs ++ p ∷ []) ≡ place q fs
place_other q p fs h = rw (place_push q p fs, other_bytes p q h) (by_place (place q fs))
  where
    by_place : (o : Option ℕ) → place_or o false (length fs) ≡ o
    by_place None = refl
    by_place (Some n) = refl

pub place_last : (p : List ℕ) (fs : List (List ℕ)) → place p fs ≡ None → place p (fs ++ p ∷ []) ≡ Some (length fs)
place_last p fs h = rw (place_push p p fs, h, same_bytes p) refl

-- ---- lists that differ from each other

pub apart_push : (fs : List (List ℕ)) (p : List ℕ) → AreApart fs → place p fs ≡ None → AreApart (fs ++ p ∷ [])
apart_push fs p a h n l = by_order (cases_lt n (length fs))
  where
    by_order : (n < length fs) ⊎ (length fs ≤ n) → place (get_or (fs ++ p ∷ []) n []) (fs ++ p ∷ []) ≡ Some n
    by_order (inl k) = rw (get_or_append_left fs (p ∷ []) [] n k) (place_stays (get_or fs n []) p fs n (a n k))
    by_order (inr k) =
        let e : length fs ≡ n = omega (arith, length_push fs p) in
        rw (get_or_push fs p [] n e) (place_last p fs h ∙ ap Some e)

-- the same list stands in one place
pub apart_same : (fs : List (List ℕ)) → AreApart fs → (m n : ℕ) → m < length fs → n < length fs → get_or fs m [] ≡ get_or fs n [] → m ≡ n
apart_same fs a m n l k e = let p = a m l in let q = a n k in let r : place (get_or fs n []) fs ≡ Some m = rw e at p in cc

-- and it isn't among those before it
pub apart_before : (fs : List (List ℕ)) → AreApart fs → (k : ℕ) → k < length fs → place (get_or fs k []) (take k fs) ≡ None
apart_before fs a k l = by_place (place (get_or fs k []) (take k fs)) refl
  where
    by_place : (o : Option ℕ) → place (get_or fs k []) (take k fs) ≡ o → o ≡ None
    by_place None e = refl
    by_place (Some n) e =
        let s = place_stands (get_or fs k []) (take k fs) n e in
        let i : n < k = omega (arith, s.inside, length-take-le k fs (omega arith)) in
        let j : get_or fs n [] ≡ get_or fs k [] = sym (get_or-take k fs n [] i) ∙ s.is in
        let m = apart_same fs a n k (omega arith) l j in absurd (omega arith)
