-- Prices as numbers, and the best of hops.
use Rattle.std.proofs.Common.{◌≡◌, ◌∙◌, ℕ, zero, suc, ◌+◌, ◌<◌, ◌≤◌, ◌^◌, ◌==◌, true, false, cond, ◌-◌, drop-cons, List, [], ◌∷◌, length, map, get_or, drop, Option, Some, None, refl, sym, ap, subst, arith, ◌⊎◌, inl, inr, ⊎_elim, nat_eq}
use Rattle.std.proofs.lemmas.Bool.{cases_lt, false_from_ne_true}
use Rattle.std.proofs.lemmas.Bool.Decides.{Decides-eqb}
use Rattle.std.proofs.Math.Seq.{drop-length}
use Rattle.std.proofs.lemmas.List.{get_or-map}
use Rattle.hm_cert.specs.Layout.{told}
use Rattle.hm_graph_laws.specs.Prices.{Row}
use Rattle.hm_graph_laws.specs.Ways.{lesser, same_price}
use Rattle.hm_graph.specs.Graphs.{AreLowHops}
use Rattle.hm_graph.specs.Prices.{price_over, best_price}
use Rattle.hm_graph.specs.Ways.{place_over, choice}
use Rattle.hm_graph.specs.declared.hops.Hop.{Hop}

-- a number is the greatest, which stands for a closed price, or the price itself
pub record IsClosed (n : ℕ) : Type 0 where
  pub greatest : n ≡ 18446744073709551615
  pub none : told n ≡ None

pub record IsOpen (n : ℕ) : Type 0 where
  pub less : n < 18446744073709551615
  pub some : told n ≡ Some n

pub told_cases : (n : ℕ) → n < 2 ^ 64 → IsClosed n ⊎ IsOpen n
told_cases n h = ⊎_elim
    (λ l. inr (record { less = l; some = ap (λ b. cond b None (Some n)) (false_from_ne_true (n == 18446744073709551615) (λ t. omega (arith, (Decides-eqb n 18446744073709551615).0 t))) }))
    (λ l. let e : n ≡ 18446744073709551615 = omega arith in inl (record { greatest = e; none = rw e refl }))
    (cases_lt n 18446744073709551615)

nat_eq_self : (n : ℕ) → nat_eq n n ≡ true
nat_eq_self n = (Decides-eqb n n).1 refl

nat_eq_less : (n m : ℕ) → m < n → nat_eq n m ≡ false
nat_eq_less n m h = false_from_ne_true (nat_eq n m) (λ t. omega (arith, (Decides-eqb n m).0 t))

pub same_self : (price : Option ℕ) → same_price price price ≡ true
same_self None = refl
same_self (Some n) = nat_eq_self n

-- the lesser number stands for the lesser price
lesser_front : (a b : ℕ) → a < 2 ^ 64 → b < 2 ^ 64 → a ≤ b → lesser (told a) (told b) ≡ told a
lesser_front a b small low h = by_cases (told_cases a small) (told_cases b low)
  where
    by_cases : IsClosed a ⊎ IsOpen a → IsClosed b ⊎ IsOpen b → lesser (told a) (told b) ≡ told a
    by_cases (inl x) (inl y) = rw (x.none, y.none) refl
    by_cases (inl x) (inr y) = absurd (omega (arith, x.greatest, y.less))
    by_cases (inr x) (inl y) = rw (x.some, y.none) refl
    by_cases (inr x) (inr y) = rw (x.some, y.some) (ap Some (omega arith))

lesser_back : (a b : ℕ) → a < 2 ^ 64 → b < 2 ^ 64 → b < a → lesser (told a) (told b) ≡ told b
lesser_back a b small low h = by_cases (told_cases a small) (told_cases b low)
  where
    by_cases : IsClosed a ⊎ IsOpen a → IsClosed b ⊎ IsOpen b → lesser (told a) (told b) ≡ told b
    by_cases x (inl y) = absurd (omega (arith, y.greatest))
    by_cases (inl x) (inr y) = rw (x.none, y.some) refl
    by_cases (inr x) (inr y) = rw (x.some, y.some) (ap Some (omega arith))

differ : (a b : ℕ) → a < 2 ^ 64 → b < 2 ^ 64 → b < a → same_price (told a) (told b) ≡ false
differ a b small low h = by_cases (told_cases a small) (told_cases b low)
  where
    by_cases : IsClosed a ⊎ IsOpen a → IsClosed b ⊎ IsOpen b → same_price (told a) (told b) ≡ false
    by_cases x (inl y) = absurd (omega (arith, y.greatest))
    by_cases (inl x) (inr y) = rw (x.none, y.some) refl
    by_cases (inr x) (inr y) = rw (x.some, y.some) (nat_eq_less a b h)

-- ---- The price over a hop

-- the price that a number of a list stands for
pub told_at : (row : List ℕ) (k price : ℕ) → k < length row → price ≡ get_or row k price → get_or (map told row) k None ≡ told price
told_at row k price inside is = get_or-map told row k price None inside ∙ ap told (sym is)

-- ---- The best of hops

-- a hop before others, whose price is at most the least one of those
pub front_is_best : (row : Row) (x : Hop) (hops : List Hop) (price least : ℕ) → told price ≡ price_over row x → told least ≡ best_price row hops → price < 2 ^ 64 → least < 2 ^ 64 → price ≤ least
    → (told price ≡ best_price row (x ∷ hops)) × (0 ≡ choice row (x ∷ hops))
front_is_best row x hops price least e f small low h =
    let is : best_price row (x ∷ hops) ≡ told price = (λ i. lesser (sym e i) (sym f i)) ∙ lesser_front price least small low h in
    let same : same_price (price_over row x) (best_price row (x ∷ hops)) ≡ true = (λ i. same_price (sym e i) (is i)) ∙ same_self (told price) in
    (sym is, sym (ap (λ b. cond b 0 (suc (place_over row (best_price row (x ∷ hops)) hops))) same))

-- and one whose price is greater
pub front_is_dearer : (row : Row) (x : Hop) (hops : List Hop) (price least : ℕ) → told price ≡ price_over row x → told least ≡ best_price row hops → price < 2 ^ 64 → least < 2 ^ 64 → least < price
    → (told least ≡ best_price row (x ∷ hops)) × (suc (choice row hops) ≡ choice row (x ∷ hops))
front_is_dearer row x hops price least e f small low h =
    let is : best_price row (x ∷ hops) ≡ told least = (λ i. lesser (sym e i) (sym f i)) ∙ lesser_back price least small low h in
    let same : same_price (price_over row x) (best_price row (x ∷ hops)) ≡ false = (λ i. same_price (sym e i) (is i)) ∙ differ price least small low h in
    (sym is, ap (λ p. suc (place_over row p hops)) (sym f ∙ sym is) ∙ sym (ap (λ b. cond b 0 (suc (place_over row (best_price row (x ∷ hops)) hops))) same))

-- the least price over the hops from a place on, and the place of the first one over which it comes
pub record IsBestFrom (row : Row) (hops : List Hop) (k least at : ℕ) : Type 0 where
  pub price : told least ≡ best_price row (drop k hops)
  pub place : at ≡ k + choice row (drop k hops)
  pub fits : least < 2 ^ 64

pub no_best : (row : Row) (hops : List Hop) → IsBestFrom row hops (length hops) 18446744073709551615 (length hops)
no_best row hops = let e : drop (length hops) hops ≡ [] = drop-length hops in record {
  price = ap (best_price row) (sym e);
  place = let none : choice row (drop (length hops) hops) ≡ 0 = ap (choice row) e in omega arith;
  fits = omega arith;
}

-- the hops from a place on, the first of them apart
pub cut_before : {A : Type 0} (xs : List A) (k : ℕ) (x : A) → 0 < k → k ≤ length xs → x ≡ get_or xs (k - 1) x → drop (k - 1) xs ≡ x ∷ drop k xs
cut_before xs k x some inside is =
    let next : suc (k - 1) ≡ k = omega arith in
    drop-cons xs (k - 1) x (omega arith) ∙ (λ i. sym is i ∷ drop (next i) xs)

pub takes_front : (row : Row) (hops : List Hop) (k : ℕ) (x : Hop) (price least place : ℕ) → IsBestFrom row hops k least place → drop (k - 1) hops ≡ x ∷ drop k hops → told price ≡ price_over row x → price < 2 ^ 64 → price ≤ least
    → IsBestFrom row hops (k - 1) price (k - 1)
takes_front row hops k x price least place b cut e small h =
    let f = front_is_best row x (drop k hops) price least e b.price small b.fits h in record {
      price = f.0 ∙ ap (best_price row) (sym cut);
      place = let at : 0 ≡ choice row (drop (k - 1) hops) = f.1 ∙ ap (choice row) (sym cut) in omega arith;
      fits = small;
    }

pub keeps_best : (row : Row) (hops : List Hop) (k : ℕ) (x : Hop) (price least place : ℕ) → 0 < k → IsBestFrom row hops k least place → drop (k - 1) hops ≡ x ∷ drop k hops → told price ≡ price_over row x → price < 2 ^ 64 → least < price
    → IsBestFrom row hops (k - 1) least place
keeps_best row hops k x price least place some b cut e small h =
    let f = front_is_dearer row x (drop k hops) price least e b.price small b.fits h in record {
      price = f.0 ∙ ap (best_price row) (sym cut);
      place = let at : suc (choice row (drop k hops)) ≡ choice row (drop (k - 1) hops) = f.1 ∙ ap (choice row) (sym cut) in omega (arith, b.place);
      fits = b.fits;
    }

pub all_best : (row : Row) (hops : List Hop) (k price place : ℕ) → k ≤ 0 → IsBestFrom row hops k price place → (told price ≡ best_price row hops) × (place ≡ choice row hops)
all_best row hops k price place h b =
    let zero_ : k ≡ 0 = omega arith in
    let all : IsBestFrom row hops 0 price place = subst (λ j. IsBestFrom row hops j price place) zero_ b in (all.price, omega (arith, all.place))

-- ---- Low hops

pub low_hop : (hops : List Hop) (k : ℕ) (x : Hop) → AreLowHops hops → k < length hops → x ≡ get_or hops k x → x.len < 2 ^ 33
low_hop [] k x h inside is = absurd (omega arith)
low_hop (y ∷ hops) zero x h inside is = subst (λ z. z.len < 2 ^ 33) (sym is) h.0
low_hop (y ∷ hops) (suc k) x h inside is = low_hop hops k x h.1 (omega arith) is
