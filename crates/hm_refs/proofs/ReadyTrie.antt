-- A test, which the checker computes, that nodes are the trie of names. The children of all nodes are the nodes after the
-- first, in the order of their parents; so the test goes over the nodes and beside them over their children.
use Rattle.std.proofs.Common.{◌≡◌, ℕ, zero, suc, ◌+◌, ◌-◌, ◌<◌, ◌≤◌, ◌⊎◌, inl, inr, Bool, true, false, ◌&&◌, ◌==◌, List, [], ◌∷◌, ◌++◌, length, get_or, drop, Option, Some, None, refl, sym, ap, ◌∙◌, subst, arith, bytes_eq, is_some}
use Rattle.std.proofs.lemmas.Bool.{cases_lt}
use Rattle.std.proofs.lemmas.List.{get_or-drop, length-drop, length_push, same_from_push, get_or_read}
use Rattle.std.proofs.lemmas.Slice.Eq.{bytes_eq-Decides}
use Rattle.hm_base.specs.Bytes.{is_null}
use Rattle.hm_refs.specs.Names.{Entry}
use Rattle.hm_refs.specs.Nodes.{front_in, fronts_of, place, AreApart, AreNames, IsAmong, IsWeb}
use Rattle.hm_refs.specs.declared.nodes.TrieNode.{TrieNode}
use Rattle.hm_refs.proofs.Bools.{and_left, and_right, eq_of}
use Rattle.hm_refs.proofs.Growing.{begins_front, front_of_name}
use Rattle.hm_refs.proofs.Places.{place_stands, place_some, apart_same}
use Rattle.hm_refs.proofs.Webs.{front_at_place, length_fronts, no_node, own_element}

-- ---- the test

-- the next n nodes have the front f and their own byte
abbrev pub are_kids : ℕ → List ℕ → List (List ℕ) → List TrieNode → Bool
are_kids zero f gs ys = true
are_kids (suc n) f [] ys = false
are_kids (suc n) f (g ∷ gs) [] = false
are_kids (suc n) f (g ∷ gs) (y ∷ ys) = bytes_eq g (f ++ y.byte ∷ []) && are_kids n f gs ys

abbrev no_lists : List (List ℕ) → Bool
no_lists [] = true
no_lists (g ∷ gs) = false

-- the children of these nodes are the nodes ys, which have the fronts gs and the numbers from m on
abbrev pub are_spread : ℕ → List (List ℕ) → List TrieNode → List (List ℕ) → List TrieNode → Bool
are_spread m [] xs gs ys = no_lists gs
are_spread m (f ∷ fs) [] gs ys = false
are_spread m (f ∷ fs) (x ∷ xs) gs ys = x.first == m && (are_kids x.count f gs ys && are_spread (m + x.count) fs xs (drop x.count gs) (drop x.count ys))

kids_at : (n : ℕ) (f : List ℕ) (gs : List (List ℕ)) (ys : List TrieNode) → are_kids n f gs ys ≡ true → (j : ℕ) (y : TrieNode) → j < n → get_or ys j y ≡ y → get_or gs j [] ≡ f ++ y.byte ∷ []
kids_at zero f gs ys h j y l e = absurd (omega arith)
kids_at (suc n) f [] ys h j y l e = absurd (cc)
kids_at (suc n) f (g ∷ gs) [] h j y l e = absurd (cc)
kids_at (suc n) f (g ∷ gs) (z ∷ ys) h zero y l e = (bytes_eq-Decides g (f ++ z.byte ∷ [])).0 (and_left (bytes_eq g (f ++ z.byte ∷ [])) _ h) ∙ ap (λ (w : TrieNode). f ++ w.byte ∷ []) e
kids_at (suc n) f (g ∷ gs) (z ∷ ys) h (suc j) y l e = kids_at n f gs ys (and_right (bytes_eq g (f ++ z.byte ∷ [])) _ h) j y (omega arith) e

kids_long : (n : ℕ) (f : List ℕ) (gs : List (List ℕ)) (ys : List TrieNode) → are_kids n f gs ys ≡ true → n ≤ length gs
kids_long zero f gs ys h = omega arith
kids_long (suc n) f [] ys h = absurd (cc)
kids_long (suc n) f (g ∷ gs) [] h = absurd (cc)
kids_long (suc n) f (g ∷ gs) (z ∷ ys) h = let k = kids_long n f gs ys (and_right (bytes_eq g (f ++ z.byte ∷ [])) _ h) in omega (arith, k)

-- what the test says of its first node
record Head (m : ℕ) (f : List ℕ) (fs : List (List ℕ)) (x : TrieNode) (xs : List TrieNode) (gs : List (List ℕ)) (ys : List TrieNode) : Type 0 where
  starts : x.first ≡ m
  kids : are_kids x.count f gs ys ≡ true
  long : x.count ≤ length gs
  rest : are_spread (m + x.count) fs xs (drop x.count gs) (drop x.count ys) ≡ true
  less : length (drop x.count gs) ≡ length gs - x.count

head : (m : ℕ) (f : List ℕ) (fs : List (List ℕ)) (x : TrieNode) (xs : List TrieNode) (gs : List (List ℕ)) (ys : List TrieNode) → are_spread m (f ∷ fs) (x ∷ xs) gs ys ≡ true → Head m f fs x xs gs ys
head m f fs x xs gs ys h =
    let both = and_right (x.first == m) _ h in
    let kids = and_left (are_kids x.count f gs ys) _ both in
    record {
      starts = eq_of x.first m (and_left (x.first == m) _ h);
      kids = kids;
      long = kids_long x.count f gs ys kids;
      rest = and_right (are_kids x.count f gs ys) _ both;
      less = length-drop x.count gs;
    }

-- the children of each node are among those ahead
within : (m : ℕ) (fs : List (List ℕ)) (xs : List TrieNode) (gs : List (List ℕ)) (ys : List TrieNode) → are_spread m fs xs gs ys ≡ true
    → (n : ℕ) (x : TrieNode) → n < length fs → get_or xs n x ≡ x → (m ≤ x.first) × (x.first + x.count ≤ m + length gs)
within m [] xs gs ys h n x l e = absurd (omega arith)
within m (f ∷ fs) [] gs ys h n x l e = absurd (cc)
within m (f ∷ fs) (z ∷ xs) gs ys h zero x l e =
    let k = head m f fs z xs gs ys h in
    subst (λ (w : TrieNode). (m ≤ w.first) × (w.first + w.count ≤ m + length gs)) e (omega (arith, k.starts), omega (arith, k.starts, k.long))
within m (f ∷ fs) (z ∷ xs) gs ys h (suc n) x l e =
    let k = head m f fs z xs gs ys h in
    let r = within (m + z.count) fs xs (drop z.count gs) (drop z.count ys) k.rest n x (omega arith) e in
    (omega (arith, r.0), omega (arith, r.1, k.less, k.long))

-- a child has the front of its parent and its own byte
down : (m : ℕ) (fs : List (List ℕ)) (xs : List TrieNode) (gs : List (List ℕ)) (ys : List TrieNode) → are_spread m fs xs gs ys ≡ true
    → (n : ℕ) (x : TrieNode) (j : ℕ) (y : TrieNode) → n < length fs → get_or xs n x ≡ x → IsAmong x (m + j) → get_or ys j y ≡ y → get_or gs j [] ≡ get_or fs n [] ++ y.byte ∷ []
down m [] xs gs ys h n x j y l e a i = absurd (omega arith)
down m (f ∷ fs) [] gs ys h n x j y l e a i = absurd (cc)
down m (f ∷ fs) (z ∷ xs) gs ys h zero x j y l e a i =
    let k = head m f fs z xs gs ys h in
    let b : IsAmong z (m + j) = subst (λ w. IsAmong w (m + j)) (sym e) a in
    kids_at z.count f gs ys k.kids j y (omega (arith, b.1, k.starts)) i
down m (f ∷ fs) (z ∷ xs) gs ys h (suc n) x j y l e a i =
    let k = head m f fs z xs gs ys h in
    let w = within (m + z.count) fs xs (drop z.count gs) (drop z.count ys) k.rest n x (omega arith) e in
    let s : z.count + (j - z.count) ≡ j = omega (arith, w.0, a.0) in
    let t : m + z.count + (j - z.count) ≡ m + j = omega (arith, s) in
    let b : IsAmong x (m + z.count + (j - z.count)) = (omega (arith, a.0, t), omega (arith, a.1, t)) in
    let g : get_or (drop z.count ys) (j - z.count) y ≡ y = get_or-drop z.count ys (j - z.count) y ∙ ap (λ p. get_or ys p y) s ∙ i in
    ap (λ p. get_or gs p []) (sym s) ∙ sym (get_or-drop z.count gs (j - z.count) []) ∙ down (m + z.count) fs xs (drop z.count gs) (drop z.count ys) k.rest n x (j - z.count) y (omega arith) e b g

-- a node whose child has the number c
record Parent (fs : List (List ℕ)) (xs : List TrieNode) (c : ℕ) : Type 0 where
  number : ℕ
  node : TrieNode
  inside : number < length fs
  is : get_or xs number node ≡ node
  among : IsAmong node c

parent_later : (f : List ℕ) (fs : List (List ℕ)) (x : TrieNode) (xs : List TrieNode) (c : ℕ) → Parent fs xs c → Parent (f ∷ fs) (x ∷ xs) c
parent_later f fs x xs c p = record { number = suc p.number; node = p.node; inside = omega (arith, p.inside); is = p.is; among = p.among }

-- each node ahead is a child
up : (m : ℕ) (fs : List (List ℕ)) (xs : List TrieNode) (gs : List (List ℕ)) (ys : List TrieNode) → are_spread m fs xs gs ys ≡ true → (j : ℕ) → j < length gs → Parent fs xs (m + j)
up m [] xs [] ys h j l = absurd (omega arith)
up m [] xs (g ∷ gs) ys h j l = absurd (cc)
up m (f ∷ fs) [] gs ys h j l = absurd (cc)
up m (f ∷ fs) (z ∷ xs) gs ys h j l =
    let d = head m f fs z xs gs ys h in
    by_order (cases_lt j z.count) (λ k.
    let s : m + z.count + (j - z.count) ≡ m + j = omega (arith, k) in
    subst (λ c. Parent fs xs c) s (up (m + z.count) fs xs (drop z.count gs) (drop z.count ys) d.rest (j - z.count) (omega (arith, d.less, l, k))))
  where
    by_order : (j < z.count) ⊎ (z.count ≤ j) → (z.count ≤ j → Parent fs xs (m + j)) → Parent (f ∷ fs) (z ∷ xs) (m + j)
    by_order (inl k) more =
        let s = (head m f fs z xs gs ys h).starts in
        record { number = 0; node = z; inside = omega arith; is = refl; among = (omega (arith, s), omega (arith, s, k)) }
    by_order (inr k) more = parent_later f fs z xs (m + j) (more k)

-- ---- the web

too_short : (q : List ℕ) (c : ℕ) → is_null q ≡ false → q ++ c ∷ [] ≡ 38 ∷ [] → ⊥
too_short [] c h e = cc
too_short (x ∷ q) c h e = let l = ap length e ∙ refl in let k = length_push q c in omega (arith, l, k)

some_front : (t : List Entry) (x : TrieNode) → is_null (front_in t x) ≡ false
unfolding front_in
some_front t x = refl

module _ (t : List Entry) (nodes : List TrieNode) (some : 0 < length nodes) (root : get_or (fronts_of t nodes) 0 [] ≡ 38 ∷ []) (apart : AreApart (fronts_of t nodes))
    (spread : are_spread 1 (fronts_of t nodes) nodes (drop 1 (fronts_of t nodes)) (drop 1 nodes) ≡ true) where
  in_fronts : (n : ℕ) → n < length nodes → n < length (fronts_of t nodes)
  in_fronts n l = omega (arith, l, length_fronts t nodes)

  spans : (n : ℕ) (x : TrieNode) → n < length nodes → get_or nodes n x ≡ x → (1 ≤ x.first) × (x.first + x.count ≤ length nodes)
  spans n x l e =
      let w = within 1 (fronts_of t nodes) nodes (drop 1 (fronts_of t nodes)) (drop 1 nodes) spread n x (in_fronts n l) e in
      let d = length-drop 1 (fronts_of t nodes) in
      (w.0, omega (arith, w.1, d, length_fronts t nodes, some))

  led_down : (n : ℕ) (x : TrieNode) (m : ℕ) (y : TrieNode) → n < length nodes → get_or nodes n x ≡ x → IsAmong x m → get_or nodes m y ≡ y → front_in t y ≡ front_in t x ++ y.byte ∷ []
  led_down n x m y l e a i =
      let s = spans n x l e in
      let j : 1 + (m - 1) ≡ m = omega (arith, s.0, a.0) in
      let k : m < length nodes = omega (arith, s.1, a.1) in
      let b : IsAmong x (1 + (m - 1)) = subst (λ p. IsAmong x p) (sym j) a in
      let g : get_or (drop 1 nodes) (m - 1) y ≡ y = get_or-drop 1 nodes (m - 1) y ∙ ap (λ p. get_or nodes p y) j ∙ i in
      let d = down 1 (fronts_of t nodes) nodes (drop 1 (fronts_of t nodes)) (drop 1 nodes) spread n x (m - 1) y (in_fronts n l) e b g in
      sym (front_at_place t nodes m y k i) ∙ ap (λ p. get_or (fronts_of t nodes) p []) (sym j) ∙ sym (get_or-drop 1 (fronts_of t nodes) (m - 1) []) ∙ d ∙ ap (λ q. q ++ y.byte ∷ []) (front_at_place t nodes n x l e)

  parent : (m : ℕ) → 0 < m → m < length nodes → Parent (fronts_of t nodes) nodes m
  parent m l k =
      let d = length-drop 1 (fronts_of t nodes) in
      let j : 1 + (m - 1) ≡ m = omega (arith, l) in
      subst (λ p. Parent (fronts_of t nodes) nodes p) j (up 1 (fronts_of t nodes) nodes (drop 1 (fronts_of t nodes)) (drop 1 nodes) spread (m - 1) (omega (arith, l, k, d, length_fronts t nodes)))

  node_of : (n : ℕ) (x y : TrieNode) → n < length nodes → get_or nodes n x ≡ x → get_or nodes n y ≡ y → x ≡ y
  node_of n x y l e i = get_or_read nodes n x l (sym e) y ∙ i

  all_kin : (n : ℕ) (x : TrieNode) (m : ℕ) (y : TrieNode) (c : ℕ) → n < length nodes → get_or nodes n x ≡ x → m < length nodes → get_or nodes m y ≡ y → front_in t y ≡ front_in t x ++ c ∷ [] → IsAmong x m
  all_kin n x m y c l e k i f = by_order (cases_lt 0 m)
    where
      by_order : (0 < m) ⊎ (m ≤ 0) → IsAmong x m
      by_order (inl o) =
          let p = parent m o k in
          let inside : p.number < length nodes = omega (arith, p.inside, length_fronts t nodes) in
          let d = led_down p.number p.node m y inside p.is p.among i in
          let same : front_in t x ≡ front_in t p.node = (same_from_push (front_in t x) (front_in t p.node) c y.byte (sym f ∙ d)).0 in
          let fronts = front_at_place t nodes n x l e ∙ same ∙ sym (front_at_place t nodes p.number p.node inside p.is) in
          let number : n ≡ p.number = apart_same (fronts_of t nodes) apart n p.number (in_fronts n l) p.inside fronts in
          let here : get_or nodes n p.node ≡ p.node = ap (λ q. get_or nodes q p.node) number ∙ p.is in
          subst (λ w. IsAmong w m) (sym (node_of n x p.node l e here)) p.among
      by_order (inr o) =
          let z : 0 ≡ m = omega (arith, o) in
          let g : get_or nodes 0 y ≡ y = ap (λ q. get_or nodes q y) z ∙ i in
          absurd (too_short (front_in t x) c (some_front t x) (sym f ∙ sym (front_at_place t nodes 0 y some g) ∙ root))

  closed : (q : List ℕ) (c : ℕ) → is_null q ≡ false → is_some (place (q ++ c ∷ []) (fronts_of t nodes)) ≡ true → is_some (place q (fronts_of t nodes)) ≡ true
  closed q c h s = by_place (place (q ++ c ∷ []) (fronts_of t nodes)) refl s
    where
      by_order : (m : ℕ) → m < length (fronts_of t nodes) → get_or (fronts_of t nodes) m [] ≡ q ++ c ∷ [] → (0 < m) ⊎ (m ≤ 0) → is_some (place q (fronts_of t nodes)) ≡ true
      by_order m l e (inl o) =
          let k : m < length nodes = omega (arith, l, length_fronts t nodes) in
          let p = parent m o k in
          let inside : p.number < length nodes = omega (arith, p.inside, length_fronts t nodes) in
          let y = get_or nodes m no_node in
          let i = own_element nodes m no_node k in
          let d = led_down p.number p.node m y inside p.is p.among i in
          let f = sym (front_at_place t nodes m y k i) ∙ e in
          let same : q ≡ front_in t p.node = (same_from_push q (front_in t p.node) c y.byte (sym f ∙ d)).0 in
          place_some q (fronts_of t nodes) p.number p.inside (front_at_place t nodes p.number p.node inside p.is ∙ sym same)
      by_order m l e (inr o) =
          let z : m ≡ 0 = omega (arith, o) in
          absurd (too_short q c h (sym e ∙ ap (λ n. get_or (fronts_of t nodes) n []) z ∙ root))

      by_place : (o : Option ℕ) → place (q ++ c ∷ []) (fronts_of t nodes) ≡ o → is_some o ≡ true → is_some (place q (fronts_of t nodes)) ≡ true
      by_place None e k = absurd (cc)
      by_place (Some m) e k = let p = place_stands (q ++ c ∷ []) (fronts_of t nodes) m e in by_order m p.inside p.is (cases_lt 0 m)

  pub web : AreNames t → ((n : ℕ) (x : TrieNode) → n < length nodes → get_or nodes n x ≡ x → x.name < length t) → IsWeb t nodes
  unfolding front_in
  web names named = record {
    some = some;
    root = root;
    apart = apart;
    kin = λ n x l e. record {
      within = (spans n x l e).1;
      down = λ m y a i. led_down n x m y l e a i;
      all = λ m y c k i f. all_kin n x m y c l e k i f;
    };
    closed = closed;
    led = λ n x l e. let k = named n x l e in inr (front_of_name t x.name (front_in t x) k (begins_front t x.name x.depth (names.short x.name k)));
  }
