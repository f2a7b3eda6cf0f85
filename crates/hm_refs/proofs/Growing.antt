-- A trie that grows by one byte of each name after another.
use Rattle.std.proofs.Common.{◌≡◌, ℕ, zero, suc, ◌+◌, ◌<◌, ◌≤◌, ◌⊎◌, inl, inr, Bool, true, false, cond, ◌&&◌, ◌==◌, nat_eq, List, [], ◌∷◌, ◌++◌, length, get_or, set, take, drop, replicate, Some, None, refl, sym, ap, ◌∙◌, subst, arith, is_some, Ordering, Less, Equal, Greater}
use Rattle.std.proofs.lemmas.Bool.{cases_eq, cases_lt, and_from}
use Rattle.std.proofs.lemmas.List.{map-set, set-get_or, get_or-map, get_or_read, get_or-set_same, get_or-set_other, get_or-replicate, take_more, take_all, take-append-le, map_more, take-map, length-map, length-set, length_push, length-take-le, length-drop, length-replicate}
use Rattle.std.proofs.lemmas.Map.Keys.{Less-from_sorted}
use Rattle.std.specs.Cmp.{ranks}
use Rattle.std.specs.Cmp.Lexicographic.{slice_cmp}
use Rattle.std.specs.Ordering.{MatchOrdering, nat_cmp, ordering_then}
use Rattle.hm_base.specs.Bytes.{is_null}
use Rattle.hm_refs.specs.declared.limits.TheConstants.{LENGTH_LIMIT}
use Rattle.hm_refs.specs.Names.{Entry, begins, is_front}
use Rattle.hm_refs.specs.Tables.{names_in, no_entry, entry_at}
use Rattle.hm_refs.specs.Nodes.{front_in, fronts_of, place, IsChildBy, HasNoChildBy, adopted, Steps, IsKin, IsWeb, HasEnds, IsShort, AreNames, tail_at, front_to, place_at, MayGrow, IsSpread, IsPut, entry_of, entries_of}
use Rattle.hm_refs.specs.declared.nodes.ReferenceName.{ReferenceName}
use Rattle.hm_refs.specs.declared.nodes.TrieNode.{TrieNode}
use Rattle.hm_refs.proofs.Bools.{and_left, and_right, eq_of}
use Rattle.hm_refs.proofs.Places.{place_stands, place_stays, place_other, place_last, apart_same, apart_before}
use Rattle.hm_refs.proofs.Splits.{begins_split}
use Rattle.hm_refs.proofs.Webs.{front_at_place, length_fronts, own_element, spans, Which, changed, last, old, which, Grows, fronts_grow, web_grows, front_absent}

-- ---- names in byte order

begins_take : (j : ℕ) (n : List ℕ) → begins (take j n) n ≡ true
begins_take zero n = refl
begins_take (suc j) [] = refl
begins_take (suc j) (c ∷ n) = grind (arith, begins_take j n)

-- a prefix of a name is one of the names
pub front_of_name : (t : List Entry) (k : ℕ) (q : List ℕ) → k < length t → begins q (entry_at t k).name ≡ true → is_front t q ≡ true
front_of_name [] k q l h = absurd (omega arith)
front_of_name (e ∷ t) zero q l h = rw h refl
front_of_name (e ∷ t) (suc k) q l h = by_test (begins q e.name) (front_of_name t k q (omega arith) h)
  where
    by_test : (b : Bool) {c : Bool} → c ≡ true → cond b true c ≡ true
    by_test true e = refl
    by_test false e = e

-- what stands between two lists that begin alike begins so too
convex : (q a b c : List ℕ) → slice_cmp nat_cmp a b ≡ Less → slice_cmp nat_cmp b c ≡ Less → begins q a ≡ true → begins q c ≡ true → begins q b ≡ true
convex [] a b c h k f g = refl
convex (x ∷ q) [] b c h k f g = absurd (cc)
convex (x ∷ q) (y ∷ a) b [] h k f g = absurd (cc)
convex (x ∷ q) (y ∷ a) [] (w ∷ c) h k f g = absurd (cc)
convex (x ∷ q) (y ∷ a) (z ∷ b) (w ∷ c) h k f g =
    let i = eq_of x y (and_left (x == y) (begins q a) f) in
    let j = eq_of x w (and_left (x == w) (begins q c) g) in
    by_order (nat_cmp y z) (nat_cmp z w) (ranks y z) (ranks z w) h k i j (λ m n. convex q a b c m n (and_right (x == y) (begins q a) f) (and_right (x == w) (begins q c) g))
  where
    same_eq : (n : ℕ) → (n == n) ≡ true
    same_eq n = grind arith

    by_order : (o p : Ordering) → MatchOrdering o (y < z) (y ≡ z) (z < y) → MatchOrdering p (z < w) (z ≡ w) (w < z) → ordering_then o (slice_cmp nat_cmp a b) ≡ Less → ordering_then p (slice_cmp nat_cmp b c) ≡ Less → x ≡ y → x ≡ w
        → (slice_cmp nat_cmp a b ≡ Less → slice_cmp nat_cmp b c ≡ Less → begins q b ≡ true) → (x == z) && begins q b ≡ true
    by_order Greater p r s h k i j more = absurd (cc)
    by_order o Greater r s h k i j more = absurd (cc)
    by_order Less Less r s h k i j more = absurd (omega arith)
    by_order Less Equal r s h k i j more = absurd (omega arith)
    by_order Equal Less r s h k i j more = absurd (omega arith)
    by_order Equal Equal r s h k i j more = and_from (x == z) (begins q b) (rw (i ∙ r) (same_eq z)) (more h k)

named_at : (t : List Entry) (k : ℕ) → k < length t → get_or (names_in t) k [] ≡ (entry_at t k).name
named_at t k l = get_or-map (λ (e : Entry). e.name) t k no_entry [] l

pub begins_front : (t : List Entry) (i d : ℕ) → IsShort (entry_at t i).name → begins (front_to t i d) (entry_at t i).name ≡ true
begins_front t i d s = rw s.begins (begins_take d (drop 1 (entry_at t i).name))

length_front : (t : List Entry) (i d : ℕ) → d ≤ length (tail_at t i) → length (front_to t i d) ≡ d + 1
length_front t i d l = omega (arith, length-take-le d (tail_at t i) l)

-- a name between two names with the same prefix has it too
pub between : (t : List Entry) (d h j i : ℕ) → AreNames t → h < j → j < i → i < length t → d ≤ length (tail_at t i) → front_to t h d ≡ front_to t i d → front_to t j d ≡ front_to t i d
between t d h j i a l m k s e =
    let n : length (names_in t) ≡ length t = length-map t (λ (x : Entry). x.name) in
    let p : slice_cmp nat_cmp (entry_at t h).name (entry_at t j).name ≡ Less = rw (sym (named_at t h (omega arith)), sym (named_at t j (omega arith))) (Less-from_sorted (slice_cmp nat_cmp) (names_in t) h j [] a.ascending l (omega (arith, n))) in
    let q : slice_cmp nat_cmp (entry_at t j).name (entry_at t i).name ≡ Less = rw (sym (named_at t j (omega arith)), sym (named_at t i k)) (Less-from_sorted (slice_cmp nat_cmp) (names_in t) j i [] a.ascending m (omega (arith, n))) in
    let f : begins (front_to t i d) (entry_at t h).name ≡ true = subst (λ w. begins w (entry_at t h).name ≡ true) e (begins_front t h d (a.short h (omega arith))) in
    let c = convex (front_to t i d) (entry_at t h).name (entry_at t j).name (entry_at t i).name p q f (begins_front t i d (a.short i k)) in
    let w = begins_split (front_to t i d) (entry_at t j).name c in
    let g : length (take d (tail_at t i)) ≡ d = length-take-le d (tail_at t i) s in
    ap (λ v. 38 ∷ take d (drop 1 v)) w.whole ∙ ap (λ v. 38 ∷ v) (take-append-le d (take d (tail_at t i)) w.more (omega (arith, g)) ∙ take_all d (take d (tail_at t i)) (omega (arith, g)))

-- ---- the first node

root_front : (t : List Entry) (x : TrieNode) → x.depth ≡ 0 → front_in t x ≡ 38 ∷ []
unfolding front_in
root_front t x d = rw d refl

root_node : (x y : TrieNode) (n : ℕ) → n < 1 → get_or (x ∷ []) n y ≡ y → y ≡ x
root_node x y zero l e = sym e
root_node x y (suc n) l e = absurd (omega arith)

no_place_after : (q : List ℕ) (c : ℕ) → is_null q ≡ false → is_some (place (q ++ c ∷ []) ((38 ∷ []) ∷ [])) ≡ true → ⊥
no_place_after [] c h s = cc
no_place_after (x ∷ []) c h s = by_test (nat_eq 38 x) s
  where
    by_test : (b : Bool) → is_some {T = ℕ} (cond (b && false) (Some 0) None) ≡ true → ⊥
    by_test true k = cc
    by_test false k = cc
no_place_after (x ∷ y ∷ q) c h s = by_test (nat_eq 38 x) s
  where
    by_test : (b : Bool) → is_some {T = ℕ} (cond (b && false) (Some 0) None) ≡ true → ⊥
    by_test true k = cc
    by_test false k = cc

-- what the first node is
pub record IsRoot (x : TrieNode) : Type 0 where
  pub depth : x.depth ≡ 0
  pub ends : x.ends ≡ None
  pub first : x.first ≡ 0
  pub count : x.count ≡ 0

root_web : (t : List Entry) (x : TrieNode) → IsRoot x → IsWeb t (x ∷ [])
root_web t x r = record {
  some = omega arith;
  root = root_front t x r.depth;
  apart = apart;
  kin = λ n y l e. subst (IsKin t (x ∷ [])) (sym (root_node x y n l e)) kin;
  closed = λ q c h s. absurd (no_place_after q c h (rw (root_front t x r.depth) at s));
  led = λ n y l e. inl (subst (λ w. front_in t w ≡ 38 ∷ []) (sym (root_node x y n l e)) (root_front t x r.depth));
}
  where
    apart : (n : ℕ) → n < 1 → place (get_or (front_in t x ∷ []) n []) (front_in t x ∷ []) ≡ Some n
    apart zero l = rw (root_front t x r.depth) refl
    apart (suc n) l = absurd (omega arith)

    no_child : (m : ℕ) (y : TrieNode) (c : ℕ) → m < 1 → get_or (x ∷ []) m y ≡ y → front_in t y ≡ front_in t x ++ c ∷ [] → ⊥
    no_child m y c l e f =
        let g : front_in t x ≡ front_in t x ++ c ∷ [] = subst (λ w. front_in t w ≡ front_in t x ++ c ∷ []) (root_node x y m l e) f in
        let n = ap length g ∙ length_push (front_in t x) c in
        omega arith

    kin : IsKin t (x ∷ []) x
    kin = record {
      within = omega (arith, r.first, r.count);
      down = λ m y a e. absurd (omega (arith, a.0, a.1, r.first, r.count));
      all = λ m y c l e f. absurd (no_child m y c l e f);
    }

pub root_spread : (t : List Entry) (x : TrieNode) → IsRoot x → AreNames t → IsSpread t 0 0 (x ∷ []) (replicate (length t) 0)
root_spread t x r a = record {
  names = a;
  web = root_web t x r;
  few = omega arith;
  as_long = length-replicate (length t) 0;
  ahead = λ i l k. absurd (omega arith);
  still = λ i l k. rw (root_front t x r.depth, get_or-replicate {A = ℕ} (length t) i 0 0 k) refl;
  may_grow = λ i y l k m e. inl (childless (place_at (replicate (length t) 0) i) y (get_or-replicate {A = ℕ} (length t) i 0 0 k) e);
  fresh = λ n y l e f. subst (λ (w : TrieNode). w.count ≡ 0) (sym (root_node x y n l e)) r.count;
  endless = λ n y l e. subst (λ (w : TrieNode). w.ends ≡ None) (sym (root_node x y n l e)) r.ends;
}
  where
    childless : (n : ℕ) (y : TrieNode) → n ≡ 0 → get_or (x ∷ []) n y ≡ y → y.count ≡ 0
    childless n y z e = subst (λ (w : TrieNode). w.count ≡ 0) (sym (root_node x y n (omega arith) e)) r.count

-- ---- one name moves on

module _ (t : List Entry) (d j : ℕ) (nodes : List TrieNode) (places : List ℕ) (s : IsSpread t d j nodes places) (l : j < length t) where
  -- the node where a name stands that is not yet moved
  pub still_inside : (i : ℕ) → j ≤ i → i < length t → place_at places i < length nodes
  still_inside i k m = let p = place_stands (front_to t i d) (fronts_of t nodes) (place_at places i) (s.still i k m) in omega (arith, p.inside, length_fronts t nodes)

  still_front : (i : ℕ) (x : TrieNode) → j ≤ i → i < length t → get_or nodes (place_at places i) x ≡ x → front_in t x ≡ front_to t i d
  still_front i x k m e =
      let p = place_stands (front_to t i d) (fronts_of t nodes) (place_at places i) (s.still i k m) in
      sym (front_at_place t nodes (place_at places i) x (still_inside i k m) e) ∙ p.is

  met_more : (i : ℕ) (x : TrieNode) → MayGrow t d j i nodes x → MayGrow t d (j + 1) i nodes x
  met_more i x (inl c) = inl c
  met_more i x (inr (e, (h, k, f))) = inr (e, (h, omega arith, f))

  -- the name has no byte more
  pub skips : length (tail_at t j) ≤ d → IsSpread t d (j + 1) nodes places
  skips e = record {
    names = s.names;
    web = s.web;
    few = omega (arith, s.few);
    as_long = s.as_long;
    ahead = λ i k m. by_order i (cases_lt i j) k m;
    still = λ i k m. s.still i (omega arith) m;
    may_grow = λ i x k m n f. met_more i x (s.may_grow i x (omega arith) m n f);
    fresh = s.fresh;
    endless = s.endless;
  }
    where
      by_order : (i : ℕ) → (i < j) ⊎ (j ≤ i) → i < j + 1 → i < length t → place (front_to t i (d + 1)) (fronts_of t nodes) ≡ Some (place_at places i)
      by_order i (inl k) m n = s.ahead i k n
      by_order i (inr k) m n =
          let f : j ≡ i = omega arith in
          let g : front_to t j (d + 1) ≡ front_to t j d = ap (λ w. 38 ∷ w) (take_all (d + 1) (tail_at t j) (omega arith) ∙ sym (take_all d (tail_at t j) e)) in
          subst (λ o. place (front_to t o (d + 1)) (fronts_of t nodes) ≡ Some (place_at places o)) f (ap (λ q. place q (fronts_of t nodes)) g ∙ s.still j (omega arith) l)

  module _ (byte : ℕ) (node : TrieNode) (b : d < length (tail_at t j)) (is : byte ≡ get_or (tail_at t j) d 0) (is_node : get_or nodes (place_at places j) node ≡ node) where
    at_front : front_in t node ≡ front_to t j d
    at_front = still_front j node (omega arith) l is_node

    longer : front_in t node ++ byte ∷ [] ≡ front_to t j (d + 1)
    longer = rw (at_front, is) (ap (λ w. 38 ∷ w) (sym (take_more (tail_at t j) d 0 b)))

    -- the places after the name
    other_place : (i child : ℕ) → (i ≡ j → ⊥) → place_at (set places j child) i ≡ place_at places i
    other_place i child n = get_or-set_other places j i child 0 n

    own_place : (child : ℕ) → place_at (set places j child) j ≡ child
    own_place child = get_or-set_same places j child 0 (omega (arith, s.as_long))

    found : (child : ℕ) → IsChildBy nodes node byte child → IsSpread t d (j + 1) nodes (set places j child)
    found child k = record {
      names = s.names;
      web = s.web;
      few = omega (arith, s.few);
      as_long = length-set places j child ∙ s.as_long;
      ahead = λ i m n. by_order i (cases_lt i j) m n;
      still = λ i m n. rw (other_place i child (λ e. omega arith)) (s.still i (omega arith) n);
      may_grow = λ i x m n o f. met_more i x (s.may_grow i x (omega arith) n o (subst (λ p. get_or nodes p x ≡ x) (other_place i child (λ e. omega arith)) f));
      fresh = s.fresh;
      endless = s.endless;
    }
      where
        inside : child < length nodes
        inside = omega (arith, k.among.1, (s.web.kin (place_at places j) node (still_inside j (omega arith) l) is_node).within)

        front : get_or (fronts_of t nodes) child [] ≡ front_to t j (d + 1)
        front =
            let y = get_or nodes child node in
            let e = own_element nodes child node inside in
            front_at_place t nodes child (get_or nodes child node) inside e
            ∙ (s.web.kin (place_at places j) node (still_inside j (omega arith) l) is_node).down child (get_or nodes child node) k.among e
            ∙ ap (λ c. front_in t node ++ c ∷ []) (k.by (get_or nodes child node) e)
            ∙ longer

        by_order : (i : ℕ) → (i < j) ⊎ (j ≤ i) → i < j + 1 → i < length t → place (front_to t i (d + 1)) (fronts_of t nodes) ≡ Some (place_at (set places j child) i)
        by_order i (inl m) n o = rw (other_place i child (λ e. omega arith)) (s.ahead i m o)
        by_order i (inr m) n o =
            let f : j ≡ i = omega arith in
            subst (λ p. place (front_to t p (d + 1)) (fronts_of t nodes) ≡ Some (place_at (set places j child) p)) f
            (rw (own_place child, sym front) (s.web.apart child (omega (arith, inside, length_fronts t nodes))))

    module _ (unknown : HasNoChildBy nodes node byte) where
      abbrev y : TrieNode
      y = record { name = j; depth = d + 1; ends = None; byte = byte; first = 0; count = 0 }

      abbrev z : TrieNode
      z = adopted node (length nodes)

      y_front : front_in t y ≡ front_to t j (d + 1)
      unfolding front_in
      y_front = refl

      z_front : front_in t z ≡ front_in t node
      unfolding front_in
      z_front = refl

      side : MayGrow t d j j nodes node → (node.count ≡ 0) ⊎ (node.first + node.count ≡ length nodes)
      side (inl c) = inl c
      side (inr (e, m)) = inr e

      grows : Grows t nodes (place_at places j) byte node y
      grows = record {
        web = s.web;
        inside = still_inside j (omega arith) l;
        is = is_node;
        unknown = unknown;
        side = side (s.may_grow j node (omega arith) l b is_node);
        by = refl;
        start = refl;
        childless = refl;
        front = y_front ∙ sym longer;
        known = front_of_name t j (front_in t y) l (rw y_front (begins_front t j (d + 1) (s.names.short j l)));
      }

      new : List TrieNode
      new = set (nodes ++ y ∷ []) (place_at places j) z

      new_length : length new ≡ length nodes + 1
      unfolding new
      new_length = length-set (nodes ++ y ∷ []) (place_at places j) z ∙ length_push nodes y

      new_fronts : fronts_of t new ≡ fronts_of t nodes ++ front_in t y ∷ []
      unfolding new
      new_fronts = fronts_grow t nodes (place_at places j) byte node y grows

      stays : (q : List ℕ) (n : ℕ) → place q (fronts_of t nodes) ≡ Some n → place q (fronts_of t new) ≡ Some n
      stays q n e = rw new_fronts (place_stays q (front_in t y) (fronts_of t nodes) n e)

      own_new : place (front_to t j (d + 1)) (fronts_of t new) ≡ Some (length nodes)
      own_new = rw (new_fronts, sym y_front) (place_last (front_in t y) (fronts_of t nodes) (front_absent t nodes (place_at places j) byte node y grows) ∙ ap Some (length_fronts t nodes))

      ahead : (i : ℕ) → (i < j) ⊎ (j ≤ i) → i < j + 1 → i < length t → place (front_to t i (d + 1)) (fronts_of t new) ≡ Some (place_at (set places j (length nodes)) i)
      ahead i (inl m) n o = rw (other_place i (length nodes) (λ e. omega arith)) (stays (front_to t i (d + 1)) (place_at places i) (s.ahead i m o))
      ahead i (inr m) n o =
          let f : j ≡ i = omega arith in
          subst (λ p. place (front_to t p (d + 1)) (fronts_of t new) ≡ Some (place_at (set places j (length nodes)) p)) f (rw (own_place (length nodes)) own_new)

      -- two names that stand at one node
      alike : (i : ℕ) → j ≤ i → i < length t → place_at places i ≡ place_at places j → front_to t j d ≡ front_to t i d
      alike i k m e =
          let p = place_stands (front_to t i d) (fronts_of t nodes) (place_at places i) (s.still i k m) in
          let q = place_stands (front_to t j d) (fronts_of t nodes) (place_at places j) (s.still j (omega arith) l) in
          sym q.is ∙ subst (λ n. get_or (fronts_of t nodes) n [] ≡ front_to t i d) e p.is

      may_grow : (i : ℕ) (x : TrieNode) (n : ℕ) → n ≡ place_at places i → j < i → i < length t → d < length (tail_at t i) → Which nodes (place_at places j) y z x n → MayGrow t d (j + 1) i new x
      may_grow i x n e k m o (changed f) =
          let p = spans node (length nodes) grows.side in
          inr (subst (λ (w : TrieNode). w.first + w.count ≡ length new) (sym f) (p.end ∙ sym new_length), (j, omega arith, alike i (omega arith) m (sym e)))
      may_grow i x n e k m o (last f) = absurd (let p = still_inside i (omega arith) m in omega (arith, e))
      may_grow i x n e k m o (old q differs p f) = by_old (s.may_grow i x (omega arith) m o (subst (λ r. get_or nodes r x ≡ x) e f))
        where
          by_old : MayGrow t d j i nodes x → MayGrow t d (j + 1) i new x
          by_old (inl c) = inl c
          by_old (inr (g, (h, r, u))) =
              let v = between t d h j i s.names r k m (omega arith) u in
              let w : Some (place_at places i) ≡ Some (place_at places j) = sym (s.still i (omega arith) m) ∙ ap (λ r. place r (fronts_of t nodes)) (sym v) ∙ s.still j (omega arith) l in
              absurd (differs (e ∙ (cc)))

      fresh : (n : ℕ) (x : TrieNode) → d + 1 < length (front_in t x) → Which nodes (place_at places j) y z x n → x.count ≡ 0
      fresh n x f (changed e) =
          absurd (let g : front_in t x ≡ front_to t j d = ap (front_in t) e ∙ z_front ∙ at_front in omega (arith, ap length g, length_front t j d (omega arith)))
      fresh n x f (last e) = ap (λ (w : TrieNode). w.count) e
      fresh n x f (old m p k e) = s.fresh m x k e f

      endless : (n : ℕ) (x : TrieNode) → Which nodes (place_at places j) y z x n → x.ends ≡ None
      endless n x (changed e) = ap (λ (w : TrieNode). w.ends) e ∙ s.endless (place_at places j) node (still_inside j (omega arith) l) is_node
      endless n x (last e) = ap (λ (w : TrieNode). w.ends) e
      endless n x (old m p k e) = s.endless m x k e

      seen : (n : ℕ) (x : TrieNode) → n < length new → get_or new n x ≡ x → Which nodes (place_at places j) y z x n
      unfolding new
      seen n x k e = which nodes (place_at places j) y z x n (still_inside j (omega arith) l) (omega (arith, new_length)) e

      new_web : IsWeb t new
      unfolding new
      new_web = web_grows t nodes (place_at places j) byte node y grows

      made : IsSpread t d (j + 1) new (set places j (length nodes))
      made = record {
        names = s.names;
        web = new_web;
        few = omega (arith, s.few, new_length);
        as_long = length-set places j (length nodes) ∙ s.as_long;
        ahead = λ i m n. ahead i (cases_lt i j) m n;
        still = λ i m n. rw (other_place i (length nodes) (λ e. omega arith)) (stays (front_to t i d) (place_at places i) (s.still i (omega arith) n));
        may_grow = λ i x m n o f.
            let p = other_place i (length nodes) (λ e. omega arith) in
            may_grow i x (place_at places i) refl (omega arith) n o (seen (place_at places i) x (omega (arith, still_inside i (omega arith) n, new_length)) (subst (λ r. get_or new r x ≡ x) p f));
        fresh = λ n x k e f. fresh n x f (seen n x k e);
        endless = λ n x k e. endless n x (seen n x k e);
      }

  pub steps : (byte child : ℕ) (next : List TrieNode) → d < length (tail_at t j) → byte ≡ get_or (tail_at t j) d 0 → Steps nodes next (place_at places j) byte j (d + 1) child → IsSpread t d (j + 1) next (set places j child)
  unfolding new
  steps byte child next b is (inl f) = subst (λ ns. IsSpread t d (j + 1) ns (set places j child)) (sym f.same) (found byte f.node b is f.is child f.known)
  steps byte child next b is (inr m) =
      subst (λ ns. IsSpread t d (j + 1) ns (set places j child)) (sym m.nodes)
      (subst (λ c. IsSpread t d (j + 1) (set (nodes ++ record { name = j; depth = d + 1; ends = None; byte = byte; first = 0; count = 0 } ∷ []) (place_at places j) (adopted m.node c)) (set places j c)) (sym m.last) (made byte m.node b is m.is m.unknown))

-- ---- all names moved on

pub deeper : (t : List Entry) (d : ℕ) (nodes : List TrieNode) (places : List ℕ) → IsSpread t d (length t) nodes places → IsSpread t (d + 1) 0 nodes places
deeper t d nodes places s = record {
  names = s.names;
  web = s.web;
  few = omega (arith, s.few, s.names.few);
  as_long = s.as_long;
  ahead = λ i l k. absurd (omega arith);
  still = λ i l k. s.ahead i k k;
  may_grow = λ i x l k m e. inl (childless i x k m e);
  fresh = λ n x l e f. s.fresh n x l e (omega arith);
  endless = s.endless;
}
  where
    childless : (i : ℕ) (x : TrieNode) → i < length t → d + 1 < length (tail_at t i) → get_or nodes (place_at places i) x ≡ x → x.count ≡ 0
    childless i x k m e =
        let p = place_stands (front_to t i (d + 1)) (fronts_of t nodes) (place_at places i) (s.ahead i k k) in
        let l : place_at places i < length nodes = omega (arith, p.inside, length_fronts t nodes) in
        let f : front_in t x ≡ front_to t i (d + 1) = sym (front_at_place t nodes (place_at places i) x l e) ∙ p.is in
        s.fresh (place_at places i) x l e (omega (arith, ap length f, length_front t i (d + 1) (omega arith)))

pub put_all : (t : List Entry) (nodes : List TrieNode) (places : List ℕ) → IsSpread t LENGTH_LIMIT 0 nodes places → IsPut t 0 nodes places
put_all t nodes places s = record {
  names = s.names;
  web = s.web;
  few = omega (arith, s.few);
  as_long = s.as_long;
  placed = λ i l. ap (λ q. place q (fronts_of t nodes)) (sym (whole i l)) ∙ s.still i (omega arith) l;
  ended = s.endless;
}
  where
    whole : (i : ℕ) → i < length t → front_to t i LENGTH_LIMIT ≡ (entry_at t i).name
    whole i l =
        let h = s.names.short i l in
        ap (λ w. 38 ∷ w) (take_all LENGTH_LIMIT (tail_at t i) (omega (arith, h.short, length-drop 1 (entry_at t i).name))) ∙ sym h.begins

-- ---- the ends of names

-- what stands in a list in which z stands at a place
stands : (nodes : List TrieNode) (at : ℕ) (z y : TrieNode) (n : ℕ) → at < length nodes → get_or (set nodes at z) n y ≡ y → (n ≡ at) × (y ≡ z) ⊎ (n ≡ at → ⊥) × (get_or nodes n y ≡ y)
stands nodes at z y n a e = by_eq (cases_eq n at)
  where
    by_eq : (n ≡ at) ⊎ (n ≡ at → ⊥) → (n ≡ at) × (y ≡ z) ⊎ (n ≡ at → ⊥) × (get_or nodes n y ≡ y)
    by_eq (inl i) = let f : get_or (set nodes at z) at y ≡ y = subst (λ m. get_or (set nodes at z) m y ≡ y) i e in inl (i, sym f ∙ get_or-set_same nodes at z y a)
    by_eq (inr d) = inr (d, sym (get_or-set_other nodes at n z y d) ∙ e)

-- what stood there, except for the name that ends there
record Stood (t : List Entry) (nodes : List TrieNode) (n : ℕ) (y : TrieNode) : Type 0 where
  pub node : TrieNode
  pub is : get_or nodes n node ≡ node
  pub front : front_in t node ≡ front_in t y
  pub byte : node.byte ≡ y.byte
  pub first : node.first ≡ y.first
  pub count : node.count ≡ y.count

module _ (t : List Entry) (k at : ℕ) (nodes : List TrieNode) (places : List ℕ) (x : TrieNode) (s : IsPut t k nodes places) (l : k < length t) (at_is : at ≡ place_at places k) (is : get_or nodes at x ≡ x) where
  abbrev end : TrieNode
  end = record x { ends = Some k }

  end_front : front_in t end ≡ front_in t x
  unfolding front_in
  end_front = refl

  pub end_inside : at < length nodes
  end_inside = let p = place_stands (entry_at t k).name (fronts_of t nodes) (place_at places k) (s.placed k l) in omega (arith, p.inside, length_fronts t nodes, at_is)

  front_is : front_in t x ≡ (entry_at t k).name
  front_is =
      let p = place_stands (entry_at t k).name (fronts_of t nodes) (place_at places k) (s.placed k l) in
      sym (front_at_place t nodes at x end_inside is) ∙ ap (λ n. get_or (fronts_of t nodes) n []) at_is ∙ p.is

  ended_fronts : fronts_of t (set nodes at end) ≡ fronts_of t nodes
  ended_fronts =
      let f : front_in t end ≡ get_or (fronts_of t nodes) at [] = end_front ∙ sym (front_at_place t nodes at x end_inside is) in
      map-set (front_in t) nodes at end ∙ rw f (set-get_or (fronts_of t nodes) at [])

  ended_length : length (set nodes at end) ≡ length nodes
  ended_length = length-set nodes at end

  stood : (n : ℕ) (y : TrieNode) → get_or (set nodes at end) n y ≡ y → Stood t nodes n y
  stood n y e = by_case n (stands nodes at end y n end_inside e)
    where
      by_case : (n : ℕ) → (n ≡ at) × (y ≡ end) ⊎ (n ≡ at → ⊥) × (get_or nodes n y ≡ y) → Stood t nodes n y
      by_case n (inl (i, f)) = record {
        node = x;
        is = subst (λ m. get_or nodes m x ≡ x) (sym i) is;
        front = subst (λ w. front_in t x ≡ front_in t w) (sym f) (sym end_front);
        byte = ap (λ (w : TrieNode). w.byte) (sym f);
        first = ap (λ (w : TrieNode). w.first) (sym f);
        count = ap (λ (w : TrieNode). w.count) (sym f);
      }
      by_case n (inr (d, f)) = record { node = y; is = f; front = refl; byte = refl; first = refl; count = refl }

  ended_kin : (n : ℕ) (y : TrieNode) → n < length nodes → Stood t nodes n y → IsKin t (set nodes at end) y
  ended_kin n y i o =
      let kin = s.web.kin n o.node i o.is in
      record {
        within = omega (arith, kin.within, o.first, o.count, ended_length);
        down = λ m w a e.
            let v = stood m w e in
            sym v.front ∙ kin.down m v.node (omega (arith, a.0, o.first), omega (arith, a.1, o.first, o.count)) v.is ∙ ap (λ c. front_in t o.node ++ c ∷ []) v.byte ∙ ap (λ q. q ++ w.byte ∷ []) o.front;
        all = λ m w c h e f.
            let v = stood m w e in
            let a = kin.all m v.node c (omega (arith, ended_length)) v.is (v.front ∙ f ∙ ap (λ q. q ++ c ∷ []) (sym o.front)) in
            (omega (arith, a.0, o.first), omega (arith, a.1, o.first, o.count));
      }

  ended_web : IsWeb t (set nodes at end)
  ended_web = record {
    some = omega (arith, ended_length, s.web.some);
    root = rw ended_fronts s.web.root;
    apart = rw ended_fronts s.web.apart;
    kin = λ n y i e. ended_kin n y (omega (arith, ended_length)) (stood n y e);
    closed = λ q c h o. rw ended_fronts (s.web.closed q c h (rw ended_fronts at o));
    led = λ n y i e. let v = stood n y e in subst (λ q. (q ≡ 38 ∷ []) ⊎ (is_front t q ≡ true)) v.front (s.web.led n v.node (omega (arith, ended_length)) v.is);
  }

  names_more : names_in (take (k + 1) t) ≡ names_in (take k t) ++ (entry_at t k).name ∷ []
  names_more = map_more (λ (e : Entry). e.name) t k no_entry l

  new_name : place (entry_at t k).name (names_in (take k t)) ≡ None
  new_name =
      let a = apart_before (names_in t) s.names.apart k (omega (arith, length-map t (λ (e : Entry). e.name))) in
      rw (named_at t k l, take-map (λ (e : Entry). e.name) k t) at a

  names_length : length (names_in (take k t)) ≡ k
  names_length = length-map (take k t) (λ (e : Entry). e.name) ∙ length-take-le k t (omega arith)

  ended_ends : HasEnds t (k + 1) (set nodes at end)
  ended_ends n y i e = rw names_more (by_place n y (omega (arith, ended_length)) (stands nodes at end y n end_inside e))
    where
      by_place : (n : ℕ) (y : TrieNode) → n < length nodes → (n ≡ at) × (y ≡ end) ⊎ (n ≡ at → ⊥) × (get_or nodes n y ≡ y) → y.ends ≡ place (front_in t y) (names_in (take k t) ++ (entry_at t k).name ∷ [])
      by_place n y i (inl (j, e)) = subst (λ w. w.ends ≡ place (front_in t w) (names_in (take k t) ++ (entry_at t k).name ∷ [])) (sym e)
          (rw (end_front, front_is) (sym (place_last (entry_at t k).name (names_in (take k t)) new_name ∙ ap Some names_length)))
      by_place n y i (inr (d, e)) = s.ended n y i e ∙ sym (place_other (front_in t y) (entry_at t k).name (names_in (take k t)) differs)
        where
          differs : (entry_at t k).name ≡ front_in t y → ⊥
          differs f = d (apart_same (fronts_of t nodes) s.web.apart n at (omega (arith, length_fronts t nodes)) (omega (arith, length_fronts t nodes, end_inside))
              (front_at_place t nodes n y i e ∙ sym f ∙ sym front_is ∙ sym (front_at_place t nodes at x end_inside is)))

  pub ended : IsPut t (k + 1) (set nodes at (record x { ends = Some k })) places
  ended = record {
    names = s.names;
    web = ended_web;
    few = omega (arith, s.few, ended_length);
    as_long = s.as_long;
    placed = λ i j. rw ended_fronts (s.placed i j);
    ended = ended_ends;
  }

-- ---- names as the code keeps them

pub length_entries : (ns : List ReferenceName) → length (entries_of ns) ≡ length ns
length_entries ns = length-map ns entry_of

pub name_read : (ns : List ReferenceName) (i : ℕ) (x : ReferenceName) (b : List ℕ) → i < length ns → b ≡ (get_or ns i x).text → b ≡ (entry_at (entries_of ns) i).name
name_read ns i x b l e = e ∙ sym (ap (λ (y : Entry). y.name) (get_or-map entry_of ns i x no_entry l))

pub place_read : (places : List ℕ) (i index node : ℕ) → i < length places → index ≡ node → node ≡ get_or places i node → index ≡ place_at places i
place_read places i index node l e f = e ∙ get_or_read places i node l f 0

-- ---- the same, as the code takes it

pub skips_on : (t : List Entry) (d j : ℕ) (nodes : List TrieNode) (places tail : List ℕ) → IsSpread t d j nodes places → j < length t → tail ≡ tail_at t j → length tail ≤ d → IsSpread t d (j + 1) nodes places
skips_on t d j nodes places tail s l e h = skips t d j nodes places s l (omega (arith, ap length e))

pub steps_on : (t : List Entry) (d j : ℕ) (nodes next : List TrieNode) (places tail : List ℕ) (index byte child : ℕ) → IsSpread t d j nodes places → j < length t → tail ≡ tail_at t j → d < length tail → byte ≡ get_or tail d 0 → index ≡ place_at places j
    → Steps nodes next index byte j (d + 1) child → IsSpread t d (j + 1) next (set places j child)
steps_on t d j nodes next places tail index byte child s l e h b i w =
    steps t d j nodes places s l byte child next (omega (arith, ap length e)) (b ∙ ap (λ xs. get_or xs d 0) e) (subst (λ n. Steps nodes next n byte j (d + 1) child) i w)

pub ended_on : (t : List Entry) (k index number : ℕ) (nodes : List TrieNode) (places : List ℕ) (x : TrieNode) → IsPut t k nodes places → k < length t → index ≡ place_at places k → number ≡ k → x ≡ get_or nodes index x → IsPut t (k + 1) (set nodes index (record (get_or nodes index x) { ends = Some number })) places
ended_on t k index number nodes places x s l i n e =
    subst (λ (y : TrieNode). IsPut t (k + 1) (set nodes index (record y { ends = Some number })) places) e (subst (λ m. IsPut t (k + 1) (set nodes index (record x { ends = Some m })) places) (sym n) (ended t k index nodes places x s l i (sym e)))

pub place_inside : (t : List Entry) (k index : ℕ) (nodes : List TrieNode) (places : List ℕ) → IsPut t k nodes places → k < length t → index ≡ place_at places k → index < length nodes
place_inside t k index nodes places s l e = let p = place_stands (entry_at t k).name (fronts_of t nodes) (place_at places k) (s.placed k l) in omega (arith, p.inside, length_fronts t nodes, e)
