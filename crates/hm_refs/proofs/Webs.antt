-- A trie that grows by a node.
use Rattle.std.proofs.Common.{◌≡◌, ℕ, zero, suc, ◌+◌, ◌<◌, ◌≤◌, ◌⊎◌, inl, inr, Bool, true, false, cond, ◌==◌, List, [], ◌∷◌, ◌++◌, length, get_or, set, Option, Some, None, refl, sym, ap, ◌∙◌, subst, arith, bytes_eq, is_some}
use Rattle.std.proofs.lemmas.Bool.{cases_lt, cases_eq}
use Rattle.std.proofs.lemmas.List.{map-set, set-get_or, map_push, get_or-map, get_or-set_same, get_or-set_other, get_or_append_left, get_or_push, length_push, length-map, length-set, same_from_push, get_or_read}
use Rattle.std.proofs.lemmas.Slice.Eq.{bytes_eq-Decides}
use Rattle.hm_base.specs.Bytes.{is_null}
use Rattle.hm_refs.specs.Names.{Entry, is_front}
use Rattle.hm_refs.specs.Nodes.{front_in, fronts_of, place, IsAmong, HasNoChildBy, IsFound, adopted, Steps, IsKin, IsWeb}
use Rattle.hm_refs.specs.declared.nodes.TrieNode.{TrieNode}
use Rattle.hm_refs.proofs.Bools.{eq_of}
use Rattle.hm_refs.proofs.Places.{place_stands, place_some, place_stays, place_other, apart_push, apart_same}

-- the prefix of a node, by its place
pub front_at_place : (t : List Entry) (nodes : List TrieNode) (n : ℕ) (x : TrieNode) → n < length nodes → get_or nodes n x ≡ x → get_or (fronts_of t nodes) n [] ≡ front_in t x
front_at_place t nodes n x l e = get_or-map (front_in t) nodes n x [] l ∙ ap (front_in t) e

pub length_fronts : (t : List Entry) (nodes : List TrieNode) → length (fronts_of t nodes) ≡ length nodes
length_fronts t nodes = length-map nodes (front_in t)

-- what stands in a list of nodes that grew by y, and in which z stands for the node at a place
pub data Which (nodes : List TrieNode) (at : ℕ) (y z x : TrieNode) : ℕ → Type 0 where
  changed : x ≡ z → Which nodes at y z x at
  last : x ≡ y → Which nodes at y z x (length nodes)
  old : (n : ℕ) → (n ≡ at → ⊥) → n < length nodes → get_or nodes n x ≡ x → Which nodes at y z x n

pub which : (nodes : List TrieNode) (at : ℕ) (y z x : TrieNode) (n : ℕ) → at < length nodes → n < length nodes + 1 → get_or (set (nodes ++ y ∷ []) at z) n x ≡ x → Which nodes at y z x n
which nodes at y z x n a l e = by_eq (cases_eq n at)
  where
    by_lt : (n ≡ at → ⊥) → get_or (nodes ++ y ∷ []) n x ≡ x → (n < length nodes) ⊎ (length nodes ≤ n) → Which nodes at y z x n
    by_lt d f (inl k) = old n d k (sym (get_or_append_left nodes (y ∷ []) x n k) ∙ f)
    by_lt d f (inr k) =
        let i : length nodes ≡ n = omega arith in
        subst (λ m. Which nodes at y z x m) i (last (sym f ∙ get_or_push nodes y x n i))

    by_eq : (n ≡ at) ⊎ (n ≡ at → ⊥) → Which nodes at y z x n
    by_eq (inl i) =
        let inside : at < length (nodes ++ y ∷ []) = omega (arith, length_push nodes y) in
        let f : get_or (set (nodes ++ y ∷ []) at z) at x ≡ x = subst (λ m. get_or (set (nodes ++ y ∷ []) at z) m x ≡ x) i e in
        subst (λ m. Which nodes at y z x m) (sym i) (changed (sym f ∙ get_or-set_same (nodes ++ y ∷ []) at z x inside))
    by_eq (inr d) = by_lt d (sym (get_or-set_other (nodes ++ y ∷ []) at n z x d) ∙ e) (cases_lt n (length nodes))

-- the prefixes of such a list, where z has the prefix of what stood there
pub fronts_grown : (t : List Entry) (nodes : List TrieNode) (at : ℕ) (y z : TrieNode) → at < length nodes → get_or (fronts_of t nodes) at [] ≡ front_in t z
    → fronts_of t (set (nodes ++ y ∷ []) at z) ≡ fronts_of t nodes ++ front_in t y ∷ []
fronts_grown t nodes at y z a e =
    let inside : at < length (fronts_of t nodes) = omega (arith, length_fronts t nodes) in
    let f : front_in t z ≡ get_or (fronts_of t nodes ++ front_in t y ∷ []) at [] = sym e ∙ sym (get_or_append_left (fronts_of t nodes) (front_in t y ∷ []) [] at inside) in
    map-set (front_in t) (nodes ++ y ∷ []) at z ∙ rw (map_push (front_in t) nodes y, f) (set-get_or (fronts_of t nodes ++ front_in t y ∷ []) at [])

-- ---- the children of a node that has one more

-- those of before and the last
pub record Spans (x z : TrieNode) (len : ℕ) : Type 0 where
  pub last : z.first ≤ len
  pub end : z.first + z.count ≡ len + 1
  pub before : (m : ℕ) → m < len → z.first ≤ m → IsAmong x m
  pub keeps : (m : ℕ) → IsAmong x m → z.first ≤ m

pub spans : (x : TrieNode) (len : ℕ) → (x.count ≡ 0) ⊎ (x.first + x.count ≡ len) → Spans x (adopted x len) len
spans x len side = by_test (x.count == 0) refl side
  where
    by_test : (b : Bool) → (x.count == 0) ≡ b → (x.count ≡ 0) ⊎ (x.first + x.count ≡ len) → Spans x (record x { first = cond b len x.first; count = x.count + 1 }) len
    by_test true e side' =
        let z = eq_of x.count 0 e in
        record {
          last = omega arith;
          end = omega (arith, z);
          before = λ m l k. absurd (omega arith);
          keeps = λ m a. absurd (omega (arith, a.0, a.1, z));
        }
    by_test false e (inl z) = absurd (let f : (x.count == 0) ≡ true = rw z refl in cc)
    by_test false e (inr s) = record {
      last = omega (arith, s);
      end = omega (arith, s);
      before = λ m l k. (k, omega (arith, s));
      keeps = λ m a. a.0;
    }

-- ---- one more node after the node `node` at a place

pub record Grows (t : List Entry) (nodes : List TrieNode) (at byte : ℕ) (node y : TrieNode) : Type 0 where
  pub web : IsWeb t nodes
  pub inside : at < length nodes
  pub is : get_or nodes at node ≡ node
  pub unknown : HasNoChildBy nodes node byte
  pub side : (node.count ≡ 0) ⊎ (node.first + node.count ≡ length nodes)
  pub by : y.byte ≡ byte
  pub start : y.first ≡ 0
  pub childless : y.count ≡ 0
  pub front : front_in t y ≡ front_in t node ++ byte ∷ []
  pub known : is_front t (front_in t y) ≡ true

-- what stands at a place has the prefix and the byte of what stood there, or is the new node
data Was (t : List Entry) (nodes : List TrieNode) (y w : TrieNode) (m : ℕ) : Type 0 where
  stood : (x : TrieNode) → m < length nodes → get_or nodes m x ≡ x → front_in t x ≡ front_in t w → x.byte ≡ w.byte → Was t nodes y w m
  made : m ≡ length nodes → w ≡ y → Was t nodes y w m

-- the element at a place, whichever default is given
pub same_element : (xs : List TrieNode) (i : ℕ) (x y : TrieNode) → i < length xs → get_or xs i x ≡ x → y ≡ get_or xs i y → y ≡ x
same_element xs i x y l e f = get_or_read xs i y l f x ∙ e

-- the default for a node that isn't there
pub no_node : TrieNode
no_node = record { name = 0; depth = 0; ends = None; byte = 0; first = 0; count = 0 }

pub own_element : (xs : List TrieNode) (i : ℕ) (d : TrieNode) → i < length xs → get_or xs i (get_or xs i d) ≡ get_or xs i d
own_element [] i d l = absurd (omega arith)
own_element (x ∷ xs) zero d l = refl
own_element (x ∷ xs) (suc i) d l = own_element xs i d (omega arith)

too_long : (q : List ℕ) (c : ℕ) → q ≡ q ++ c ∷ [] → ⊥
too_long q c e = let l = ap length e ∙ length_push q c in omega arith

module _ (t : List Entry) (nodes : List TrieNode) (at byte : ℕ) (node y : TrieNode) (g : Grows t nodes at byte node y) where
  abbrev z : TrieNode
  z = adopted node (length nodes)

  fs : List (List ℕ)
  fs = fronts_of t nodes

  new : List TrieNode
  new = set (nodes ++ y ∷ []) at z

  same : front_in t z ≡ front_in t node
  unfolding front_in
  same = refl

  grown_fronts : fronts_of t new ≡ fs ++ front_in t y ∷ []
  unfolding fs new
  grown_fronts = fronts_grown t nodes at y z g.inside (front_at_place t nodes at node g.inside g.is ∙ sym same)

  grown_length : length new ≡ length nodes + 1
  unfolding new
  grown_length = length-set (nodes ++ y ∷ []) at z ∙ length_push nodes y

  -- a child of the node by the byte was there
  no_child : (m : ℕ) (x : TrieNode) → m < length nodes → get_or nodes m x ≡ x → front_in t x ≡ front_in t y → ⊥
  no_child m x l e f =
      let k = g.web.kin at node g.inside g.is in
      let h : front_in t x ≡ front_in t node ++ byte ∷ [] = f ∙ g.front in
      let a = k.all m x byte l e h in
      let d = k.down m x a e in
      g.unknown m x a e ((same_from_push (front_in t node) (front_in t node) x.byte byte (sym d ∙ h)).1)

  absent : place (front_in t y) fs ≡ None
  unfolding fs
  absent = by_place (place (front_in t y) (fronts_of t nodes)) refl
    where
      by_place : (o : Option ℕ) → place (front_in t y) (fronts_of t nodes) ≡ o → o ≡ None
      by_place None e = refl
      by_place (Some m) e =
          let s = place_stands (front_in t y) (fronts_of t nodes) m e in
          let l : m < length nodes = omega (arith, s.inside, length_fronts t nodes) in
          let o = own_element nodes m node l in
          absurd (no_child m (get_or nodes m node) l o (sym (front_at_place t nodes m (get_or nodes m node) l o) ∙ s.is))

  not_there : (q : List ℕ) → front_in t y ≡ q → is_some (place q fs) ≡ true → ⊥
  not_there q e h = let a = absent in let b : is_some (place q fs) ≡ false = rw (sym e, a) refl in cc

  was : (m : ℕ) (w : TrieNode) → Which nodes at y z w m → Was t nodes y w m
  was m w (changed e) = stood node g.inside g.is (subst (λ x. front_in t node ≡ front_in t x) (sym e) (sym same)) (subst (λ (x : TrieNode). node.byte ≡ x.byte) (sym e) refl)
  was m w (last e) = made refl e
  was m w (old n d l e) = stood w l e refl refl

  was_in : (m : ℕ) (w : TrieNode) → m < length new → get_or new m w ≡ w → Was t nodes y w m
  unfolding new
  was_in m w l e = was m w (which nodes at y z w m g.inside (omega (arith, grown_length)) e)

  -- an old node with the prefix of the node is the node
  is_at : (n : ℕ) (x : TrieNode) → n < length nodes → get_or nodes n x ≡ x → front_in t x ≡ front_in t node → n ≡ at
  is_at n x l e f =
      let p = front_at_place t nodes n x l e in
      let q = front_at_place t nodes at node g.inside g.is in
      apart_same (fronts_of t nodes) g.web.apart n at (omega (arith, length_fronts t nodes, l)) (omega (arith, length_fronts t nodes, g.inside)) (p ∙ f ∙ sym q)

  kin_changed : IsKin t new z
  kin_changed = record {
    within = omega (arith, (spans node (length nodes) g.side).end, grown_length);
    down = λ m w a e. down m w a (was_in m w (omega (arith, a.1, (spans node (length nodes) g.side).end, grown_length)) e);
    all = λ m w c l e f. all m w c f (was_in m w l e);
  }
    where
      down : (m : ℕ) (w : TrieNode) → IsAmong z m → Was t nodes y w m → front_in t w ≡ front_in t z ++ w.byte ∷ []
      down m w a (stood x l e f b) = let k = g.web.kin at node g.inside g.is in sym f ∙ k.down m x ((spans node (length nodes) g.side).before m l a.0) e ∙ ap (λ c. front_in t node ++ c ∷ []) b ∙ ap (λ q. q ++ w.byte ∷ []) (sym same)
      down m w a (made e f) = ap (front_in t) f ∙ g.front ∙ ap (λ q. q ++ byte ∷ []) (sym same) ∙ ap (λ c. front_in t z ++ c ∷ []) (sym (ap (λ (v : TrieNode). v.byte) f ∙ g.by))

      all : (m : ℕ) (w : TrieNode) (c : ℕ) → front_in t w ≡ front_in t z ++ c ∷ [] → Was t nodes y w m → IsAmong z m
      all m w c h (stood x l e f b) =
          let k = g.web.kin at node g.inside g.is in
          let a = k.all m x c l e (f ∙ h ∙ ap (λ q. q ++ c ∷ []) same) in
          ((spans node (length nodes) g.side).keeps m a, omega (arith, (spans node (length nodes) g.side).end))
      all m w c h (made e f) = (omega (arith, (spans node (length nodes) g.side).last), omega (arith, (spans node (length nodes) g.side).end))

  none_follows : (m : ℕ) (w : TrieNode) (c : ℕ) → front_in t w ≡ front_in t y ++ c ∷ [] → Was t nodes y w m → ⊥
  unfolding fs front_in
  none_follows m w c h (made e f) = too_long (front_in t y) c (subst (λ v. front_in t v ≡ front_in t y ++ c ∷ []) f h)
  none_follows m w c h (stood x l e f b) =
      let p = front_at_place t nodes m x l e ∙ f ∙ h in
      let s = place_some (front_in t y ++ c ∷ []) (fronts_of t nodes) m (omega (arith, length_fronts t nodes)) p in
      not_there (front_in t y) refl (g.web.closed (front_in t y) c refl s)

  kin_last : IsKin t new y
  kin_last = record {
    within = omega (arith, g.start, g.childless);
    down = λ m w a e. absurd (omega (arith, a.0, a.1, g.start, g.childless));
    all = λ m w c l e f. absurd (none_follows m w c f (was_in m w l e));
  }

  kin_old : (n : ℕ) (x : TrieNode) → (n ≡ at → ⊥) → n < length nodes → get_or nodes n x ≡ x → IsKin t new x
  kin_old n x d l i = record {
    within = omega (arith, (g.web.kin n x l i).within, grown_length);
    down = λ m w a e. down m w a (was_in m w (omega (arith, a.1, (g.web.kin n x l i).within, grown_length)) e);
    all = λ m w c k e f. all m w c f (was_in m w k e);
  }
    where
      down : (m : ℕ) (w : TrieNode) → IsAmong x m → Was t nodes y w m → front_in t w ≡ front_in t x ++ w.byte ∷ []
      down m w a (stood v k e f b) = sym f ∙ (g.web.kin n x l i).down m v a e ∙ ap (λ c. front_in t x ++ c ∷ []) b
      down m w a (made e f) = absurd (omega (arith, a.1, (g.web.kin n x l i).within))

      all : (m : ℕ) (w : TrieNode) (c : ℕ) → front_in t w ≡ front_in t x ++ c ∷ [] → Was t nodes y w m → IsAmong x m
      all m w c h (stood v k e f b) = (g.web.kin n x l i).all m v c k e (f ∙ h)
      all m w c h (made e f) =
          let j : front_in t node ++ byte ∷ [] ≡ front_in t x ++ c ∷ [] = sym g.front ∙ subst (λ v. front_in t v ≡ front_in t x ++ c ∷ []) f h in
          absurd (d (is_at n x l i (sym ((same_from_push (front_in t node) (front_in t x) byte c j).0))))

  kin_grown : (n : ℕ) (x : TrieNode) → Which nodes at y z x n → IsKin t new x
  kin_grown n x (changed e) = subst (λ w. IsKin t new w) (sym e) kin_changed
  kin_grown n x (last e) = subst (λ w. IsKin t new w) (sym e) kin_last
  kin_grown n x (old m d l e) = kin_old m x d l e

  closed_grown : (q : List ℕ) (c : ℕ) → is_null q ≡ false → is_some (place (q ++ c ∷ []) (fs ++ front_in t y ∷ [])) ≡ true → is_some (place q (fs ++ front_in t y ∷ [])) ≡ true
  unfolding fs
  closed_grown q c h s = by_test (bytes_eq (front_in t y) (q ++ c ∷ [])) refl
    where
      stays : (o : Option ℕ) → place q fs ≡ o → is_some o ≡ true → is_some (place q (fs ++ front_in t y ∷ [])) ≡ true
      stays None e k = absurd (cc)
      stays (Some n) e k = rw (place_stays q (front_in t y) fs n e) refl

      by_test : (b : Bool) → bytes_eq (front_in t y) (q ++ c ∷ []) ≡ b → is_some (place q (fs ++ front_in t y ∷ [])) ≡ true
      by_test true e =
          let i : front_in t y ≡ q ++ c ∷ [] = (bytes_eq-Decides (front_in t y) (q ++ c ∷ [])).0 e in
          let s' : front_in t node ≡ q = (same_from_push (front_in t node) q byte c (sym g.front ∙ i)).0 in
          let p = front_at_place t nodes at node g.inside g.is in
          let l : at < length (fronts_of t nodes) = omega (arith, length_fronts t nodes, g.inside) in
          stays (Some at) (rw (sym (p ∙ s')) (g.web.apart at l)) refl
      by_test false e =
          let d = place_other (q ++ c ∷ []) (front_in t y) fs (λ i. differs i e) in
          stays (place q fs) refl (g.web.closed q c h (rw (sym d) s))
        where
          differs : front_in t y ≡ q ++ c ∷ [] → bytes_eq (front_in t y) (q ++ c ∷ []) ≡ false → ⊥
          differs i f = let b = (bytes_eq-Decides (front_in t y) (q ++ c ∷ [])).1 i in cc

  led_grown : (n : ℕ) (x : TrieNode) → Was t nodes y x n → (front_in t x ≡ 38 ∷ []) ⊎ (is_front t (front_in t x) ≡ true)
  led_grown n x (stood w l e f b) = subst (λ q. (q ≡ 38 ∷ []) ⊎ (is_front t q ≡ true)) f (g.web.led n w l e)
  led_grown n x (made e f) = inr (rw f g.known)

  web_grown : IsWeb t new
  unfolding fs new
  web_grown = record {
    some = omega (arith, grown_length);
    root = rw grown_fronts (get_or_append_left (fronts_of t nodes) (front_in t y ∷ []) [] 0 (omega (arith, length_fronts t nodes, g.web.some)) ∙ g.web.root);
    apart = rw grown_fronts (apart_push (fronts_of t nodes) (front_in t y) g.web.apart absent);
    kin = λ n x l e. kin_grown n x (which nodes at y z x n g.inside (omega (arith, grown_length)) e);
    closed = λ q c h s. rw grown_fronts (closed_grown q c h (rw grown_fronts at s));
    led = λ n x l e. led_grown n x (was_in n x l e);
  }

-- ---- the same, written out

pub fronts_grow : (t : List Entry) (nodes : List TrieNode) (at byte : ℕ) (node y : TrieNode) → Grows t nodes at byte node y → fronts_of t (set (nodes ++ y ∷ []) at (adopted node (length nodes))) ≡ fronts_of t nodes ++ front_in t y ∷ []
unfolding fs new
fronts_grow t nodes at byte node y g = grown_fronts t nodes at byte node y g

pub web_grows : (t : List Entry) (nodes : List TrieNode) (at byte : ℕ) (node y : TrieNode) → Grows t nodes at byte node y → IsWeb t (set (nodes ++ y ∷ []) at (adopted node (length nodes)))
unfolding new
web_grows t nodes at byte node y g = web_grown t nodes at byte node y g

pub front_absent : (t : List Entry) (nodes : List TrieNode) (at byte : ℕ) (node y : TrieNode) → Grows t nodes at byte node y → place (front_in t y) (fronts_of t nodes) ≡ None
unfolding fs
front_absent t nodes at byte node y g = absent t nodes at byte node y g

-- a child that was found
pub finds : (nodes : List TrieNode) (at byte name depth child : ℕ) → at < length nodes → IsFound nodes at byte (Some child) → Steps nodes nodes at byte name depth child
finds nodes at byte name depth child l f =
    let e = own_element nodes at no_node l in
    inl (record { node = get_or nodes at no_node; is = e; known = f (get_or nodes at no_node) e; same = refl })
