-- What a whole trie gives: children, names, nodes.
use Rattle.std.proofs.Common.{◌≡◌, ℕ, zero, suc, ◌+◌, ◌<◌, ◌⊎◌, inl, inr, Bool, true, false, cond, List, [], ◌∷◌, ◌++◌, length, get_or, Option, Some, None, option_map, IfSome, refl, sym, ap, ◌∙◌, subst, arith, bytes_eq, is_some, append_assoc, append-nil}
use Rattle.std.proofs.lemmas.List.{get_or_read, get_or-map, length-map, length_push, same_from_push}
use Rattle.std.specs.Option.{MatchOption}
use Rattle.hm_base.specs.Bytes.{is_null}
use Rattle.hm_refs.specs.Names.{Entry, begins, is_front, child_of, points_of, is_name}
use Rattle.hm_refs.specs.Tables.{names_in, no_entry, entry_at, TableView, front_at, IsNode, NodeAt, IsTrie}
use Rattle.hm_refs.specs.Nodes.{front_in, fronts_of, place, IsChildBy, HasNoChildBy, IsFound, AreApart, IsWeb, IsWhole}
use Rattle.hm_refs.specs.declared.nodes.TrieNode.{TrieNode}
use Rattle.hm_refs.proofs.Places.{place_stands, apart_same}
use Rattle.hm_refs.proofs.Splits.{begins_split}
use Rattle.hm_refs.proofs.Webs.{front_at_place, length_fronts, no_node, own_element}

-- ---- prefixes of names by their numbers

pub record FrontOf (t : List Entry) (q : List ℕ) : Type 0 where
  pub number : ℕ
  pub inside : number < length t
  pub begins_so : begins q (entry_at t number).name ≡ true

front_later : (e : Entry) (t : List Entry) (q : List ℕ) → FrontOf t q → FrontOf (e ∷ t) q
front_later e t q f = record { number = suc f.number; inside = omega (arith, f.inside); begins_so = f.begins_so }

pub front_of : (t : List Entry) (q : List ℕ) → is_front t q ≡ true → FrontOf t q
front_of [] q h = absurd (cc)
front_of (e ∷ t) q h = by_test (begins q e.name) refl (front_of t q) h
  where
    by_test : (b : Bool) → begins q e.name ≡ b → (is_front t q ≡ true → FrontOf t q) → cond b true (is_front t q) ≡ true → FrontOf (e ∷ t) q
    by_test true i more k = record { number = 0; inside = omega arith; begins_so = i }
    by_test false i more k = front_later e t q (more k)

null_no : (q : List ℕ) (c : ℕ) → is_null (q ++ c ∷ []) ≡ false
null_no [] c = refl
null_no (x ∷ q) c = refl

too_short : (q : List ℕ) → is_null q ≡ false → length q + 1 ≡ 1 → ⊥
too_short [] h e = cc
too_short (x ∷ q) h e = omega arith

-- a prefix of a node's bytes is a node
closed_front : (t : List Entry) (nodes : List TrieNode) → IsWeb t nodes → (q m : List ℕ) → is_null q ≡ false → is_some (place (q ++ m) (fronts_of t nodes)) ≡ true → is_some (place q (fronts_of t nodes)) ≡ true
closed_front t nodes w q [] e h = subst (λ n. is_some (place n (fronts_of t nodes)) ≡ true) (append-nil q) h
closed_front t nodes w q (c ∷ m) e h =
    w.closed q c e (closed_front t nodes w (q ++ c ∷ []) m (null_no q c) (subst (λ n. is_some (place n (fronts_of t nodes)) ≡ true) (sym (append_assoc q (c ∷ []) m)) h))

some_fronts : (t : List Entry) (nodes : List TrieNode) (n : ℕ) → n < length (fronts_of t nodes) → is_null (get_or (fronts_of t nodes) n []) ≡ false
unfolding front_in
some_fronts t [] n l = absurd (omega arith)
some_fronts t (x ∷ nodes) zero l = refl
some_fronts t (x ∷ nodes) (suc n) l = some_fronts t nodes n (omega arith)

module _ (t : List Entry) (nodes : List TrieNode) (places : List ℕ) (w : IsWhole t nodes places) where
  -- each prefix of a name has a node
  front_placed : (q : List ℕ) → is_null q ≡ false → is_front t q ≡ true → is_some (place q (fronts_of t nodes)) ≡ true
  front_placed q e h =
      let f = front_of t q h in
      let s = begins_split q (entry_at t f.number).name f.begins_so in
      closed_front t nodes w.web q s.more e (subst (λ n. is_some (place n (fronts_of t nodes)) ≡ true) s.whole (ap is_some (w.placed f.number f.inside)))

  node_is : (n : ℕ) → n < length (fronts_of t nodes) → IsNode (record { entries = t; fronts = fronts_of t nodes }) n
  node_is n l = record { inside = l; only = λ m k e. apart_same (fronts_of t nodes) w.web.apart m n k l e }

  node_at : (q : List ℕ) → is_some (place q (fronts_of t nodes)) ≡ true → NodeAt (record { entries = t; fronts = fronts_of t nodes }) q
  node_at q h = by_place (place q (fronts_of t nodes)) refl h
    where
      by_place : (o : Option ℕ) → place q (fronts_of t nodes) ≡ o → is_some o ≡ true → NodeAt (record { entries = t; fronts = fronts_of t nodes }) q
      by_place None e k = absurd (cc)
      by_place (Some n) e k = let s = place_stands q (fronts_of t nodes) n e in (n, s.inside, s.is)

  -- a node's bytes are '&' or a prefix of a name
  front_led : (n : ℕ) → n < length (fronts_of t nodes) → (get_or (fronts_of t nodes) n [] ≡ 38 ∷ []) ⊎ (is_front t (get_or (fronts_of t nodes) n []) ≡ true)
  front_led n l =
      let k : n < length nodes = omega (arith, length_fronts t nodes) in
      let e = own_element nodes n no_node k in
      subst (λ q. (q ≡ 38 ∷ []) ⊎ (is_front t q ≡ true)) (sym (front_at_place t nodes n (get_or nodes n no_node) k e)) (w.web.led n (get_or nodes n no_node) k e)

  -- the node of one byte more
  child_place : (n byte : ℕ) (x : TrieNode) → n < length nodes → get_or nodes n x ≡ x → (o : Option ℕ) → MatchOption o (HasNoChildBy nodes x byte) (IsChildBy nodes x byte) → o ≡ place (front_in t x ++ byte ∷ []) (fronts_of t nodes)
  child_place n byte x l e (Some m) h =
      let kin = w.web.kin n x l e in
      let inside : m < length nodes = omega (arith, h.among.1, kin.within) in
      let i = own_element nodes m x inside in
      let f : get_or (fronts_of t nodes) m [] ≡ front_in t x ++ byte ∷ [] = front_at_place t nodes m (get_or nodes m x) inside i ∙ kin.down m (get_or nodes m x) h.among i ∙ ap (λ c. front_in t x ++ c ∷ []) (h.by (get_or nodes m x) i) in
      sym (subst (λ q. place q (fronts_of t nodes) ≡ Some m) f (w.web.apart m (omega (arith, inside, length_fronts t nodes))))
  child_place n byte x l e None h = by_place (place (front_in t x ++ byte ∷ []) (fronts_of t nodes)) refl
    where
      by_place : (r : Option ℕ) → place (front_in t x ++ byte ∷ []) (fronts_of t nodes) ≡ r → None ≡ r
      by_place None f = refl
      by_place (Some m) f =
          let s = place_stands (front_in t x ++ byte ∷ []) (fronts_of t nodes) m f in
          let inside : m < length nodes = omega (arith, s.inside, length_fronts t nodes) in
          let i = own_element nodes m x inside in
          let kin = w.web.kin n x l e in
          let g : front_in t (get_or nodes m x) ≡ front_in t x ++ byte ∷ [] = sym (front_at_place t nodes m (get_or nodes m x) inside i) ∙ s.is in
          let a = kin.all m (get_or nodes m x) byte inside i g in
          let d = kin.down m (get_or nodes m x) a i in
          absurd (h m (get_or nodes m x) a i ((same_from_push (front_in t x) (front_in t x) (get_or nodes m x).byte byte (sym d ∙ g)).1))

  -- what is found for a byte
  module _ (n byte : ℕ) (l : n < length nodes) (o : Option ℕ) (found : IsFound nodes n byte o) where
    abbrev view : TableView
    view = record { entries = t; fronts = fronts_of t nodes }

    found_place : o ≡ place (front_at view n ++ byte ∷ []) (fronts_of t nodes)
    found_place =
        let e = own_element nodes n no_node l in
        child_place n byte (get_or nodes n no_node) l e o (found (get_or nodes n no_node) e) ∙ ap (λ q. place (q ++ byte ∷ []) (fronts_of t nodes)) (sym (front_at_place t nodes n (get_or nodes n no_node) l e))

    child_leads : option_map (front_at view) o ≡ child_of t (front_at view n) byte
    unfolding child_of
    child_leads = by_place o found_place (is_front t (front_at view n ++ byte ∷ [])) refl
      where
        by_led : {q : List ℕ} → (q ≡ 38 ∷ []) ⊎ (is_front t q ≡ true) → q ≡ front_at view n ++ byte ∷ [] → is_front t (front_at view n ++ byte ∷ []) ≡ false → ⊥
        by_led (inl i) e f = let m = ap length (sym i ∙ e) ∙ length_push (front_at view n) byte in let k = some_fronts t nodes n (omega (arith, length_fronts t nodes)) in too_short (front_at view n) k (omega arith)
        by_led (inr i) e f = let j : is_front t (front_at view n ++ byte ∷ []) ≡ true = subst (λ p. is_front t p ≡ true) e i in cc

        by_place : (r : Option ℕ) → r ≡ place (front_at view n ++ byte ∷ []) (fronts_of t nodes) → (b : Bool) → is_front t (front_at view n ++ byte ∷ []) ≡ b
            → option_map (front_at view) r ≡ cond b (Some (front_at view n ++ byte ∷ [])) None
        by_place (Some m) e true f = let s = place_stands (front_at view n ++ byte ∷ []) (fronts_of t nodes) m (sym e) in ap Some s.is
        by_place (Some m) e false f =
            let s = place_stands (front_at view n ++ byte ∷ []) (fronts_of t nodes) m (sym e) in
            absurd (by_led (front_led m s.inside) s.is f)
        by_place None e true f = absurd (let h = front_placed (front_at view n ++ byte ∷ []) (null_no (front_at view n) byte) f in let i : is_some (place (front_at view n ++ byte ∷ []) (fronts_of t nodes)) ≡ false = rw (sym e) refl in cc)
        by_place None e false f = refl

-- ---- names by their places

pub points_place : (t : List Entry) (q : List ℕ) → points_of t q ≡ option_map (λ i. (entry_at t i).points) (place q (names_in t))
points_place [] q = refl
points_place (e ∷ t) q = by_test (bytes_eq e.name q) (place q (names_in t)) (points_place t q)
  where
    by_test : (b : Bool) (o : Option ℕ) → points_of t q ≡ option_map (λ i. (entry_at t i).points) o
        → cond b (Some e.points) (points_of t q) ≡ option_map (λ i. (entry_at (e ∷ t) i).points) (cond b (Some 0) (option_map suc o))
    by_test true o h = refl
    by_test false None h = h
    by_test false (Some i) h = h

pub name_place : (t : List Entry) (q : List ℕ) → is_name t q ≡ is_some (place q (names_in t))
unfolding is_name
name_place t q = ap is_some (points_place t q) ∙ by_place (place q (names_in t))
  where
    by_place : (o : Option ℕ) → is_some (option_map (λ i. (entry_at t i).points) o) ≡ is_some o
    by_place None = refl
    by_place (Some i) = refl

-- a name that was found by its place
pub record NamedAt (t : List Entry) (q : List ℕ) (i : ℕ) : Type 0 where
  pub inside : i < length t
  pub is : (entry_at t i).name ≡ q
  pub own : points_of t q ≡ Some (entry_at t i).points

pub named_at : (t : List Entry) (q : List ℕ) (i : ℕ) → place q (names_in t) ≡ Some i → NamedAt t q i
named_at t q i h =
    let s = place_stands q (names_in t) i h in
    let l : i < length t = omega (arith, s.inside, length-map t (λ (e : Entry). e.name)) in
    record {
      inside = l;
      is = sym (get_or-map (λ (e : Entry). e.name) t i no_entry [] l) ∙ s.is;
      own = points_place t q ∙ ap (λ o. option_map (λ i. (entry_at t i).points) o) h;
    }

-- a place among the names gives a name
pub named_so : (t : List Entry) (q : List ℕ) (o : Option ℕ) → o ≡ place q (names_in t) → (is_some o ≡ is_name t q) × IfSome o (λ i. i < length t) × IfSome o (λ i. (entry_at t i).name ≡ q)
named_so t q None e = (ap is_some e ∙ sym (name_place t q), tt, tt)
named_so t q (Some i) e = let m = named_at t q i (sym e) in (ap is_some e ∙ sym (name_place t q), m.inside, m.is)

-- each name is found at its own place
pub own_place : (t : List Entry) → AreApart (names_in t) → (i : ℕ) → i < length t → place (entry_at t i).name (names_in t) ≡ Some i
own_place t a i l =
    subst (λ q. place q (names_in t) ≡ Some i) (get_or-map (λ (e : Entry). e.name) t i no_entry [] l) (a i (omega (arith, length-map t (λ (e : Entry). e.name))))

-- ---- what a trie gives

module _ (t : List Entry) (nodes : List TrieNode) (places : List ℕ) (w : IsWhole t nodes places) where
  abbrev seen : TableView
  seen = record { entries = t; fronts = fronts_of t nodes }

  pub is_trie : IsTrie seen
  is_trie = record {
    nodes = λ n l. node_is t nodes places w n l;
    some = λ n l. some_fronts t nodes n l;
    root = (0, omega (arith, length_fronts t nodes, w.web.some), w.web.root);
    all = λ q e h. node_at t nodes places w q (front_placed t nodes places w q e h);
  }

  pub node_leads : (n byte : ℕ) (o : Option ℕ) → n < length nodes → IsFound nodes n byte o → option_map (front_at seen) o ≡ child_of t (front_at seen n) byte
  node_leads n byte o l f = child_leads t nodes places w n byte l o f

  pub node_child : (n byte : ℕ) (o : Option ℕ) → n < length nodes → IsFound nodes n byte o → IfSome o (IsNode seen)
  node_child n byte None l f = tt
  node_child n byte (Some m) l f =
      let p = found_place t nodes places w n byte l (Some m) f in
      let s = place_stands (front_at seen n ++ byte ∷ []) (fronts_of t nodes) m (sym p) in
      node_is t nodes places w m s.inside

  pub place_node : (i : ℕ) → i < length t → IsNode seen (get_or places i 0)
  place_node i l = let s = place_stands (entry_at t i).name (fronts_of t nodes) (get_or places i 0) (w.placed i l) in node_is t nodes places w (get_or places i 0) s.inside

  pub place_front : (i : ℕ) → i < length t → front_at seen (get_or places i 0) ≡ (entry_at t i).name
  place_front i l = let s = place_stands (entry_at t i).name (fronts_of t nodes) (get_or places i 0) (w.placed i l) in s.is

-- ---- the same of a table that is seen so

pub leads_of : (t : List Entry) (nodes : List TrieNode) (places : List ℕ) (v : TableView) (n index byte : ℕ) (o : Option ℕ) → IsWhole t nodes places → record { entries = t; fronts = fronts_of t nodes } ≡ v → n < length v.fronts → index ≡ n
    → IsFound nodes index byte o → (option_map (front_at v) o ≡ child_of v.entries (front_at v n) byte) × IfSome o (IsNode v)
leads_of t nodes places v n index byte o w is l i f =
    let k : n < length nodes = omega (arith, ap (λ (u : TableView). length u.fronts) is, length_fronts t nodes) in
    let g : IsFound nodes n byte o = subst (λ m. IsFound nodes m byte o) i f in
    subst (λ (u : TableView). (option_map (front_at u) o ≡ child_of u.entries (front_at u n) byte) × IfSome o (IsNode u)) is (node_leads t nodes places w n byte o k g, node_child t nodes places w n byte o k g)

pub place_of : (t : List Entry) (nodes : List TrieNode) (places : List ℕ) (v : TableView) (i index node : ℕ) → IsWhole t nodes places → record { entries = t; fronts = fronts_of t nodes } ≡ v → i < length v.entries → index ≡ i
    → node ≡ get_or places index node → (front_at v node ≡ (entry_at v.entries i).name) × IsNode v node
place_of t nodes places v i index node w is l e f =
    let k : i < length t = omega (arith, ap (λ (u : TableView). length u.entries) is) in
    let g : node ≡ get_or places i 0 = get_or_read places i node (omega (arith, w.as_long)) (subst (λ m. node ≡ get_or places m node) e f) 0 in
    subst (λ (u : TableView). (front_at u node ≡ (entry_at u.entries i).name) × IsNode u node) is (rw g (place_front t nodes places w i k, place_node t nodes places w i k))
