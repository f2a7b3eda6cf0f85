-- Tests, which the checker computes, that constants are a table with its trie.
use Rattle.std.proofs.Common.{◌≡◌, ℕ, zero, suc, ◌+◌, ◌/◌, ◌%◌, ◌<◌, ◌≤◌, ◌⊎◌, inl, inr, Bool, true, false, cond, not, ◌&&◌, ◌||◌, ◌==◌, nat_lt, List, [], ◌∷◌, filter, map, length, get_or, take, drop, Option, Some, None, Ok, refl, sym, ap, ◌∙◌, subst, arith, bytes_eq, is_some, count_by}
use Rattle.std.proofs.lemmas.Bool.{cases_lt, ltb-true}
use Rattle.std.proofs.lemmas.Nat.{mod_below}
use Rattle.std.proofs.lemmas.Slice.Eq.{bytes_eq-Decides}
use Rattle.std.specs.List.{list_all}
use Rattle.hm_base.specs.Bytes.{head_is}
use Rattle.hm_refs.specs.declared.limits.TheConstants.{ALIKE_LIMIT, NAMES_LIMIT, OPEN_LIMIT}
use Rattle.hm_refs.specs.Names.{Entry, is_good_name}
use Rattle.hm_refs.specs.Tables.{are_points, is_for, is_open_for, names_in, no_entry, entry_at, IsGathered}
use Rattle.hm_refs.specs.Json.{checked, first_lone, if_crowded, is_crowded, least_crowded}
use Rattle.hm_refs.specs.Nodes.{front_in, fronts_of, place, place_at, AreApart, ArePlaces, IsPut}
use Rattle.hm_refs.specs.Ready.{IsReady}
use Rattle.hm_refs.specs.declared.nodes.TrieNode.{TrieNode}
use Rattle.hm_refs.proofs.Bools.{and_left, and_right, eq_of}
use Rattle.hm_refs.proofs.FirstsLaws.{count_cons}
use Rattle.hm_refs.proofs.Gathered.{few_points, gathered_names, table_of}
use Rattle.hm_refs.proofs.Picks.{blocks, pick, picked}
use Rattle.hm_refs.proofs.ReadyTrie.{are_spread, web}
use Rattle.hm_refs.proofs.Sortings.{rises, sorted, with_length, apart_by_length}
use Rattle.hm_refs.proofs.Webs.{length_fronts}

-- ---- prefixes, with the names in blocks of 48

abbrev pub front_by : List (List Entry) → TrieNode → List ℕ
front_by bs x = 38 ∷ take x.depth (drop 1 (pick 48 bs x.name no_entry).name)

abbrev pub fronts_by : List (List Entry) → List TrieNode → List (List ℕ)
fronts_by bs nodes = map (front_by bs) nodes

-- its name is one of n names in k blocks, and no name ends at it yet
abbrev pub is_named : ℕ → ℕ → TrieNode → Bool
is_named n k x = (nat_lt x.name n && nat_lt (x.name / 48) k) && not (is_some x.ends)

not_less : (m n : ℕ) → m ≤ n → nat_lt n m ≡ false
not_less m n l = grind arith

fronts_same : (n k : ℕ) (t : List Entry) (nodes : List TrieNode) → list_all (is_named n k) nodes ≡ true → fronts_by (blocks k 48 t) nodes ≡ fronts_of t nodes
unfolding front_in
fronts_same n k t [] h = refl
fronts_same n k t (x ∷ nodes) h =
    let a = and_left (nat_lt x.name n && nat_lt (x.name / 48) k) _ (and_left (is_named n k x) _ h) in
    let l = ltb-true (x.name / 48) k (and_right (nat_lt x.name n) _ a) in
    rw (picked k 48 t x.name no_entry l, fronts_same n k t nodes (and_right (is_named n k x) _ h)) refl

named_at : (n k : ℕ) (nodes : List TrieNode) (i : ℕ) (x : TrieNode) → list_all (is_named n k) nodes ≡ true → i < length nodes → get_or nodes i x ≡ x → (x.name < n) × (x.ends ≡ None)
named_at n k [] i x h l e = absurd (omega arith)
named_at n k (y ∷ nodes) zero x h l e = subst (λ (z : TrieNode). (z.name < n) × (z.ends ≡ None)) e (here (and_left (is_named n k y) _ h))
  where
    none_of : (o : Option ℕ) → not (is_some o) ≡ true → o ≡ None
    none_of None i = refl
    none_of (Some m) i = absurd (cc)

    here : is_named n k y ≡ true → (y.name < n) × (y.ends ≡ None)
    here i =
        let a = and_left (nat_lt y.name n && nat_lt (y.name / 48) k) _ i in
        (ltb-true y.name n (and_left (nat_lt y.name n) _ a), none_of y.ends (and_right (nat_lt y.name n && nat_lt (y.name / 48) k) _ i))
named_at n k (y ∷ nodes) (suc i) x h l e = named_at n k nodes i x (and_right (is_named n k y) _ h) (omega arith) e

-- ---- the node of each name, with m prefixes in k blocks of 104

abbrev pub is_placed : ℕ → ℕ → List (List (List ℕ)) → Entry → ℕ → Bool
is_placed m k bs e p = (nat_lt p m && nat_lt (p / 104) k) && bytes_eq (pick 104 bs p []) e.name

abbrev pub are_placed : ℕ → ℕ → List (List (List ℕ)) → List Entry → List ℕ → Bool
are_placed m k bs [] [] = true
are_placed m k bs [] (p ∷ ps) = false
are_placed m k bs (e ∷ t) [] = false
are_placed m k bs (e ∷ t) (p ∷ ps) = is_placed m k bs e p && are_placed m k bs t ps

placed_long : (m k : ℕ) (bs : List (List (List ℕ))) (t : List Entry) (ps : List ℕ) → are_placed m k bs t ps ≡ true → length ps ≡ length t
placed_long m k bs [] [] h = refl
placed_long m k bs [] (p ∷ ps) h = absurd (cc)
placed_long m k bs (e ∷ t) [] h = absurd (cc)
placed_long m k bs (e ∷ t) (p ∷ ps) h = let l = placed_long m k bs t ps (and_right (is_placed m k bs e p) _ h) in omega (arith, l)

placed_at : (m k : ℕ) (fs : List (List ℕ)) (t : List Entry) (ps : List ℕ) → are_placed m k (blocks k 104 fs) t ps ≡ true → (i : ℕ) → i < length t → (place_at ps i < m) × (get_or fs (place_at ps i) [] ≡ (entry_at t i).name)
placed_at m k fs [] ps h i l = absurd (omega arith)
placed_at m k fs (e ∷ t) [] h i l = absurd (cc)
placed_at m k fs (e ∷ t) (p ∷ ps) h zero l =
    let a = and_left (is_placed m k (blocks k 104 fs) e p) _ h in
    let b = and_left (nat_lt p m && nat_lt (p / 104) k) _ a in
    let s = (bytes_eq-Decides (pick 104 (blocks k 104 fs) p []) e.name).0 (and_right (nat_lt p m && nat_lt (p / 104) k) _ a) in
    (ltb-true p m (and_left (nat_lt p m) _ b), sym (picked k 104 fs p [] (ltb-true (p / 104) k (and_right (nat_lt p m) _ b))) ∙ s)
placed_at m k fs (e ∷ t) (p ∷ ps) h (suc i) l = placed_at m k fs t ps (and_right (is_placed m k (blocks k 104 fs) e p) _ h) i (omega arith)

are_places : (m k : ℕ) (t : List Entry) (nodes : List TrieNode) (places : List ℕ) → length nodes ≡ m → AreApart (fronts_of t nodes) → are_placed m k (blocks k 104 (fronts_of t nodes)) t places ≡ true → ArePlaces t nodes places
are_places m k t nodes places e apart h i l =
    let p = placed_at m k (fronts_of t nodes) t places h i l in
    subst (λ q. place q (fronts_of t nodes) ≡ Some (place_at places i)) p.1 (apart (place_at places i) (omega (arith, p.0, e, length_fronts t nodes)))

-- ---- names with the same first code point, by the remainders of the points

-- the names whose first code point leaves b
abbrev pub leaves : ℕ → ℕ → Entry → Bool
leaves size b e = head_is (λ p. p % size == b) e.points

abbrev pub bucket : ℕ → ℕ → List Entry → List Entry
bucket size b t = filter (leaves size b) t

abbrev pub is_uncrowded : List Entry → Bool
is_uncrowded t = not (is_some (least_crowded t t))

-- the buckets below n are not crowded
abbrev pub are_uncrowded : ℕ → ℕ → List Entry → Bool
are_uncrowded size zero t = true
are_uncrowded size (suc b) t = is_uncrowded (bucket size b t) && are_uncrowded size b t

uncrowded_at : (size n : ℕ) (t : List Entry) (b : ℕ) → are_uncrowded size n t ≡ true → b < n → least_crowded (bucket size b t) (bucket size b t) ≡ None
uncrowded_at size zero t b h l = absurd (omega arith)
uncrowded_at size (suc n) t b h l = by_order (cases_lt b n) (λ k. uncrowded_at size n t b (and_right (is_uncrowded (bucket size n t)) _ h) k)
  where
    none_of : (o : Option ℕ) → not (is_some o) ≡ true → o ≡ None
    none_of None i = refl
    none_of (Some m) i = absurd (cc)

    by_order : (b < n) ⊎ (n ≤ b) → (b < n → least_crowded (bucket size b t) (bucket size b t) ≡ None) → least_crowded (bucket size b t) (bucket size b t) ≡ None
    by_order (inl k) more = more k
    by_order (inr k) more =
        let e : n ≡ b = omega (arith, k, l) in
        subst (λ c. least_crowded (bucket size c t) (bucket size c t) ≡ None) e (none_of (least_crowded (bucket size n t) (bucket size n t)) (and_left (is_uncrowded (bucket size n t)) _ h))

-- what is counted is kept
count_kept : (p q : Entry → Bool) → ((e : Entry) → p e ≡ true → q e ≡ true) → (t : List Entry) → count_by p (filter q t) ≡ count_by p t
count_kept p q h [] = refl
count_kept p q h (e ∷ t) = by_test (q e) refl (count_kept p q h t)
  where
    no : (b : Bool) → p e ≡ b → q e ≡ false → b ≡ false
    no true i j = let k = h e i in cc
    no false i j = refl

    by_test : (b : Bool) → q e ≡ b → count_by p (filter q t) ≡ count_by p t → count_by p (cond b (e ∷ filter q t) (filter q t)) ≡ count_by p (e ∷ t)
    by_test true i m = count_cons p e (filter q t) ∙ ap (λ n. cond (p e) 1 0 + n) m ∙ sym (count_cons p e t)
    by_test false i m =
        let k : p e ≡ false = no (p e) refl i in
        let z : (◌≡◌ {A = ℕ} (cond (p e) 1 0) 0) = rw k refl in
        omega (arith, m, z, count_cons p e t)

for_leaves : (size c : ℕ) (e : Entry) → is_for c e ≡ true → leaves size (c % size) e ≡ true
for_leaves size c e h = by_points e.points h
  where
    by_points : (ps : List ℕ) → head_is (λ p. p == c) ps ≡ true → head_is (λ p. p % size == c % size) ps ≡ true
    by_points [] i = absurd (cc)
    by_points (p ∷ ps) i = let j = eq_of p c i in rw j (same (c % size))
      where
        same : (n : ℕ) → (n == n) ≡ true
        same n = grind arith

uncrowded : (size : ℕ) (t : List Entry) → 0 < size → are_uncrowded size size t ≡ true → (c : ℕ) → is_crowded t c ≡ false
uncrowded size t s h c =
    let f = few_points (bucket size (c % size) t) (uncrowded_at size size t (c % size) h (mod_below c size s)) c in
    let a = count_kept (is_for c) (leaves size (c % size)) (λ e i. for_leaves size c e i) t in
    let b = count_kept (is_open_for c) (leaves size (c % size)) (λ e i. for_leaves size c e (and_left (is_for c e) _ i)) t in
    by_counts (count_by (is_for c) t) (count_by (is_open_for c) t) (omega (arith, f.0, a)) (omega (arith, f.1, b))
  where
    by_counts : (m n : ℕ) → m ≤ ALIKE_LIMIT → n ≤ OPEN_LIMIT → (nat_lt ALIKE_LIMIT m || nat_lt OPEN_LIMIT n) ≡ false
    by_counts m n i j = grind arith

least_none : (t es : List Entry) → ((c : ℕ) → is_crowded t c ≡ false) → least_crowded t es ≡ None
least_none t [] h = refl
least_none t (e ∷ es) h = rw (by_points e.points, least_none t es h) refl
  where
    by_points : (ps : List ℕ) → if_crowded t ps ≡ None
    by_points [] = refl
    by_points (c ∷ ps) = rw (h c) refl

-- ---- all together

-- what the checker computes of n names and m nodes, in j and k blocks
pub record Computed (n j m k : ℕ) (t : List Entry) (nodes : List TrieNode) (places : List ℕ) : Type 0 where
  pub many : length t ≡ n
  pub few : n ≤ NAMES_LIMIT
  pub ascending : rises (names_in t) ≡ true
  pub good : list_all (λ (e : Entry). is_good_name e.name) t ≡ true
  pub pointed : list_all (λ (e : Entry). are_points e.points) t ≡ true
  pub uncrowded : are_uncrowded 64 64 t ≡ true
  pub paired : first_lone t t ≡ None
  pub nodes_many : length nodes ≡ m
  pub nodes_some : 0 < m
  pub nodes_few : m < 4294967296
  pub named : list_all (is_named n j) nodes ≡ true
  pub root : get_or (fronts_by (blocks j 48 t) nodes) 0 [] ≡ 38 ∷ []
  pub apart : rises (map with_length (fronts_by (blocks j 48 t) nodes)) ≡ true
  pub spread : are_spread 1 (fronts_by (blocks j 48 t) nodes) nodes (drop 1 (fronts_by (blocks j 48 t) nodes)) (drop 1 nodes) ≡ true
  pub placed : are_placed m k (blocks k 104 (fronts_by (blocks j 48 t) nodes)) t places ≡ true

module _ (n j m k : ℕ) (t : List Entry) (nodes : List TrieNode) (places : List ℕ) (c : Computed n j m k t nodes places) where
  gathered : IsGathered t
  gathered = record { ascending = sorted (names_in t) c.ascending; good = c.good; pointed = c.pointed }

  fronts : fronts_by (blocks j 48 t) nodes ≡ fronts_of t nodes
  fronts = fronts_same n j t nodes c.named

  fit : length t ≤ NAMES_LIMIT
  fit = omega (arith, c.many, c.few)

  none_crowded : least_crowded t t ≡ None
  none_crowded = least_none t t (uncrowded 64 t (omega arith) c.uncrowded)

  fronts_apart : AreApart (fronts_of t nodes)
  fronts_apart = apart_by_length (fronts_of t nodes) (subst (λ fs. rises (map with_length fs) ≡ true) fronts c.apart)

  is_put : IsPut t 0 nodes places
  is_put = record {
    names = gathered_names t gathered fit;
    web = web t nodes (omega (arith, c.nodes_many, c.nodes_some)) (subst (λ fs. get_or fs 0 [] ≡ 38 ∷ []) fronts c.root) fronts_apart (subst (λ fs. are_spread 1 fs nodes (drop 1 fs) (drop 1 nodes) ≡ true) fronts c.spread) (gathered_names t gathered fit) (λ i x l e. let a = (named_at n j nodes i x c.named l e).0 in omega (arith, a, c.many));
    few = omega (arith, c.nodes_many, c.nodes_few);
    as_long = placed_long m k (blocks k 104 (fronts_by (blocks j 48 t) nodes)) t places c.placed;
    placed = are_places m k t nodes places c.nodes_many fronts_apart (subst (λ fs. are_placed m k (blocks k 104 fs) t places ≡ true) fronts c.placed);
    ended = λ i x l e. (named_at n j nodes i x c.named l e).1;
  }

  pub ready : IsReady t nodes places
  ready = record { table = table_of t gathered fit none_crowded c.paired; put = is_put }

  -- the names pass the checks of a table that is read
  pub passes_checks : checked t ≡ Ok t
  passes_checks = rw (not_less (length t) NAMES_LIMIT fit, none_crowded, c.paired) refl
