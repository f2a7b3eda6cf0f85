-- What a test says of a whole table, it says of each entry, so of each name.
use Rattle.std.proofs.Common.{◌≡◌, ℕ, Bool, true, false, cond, ◌||◌, ◌&&◌, List, [], ◌∷◌, bytes_eq, refl, sym, inl, inr, Option, Some, None, arith}
use Rattle.std.proofs.lemmas.Slice.Eq.{bytes_eq-Decides}
use Rattle.std.specs.List.{list_all}
use Rattle.std.specs.Option.{is_some}
use Rattle.std.proofs.lemmas.Bool.{or_cases, and_parts, not-true, false_from_ne_true, both_ways}
use Rattle.hm_elements.specs.Names.{words, is_among, PairRow, find, is_among_found, is_pair, head, noscript, div, dl}
use Rattle.hm_elements.specs.Nesting.{is_name, children, noscript_children, own_parents, bound_names, stands_by_parents, stands_by_children, may_stand}

pub same_bytes : (xs ys : List ℕ) → bytes_eq xs ys ≡ true → xs ≡ ys
same_bytes xs ys e = (bytes_eq-Decides xs ys).0 e

pub eq_self : (xs : List ℕ) → bytes_eq xs xs ≡ true
eq_self xs = grind (arith, bytes_eq-Decides)

-- a test of names that holds of each entry of a list
pub entry_passes : (test : List ℕ → Bool) (n : List ℕ) (ms : List (List ℕ)) → list_all test ms ≡ true → is_among n ms ≡ true → test n ≡ true
unfolding is_among
entry_passes test n [] all among = cc
entry_passes test n (m ∷ ms) all among =
    let both : (test m ≡ true) × (list_all test ms ≡ true) = and_parts (test m) (list_all test ms) all in
    elim (or_cases (bytes_eq m n) (is_among n ms) among) [
      | inl e ↦ rw (sym (same_bytes m n e)) both.0
      | inr e ↦ entry_passes test n ms both.1 e
    ]

-- each pair of the table passes
abbrev pub each_pair : (List ℕ → List ℕ → Bool) → List PairRow → Bool
each_pair test [] = true
each_pair test (r ∷ rs) = list_all (λ h. list_all (test h) r.names) r.heads && each_pair test rs

-- the pairs of a row pass
pub row_passes : (test : List ℕ → List ℕ → Bool) (n : List ℕ) (ms : List (List ℕ)) (rows : List PairRow) → each_pair test rows ≡ true → find n rows ≡ Some ms → list_all (test n) ms ≡ true
row_passes test n ms [] all found = cc
row_passes test n ms (r ∷ rs) all found =
    let both : (list_all (λ h. list_all (test h) r.names) r.heads ≡ true) × (each_pair test rs ≡ true) = and_parts (list_all (λ h. list_all (test h) r.names) r.heads) (each_pair test rs) all in
    in_row (is_among n r.heads) refl both.0 (λ h. row_passes test n ms rs both.1 h) found
  where
    in_row : (b : Bool) → is_among n r.heads ≡ b → list_all (λ h. list_all (test h) r.names) r.heads ≡ true → (find n rs ≡ Some ms → list_all (test n) ms ≡ true) → cond b (Some r.names) (find n rs) ≡ Some ms → list_all (test n) ms ≡ true
    in_row true e here below h =
        let is : r.names ≡ ms = cc in
        rw (sym is) (entry_passes (λ h'. list_all (test h') r.names) n r.heads here e)
    in_row false e here below h = below h

pub pair_passes : (test : List ℕ → List ℕ → Bool) (n m : List ℕ) (rows : List PairRow) → each_pair test rows ≡ true → is_pair rows n m ≡ true → test n m ≡ true
pair_passes test n m rows all h = by_row (find n rows) refl h
  where
    by_row : (o : Option (List (List ℕ))) → find n rows ≡ o → is_among_found m o ≡ true → test n m ≡ true
    by_row None e among = cc
    by_row (Some ms) e among = entry_passes (test n) m ms (row_passes test n ms rows all e) among

-- A test of child and parent holds wherever the child may stand, if it holds in each of the tables and of ordinary names.
pub record HoldsInTables (test : List ℕ → List ℕ → Bool) : Type 0 where
  pub children_pass : each_pair (λ t c. test c t) children ≡ true
  pub noscript_passes : list_all (λ c. test c noscript) noscript_children ≡ true
  pub own_parents_pass : each_pair test own_parents ≡ true
  pub div_passes : list_all (λ c. test c div) (words "dt dd") ≡ true
  pub ordinary_passes : (n t : List ℕ) → find t children ≡ None → find n own_parents ≡ None → is_among n bound_names ≡ false → test n t ≡ true

stands_by_own : (test : List ℕ → List ℕ → Bool) → HoldsInTables test → (n t : List ℕ) (g : Option (List ℕ)) → find t children ≡ None → (o : Option (List (List ℕ))) → find n own_parents ≡ o → stands_by_parents o n t g ≡ true → test n t ≡ true
stands_by_own test h n t g alone None e k = h.ordinary_passes n t alone e (not-true (is_among n bound_names) k)
stands_by_own test h n t g alone (Some ps) e k =
    elim (or_cases (is_among t ps) (is_among n (words "dt dd") && (bytes_eq t div && is_name dl g)) k) [
      | inl among ↦ entry_passes (test n) t ps (row_passes test n ps own_parents h.own_parents_pass e) among
      | inr both ↦
          let parts : (is_among n (words "dt dd") ≡ true) × (bytes_eq t div && is_name dl g ≡ true) = and_parts (is_among n (words "dt dd")) (bytes_eq t div && is_name dl g) both in
          let in_div : (bytes_eq t div ≡ true) × (is_name dl g ≡ true) = and_parts (bytes_eq t div) (is_name dl g) parts.1 in
          rw (same_bytes t div in_div.0) (entry_passes (λ c. test c div) n (words "dt dd") h.div_passes parts.0)
    ]

stands_by_row : (test : List ℕ → List ℕ → Bool) → HoldsInTables test → (n t : List ℕ) (g : Option (List ℕ)) (o : Option (List (List ℕ))) → find t children ≡ o → stands_by_children o n t g ≡ true → test n t ≡ true
stands_by_row test h n t g (Some ns) e k = entry_passes (λ c. test c t) n ns (row_passes (λ t' c. test c t') t ns children h.children_pass e) k
stands_by_row test h n t g None e k = stands_by_own test h n t g e (find n own_parents) refl k

pub stands_passes : (test : List ℕ → List ℕ → Bool) → HoldsInTables test → (n t : List ℕ) (g : Option (List ℕ)) → may_stand n t g ≡ true → test n t ≡ true
unfolding may_stand
stands_passes test h n t g k = by_noscript (bytes_eq t noscript && is_name head g) refl k
  where
    by_noscript : (b : Bool) → bytes_eq t noscript && is_name head g ≡ b → cond b (is_among n noscript_children) (stands_by_children (find t children) n t g) ≡ true → test n t ≡ true
    by_noscript true e l =
        let at : bytes_eq t noscript ≡ true = (and_parts (bytes_eq t noscript) (is_name head g) e).0 in
        rw (same_bytes t noscript at) (entry_passes (λ c. test c noscript) n noscript_children h.noscript_passes l)
    by_noscript false e l = stands_by_row test h n t g (find t children) refl l

-- a name without a row is none of the names that have one
pub no_row : (n m : List ℕ) (rows : List PairRow) → find n rows ≡ None → is_some (find m rows) ≡ true → bytes_eq n m ≡ false
no_row n m rows none some = false_from_ne_true (bytes_eq n m) (λ e. differ (same_bytes n m e))
  where
    differ : n ≡ m → ⊥
    differ e = let k : is_some (find n rows) ≡ true = rw e some in let l : is_some (find n rows) ≡ false = rw none refl in both_ways (is_some (find n rows)) l k

-- a name that isn't in a list is none of its entries
pub not_among : (n m : List ℕ) (ms : List (List ℕ)) → is_among n ms ≡ false → is_among m ms ≡ true → bytes_eq n m ≡ false
not_among n m ms none some = false_from_ne_true (bytes_eq n m) (λ e. differ (same_bytes n m e))
  where
    differ : n ≡ m → ⊥
    differ e = let k : is_among n ms ≡ true = rw e some in both_ways (is_among n ms) none k

-- nor is it in a list of some of them
pub none_among : (n : List ℕ) (ks ms : List (List ℕ)) → is_among n ms ≡ false → list_all (λ m. is_among m ms) ks ≡ true → is_among n ks ≡ false
none_among n ks ms none all = false_from_ne_true (is_among n ks) (λ e. both_ways (is_among n ms) none (entry_passes (λ m. is_among m ms) n ks all e))

-- a name without a row is in no list of names that have one
pub no_head : (n : List ℕ) (ks : List (List ℕ)) (rows : List PairRow) → find n rows ≡ None → list_all (λ m. is_some (find m rows)) ks ≡ true → is_among n ks ≡ false
no_head n ks rows none all =
    let missing : is_some (find n rows) ≡ false = rw none refl in
    false_from_ne_true (is_among n ks) (λ e. both_ways (is_some (find n rows)) missing (entry_passes (λ m. is_some (find m rows)) n ks all e))

-- from a || b, where a is false
pub second_of : (a b : Bool) → a || b ≡ true → a ≡ false → b ≡ true
second_of true b h e = cc
second_of false b h e = h
