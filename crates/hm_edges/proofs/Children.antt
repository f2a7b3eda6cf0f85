-- What a child in the trie says about the names of the table.
use Rattle.std.proofs.Common.{◌≡◌, ℕ, Bool, true, false, cond, ◌==◌, List, [], ◌∷◌, ◌++◌, Option, Some, None, is_some, refl, sym, subst, bytes_eq, arith}
use Rattle.std.specs.Option.{option_map}
use Rattle.std.proofs.lemmas.Slice.Eq.{bytes_eq-Decides}
use Rattle.hm_refs.specs.Names.{Entry, is_name, is_front, child_of}
use Rattle.hm_refs.specs.Tables.{TableView, IsNode, front_at}
use Rattle.hm_refs.proofs.LoneLaws.{no_front, child_front}
use Rattle.hm_graph_laws.specs.States.{Pending, nothing}
use Rattle.hm_graph_laws.specs.Steps.{is_root, onto}
use Rattle.hm_graph_laws.proofs.Runs.{no_name}

pub child_there : (t : List Entry) (q : List ℕ) (c : ℕ) (front : ℕ → List ℕ) (r : Option ℕ) → option_map front r ≡ child_of t q c → is_some r ≡ is_front t (q ++ c ∷ [])
unfolding child_of
child_there t q c front r h = by_front (is_front t (q ++ c ∷ [])) r h
  where
    by_front : (f : Bool) (o : Option ℕ) → option_map front o ≡ cond f (Some (q ++ c ∷ [])) None → is_some o ≡ f
    by_front true None k = absurd (cc)
    by_front true (Some n) k = refl
    by_front false None k = refl
    by_front false (Some n) k = absurd (cc)

pub childless_name : (t : List Entry) (q : List ℕ) (c : ℕ) → None ≡ child_of t q c → false ≡ is_name t (q ++ c ∷ [])
childless_name t q c h = sym (no_name t (q ++ c ∷ []) (no_front t q c h))

pub child_name : (t : List Entry) (q r : List ℕ) (c : ℕ) (b : Bool) → Some r ≡ child_of t q c → b ≡ is_name t r → b ≡ is_name t (q ++ c ∷ [])
child_name t q r c b h n = subst (λ w. b ≡ is_name t w) (child_front t q r c h) n

pub onto_nothing : (kind : List ℕ → Pending) (t : List Entry) (q : List ℕ) (c : ℕ) → None ≡ child_of t q c → Some nothing ≡ onto kind t q c
unfolding onto
onto_nothing kind t q c h = rw (no_front t q c h) refl

pub onto_child : (kind : List ℕ → Pending) (t : List Entry) (q r : List ℕ) (c : ℕ) → Some r ≡ child_of t q c → Some (kind r) ≡ onto kind t q c
unfolding onto child_of
onto_child kind t q r c h = by_front (is_front t (q ++ c ∷ [])) h
  where
    by_front : (f : Bool) → Some r ≡ cond f (Some (q ++ c ∷ [])) None → Some (kind r) ≡ cond f (Some (kind (q ++ c ∷ []))) (Some nothing)
    by_front true k = let i : r ≡ q ++ c ∷ [] = cc in rw i refl
    by_front false k = absurd (cc)

-- equality with the root says whether the '&' alone leads to a node
pub root_tells : (v : TableView) (n m : ℕ) → IsNode v n → IsNode v m → front_at v m ≡ 38 ∷ [] → (n == m) ≡ is_root (front_at v n)
unfolding is_root
root_tells v n m own root is = by_tests (n == m) (bytes_eq (front_at v n) (38 ∷ [])) refl refl
  where
    by_tests : (x y : Bool) → (n == m) ≡ x → bytes_eq (front_at v n) (38 ∷ []) ≡ y → x ≡ y
    by_tests true y e f =
        let i : n ≡ m = grind arith in
        let g : front_at v n ≡ 38 ∷ [] = subst (λ w. front_at v w ≡ 38 ∷ []) (sym i) is in
        let h : bytes_eq (front_at v n) (38 ∷ []) ≡ true = (bytes_eq-Decides (front_at v n) (38 ∷ [])).1 g in
        cc
    by_tests false true e f =
        let g : front_at v n ≡ 38 ∷ [] = (bytes_eq-Decides (front_at v n) (38 ∷ [])).0 f in
        let h : n ≡ m = root.only n own.inside (cc) in
        absurd (grind arith)
    by_tests false false e f = refl
