-- What is read as a reference begins with '&', and gives one code point or two.
use Rattle.std.proofs.Common.{◌≡◌, ℕ, ◌<◌, Bool, true, false, cond, ◌==◌, List, [], ◌∷◌, ◌++◌, length, Some, None, refl, sym, ap, ◌∙◌, subst, inl, inr, ◌⊎◌, arith}
use Rattle.hm_refs.specs.Names.{Entry, longest}
use Rattle.hm_refs.specs.References as references
use Rattle.hm_refs.specs.References.{Reference, reference, reference_by}
use Rattle.hm_refs.specs.Tables.{IsTable, are_points}
use Rattle.hm_refs.proofs.Bools.{eq_of}
use Rattle.hm_refs.proofs.Found.{entry_of, found_last, good_of}
use Rattle.hm_spelling_spec.specs.Characters.{Spot, is_value}
use Rattle.hm_graph_laws.proofs.Pieces.{Refers}
use Rattle.hm_graph_laws.proofs.CharacterReading.{IsName, IsNumber, name_shape, named_of, reference_is}
use Rattle.hm_graph_laws.proofs.Numbers.{hash_is, hash_one, NumberAt}

record Starts (s : List ℕ) (r : Reference) : Type 0 where
  rest : List ℕ
  is : s ≡ 38 ∷ rest
  some : 0 < r.len

by_name : (t : List Entry) → IsTable t → (v : Bool) (s : List ℕ) (r : Reference) → references.named v (longest t s) ≡ Some r → Starts s r
by_name t k v s r h =
    let (f, is, b, ps, l) = named_of v (longest t s) r h in
    let n = found_last t [] s f is in
    let shape = name_shape f.name (good_of t k f.name f.points n.own) in
    record { rest = (shape.second ∷ shape.more) ++ f.rest; is = sym n.cut ∙ ap (λ w. w ++ f.rest) shape.is; some = omega (arith, ap length shape.is) }

by_hash : (s : List ℕ) (r : Reference) → references.hash s ≡ Some r → 0 < r.len
by_hash s r h = by_kind (hash_is s r h)
  where
    by_kind : NumberAt 2 10 [] s r ⊎ ((d : ℕ) × NumberAt 3 16 (d ∷ []) s r) → 0 < r.len
    by_kind (inl n) = omega (arith, n.numeric_is.len)
    by_kind (inr (d, n)) = omega (arith, n.numeric_is.len)

starts : (t : List Entry) → IsTable t → (v : Bool) (s : List ℕ) (r : Reference) → reference t v s ≡ Some r → Starts s r
unfolding reference
starts t k v [] r h = by_name t k v [] r h
starts t k v (c ∷ []) r h = one (38 == c) h
  where
    one : (b : Bool) → reference_by t v (cond b None None) (c ∷ []) ≡ Some r → Starts (c ∷ []) r
    one true h = by_name t k v (c ∷ []) r h
    one false h = by_name t k v (c ∷ []) r h
starts t k v (c ∷ d ∷ s) r h = by_tests (38 == c) refl (35 == d) h
  where
    by_tests : (a : Bool) → (38 == c) ≡ a → (b : Bool) → reference_by t v (cond a (cond b (Some s) None) None) (c ∷ d ∷ s) ≡ Some r → Starts (c ∷ d ∷ s) r
    by_tests true e true h = record { rest = d ∷ s; is = ap (λ x. x ∷ d ∷ s) (sym (eq_of 38 c e)); some = by_hash s r h }
    by_tests true e false h = by_name t k v (c ∷ d ∷ s) r h
    by_tests false e b h = by_name t k v (c ∷ d ∷ s) r h

pub refers_of : (t : List Entry) → IsTable t → (spot : Spot) (points b x : List ℕ) → reference t (is_value spot) (b ++ x) ≡ Some (record { points = points; len = length b }) → Refers t spot points b x
refers_of t k spot points [] x h = absurd (let s = starts t k (is_value spot) x (record { points = points; len = 0 }) h in let l = s.some in omega arith)
refers_of t k spot points (c ∷ b) x h =
    let s = starts t k (is_value spot) (c ∷ (b ++ x)) (record { points = points; len = length (c ∷ b) }) h in
    let i : c ≡ 38 = let e = s.is in cc in
    record { inner = b; bytes = ap (λ y. y ∷ b) i; found = h }

pub data OneOrTwo : List ℕ → Type 0 where
  one_point : (c : ℕ) → OneOrTwo (c ∷ [])
  two_points : (c d : ℕ) → OneOrTwo (c ∷ d ∷ [])

few_points : (ps : List ℕ) → are_points ps ≡ true → OneOrTwo ps
few_points [] h = absurd (cc)
few_points (c ∷ []) h = one_point c
few_points (c ∷ d ∷ []) h = two_points c d
few_points (c ∷ d ∷ e ∷ ps) h = absurd (cc)

pub points_few : (t : List Entry) → IsTable t → (spot : Spot) (points b x : List ℕ) → Refers t spot points b x → OneOrTwo points
points_few t k spot points b x r = by_kind (reference_is t k spot points b x r)
  where
    by_kind : IsName t spot points b x ⊎ IsNumber points b x → OneOrTwo points
    by_kind (inl n) = let e = entry_of t b points n.own in few_points points (subst (λ ps. are_points ps ≡ true) e.points_are (k.pointed e.entry e.among))
    by_kind (inr n) = let (m, i) = hash_one n.inner (record { points = points; len = length b }) n.read in subst (λ ps. OneOrTwo ps) (sym i) (one_point m)
