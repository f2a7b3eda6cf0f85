-- The edges by names, by the places of the names that begin with a code point.
use Rattle.std.proofs.lemmas.List.{map-append}
use Rattle.std.proofs.Common.{◌≡◌, ◌∙◌, ℕ, zero, suc, ◌+◌, ◌<◌, ◌≤◌, Bool, true, false, cond, ◌==◌, List, [], ◌∷◌, ◌++◌, length, get_or, drop, refl, sym, ap, arith, append_assoc, length-append, append-nil, map, Result, Ok, Err, IsErr, bytes_eq}
use Rattle.std.proofs.lemmas.List.{drop_all}
use Rattle.std.proofs.Math.Seq.{get_or-append_seam}
use Rattle.std.proofs.lemmas.Slice.Eq.{bytes_eq-Decides}
use Rattle.hm_base.specs.Bytes.{head_is}
use Rattle.hm_base.specs.declared.plain.OutOfMemory.{OutOfMemory}
use Rattle.hm_refs.specs.Names.{Entry}
use Rattle.hm_refs.specs.Tables.{TableView, entry_at, is_for, no_entry, places_from, places_for}
use Rattle.hm_graph_laws.specs.CharacterEdges.{Choice, choice, by_names, kept_at}
use Rattle.hm_graph_laws.specs.Edges as graph
use Rattle.hm_graph_laws.specs.States.{Where, Pending}
use Rattle.hm_graph_laws.specs.Units as units
use Rattle.hm_edges.specs.declared.pieces.Edge.{Edge}
use Rattle.hm_edges.specs.Found.{AddsEdges}
use Rattle.hm_edges.proofs.Adding.{adds_none, adds_then, adds_stopped, adds_as}
use Rattle.hm_refs.proofs.RunEnds.{rest_cons}

-- those of the names at these places
abbrev pub names_at : (List ℕ → Pending) → List ℕ → List Entry → List ℕ → List Choice
names_at to points t [] = []
names_at to points t (i ∷ is) = by_names to points (entry_at t i ∷ []) ++ names_at to points t is

one_first : (to : List ℕ → Pending) (points : List ℕ) (e : Entry) (t : List Entry) → by_names to points (e ∷ []) ++ by_names to points t ≡ by_names to points (e ∷ t)
one_first to points e t = by_test (bytes_eq e.points points)
  where
    by_test : (b : Bool) → cond b (choice e.name (to e.name) ∷ []) [] ++ by_names to points t ≡ cond b (choice e.name (to e.name) ∷ by_names to points t) (by_names to points t)
    by_test true = refl
    by_test false = refl

other_points : (c : ℕ) (ps qs : List ℕ) → head_is (λ p. p == c) ps ≡ false → bytes_eq ps (c ∷ qs) ≡ false
other_points c [] qs h = refl
other_points c (p ∷ ps) qs h = by_test (bytes_eq (p ∷ ps) (c ∷ qs)) refl
  where
    by_test : (b : Bool) → bytes_eq (p ∷ ps) (c ∷ qs) ≡ b → b ≡ false
    by_test false e = refl
    by_test true e =
        let i : p ∷ ps ≡ c ∷ qs = (bytes_eq-Decides (p ∷ ps) (c ∷ qs)).0 e in
        let j : p ≡ c = cc in
        absurd (grind arith)

names_from : (to : List ℕ → Pending) (c : ℕ) (qs : List ℕ) (front rest : List Entry) → names_at to (c ∷ qs) (front ++ rest) (places_from c (length front) rest) ≡ by_names to (c ∷ qs) rest
names_from to c qs front [] = refl
names_from to c qs front (e ∷ rest) =
    let f : (front ++ e ∷ []) ++ rest ≡ front ++ e ∷ rest = append_assoc front (e ∷ []) rest in
    let n : length (front ++ e ∷ []) ≡ suc (length front) = length-append front (e ∷ []) ∙ omega arith in
    by_test (is_for c e) refl (rw (← f, ← n) (names_from to c qs (front ++ e ∷ []) rest))
  where
    by_test : (b : Bool) → is_for c e ≡ b → names_at to (c ∷ qs) (front ++ e ∷ rest) (places_from c (suc (length front)) rest) ≡ by_names to (c ∷ qs) rest
        → names_at to (c ∷ qs) (front ++ e ∷ rest) (cond b (length front ∷ places_from c (suc (length front)) rest) (places_from c (suc (length front)) rest)) ≡ by_names to (c ∷ qs) (e ∷ rest)
    by_test true h further = rw (get_or-append_seam front e rest no_entry, further) (one_first to (c ∷ qs) e rest)
    by_test false h further = rw (further, other_points c e.points qs h) refl

pub names_are : (to : List ℕ → Pending) (c : ℕ) (qs : List ℕ) (t : List Entry) → names_at to (c ∷ qs) t (places_for c t) ≡ by_names to (c ∷ qs) t
unfolding places_for
names_are to c qs t = names_from to c qs [] t

places_within : (c i : ℕ) (t : List Entry) (k : ℕ) → k < length (places_from c i t) → get_or (places_from c i t) k 0 < i + length t
places_within c i [] k l = omega arith
places_within c i (e ∷ t) k l = by_test (is_for c e) k l (λ j m. places_within c (suc i) t j m)
  where
    by_test : (b : Bool) (k : ℕ) → k < length (cond b (i ∷ places_from c (suc i) t) (places_from c (suc i) t)) → ((j : ℕ) → j < length (places_from c (suc i) t) → get_or (places_from c (suc i) t) j 0 < suc i + length t)
        → get_or (cond b (i ∷ places_from c (suc i) t) (places_from c (suc i) t)) k 0 < i + length (e ∷ t)
    by_test true zero l after = omega arith
    by_test true (suc k) l after = let h : get_or (places_from c (suc i) t) k 0 < suc i + length t = after k (omega arith) in omega arith
    by_test false k l after = let h : get_or (places_from c (suc i) t) k 0 < suc i + length t = after k l in omega arith

pub place_inside : (c : ℕ) (t : List Entry) (k : ℕ) → k < length (places_for c t) → get_or (places_for c t) k 0 < length t
unfolding places_for
place_inside c t k l = let h : get_or (places_from c 0 t) k 0 < 0 + length t = places_within c 0 t k l in omega arith

-- the edges by some names are added, and those at these places are left
pub record SomeNames (v : TableView) (u : units.Unit) (before now : List Edge) (at : Where) (to : List ℕ → Pending) (points : List ℕ) (left : List ℕ) : Type 0 where
  pub done : List graph.Edge
  pub adds : AddsEdges {E = OutOfMemory} (Ok tt) v u before now done
  pub whole : done ++ map (kept_at at) (names_at to points v.entries left) ≡ map (kept_at at) (by_names to points v.entries)

-- the one at a place, and those at the places after it
left_on : (at : Where) (to : List ℕ → Pending) (points : List ℕ) (t : List Entry) (is : List ℕ) (k id : ℕ) → k < length is → id ≡ get_or is k 0
    → map (kept_at at) (by_names to points (entry_at t id ∷ [])) ++ map (kept_at at) (names_at to points t (drop (k + 1) is)) ≡ map (kept_at at) (names_at to points t (drop k is))
left_on at to points t is k id l e =
    sym (map-append (kept_at at) (by_names to points (entry_at t id ∷ [])) (names_at to points t (drop (k + 1) is)))
    ∙ ap (λ i. map (kept_at at) (names_at to points t (i ∷ drop (k + 1) is))) e
    ∙ ap (λ w. map (kept_at at) (names_at to points t w)) (sym (rest_cons is k l))

pub names_stopped : (q r : Result (Prim.Unit {0}) OutOfMemory) (x : OutOfMemory) (v : TableView) (u : units.Unit) (before between now : List Edge) (at : Where) (to : List ℕ → Pending) (points is : List ℕ) (k id : ℕ) → k < length is → id ≡ get_or is k 0
    → SomeNames v u before between at to points (drop k is) → q ≡ Err x → IsErr r → AddsEdges q v u between now (map (kept_at at) (by_names to points (entry_at v.entries id ∷ []))) → AddsEdges r v u before now (map (kept_at at) (by_names to points v.entries))
names_stopped q r x v u before between now at to points is k id l e some was err h =
    adds_as _ _ _ _ _ _ _ (ap (λ w. some.done ++ w) (left_on at to points v.entries is k id l e) ∙ some.whole)
    (adds_then _ _ _ _ _ _ _ _ _ tt refl some.adds (adds_stopped q r x v u between now _ _ was err h))

pub names_more : (q : Result (Prim.Unit {0}) OutOfMemory) (x : Prim.Unit {0}) (v : TableView) (u : units.Unit) (before between now : List Edge) (at : Where) (to : List ℕ → Pending) (points is : List ℕ) (k id : ℕ) → k < length is → id ≡ get_or is k 0
    → SomeNames v u before between at to points (drop k is) → q ≡ Ok x → AddsEdges q v u between now (map (kept_at at) (by_names to points (entry_at v.entries id ∷ []))) → SomeNames v u before now at to points (drop (k + 1) is)
names_more (Err y) x v u before between now at to points is k id l e some was h = absurd (cc)
names_more (Ok y) x v u before between now at to points is k id l e some was h =
    let one : List graph.Edge = map (kept_at at) (by_names to points (entry_at v.entries id ∷ [])) in
    record {
      done = some.done ++ one;
      adds = adds_then _ _ _ _ _ _ _ _ _ tt refl some.adds h;
      whole = append_assoc some.done one (map (kept_at at) (names_at to points v.entries (drop (k + 1) is))) ∙ ap (λ w. some.done ++ w) (left_on at to points v.entries is k id l e) ∙ some.whole;
    }

pub names_done : (v : TableView) (u : units.Unit) (before now : List Edge) (at : Where) (to : List ℕ → Pending) (points is : List ℕ) (k : ℕ) → length is ≤ k
    → SomeNames v u before now at to points (drop k is) → AddsEdges {E = OutOfMemory} (Ok tt) v u before now (map (kept_at at) (by_names to points v.entries))
names_done v u before now at to points is k l some =
    let end : drop k is ≡ [] = drop_all k is l in
    let all : some.done ≡ map (kept_at at) (by_names to points v.entries) = sym (append-nil some.done) ∙ ap (λ w. some.done ++ map (kept_at at) (names_at to points v.entries w)) (sym end) ∙ some.whole in
    adds_as _ _ _ _ _ _ _ all some.adds

pub names_begin : (v : TableView) (u : units.Unit) (before : List Edge) (at : Where) (to : List ℕ → Pending) (c : ℕ) (qs is : List ℕ) → is ≡ places_for c v.entries → SomeNames v u before before at to (c ∷ qs) is
names_begin v u before at to c qs is e = record {
  done = [];
  adds = adds_none _ _ _ _ _ refl;
  whole = ap (λ w. map (kept_at at) (names_at to (c ∷ qs) v.entries w)) e ∙ ap (map (kept_at at)) (names_are to c qs v.entries);
}

pub name_edge : (at : Where) (to : List ℕ → Pending) (points : List ℕ) (e : Entry) (b : Bool) (p : Pending) → b ≡ bytes_eq e.points points → p ≡ to e.name → cond b (graph.edge e.name at p ∷ []) [] ≡ map (kept_at at) (by_names to points (e ∷ []))
name_edge at to points e b p h k = rw (h, k) (by_test (bytes_eq e.points points))
  where
    by_test : (w : Bool) → cond w (graph.edge e.name at (to e.name) ∷ []) [] ≡ map (kept_at at) (cond w (choice e.name (to e.name) ∷ []) [])
    by_test true = refl
    by_test false = refl
