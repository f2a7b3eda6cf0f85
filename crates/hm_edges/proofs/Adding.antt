-- Edges that are added to a buffer, one after the other.
use Rattle.std.proofs.Common.{◌≡◌, ◌∙◌, Bool, true, false, cond, ◌&&◌, List, [], ◌∷◌, ◌++◌, Result, Ok, Err, is_ok, IsErr, refl, sym, ap, subst, append_assoc, append-nil}
use Rattle.hm_refs.specs.Tables.{TableView}
use Rattle.hm_graph_laws.specs.Edges as graph
use Rattle.hm_graph_laws.specs.Units as units
use Rattle.hm_edges.specs.declared.pieces.Edge.{Edge}
use Rattle.hm_edges.specs.Pieces.{edge_of, edges_seen, IsOfTable, AreOfTable}
use Rattle.hm_edges.specs.Found.{AddsEdges}

pub seen_more : (v : TableView) (u : units.Unit) (es fs : List Edge) → edges_seen v u (es ++ fs) ≡ edges_seen v u es ++ edges_seen v u fs
seen_more v u [] fs = refl
seen_more v u (e ∷ es) fs = ap (λ w. edge_of v u e ∷ w) (seen_more v u es fs)

known_more : (v : TableView) (es : List Edge) (e : Edge) → AreOfTable v es → IsOfTable v e → AreOfTable v (es ++ e ∷ [])
known_more v [] e k own = (own, tt)
known_more v (d ∷ es) e k own = (k.0, known_more v es e k.1 own)

pub adds_none : {E : Type 0} (r : Result (Unit {0}) E) (v : TableView) (u : units.Unit) (before now : List Edge) → now ≡ before → AddsEdges r v u before now []
adds_none (Ok x) v u before now is = record { edges = rw (is, append-nil (edges_seen v u before)) refl; front = ([], ap (λ w. edges_seen v u w ++ []) is); known = λ k. subst (AreOfTable v) (sym is) k }
adds_none (Err x) v u before now is = record { edges = tt; front = ([], ap (λ w. edges_seen v u w ++ []) is); known = λ k. subst (AreOfTable v) (sym is) k }

pub adds_one : {E : Type 0} (r : Result (Unit {0}) E) (v : TableView) (u : units.Unit) (before now : List Edge) (e : Edge) → now ≡ cond (is_ok r) (before ++ e ∷ []) before → IsOfTable v e → AddsEdges r v u before now (edge_of v u e ∷ [])
adds_one (Ok x) v u before now e is own =
    let seen : edges_seen v u now ≡ edges_seen v u before ++ edge_of v u e ∷ [] = ap (edges_seen v u) is ∙ seen_more v u before (e ∷ []) in
    record { edges = seen; front = ([], append-nil (edges_seen v u now) ∙ seen); known = λ k. subst (AreOfTable v) (sym is) (known_more v before e k own) }
adds_one (Err x) v u before now e is own = record { edges = tt; front = (edge_of v u e ∷ [], ap (λ w. edges_seen v u w ++ edge_of v u e ∷ []) is); known = λ k. subst (AreOfTable v) (sym is) k }

pub adds_if : {E : Type 0} (r : Result (Unit {0}) E) (v : TableView) (u : units.Unit) (before now : List Edge) (there : Bool) (e : Edge) → now ≡ cond (is_ok r && there) (before ++ e ∷ []) before → (there ≡ true → IsOfTable v e) → AddsEdges r v u before now (cond there (edge_of v u e ∷ []) [])
adds_if (Ok x) v u before now true e is own = adds_one (Ok x) v u before now e is (own refl)
adds_if (Ok x) v u before now false e is own = adds_none (Ok x) v u before now is
adds_if (Err x) v u before now true e is own = adds_one (Err x) v u before now e is (own refl)
adds_if (Err x) v u before now false e is own = adds_none (Err x) v u before now is

pub adds_then : {E : Type 0} (q r : Result (Unit {0}) E) (v : TableView) (u : units.Unit) (before between now : List Edge) (more again : List graph.Edge) (x : Unit {0})
    → q ≡ Ok x → AddsEdges q v u before between more → AddsEdges r v u between now again → AddsEdges r v u before now (more ++ again)
adds_then (Err z) r v u before between now more again x is h k = absurd (cc)
adds_then (Ok z) (Ok y) v u before between now more again x is h k =
    let seen : edges_seen v u now ≡ edges_seen v u before ++ (more ++ again) = k.edges ∙ ap (λ w. w ++ again) h.edges ∙ append_assoc (edges_seen v u before) more again in
    record { edges = seen; front = ([], append-nil (edges_seen v u now) ∙ seen); known = λ a. k.known (h.known a) }
adds_then (Ok z) (Err y) v u before between now more again x is h k =
    record { edges = tt; front = (k.front.0, k.front.1 ∙ ap (λ w. w ++ again) h.edges ∙ append_assoc (edges_seen v u before) more again); known = λ a. k.known (h.known a) }

pub adds_stopped : {E : Type 0} (q r : Result (Unit {0}) E) (x : E) (v : TableView) (u : units.Unit) (before now : List Edge) (more again : List graph.Edge)
    → q ≡ Err x → IsErr r → AddsEdges q v u before now more → AddsEdges r v u before now (more ++ again)
adds_stopped (Ok z) r x v u before now more again is kept h = absurd (cc)
adds_stopped (Err z) (Ok w) x v u before now more again is kept h = absurd (cc)
adds_stopped (Err z) (Err w) x v u before now more again is kept h =
    record { edges = tt; front = (h.front.0 ++ again, sym (append_assoc (edges_seen v u now) h.front.0 again) ∙ ap (λ a. a ++ again) h.front.1 ∙ append_assoc (edges_seen v u before) more again); known = h.known }

pub adds_as : {E : Type 0} (r : Result (Unit {0}) E) (v : TableView) (u : units.Unit) (before now : List Edge) (more again : List graph.Edge) → more ≡ again → AddsEdges r v u before now more → AddsEdges r v u before now again
adds_as r v u before now more again e h = subst (λ w. AddsEdges r v u before now w) e h
