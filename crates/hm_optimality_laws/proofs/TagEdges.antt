-- What the edges of tags without attributes are.
use Rattle.std.proofs.Common.{◌≡◌, ℕ, Bool, true, false, cond, not, ◌&&◌, List, [], ◌∷◌, ◌++◌, codes, refl, inl, inr, ◌⊎◌}
use Rattle.hm_refs.specs.Tables.{IsIn, first, later}
use Rattle.hm_graph_laws.specs.TagEdges.{after_left_out, end_bytes, end_edges, is_after_omitted_end, is_self_closed, start_bytes, start_edges, omission_forgotten}
use Rattle.hm_graph_laws.proofs.In.{in_append, in_right, only}
use Rattle.hm_graph_laws.specs.Edges.{Edge, edge, edge_to}
use Rattle.hm_graph_laws.specs.States.{nothing, self_closed, State, first_state, state}

abbrev pub slashed_bytes : List ℕ → List ℕ
slashed_bytes n = codes "<" ++ (n ++ codes "/>")

pub data IsStartEdge (n : List ℕ) (omits required_after_omission closes : Bool) (s : State) (e : Edge) : Type 0 where
  leaves_out : omits ≡ true → required_after_omission && is_after_omitted_end s.at ≡ false → e ≡ edge_to [] (state (omission_forgotten s.at) s.pending) → IsStartEdge n omits required_after_omission closes s e
  writes : e ≡ edge_to (start_bytes n) first_state → IsStartEdge n omits required_after_omission closes s e
  slashes : closes ≡ true → e ≡ edge (slashed_bytes n) self_closed nothing → IsStartEdge n omits required_after_omission closes s e

pub start_edge_is : (n : List ℕ) (omits required_after_omission closes : Bool) (s : State) (e : Edge) → IsIn e (start_edges n omits required_after_omission closes s) → IsStartEdge n omits required_after_omission closes s e
start_edge_is n omits required_after_omission closes s e i = by_part (in_append e (cond (omits && not (required_after_omission && is_after_omitted_end s.at)) (edge_to [] (state (omission_forgotten s.at) s.pending) ∷ []) []) _ i)
  where
    by_tests : (a b : Bool) → omits ≡ a → required_after_omission && is_after_omitted_end s.at ≡ b → IsIn e (cond (a && not b) (edge_to [] (state (omission_forgotten s.at) s.pending) ∷ []) []) → IsStartEdge n omits required_after_omission closes s e
    by_tests true false ha hb j = leaves_out ha hb (only e _ j)
    by_tests true true ha hb j = elim j [ ]
    by_tests false b ha hb j = elim j [ ]

    by_closes : (c : Bool) → closes ≡ c → IsIn e (cond c (edge (slashed_bytes n) self_closed nothing ∷ []) []) → IsStartEdge n omits required_after_omission closes s e
    by_closes true h j = slashes h (only e _ j)
    by_closes false h j = elim j [ ]

    by_rest : IsIn e (edge_to (start_bytes n) first_state ∷ []) ⊎ IsIn e (cond closes (edge (slashed_bytes n) self_closed nothing ∷ []) []) → IsStartEdge n omits required_after_omission closes s e
    by_rest (inl j) = writes (only e _ j)
    by_rest (inr j) = by_closes closes refl j

    by_part : IsIn e (cond (omits && not (required_after_omission && is_after_omitted_end s.at)) (edge_to [] (state (omission_forgotten s.at) s.pending) ∷ []) []) ⊎ IsIn e (edge_to (start_bytes n) first_state ∷ cond closes (edge (slashed_bytes n) self_closed nothing ∷ []) [])
        → IsStartEdge n omits required_after_omission closes s e
    by_part (inl j) = by_tests omits (required_after_omission && is_after_omitted_end s.at) refl refl j
    by_part (inr j) = by_rest (in_append e (edge_to (start_bytes n) first_state ∷ []) (cond closes (edge (slashed_bytes n) self_closed nothing ∷ []) []) j)

pub into_left_out : (n : List ℕ) (omits required_after_omission closes : Bool) (s : State) → omits ≡ true → required_after_omission && is_after_omitted_end s.at ≡ false → IsIn (edge_to [] (state (omission_forgotten s.at) s.pending)) (start_edges n omits required_after_omission closes s)
into_left_out n omits required_after_omission closes s o f = rw (o, f) (first (edge_to (start_bytes n) first_state ∷ cond closes (edge (slashed_bytes n) self_closed nothing ∷ []) []))

pub into_written : (n : List ℕ) (omits required_after_omission closes : Bool) (s : State) → IsIn (edge_to (start_bytes n) first_state) (start_edges n omits required_after_omission closes s)
into_written n omits required_after_omission closes s = in_right (edge_to (start_bytes n) first_state) (cond (omits && not (required_after_omission && is_after_omitted_end s.at)) (edge_to [] (state (omission_forgotten s.at) s.pending) ∷ []) []) (edge_to (start_bytes n) first_state ∷ cond closes (edge (slashed_bytes n) self_closed nothing ∷ []) []) (first _)

pub into_slashed : (n : List ℕ) (omits required_after_omission closes : Bool) (s : State) → closes ≡ true → IsIn (edge (slashed_bytes n) self_closed nothing) (start_edges n omits required_after_omission closes s)
into_slashed n omits required_after_omission closes s c =
    in_right (edge (slashed_bytes n) self_closed nothing) (cond (omits && not (required_after_omission && is_after_omitted_end s.at)) (edge_to [] (state (omission_forgotten s.at) s.pending) ∷ []) []) (edge_to (start_bytes n) first_state ∷ cond closes (edge (slashed_bytes n) self_closed nothing ∷ []) [])
    (later (edge_to (start_bytes n) first_state) (cond closes (edge (slashed_bytes n) self_closed nothing ∷ []) []) (rw c (first [])))

pub data IsEndEdge (n : List ℕ) (omits notes_omission : Bool) (s : State) (e : Edge) : Type 0 where
  closed : is_self_closed s.at ≡ true → e ≡ edge_to [] first_state → IsEndEdge n omits notes_omission s e
  leaves_out : is_self_closed s.at ≡ false → omits ≡ true → e ≡ edge_to [] (after_left_out notes_omission s) → IsEndEdge n omits notes_omission s e
  writes : is_self_closed s.at ≡ false → e ≡ edge_to (end_bytes n) first_state → IsEndEdge n omits notes_omission s e

pub end_edge_is : (n : List ℕ) (omits notes_omission : Bool) (s : State) (e : Edge) → IsIn e (end_edges n omits notes_omission s) → IsEndEdge n omits notes_omission s e
end_edge_is n omits notes_omission s e i = by_closed (is_self_closed s.at) refl i
  where
    by_omits : is_self_closed s.at ≡ false → (o : Bool) → omits ≡ o → IsIn e (cond o (edge_to [] (after_left_out notes_omission s) ∷ []) []) → IsEndEdge n omits notes_omission s e
    by_omits h true k j = leaves_out h k (only e _ j)
    by_omits h false k j = elim j [ ]

    by_part : is_self_closed s.at ≡ false → IsIn e (cond omits (edge_to [] (after_left_out notes_omission s) ∷ []) []) ⊎ IsIn e (edge_to (end_bytes n) first_state ∷ []) → IsEndEdge n omits notes_omission s e
    by_part h (inl j) = by_omits h omits refl j
    by_part h (inr j) = writes h (only e _ j)

    by_closed : (c : Bool) → is_self_closed s.at ≡ c → IsIn e (cond c (edge_to [] first_state ∷ []) (cond omits (edge_to [] (after_left_out notes_omission s) ∷ []) [] ++ edge_to (end_bytes n) first_state ∷ [])) → IsEndEdge n omits notes_omission s e
    by_closed true h j = closed h (only e _ j)
    by_closed false h j = by_part h (in_append e (cond omits (edge_to [] (after_left_out notes_omission s) ∷ []) []) (edge_to (end_bytes n) first_state ∷ []) j)

pub into_closed : (n : List ℕ) (omits notes_omission : Bool) (s : State) → is_self_closed s.at ≡ true → IsIn (edge_to [] first_state) (end_edges n omits notes_omission s)
into_closed n omits notes_omission s h = rw h (first [])

pub into_end_left_out : (n : List ℕ) (omits notes_omission : Bool) (s : State) → is_self_closed s.at ≡ false → omits ≡ true → IsIn (edge_to [] (after_left_out notes_omission s)) (end_edges n omits notes_omission s)
into_end_left_out n omits notes_omission s h o = rw (h, o) (first (edge_to (end_bytes n) first_state ∷ []))

pub into_end_written : (n : List ℕ) (omits notes_omission : Bool) (s : State) → is_self_closed s.at ≡ false → IsIn (edge_to (end_bytes n) first_state) (end_edges n omits notes_omission s)
into_end_written n omits notes_omission s h = rw h (in_right (edge_to (end_bytes n) first_state) (cond omits (edge_to [] (after_left_out notes_omission s) ∷ []) []) (edge_to (end_bytes n) first_state ∷ []) (first []))
