-- The characters of a text lead from a state in which it may begin to one in which it may end.
use Rattle.std.proofs.Common.{◌≡◌, ℕ, true, false, List, [], ◌∷◌, Option, Some, codes, sym, ap, subst, inl, inr}
use Rattle.hm_base.specs.Bytes.{is_null}
use Rattle.hm_refs.specs.Names.{Entry}
use Rattle.hm_refs.specs.Tables.{IsTable}
use Rattle.hm_spelling_spec.specs.Characters.{CharacterRules}
use Rattle.hm_graph_laws.specs.CharacterEdges.{Choice, after_half, in_section_after, is_in_section, spot_at}
use Rattle.hm_graph_laws.specs.CharacterLaws.{stands_at, WaysEnd}
use Rattle.hm_graph_laws.specs.Edges.{Edge}
use Rattle.hm_graph_laws.specs.States.{Where, outside, in_section, Pending, nothing, half, State, state}
use Rattle.hm_graph_laws.specs.Steps.{Fits}
use Rattle.hm_graph_laws.specs.Units.{TextKind, next_of}
use Rattle.hm_graph_laws.proofs.CharacterWays.{Way, of_units, IsOutsideEdge, chooses, opens, outside_edge_is, IsSectionEdge, closes, goes_on, section_edge_is, section_edges_are}
use Rattle.hm_graph_laws.proofs.ChoiceLaws.{choice_writes, Writes}
use Rattle.hm_graph_laws.proofs.Sections.{outside_at, place_open}
use Rattle.hm_graph_laws.proofs.CharactersSpelled.{due_edge}

module _ (t : List Entry) (table : IsTable t) (rules : CharacterRules) (kind : TextKind) (at : Where) (to : State) (placed : is_in_section at ≡ false) where
  -- the text may end there
  record Ends : Type 0 where
    same_place : to.at ≡ at
    fits : Fits t (spot_at kind at) to.pending

  abbrev EndsOutside : List ℕ → Type 0
  EndsOutside cs = (p : Pending) (b : List ℕ) → Fits t (spot_at kind at) p → Way t rules kind cs (state at p) b to → Ends

  record EndsSo (cs : List ℕ) : Type 0 where
    from_outside : EndsOutside cs
    from_inside : at ≡ outside → (p : Pending) (b : List ℕ) → is_null cs ≡ false → Way t rules kind cs (state in_section p) b to → Ends

  -- with the first code point skipped
  abbrev Skipped : List ℕ → Type 0
  Skipped [] = Unit {0}
  Skipped (d ∷ cs) = EndsOutside cs

  pair_ends : (c d : ℕ) (cs : List ℕ) (left : Option (List ℕ)) (rest : List ℕ) → next_of cs ≡ Some d → Skipped cs → Fits t (spot_at kind at) (after_half left) → Way t rules kind cs (state at (half left)) rest to → Ends
  pair_ends c d [] left rest n skip f w = absurd (cc)
  pair_ends c d (f ∷ cs) left rest n skip fits (e, i, (rest', is, w)) =
      let here = due_edge t table rules kind at to [] placed f (next_of cs) left e i in
      skip (after_half left) rest' fits (subst (λ x. Way t rules kind cs x.to rest' to) here w)

  section_ends : (front : List ℕ) (c : ℕ) (cs : List ℕ) (p : Pending) (rest : List ℕ) (e : Edge) → EndsSo cs → at ≡ outside → IsSectionEdge front c cs p e → Way t rules kind cs e.to rest to → Ends
  section_ends front c cs p rest e s here (closes same) w = s.from_outside nothing rest tt (subst (λ a. Way t rules kind cs (state a nothing) rest to) (sym here) (subst (λ x. Way t rules kind cs x.to rest to) same w))
  section_ends front c cs p rest e s here (goes_on some same) w = s.from_inside here (in_section_after c p) rest some (subst (λ x. Way t rules kind cs x.to rest to) same w)

  step_ends : (c : ℕ) (cs : List ℕ) → EndsSo cs → Skipped cs → EndsSo (c ∷ cs)
  step_ends c cs s skip = record { from_outside = outer; from_inside = inner }
    where
      outer : EndsOutside (c ∷ cs)
      outer p b f (e, i, (rest, is, w)) = by_kind (outside_edge_is t rules kind at c (next_of cs) p e placed i)
        where
          by_writes : (k : Choice) → Way t rules kind cs (state at k.to) rest to → Writes t rules (spot_at kind at) c (next_of cs) p k → Ends
          by_writes k w' (inl o) = s.from_outside k.to rest o.fits w'
          by_writes k w' (inr (d, n, o)) = pair_ends c d cs o.left rest n skip o.fits (subst (λ q. Way t rules kind cs (state at q) rest to) o.to_is w')

          by_kind : IsOutsideEdge t rules (spot_at kind at) at c (next_of cs) p e → Ends
          by_kind (chooses k j same) = by_writes k (subst (λ x. Way t rules kind cs x.to rest to) same w) (choice_writes t table rules (spot_at kind at) c (next_of cs) p f k j)
          by_kind (opens o j) = section_ends (codes "<![CDATA[") c cs nothing rest e s (outside_at at o.is_outside) (section_edge_is (codes "<![CDATA[") c cs nothing e j) w

      inner : at ≡ outside → (p : Pending) (b : List ℕ) → is_null (c ∷ cs) ≡ false → Way t rules kind (c ∷ cs) (state in_section p) b to → Ends
      inner here p b some (e, i, (rest, is, w)) = let g = section_edges_are rules.ascii c (next_of cs) p e i in section_ends [] c cs p rest e s here (section_edge_is [] c cs p e g.1) w

  all_end : (cs : List ℕ) → EndsSo cs
  all_end [] = record {
    from_outside = λ p b f w. record { same_place = ap (λ s. s.at) (sym w.1); fits = subst (λ s. Fits t (spot_at kind at) s.pending) w.1 f };
    from_inside = λ here p b some w. absurd (cc);
  }
  all_end (c ∷ []) = step_ends c [] (all_end []) tt
  all_end (c ∷ d ∷ cs) = step_ends c (d ∷ cs) (all_end (d ∷ cs)) (let s = all_end cs in s.from_outside)

pub ways_end : WaysEnd
ways_end t table rules es h kind cs from to b stands w =
    let s = all_end t table rules kind from.at to (place_open kind from.at stands.place) cs in
    let r = s.from_outside from.pending b stands.fits (of_units t rules es h kind cs from b to w) in
    record {
      ends = record { place = subst (λ a. stands_at kind a ≡ true) (sym r.same_place) stands.place; fits = subst (λ a. Fits t (spot_at kind a) to.pending) (sym r.same_place) r.fits };
      same_place = r.same_place;
    }
