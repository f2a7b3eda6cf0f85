-- The shortest text of a tree of a fragment: it begins with the front, and no token of it closes body.
use Rattle.std.proofs.Common.{◌≡◌, ℕ, ◌≤◌, true, List, [], ◌++◌, length, map, Option, Some, None, refl, sym, ap, ◌∙◌, subst, append_assoc}
use Rattle.hm_base.specs.Source.{source_of, byte_of, place_in, placed_text, text_fault}
use Rattle.hm_base.specs.Walks.{Event, ends_match}
use Rattle.hm_base.specs.declared.plain.SpellRules.{SpellRules}
use Rattle.hm_construction_laws.proofs.Pages.{text_is_plain}
use Rattle.hm_construction_laws.specs.Steps.{first_state as start_state}
use Rattle.hm_construction_laws.specs.Trees.{built, tree_from, tree_of_source, tree_of_text}
use Rattle.hm_elements.specs.Settled.{Settled}
use Rattle.hm_graph_laws.proofs.LeastPrices.{least_reached, first_least}
use Rattle.hm_graph_laws.specs.UnitEdges.{edges_of}
use Rattle.hm_graph_laws.specs.Ways.{Way, first_way}
use Rattle.hm_round_trip_laws.proofs.ReadBack.{texts_are_read_back}
use Rattle.hm_round_trip_laws.proofs.Reading.{anywhere}
use Rattle.hm_refs.specs.Names.{Entry}
use Rattle.hm_refs.specs.Tables.{IsTable}
use Rattle.hm_round_trip_laws.proofs.Pages.{settled_spellings_have_text}
use Rattle.hm_spelling_spec.specs.Spellings.{other}
use Rattle.hm_spelling_spec.specs.Tags.{Spelling}
use Rattle.hm_graph_laws.specs.States.{first_state}
use Rattle.hm_graph_laws.specs.Units.{units_of}
use Rattle.hm_optimality_laws.proofs.Best.{first_ways_are_best, ways_spell_trees}
use Rattle.hm_optimality_laws.proofs.Wider.{wider}
use Rattle.hm_graph_laws.specs.ExchangeLaws.{sparing_plain}
use Rattle.hm_optimality_laws.specs.SpellingLaws.{IsBest}
use Rattle.hm_construction_laws.specs.Closing.{closed_from, closed_at, closed_of_source}
use Rattle.hm_fragment.specs.Frames.{framed, frame_start, frame_end}
use Rattle.hm_fragment.specs.Laws.{body_end, StaysOpen, FragmentsStayOpen}
use Rattle.hm_fragment.proofs.Closed.{closed_pages_take_no_end_tag}
use Rattle.hm_fragment.proofs.FirstBytes.{begins_with_front}
use Rattle.hm_fragment.proofs.Texts.{text_with_end}
use Rattle.hm_fragment.proofs.Units.{UnitsSplit, units_split, first_units, last_units}
use Rattle.hm_fragment.proofs.Ways.{EndWritten, end_written}

-- a text that is read with and without one more end tag of body closes its body nowhere
never_closed : (t : List Entry) → IsTable t → (f : List ℕ) (w : List Event) → text_fault (framed f) ≡ None → tree_of_text t (framed f) ≡ built w → tree_of_text t (framed f ++ body_end) ≡ built w → closed_at t (framed f) ≡ None
unfolding closed_of_source tree_of_source
never_closed t k f w sound read more = by (closed_from t place 0 0 start_state (map byte_of (placed_text (framed f)))) refl
  where
    place : ℕ → ℕ
    place = place_in (source_of (framed f)).placed (source_of (framed f)).end

    later : ℕ → ℕ
    later = place_in (source_of (framed f ++ body_end)).placed (source_of (framed f ++ body_end)).end

    by : (o : Option ℕ) → closed_from t place 0 0 start_state (map byte_of (placed_text (framed f))) ≡ o → o ≡ None
    by None e = refl
    by (Some p) e =
        absurd (closed_pages_take_no_end_tag t k place (map byte_of (placed_text (framed f))) 0 p w w (text_is_plain (framed f) sound) e read
        (anywhere t later place (map byte_of (placed_text (framed f)) ++ body_end) 0 0 0 start_state w (ap (tree_from t later 0 0 start_state) (sym (text_with_end f)) ∙ more)))

module _ (t : List Entry) (k : IsTable t) (r : SpellRules) (w : List Event) (s : Settled w) where
  abbrev first_text : List ℕ
  first_text = first_way (edges_of (sparing_plain t r)) (units_of r w) first_state

  reads : (b : List ℕ) → Way (edges_of (sparing_plain t r)) (units_of r w) first_state b → tree_of_text t b ≡ built w
  reads b way = texts_are_read_back (sparing_plain t r).refers t r w b k s (ways_spell_trees (sparing_plain t r) k w s b way)

  has_text : (b : List ℕ) → Way (edges_of (sparing_plain t r)) (units_of r w) first_state b → text_fault b ≡ None
  has_text b way = (settled_spellings_have_text (sparing_plain t r) w b k s (ways_spell_trees (sparing_plain t r) k w s b way)).0

  first_is_way : Way (edges_of (sparing_plain t r)) (units_of r w) first_state first_text
  first_is_way =
      let best : IsBest t r w first_text = first_ways_are_best t k r w s in
      (least_reached (edges_of (sparing_plain t r)) (units_of r w) first_state (length first_text) (sym (first_least (edges_of (sparing_plain t r)) (units_of r w)) ∙ best.price)).0

  by_units : r.omit ≡ true → UnitsSplit r w → StaysOpen t first_text
  by_units omit u =
      let g : Spelling = sparing_plain t r in
      let best : IsBest t r w first_text = first_ways_are_best t k r w s in
      let is : units_of r w ≡ (first_units ++ u.us) ++ last_units = u.is ∙ sym (append_assoc first_units u.us last_units) in
      let e : EndWritten g (first_units ++ u.us) first_text = end_written g (first_units ++ u.us) first_text u.follows (subst (λ us. Way (edges_of g) us first_state first_text) is first_is_way) in
      let without : Way (edges_of g) (units_of r w) first_state e.front = subst (λ us. Way (edges_of g) us first_state e.front) (sym is) e.without in
      let short : length first_text ≤ length e.front = best.shortest e.front (wider g w other [] e.front (ways_spell_trees g k w s e.front without)) in
      let same : first_text ≡ e.front = e.same short in
      let with_end : Way (edges_of g) (units_of r w) first_state (first_text ++ body_end) = subst (λ us. Way (edges_of g) us first_state (first_text ++ body_end)) (sym is) (subst (λ x. Way (edges_of g) ((first_units ++ u.us) ++ last_units) first_state (x ++ body_end)) (sym same) e.with_end) in
      let f : List ℕ = first_way (edges_of g) (u.us ++ last_units) first_state in
      let front_is : first_text ≡ framed f = ap (λ us. first_way (edges_of g) us first_state) u.is ∙ begins_with_front g (u.us ++ last_units) in
      record {
        fragment = f;
        framed_is = front_is;
        never_closed = ap (closed_at t) front_is ∙ never_closed t k f w (subst (λ x. text_fault x ≡ None) front_is (has_text first_text first_is_way)) (subst (λ x. tree_of_text t x ≡ built w) front_is (reads first_text first_is_way))
            (subst (λ x. tree_of_text t (x ++ body_end) ≡ built w) front_is (reads (first_text ++ body_end) with_end));
      }

pub fragments_stay_open : FragmentsStayOpen
fragments_stay_open t k r omit frame w s framed_w =
    let ends : ends_match [] (frame_start ++ (framed_w.inside ++ frame_end)) ≡ true = subst (λ x. ends_match [] x ≡ true) framed_w.is s.ends in
    by_units t k r w s omit (subst (UnitsSplit r) (sym framed_w.is) (units_split r omit frame framed_w.inside ends))
