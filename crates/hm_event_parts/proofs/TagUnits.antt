-- The units of starts and ends, by the event directly after them.
use Rattle.std.proofs.Common.{◌≡◌, ℕ, Bool, false, not, ◌&&◌, List, [], ◌∷◌, length, take, refl, arith}
use Rattle.hm_base.specs.Walks.{Attribute, Event, doctype, start, text, comment, end, Element}
use Rattle.hm_base.specs.declared.plain.SpellRules.{SpellRules}
use Rattle.hm_elements.specs.Paths.{current}
use Rattle.hm_elements.specs.Tables.{is_void}
use Rattle.hm_spelling_spec.specs.Omission.{start_falls, end_falls, may_omit_end}
use Rattle.hm_graph_laws.specs.Units.{Previous, start_tag, end_tag, is_required_after_omission, may_close_itself, start_units, is_omission_noted, end_units}

-- of what follows it, a start or an end depends on the next event alone
start_by_next : (frame : Bool) (n : List ℕ) (w : List Event) → start_falls frame n (take 1 w) ≡ start_falls frame n w
unfolding start_falls
start_by_next frame n [] = refl
start_by_next frame n (doctype legacy ∷ w) = refl
start_by_next frame n (start m foreign attributes ∷ w) = refl
start_by_next frame n (text s raw ∷ w) = refl
start_by_next frame n (comment s ∷ w) = refl
start_by_next frame n (end m foreign ∷ w) = refl

end_by_next : (n parent : List ℕ) (w : List Event) → end_falls n parent (take 1 w) ≡ end_falls n parent w
unfolding end_falls
end_by_next n parent [] = refl
end_by_next n parent (doctype legacy ∷ w) = refl
end_by_next n parent (start m foreign attributes ∷ w) = refl
end_by_next n parent (text s raw ∷ w) = refl
end_by_next n parent (comment s ∷ w) = refl
end_by_next n parent (end m foreign ∷ w) = refl

closes_by_next : (foreign : Bool) (w : List Event) → may_close_itself foreign (take 1 w) ≡ may_close_itself foreign w
closes_by_next foreign [] = refl
closes_by_next foreign (doctype legacy ∷ w) = refl
closes_by_next foreign (start m in_svg attributes ∷ w) = refl
closes_by_next foreign (text s raw ∷ w) = refl
closes_by_next foreign (comment s ∷ w) = refl
closes_by_next foreign (end m in_svg ∷ w) = refl

module _ (r : SpellRules) (n : List ℕ) (foreign : Bool) (v w : List Event) (next : v ≡ take 1 w) where
  module _ (previous : Previous) (closes : Bool) (may_close : closes ≡ may_close_itself foreign v) where
    -- a start without attributes
    pub start_alone : (attributes : List Attribute) (omits required_after_omission : Bool) → length attributes ≡ 0 → omits ≡ r.omit && (not foreign && start_falls r.frame n v) → required_after_omission ≡ is_required_after_omission previous n
        → start_tag n omits required_after_omission closes ∷ [] ≡ start_units r previous n foreign attributes w
    start_alone [] omits required_after_omission none may_omit is_required_after_omission = rw (may_omit, is_required_after_omission, may_close, next, start_by_next r.frame n w, closes_by_next foreign w) refl
    start_alone (a ∷ attributes) omits required_after_omission none may_omit is_required_after_omission = absurd (omega arith)

  -- an end that has a tag
  pub end_there : (path : List Element) (parent : List ℕ) (none omits notes_omission : Bool) → none ≡ not foreign && is_void n → none ≡ false → parent ≡ current path → omits ≡ r.omit && (not foreign && end_falls n parent v) → notes_omission ≡ is_omission_noted n
      → end_tag n omits notes_omission ∷ [] ≡ end_units r n foreign path w
  unfolding may_omit_end
  end_there path parent none omits notes_omission void there around may_omit after_omitted_end = rw (may_omit, around, next, end_by_next n (current path) w, after_omitted_end, ← void, there) refl
