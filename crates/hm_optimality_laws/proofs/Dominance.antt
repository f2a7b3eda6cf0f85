-- An edge that dominates another by a table replaces it.
use Rattle.std.proofs.Common.{◌≡◌, ◌≤◌, ◌+◌, ℕ, Bool, true, false, not, ◌&&◌, ◌||◌, List, nat_le, nat_lt, refl, sym, ap, subst, arith}
use Rattle.std.proofs.lemmas.Bool.{and_parts}
use Rattle.hm_graph_laws.proofs.States.{same_is}
use Rattle.hm_graph_laws.specs.Edges.{Edge, edge_length}
use Rattle.hm_graph_laws.specs.States.{Where, outside, after_omitted_end, self_closed, after_name, after_unquoted, after_quoted, in_unquoted, in_double, in_single, in_section, Pending, nothing, less_than, hash, hash_x, decimal, hexadecimal, ampersand, named, half, one_bracket, two_brackets, State, state, same_state, same_where}
use Rattle.hm_graph_laws.specs.UnitEdges.{edges_of}
use Rattle.hm_graph_laws.specs.Units.{Unit, fixed, start_tag, tag_name, bare_attribute, attribute_name, character, attribute_end, tag_close, end_tag}
use Rattle.hm_graph_laws.specs.Ways.{Way}
use Rattle.hm_optimality_laws.proofs.Forgetting.{forgetting}
use Rattle.hm_optimality_laws.proofs.FormsBounded.{forms_are_bounded}
use Rattle.hm_graph_laws.specs.Forms.{added, covers, gains, saved}
use Rattle.hm_optimality_laws.specs.Forms.{HasFormWay, IsForm, value_and}
use Rattle.hm_optimality_laws.specs.Dominated.{begins_form, form_dominates, form_serves, forgotten, is_form, is_nothing, may_forget, can_replace}
use Rattle.hm_optimality_laws.specs.SparseLaws.{DominanceLosesNothing, HasWayInstead, IsFollowed, Replaces}
use Rattle.hm_refs.specs.Tables.{IsTable}
use Rattle.hm_spelling_spec.specs.Tags.{Spelling}

form_is : (at : Where) → is_form at ≡ true → IsForm at
form_is outside h = absurd (cc)
form_is after_omitted_end h = absurd (cc)
form_is self_closed h = absurd (cc)
form_is after_name h = absurd (cc)
form_is after_unquoted h = absurd (cc)
form_is after_quoted h = absurd (cc)
form_is in_unquoted h = tt
form_is in_double h = tt
form_is in_single h = tt
form_is in_section h = absurd (cc)

nothing_is : (p : Pending) → is_nothing p ≡ true → p ≡ nothing
nothing_is nothing h = refl
nothing_is less_than h = absurd (cc)
nothing_is hash h = absurd (cc)
nothing_is hash_x h = absurd (cc)
nothing_is decimal h = absurd (cc)
nothing_is hexadecimal h = absurd (cc)
nothing_is (ampersand s) h = absurd (cc)
nothing_is (named s) h = absurd (cc)
nothing_is (half s) h = absurd (cc)
nothing_is one_bracket h = absurd (cc)
nothing_is two_brackets h = absurd (cc)

-- where a value begins in a form
begins_at : (s : State) → begins_form s ≡ true → IsForm s.at × (s ≡ state s.at nothing)
begins_at s h = let parts = and_parts (is_form s.at) (is_nothing s.pending) h in (form_is s.at parts.0, ap (state s.at) (nothing_is s.pending parts.1))

-- one of two tests holds
by_either : (P : Type 0) (a b : Bool) → (a || b) ≡ true → (a ≡ true → P) → (b ≡ true → P) → P
by_either P true b h f k = f refl
by_either P false b h f k = k h

-- a test of lengths leaves at least `fewer` bytes between them
abbrev Leaves : (ℕ → ℕ → Bool) → ℕ → Type 0
Leaves less fewer = (m n : ℕ) → less m n ≡ true → fewer + m ≤ n

module _ (g : Spelling) (table : IsTable g.table) (less : ℕ → ℕ → Bool) (fewer : ℕ) (leaves : Leaves less fewer) where
  -- an end that serves
  by_end : (units : List Unit) (e f : Edge) → can_replace f.to e.to && less (edge_length f) (edge_length e) ≡ true → Replaces (edges_of g) units fewer e f
  by_end units e f h b w =
      let parts = and_parts (can_replace f.to e.to) (less (edge_length f) (edge_length e)) h in
      let short : fewer + edge_length f ≤ edge_length e = leaves (edge_length f) (edge_length e) parts.1 in
      by_either (HasWayInstead (edges_of g) units fewer e f b) (same_state f.to e.to) (may_forget e.to && same_state f.to (forgotten e.to)) parts.0
      (λ same. record { bytes = b; way = subst (λ s. Way (edges_of g) units s b) (sym (same_is f.to e.to same)) w; short = omega (arith, short) })
      (λ forgot.
      let tests = and_parts (may_forget e.to) (same_state f.to (forgotten e.to)) forgot in
      let v = forgetting g units e.to b tests.0 w in
      let l = v.short in
      record { bytes = v.bytes; way = subst (λ s. Way (edges_of g) units s v.bytes) (sym (same_is f.to (forgotten e.to) tests.1)) v.way; short = omega (arith, short, l) })

  -- a form that serves
  by_form : (n v : List ℕ) (rest : List Unit) (e f : Edge) → form_dominates less g.table (attribute_name n v) e f ≡ true → Replaces (edges_of g) (value_and v rest) fewer e f
  by_form n v rest e f h b w =
      let parts = and_parts (form_serves v f.to e.to) (less (edge_length f + added e.to.at) (edge_length e + saved (gains g.table f.to.at e.to.at v))) h in
      let at_f = and_parts (begins_form f.to) (begins_form e.to && (not (same_where f.to.at e.to.at) && covers f.to.at e.to.at v)) parts.0 in
      let at_e = and_parts (begins_form e.to) (not (same_where f.to.at e.to.at) && covers f.to.at e.to.at v) at_f.1 in
      let wide = (and_parts (not (same_where f.to.at e.to.at)) (covers f.to.at e.to.at v) at_e.1).1 in
      let from = begins_at e.to at_e.0 in
      let into = begins_at f.to at_f.0 in
      let found : HasFormWay g (value_and v rest) f.to.at b (added e.to.at) (saved (gains g.table f.to.at e.to.at v)) =
      forms_are_bounded g table v f.to.at e.to.at into.0 from.0 wide rest b (subst (λ s. Way (edges_of g) (value_and v rest) s b) from.1 w) in
      let short = leaves (edge_length f + added e.to.at) (edge_length e + saved (gains g.table f.to.at e.to.at v)) parts.1 in
      let l = found.short in
      record { bytes = found.bytes; way = subst (λ s. Way (edges_of g) (value_and v rest) s found.bytes) (sym into.1) found.way; short = omega (arith, short, l) }

  by_form_unit : (unit : Unit) (units : List Unit) → IsFollowed unit units → (e f : Edge) → form_dominates less g.table unit e f ≡ true → Replaces (edges_of g) units fewer e f
  by_form_unit (fixed b) units follows e f h = absurd (cc)
  by_form_unit (start_tag n omits required_after_omission closes) units follows e f h = absurd (cc)
  by_form_unit (tag_name n) units follows e f h = absurd (cc)
  by_form_unit (bare_attribute n) units follows e f h = absurd (cc)
  by_form_unit (attribute_name n v) units (rest, is) e f h = subst (λ us. Replaces (edges_of g) us fewer e f) (sym is) (by_form n v rest e f h)
  by_form_unit (character kind c next) units follows e f h = absurd (cc)
  by_form_unit attribute_end units follows e f h = absurd (cc)
  by_form_unit (tag_close closes) units follows e f h = absurd (cc)
  by_form_unit (end_tag n omits notes_omission) units follows e f h = absurd (cc)

  replaces : (unit : Unit) (units : List Unit) → IsFollowed unit units → (e f : Edge) → (can_replace f.to e.to && less (edge_length f) (edge_length e)) || form_dominates less g.table unit e f ≡ true
      → Replaces (edges_of g) units fewer e f
  replaces unit units follows e f h =
      by_either (Replaces (edges_of g) units fewer e f) (can_replace f.to e.to && less (edge_length f) (edge_length e)) (form_dominates less g.table unit e f) h (by_end units e f) (by_form_unit unit units follows e f)

no_more : Leaves nat_le 0
no_more m n h = grind arith

less_by_one : Leaves nat_lt 1
less_by_one m n h = grind arith

pub dominance_loses_nothing : DominanceLosesNothing
dominance_loses_nothing g k unit units follows e f = (replaces g k nat_le 0 no_more unit units follows e f, replaces g k nat_lt 1 less_by_one unit units follows e f)
