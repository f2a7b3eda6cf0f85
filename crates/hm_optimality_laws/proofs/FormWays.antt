-- A way over a value in one form has one in each form that covers it, with at most a byte more.
use Rattle.std.proofs.Common.{◌≡◌, ◌≤◌, ℕ, ◌+◌, Bool, true, false, cond, ◌||◌, not, List, [], ◌∷◌, ◌++◌, length, refl, ap, ◌∙◌, subst, arith, length-append}
use Rattle.std.specs.List.{list_all}
use Rattle.std.proofs.lemmas.Bool.{and_parts}
use Rattle.hm_graph_laws.proofs.CharacterWays.{choice_in}
use Rattle.hm_graph_laws.proofs.In.{only}
use Rattle.hm_graph_laws.specs.AttributeEdges.{closed_at}
use Rattle.hm_graph_laws.specs.CharacterEdges.{is_in_section}
use Rattle.hm_graph_laws.specs.Edges.{Edge, edge, edge_length, edge_to}
use Rattle.hm_graph_laws.specs.States.{Where, Pending, State, after_quoted, after_unquoted, in_double, in_single, in_unquoted, nothing, state, value_spot}
use Rattle.hm_graph_laws.specs.Steps.{may_end}
use Rattle.hm_graph_laws.specs.UnitEdges.{edges_of}
use Rattle.hm_graph_laws.specs.Units.{Unit, attribute_end, character, in_value, next_of}
use Rattle.hm_graph_laws.specs.Ways.{Way}
use Rattle.hm_optimality_laws.proofs.AfterValues.{HasWayWithin, quoted_near, unquoted_near, way_near}
use Rattle.hm_optimality_laws.proofs.FormChoices.{IsChosen, choices_covered, same_end, value_edge, value_is}
use Rattle.hm_graph_laws.specs.Forms.{added, covers, stands}
use Rattle.hm_optimality_laws.specs.Forms.{IsForm, value_and}
use Rattle.hm_refs.specs.Tables.{IsIn, first}
use Rattle.hm_spelling_spec.specs.Tags.{Spelling, character_rules}

-- ---- The end of a value

-- the three forms
pub data Form : Where → Type 0 where
  bare : Form in_unquoted
  doubled : Form in_double
  singled : Form in_single

pub form_of : (at : Where) → IsForm at → Form at
form_of in_unquoted h = bare
form_of in_double h = doubled
form_of in_single h = singled
form_of at h = absurd h

abbrev pub quote_of : Where → List ℕ
quote_of in_double = 34 ∷ []
quote_of in_single = 39 ∷ []
quote_of at = []

abbrev pub after_of : Where → Where
after_of in_unquoted = after_unquoted
after_of at = after_quoted

closed_is : (at : Where) → Form at → closed_at at ≡ edge (quote_of at) (after_of at) nothing ∷ []
closed_is at bare = refl
closed_is at doubled = refl
closed_is at singled = refl

pub unopened : (at : Where) → Form at → is_in_section at ≡ false
unopened at bare = refl
unopened at doubled = refl
unopened at singled = refl

-- a way after this form in place of one after the other
pub record Crossed (g : Spelling) (units : List Unit) (form other : Where) (b : List ℕ) : Type 0 where
  pub bytes : List ℕ
  pub way : Way (edges_of g) units (state (after_of form) nothing) bytes
  pub short : length (quote_of form) + length bytes ≤ length (quote_of other) + length b + added other

to_quoted : (g : Spelling) (units : List Unit) (b : List ℕ) → Way (edges_of g) units (state after_unquoted nothing) b → HasWayWithin g units (state after_quoted nothing) (length b + 0)
to_quoted g units b w = way_near g after_unquoted after_quoted 0 (quoted_near g) units nothing b w

to_unquoted : (g : Spelling) (units : List Unit) (b : List ℕ) → Way (edges_of g) units (state after_quoted nothing) b → HasWayWithin g units (state after_unquoted nothing) (length b + 1)
to_unquoted g units b w = way_near g after_quoted after_unquoted 1 (unquoted_near g) units nothing b w

crossed : (g : Spelling) (units : List Unit) (form other : Where) (b : List ℕ) → Form form → Form other → Way (edges_of g) units (state (after_of other) nothing) b → Crossed g units form other b
crossed g units form other b bare bare w = record { bytes = b; way = w; short = omega arith }
crossed g units form other b bare doubled w = let v = to_unquoted g units b w in record { bytes = v.bytes; way = v.way; short = let k = v.short in omega (arith, k) }
crossed g units form other b bare singled w = let v = to_unquoted g units b w in record { bytes = v.bytes; way = v.way; short = let k = v.short in omega (arith, k) }
crossed g units form other b doubled bare w = let v = to_quoted g units b w in record { bytes = v.bytes; way = v.way; short = let k = v.short in omega (arith, k) }
crossed g units form other b doubled doubled w = record { bytes = b; way = w; short = omega arith }
crossed g units form other b doubled singled w = record { bytes = b; way = w; short = omega arith }
crossed g units form other b singled bare w = let v = to_quoted g units b w in record { bytes = v.bytes; way = v.way; short = let k = v.short in omega (arith, k) }
crossed g units form other b singled doubled w = record { bytes = b; way = w; short = omega arith }
crossed g units form other b singled singled w = record { bytes = b; way = w; short = omega arith }

at_end : (g : Spelling) (units : List Unit) (form other : Where) → Form form → Form other → (p : Pending) (b : List ℕ) → Way (edges_of g) (attribute_end ∷ units) (state other p) b → HasWayWithin g (attribute_end ∷ units) (state form p) (length b + added other)
at_end g units form other f o p b (e, i, (rest, is, w)) = by_test (may_end g.table (value_spot other) p) refl i
  where
    closed : (at : Where) → Edge
    closed at = edge (quote_of at) (after_of at) nothing

    ended : may_end g.table (value_spot other) p ≡ true → e ≡ closed other → HasWayWithin g (attribute_end ∷ units) (state form p) (length b + added other)
    ended m same =
        let v = crossed g units form other rest f o (subst (λ (x : Edge). Way (edges_of g) units x.to rest) same w) in
        let ends : may_end g.table (value_spot form) p ≡ true = same_end g.table (value_spot form) (value_spot other) (value_is form) (value_is other) p ∙ m in
        let among : IsIn (closed form) (cond (may_end g.table (value_spot form) p) (closed_at form) []) = rw (ends, closed_is form f) (first []) in
        record {
          bytes = quote_of form ++ v.bytes;
          way = (closed form, among, (v.bytes, refl, v.way));
          short = let k = v.short in omega (arith, k, length-append (quote_of form) v.bytes, ap length is, length-append e.bytes rest, ap edge_length same);
        }

    by_test : (m : Bool) → may_end g.table (value_spot other) p ≡ m → IsIn e (cond m (closed_at other) []) → HasWayWithin g (attribute_end ∷ units) (state form p) (length b + added other)
    by_test true m j = ended m (only e (closed other) (subst (λ es. IsIn e es) (closed_is other o) j))
    by_test false m j = elim j [ ]

-- ---- Over a value

-- an edge before a way
pub step_over : (g : Spelling) (unit : Unit) (units : List Unit) (s t : State) (b : List ℕ) (n m : ℕ) → IsIn (edge_to b t) (edges_of g unit s) → HasWayWithin g units t n → length b + n ≤ m → HasWayWithin g (unit ∷ units) s m
step_over g unit units s t b n m i v h = record {
  bytes = b ++ v.bytes;
  way = (edge_to b t, i, (v.bytes, refl, v.way));
  short = let k = v.short in omega (arith, k, h, length-append b v.bytes);
}

pub over_value : (g : Spelling) (v : List ℕ) (units : List Unit) (form other : Where) → Form form → Form other → covers form other v ≡ true → (p : Pending) (b : List ℕ)
    → Way (edges_of g) (value_and v units) (state other p) b → HasWayWithin g (value_and v units) (state form p) (length b + added other)
over_value g [] units form other f o h p b w = at_end g units form other f o p b w
over_value g (c ∷ v) units form other f o h p b (e, i, (rest, is, w)) =
    by_choice (value_edge g.table (character_rules g) other c (next_of v) p e (unopened other o) i)
    (λ q u. over_value g v units form other f o (and_parts (stands form c || not (stands other c)) (list_all (λ d. stands form d || not (stands other d)) v) h).1 q rest u)
  where
    by_choice : IsChosen g.table (character_rules g) other c (next_of v) p e → ((q : Pending) → Way (edges_of g) (value_and v units) (state other q) rest → HasWayWithin g (value_and v units) (state form q) (length rest + added other))
        → HasWayWithin g (value_and (c ∷ v) units) (state form p) (length b + added other)
    by_choice k go_on =
        let covered = (and_parts (stands form c || not (stands other c)) (list_all (λ d. stands form d || not (stands other d)) v) h).0 in
        let among = choice_in g.table (character_rules g) in_value form c (next_of v) p k.chosen (unopened form f) (choices_covered g.table (character_rules g) form other c (next_of v) p k.chosen covered k.among) in
        step_over g (character in_value c (next_of v)) (value_and v units) (state form p) (state form k.chosen.to) k.chosen.bytes (length rest + added other) (length b + added other)
        among
        (go_on k.chosen.to (subst (λ (x : Edge). Way (edges_of g) (value_and v units) x.to rest) k.is w))
        (omega (arith, ap length is, length-append e.bytes rest, ap edge_length k.is))
