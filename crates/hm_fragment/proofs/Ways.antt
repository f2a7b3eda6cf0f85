-- The shortest text of a tree of a fragment: it begins with the front, and one more end tag of body can be written after it.
use Rattle.std.proofs.Common.{◌≡◌, ℕ, ◌≤◌, inl, inr, Bool, true, false, cond, List, [], ◌∷◌, ◌++◌, length, map, Option, Some, None, refl, sym, ap, ◌∙◌, subst, arith, append-nil, length-append, codes}
use Rattle.std.proofs.lemmas.Bool.{both_ways}
use Rattle.hm_graph_laws.specs.AttributeEdges.{gap_at, closed_at}
use Rattle.hm_elements.specs.Names.{html, body}
use Rattle.hm_graph_laws.specs.UnitEdges.{edges_of}
use Rattle.hm_graph_laws.specs.Ways.{Way}
use Rattle.hm_refs.specs.Tables.{IsIn, first, later}
use Rattle.hm_spelling_spec.specs.Tags.{Spelling, character_rules}
use Rattle.hm_graph_laws.specs.TagEdges.{omission_forgotten, after_left_out, is_self_closed, end_bytes}
use Rattle.hm_graph_laws.specs.CharacterEdges.{Choice, kept_at, choices, spot_at, is_in_section, section_edges, section_edges_by, outside_edges}
use Rattle.hm_graph_laws.proofs.In.{in_append, only}
use Rattle.hm_graph_laws.specs.Edges.{Edge, edge, edge_to}
use Rattle.hm_graph_laws.specs.States.{Where, outside, after_omitted_end, self_closed, after_name, after_unquoted, after_quoted, in_unquoted, in_double, in_single, in_section, Pending, nothing, State, first_state}
use Rattle.hm_graph_laws.specs.Units.{Unit, fixed, start_tag, tag_name, bare_attribute, attribute_name, character, attribute_end, tag_close, end_tag}
use Rattle.hm_graph_laws.specs.UnitWays.{WayTo}
use Rattle.hm_optimality_laws.proofs.Cuts.{Cut, cut, joined}
use Rattle.hm_optimality_laws.proofs.TagEdges.{IsStartEdge, start_edge_is, IsEndEdge, end_edge_is, into_end_left_out, into_end_written}
use Rattle.hm_optimality_laws.proofs.TagEdges as tags

abbrev pub closes_unit : Unit → Bool
closes_unit (start_tag n omits required_after_omission closes) = closes
closes_unit (tag_close closes) = closes
closes_unit u = false

abbrev pub begins_end_tag : List Unit → Bool
begins_end_tag (end_tag n omits notes_omission ∷ us) = true
begins_end_tag us = false

-- ---- Only a tag that closes itself leads to where a tag has closed itself

omission_forgotten_open : (at : Where) → is_self_closed at ≡ false → is_self_closed (omission_forgotten at) ≡ false
omission_forgotten_open outside h = refl
omission_forgotten_open after_omitted_end h = refl
omission_forgotten_open self_closed h = cc
omission_forgotten_open after_name h = refl
omission_forgotten_open after_unquoted h = refl
omission_forgotten_open after_quoted h = refl
omission_forgotten_open in_unquoted h = refl
omission_forgotten_open in_double h = refl
omission_forgotten_open in_single h = refl
omission_forgotten_open in_section h = refl

left_out_open : (notes_omission : Bool) (s : State) → is_self_closed s.at ≡ false → is_self_closed (after_left_out notes_omission s).at ≡ false
left_out_open true s h = refl
left_out_open false s h = h

-- the edge leads elsewhere
abbrev Open : Edge → Type 0
Open e = is_self_closed e.to.at ≡ false

one_open : (x e : Edge) → Open x → IsIn e (x ∷ []) → Open e
one_open x e o i = subst Open (sym (only e x i)) o

two_open : (xs ys : List Edge) (e : Edge) → (IsIn e xs → Open e) → (IsIn e ys → Open e) → IsIn e (xs ++ ys) → Open e
two_open xs ys e a b i = elim (in_append e xs ys i) [
  | inl j ↦ a j
  | inr j ↦ b j
]

if_open : (b : Bool) (xs : List Edge) (e : Edge) → (IsIn e xs → Open e) → IsIn e (cond b xs []) → Open e
if_open true xs e a i = a i
if_open false xs e a i = elim i [ ]

kept_open : (at : Where) (ks : List Choice) (e : Edge) → is_self_closed at ≡ false → IsIn e (map (kept_at at) ks) → Open e
kept_open at [] e h i = elim i [ ]
kept_open at (k ∷ ks) e h (first xs) = h
kept_open at (k ∷ ks) e h (later y xs i) = kept_open at ks e h i

section_open : (next : Option ℕ) (front : List ℕ) (c : ℕ) (p : Pending) (e : Edge) → IsIn e (section_edges_by next front c p) → Open e
section_open None front c p e i = one_open _ e refl i
section_open (Some d) front c p e (first xs) = refl
section_open (Some d) front c p e (later y xs i) = one_open _ e refl i

closed_open : (at : Where) (e : Edge) → IsIn e (closed_at at) → Open e
closed_open in_unquoted e i = one_open _ e refl i
closed_open in_double e i = one_open _ e refl i
closed_open in_single e i = one_open _ e refl i
closed_open outside e i = elim i [ ]
closed_open after_omitted_end e i = elim i [ ]
closed_open self_closed e i = elim i [ ]
closed_open after_name e i = elim i [ ]
closed_open after_unquoted e i = elim i [ ]
closed_open after_quoted e i = elim i [ ]
closed_open in_section e i = elim i [ ]

-- the state isn't one after a tag that has closed itself
edge_open : (g : Spelling) (u : Unit) (s : State) (e : Edge) → (is_self_closed s.at ≡ true → begins_end_tag (u ∷ []) ≡ true) → closes_unit u ≡ false → IsIn e (edges_of g u s) → Open e
edge_open g (fixed b) s e k h i = one_open _ e refl i
edge_open g (start_tag n omits required_after_omission closes) s e k h i = by (start_edge_is n omits required_after_omission closes s e i)
  where
    here : is_self_closed s.at ≡ false
    here = by_test (is_self_closed s.at) refl
      where
        by_test : (b : Bool) → is_self_closed s.at ≡ b → is_self_closed s.at ≡ false
        by_test true m = let no : false ≡ true = k m in cc
        by_test false m = m

    by : IsStartEdge n omits required_after_omission closes s e → Open e
    by (tags.leaves_out o f is) = subst Open (sym is) (omission_forgotten_open s.at here)
    by (tags.writes is) = subst Open (sym is) refl
    by (tags.slashes c is) = absurd (both_ways closes h c)
edge_open g (tag_name n) s e k h i = one_open _ e refl i
edge_open g (bare_attribute n) s e k h i = one_open _ e refl i
edge_open g (attribute_name n v) s e k h i =
    two_open _ _ e (if_open g.rules.unquote _ e (one_open _ e refl))
    (λ j. two_open (edge (gap_at g.rules.tight s.at ++ (n ++ codes "=\"")) in_double nothing ∷ []) (edge (gap_at g.rules.tight s.at ++ (n ++ codes "='")) in_single nothing ∷ []) e (one_open _ e refl) (one_open _ e refl) j) i
edge_open g (character kind c next) s e k h i = by_place (is_in_section s.at) i
  where
    here : is_self_closed s.at ≡ false
    here = by_test (is_self_closed s.at) refl
      where
        by_test : (b : Bool) → is_self_closed s.at ≡ b → is_self_closed s.at ≡ false
        by_test true m = let no : false ≡ true = k m in cc
        by_test false m = m

    by_place : (b : Bool) → IsIn e (cond b (section_edges g.rules.ascii c next s.pending) (outside_edges g.table (character_rules g) (spot_at kind s.at) c next s)) → Open e
    by_place true j = if_open _ _ e (section_open next [] c s.pending e) j
    by_place false j = two_open _ _ e (kept_open s.at (choices g.table (character_rules g) (spot_at kind s.at) c next s.pending) e here) (if_open _ _ e (section_open next (codes "<![CDATA[") c nothing e)) j
edge_open g attribute_end s e k h i = if_open _ _ e (closed_open s.at e) i
edge_open g (tag_close true) s e k h i = cc
edge_open g (tag_close false) s e k h i = two_open (edge_to (62 ∷ []) first_state ∷ []) [] e (one_open _ e refl) (λ j. elim j [ ]) i
edge_open g (end_tag n omits notes_omission) s e k h i = by (end_edge_is n omits notes_omission s e i)
  where
    by : IsEndEdge n omits notes_omission s e → Open e
    by (tags.closed c is) = subst Open (sym is) refl
    by (tags.leaves_out c o is) = subst Open (sym is) (left_out_open notes_omission s c)
    by (tags.writes c is) = subst Open (sym is) refl

-- ---- Units in which an end tag follows each tag that may close itself

abbrev pub Follows : List Unit → Type 0
Follows [] = Prim.Unit {0}
Follows (u ∷ us) = (closes_unit u ≡ true → begins_end_tag us ≡ true) × Follows us

first_end : (u : Unit) (us : List Unit) → begins_end_tag (u ∷ us) ≡ begins_end_tag (u ∷ [])
first_end (fixed b) us = refl
first_end (start_tag n omits required_after_omission closes) us = refl
first_end (tag_name n) us = refl
first_end (bare_attribute n) us = refl
first_end (attribute_name n v) us = refl
first_end (character kind c next) us = refl
first_end attribute_end us = refl
first_end (tag_close closes) us = refl
first_end (end_tag n omits notes_omission) us = refl

-- a way over them leads elsewhere
way_open : (g : Spelling) (us : List Unit) (s m : State) (b : List ℕ) → Follows us → (is_self_closed s.at ≡ true → begins_end_tag us ≡ true) → WayTo (edges_of g) us s b m → is_self_closed m.at ≡ false
way_open g [] s m b f k w = by (is_self_closed m.at) refl
  where
    by : (x : Bool) → is_self_closed m.at ≡ x → is_self_closed m.at ≡ false
    by false e = e
    by true e = let no : false ≡ true = k (ap (λ (z : State). is_self_closed z.at) w.1 ∙ e) in cc
way_open g (u ∷ us) s m b f k (e, i, (rest, is, w)) = way_open g us e.to m rest f.1 next w
  where
    next : is_self_closed e.to.at ≡ true → begins_end_tag us ≡ true
    next h = by (closes_unit u) refl
      where
        by : (x : Bool) → closes_unit u ≡ x → begins_end_tag us ≡ true
        by true c = f.0 c
        by false c = absurd (both_ways (is_self_closed e.to.at) (edge_open g u s e (λ j. sym (first_end u us) ∙ k j) c i) h)

-- ---- The end tag of body after a way

-- a way that leaves the last two end tags out has one with an end tag of body in its place
pub record EndWritten (g : Spelling) (us : List Unit) (b : List ℕ) : Type 0 where
  pub front : List ℕ
  pub short : length front ≤ length b
  pub same : length b ≤ length front → b ≡ front
  pub without : Way (edges_of g) (us ++ end_tag body true false ∷ end_tag html true false ∷ []) first_state front
  pub with_end : Way (edges_of g) (us ++ end_tag body true false ∷ end_tag html true false ∷ []) first_state (front ++ codes "</body>")

none_more : (xs ys zs : List ℕ) → xs ≡ ys ++ zs → length xs ≤ length ys → xs ≡ ys
none_more xs ys [] e h = e ∙ append-nil ys
none_more xs ys (z ∷ zs) e h = let l = length-append ys (z ∷ zs) in let k : length xs ≡ length (ys ++ z ∷ zs) = ap length e in absurd (omega (arith, l, k, h))

pub end_written : (g : Spelling) (us : List Unit) (b : List ℕ) → Follows us → Way (edges_of g) (us ++ end_tag body true false ∷ end_tag html true false ∷ []) first_state b → EndWritten g us b
end_written g us b f w =
    let tail : List Unit = end_tag body true false ∷ end_tag html true false ∷ [] in
    let c : Cut (edges_of g) us tail first_state b = cut (edges_of g) us tail first_state b w in
    let here : is_self_closed c.middle.at ≡ false = way_open g us first_state c.middle c.front f (λ h. cc) c.before in
    let none : Way (edges_of g) tail c.middle [] =
    (edge_to [] c.middle, into_end_left_out body true false c.middle here refl, ([], refl, (edge_to [] c.middle, into_end_left_out html true false c.middle here refl, ([], refl, refl)))) in
    let some : Way (edges_of g) tail c.middle (codes "</body>") =
    (edge_to (end_bytes body) first_state, into_end_written body true false c.middle here, ([], refl, (edge_to [] first_state, into_end_left_out html true false first_state refl refl, ([], refl, refl)))) in
    let l = length-append c.front c.rest in
    let k : length b ≡ length (c.front ++ c.rest) = ap length c.whole in
    record {
      front = c.front;
      short = omega (arith, l, k);
      same = none_more b c.front c.rest c.whole;
      without = subst (Way (edges_of g) (us ++ tail) first_state) (append-nil c.front) (joined (edges_of g) us tail first_state c.middle c.front [] c.before none);
      with_end = joined (edges_of g) us tail first_state c.middle c.front (codes "</body>") c.before some;
    }
