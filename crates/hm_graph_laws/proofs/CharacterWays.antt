-- Ways over the code points of a text, and what an edge from a place outside of sections is.
use Rattle.std.proofs.Common.{◌≡◌, ℕ, Bool, true, false, cond, not, ◌&&◌, List, [], ◌∷◌, ◌++◌, map, Option, is_some, codes, encode_utf8, refl, sym, subst, inl, inr, ◌⊎◌}
use Rattle.hm_base.specs.Bytes.{is_null}
use Rattle.hm_refs.specs.Names.{Entry}
use Rattle.hm_refs.specs.Tables.{IsIn, first, later}
use Rattle.hm_spelling_spec.specs.Characters.{CharacterRules, Spot, is_foreign, is_writable}
use Rattle.hm_graph_laws.specs.CharacterEdges.{Choice, choices, half_of, in_section_after, is_in_section, is_outside, kept_at, character_edges, outside_edges, opened_sections, section_edges, section_edges_by, closes_section, spot_at}
use Rattle.hm_graph_laws.specs.CharacterLaws.{HasCharacterEdges}
use Rattle.hm_graph_laws.specs.Edges.{Edge, edge, edge_to}
use Rattle.hm_graph_laws.specs.States.{Where, in_section, Pending, nothing, State, first_state, state}
use Rattle.hm_graph_laws.specs.Units.{TextKind, next_of, character_units}
use Rattle.hm_graph_laws.specs.UnitWays.{WayTo}
use Rattle.hm_graph_laws.specs.Ways.{Edges}
use Rattle.hm_graph_laws.proofs.In.{in_append, in_left, in_right, only}
use Rattle.hm_graph_laws.proofs.Numbers.{two_in}

-- edges over the code points from a state to a state, and their bytes
abbrev pub Way : List Entry → CharacterRules → TextKind → List ℕ → State → List ℕ → State → Type 0
Way t rules kind [] s b to = (b ≡ []) × (s ≡ to)
Way t rules kind (c ∷ cs) s b to = (e : Edge) × IsIn e (character_edges t rules kind c (next_of cs) s) × ((rest : List ℕ) × (b ≡ e.bytes ++ rest) × Way t rules kind cs e.to rest to)

pub of_units : (t : List Entry) (rules : CharacterRules) (es : Edges) → HasCharacterEdges t rules es → (kind : TextKind) (cs : List ℕ) (s : State) (b : List ℕ) (to : State) → WayTo es (character_units kind cs) s b to → Way t rules kind cs s b to
of_units t rules es h kind [] s b to w = w
of_units t rules es h kind (c ∷ cs) s b to (e, i, (rest, is, w)) = (e, subst (λ l. IsIn e l) (h kind c (next_of cs) s) i, (rest, is, of_units t rules es h kind cs e.to rest to w))

pub to_units : (t : List Entry) (rules : CharacterRules) (es : Edges) → HasCharacterEdges t rules es → (kind : TextKind) (cs : List ℕ) (s : State) (b : List ℕ) (to : State) → Way t rules kind cs s b to → WayTo es (character_units kind cs) s b to
to_units t rules es h kind [] s b to w = w
to_units t rules es h kind (c ∷ cs) s b to (e, i, (rest, is, w)) = (e, subst (λ l. IsIn e l) (sym (h kind c (next_of cs) s)) i, (rest, is, to_units t rules es h kind cs e.to rest to w))

-- ---- outside of sections

pub in_map : {A B : Type 0} (f : A → B) (x : A) (xs : List A) → IsIn x xs → IsIn (f x) (map f xs)
in_map f x xs (first ys) = first (map f ys)
in_map f x xs (later y ys i) = later (f y) (map f ys) (in_map f x ys i)

-- an element of a list that a function makes
pub record Mapped {A B : Type 0} (f : A → B) (y : B) (xs : List A) : Type 0 where
  pub from : A
  pub among : IsIn from xs
  pub is : y ≡ f from

more_mapped : {A B : Type 0} (f : A → B) (y : B) (x : A) (xs : List A) → Mapped f y xs → Mapped f y (x ∷ xs)
more_mapped f y x xs m = record { from = m.from; among = later x xs m.among; is = m.is }

pub mapped : {A B : Type 0} (f : A → B) (y : B) (xs : List A) → IsIn y (map f xs) → Mapped f y xs
mapped f y [] i = elim i [ ]
mapped f y (x ∷ xs) (first zs) = record { from = x; among = first xs; is = refl }
mapped f y (x ∷ xs) (later z zs i) = more_mapped f y x xs (mapped f y xs i)

-- c opens a section here
pub record Opens (ascii : Bool) (spot : Spot) (at : Where) (c : ℕ) (p : Pending) : Type 0 where
  pub is_here : is_foreign spot ≡ true
  pub is_outside : is_outside at ≡ true
  pub whole : not (is_some (half_of p)) ≡ true
  pub written : is_writable ascii c ≡ true

-- an edge is a choice, or it opens a section
pub data IsOutsideEdge (t : List Entry) (rules : CharacterRules) (spot : Spot) (at : Where) (c : ℕ) (next : Option ℕ) (p : Pending) (e : Edge) : Type 0 where
  chooses : (k : Choice) → IsIn k (choices t rules spot c next p) → e ≡ kept_at at k → IsOutsideEdge t rules spot at c next p e
  opens : Opens rules.ascii spot at c p → IsIn e (section_edges_by next (codes "<![CDATA[") c nothing) → IsOutsideEdge t rules spot at c next p e

pub outside_edge_is : (t : List Entry) (rules : CharacterRules) (kind : TextKind) (at : Where) (c : ℕ) (next : Option ℕ) (p : Pending) (e : Edge) → is_in_section at ≡ false
    → IsIn e (character_edges t rules kind c next (state at p)) → IsOutsideEdge t rules (spot_at kind at) at c next p e
outside_edge_is t rules kind at c next p e h i =
    by_part (in_append e (map (kept_at at) (choices t rules (spot_at kind at) c next p)) (opened_sections rules.ascii (spot_at kind at) c next (state at p))
    (subst (λ b. IsIn e (cond b (section_edges rules.ascii c next p) (outside_edges t rules (spot_at kind at) c next (state at p)))) h i))
  where
    by_tests : (a b d f : Bool) → is_foreign (spot_at kind at) ≡ a → is_outside at ≡ b → not (is_some (half_of p)) ≡ d → is_writable rules.ascii c ≡ f
        → IsIn e (cond (a && (b && (d && f))) (section_edges_by next (codes "<![CDATA[") c nothing) []) → IsOutsideEdge t rules (spot_at kind at) at c next p e
    by_tests true true true true ha hb hd hf j = opens (record { is_here = ha; is_outside = hb; whole = hd; written = hf }) j
    by_tests true true true false ha hb hd hf j = elim j [ ]
    by_tests true true false f ha hb hd hf j = elim j [ ]
    by_tests true false d f ha hb hd hf j = elim j [ ]
    by_tests false b d f ha hb hd hf j = elim j [ ]

    by_part : IsIn e (map (kept_at at) (choices t rules (spot_at kind at) c next p)) ⊎ IsIn e (opened_sections rules.ascii (spot_at kind at) c next (state at p)) → IsOutsideEdge t rules (spot_at kind at) at c next p e
    by_part (inl j) = let m = mapped (kept_at at) e (choices t rules (spot_at kind at) c next p) j in chooses m.from m.among m.is
    by_part (inr j) = by_tests (is_foreign (spot_at kind at)) (is_outside at) (not (is_some (half_of p))) (is_writable rules.ascii c) refl refl refl refl j

into_character : (t : List Entry) (rules : CharacterRules) (kind : TextKind) (at : Where) (c : ℕ) (next : Option ℕ) (p : Pending) (e : Edge) → is_in_section at ≡ false
    → IsIn e (outside_edges t rules (spot_at kind at) c next (state at p)) → IsIn e (character_edges t rules kind c next (state at p))
into_character t rules kind at c next p e h i = subst (λ b. IsIn e (cond b (section_edges rules.ascii c next p) (outside_edges t rules (spot_at kind at) c next (state at p)))) (sym h) i

pub choice_in : (t : List Entry) (rules : CharacterRules) (kind : TextKind) (at : Where) (c : ℕ) (next : Option ℕ) (p : Pending) (k : Choice) → is_in_section at ≡ false
    → IsIn k (choices t rules (spot_at kind at) c next p) → IsIn (kept_at at k) (character_edges t rules kind c next (state at p))
choice_in t rules kind at c next p k h i =
    into_character t rules kind at c next p (kept_at at k) h
    (in_left (kept_at at k) (map (kept_at at) (choices t rules (spot_at kind at) c next p)) (opened_sections rules.ascii (spot_at kind at) c next (state at p))
    (in_map (kept_at at) k (choices t rules (spot_at kind at) c next p) i))

pub opening_in : (t : List Entry) (rules : CharacterRules) (kind : TextKind) (at : Where) (c : ℕ) (next : Option ℕ) (p : Pending) (e : Edge) → is_in_section at ≡ false → Opens rules.ascii (spot_at kind at) at c p
    → IsIn e (section_edges_by next (codes "<![CDATA[") c nothing) → IsIn e (character_edges t rules kind c next (state at p))
opening_in t rules kind at c next p e h o i =
    into_character t rules kind at c next p e h
    (in_right e (map (kept_at at) (choices t rules (spot_at kind at) c next p)) (opened_sections rules.ascii (spot_at kind at) c next (state at p))
    (rw (o.is_here, o.is_outside, o.whole, o.written) i))

-- ---- in a section

pub data IsSectionEdge (front : List ℕ) (c : ℕ) (cs : List ℕ) (p : Pending) (e : Edge) : Type 0 where
  closes : e ≡ edge_to (front ++ (encode_utf8 c ++ codes "]]>")) first_state → IsSectionEdge front c cs p e
  goes_on : is_null cs ≡ false → e ≡ edge (front ++ encode_utf8 c) in_section (in_section_after c p) → IsSectionEdge front c cs p e

pub section_edge_is : (front : List ℕ) (c : ℕ) (cs : List ℕ) (p : Pending) (e : Edge) → IsIn e (section_edges_by (next_of cs) front c p) → IsSectionEdge front c cs p e
section_edge_is front c [] p e i = closes (only e (edge_to (front ++ (encode_utf8 c ++ codes "]]>")) first_state) i)
section_edge_is front c (d ∷ cs) p e i = by_two (two_in e (edge (front ++ encode_utf8 c) in_section (in_section_after c p)) (edge_to (front ++ (encode_utf8 c ++ codes "]]>")) first_state) i)
  where
    by_two : (e ≡ edge (front ++ encode_utf8 c) in_section (in_section_after c p)) ⊎ (e ≡ edge_to (front ++ (encode_utf8 c ++ codes "]]>")) first_state) → IsSectionEdge front c (d ∷ cs) p e
    by_two (inl is) = goes_on refl is
    by_two (inr is) = closes is

-- c may go on in a section
pub record GoesOn (ascii : Bool) (c : ℕ) (p : Pending) : Type 0 where
  pub written : is_writable ascii c ≡ true
  pub unclosed : closes_section c p ≡ false

pub section_edges_are : (ascii : Bool) (c : ℕ) (next : Option ℕ) (p : Pending) (e : Edge) → IsIn e (section_edges ascii c next p) → GoesOn ascii c p × IsIn e (section_edges_by next [] c p)
section_edges_are ascii c next p e i = by_tests (is_writable ascii c) (closes_section c p) refl refl i
  where
    by_tests : (a b : Bool) → is_writable ascii c ≡ a → closes_section c p ≡ b → IsIn e (cond (a && not b) (section_edges_by next [] c p) []) → GoesOn ascii c p × IsIn e (section_edges_by next [] c p)
    by_tests true false ha hb j = (record { written = ha; unclosed = hb }, j)
    by_tests true true ha hb j = elim j [ ]
    by_tests false b ha hb j = elim j [ ]

pub into_section : (ascii : Bool) (c : ℕ) (next : Option ℕ) (p : Pending) (e : Edge) → GoesOn ascii c p → IsIn e (section_edges_by next [] c p) → IsIn e (section_edges ascii c next p)
into_section ascii c next p e g i = rw (g.written, g.unclosed) i
