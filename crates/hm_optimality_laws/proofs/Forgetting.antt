-- What may be written with something pending may be written with nothing pending, and leaves no more pending.
use Rattle.std.proofs.Common.{◌≡◌, ◌≤◌, ◌⊎◌, inl, inr, ℕ, ◌+◌, Bool, true, false, cond, not, ◌&&◌, ◌||◌, ◌==◌, List, [], ◌∷◌, ◌++◌, map, length, encode_utf8, Option, Some, None, is_some, refl, sym, ap, ◌∙◌, subst, arith, length-append}
use Rattle.std.proofs.lemmas.Bool.{and_parts}
use Rattle.hm_graph_laws.specs.AttributeEdges.{closed_at}
use Rattle.hm_graph_laws.specs.UnitEdges.{edges_of}
use Rattle.hm_graph_laws.specs.Ways.{Way}
use Rattle.hm_optimality_laws.specs.SparseLaws.{ForgettingIsNoLoss, HasWayOver}
use Rattle.hm_optimality_laws.specs.Dominated.{forgotten, may_forget}
use Rattle.hm_refs.specs.Names.{Entry, is_front, is_name}
use Rattle.hm_refs.specs.References.{blocks, is_semicolon}
use Rattle.hm_refs.specs.Tables.{IsIn, first, later}
use Rattle.hm_spelling_spec.specs.Characters.{CharacterRules, Spot, is_value, may_stand, opens}
use Rattle.hm_spelling_spec.specs.Tags.{Spelling, character_rules}
use Rattle.hm_graph_laws.specs.TagEdges.{after_left_out, end_bytes, is_after_omitted_end, is_self_closed, omission_forgotten}
use Rattle.hm_graph_laws.proofs.CharacterWays.{in_map}
use Rattle.hm_graph_laws.proofs.In.{in_append, in_left, in_right}
use Rattle.hm_graph_laws.specs.CharacterEdges.{Choice, as_itself, by_references, choice, choices, half_of, is_in_section, itself_by, itself_to, kept_at, opened_sections, outside_edges, spot_at}
use Rattle.hm_graph_laws.specs.Edges.{Edge, edge_length, edge_to}
use Rattle.hm_graph_laws.specs.States.{Where, outside, after_omitted_end, self_closed, after_name, after_unquoted, after_quoted, in_unquoted, in_double, in_single, in_section, Pending, nothing, less_than, hash, hash_x, decimal, hexadecimal, ampersand, named, half, one_bracket, two_brackets, State, state, first_state, value_spot}
use Rattle.hm_graph_laws.specs.Steps.{ampersand_in_text, ampersand_in_value, goes_on_decimal, goes_on_hexadecimal, is_hash, is_root, may_end, named_in_text, named_in_value, onto, run, step, unless}
use Rattle.hm_graph_laws.specs.Units.{Unit, fixed, start_tag, tag_name, bare_attribute, attribute_name, character, attribute_end, tag_close, end_tag}

-- ---- Lists whose elements have better ones in another list

-- one of them stands in the relation R to x
abbrev pub HasBetter : {A : Type 0} → (A → A → Type 0) → List A → A → Type 0
HasBetter R ys x = (y : _) × IsIn y ys × R y x

abbrev pub AreBettered : {A : Type 0} → (A → A → Type 0) → List A → List A → Type 0
AreBettered R xs ys = (x : _) → IsIn x xs → HasBetter R ys x

pub none_bettered : {A : Type 0} (R : A → A → Type 0) (ys : List A) → AreBettered R [] ys
none_bettered R ys x i = elim i [ ]

pub one_bettered : {A : Type 0} (R : A → A → Type 0) (x y : A) → R y x → AreBettered R (x ∷ []) (y ∷ [])
one_bettered R x y r z (first zs) = (y, first [], r)
one_bettered R x y r z (later w zs i) = elim i [ ]

pub join_bettered : {A : Type 0} (R : A → A → Type 0) (xs ys vs ws : List A) → AreBettered R xs ys → AreBettered R vs ws → AreBettered R (xs ++ vs) (ys ++ ws)
join_bettered R xs ys vs ws h k x i = by_part (in_append x xs vs i)
  where
    in_front : HasBetter R ys x → HasBetter R (ys ++ ws) x
    in_front (y, j, r) = (y, in_left y ys ws j, r)

    in_back : HasBetter R ws x → HasBetter R (ys ++ ws) x
    in_back (y, j, r) = (y, in_right y ys ws j, r)

    by_part : IsIn x xs ⊎ IsIn x vs → HasBetter R (ys ++ ws) x
    by_part (inl j) = in_front (h x j)
    by_part (inr j) = in_back (k x j)

-- in lists that a test chooses
pub test_bettered : {A : Type 0} (R : A → A → Type 0) (b : Bool) (xs ys vs ws : List A) → AreBettered R xs ys → AreBettered R vs ws → AreBettered R (cond b xs vs) (cond b ys ws)
test_bettered R true xs ys vs ws h k = h
test_bettered R false xs ys vs ws h k = k

-- ---- Edges and choices with nothing pending

-- t is s, or s with what is pending forgotten
abbrev pub IsUnder : State → State → Type 0
IsUnder t s = (t ≡ s) ⊎ ((may_forget s ≡ true) × (t ≡ forgotten s))

-- f has no more bytes than e, and leaves no more pending
abbrev pub IsBetter : Edge → Edge → Type 0
IsBetter f e = (edge_length f ≤ edge_length e) × IsUnder f.to e.to

all_bettered : (es : List Edge) → AreBettered IsBetter es es
all_bettered es e i = (e, i, (omega arith, inl refl))

-- what is pending isn't due
abbrev pub IsFree : Option Pending → Type 0
IsFree None = Prim.Unit {0}
IsFree (Some p) = half_of p ≡ None

unless_free : (b : Bool) → IsFree (unless b nothing)
unless_free true = tt
unless_free false = refl

free_test : (b : Bool) (x y : Option Pending) → IsFree x → IsFree y → IsFree (cond b x y)
free_test true x y h k = h
free_test false x y h k = k

onto_free : (kind : List ℕ → Pending) (t : List Entry) (q : List ℕ) (c : ℕ) → half_of (kind (q ++ c ∷ [])) ≡ None → IsFree (onto kind t q c)
unfolding onto
onto_free kind t q c h = free_test (is_front t (q ++ c ∷ [])) (Some (kind (q ++ c ∷ []))) (Some nothing) h refl

amp_text_free : (t : List Entry) (q : List ℕ) (c : ℕ) → IsFree (ampersand_in_text t q c)
unfolding ampersand_in_text
amp_text_free t q c =
    free_test (is_root q && is_hash c) (Some hash) (cond (is_name t (q ++ c ∷ [])) None (onto ampersand t q c)) refl
    (free_test (is_name t (q ++ c ∷ [])) None (onto ampersand t q c) tt (onto_free ampersand t q c refl))

amp_value_free : (t : List Entry) (q : List ℕ) (c : ℕ) → IsFree (ampersand_in_value t q c)
unfolding ampersand_in_value
amp_value_free t q c =
    free_test (is_root q && is_hash c) (Some hash) _ refl
    (free_test (is_name t q) (cond (blocks c) (onto ampersand t q c) None) (cond (is_name t (q ++ c ∷ []) && is_semicolon c) None (onto ampersand t q c))
    (free_test (blocks c) (onto ampersand t q c) None (onto_free ampersand t q c refl) tt)
    (free_test (is_name t (q ++ c ∷ []) && is_semicolon c) None (onto ampersand t q c) tt (onto_free ampersand t q c refl)))

named_text_free : (t : List Entry) (q : List ℕ) (c : ℕ) → IsFree (named_in_text t q c)
unfolding named_in_text
named_text_free t q c = free_test (is_name t (q ++ c ∷ [])) None (onto named t q c) tt (onto_free named t q c refl)

named_value_free : (t : List Entry) (q : List ℕ) (c : ℕ) → IsFree (named_in_value t q c)
unfolding named_in_value
named_value_free t q c = free_test (blocks c || (is_semicolon c && is_front t (q ++ c ∷ []))) None (Some nothing) tt refl

-- no byte makes a code point due
step_free : (t : List Entry) (spot : Spot) (p : Pending) (c : ℕ) → IsFree (step t spot p c)
step_free t spot nothing c = refl
step_free t spot less_than c = unless_free (opens spot c)
step_free t spot decimal c = unless_free (goes_on_decimal c)
step_free t spot hexadecimal c = unless_free (goes_on_hexadecimal c)
step_free t spot hash c = free_test (120 == c || 88 == c) (Some hash_x) (unless _ nothing) refl (unless_free _)
step_free t spot hash_x c = unless_free _
step_free t spot (ampersand q) c = free_test (is_value spot) (ampersand_in_value t q c) (ampersand_in_text t q c) (amp_value_free t q c) (amp_text_free t q c)
step_free t spot (named q) c = free_test (is_value spot) (named_in_value t q c) (named_in_text t q c) (named_value_free t q c) (named_text_free t q c)
step_free t spot (half left) c = tt
step_free t spot one_bracket c = tt
step_free t spot two_brackets c = tt

run_free : (t : List Entry) (spot : Spot) (s : List ℕ) (o : Option Pending) → IsFree o → IsFree (run t spot o s)
run_free t spot s None h = tt
run_free t spot [] (Some p) h = h
run_free t spot (c ∷ s) (Some p) h = run_free t spot s (step t spot p c) (step_free t spot p c)

-- with nothing pending nothing breaks
run_nothing : (t : List Entry) (spot : Spot) (s : List ℕ) → run t spot (Some nothing) s ≡ Some nothing
run_nothing t spot [] = refl
run_nothing t spot (c ∷ s) = run_nothing t spot s

-- as few bytes, and the same is pending, or nothing in place of what may be forgotten
abbrev pub IsBetterChoice : Choice → Choice → Type 0
IsBetterChoice l k = (length l.bytes ≤ length k.bytes) × ((l.to ≡ k.to) ⊎ ((half_of k.to ≡ None) × (l.to ≡ nothing)))

all_choices : (ks : List Choice) → AreBettered IsBetterChoice ks ks
all_choices ks k i = (k, i, (omega arith, inl refl))

itself_cases : (a b : Bool) (m n q : Pending) → half_of q ≡ None → (cond a m (cond b n nothing) ≡ cond a m (cond b n q)) ⊎ ((half_of (cond a m (cond b n q)) ≡ None) × (cond a m (cond b n nothing) ≡ nothing))
itself_cases true b m n q h = inl refl
itself_cases false true m n q h = inl refl
itself_cases false false m n q h = inr (h, refl)

itself_bettered : (spot : Spot) (c : ℕ) (o : Option Pending) → IsFree o → AreBettered IsBetterChoice (itself_by spot c o) (itself_by spot c (Some nothing))
itself_bettered spot c None h = none_bettered IsBetterChoice (itself_by spot c (Some nothing))
itself_bettered spot c (Some q) h =
    one_bettered IsBetterChoice (choice (encode_utf8 c) (itself_to spot c q)) (choice (encode_utf8 c) (itself_to spot c nothing))
    (omega arith, itself_cases (c == 38) (c == 60 && not (is_value spot)) (ampersand (38 ∷ [])) less_than q h)

as_itself_bettered : (t : List Entry) (rules : CharacterRules) (spot : Spot) (c : ℕ) (p : Pending) → half_of p ≡ None → AreBettered IsBetterChoice (as_itself t rules spot c p) (as_itself t rules spot c nothing)
unfolding as_itself
as_itself_bettered t rules spot c p h =
    test_bettered IsBetterChoice (may_stand rules.ascii spot c) (itself_by spot c (run t spot (Some p) (encode_utf8 c))) (itself_by spot c (run t spot (Some nothing) (encode_utf8 c))) [] []
    (subst (λ o. AreBettered IsBetterChoice (itself_by spot c (run t spot (Some p) (encode_utf8 c))) (itself_by spot c o)) (sym (run_nothing t spot (encode_utf8 c)))
    (itself_bettered spot c (run t spot (Some p) (encode_utf8 c)) (run_free t spot (encode_utf8 c) (Some p) h)))
    (none_bettered IsBetterChoice [])

-- a reference may begin where nothing is pending
references_bettered : (a b : Bool) (ks : List Choice) → AreBettered IsBetterChoice (cond (a && b) ks []) (cond b ks [])
references_bettered true true ks = all_choices ks
references_bettered true false ks = none_bettered IsBetterChoice []
references_bettered false b ks = none_bettered IsBetterChoice (cond b ks [])

choices_bettered : (t : List Entry) (rules : CharacterRules) (spot : Spot) (c : ℕ) (next : Option ℕ) (p : Pending) → half_of p ≡ None → AreBettered IsBetterChoice (choices t rules spot c next p) (choices t rules spot c next nothing)
choices_bettered t rules spot c next p h =
    rw h
    (join_bettered IsBetterChoice (as_itself t rules spot c p) (as_itself t rules spot c nothing) (cond (is_some (step t spot p 38) && rules.refers c) (by_references t c next) []) (cond (rules.refers c) (by_references t c next) [])
    (as_itself_bettered t rules spot c p h)
    (references_bettered (is_some (step t spot p 38)) (rules.refers c) (by_references t c next)))

-- ---- The edges of each unit

pub may_forget_is : (at : Where) (p : Pending) → is_in_section at ≡ false → half_of p ≡ None → may_forget (state at p) ≡ true
may_forget_is at p e h = rw (e, h) refl

none_due : (o : Option (Option (List ℕ))) → not (is_some o) ≡ true → o ≡ None
none_due None h = refl
none_due (Some q) h = absurd (cc)

not_true : (b : Bool) → not b ≡ true → b ≡ false
not_true true h = absurd (cc)
not_true false h = refl

free_of : (s : State) → may_forget s ≡ true → half_of s.pending ≡ None
free_of s h = none_due (half_of s.pending) (and_parts (not (is_in_section s.at)) (not (is_some (half_of s.pending))) h).1

unopened : (s : State) → may_forget s ≡ true → is_in_section s.at ≡ false
unopened s h = not_true (is_in_section s.at) (and_parts (not (is_in_section s.at)) (not (is_some (half_of s.pending))) h).0

kept_bettered : (at : Where) → is_in_section at ≡ false → (ks ls : List Choice) → AreBettered IsBetterChoice ks ls → AreBettered IsBetter (map (kept_at at) ks) (map (kept_at at) ls)
kept_bettered at u [] ls h e i = elim i [ ]
kept_bettered at u (k ∷ ks) ls h e (first zs) = with_choice (h k (first ks))
  where
    under : (l : Choice) → (l.to ≡ k.to) ⊎ ((half_of k.to ≡ None) × (l.to ≡ nothing)) → IsUnder (state at l.to) (state at k.to)
    under l (inl same) = inl (ap (state at) same)
    under l (inr (free, is)) = inr (may_forget_is at k.to u free, ap (state at) is)

    with_choice : HasBetter IsBetterChoice ls k → HasBetter IsBetter (map (kept_at at) ls) (kept_at at k)
    with_choice (l, i, (short, to)) = (kept_at at l, in_map (kept_at at) l ls i, (short, under l to))
kept_bettered at u (k ∷ ks) ls h e (later y zs i) = kept_bettered at u ks ls (λ x j. h x (later k ks j)) e i

outside_bettered : (t : List Entry) (rules : CharacterRules) (spot : Spot) (c : ℕ) (next : Option ℕ) (s : State) → may_forget s ≡ true → AreBettered IsBetter (outside_edges t rules spot c next s) (outside_edges t rules spot c next (forgotten s))
outside_bettered t rules spot c next s h =
    join_bettered IsBetter (map (kept_at s.at) (choices t rules spot c next s.pending)) (map (kept_at s.at) (choices t rules spot c next nothing)) (opened_sections rules.ascii spot c next s) (opened_sections rules.ascii spot c next (forgotten s))
    (kept_bettered s.at (unopened s h) (choices t rules spot c next s.pending) (choices t rules spot c next nothing) (choices_bettered t rules spot c next s.pending (free_of s h)))
    (rw (free_of s h) (all_bettered (opened_sections rules.ascii spot c next (forgotten s))))

omission_forgotten_unopened : (at : Where) → is_in_section (omission_forgotten at) ≡ is_in_section at
omission_forgotten_unopened outside = refl
omission_forgotten_unopened after_omitted_end = refl
omission_forgotten_unopened self_closed = refl
omission_forgotten_unopened after_name = refl
omission_forgotten_unopened after_unquoted = refl
omission_forgotten_unopened after_quoted = refl
omission_forgotten_unopened in_unquoted = refl
omission_forgotten_unopened in_double = refl
omission_forgotten_unopened in_single = refl
omission_forgotten_unopened in_section = refl

left_out_under : (b : Bool) (s : State) → may_forget s ≡ true → IsUnder (after_left_out b (forgotten s)) (after_left_out b s)
left_out_under true s h = inl refl
left_out_under false s h = inr (h, refl)

closing_bettered : (b : Bool) (es : List Edge) → AreBettered IsBetter (cond b es []) es
closing_bettered true es = all_bettered es
closing_bettered false es = none_bettered IsBetter es

unit_bettered : (g : Spelling) (unit : Unit) (s : State) → may_forget s ≡ true → AreBettered IsBetter (edges_of g unit s) (edges_of g unit (forgotten s))
unit_bettered g (fixed b) s h = all_bettered (edges_of g (fixed b) s)
unit_bettered g (start_tag n omits required_after_omission closes) s h =
    join_bettered IsBetter (cond (omits && not (required_after_omission && is_after_omitted_end s.at)) (edge_to [] (state (omission_forgotten s.at) s.pending) ∷ []) []) (cond (omits && not (required_after_omission && is_after_omitted_end s.at)) (edge_to [] (state (omission_forgotten s.at) nothing) ∷ []) []) _ _
    (test_bettered IsBetter (omits && not (required_after_omission && is_after_omitted_end s.at)) (edge_to [] (state (omission_forgotten s.at) s.pending) ∷ []) (edge_to [] (state (omission_forgotten s.at) nothing) ∷ []) [] []
    (one_bettered IsBetter (edge_to [] (state (omission_forgotten s.at) s.pending)) (edge_to [] (state (omission_forgotten s.at) nothing)) (omega arith, inr (may_forget_is (omission_forgotten s.at) s.pending (omission_forgotten_unopened s.at ∙ unopened s h) (free_of s h), refl)))
    (none_bettered IsBetter []))
    (all_bettered _)
unit_bettered g (tag_name n) s h = all_bettered (edges_of g (tag_name n) s)
unit_bettered g (bare_attribute n) s h = all_bettered (edges_of g (bare_attribute n) s)
unit_bettered g (attribute_name n v) s h = all_bettered (edges_of g (attribute_name n v) s)
unit_bettered g (character kind c next) s h = rw (unopened s h) (outside_bettered g.table (character_rules g) (spot_at kind s.at) c next s h)
unit_bettered g attribute_end s h = closing_bettered (may_end g.table (value_spot s.at) s.pending) (closed_at s.at)
unit_bettered g (tag_close closes) s h = all_bettered (edges_of g (tag_close closes) s)
unit_bettered g (end_tag n omits notes_omission) s h =
    test_bettered IsBetter (is_self_closed s.at) (edge_to [] first_state ∷ []) (edge_to [] first_state ∷ []) _ _
    (all_bettered (edge_to [] first_state ∷ []))
    (join_bettered IsBetter (cond omits (edge_to [] (after_left_out notes_omission s) ∷ []) []) (cond omits (edge_to [] (after_left_out notes_omission (forgotten s)) ∷ []) []) (edge_to (end_bytes n) first_state ∷ []) (edge_to (end_bytes n) first_state ∷ [])
    (test_bettered IsBetter omits (edge_to [] (after_left_out notes_omission s) ∷ []) (edge_to [] (after_left_out notes_omission (forgotten s)) ∷ []) [] []
    (one_bettered IsBetter (edge_to [] (after_left_out notes_omission s)) (edge_to [] (after_left_out notes_omission (forgotten s))) (omega arith, left_out_under notes_omission s h))
    (none_bettered IsBetter []))
    (all_bettered (edge_to (end_bytes n) first_state ∷ [])))

-- ---- Ways

edge_under : (g : Spelling) (unit : Unit) (s t : State) → IsUnder t s → AreBettered IsBetter (edges_of g unit s) (edges_of g unit t)
edge_under g unit s t (inl same) = subst (λ x. AreBettered IsBetter (edges_of g unit s) (edges_of g unit x)) (sym same) (all_bettered (edges_of g unit s))
edge_under g unit s t (inr (h, is)) = subst (λ x. AreBettered IsBetter (edges_of g unit s) (edges_of g unit x)) (sym is) (unit_bettered g unit s h)

way_under : (g : Spelling) (units : List Unit) (s t : State) (b : List ℕ) → IsUnder t s → Way (edges_of g) units s b → HasWayOver (edges_of g) units t b
way_under g [] s t b u w = record { bytes = []; way = refl; short = omega arith }
way_under g (unit ∷ units) s t b u (e, i, (rest, is, w)) = with_edge (edge_under g unit s t u e i) (λ x v. way_under g units e.to x rest v w)
  where
    with_way : (f : Edge) → IsIn f (edges_of g unit t) → edge_length f ≤ edge_length e → HasWayOver (edges_of g) units f.to rest → HasWayOver (edges_of g) (unit ∷ units) t b
    with_way f j short more =
        let left : length b ≡ length e.bytes + length rest = rw is (length-append e.bytes rest) in
        let right : length (f.bytes ++ more.bytes) ≡ length f.bytes + length more.bytes = length-append f.bytes more.bytes in
        record { bytes = f.bytes ++ more.bytes; way = (f, j, (more.bytes, refl, more.way)); short = let k = more.short in omega (arith, left, right, short, k) }

    with_edge : HasBetter IsBetter (edges_of g unit t) e → ((x : State) → IsUnder x e.to → HasWayOver (edges_of g) units x rest) → HasWayOver (edges_of g) (unit ∷ units) t b
    with_edge (f, j, (short, v)) more = with_way f j short (more f.to v)

pub forgetting : ForgettingIsNoLoss
forgetting g units s b h w = way_under g units s (forgotten s) b (inr (h, refl)) w
