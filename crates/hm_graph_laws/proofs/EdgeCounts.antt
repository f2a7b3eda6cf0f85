-- A state has few edges: a character as itself, by names, by its number and in a section.
use Rattle.std.proofs.Common.{◌≡◌, ℕ, ◌+◌, ◌≤◌, Bool, true, false, cond, not, ◌&&◌, ◌==◌, nat_le, List, [], ◌∷◌, ◌++◌, length, map, Option, Some, None, is_some, refl, sym, subst, arith, length-append}
use Rattle.std.specs.Prelude.{bytes_eq, codes, count_by, encode_utf8}
use Rattle.std.proofs.lemmas.List.Sums.{sum_by-cons}
use Rattle.std.proofs.lemmas.List.{length-map}
use Rattle.hm_base.specs.Bytes.{head_is}
use Rattle.hm_graph_laws.specs.AttributeEdges.{close_edges, closed_at, gap_at, is_after_unquoted, opening_edges}
use Rattle.hm_graph_laws.specs.CharacterEdges.{Choice, as_itself, after_name, after_pair, by_decimal, by_hexadecimal, by_names, by_pairs, by_references, character_edges, choice, choices, choices_by, half_of, is_in_section, is_outside, itself_by, kept_at, opened_sections, outside_edges, section_edges_by, closes_section, spot_at}
use Rattle.hm_graph_laws.specs.Edges.{Edge, edge, edge_to}
use Rattle.hm_graph_laws.specs.EdgeLaws.{StatesHaveFewEdges}
use Rattle.hm_graph_laws.specs.States.{Pending, State, Where, first_state, in_unquoted, nothing, self_closed, state, value_spot}
use Rattle.hm_graph_laws.specs.States as places
use Rattle.hm_graph_laws.specs.Steps.{may_end, run, step}
use Rattle.hm_graph_laws.specs.TagEdges.{after_left_out, end_bytes, end_edges, is_after_omitted_end, is_self_closed, start_bytes, start_edges, omission_forgotten}
use Rattle.hm_graph_laws.specs.Units.{TextKind, fixed, start_tag, tag_name, bare_attribute, attribute_name, character, attribute_end, tag_close, end_tag}
use Rattle.hm_refs.specs.Names.{Entry}
use Rattle.hm_refs.specs.Numbers.{best_number}
use Rattle.hm_refs.specs.Tables.{IsTable, is_for}
use Rattle.hm_spelling_spec.specs.Characters.{CharacterRules, Spot, is_foreign, is_writable, may_stand}
use Rattle.hm_spelling_spec.specs.Tags.{character_rules}

-- ---- Lists

either_few : {A : Type 0} (b : Bool) (xs ys : List A) (n : ℕ) → length xs ≤ n → length ys ≤ n → length (cond b xs ys) ≤ n
either_few true xs ys n h k = h
either_few false xs ys n h k = k

some_few : {A : Type 0} (b : Bool) (xs : List A) (n : ℕ) → length xs ≤ n → length (cond b xs []) ≤ n
some_few b xs n h = either_few b xs [] n h (omega arith)

both_few : {A : Type 0} (xs ys : List A) (n m : ℕ) → length xs ≤ n → length ys ≤ m → length (xs ++ ys) ≤ n + m
both_few xs ys n m h k = omega (arith, length-append xs ys, h, k)

-- ---- Names

-- at most one of two tests passes, and only where a third one does
abbrev counted : Bool → Bool → Bool → Bool
counted true two any = not two && any
counted false true any = any
counted false false any = true

-- a name is for c alone, or for c and d, and both times it is one for c
is_counted : (c d : ℕ) (ps : List ℕ) → counted (bytes_eq ps (c ∷ [])) (bytes_eq ps (c ∷ d ∷ [])) (head_is (λ p. p == c) ps) ≡ true
is_counted c d [] = refl
is_counted c d (a ∷ []) = by_first (a == c)
  where
    by_first : (b : Bool) → counted (b && true) (b && false) b ≡ true
    by_first true = refl
    by_first false = refl
is_counted c d (a ∷ b ∷ []) = by_both (a == c) (b == d)
  where
    by_both : (x y : Bool) → counted (x && false) (x && (y && true)) x ≡ true
    by_both true true = refl
    by_both true false = refl
    by_both false y = refl
is_counted c d (a ∷ b ∷ g ∷ ps) = by_both (a == c) (b == d)
  where
    by_both : (x y : Bool) → counted (x && false) (x && (y && false)) x ≡ true
    by_both true true = refl
    by_both true false = refl
    by_both false y = refl

names_few : (f h : List ℕ → Pending) (c d : ℕ) (t : List Entry) → length (by_names f (c ∷ []) t) + length (by_names h (c ∷ d ∷ []) t) ≤ count_by (is_for c) t
names_few f h c d [] = omega arith
names_few f h c d (e ∷ t) =
    subst (λ n. length (by_names f (c ∷ []) (e ∷ t)) + length (by_names h (c ∷ d ∷ []) (e ∷ t)) ≤ n) (sym (sum_by-cons (λ x. cond (is_for c x) 1 0) e t))
    (by_tests (bytes_eq e.points (c ∷ [])) (bytes_eq e.points (c ∷ d ∷ [])) (is_for c e) (is_counted c d e.points) (names_few f h c d t))
  where
    ones : List Choice
    ones = by_names f (c ∷ []) t

    twos : List Choice
    twos = by_names h (c ∷ d ∷ []) t

    by_tests : (one two any : Bool) → counted one two any ≡ true → length ones + length twos ≤ count_by (is_for c) t
        → length (cond one (choice e.name (f e.name) ∷ ones) ones) + length (cond two (choice e.name (h e.name) ∷ twos) twos) ≤ cond any 1 0 + count_by (is_for c) t
    by_tests true true any k m = absurd (cc)
    by_tests true false true k m = omega (arith, m)
    by_tests true false false k m = absurd (cc)
    by_tests false true true k m = omega (arith, m)
    by_tests false true false k m = absurd (cc)
    by_tests false false true k m = omega (arith, m)
    by_tests false false false k m = omega (arith, m)

-- ---- Choices

by_name_few : (t : List Entry) → IsTable t → (c : ℕ) (next : Option ℕ) → length (by_names after_name (c ∷ []) t) + length (by_pairs t c next) ≤ 64
by_name_few t k c None = omega (arith, names_few after_name after_pair c 0 t, (k.few_for c).0)
by_name_few t k c (Some d) = omega (arith, names_few after_name after_pair c d t, (k.few_for c).0)

decimal_few : (n : Option ℕ) → length (by_decimal n) ≤ 2
decimal_few None = omega arith
decimal_few (Some n) = omega arith

hexadecimal_few : (c : ℕ) → length (by_hexadecimal c) ≤ 2
hexadecimal_few c = some_few (nat_le 1000000 c && nat_le c 1048575) _ 2 (omega arith)

references_few : (t : List Entry) → IsTable t → (c : ℕ) (next : Option ℕ) → length (by_references t c next) ≤ 68
references_few t k c next =
    let names = by_names after_name (c ∷ []) t in
    let pairs = by_pairs t c next in
    let numbers = by_decimal (best_number c) ++ by_hexadecimal c in
    omega (
      arith,
      length-append names (pairs ++ numbers),
      length-append pairs numbers,
      both_few (by_decimal (best_number c)) (by_hexadecimal c) 2 2 (decimal_few (best_number c)) (hexadecimal_few c),
      by_name_few t k c next,
    )

itself_few : (t : List Entry) (rules : CharacterRules) (spot : Spot) (c : ℕ) (p : Pending) → length (as_itself t rules spot c p) ≤ 1
unfolding as_itself
itself_few t rules spot c p = some_few (may_stand rules.ascii spot c) _ 1 (by_run (run t spot (Some p) (encode_utf8 c)))
  where
    by_run : (q : Option Pending) → length (itself_by spot c q) ≤ 1
    by_run None = omega arith
    by_run (Some q) = omega arith

choices_few : (t : List Entry) → IsTable t → (rules : CharacterRules) (spot : Spot) (c : ℕ) (next : Option ℕ) (p : Pending) (half : Option (Option (List ℕ))) → length (choices_by half t rules spot c next p) ≤ 69
choices_few t k rules spot c next p (Some left) = omega arith
choices_few t k rules spot c next p None = both_few (as_itself t rules spot c p) _ 1 68 (itself_few t rules spot c p) (some_few (is_some (step t spot p 38) && rules.refers c) _ 68 (references_few t k c next))

-- ---- Characters

section_few : (next : Option ℕ) (front : List ℕ) (c : ℕ) (p : Pending) → length (section_edges_by next front c p) ≤ 2
section_few None front c p = omega arith
section_few (Some d) front c p = omega arith

outside_few : (t : List Entry) → IsTable t → (rules : CharacterRules) (spot : Spot) (c : ℕ) (next : Option ℕ) (s : State) → length (outside_edges t rules spot c next s) ≤ 71
outside_few t k rules spot c next s =
    let written = choices t rules spot c next s.pending in
    both_few (map (kept_at s.at) written) (opened_sections rules.ascii spot c next s) 69 2
    (omega (arith, length-map written (kept_at s.at), choices_few t k rules spot c next s.pending (half_of s.pending)))
    (some_few (is_foreign spot && (is_outside s.at && (not (is_some (half_of s.pending)) && is_writable rules.ascii c))) _ 2 (section_few next (codes "<![CDATA[") c nothing))

character_few : (t : List Entry) → IsTable t → (rules : CharacterRules) (kind : TextKind) (c : ℕ) (next : Option ℕ) (s : State) → length (character_edges t rules kind c next s) ≤ 71
character_few t k rules kind c next s = either_few (is_in_section s.at) _ _ 71
    (some_few (is_writable rules.ascii c && not (closes_section c s.pending)) _ 71 (omega (arith, section_few next [] c s.pending)))
    (outside_few t k rules (spot_at kind s.at) c next s)

-- ---- Tags

closed_few : (at : Where) → length (closed_at at) ≤ 71
closed_few places.outside = omega arith
closed_few places.after_omitted_end = omega arith
closed_few places.self_closed = omega arith
closed_few places.after_name = omega arith
closed_few places.after_unquoted = omega arith
closed_few places.after_quoted = omega arith
closed_few places.in_unquoted = omega arith
closed_few places.in_double = omega arith
closed_few places.in_single = omega arith
closed_few places.in_section = omega arith

-- an edge that may be there before others, or after one
one_before : (b : Bool) (e : Edge) (es : List Edge) (n : ℕ) → length es ≤ n → length (cond b (e ∷ []) [] ++ es) ≤ n + 1
one_before true e es n h = omega (arith, h)
one_before false e es n h = omega (arith, h)

one_after : (b : Bool) (d e : Edge) → length (d ∷ cond b (e ∷ []) []) ≤ 2
one_after true d e = omega arith
one_after false d e = omega arith

start_few : (n : List ℕ) (omits required_after_omission closes : Bool) (s : State) → length (start_edges n omits required_after_omission closes s) ≤ 3
start_few n omits required_after_omission closes s = one_before (omits && not (required_after_omission && is_after_omitted_end s.at)) (edge_to [] (state (omission_forgotten s.at) s.pending)) _ 2 (one_after closes (edge_to (start_bytes n) first_state) (edge (codes "<" ++ (n ++ codes "/>")) self_closed nothing))

opening_few : (tight unquote : Bool) (n : List ℕ) (s : State) → length (opening_edges tight unquote n s) ≤ 3
opening_few tight unquote n s = one_before unquote (edge (gap_at tight s.at ++ (n ++ codes "=")) in_unquoted nothing) _ 2 (omega arith)

close_few : (closes : Bool) (s : State) → length (close_edges closes s) ≤ 2
close_few closes s = one_after closes (edge_to (62 ∷ []) first_state) (edge (cond (is_after_unquoted s.at) (codes " />") (codes "/>")) self_closed nothing)

end_few : (n : List ℕ) (omits notes_omission : Bool) (s : State) → length (end_edges n omits notes_omission s) ≤ 2
end_few n omits notes_omission s = either_few (is_self_closed s.at) _ _ 2 (omega arith) (one_before omits (edge_to [] (after_left_out notes_omission s)) (edge_to (end_bytes n) first_state ∷ []) 1 (omega arith))

pub states_have_few_edges : StatesHaveFewEdges
states_have_few_edges g k (fixed b) s = omega arith
states_have_few_edges g k (start_tag n omits required_after_omission closes) s = omega (arith, start_few n omits required_after_omission closes s)
states_have_few_edges g k (tag_name n) s = omega arith
states_have_few_edges g k (bare_attribute n) s = omega arith
states_have_few_edges g k (attribute_name n v) s = omega (arith, opening_few g.rules.tight g.rules.unquote n s)
states_have_few_edges g k (character kind c next) s = character_few g.table k (character_rules g) kind c next s
states_have_few_edges g k attribute_end s = some_few (may_end g.table (value_spot s.at) s.pending) (closed_at s.at) 71 (closed_few s.at)
states_have_few_edges g k (tag_close closes) s = omega (arith, close_few closes s)
states_have_few_edges g k (end_tag n omits notes_omission) s = omega (arith, end_few n omits notes_omission s)
