-- What is pending in a value after a name comes from a name of the table that gives the characters there.
use Rattle.std.proofs.Common.{◌≡◌, ◌≤◌, ℕ, Bool, true, false, cond, not, ◌&&◌, ◌||◌, ◌==◌, nat_le, List, [], ◌∷◌, ◌++◌, length, Option, Some, None, is_some, encode_utf8, refl, sym, subst, inl, inr, ◌⊎◌, arith}
use Rattle.std.specs.Fmt as fmt
use Rattle.std.proofs.lemmas.Str.{length-encode, len_utf8_bounds}
use Rattle.hm_base.specs.Bytes.{is_digit, is_hex, is_null}
use Rattle.hm_graph_laws.proofs.ChoiceLaws.{named_is}
use Rattle.hm_graph_laws.proofs.In.{in_append, only}
use Rattle.hm_graph_laws.proofs.Numbers.{two_in}
use Rattle.hm_graph_laws.specs.CharacterEdges.{Choice, as_itself, after_half, after_name, after_pair, by_decimal, by_hexadecimal, by_names, by_pairs, by_references, choice, choices, choices_by, itself_by, itself_to}
use Rattle.hm_graph_laws.specs.States.{Where, Pending, nothing, less_than, hash, hash_x, decimal, hexadecimal, ampersand, named, half, one_bracket, two_brackets, value_spot}
use Rattle.hm_graph_laws.specs.Steps.{ampersand_in_text, ampersand_in_value, goes_on_decimal, goes_on_hexadecimal, is_hash, is_root, named_in_text, named_in_value, onto, run, step, unless}
use Rattle.hm_optimality_laws.proofs.DearCharacters.{any_in}
use Rattle.hm_optimality_laws.proofs.FormChoices.{value_is}
use Rattle.hm_graph_laws.specs.Forms.{leaves_open, may_leave_open}
use Rattle.hm_refs.proofs.Found.{null_append}
use Rattle.hm_refs.specs.Names.{Entry, is_closed, is_front, is_name, last_is}
use Rattle.hm_refs.specs.Numbers.{best_number}
use Rattle.hm_refs.specs.References.{blocks, is_semicolon}
use Rattle.hm_refs.specs.Tables.{IsIn}
use Rattle.hm_spelling_spec.specs.Characters as spots
use Rattle.hm_spelling_spec.specs.Characters.{CharacterRules, Spot, is_value, may_stand}

-- ---- What is pending

-- a name gives two code points, and the next one is its second; without ';' the name itself is pending after it
pub record IsDue (t : List Entry) (next : Option ℕ) (left : Option (List ℕ)) : Type 0 where
  pub entry : Entry
  pub among : IsIn entry t
  pub point : ℕ
  pub second : ℕ
  pub points_are : entry.points ≡ point ∷ second ∷ []
  pub next_is : next ≡ Some second
  pub left_open : (q : List ℕ) → left ≡ Some q → is_closed entry.name ≡ false

-- what is pending after a character and before the next one
abbrev pub Comes : List Entry → Option ℕ → Option ℕ → Pending → Type 0
Comes t previous next (ampersand q) = is_null q ≡ false
Comes t previous next (named q) = may_leave_open t previous ≡ true
Comes t previous next (half left) = IsDue t next left
Comes t previous next p = Prim.Unit {0}

-- no name is pending
abbrev pub Calm : Pending → Type 0
Calm (ampersand q) = is_null q ≡ false
Calm (named q) = ⊥
Calm (half left) = ⊥
Calm p = Prim.Unit {0}

abbrev pub CalmAfter : Option Pending → Type 0
CalmAfter None = Prim.Unit {0}
CalmAfter (Some p) = Calm p

calm_comes : (t : List Entry) (previous next : Option ℕ) (p : Pending) → Calm p → Comes t previous next p
calm_comes t previous next (ampersand q) h = h
calm_comes t previous next (named q) h = absurd h
calm_comes t previous next (half left) h = absurd h
calm_comes t previous next p h = tt

-- ---- After a character as itself

unless_calm : (b : Bool) → CalmAfter (unless b nothing)
unless_calm true = tt
unless_calm false = tt

calm_test : (b : Bool) (x y : Option Pending) → CalmAfter x → CalmAfter y → CalmAfter (cond b x y)
calm_test true x y h k = h
calm_test false x y h k = k

onto_calm : (t : List Entry) (q : List ℕ) (c : ℕ) → CalmAfter (onto ampersand t q c)
unfolding onto
onto_calm t q c = calm_test (is_front t (q ++ c ∷ [])) (Some (ampersand (q ++ c ∷ []))) (Some nothing) (null_append q c) tt

amp_calm : (t : List Entry) (q : List ℕ) (c : ℕ) → CalmAfter (ampersand_in_value t q c)
unfolding ampersand_in_value
amp_calm t q c =
    calm_test (is_root q && is_hash c) (Some hash) _ tt
    (calm_test (is_name t q) (cond (blocks c) (onto ampersand t q c) None) (cond (is_name t (q ++ c ∷ []) && is_semicolon c) None (onto ampersand t q c))
    (calm_test (blocks c) (onto ampersand t q c) None (onto_calm t q c) tt)
    (calm_test (is_name t (q ++ c ∷ []) && is_semicolon c) None (onto ampersand t q c) tt (onto_calm t q c)))

named_calm : (t : List Entry) (q : List ℕ) (c : ℕ) → CalmAfter (named_in_value t q c)
unfolding named_in_value
named_calm t q c = calm_test (blocks c || (is_semicolon c && is_front t (q ++ c ∷ []))) None (Some nothing) tt tt

step_calm : (t : List Entry) (x : Spot) → is_value x ≡ true → (p : Pending) (c : ℕ) → CalmAfter (step t x p c)
step_calm t x v nothing c = tt
step_calm t x v less_than c = unless_calm (spots.opens x c)
step_calm t x v decimal c = unless_calm (goes_on_decimal c)
step_calm t x v hexadecimal c = unless_calm (goes_on_hexadecimal c)
step_calm t x v hash c = calm_test (120 == c || 88 == c) (Some hash_x) (unless (is_digit c) nothing) tt (unless_calm (is_digit c))
step_calm t x v hash_x c = unless_calm (is_hex c)
step_calm t x v (ampersand q) c = subst (λ b. CalmAfter (cond b (ampersand_in_value t q c) (ampersand_in_text t q c))) (sym v) (amp_calm t q c)
step_calm t x v (named q) c = subst (λ b. CalmAfter (cond b (named_in_value t q c) (named_in_text t q c))) (sym v) (named_calm t q c)
step_calm t x v (half left) c = tt
step_calm t x v one_bracket c = tt
step_calm t x v two_brackets c = tt

run_calm : (t : List Entry) (x : Spot) → is_value x ≡ true → (s : List ℕ) (o : Option Pending) → CalmAfter o → CalmAfter (run t x o s)
run_calm t x v s None h = tt
run_calm t x v [] (Some p) h = h
run_calm t x v (c ∷ s) (Some p) h = run_calm t x v s (step t x p c) (step_calm t x v p c)

over_calm : (t : List Entry) (x : Spot) → is_value x ≡ true → (p : Pending) (s : List ℕ) → 1 ≤ length s → CalmAfter (run t x (Some p) s)
over_calm t x v p [] h = absurd (omega arith)
over_calm t x v p (c ∷ s) h = run_calm t x v s (step t x p c) (step_calm t x v p c)

to_calm : (a b : Bool) (q : Pending) → Calm q → Calm (cond a (ampersand (38 ∷ [])) (cond b less_than q))
to_calm true b q h = refl
to_calm false true q h = tt
to_calm false false q h = h

itself_calm : (x : Spot) (c : ℕ) (o : Option Pending) → CalmAfter o → (k : Choice) → IsIn k (itself_by x c o) → Calm k.to
itself_calm x c None h k i = elim i [ ]
itself_calm x c (Some q) h k i = subst (λ (l : Choice). Calm l.to) (sym (only k (choice (encode_utf8 c) (itself_to x c q)) i)) (to_calm (c == 38) (c == 60 && not (is_value x)) q h)

as_itself_calm : (t : List Entry) (rules : CharacterRules) (x : Spot) → is_value x ≡ true → (c : ℕ) (p : Pending) (k : Choice) → IsIn k (as_itself t rules x c p) → Calm k.to
unfolding as_itself
as_itself_calm t rules x v c p k i = by_test (may_stand rules.ascii x c) i
  where
    calm : CalmAfter (run t x (Some p) (encode_utf8 c))
    calm = over_calm t x v p (encode_utf8 c) (omega (arith, length-encode c, (len_utf8_bounds c).0))

    by_test : (b : Bool) → IsIn k (cond b (itself_by x c (run t x (Some p) (encode_utf8 c))) []) → Calm k.to
    by_test true j = itself_calm x c (run t x (Some p) (encode_utf8 c)) calm k j
    by_test false j = elim j [ ]

-- ---- After a reference

same_self : (c : ℕ) → (c == c) ≡ true
same_self c = grind arith

is_left_open : (t : List Entry) (c : ℕ) (e : Entry) → IsIn e t → is_closed e.name ≡ false → last_is c e.points ≡ true → may_leave_open t (Some c) ≡ true
is_left_open t c e i h k = any_in (leaves_open c) e t i (rw (h, k) refl)

name_comes : (t : List Entry) (c : ℕ) (next : Option ℕ) (e : Entry) → IsIn e t → e.points ≡ c ∷ [] → Comes t (Some c) next (after_name e.name)
unfolding after_name
name_comes t c next e i is = by_test (is_closed e.name) refl
  where
    by_test : (b : Bool) → is_closed e.name ≡ b → Comes t (Some c) next (cond b nothing (named e.name))
    by_test true h = tt
    by_test false h = is_left_open t c e i h (rw is (same_self c))

pair_comes : (t : List Entry) (c d : ℕ) (e : Entry) → IsIn e t → e.points ≡ c ∷ d ∷ [] → Comes t (Some c) (Some d) (after_pair e.name)
unfolding after_pair
pair_comes t c d e i is = record { entry = e; among = i; point = c; second = d; points_are = is; next_is = refl; left_open = λ q h. by_test (is_closed e.name) q h }
  where
    by_test : (b : Bool) (q : List ℕ) → cond b None (Some e.name) ≡ Some q → b ≡ false
    by_test true q h = absurd (cc)
    by_test false q h = refl

calm_two : (a b k : Choice) → Calm a.to → Calm b.to → IsIn k (a ∷ b ∷ []) → Calm k.to
calm_two a b k h g i = by_two (two_in k a b i)
  where
    by_two : (k ≡ a) ⊎ (k ≡ b) → Calm k.to
    by_two (inl e) = subst (λ (l : Choice). Calm l.to) (sym e) h
    by_two (inr e) = subst (λ (l : Choice). Calm l.to) (sym e) g

decimal_calm : (o : Option ℕ) (k : Choice) → IsIn k (by_decimal o) → Calm k.to
decimal_calm None k i = elim i [ ]
decimal_calm (Some n) k i = calm_two (choice (38 ∷ 35 ∷ fmt.decimal n) decimal) (choice (38 ∷ 35 ∷ (fmt.decimal n ++ 59 ∷ [])) nothing) k tt tt i

hexadecimal_calm : (c : ℕ) (k : Choice) → IsIn k (by_hexadecimal c) → Calm k.to
hexadecimal_calm c k i = by_test (nat_le 1000000 c && nat_le c 1048575) i
  where
    by_test : (b : Bool) → IsIn k (cond b (choice (38 ∷ 35 ∷ 120 ∷ fmt.digits 16 false c) hexadecimal ∷ choice (38 ∷ 35 ∷ 120 ∷ (fmt.digits 16 false c ++ 59 ∷ [])) nothing ∷ []) []) → Calm k.to
    by_test true j = calm_two (choice (38 ∷ 35 ∷ 120 ∷ fmt.digits 16 false c) hexadecimal) (choice (38 ∷ 35 ∷ 120 ∷ (fmt.digits 16 false c ++ 59 ∷ [])) nothing) k tt tt j
    by_test false j = elim j [ ]

reference_comes : (t : List Entry) (c : ℕ) (next : Option ℕ) (k : Choice) → IsIn k (by_references t c next) → Comes t (Some c) next k.to
reference_comes t c next k i = by_first (in_append k (by_names after_name (c ∷ []) t) (by_pairs t c next ++ (by_decimal (best_number c) ++ by_hexadecimal c)) i)
  where
    by_number : IsIn k (by_decimal (best_number c)) ⊎ IsIn k (by_hexadecimal c) → Calm k.to
    by_number (inl j) = decimal_calm (best_number c) k j
    by_number (inr j) = hexadecimal_calm c k j

    by_pair : (o : Option ℕ) → IsIn k (by_pairs t c o) → Comes t (Some c) o k.to
    by_pair None j = elim j [ ]
    by_pair (Some d) j = let n = named_is t after_pair (c ∷ d ∷ []) k j in subst (λ (l : Choice). Comes t (Some c) (Some d) l.to) (sym n.choice_is) (pair_comes t c d n.entry n.among n.points_are)

    by_second : IsIn k (by_pairs t c next) ⊎ IsIn k (by_decimal (best_number c) ++ by_hexadecimal c) → Comes t (Some c) next k.to
    by_second (inl j) = by_pair next j
    by_second (inr j) = calm_comes t (Some c) next k.to (by_number (in_append k (by_decimal (best_number c)) (by_hexadecimal c) j))

    by_first : IsIn k (by_names after_name (c ∷ []) t) ⊎ IsIn k (by_pairs t c next ++ (by_decimal (best_number c) ++ by_hexadecimal c)) → Comes t (Some c) next k.to
    by_first (inl j) = let n = named_is t after_name (c ∷ []) k j in subst (λ (l : Choice). Comes t (Some c) next l.to) (sym n.choice_is) (name_comes t c next n.entry n.among n.points_are)
    by_first (inr j) = by_second (in_append k (by_pairs t c next) (by_decimal (best_number c) ++ by_hexadecimal c) j)

-- ---- After any choice

due_comes : (t : List Entry) (c : ℕ) (next : Option ℕ) (left : Option (List ℕ)) → IsDue t (Some c) left → Comes t (Some c) next (after_half left)
due_comes t c next None d = tt
due_comes t c next (Some q) d =
    let same : c ≡ d.second = let h = d.next_is in cc in
    is_left_open t c d.entry d.among (d.left_open q refl) (rw d.points_are (rw same (same_self d.second)))

whole_comes : (t : List Entry) (rules : CharacterRules) (at : Where) (c : ℕ) (next : Option ℕ) (p : Pending) (k : Choice) → IsIn k (choices_by None t rules (value_spot at) c next p) → Comes t (Some c) next k.to
whole_comes t rules at c next p k i = by_part (in_append k (as_itself t rules (value_spot at) c p) (cond (is_some (step t (value_spot at) p 38) && rules.refers c) (by_references t c next) []) i)
  where
    by_test : (b : Bool) → IsIn k (cond b (by_references t c next) []) → Comes t (Some c) next k.to
    by_test true j = reference_comes t c next k j
    by_test false j = elim j [ ]

    by_part : IsIn k (as_itself t rules (value_spot at) c p) ⊎ IsIn k (cond (is_some (step t (value_spot at) p 38) && rules.refers c) (by_references t c next) []) → Comes t (Some c) next k.to
    by_part (inl j) = calm_comes t (Some c) next k.to (as_itself_calm t rules (value_spot at) (value_is at) c p k j)
    by_part (inr j) = by_test (is_some (step t (value_spot at) p 38) && rules.refers c) j

-- each choice of a character leaves pending what comes from names
pub choice_comes : (t : List Entry) (rules : CharacterRules) (at : Where) (previous : Option ℕ) (c : ℕ) (next : Option ℕ) (p : Pending) (k : Choice) → Comes t previous (Some c) p → IsIn k (choices t rules (value_spot at) c next p) → Comes t (Some c) next k.to
choice_comes t rules at previous c next (half left) k h i = subst (λ (l : Choice). Comes t (Some c) next l.to) (sym (only k (choice [] (after_half left)) i)) (due_comes t c next left h)
choice_comes t rules at previous c next p k h i = whole_comes t rules at c next p k i
