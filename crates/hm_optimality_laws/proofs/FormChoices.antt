-- The choices of a character in one form of a value are those in another form, where it covers that one.
use Rattle.std.proofs.Common.{◌≡◌, ℕ, Bool, true, false, cond, not, ◌&&◌, ◌||◌, ◌==◌, List, [], ◌∷◌, ◌++◌, Option, Some, None, is_some, encode_utf8, refl, ap, ◌∙◌, subst, inl, inr, ◌⊎◌}
use Rattle.std.specs.Prelude.{is_none, nat_lt}
use Rattle.hm_graph_laws.proofs.CharacterWays.{IsOutsideEdge, chooses, opens, outside_edge_is}
use Rattle.hm_graph_laws.proofs.In.{in_append, in_left, in_right}
use Rattle.hm_graph_laws.specs.CharacterEdges.{Choice, as_itself, by_references, character_edges, choices, choices_by, half_of, is_in_section, itself_by, kept_at}
use Rattle.hm_graph_laws.specs.Edges.{Edge}
use Rattle.hm_graph_laws.specs.States.{Where, in_unquoted, in_single, Pending, nothing, less_than, hash, hash_x, decimal, hexadecimal, ampersand, named, half, one_bracket, two_brackets, state, value_spot}
use Rattle.hm_graph_laws.specs.Steps.{may_end, run, step}
use Rattle.hm_graph_laws.specs.Units.{in_value}
use Rattle.hm_graph_laws.specs.Forms.{stands}
use Rattle.hm_refs.specs.Names.{Entry}
use Rattle.hm_refs.specs.Numbers.{best_number}
use Rattle.hm_refs.specs.Tables.{IsIn}
use Rattle.hm_spelling_spec.specs.Characters as spots
use Rattle.hm_spelling_spec.specs.Characters.{CharacterRules, Spot, is_foreign, is_value, is_writable, may_stand, may_stand_in}

-- ---- Spots of values

pub value_is : (at : Where) → is_value (value_spot at) ≡ true
value_is in_unquoted = refl
value_is in_single = refl
value_is at = refl

native : (at : Where) → is_foreign (value_spot at) ≡ false
native in_unquoted = refl
native in_single = refl
native at = refl

pub opens_none : (x : Spot) (c : ℕ) → is_value x ≡ true → spots.opens x c ≡ false
opens_none spots.text c h = absurd (cc)
opens_none spots.rcdata c h = absurd (cc)
opens_none spots.foreign c h = absurd (cc)
opens_none spots.unquoted c h = refl
opens_none spots.double c h = refl
opens_none spots.single c h = refl

-- what a step does, and whether a value may end, is the same in each of them
pub same_step : (t : List Entry) (x y : Spot) → is_value x ≡ true → is_value y ≡ true → (p : Pending) (c : ℕ) → step t x p c ≡ step t y p c
same_step t x y h k nothing c = refl
same_step t x y h k less_than c = rw (opens_none x c h, opens_none y c k) refl
same_step t x y h k decimal c = refl
same_step t x y h k hexadecimal c = refl
same_step t x y h k hash c = refl
same_step t x y h k hash_x c = refl
same_step t x y h k (ampersand q) c = rw (h, k) refl
same_step t x y h k (named q) c = rw (h, k) refl
same_step t x y h k (half left) c = refl
same_step t x y h k one_bracket c = refl
same_step t x y h k two_brackets c = refl

same_run : (t : List Entry) (x y : Spot) → is_value x ≡ true → is_value y ≡ true → (s : List ℕ) (o : Option Pending) → run t x o s ≡ run t y o s
same_run t x y h k s None = refl
same_run t x y h k [] (Some p) = refl
same_run t x y h k (c ∷ s) (Some p) = same_run t x y h k s (step t x p c) ∙ ap (λ o. run t y o s) (same_step t x y h k p c)

pub same_end : (t : List Entry) (x y : Spot) → is_value x ≡ true → is_value y ≡ true → (p : Pending) → may_end t x p ≡ may_end t y p
same_end t x y h k nothing = refl
same_end t x y h k less_than = refl
same_end t x y h k decimal = refl
same_end t x y h k hexadecimal = refl
same_end t x y h k hash = refl
same_end t x y h k hash_x = refl
same_end t x y h k (ampersand q) = rw (h, k) refl
same_end t x y h k (named q) = refl
same_end t x y h k (half left) = refl
same_end t x y h k one_bracket = refl
same_end t x y h k two_brackets = refl

same_itself : (x y : Spot) (c : ℕ) → is_value x ≡ true → is_value y ≡ true → (o : Option Pending) → itself_by x c o ≡ itself_by y c o
same_itself x y c h k None = refl
same_itself x y c h k (Some q) = rw (h, k) refl

-- ---- The same choices

-- a character that may stand as itself in the other form may do so in this one
abbrev pub IsCovered : Where → Where → ℕ → Type 0
IsCovered form other c = (stands form c || not (stands other c)) ≡ true

covered_stand : (ascii : Bool) (form other : Where) (c : ℕ) → IsCovered form other c → may_stand ascii (value_spot other) c ≡ true → may_stand ascii (value_spot form) c ≡ true
unfolding may_stand is_writable
covered_stand ascii form other c = by_tests (c == 13) (not ascii || (nat_lt c 128 || is_none (best_number c))) (may_stand_in (value_spot form) c) (may_stand_in (value_spot other) c)
  where
    by_tests : (a w y x : Bool) → ((not a && y) || not (not a && x)) ≡ true → ((not a && w) && x) ≡ true → ((not a && w) && y) ≡ true
    by_tests true w y x h k = absurd (cc)
    by_tests false false y x h k = absurd (cc)
    by_tests false true true x h k = refl
    by_tests false true false true h k = absurd (cc)
    by_tests false true false false h k = absurd (cc)

itself_covered : (t : List Entry) (rules : CharacterRules) (form other : Where) (c : ℕ) (p : Pending) (k : Choice) → IsCovered form other c → IsIn k (as_itself t rules (value_spot other) c p) → IsIn k (as_itself t rules (value_spot form) c p)
unfolding as_itself
itself_covered t rules form other c p k h i = by_test (may_stand rules.ascii (value_spot other) c) refl i
  where
    same : itself_by (value_spot other) c (run t (value_spot other) (Some p) (encode_utf8 c)) ≡ itself_by (value_spot form) c (run t (value_spot form) (Some p) (encode_utf8 c))
    same =
        ap (itself_by (value_spot other) c) (same_run t (value_spot other) (value_spot form) (value_is other) (value_is form) (encode_utf8 c) (Some p))
        ∙ same_itself (value_spot other) (value_spot form) c (value_is other) (value_is form) (run t (value_spot form) (Some p) (encode_utf8 c))

    by_test : (b : Bool) → may_stand rules.ascii (value_spot other) c ≡ b → IsIn k (cond b (itself_by (value_spot other) c (run t (value_spot other) (Some p) (encode_utf8 c))) [])
        → IsIn k (cond (may_stand rules.ascii (value_spot form) c) (itself_by (value_spot form) c (run t (value_spot form) (Some p) (encode_utf8 c))) [])
    by_test true e j = rw (covered_stand rules.ascii form other c h e) (subst (λ ks. IsIn k ks) same j)
    by_test false e j = elim j [ ]

pub choices_covered : (t : List Entry) (rules : CharacterRules) (form other : Where) (c : ℕ) (next : Option ℕ) (p : Pending) (k : Choice) → IsCovered form other c
    → IsIn k (choices t rules (value_spot other) c next p) → IsIn k (choices t rules (value_spot form) c next p)
choices_covered t rules form other c next p k h = by_half (half_of p)
  where
    refer : Spot → List Choice
    refer x = cond (is_some (step t x p 38) && rules.refers c) (by_references t c next) []

    by_part : IsIn k (as_itself t rules (value_spot other) c p) ⊎ IsIn k (refer (value_spot other)) → IsIn k (as_itself t rules (value_spot form) c p ++ refer (value_spot form))
    by_part (inl j) = in_left k (as_itself t rules (value_spot form) c p) (refer (value_spot form)) (itself_covered t rules form other c p k h j)
    by_part (inr j) = in_right k (as_itself t rules (value_spot form) c p) (refer (value_spot form))
        (subst (λ o. IsIn k (cond (is_some o && rules.refers c) (by_references t c next) [])) (same_step t (value_spot other) (value_spot form) (value_is other) (value_is form) p 38) j)

    by_half : (o : Option (Option (List ℕ))) → IsIn k (choices_by o t rules (value_spot other) c next p) → IsIn k (choices_by o t rules (value_spot form) c next p)
    by_half (Some left) i = i
    by_half None i = by_part (in_append k (as_itself t rules (value_spot other) c p) (refer (value_spot other)) i)

-- ---- The edges of a character in a value

-- an edge is a choice
pub record IsChosen (t : List Entry) (rules : CharacterRules) (at : Where) (c : ℕ) (next : Option ℕ) (p : Pending) (e : Edge) : Type 0 where
  pub chosen : Choice
  pub among : IsIn chosen (choices t rules (value_spot at) c next p)
  pub is : e ≡ kept_at at chosen

chosen_of : (t : List Entry) (rules : CharacterRules) (at : Where) (c : ℕ) (next : Option ℕ) (p : Pending) (e : Edge) → IsOutsideEdge t rules (value_spot at) at c next p e → IsChosen t rules at c next p e
chosen_of t rules at c next p e (chooses k i is) = record { chosen = k; among = i; is = is }
chosen_of t rules at c next p e (opens o i) = absurd (let h = o.is_here in let n = native at in cc)

pub value_edge : (t : List Entry) (rules : CharacterRules) (at : Where) (c : ℕ) (next : Option ℕ) (p : Pending) (e : Edge) → is_in_section at ≡ false → IsIn e (character_edges t rules in_value c next (state at p)) → IsChosen t rules at c next p e
value_edge t rules at c next p e h i = chosen_of t rules at c next p e (outside_edge_is t rules in_value at c next p e h i)
