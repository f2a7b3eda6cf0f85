-- The byte after a text or a value.
use Rattle.std.proofs.Common.{◌≡◌, ℕ, Bool, true, false, cond, ◌&&◌, nat_lt, not, List, [], ◌∷◌, ◌++◌, Some, None, refl, ◌∙◌, arith}
use Rattle.std.specs.Char.{digit_value}
use Rattle.hm_base.specs.Bytes.{is_alnum, is_digit_of, is_letter}
use Rattle.hm_refs.specs.Names.{Entry, is_name}
use Rattle.hm_refs.specs.References.{blocks}
use Rattle.hm_refs.specs.Tables.{IsIn, IsTable, first, later}
use Rattle.hm_spelling_spec.specs.Characters.{Spot, double, foreign, is_value, opens, opens_text, rcdata, single, text, unquoted}
use Rattle.hm_graph_laws.specs.PendingLaws.{closing_bytes}
use Rattle.hm_graph_laws.specs.States.{Pending, ampersand, decimal, half, hash, hash_x, hexadecimal, less_than, named, nothing, one_bracket, two_brackets}
use Rattle.hm_graph_laws.specs.Steps.{Fits, ampersand_in_text, ampersand_in_value, is_root, keeps, keeps_after, may_end, named_in_text, named_in_value, step}
use Rattle.hm_graph_laws.proofs.Steps.{step_law}
use Rattle.hm_graph_laws.proofs.Runs.{Special, no_child, onto_none, no_name, lt_special}

pub ten_hex : (c : ℕ) → is_digit_of 16 c ≡ false → is_digit_of 10 c ≡ false
unfolding is_digit_of
ten_hex c h = by_value (digit_value c) h
  where
    by_value : (v : ℕ) → nat_lt v 16 ≡ false → nat_lt v 10 ≡ false
    by_value v k = grind arith

value_opens : (spot : Spot) (c : ℕ) → is_value spot ≡ true → opens spot c ≡ false
value_opens text c h = absurd (cc)
value_opens rcdata c h = absurd (cc)
value_opens foreign c h = absurd (cc)
value_opens unquoted c h = refl
value_opens double c h = refl
value_opens single c h = refl

-- in a value the closing byte keeps what is pending exactly where it may end
closing_at : (t : List Entry) → IsTable t → (spot : Spot) (p : Pending) (c : ℕ) (s : List ℕ) → is_value spot ≡ true → Special c → blocks c ≡ false → is_digit_of 16 c ≡ false → Fits t spot p → keeps t spot p (c ∷ s) ≡ may_end t spot p
unfolding ampersand_in_value named_in_value
closing_at t k spot p c s v i b no_hex f = step_law t k spot p c s f ∙ by_state p f
  where
    no_digit : is_digit_of 10 c ≡ false
    no_digit = ten_hex c no_hex

    by_root : (r n : Bool) → keeps_after t spot (cond (r && false) (Some hash) (cond n None (Some nothing))) s ≡ not (true && n)
    by_root true true = refl
    by_root true false = refl
    by_root false true = refl
    by_root false false = refl

    by_name : (m : Bool) → cond (m && false) None (Some nothing) ≡ Some nothing
    by_name true = refl
    by_name false = refl

    by_state : (q : Pending) → Fits t spot q → keeps_after t spot (step t spot q c) s ≡ may_end t spot q
    by_state nothing g = refl
    by_state less_than g = rw (value_opens spot c v) refl
    by_state decimal g = rw (no_digit, i.no_semicolon) refl
    by_state hexadecimal g = rw (no_hex, i.no_semicolon) refl
    by_state hash g = rw (i.no_x, no_digit) refl
    by_state hash_x g = rw no_hex refl
    by_state (ampersand q) g = rw (v, i.no_hash, b, i.no_semicolon, onto_none ampersand t q c (no_child t k q c g.some i.no_alnum i.no_semicolon), by_name (is_name t (q ++ c ∷ []))) (by_root (is_root q) (is_name t q))
    by_state (named q) g = rw (v, b, i.no_semicolon) refl
    by_state (half left) g = absurd g
    by_state one_bracket g = absurd g
    by_state two_brackets g = absurd g

record IsClosing (c : ℕ) : Type 0 where
  special : Special c
  no_block : blocks c ≡ false
  no_hex : is_digit_of 16 c ≡ false

closing_is : (c : ℕ) → IsIn c closing_bytes → IsClosing c
unfolding is_digit_of is_alnum is_letter
closing_is c (first z0) = record { special = record { no_alnum = refl; no_semicolon = refl; no_hash = refl; no_x = refl }; no_block = refl; no_hex = refl }
closing_is c (later y1 z1 (first z0)) = record { special = record { no_alnum = refl; no_semicolon = refl; no_hash = refl; no_x = refl }; no_block = refl; no_hex = refl }
closing_is c (later y2 z2 (later y1 z1 (first z0))) = record { special = record { no_alnum = refl; no_semicolon = refl; no_hash = refl; no_x = refl }; no_block = refl; no_hex = refl }
closing_is c (later y3 z3 (later y2 z2 (later y1 z1 (first z0)))) = record { special = record { no_alnum = refl; no_semicolon = refl; no_hash = refl; no_x = refl }; no_block = refl; no_hex = refl }
closing_is c (later y4 z4 (later y3 z3 (later y2 z2 (later y1 z1 (first z0))))) = record { special = record { no_alnum = refl; no_semicolon = refl; no_hash = refl; no_x = refl }; no_block = refl; no_hex = refl }
closing_is c (later y5 z5 (later y4 z4 (later y3 z3 (later y2 z2 (later y1 z1 (first z0)))))) = record { special = record { no_alnum = refl; no_semicolon = refl; no_hash = refl; no_x = refl }; no_block = refl; no_hex = refl }
closing_is c (later y6 z6 (later y5 z5 (later y4 z4 (later y3 z3 (later y2 z2 (later y1 z1 (first z0))))))) = record { special = record { no_alnum = refl; no_semicolon = refl; no_hash = refl; no_x = refl }; no_block = refl; no_hex = refl }
closing_is c (later y7 z7 (later y6 z6 (later y5 z5 (later y4 z4 (later y3 z3 (later y2 z2 (later y1 z1 (first z0)))))))) = record { special = record { no_alnum = refl; no_semicolon = refl; no_hash = refl; no_x = refl }; no_block = refl; no_hex = refl }
closing_is c (later y8 z8 (later y7 z7 (later y6 z6 (later y5 z5 (later y4 z4 (later y3 z3 (later y2 z2 (later y1 z1 i)))))))) = elim i [ ]

pub closing_law : (t : List Entry) → IsTable t → (spot : Spot) (p : Pending) (c : ℕ) (s : List ℕ) → is_value spot ≡ true → IsIn c closing_bytes → Fits t spot p → keeps t spot p (c ∷ s) ≡ may_end t spot p
closing_law t k spot p c s v i f = let h = closing_is c i in closing_at t k spot p c s v h.special h.no_block h.no_hex f

-- in text '<' keeps whatever is pending
pub markup_law : (t : List Entry) → IsTable t → (spot : Spot) (p : Pending) (s : List ℕ) → is_value spot ≡ false → Fits t spot p → keeps t spot p (60 ∷ s) ≡ true
unfolding ampersand_in_text named_in_text is_digit_of is_letter is_alnum opens_text
markup_law t k spot p s v f = step_law t k spot p 60 s f ∙ by_state p f
  where
    by_root : (r : Bool) → keeps_after t spot (cond (r && false) (Some hash) (Some nothing)) s ≡ true
    by_root true = refl
    by_root false = refl

    no_open : (z : Spot) → is_value z ≡ false → opens z 60 ≡ false
    no_open text h = refl
    no_open rcdata h = refl
    no_open foreign h = refl
    no_open unquoted h = absurd (cc)
    no_open double h = absurd (cc)
    no_open single h = absurd (cc)

    by_state : (q : Pending) → Fits t spot q → keeps_after t spot (step t spot q 60) s ≡ true
    by_state nothing g = refl
    by_state less_than g = rw (no_open spot v) refl
    by_state decimal g = refl
    by_state hexadecimal g = refl
    by_state hash g = refl
    by_state hash_x g = refl
    by_state (ampersand q) g = let n = no_child t k q 60 g.some lt_special.no_alnum refl in rw (v, onto_none ampersand t q 60 n, no_name t (q ++ 60 ∷ []) n) (by_root (is_root q))
    by_state (named q) g = let n = no_child t k q 60 g lt_special.no_alnum refl in rw (v, onto_none named t q 60 n, no_name t (q ++ 60 ∷ []) n) refl
    by_state (half left) g = absurd g
    by_state one_bracket g = absurd g
    by_state two_brackets g = absurd g
