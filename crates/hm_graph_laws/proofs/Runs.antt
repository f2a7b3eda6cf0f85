-- Bytes taken as a whole, and the bytes '&' and '<' after what is pending.
use Rattle.std.proofs.Common.{◌≡◌, ℕ, Bool, true, false, cond, ◌&&◌, ◌||◌, ◌==◌, List, [], ◌∷◌, ◌++◌, Option, Some, None, refl, ◌∙◌, inl, inr}
use Rattle.hm_base.specs.Bytes.{is_alnum, is_digit, is_digit_of, is_hex, is_letter, is_null}
use Rattle.hm_refs.specs.Names.{Entry, is_front, is_name}
use Rattle.hm_refs.specs.References.{blocks, is_semicolon}
use Rattle.hm_refs.specs.Tables.{IsTable}
use Rattle.hm_spelling_spec.specs.Characters.{Spot, is_value, opens}
use Rattle.hm_graph_laws.specs.States.{Pending, ampersand, decimal, half, hash, hash_x, hexadecimal, less_than, named, nothing, one_bracket, two_brackets}
use Rattle.hm_graph_laws.specs.Steps.{Fits, FitsAfter, ampersand_in_text, ampersand_in_value, goes_on_decimal, goes_on_hexadecimal, is_root, keeps, keeps_after, named_in_text, named_in_value, onto, run, step, unless}
use Rattle.hm_refs.proofs.Found.{child_is}
use Rattle.hm_graph_laws.proofs.Steps.{name_front, step_law, step_fits}

-- bytes are taken as a whole
pub run_law : (t : List Entry) → IsTable t → (spot : Spot) (s x : List ℕ) (p : Pending) → Fits t spot p → keeps t spot p (s ++ x) ≡ keeps_after t spot (run t spot (Some p) s) x
run_law t k spot [] x p f = refl
run_law t k spot (c ∷ s) x p f = step_law t k spot p c (s ++ x) f ∙ by_step (step t spot p c) (step_fits t spot p c f) (λ q g. run_law t k spot s x q g)
  where
    by_step : (n : Option Pending) → FitsAfter t spot n → ((q : Pending) → Fits t spot q → keeps t spot q (s ++ x) ≡ keeps_after t spot (run t spot (Some q) s) x) → keeps_after t spot n (s ++ x) ≡ keeps_after t spot (run t spot n s) x
    by_step None g each = refl
    by_step (Some q) g each = each q g

pub run_fits : (t : List Entry) (spot : Spot) (s : List ℕ) (n : Option Pending) → FitsAfter t spot n → FitsAfter t spot (run t spot n s)
run_fits t spot s None f = f
run_fits t spot [] (Some p) f = f
run_fits t spot (c ∷ s) (Some p) f = run_fits t spot s (step t spot p c) (step_fits t spot p c f)

-- a byte that goes on with nothing that may be pending
pub record Special (c : ℕ) : Type 0 where
  pub no_alnum : is_alnum c ≡ false
  pub no_semicolon : (59 == c) ≡ false
  pub no_hash : (35 == c) ≡ false
  pub no_x : (120 == c || 88 == c) ≡ false

pub no_name : (t : List Entry) (q : List ℕ) → is_front t q ≡ false → is_name t q ≡ false
no_name t q h = by_name (is_name t q) refl
  where
    by_name : (b : Bool) → is_name t q ≡ b → b ≡ false
    by_name false e = refl
    by_name true e = let f = name_front t q e in absurd (cc)

pub amp_special : Special 38
unfolding is_alnum is_letter is_digit_of
amp_special = record { no_alnum = refl; no_semicolon = refl; no_hash = refl; no_x = refl }

pub lt_special : Special 60
unfolding is_alnum is_letter is_digit_of
lt_special = record { no_alnum = refl; no_semicolon = refl; no_hash = refl; no_x = refl }

pub no_child : (t : List Entry) → IsTable t → (q : List ℕ) (c : ℕ) → is_null q ≡ false → is_alnum c ≡ false → (59 == c) ≡ false → is_front t (q ++ c ∷ []) ≡ false
no_child t k q c n a s = by_front (is_front t (q ++ c ∷ [])) refl
  where
    by_front : (b : Bool) → is_front t (q ++ c ∷ []) ≡ b → b ≡ false
    by_front false e = refl
    by_front true e = elim (child_is t k q c n e) [
      | inl i ↦ absurd (cc)
      | inr i ↦ absurd (let j : (59 == c) ≡ true = rw i.0 refl in cc)
    ]

unless_is : (b : Bool) (q : Pending) → unless b nothing ≡ Some q → q ≡ nothing
unless_is true q h = absurd (cc)
unless_is false q h = cc

-- where a step goes on, nothing is pending
abbrev pub OnlyNothing : Option Pending → Type 0
OnlyNothing o = (r : Pending) → o ≡ Some r → r ≡ nothing

only_none : OnlyNothing None
only_none r e = absurd (cc)

only_some : OnlyNothing (Some nothing)
only_some r e = cc

only_cond : (b : Bool) (x y : Option Pending) → OnlyNothing x → OnlyNothing y → OnlyNothing (cond b x y)
only_cond true x y m n = m
only_cond false x y m n = n

and_false : (b : Bool) → b && false ≡ false
and_false true = refl
and_false false = refl

pub onto_none : (state : List ℕ → Pending) (t : List Entry) (q : List ℕ) (c : ℕ) → is_front t (q ++ c ∷ []) ≡ false → onto state t q c ≡ Some nothing
unfolding onto
onto_none state t q c f = rw f refl

amp_value_is : (t : List Entry) (q : List ℕ) (c : ℕ) → (35 == c) ≡ false → is_front t (q ++ c ∷ []) ≡ false → OnlyNothing (ampersand_in_value t q c)
unfolding ampersand_in_value
amp_value_is t q c h f = rw (h, and_false (is_root q), onto_none ampersand t q c f)
    (only_cond (is_name t q) _ _ (only_cond (blocks c) _ _ only_some only_none) (only_cond (is_name t (q ++ c ∷ []) && is_semicolon c) _ _ only_none only_some))

amp_text_is : (t : List Entry) (q : List ℕ) (c : ℕ) → (35 == c) ≡ false → is_front t (q ++ c ∷ []) ≡ false → OnlyNothing (ampersand_in_text t q c)
unfolding ampersand_in_text
amp_text_is t q c h f = rw (h, and_false (is_root q), onto_none ampersand t q c f) (only_cond (is_name t (q ++ c ∷ [])) _ _ only_none only_some)

named_text_is : (t : List Entry) (q : List ℕ) (c : ℕ) → is_front t (q ++ c ∷ []) ≡ false → OnlyNothing (named_in_text t q c)
unfolding named_in_text
named_text_is t q c f = rw (onto_none named t q c f) (only_cond (is_name t (q ++ c ∷ [])) _ _ only_none only_some)

named_value_is : (t : List Entry) (q : List ℕ) (c : ℕ) → OnlyNothing (named_in_value t q c)
unfolding named_in_value
named_value_is t q c = only_cond (blocks c || (is_semicolon c && is_front t (q ++ c ∷ []))) _ _ only_none only_some

pub step_special : (t : List Entry) → IsTable t → (spot : Spot) (p : Pending) (c : ℕ) → Special c → Fits t spot p → (r : Pending) → step t spot p c ≡ Some r → r ≡ nothing
step_special t k spot nothing c s f r e = cc
step_special t k spot less_than c s f r e = unless_is (opens spot c) r e
step_special t k spot decimal c s f r e = unless_is (goes_on_decimal c) r e
step_special t k spot hexadecimal c s f r e = unless_is (goes_on_hexadecimal c) r e
step_special t k spot hash c s f r e = unless_is (is_digit c) r (rw s.no_x at e)
step_special t k spot hash_x c s f r e = unless_is (is_hex c) r e
step_special t k spot (ampersand q) c s f r e = let n = no_child t k q c f.some s.no_alnum s.no_semicolon in
    only_cond (is_value spot) (ampersand_in_value t q c) (ampersand_in_text t q c) (amp_value_is t q c s.no_hash n) (amp_text_is t q c s.no_hash n) r e
step_special t k spot (named q) c s f r e = let n = no_child t k q c f s.no_alnum s.no_semicolon in
    only_cond (is_value spot) (named_in_value t q c) (named_in_text t q c) (named_value_is t q c) (named_text_is t q c n) r e
step_special t k spot (half left) c s f r e = absurd f
step_special t k spot one_bracket c s f r e = absurd f
step_special t k spot two_brackets c s f r e = absurd f
