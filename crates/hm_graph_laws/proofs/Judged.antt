-- Where '&' and '<' stand as themselves, and what follows them where they don't.
use Rattle.std.proofs.Common.{◌≡◌, ℕ, ◌≤◌, Bool, true, false, cond, ◌&&◌, ◌||◌, ◌==◌, not, List, [], ◌∷◌, ◌++◌, Option, Some, None, refl, sym, ap, ◌∙◌, subst, arith, is_some, is_none, encode_utf8}
use Rattle.hm_base.specs.Bytes.{head_is, is_alnum, is_digit_of, is_letter}
use Rattle.hm_refs.specs.Names.{Entry, begins, is_front, is_good, is_name}
use Rattle.hm_refs.specs.References.{blocks, reference}
use Rattle.hm_refs.specs.Tables.{IsTable}
use Rattle.hm_refs.proofs.Bools.{and_left, and_right, eq_of}
use Rattle.hm_refs.proofs.Found.{front_name, good_entry}
use Rattle.hm_spelling_spec.specs.Characters.{Spot, double, foreign, is_value, opens, opens_text, rcdata, single, stays, text, unquoted}
use Rattle.hm_graph_laws.specs.CharacterEdges.{itself_to}
use Rattle.hm_graph_laws.proofs.ChoiceLaws.{root_no_name, root_open}
use Rattle.hm_graph_laws.proofs.Literals.{literal_law}
use Rattle.hm_graph_laws.specs.States.{Pending, ampersand, decimal, half, hash, hash_x, hexadecimal, less_than, named, nothing, one_bracket, two_brackets}
use Rattle.hm_graph_laws.specs.Steps.{Fits, ampersand_in_text, ampersand_in_value, goes_on_decimal, is_root, keeps, keeps_after, named_in_text, named_in_value, onto, run, step}
use Rattle.hm_graph_laws.proofs.Runs.{amp_special, no_child, no_name, onto_none}
use Rattle.hm_graph_laws.proofs.Steps.{step_law}

-- what is pending after a character says whether it stays
pub stays_is : (t : List Entry) → IsTable t → (spot : Spot) (c : ℕ) (y : List ℕ) → stays t spot c y ≡ keeps t spot (itself_to spot c nothing) y
stays_is t k spot c y = sym (and_true (stays t spot c y)) ∙ literal_law t k spot nothing c tt nothing (run_nothing (encode_utf8 c)) y
  where
    and_true : (b : Bool) → b && true ≡ b
    and_true true = refl
    and_true false = refl

    run_nothing : (s : List ℕ) → run t spot (Some nothing) s ≡ Some nothing
    run_nothing [] = refl
    run_nothing (d ∷ s) = run_nothing s

-- only '&' and '<' are judged by what follows
pub data IsJudged (c : ℕ) : Type 0 where
  is_amp : c ≡ 38 → IsJudged c
  is_lt : c ≡ 60 → IsJudged c

pub judged : (t : List Entry) (spot : Spot) (c : ℕ) (y : List ℕ) → stays t spot c y ≡ false → IsJudged c
unfolding stays
judged t spot c y h = by_tests (c == 38) (c == 60) refl refl h
  where
    by_tests : (a l : Bool) → (c == 38) ≡ a → (c == 60) ≡ l → cond a (is_none (reference t (is_value spot) (38 ∷ y))) (cond l (not (head_is (opens spot) y)) true) ≡ false → IsJudged c
    by_tests true l ha hl e = is_amp (eq_of c 38 ha)
    by_tests false true ha hl e = is_lt (eq_of c 60 hl)
    by_tests false false ha hl e = absurd (cc)

-- where neither a child nor a name follows, nothing is pending
step_no_child : (t : List Entry) (spot : Spot) (q : List ℕ) (c : ℕ) → is_front t (q ++ c ∷ []) ≡ false → (35 == c) ≡ false → (is_value spot ≡ true → is_name t q ≡ false) → step t spot (ampersand q) c ≡ Some nothing
unfolding ampersand_in_value ampersand_in_text onto
step_no_child t spot q c n h v = by_value (is_value spot) refl
  where
    by_root : (r : Bool) (o : Option Pending) → cond (r && false) (Some hash) o ≡ o
    by_root true o = refl
    by_root false o = refl

    by_value : (b : Bool) → is_value spot ≡ b → cond b (ampersand_in_value t q c) (ampersand_in_text t q c) ≡ Some nothing
    by_value true e = rw (h, v e, no_name t (q ++ c ∷ []) n, n) (by_root (is_root q) (Some nothing))
    by_value false e = rw (h, no_name t (q ++ c ∷ []) n, n) (by_root (is_root q) (Some nothing))

opens_amp : (spot : Spot) → opens spot 38 ≡ false
unfolding is_letter opens_text
opens_amp text = refl
opens_amp rcdata = refl
opens_amp foreign = refl
opens_amp unquoted = refl
opens_amp double = refl
opens_amp single = refl

digits_amp : (is_digit_of 10 38 ≡ false) × (is_digit_of 16 38 ≡ false) × (blocks 38 ≡ false) × (blocks 60 ≡ false)
unfolding is_digit_of is_alnum is_letter
digits_amp = (refl, refl, refl, refl)

amp_value_lt : (t : List Entry) (q : List ℕ) → is_name t q ≡ true → is_some (ampersand_in_value t q 60) ≡ false
unfolding ampersand_in_value
amp_value_lt t q n = rw (n, digits_amp.3) (by_root (is_root q))
  where
    by_root : (r : Bool) → is_some (cond (r && false) (Some hash) None) ≡ false
    by_root true = refl
    by_root false = refl

-- where '<' goes on, '&' does
pub amp_takes : (t : List Entry) → IsTable t → (spot : Spot) (p : Pending) → Fits t spot p → is_some (step t spot p 60) ≡ true → is_some (step t spot p 38) ≡ true
unfolding named_in_text named_in_value
amp_takes t k spot nothing f h = refl
amp_takes t k spot less_than f h = rw (opens_amp spot) refl
amp_takes t k spot decimal f h = rw digits_amp.0 refl
amp_takes t k spot hexadecimal f h = rw digits_amp.1 refl
amp_takes t k spot hash f h = rw digits_amp.0 refl
amp_takes t k spot hash_x f h = rw digits_amp.1 refl
amp_takes t k spot (ampersand q) f h = ap is_some (step_no_child t spot q 38 (no_child t k q 38 f.some amp_special.no_alnum refl) refl (λ v. by_name (is_name t q) refl v))
  where
    by_name : (b : Bool) → is_name t q ≡ b → is_value spot ≡ true → b ≡ false
    by_name false e v = refl
    by_name true e v = absurd (let n = amp_value_lt t q e in let h' = subst (λ b. is_some (cond b (ampersand_in_value t q 60) (ampersand_in_text t q 60)) ≡ true) v h in cc)
amp_takes t k spot (named q) f h = by_value (is_value spot)
  where
    n : is_front t (q ++ 38 ∷ []) ≡ false
    n = no_child t k q 38 f amp_special.no_alnum refl

    by_value : (b : Bool) → is_some (cond b (named_in_value t q 38) (named_in_text t q 38)) ≡ true
    by_value true = rw digits_amp.2 refl
    by_value false = rw (no_name t (q ++ 38 ∷ []) n, onto_none named t q 38 n) refl
amp_takes t k spot (half left) f h = absurd f
amp_takes t k spot one_bracket f h = absurd f
amp_takes t k spot two_brackets f h = absurd f

digit_range : (d : ℕ) → is_digit_of 10 d ≡ true → (48 ≤ d) × (d ≤ 57)
unfolding is_digit_of
digit_range d h = (grind arith, grind arith)

digit_no_letter : (d : ℕ) → 48 ≤ d → d ≤ 59 → is_letter d ≡ false
unfolding is_letter
digit_no_letter d h k = grind arith

ends_range : (d : ℕ) → goes_on_decimal d ≡ true → (48 ≤ d) × (d ≤ 59)
ends_range d h = by_tests (is_digit_of 10 d) (59 == d) refl refl h
  where
    by_tests : (a b : Bool) → is_digit_of 10 d ≡ a → (59 == d) ≡ b → (a || b) ≡ true → (48 ≤ d) × (d ≤ 59)
    by_tests true b ha hb e = let r = digit_range d ha in (r.0, (let s = r.1 in omega arith))
    by_tests false true ha hb e = let i = eq_of 59 d hb in (omega arith, omega arith)
    by_tests false false ha hb e = absurd (cc)

opens_no_digit : (d : ℕ) → 48 ≤ d → d ≤ 59 → opens_text d ≡ false
unfolding opens_text
opens_no_digit d h k = rw (digit_no_letter d h k) (by_eq (d == 33) (d == 47) (d == 63) (grind arith) (grind arith) (grind arith))
  where
    by_eq : (a b c : Bool) → a ≡ false → b ≡ false → c ≡ false → (false || (a || (b || c))) ≡ false
    by_eq a b c e f g = rw (e, f, g) refl

ends_open : (spot : Spot) (d : ℕ) → 48 ≤ d → d ≤ 59 → opens spot d ≡ false
ends_open text d h k = opens_no_digit d h k
ends_open rcdata d h k = grind arith
ends_open foreign d h k = opens_no_digit d h k
ends_open unquoted d h k = refl
ends_open double d h k = refl
ends_open single d h k = refl

second_letter : (d : ℕ) (n : List ℕ) → begins (38 ∷ d ∷ []) n ≡ true → is_good n ≡ true → is_letter d ≡ true
second_letter d [] b g = absurd (cc)
second_letter d (x ∷ []) b g = absurd (cc)
second_letter d (x ∷ y ∷ []) b g = absurd (cc)
second_letter d (x ∷ y ∷ z ∷ n) b g =
    let e = eq_of d y (and_left (d == y) true (and_right (38 == x) (d == y && true) b)) in
    subst (λ w. is_letter w ≡ true) (sym e) (and_left (is_letter y) (is_alnum z && _) (and_right (x == 38) (is_letter y && (is_alnum z && _)) g))

no_root_child : (t : List Entry) → IsTable t → (d : ℕ) → is_letter d ≡ false → is_front t (38 ∷ d ∷ []) ≡ false
no_root_child t k d h = by_front (is_front t (38 ∷ d ∷ [])) refl
  where
    by_front : (b : Bool) → is_front t (38 ∷ d ∷ []) ≡ b → b ≡ false
    by_front false e = refl
    by_front true e = let n = front_name t (38 ∷ d ∷ []) e in absurd (let l = second_letter d n.entry.name n.begins_so (good_entry t k n.entry n.among) in cc)

-- what stands directly after a literal that doesn't stay is no digit and no ';'
pub no_stay : (t : List Entry) → IsTable t → (spot : Spot) (c : ℕ) (y : List ℕ) → stays t spot c y ≡ false → keeps t spot decimal y ≡ true
unfolding stays
no_stay t k spot c [] h = refl
no_stay t k spot c (d ∷ s) h = by_digit (goes_on_decimal d) refl (judged t spot c (d ∷ s) h)
  where
    by_digit : (b : Bool) → goes_on_decimal d ≡ b → IsJudged c → not b ≡ true
    by_digit false e j = refl
    by_digit true e (is_lt i) =
        let r = ends_range d e in
        let o = ends_open spot d r.0 r.1 in
        let h' : not (opens spot d) ≡ false = subst (λ z. stays t spot z (d ∷ s) ≡ false) i h in
        absurd (let n : not (opens spot d) ≡ true = rw o refl in cc)
    by_digit true e (is_amp i) =
        let r = ends_range d e in
        let l = digit_no_letter d r.0 r.1 in
        let h' = subst (λ z. stays t spot z (d ∷ s) ≡ false) i h in
        let n = step_no_child t spot (38 ∷ []) d (no_root_child t k d l) (not_hash d r.0) (λ v. root_no_name t k) in
        let w = sym (stays_is t k spot 38 (d ∷ s)) ∙ h' in
        let u = step_law t k spot (ampersand (38 ∷ [])) d s (root_open t k (is_value spot)) ∙ ap (λ o. keeps_after t spot o s) n in
        absurd (cc)
      where
        not_hash : (d : ℕ) → 48 ≤ d → (35 == d) ≡ false
        not_hash d h = grind arith
