-- A raw text ends at the same place before each end tag of its element.
use Rattle.std.proofs.Common.{◌≡◌, ℕ, ◌+◌, ◌≤◌, suc, Bool, true, false, cond, ◌&&◌, not, nat_le, List, [], ◌∷◌, ◌++◌, length, eqb, bytes_eq, codes, refl, sym, ap, subst, arith, Option, Some, None}
use Rattle.std.proofs.lemmas.Bool.{and_parts, or_parts, eqb-true, leb-true, both_ways, not-true, false_from_ne_true}
use Rattle.std.specs.List.{list_all}
use Rattle.hm_elements.specs.Names.{script}
use Rattle.hm_elements.specs.Tables.{raw_names, is_raw}
use Rattle.hm_elements.specs.Settled.{raw_text_end, end_tag}
use Rattle.hm_elements.proofs.TableTools.{same_bytes, entry_passes}
use Rattle.hm_base.specs.Bytes.{is_space, lower, strip, strip_word}
use Rattle.hm_base.specs.Forms.{has_byte}
use Rattle.hm_base.specs.RawText.{is_name_end, is_found, is_found_whole, begins_end_tag, place_from, raw_end, Mark, closes_script, mark_at, with_mark, marks_from, ScriptState, unescaped, escaped, double_escaped, state_after, ends_script, first_end, script_end}

same_if_found : (b : Bool) (p q : Option (List ℕ)) → is_found p ≡ is_found q → is_found (cond b p None) ≡ is_found (cond b q None)
same_if_found true p q h = h
same_if_found false p q h = refl

same_if_whole : (b : Bool) (p q : Option (List ℕ)) → is_found_whole p ≡ is_found_whole q → is_found_whole (cond b p None) ≡ is_found_whole (cond b q None)
same_if_whole true p q h = h
same_if_whole false p q h = refl

-- a word without '<' is found, or not, whatever follows a '<'
found_alike : (w s x y : List ℕ) → has_byte 60 w ≡ false → is_found (strip w (s ++ 60 ∷ x)) ≡ is_found (strip w (s ++ 60 ∷ y))
found_alike [] s x y h = refl
found_alike (d ∷ w) [] x y h = let e : eqb d 60 ≡ false = (or_parts (eqb d 60) (has_byte 60 w) h).0 in rw e refl
found_alike (d ∷ w) (c ∷ s) x y h = same_if_found (eqb d c) _ _ (found_alike w s x y (or_parts (eqb d 60) (has_byte 60 w) h).1)

whole_alike : (w s x y : List ℕ) → has_byte 60 w ≡ false → is_found_whole (strip_word w (s ++ 60 ∷ x)) ≡ is_found_whole (strip_word w (s ++ 60 ∷ y))
unfolding lower is_name_end is_space
whole_alike [] [] x y h = refl
whole_alike [] (c ∷ s) x y h = refl
whole_alike (d ∷ w) [] x y h = let e : eqb d 60 ≡ false = (or_parts (eqb d 60) (has_byte 60 w) h).0 in rw e refl
whole_alike (d ∷ w) (c ∷ s) x y h = same_if_whole (eqb d (lower c)) _ _ (whole_alike w s x y (or_parts (eqb d 60) (has_byte 60 w) h).1)

tag_alike : (n : List ℕ) (c : ℕ) (s x y : List ℕ) → has_byte 60 n ≡ false → begins_end_tag n (c ∷ (s ++ 60 ∷ x)) ≡ begins_end_tag n (c ∷ (s ++ 60 ∷ y))
unfolding begins_end_tag
tag_alike n c s x y h = same_if_whole (eqb 60 (lower c)) _ _ (whole_alike (47 ∷ n) s x y h)

some_is : (i k : ℕ) → Some i ≡ Some k → i ≡ k
some_is i k h = cc

at_end : (i k : ℕ) → k ≡ 0 + i → i ≡ k
at_end i k e = omega arith

one_later : (m i k : ℕ) → k ≡ suc m + i → k ≡ m + suc i
one_later m i k e = omega arith

not_here : (m i k : ℕ) → k ≡ suc m + i → i ≡ k → ⊥
not_here m i k e h = omega arith

-- an end tag after the text is found where another one was
place_kept : (n : List ℕ) → has_byte 60 n ≡ false → (s : List ℕ) (i k : ℕ) (x y : List ℕ) → k ≡ length s + i → place_from (begins_end_tag n) i (s ++ 60 ∷ x) ≡ Some k → begins_end_tag n (60 ∷ y) ≡ true → place_from (begins_end_tag n) i (s ++ 60 ∷ y) ≡ Some k
place_kept n plain [] i k x y at h tag = rw tag (ap (λ j. Some j) (at_end i k at))
place_kept n plain (c ∷ s) i k x y at h tag = by (begins_end_tag n (c ∷ (s ++ 60 ∷ x))) refl (λ h'. place_kept n plain s (suc i) k x y (one_later (length s) i k at) h' tag) h
  where
    by : (b : Bool) → begins_end_tag n (c ∷ (s ++ 60 ∷ x)) ≡ b → (place_from (begins_end_tag n) (suc i) (s ++ 60 ∷ x) ≡ Some k → place_from (begins_end_tag n) (suc i) (s ++ 60 ∷ y) ≡ Some k)
        → cond b (Some i) (place_from (begins_end_tag n) (suc i) (s ++ 60 ∷ x)) ≡ Some k → cond (begins_end_tag n (c ∷ (s ++ 60 ∷ y))) (Some i) (place_from (begins_end_tag n) (suc i) (s ++ 60 ∷ y)) ≡ Some k
    by true e rest h = absurd (not_here (length s) i k at (some_is i k h))
    by false e rest h = rw (tag_alike n c s y x plain, e) (rest h)

-- marks of a script
mark_alike : (c : ℕ) (s x y : List ℕ) → mark_at (c ∷ (s ++ 60 ∷ x)) ≡ mark_at (c ∷ (s ++ 60 ∷ y))
unfolding mark_at
mark_alike c s x y =
    rw (same_if_found (eqb 60 c) _ _ (found_alike (codes "!--") s x y refl), same_if_found (eqb 45 c) _ _ (found_alike (codes "->") s x y refl), same_if_whole (eqb 60 (lower c)) _ _ (whole_alike (codes "script") s x y refl), same_if_whole (eqb 60 (lower c)) _ _ (whole_alike (codes "/script") s x y refl)) refl

lower_is_small : (c : ℕ) → eqb 60 (lower c) ≡ true → c ≡ 60
unfolding lower
lower_is_small c h = by (nat_le 65 c && nat_le c 90) refl h
  where
    never : 65 ≤ c → 60 ≡ c + 32 → ⊥
    never l e = omega arith

    by : (b : Bool) → nat_le 65 c && nat_le c 90 ≡ b → eqb 60 (cond b (c + 32) c) ≡ true → c ≡ 60
    by true e h = absurd (never (leb-true 65 c (and_parts (nat_le 65 c) (nat_le c 90) e).0) (eqb-true 60 (c + 32) h))
    by false e h = sym (eqb-true 60 c h)

-- after '</' no mark but that of an end tag begins
closing_mark : (y : List ℕ) → begins_end_tag script (60 ∷ y) ≡ true → mark_at (60 ∷ y) ≡ Some closes_script
unfolding begins_end_tag mark_at lower
closing_mark [] h = cc
closing_mark (d ∷ y) h = by (eqb 47 (lower d)) refl h
  where
    no_comment : eqb 47 (lower d) ≡ true → eqb 33 d ≡ false
    no_comment e = false_from_ne_true (eqb 33 d) (λ f. both_ways (eqb 47 (lower 33)) refl (subst (λ b. eqb 47 (lower b) ≡ true) (sym (eqb-true 33 d f)) e))

    no_start : eqb 47 (lower d) ≡ true → eqb 115 (lower d) ≡ false
    no_start e = rw (sym (eqb-true 47 (lower d) e)) refl

    by : (b : Bool) → eqb 47 (lower d) ≡ b → is_found_whole (cond b (strip_word script y) None) ≡ true → mark_at (60 ∷ d ∷ y) ≡ Some closes_script
    by true e h = rw (no_comment e, no_start e, e, h) refl
    by false e h = cc

-- what follows the '<' of a script's end tag
abbrev script_rest : List ℕ
script_rest = codes "/script>"

double_goes_on : (i k : ℕ) → first_end double_escaped (marks_from i (60 ∷ script_rest)) ≡ Some k → ⊥
unfolding mark_at is_name_end is_space lower
double_goes_on i k h = cc

-- a script's end tag after the text is found where another one was
script_kept : (s : List ℕ) (st : ScriptState) (i k : ℕ) (y : List ℕ) → k ≡ length s + i → first_end st (marks_from i (s ++ 60 ∷ script_rest)) ≡ Some k → begins_end_tag script (60 ∷ y) ≡ true → first_end st (marks_from i (s ++ 60 ∷ y)) ≡ Some k
script_kept [] unescaped i k y at h tag = rw (closing_mark y tag) (ap (λ j. Some j) (at_end i k at))
script_kept [] escaped i k y at h tag = rw (closing_mark y tag) (ap (λ j. Some j) (at_end i k at))
script_kept [] double_escaped i k y at h tag = absurd (double_goes_on i k h)
script_kept (c ∷ s) st i k y at h tag =
    by (mark_at (c ∷ (s ++ 60 ∷ script_rest))) refl (λ st' h'. script_kept s st' (suc i) k y (one_later (length s) i k at) h' tag) h
  where
    by_end : (b : Bool) (next : ScriptState) → (first_end next (marks_from (suc i) (s ++ 60 ∷ script_rest)) ≡ Some k → first_end next (marks_from (suc i) (s ++ 60 ∷ y)) ≡ Some k)
        → cond b (Some i) (first_end next (marks_from (suc i) (s ++ 60 ∷ script_rest))) ≡ Some k → cond b (Some i) (first_end next (marks_from (suc i) (s ++ 60 ∷ y))) ≡ Some k
    by_end true next rest h = absurd (not_here (length s) i k at (some_is i k h))
    by_end false next rest h = rest h

    by_mark : (o : Option Mark) → ((st' : ScriptState) → first_end st' (marks_from (suc i) (s ++ 60 ∷ script_rest)) ≡ Some k → first_end st' (marks_from (suc i) (s ++ 60 ∷ y)) ≡ Some k)
        → first_end st (with_mark o i (marks_from (suc i) (s ++ 60 ∷ script_rest))) ≡ Some k → first_end st (with_mark o i (marks_from (suc i) (s ++ 60 ∷ y))) ≡ Some k
    by_mark None rest h = rest st h
    by_mark (Some m) rest h = by_end (ends_script st m) (state_after st m) (rest (state_after st m)) h

    by : (o : Option Mark) → mark_at (c ∷ (s ++ 60 ∷ script_rest)) ≡ o → ((st' : ScriptState) → first_end st' (marks_from (suc i) (s ++ 60 ∷ script_rest)) ≡ Some k → first_end st' (marks_from (suc i) (s ++ 60 ∷ y)) ≡ Some k)
        → first_end st (with_mark o i (marks_from (suc i) (s ++ 60 ∷ script_rest))) ≡ Some k → first_end st (with_mark (mark_at (c ∷ (s ++ 60 ∷ y))) i (marks_from (suc i) (s ++ 60 ∷ y))) ≡ Some k
    by o e rest h = rw (mark_alike c s y script_rest, e) (by_mark o rest h)

no_less_than : list_all (λ m. not (has_byte 60 m)) (raw_names ++ script ∷ []) ≡ true
unfolding raw_names
no_less_than = refl

raw_is_plain : (n : List ℕ) → is_raw n ≡ true → has_byte 60 n ≡ false
unfolding is_raw
raw_is_plain n h = not-true (has_byte 60 n) (entry_passes (λ m. not (has_byte 60 m)) n (raw_names ++ script ∷ []) no_less_than h)

begins_with_less : (n tail : List ℕ) → begins_end_tag n tail ≡ true → (y : List ℕ) × (tail ≡ 60 ∷ y)
unfolding begins_end_tag
begins_with_less n [] h = cc
begins_with_less n (c ∷ y) h = (y, by (eqb 60 (lower c)) refl h)
  where
    by : (b : Bool) → eqb 60 (lower c) ≡ b → is_found_whole (cond b (strip_word (47 ∷ n) y) None) ≡ true → c ∷ y ≡ 60 ∷ y
    by true e h = ap (λ d. d ∷ y) (lower_is_small c e)
    by false e h = cc

all_at : (s : List ℕ) → length s ≡ length s + 0
all_at s = omega arith

-- a raw text of a settled walk ends before each end tag of its element
pub raw_text_ends : (n s tail : List ℕ) → is_raw n ≡ true → raw_text_end n (s ++ end_tag n) ≡ Some (length s) → begins_end_tag n tail ≡ true → raw_text_end n (s ++ tail) ≡ Some (length s)
raw_text_ends n s tail raw h tag = by (bytes_eq n script) refl h
  where
    cut : (y : List ℕ) × (tail ≡ 60 ∷ y)
    cut = begins_with_less n tail tag

    by : (b : Bool) → bytes_eq n script ≡ b → cond b (script_end (s ++ end_tag n)) (raw_end n (s ++ end_tag n)) ≡ Some (length s) → cond b (script_end (s ++ tail)) (raw_end n (s ++ tail)) ≡ Some (length s)
    by true e h =
        let is : n ≡ script = same_bytes n script e in
        rw cut.1 (script_kept s unescaped 0 (length s) cut.0 (all_at s) (rw is at h) (rw (is, cut.1) at tag))
    by false e h = rw cut.1 (place_kept n (raw_is_plain n raw) s 0 (length s) (47 ∷ (n ++ codes ">")) cut.0 (all_at s) h (rw cut.1 at tag))
