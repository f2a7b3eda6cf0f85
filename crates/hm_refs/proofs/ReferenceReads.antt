-- References as they are read.
use Rattle.std.proofs.Common.{◌≡◌, ℕ, ◌+◌, ◌-◌, ◌<◌, ◌≤◌, ◌⊎◌, Bool, true, false, cond, not, ◌&&◌, ◌||◌, ◌==◌, nat_lt, List, [], ◌∷◌, length, drop, get_or, slice_range, Some, None, inl, inr, refl, ap, ap₂, sym, subst, ◌∙◌, arith, length-append, length-drop, length-take, drop_of_length-le}
use Rattle.std.specs.Char.{is_ascii_alphanumeric}
use Rattle.std.specs.Int.{is_in_range}
use Rattle.std.proofs.lemmas.Bool.{and_parts, cases_lt}
use Rattle.std.proofs.lemmas.Bool.Decides.{Decides-eqb}
use Rattle.std.proofs.lemmas.List.{get_or-drop, get_or-take, get_or_append_left}
use Rattle.hm_base.proofs.Bytes.{front_passes}
use Rattle.hm_base.specs.Bytes.{all_pass, front, rest_after, head_is, is_null, is_letter, is_alnum, is_digit, is_digit_of}
use Rattle.hm_refs.specs.Laws.{IsLongest}
use Rattle.hm_refs.specs.Names.{Entry, longest, is_good, is_tail, is_closed}
use Rattle.hm_refs.specs.Numbers.{point_of}
use Rattle.hm_refs.specs.References as refs
use Rattle.hm_refs.specs.References.{numeric, value_of, is_semicolon, blocks}
use Rattle.hm_refs.specs.Tables.{IsTable, entry_at, found_at, points_list}
use Rattle.hm_refs.proofs.Found.{longest_is_longest, good_of}
use Rattle.hm_refs.specs.Reads.{IsEndOf, IsReadReference}
use Rattle.hm_refs.specs.declared.scan.Reference.{Reference}
use Rattle.hm_refs.proofs.Digits.{all_pass_at, digit_is}
use Rattle.hm_refs.proofs.RunEnds.{rest_cons}

alnum_is : (c : ℕ) → is_ascii_alphanumeric c ≡ is_alnum c
unfolding is_alnum is_letter
alnum_is c = rw (digit_is c) (turned (is_digit c) (is_in_range 65 90 c) (is_in_range 97 122 c))
  where
    turned : (a b d : Bool) → (a || b) || d ≡ (b || d) || a
    turned true true d = refl
    turned true false true = refl
    turned true false false = refl
    turned false true d = refl
    turned false false true = refl
    turned false false false = refl

pub blocks_is : (c : ℕ) → (c ≡ 61 → ⊥) → is_ascii_alphanumeric c ≡ blocks c
blocks_is c never = rw (no_equals, alnum_is c) refl
  where
    no_equals : (61 == c) ≡ false
    no_equals = grind arith

digit_low : (base c : ℕ) → base ≤ 16 → is_digit_of base c ≡ true → c < 128
unfolding is_digit_of
digit_low base c h d = grind arith

alnum_low : (c : ℕ) → is_alnum c ≡ true → c < 128
unfolding is_alnum is_letter is_digit_of
alnum_low c h = grind arith

letter_low : (c : ℕ) → is_letter c ≡ true → c < 128
unfolding is_letter
letter_low c h = grind arith

-- numbers

passes_at : (p : ℕ → Bool) (s : List ℕ) (from to at : ℕ) → IsEndOf p s from to → from ≤ at → at < to → p (get_or s at 0) ≡ true
passes_at p s from to at e low high =
    let inside : to ≤ length s = e.inside in
    let all : all_pass p (slice_range s from to) ≡ true = subst (λ r. all_pass p r ≡ true) e.front (front_passes p (drop from s)) in
    let long : at - from < length (slice_range s from to) = simp (length-take, length-drop) (omega arith) in
    let there : from + (at - from) ≡ at = omega arith in
    let read : get_or (slice_range s from to) (at - from) 0 ≡ get_or s at 0 =
    get_or-take (to - from) (drop from s) (at - from) 0 (omega arith) ∙ get_or-drop from s (at - from) 0 ∙ ap (λ n. get_or s n 0) there in
    subst (λ c. p c ≡ true) read (all_pass_at p (slice_range s from to) (at - from) all long)

pub digits_pass : (p : ℕ → Bool) (s : List ℕ) (from to : ℕ) → IsEndOf p s from to → all_pass p (slice_range s from to) ≡ true
digits_pass p s from to e = subst (λ r. all_pass p r ≡ true) e.front (front_passes p (drop from s))

numeric_some : (before base : ℕ) (xs rest : List ℕ) → 0 < length xs
    → numeric before base xs rest ≡ Some (record { points = point_of (value_of base xs) ∷ []; len = before + length xs + cond (head_is is_semicolon rest) 1 0 })
numeric_some before base [] rest h = absurd (omega arith)
numeric_some before base (x ∷ xs) rest h = refl

semicolon_end : (s : List ℕ) (to more : ℕ) → to ≤ length s → more ≡ cond (head_is is_semicolon (drop to s)) 1 0 → (to + more ≤ length s) × (0 < to → get_or s (to - 1) 0 < 128 → get_or s (to + more - 1) 0 < 128)
semicolon_end s to more inside by = by_cases (cases_lt to (length s)) by
  where
    none : more ≡ 0 → (to + more ≤ length s) × (0 < to → get_or s (to - 1) 0 < 128 → get_or s (to + more - 1) 0 < 128)
    none e = let same : to + more - 1 ≡ to - 1 = omega arith in (omega arith, λ some h. rw same h)

    here : to < length s → (b : Bool) → (59 == get_or s to 0) ≡ b → more ≡ cond b 1 0 → (to + more ≤ length s) × (0 < to → get_or s (to - 1) 0 < 128 → get_or s (to + more - 1) 0 < 128)
    here l true e m =
        let at : to + more - 1 ≡ to = omega arith in
        let byte : 59 ≡ get_or s to 0 = (Decides-eqb 59 (get_or s to 0)).0 e in
        (omega arith, λ some h. rw at (omega arith))
    here l false e m = none m

    by_cases : (to < length s) ⊎ (length s ≤ to) → more ≡ cond (head_is is_semicolon (drop to s)) 1 0 → (to + more ≤ length s) × (0 < to → get_or s (to - 1) 0 < 128 → get_or s (to + more - 1) 0 < 128)
    by_cases (inl l) m = here l (59 == get_or s to 0) refl (rw (rest_cons s to l) at m)
    by_cases (inr l) m = none (rw (drop_of_length-le s l) at m)

pub number_read : (s : List ℕ) (from to base first more : ℕ) → base ≤ 16 → IsEndOf (is_digit_of base) s from to → (to ≡ from → ⊥)
    → first ≡ point_of (value_of base (slice_range s from to)) → more ≡ cond (head_is is_semicolon (drop to s)) 1 0
    → IsReadReference (numeric from base (front (is_digit_of base) (drop from s)) (rest_after (is_digit_of base) (drop from s))) s (record { points = record { first = first; second = None }; len = to + more })
number_read s from to base first more high e some is by =
    let low : from ≤ to = e.forward in
    let inside : to ≤ length s = e.inside in
    let long : length (slice_range s from to) ≡ to - from = simp (length-take, length-drop) (omega arith) in
    let read = numeric_some from base (slice_range s from to) (drop to s) (omega arith) in
    let count : from + length (slice_range s from to) + cond (head_is is_semicolon (drop to s)) 1 0 ≡ to + more = rw (long, ← by) (omega arith) in
    let semicolon = semicolon_end s to more inside by in
    record {
      is = ap₂ (numeric from base) e.front e.after ∙ read ∙ ap₂ (λ c n. Some (record { points = c ∷ []; len = n })) (sym is) count;
      some = omega arith;
      inside = semicolon.0;
      ascii = semicolon.1 (omega arith) (digit_low base (get_or s (to - 1) 0) high (passes_at (is_digit_of base) s from to (to - 1) e (omega arith) (omega arith)));
    }

-- names

is_low : ℕ → Bool
is_low c = nat_lt c 128

low_byte : (c : ℕ) → c < 128 → is_low c ≡ true
unfolding is_low
low_byte c h = grind arith

byte_low : (c : ℕ) → is_low c ≡ true → c < 128
unfolding is_low
byte_low c h = grind arith

tail_low : (s : List ℕ) → is_tail s ≡ true → all_pass is_low s ≡ true
tail_low [] h = refl
tail_low (c ∷ s) h = by_test (is_alnum c) refl (c == 59) refl h (tail_low s)
  where
    ended : (r : List ℕ) → is_null r ≡ true → all_pass is_low r ≡ true
    ended [] e = refl
    ended (d ∷ r) e = absurd (cc)

    by_test : (a : Bool) → is_alnum c ≡ a → (b : Bool) → (c == 59) ≡ b → (a && is_tail s) || (b && is_null s) ≡ true → (is_tail s ≡ true → all_pass is_low s ≡ true) → is_low c && all_pass is_low s ≡ true
    by_test true e b f h more = rw (low_byte c (alnum_low c e), either (is_tail s) refl b h) refl
      where
        either : (x : Bool) → is_tail s ≡ x → (b : Bool) → x || (b && is_null s) ≡ true → all_pass is_low s ≡ true
        either true e b h = more e
        either false e true h = ended s h
        either false e false h = absurd (cc)
    by_test false e true f h more = let is : c ≡ 59 = (Decides-eqb c 59).0 f in rw (low_byte c (omega arith), ended s h) refl
    by_test false e false f h more = absurd (cc)

-- a name of a table is ASCII
good_low : (n : List ℕ) → is_good n ≡ true → all_pass is_low n ≡ true
good_low [] h = absurd (cc)
good_low (a ∷ []) h = absurd (cc)
good_low (a ∷ b ∷ []) h = absurd (cc)
good_low (a ∷ b ∷ c ∷ s) h =
    let first = and_parts (a == 38) (is_letter b && (is_alnum c && is_tail s)) h in
    let second = and_parts (is_letter b) (is_alnum c && is_tail s) first.1 in
    let third = and_parts (is_alnum c) (is_tail s) second.1 in
    let is : a ≡ 38 = (Decides-eqb a 38).0 first.0 in
    rw (low_byte a (omega arith), low_byte b (letter_low b second.0), low_byte c (alnum_low c third.0), tail_low s third.1) refl

good_some : (n : List ℕ) → is_good n ≡ true → 0 < length n
good_some [] h = absurd (cc)
good_some (a ∷ s) h = omega arith

-- the name that was found
pub record IsNamed (t : List Entry) (text : List ℕ) (id : ℕ) : Type 0 where
  pub some : 0 < length (entry_at t id).name
  pub inside : length (entry_at t id).name ≤ length text
  pub ascii : get_or text (length (entry_at t id).name - 1) 0 < 128

pub found_named : (t : List Entry) (text : List ℕ) (id : ℕ) → IsTable t → longest t text ≡ Some (found_at t id text) → IsNamed t text id
found_named t text id k e =
    let is : IsLongest t text (found_at t id text) = longest_is_longest t text (found_at t id text) e in
    let n = (entry_at t id).name in
    let good : is_good n ≡ true = good_of t k n (entry_at t id).points is.own in
    let some : 0 < length n = good_some n good in
    let long : length n + length (drop (length n) text) ≡ length text = sym (length-append n (drop (length n) text)) ∙ ap length is.cut in
    let low : is_low (get_or n (length n - 1) 0) ≡ true = all_pass_at is_low n (length n - 1) (good_low n good) (omega arith) in
    let read : get_or text (length n - 1) 0 ≡ get_or n (length n - 1) 0 =
    ap (λ x. get_or x (length n - 1) 0) (sym is.cut) ∙ get_or_append_left n (drop (length n) text) 0 (length n - 1) (omega arith) in
    record {
      some = some;
      inside = omega arith;
      ascii = rw read (byte_low (get_or n (length n - 1) 0) low);
    }

-- the reference by a name that was found, where it isn't blocked
pub name_read : (t : List Entry) (text : List ℕ) (id : ℕ) (in_value blocked : Bool) (r : Reference) → IsTable t → longest t text ≡ Some (found_at t id text)
    → blocked ≡ (in_value && not (is_closed (entry_at t id).name) && head_is blocks (drop (length (entry_at t id).name) text)) → blocked ≡ false
    → points_list r.points ≡ (entry_at t id).points → r.len ≡ length (entry_at t id).name → IsReadReference (refs.named in_value (longest t text)) text r
unfolding refs.is_blocked
name_read t text id in_value blocked r k e by free points len =
    let found = found_named t text id k e in
    record {
      is = ap (refs.named in_value) e ∙ rw (← by, free, ← points, ← len) refl;
      some = rw len found.some;
      inside = rw len found.inside;
      ascii = rw len found.ascii;
    }

pub name_blocked : (t : List Entry) (text : List ℕ) (id : ℕ) (in_value blocked : Bool) → longest t text ≡ Some (found_at t id text)
    → blocked ≡ (in_value && not (is_closed (entry_at t id).name) && head_is blocks (drop (length (entry_at t id).name) text)) → blocked ≡ true
    → refs.named in_value (longest t text) ≡ None
unfolding refs.is_blocked
name_blocked t text id in_value blocked e by stops = ap (refs.named in_value) e ∙ rw (← by, stops) refl

-- by what follows the '&'
pub reference_hash : (t : List Entry) (in_value : Bool) (text : List ℕ) → 1 < length text → get_or text 0 0 ≡ 38 → get_or text 1 0 ≡ 35 → refs.reference t in_value text ≡ refs.hash (drop 2 text)
unfolding refs.reference
reference_hash t in_value [] h amp hash = absurd (omega arith)
reference_hash t in_value (a ∷ []) h amp hash = absurd (omega arith)
reference_hash t in_value (a ∷ b ∷ s) h amp hash = rw (amp, hash) refl

pub reference_named : (t : List Entry) (in_value : Bool) (text : List ℕ) → 0 < length text → get_or text 0 0 ≡ 38 → (1 < length text → get_or text 1 0 ≡ 35 → ⊥) → refs.reference t in_value text ≡ refs.named in_value (longest t text)
unfolding refs.reference
reference_named t in_value [] h amp hash = absurd (omega arith)
reference_named t in_value (a ∷ []) h amp hash = rw amp refl
reference_named t in_value (a ∷ b ∷ s) h amp hash =
    let other : (35 == b) ≡ false = elim (35 == b) as (λ x. (35 == b) ≡ x → x ≡ false) [ true ↦ λ e. absurd (hash (omega arith) (sym ((Decides-eqb 35 b).0 e))) | false ↦ λ e. refl ] refl in
    rw (amp, other) refl
