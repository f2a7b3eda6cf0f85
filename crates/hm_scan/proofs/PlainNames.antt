-- Names of tags that are read as they are written.
use Rattle.std.proofs.Common.{◌≡◌, ℕ, zero, suc, ◌+◌, ◌<◌, Bool, true, false, cond, ◌&&◌, ◌||◌, ◌==◌, List, [], ◌∷◌, length, map, drop, get_or, slice_index, slice_range, refl, ap, ap₂, sym, subst, ◌∙◌, arith}
use Rattle.std.specs.Char.{is_ascii_digit}
use Rattle.std.proofs.lemmas.Bool.{or_from, and_parts}
use Rattle.std.proofs.lemmas.Bool.Decides.{Decides-eqb}
use Rattle.hm_base.specs.Bytes.{all_pass, rest_after, front, head_is, is_digit, is_space, lower, some_passes}
use Rattle.hm_base.specs.Forms.{is_small, is_tag_byte, is_tag_name}
use Rattle.hm_base.specs.RawText.{is_name_end}
use Rattle.hm_base.proofs.Bytes.{front_passes}
use Rattle.hm_refs.proofs.Digits.{digit_is}
use Rattle.hm_refs.specs.Reads.{IsEndOf}
use Rattle.hm_scan.specs.TagPlaces.{IsOrdinaryName, IsPlainName}
use Rattle.hm_scan.specs.Reading.{is_bad_byte, is_bad_name, is_capital, is_equals}
use Rattle.hm_scan.specs.Tags.{is_later_byte, is_name_byte}
use Rattle.hm_scan.proofs.NameReads.{lower_same}
use Rattle.hm_scan.proofs.ValuePlaces.{range_cons}

-- ---- its bytes

-- a test that gives the same for each of them
for_each_kind : (p : ℕ → Bool) (v : Bool) → ((c : ℕ) → is_small c ≡ true → p c ≡ v) → ((c : ℕ) → is_digit c ≡ true → p c ≡ v) → p 46 ≡ v → p 95 ≡ v → p 58 ≡ v → p 45 ≡ v
    → (c : ℕ) → is_tag_byte c ≡ true → p c ≡ v
unfolding is_tag_byte
for_each_kind p v small digit dot low colon dash c h = by (is_small c) refl (is_digit c) refl (c == 46) refl (c == 95) refl (c == 58) refl (c == 45) refl h
  where
    same : (d : ℕ) → p d ≡ v → (c == d) ≡ true → p c ≡ v
    same d k e = subst (λ x. p x ≡ v) (sym ((Decides-eqb c d).0 e)) k

    by : (a : Bool) → is_small c ≡ a → (b : Bool) → is_digit c ≡ b → (d : Bool) → (c == 46) ≡ d → (e : Bool) → (c == 95) ≡ e → (f : Bool) → (c == 58) ≡ f → (g : Bool) → (c == 45) ≡ g
        → a || b || d || e || f || g ≡ true → p c ≡ v
    by true i b j d k e l f m g n h = small c i
    by false i true j d k e l f m g n h = digit c j
    by false i false j true k e l f m g n h = same 46 dot k
    by false i false j false k true l f m g n h = same 95 low l
    by false i false j false k false l true m g n h = same 58 colon m
    by false i false j false k false l false m true n h = same 45 dash n
    by false i false j false k false l false m false n h = absurd (cc)

small_in_name : (c : ℕ) → is_small c ≡ true → is_name_byte c ≡ true
unfolding is_small is_name_byte is_name_end is_space
small_in_name c h = grind arith

ascii_in_name : (c : ℕ) → is_ascii_digit c ≡ true → is_name_byte c ≡ true
unfolding is_name_byte is_name_end is_space
ascii_in_name c h = grind arith

small_no_capital : (c : ℕ) → is_small c ≡ true → is_capital c ≡ false
unfolding is_small is_capital
small_no_capital c h = grind arith

ascii_no_capital : (c : ℕ) → is_ascii_digit c ≡ true → is_capital c ≡ false
unfolding is_capital
ascii_no_capital c h = grind arith

stays_in_name : (c : ℕ) → is_tag_byte c ≡ true → is_name_byte c ≡ true
unfolding is_name_byte is_name_end is_space
stays_in_name c h = for_each_kind is_name_byte true small_in_name (λ d k. ascii_in_name d (digit_is d ∙ k)) refl refl refl refl c h

small_later : (c : ℕ) → is_small c ≡ true → is_later_byte c ≡ true
unfolding is_small is_later_byte is_name_end is_space
small_later c h = grind arith

ascii_later : (c : ℕ) → is_ascii_digit c ≡ true → is_later_byte c ≡ true
unfolding is_later_byte is_name_end is_space
ascii_later c h = grind arith

stays_later : (c : ℕ) → is_tag_byte c ≡ true → is_later_byte c ≡ true
unfolding is_later_byte is_name_end is_space
stays_later c h = for_each_kind is_later_byte true small_later (λ d k. ascii_later d (digit_is d ∙ k)) refl refl refl refl c h

small_no_bad : (c : ℕ) → is_small c ≡ true → is_bad_byte c ≡ false
unfolding is_small is_bad_byte
small_no_bad c h = grind arith

ascii_no_bad : (c : ℕ) → is_ascii_digit c ≡ true → is_bad_byte c ≡ false
unfolding is_bad_byte
ascii_no_bad c h = grind arith

no_bad : (c : ℕ) → is_tag_byte c ≡ true → is_bad_byte c ≡ false
unfolding is_bad_byte
no_bad c h = for_each_kind is_bad_byte false small_no_bad (λ d k. ascii_no_bad d (digit_is d ∙ k)) refl refl refl refl c h

small_no_equals : (c : ℕ) → is_small c ≡ true → is_equals c ≡ false
unfolding is_small
small_no_equals c h = grind arith

ascii_no_equals : (c : ℕ) → is_ascii_digit c ≡ true → is_equals c ≡ false
ascii_no_equals c h = grind arith

no_equals : (c : ℕ) → is_tag_byte c ≡ true → is_equals c ≡ false
no_equals c h = for_each_kind is_equals false small_no_equals (λ d k. ascii_no_equals d (digit_is d ∙ k)) refl refl refl refl c h

no_capital : (c : ℕ) → is_tag_byte c ≡ true → is_capital c ≡ false
unfolding is_capital
no_capital c h = for_each_kind is_capital false small_no_capital (λ d k. ascii_no_capital d (digit_is d ∙ k)) refl refl refl refl c h

pub small_stays : (c : ℕ) → is_small c ≡ true → is_tag_byte c ≡ true
unfolding is_tag_byte
small_stays c h = rw h refl

lower_plain : (n : List ℕ) → all_pass is_tag_byte n ≡ true → map lower n ≡ n
lower_plain [] h = refl
lower_plain (c ∷ n) h =
    let parts = and_parts (is_tag_byte c) (all_pass is_tag_byte n) h in
    ap₂ (λ d r. d ∷ r) (lower_same c (no_capital c parts.0)) (lower_plain n parts.1)

none_bad : (n : List ℕ) → all_pass is_tag_byte n ≡ true → some_passes is_bad_byte n ≡ false
none_bad [] h = refl
none_bad (c ∷ n) h =
    let parts = and_parts (is_tag_byte c) (all_pass is_tag_byte n) h in
    or_from (is_bad_byte c) (some_passes is_bad_byte n) (no_bad c parts.0) (none_bad n parts.1)

good_plain : (n : List ℕ) → all_pass is_tag_byte n ≡ true → is_bad_name n ≡ false
good_plain [] h = refl
good_plain (c ∷ n) h = or_from (is_equals c) (some_passes is_bad_byte (c ∷ n)) (no_equals c (and_parts (is_tag_byte c) (all_pass is_tag_byte n) h).0) (none_bad (c ∷ n) h)

small_first : (n : List ℕ) → all_pass is_tag_byte n ≡ true → head_is is_small n ≡ true → is_tag_name n ≡ true
unfolding is_tag_name
small_first [] h k = absurd (cc)
small_first (c ∷ n) h k = rw k (and_parts (is_tag_byte c) (all_pass is_tag_byte n) h).1

-- ---- where it ends

head_at : (p : ℕ → Bool) (s : List ℕ) (n : ℕ) → n < length s → head_is p (drop n s) ≡ p (get_or s n 0)
head_at p [] n h = absurd (omega arith)
head_at p (c ∷ s) zero h = refl
head_at p (c ∷ s) (suc n) h = head_at p s n (omega arith)

front_small : (s : List ℕ) → head_is is_small s ≡ true → head_is is_small (front is_tag_byte s) ≡ true
front_small [] h = h
front_small (c ∷ s) h = rw (small_stays c h) h

-- another test that each byte of a plain name passes, and the byte after it doesn't
module _ (q : ℕ → Bool) (stays : (c : ℕ) → is_tag_byte c ≡ true → q c ≡ true) where
  record SameFront (s : List ℕ) : Type 0 where
    front_is : front q s ≡ front is_tag_byte s
    rest_after_is : rest_after q s ≡ rest_after is_tag_byte s

  same_front : (s : List ℕ) → head_is q (rest_after is_tag_byte s) ≡ false → SameFront s
  same_front [] h = record { front_is = refl; rest_after_is = refl }
  same_front (c ∷ s) h = by_test (is_tag_byte c) refl h (same_front s)
    where
      by_test : (b : Bool) → is_tag_byte c ≡ b → head_is q (cond b (rest_after is_tag_byte s) (c ∷ s)) ≡ false → (head_is q (rest_after is_tag_byte s) ≡ false → SameFront s) → SameFront (c ∷ s)
      by_test true e h more =
          let in_q : q c ≡ true = stays c e in
          let rest : SameFront s = more h in
          record { front_is = rw (in_q, e) (ap (λ r. c ∷ r) rest.front_is); rest_after_is = rw (in_q, e) rest.rest_after_is }
      by_test false e h more = record { front_is = rw (h, e) refl; rest_after_is = rw (h, e) refl }

  same_ends : (s : List ℕ) (from to : ℕ) → IsEndOf is_tag_byte s from to → to < length s → q (slice_index s to) ≡ false → IsEndOf q s from to
  same_ends s from to e low stops =
      let next : head_is q (rest_after is_tag_byte (drop from s)) ≡ false = ap (head_is q) e.after ∙ head_at q s to low ∙ stops in
      let same : SameFront (drop from s) = same_front (drop from s) next in
      record { forward = e.forward; inside = e.inside; front = same.front_is ∙ e.front; after = same.rest_after_is ∙ e.after; stops = λ l. stops }

pub plain_ends : (s : List ℕ) (from to : ℕ) → IsEndOf is_tag_byte s from to → to < length s → is_name_byte (slice_index s to) ≡ false → IsEndOf is_name_byte s from to
plain_ends s from to e low stops = same_ends is_name_byte stays_in_name s from to e low stops

pub later_plain_ends : (s : List ℕ) (from to : ℕ) → IsEndOf is_tag_byte s from to → to < length s → is_later_byte (slice_index s to) ≡ false → IsEndOf is_later_byte s from to
later_plain_ends s from to e low stops = same_ends is_later_byte stays_later s from to e low stops

pub plain_name : (s : List ℕ) (from to : ℕ) → IsEndOf is_tag_byte s from to → from < to → is_small (slice_index s from) ≡ true → IsPlainName (slice_range s from to)
plain_name s from to e some small =
    let inside : from < length s = omega (arith, e.inside) in
    let first : head_is is_small (drop from s) ≡ true = head_at is_small s from inside ∙ small in
    let passes : all_pass is_tag_byte (slice_range s from to) ≡ true = ap (all_pass is_tag_byte) (sym e.front) ∙ front_passes is_tag_byte (drop from s) in
    let begins : head_is is_small (slice_range s from to) ≡ true = ap (head_is is_small) (sym e.front) ∙ front_small (drop from s) first in
    record { is = small_first (slice_range s from to) passes begins; lowered = lower_plain (slice_range s from to) passes }

-- the name of an attribute, whose first byte is looked at by itself
pub ordinary_name : (s : List ℕ) (at to : ℕ) → at < length s → is_tag_byte (slice_index s at) ≡ true → IsEndOf is_tag_byte s (at + 1) to → IsOrdinaryName (slice_range s at to)
ordinary_name s at to h first e =
    let name : slice_range s at to ≡ get_or s at 0 ∷ slice_range s (at + 1) to = range_cons s at to h e.forward in
    let rest : all_pass is_tag_byte (slice_range s (at + 1) to) ≡ true = ap (all_pass is_tag_byte) (sym e.front) ∙ front_passes is_tag_byte (drop (at + 1) s) in
    let passes : all_pass is_tag_byte (slice_range s at to) ≡ true = ap (all_pass is_tag_byte) name ∙ rw (first, rest) refl in
    record { good = good_plain (slice_range s at to) passes; lowered = lower_plain (slice_range s at to) passes }
