-- A text whose first bytes are let go: its other bytes keep their places.
use Rattle.std.proofs.Common.{◌≡◌, ℕ, zero, suc, ◌+◌, ◌-◌, ◌<◌, ◌≤◌, true, false, cond, List, [], ◌∷◌, length, drop, refl, sym, ap, ◌∙◌, arith, zero-add, ⊎_elim, nat_lt}
use Rattle.std.specs.List.{All, AllPairs, count_by}
use Rattle.std.proofs.lemmas.Bool.{cases_lt}
use Rattle.std.proofs.lemmas.Bool.Decides.{nat_tests}
use Rattle.std.proofs.lemmas.List.{length-drop}
use Rattle.std.proofs.lemmas.List.Elements.{All-head, All-tail, All-cons}
use Rattle.std.proofs.lemmas.List.Kept.{AllPairs-cons}
use Rattle.std.proofs.lemmas.List.Sums.{sum_by-cons}
use Rattle.hm_base.specs.Bytes.{all_pass}
use Rattle.hm_base.specs.Source.{Source, is_text_byte}
use Rattle.hm_base.specs.Places.{IsSourceText, is_below, pairs_after, place_at, placed_from, source_from}
use Rattle.hm_base.proofs.Bytes.{second_true}
use Rattle.hm_base.proofs.Places.{placed_at, source_from-length}

-- a pair before n counts for each index from n on
below : (n i j : ℕ) → j < n → is_below (n + i) j ≡ true
below n i j l = grind (arith, nat_tests)

-- a pair after n counts where its index from n on is below i
after : (n i j : ℕ) → n ≤ j → is_below (n + i) j ≡ is_below i (j - n)
after n i j l = ⊎_elim
    (λ (h : j < n + i). let a : nat_lt j (n + i) ≡ true = grind (arith, nat_tests) in let b : nat_lt (j - n) i ≡ true = grind (arith, nat_tests) in a ∙ sym b)
    (λ (h : n + i ≤ j). let a : nat_lt j (n + i) ≡ false = grind (arith, nat_tests) in let b : nat_lt (j - n) i ≡ false = grind (arith, nat_tests) in a ∙ sym b)
    (cases_lt j (n + i))

not_below : (n j : ℕ) → n ≤ j → nat_lt j n ≡ false
not_below n j l = grind (arith, nat_tests)

is_under : (n j : ℕ) → j < n → nat_lt j n ≡ true
is_under n j l = grind (arith, nat_tests)

counted : (i j : ℕ) (pairs : List ℕ) → is_below i j ≡ true → count_by (is_below i) (j ∷ pairs) ≡ 1 + count_by (is_below i) pairs
counted i j pairs h = sum_by-cons (λ k. cond (is_below i k) 1 0) j pairs ∙ ap (λ b. cond b 1 0 + count_by (is_below i) pairs) h

not_counted : (i j : ℕ) (pairs : List ℕ) → is_below i j ≡ false → count_by (is_below i) (j ∷ pairs) ≡ count_by (is_below i) pairs
not_counted i j pairs h = sum_by-cons (λ k. cond (is_below i k) 1 0) j pairs ∙ ap (λ b. cond b 1 0 + count_by (is_below i) pairs) h ∙ zero-add _

same_counted : (i j k l : ℕ) (pairs others : List ℕ) → is_below i j ≡ is_below k l → count_by (is_below i) (j ∷ pairs) + count_by (is_below k) others ≡ count_by (is_below i) pairs + count_by (is_below k) (l ∷ others)
same_counted i j k l pairs others h =
    let left : count_by (is_below i) (j ∷ pairs) ≡ cond (is_below k l) 1 0 + count_by (is_below i) pairs = sum_by-cons (λ m. cond (is_below i m) 1 0) j pairs ∙ ap (λ b. cond b 1 0 + count_by (is_below i) pairs) h in
    let right : count_by (is_below k) (l ∷ others) ≡ cond (is_below k l) 1 0 + count_by (is_below k) others = sum_by-cons (λ m. cond (is_below k m) 1 0) l others in
    omega (arith, left, right)

pub skipped : (n j : ℕ) (pairs : List ℕ) → j < n → pairs_after n (j ∷ pairs) ≡ pairs_after n pairs
skipped n j pairs h = rw (is_under n j h) refl

pub moved : (n j : ℕ) (pairs : List ℕ) → n ≤ j → pairs_after n (j ∷ pairs) ≡ (j - n) ∷ pairs_after n pairs
moved n j pairs h = rw (not_below n j h) refl

pub count_pairs_after : (n i : ℕ) (pairs : List ℕ) → count_by (is_below (n + i)) pairs ≡ count_by (is_below n) pairs + count_by (is_below i) (pairs_after n pairs)
count_pairs_after n i [] = refl
count_pairs_after n i (j ∷ pairs) = ⊎_elim
    (λ (h : j < n). omega (arith, count_pairs_after n i pairs, counted (n + i) j pairs (below n i j h), counted n j pairs (is_under n j h), ap (count_by (is_below i)) (skipped n j pairs h)))
    (λ (h : n ≤ j). omega (arith, count_pairs_after n i pairs, same_counted (n + i) j i (j - n) pairs (pairs_after n pairs) (after n i j h), not_counted n j pairs (not_below n j h), ap (count_by (is_below i)) (moved n j pairs h)))
    (cases_lt j n)

pub length_after : (n : ℕ) (pairs : List ℕ) → count_by (is_below n) pairs + length (pairs_after n pairs) ≡ length pairs
length_after n [] = refl
length_after n (j ∷ pairs) = ⊎_elim
    (λ (h : j < n). omega (arith, length_after n pairs, counted n j pairs (is_under n j h), ap length (skipped n j pairs h)))
    (λ (h : n ≤ j). omega (arith, length_after n pairs, not_counted n j pairs (not_below n j h), ap length (moved n j pairs h)))
    (cases_lt j n)

-- the place where the text after its first n bytes starts
abbrev pub start_after : ℕ → ℕ → List ℕ → ℕ
start_after start n pairs = start + n + count_by (is_below n) pairs

place_after : (start n i : ℕ) (pairs : List ℕ) → place_at start pairs (n + i) ≡ place_at (start_after start n pairs) (pairs_after n pairs) i
place_after start n i pairs = omega (arith, count_pairs_after n i pairs)

placed_after : (start n i : ℕ) (pairs t : List ℕ) → placed_from start pairs (n + i) t ≡ placed_from (start_after start n pairs) (pairs_after n pairs) i t
placed_after start n i pairs [] = refl
placed_after start n i pairs (c ∷ t) =
    let next : n + i + 1 ≡ n + (i + 1) = omega arith in
    ap (λ p. placed_at c p ∷ placed_from start pairs (n + i + 1) t) (place_after start n i pairs)
    ∙ ap (λ r. placed_at c (place_at (start_after start n pairs) (pairs_after n pairs) i) ∷ r) (ap (λ k. placed_from start pairs k t) next ∙ placed_after start n (i + 1) pairs t)

drop_placed : (start n i : ℕ) (pairs t : List ℕ) → drop n (placed_from start pairs i t) ≡ placed_from start pairs (n + i) (drop n t)
drop_placed start zero i pairs t = ap (λ k. placed_from start pairs k t) (sym (zero-add i))
drop_placed start (suc n) i pairs [] = refl
drop_placed start (suc n) i pairs (c ∷ t) =
    let next : n + (i + 1) ≡ suc n + i = omega arith in
    drop_placed start n (i + 1) pairs t ∙ ap (λ k. placed_from start pairs k (drop n t)) next

-- the bytes after the first n keep their places
pub source_after : (start n : ℕ) (pairs text : List ℕ) → (source_from (start_after start n pairs) (pairs_after n pairs) (drop n text)).placed ≡ drop n (source_from start pairs text).placed
unfolding source_from
source_after start n pairs text =
    sym (drop_placed start n 0 pairs text ∙ placed_after start n 0 pairs (drop n text))

inside_after : (n len : ℕ) (pairs : List ℕ) → All (λ j. j < n + len) pairs → All (λ j. j < len) (pairs_after n pairs)
inside_after n len [] h = λ k d l. absurd (omega arith)
inside_after n len (j ∷ pairs) h =
    let first : j < n + len = All-head (λ j. j < n + len) j pairs h in
    let rest = inside_after n len pairs (All-tail (λ j. j < n + len) j pairs h) in
    ⊎_elim
    (λ (l : j < n). rw (is_under n j l) rest)
    (λ (l : n ≤ j). rw (not_below n j l) (All-cons (λ j. j < len) (j - n) (pairs_after n pairs) (omega arith) rest))
    (cases_lt j n)

-- those above a number stay above it
above_after : (n j : ℕ) (pairs : List ℕ) → n ≤ j → All (λ k. j < k) pairs → All (λ k. j - n < k) (pairs_after n pairs)
above_after n j [] l h = λ k d l. absurd (omega arith)
above_after n j (k ∷ pairs) l h =
    let first : j < k = All-head (λ k. j < k) k pairs h in
    let rest = above_after n j pairs l (All-tail (λ k. j < k) k pairs h) in
    rw (not_below n k (omega arith)) (All-cons (λ k. j - n < k) (k - n) (pairs_after n pairs) (omega arith) rest)

rising_after : (n : ℕ) (pairs : List ℕ) → AllPairs (λ i j. i < j) pairs → AllPairs (λ i j. i < j) (pairs_after n pairs)
rising_after n [] h = h
rising_after n (j ∷ pairs) h =
    let rest = rising_after n pairs (λ a b d l w. h (suc a) (suc b) d (omega arith) (omega arith)) in
    let larger : All (λ k. j < k) pairs = λ k d l. h 0 (suc k) d (omega arith) (omega arith) in
    ⊎_elim
    (λ (l : j < n). rw (is_under n j l) rest)
    (λ (l : n ≤ j). rw (not_below n j l) (AllPairs-cons (λ i j. i < j) (j - n) (pairs_after n pairs) (above_after n j pairs l larger) rest))
    (cases_lt j n)

plain_after : (n : ℕ) (text : List ℕ) → all_pass is_text_byte text ≡ true → all_pass is_text_byte (drop n text) ≡ true
plain_after zero text h = h
plain_after (suc n) [] h = refl
plain_after (suc n) (c ∷ text) h = plain_after n text (second_true (is_text_byte c) (all_pass is_text_byte text) h)

-- what a text keeps when its first n bytes are let go
pub IsSourceText_after : (start n : ℕ) (pairs text : List ℕ) → n ≤ length text → IsSourceText start pairs text → IsSourceText (start_after start n pairs) (pairs_after n pairs) (drop n text)
IsSourceText_after start n pairs text l kept =
    let len = length-drop n text in
    record {
      rising = rising_after n pairs kept.rising;
      inside = inside_after n (length (drop n text)) pairs (λ k d h. omega (arith, kept.inside k d h, len));
      short = omega (arith, kept.short, len, length_after n pairs);
      plain = plain_after n text kept.plain;
    }

pub end_after : (start n : ℕ) (pairs text : List ℕ) → n ≤ length text → (source_from (start_after start n pairs) (pairs_after n pairs) (drop n text)).end ≡ (source_from start pairs text).end
unfolding source_from
end_after start n pairs text l = omega (arith, length-drop n text, length_after n pairs)

-- the pairs that are let go have one byte more each
start_is : (start n count left : ℕ) (pairs kept : List ℕ) → kept ≡ pairs_after n pairs → count ≡ length pairs → left ≡ length kept → start + n + (count - left) ≡ start_after start n pairs
start_is start n count left pairs kept e f g = omega (arith, f, g, ap length e, length_after n pairs)

pub invariant_after : (start n count left : ℕ) (pairs kept text rest : List ℕ) → kept ≡ pairs_after n pairs → count ≡ length pairs → left ≡ length kept → rest ≡ drop n text → n ≤ length text → IsSourceText start pairs text → IsSourceText (start + n + (count - left)) kept rest
invariant_after start n count left pairs kept text rest e f g h l kept_so = rw (start_is start n count left pairs kept e f g, e, h) (IsSourceText_after start n pairs text l kept_so)

pub view_after : (start n count left : ℕ) (pairs kept text rest : List ℕ) → kept ≡ pairs_after n pairs → count ≡ length pairs → left ≡ length kept → rest ≡ drop n text → source_from (start + n + (count - left)) kept rest ≡ source_from (start_after start n pairs) (pairs_after n pairs) (drop n text)
view_after start n count left pairs kept text rest e f g h = rw (start_is start n count left pairs kept e f g, e, h) refl

-- a text has as many bytes as it has places
pub inside_text : (start n : ℕ) (pairs text : List ℕ) (source : Source) → source_from start pairs text ≡ source → n ≤ length source.placed → n ≤ length text
inside_text start n pairs text source e l = omega (arith, l, ap (λ (v : Source). length v.placed) e, source_from-length start pairs text)
