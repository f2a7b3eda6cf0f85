-- The places that a text keeps: a later byte of the text stands later in the page too, and the pairs before an index
-- give its place.
use Rattle.std.proofs.Common.{◌≡◌, ℕ, zero, suc, ◌+◌, ◌<◌, ◌≤◌, Bool, true, false, cond, List, [], ◌∷◌, ◌++◌, length, map, refl, sym, ap, ◌∙◌, arith, add-zero, zero-add, length-append, ⊎_elim}
use Rattle.std.specs.List.{All, AllPairs, AllWithin, count_by}
use Rattle.std.specs.List.Sorted.{IsPartitionedBy}
use Rattle.std.proofs.lemmas.List.Sorted.{IsPartitionedBy-ltb}
use Rattle.std.proofs.lemmas.Bool.{cases_lt}
use Rattle.std.proofs.lemmas.Bool.Decides.{nat_tests}
use Rattle.std.proofs.lemmas.List.Elements.{All-head, All-tail, All-weaker, All-get_or, All-push}
use Rattle.std.proofs.lemmas.List.Quantifiers.{all_pairs_push}
use Rattle.std.proofs.lemmas.List.Sums.{sum_by-cons, sum_by_push}
use Rattle.hm_base.specs.Source.{PlacedByte, Source, byte_of, numbered, place_in, is_text_byte}
use Rattle.hm_base.specs.Bytes.{all_pass}
use Rattle.hm_base.specs.declared.limits.TheConstants.{OUTPUT_LIMIT}
use Rattle.hm_base.proofs.Bytes.{all_pass-append}
use Rattle.hm_base.specs.Places.{IsSourceText, is_below, place_at, placed_from, source_from, with_bytes, with_pair}

abbrev pub placed_at : ℕ → ℕ → PlacedByte
placed_at byte place = record { byte = byte; place = place }

-- every pair is below an index after them all
pub count_all : (n i : ℕ) (pairs : List ℕ) → All (λ j. j < n) pairs → n ≤ i → count_by (is_below i) pairs ≡ length pairs
count_all n i [] h l = refl
count_all n i (j ∷ pairs) h l =
    let small : j < n = All-head (λ j. j < n) j pairs h in
    let others : count_by (is_below i) pairs ≡ length pairs = count_all n i pairs (All-tail (λ j. j < n) j pairs h) l in
    let here : is_below i j ≡ true = grind (arith, nat_tests) in
    sum_by-cons (λ k. cond (is_below i k) 1 0) j pairs ∙ rw here (omega (arith, others))

-- a pair that isn't before an index doesn't count for it
pub count_push : (i j : ℕ) (pairs : List ℕ) → i ≤ j → count_by (is_below i) (pairs ++ j ∷ []) ≡ count_by (is_below i) pairs
count_push i j pairs l =
    let here : is_below i j ≡ false = grind (arith, nat_tests) in
    sum_by_push (λ k. cond (is_below i k) 1 0) pairs j ∙ rw here (omega arith)

pub placed_from-append : (start i : ℕ) (pairs t u : List ℕ) → placed_from start pairs i (t ++ u) ≡ placed_from start pairs i t ++ placed_from start pairs (i + length t) u
placed_from-append start i pairs [] u = rw add-zero refl
placed_from-append start i pairs (c ∷ t) u =
    let next : i + suc (length t) ≡ i + 1 + length t = omega arith in
    rw next (ap (λ r. placed_at c (place_at start pairs i) ∷ r) (placed_from-append start (i + 1) pairs t u))

-- after every pair the places go up by one
pub placed_from-after : (start n i : ℕ) (pairs u : List ℕ) → All (λ j. j < n) pairs → n ≤ i → placed_from start pairs i u ≡ numbered (start + i + length pairs) u
placed_from-after start n i pairs [] h l = refl
placed_from-after start n i pairs (c ∷ u) h l =
    let next : start + (i + 1) + length pairs ≡ start + i + length pairs + 1 = omega arith in
    rw (count_all n i pairs h l) (ap (λ r. placed_at c (start + i + length pairs) ∷ r) (placed_from-after start n (i + 1) pairs u h (omega arith) ∙ ap (λ m. numbered m u) next))

-- a pair that isn't before the end of a text changes no place in it
pub placed_from_push : (start i j : ℕ) (pairs t : List ℕ) → i + length t ≤ j → placed_from start (pairs ++ j ∷ []) i t ≡ placed_from start pairs i t
placed_from_push start i j pairs [] l = refl
placed_from_push start i j pairs (c ∷ t) l =
    rw (count_push i j pairs (omega arith)) (ap (λ r. placed_at c (place_at start pairs i) ∷ r) (placed_from_push start (i + 1) j pairs t (omega arith)))

abbrev pub source_at : List PlacedByte → ℕ → Source
source_at placed end = record { placed = placed; end = end }

pub same_source : (p q : List PlacedByte) (m n : ℕ) → p ≡ q → m ≡ n → source_at p m ≡ source_at q n
same_source p q m n e f = ap (λ r. source_at r m) e ∙ ap (source_at q) f

-- bytes after a text
pub source_from-append : (start : ℕ) (pairs text s : List ℕ) → All (λ j. j < length text) pairs → source_from start pairs (text ++ s) ≡ with_bytes (source_from start pairs text) s
unfolding source_from
source_from-append start pairs text s inside =
    let place : start + (0 + length text) + length pairs ≡ start + length text + length pairs = omega arith in
    same_source _ _ _ _ (placed_from-append start 0 pairs text s ∙ ap (λ r. placed_from start pairs 0 text ++ r) (placed_from-after start (length text) (0 + length text) pairs s inside (omega arith) ∙ ap (λ n. numbered n s) place))
    (omega (arith, length-append text s))

-- a pair after a text
pub source_from_pair : (start : ℕ) (pairs text : List ℕ) → All (λ j. j < length text) pairs → source_from start (pairs ++ length text ∷ []) (text ++ 10 ∷ []) ≡ with_pair (source_from start pairs text)
unfolding source_from
source_from_pair start pairs text inside =
    let place : place_at start (pairs ++ length text ∷ []) (0 + length text) ≡ start + length text + length pairs =
    rw (count_push (0 + length text) (length text) pairs (omega arith), count_all (length text) (0 + length text) pairs inside (omega arith)) (omega arith) in
    same_source _ _ _ _ (placed_from-append start 0 (pairs ++ length text ∷ []) text (10 ∷ []) ∙ ap (λ r. r ++ placed_from start (pairs ++ length text ∷ []) (0 + length text) (10 ∷ [])) (placed_from_push start 0 (length text) pairs text (omega arith)) ∙ ap (λ n. placed_from start pairs 0 text ++ placed_at 10 n ∷ []) place)
    (omega (arith, length-append text (10 ∷ []), length-append pairs (length text ∷ [])))

pub source_from-end : (start : ℕ) (pairs text : List ℕ) → (source_from start pairs text).end ≡ start + length text + length pairs
unfolding source_from
source_from-end start pairs text = refl

-- what stays true of a text when bytes or a pair are appended
pub IsSourceText-append : (start : ℕ) (pairs text s : List ℕ) → IsSourceText start pairs text → all_pass is_text_byte s ≡ true → (source_from start pairs text).end + length s ≤ OUTPUT_LIMIT → IsSourceText start pairs (text ++ s)
IsSourceText-append start pairs text s kept plain room = record {
  rising = kept.rising;
  inside = All-weaker (λ j. j < length text) (λ j. j < length (text ++ s)) (λ j h. omega (arith, length-append text s)) pairs kept.inside;
  short = omega (arith, length-append text s, source_from-end start pairs text);
  plain = all_pass-append is_text_byte text s kept.plain plain;
}

pub IsSourceText_pair : (start : ℕ) (pairs text : List ℕ) → IsSourceText start pairs text → (source_from start pairs text).end + 2 ≤ OUTPUT_LIMIT → IsSourceText start (pairs ++ length text ∷ []) (text ++ 10 ∷ [])
IsSourceText_pair start pairs text kept room = record {
  rising = all_pairs_push (λ i j. i < j) pairs (length text) kept.rising (λ k d h. All-get_or (λ j. j < length text) pairs k d h kept.inside);
  inside = All-push (λ j. j < length (text ++ 10 ∷ [])) pairs (length text) (All-weaker (λ j. j < length text) (λ j. j < length (text ++ 10 ∷ [])) (λ j h. omega (arith, length-append text (10 ∷ []))) pairs kept.inside) (omega (arith, length-append text (10 ∷ [])));
  short = omega (arith, length-append text (10 ∷ []), length-append pairs (length text ∷ []), source_from-end start pairs text);
  plain = all_pass-append is_text_byte text (10 ∷ []) kept.plain refl;
}

-- the place of a byte, and of the end
place_in-placed_from : (start i k end : ℕ) (pairs t : List ℕ) → k < length t → place_in (placed_from start pairs i t) end k ≡ place_at start pairs (i + k)
place_in-placed_from start i k end pairs [] l = absurd (omega arith)
place_in-placed_from start i zero end pairs (c ∷ t) l = rw add-zero refl
place_in-placed_from start i (suc k) end pairs (c ∷ t) l =
    let next : i + 1 + k ≡ i + suc k = omega arith in
    place_in-placed_from start (i + 1) k end pairs t (omega arith) ∙ ap (place_at start pairs) next

place_in_end : (placed : List PlacedByte) (end : ℕ) → place_in placed end (length placed) ≡ end
place_in_end [] end = refl
place_in_end (a ∷ placed) end = place_in_end placed end

pub length-placed_from : (start i : ℕ) (pairs t : List ℕ) → length (placed_from start pairs i t) ≡ length t
length-placed_from start i pairs [] = refl
length-placed_from start i pairs (c ∷ t) = ap (λ n. suc n) (length-placed_from start (i + 1) pairs t)

pub map-placed_from : (start i : ℕ) (pairs t : List ℕ) → map byte_of (placed_from start pairs i t) ≡ t
map-placed_from start i pairs [] = refl
map-placed_from start i pairs (c ∷ t) = ap (λ s. c ∷ s) (map-placed_from start (i + 1) pairs t)

pub source_from-bytes : (start : ℕ) (pairs text : List ℕ) → map byte_of (source_from start pairs text).placed ≡ text
unfolding source_from
source_from-bytes start pairs text = map-placed_from start 0 pairs text

pub source_from-length : (start : ℕ) (pairs text : List ℕ) → length (source_from start pairs text).placed ≡ length text
unfolding source_from
source_from-length start pairs text = length-placed_from start 0 pairs text

-- at an index of the text or after it, the place is what the pairs below it say
pub source_from-place : (start i : ℕ) (pairs text : List ℕ) → All (λ j. j < length text) pairs → i ≤ length text → place_at start pairs i ≡ place_in (source_from start pairs text).placed (source_from start pairs text).end i
unfolding source_from
source_from-place start i pairs text inside l =
    ⊎_elim (λ (h : i < length text). sym (place_in-placed_from start 0 i _ pairs text h ∙ ap (place_at start pairs) (zero-add i)))
    (λ (h : length text ≤ i).
    let here : i ≡ length text = omega arith in
    let at_end : place_in (placed_from start pairs 0 text) (start + length text + length pairs) (length text) ≡ start + length text + length pairs =
    ap (place_in (placed_from start pairs 0 text) (start + length text + length pairs)) (sym (length-placed_from start 0 pairs text)) ∙ place_in_end (placed_from start pairs 0 text) _ in
    rw here (ap (λ n. start + length text + n) (count_all (length text) (length text) pairs inside (omega arith)) ∙ sym at_end))
    (cases_lt i (length text))

-- how many numbers are below i, from the place where a search in order finds that they stop
pub count_by_partition : (p : ℕ → Bool) (xs : List ℕ) (n : ℕ) → n ≤ length xs → AllWithin (λ y. p y ≡ true) xs 0 n → AllWithin (λ y. p y ≡ false) xs n (length xs) → count_by p xs ≡ n
count_by_partition p [] n l passes fails = omega arith
count_by_partition p (x ∷ xs) zero l passes fails =
    let first : p x ≡ false = fails 0 0 (omega arith) (omega arith) in
    sum_by-cons (λ y. cond (p y) 1 0) x xs ∙ rw first (rw (count_by_partition p xs zero (omega arith) (λ k d a b. absurd (omega arith)) (λ k d a b. fails (suc k) d (omega arith) (omega arith))) refl)
count_by_partition p (x ∷ xs) (suc n) l passes fails =
    let first : p x ≡ true = passes 0 0 (omega arith) (omega arith) in
    sum_by-cons (λ y. cond (p y) 1 0) x xs ∙ rw first (rw (count_by_partition p xs n (omega arith) (λ k d a b. passes (suc k) d (omega arith) (omega arith)) (λ k d a b. fails (suc k) d (omega arith) (omega arith))) (omega arith))

pub rising_is_partitioned : (xs : List ℕ) (i : ℕ) → AllPairs (λ j k. j < k) xs → IsPartitionedBy (is_below i) xs
rising_is_partitioned xs i rising = IsPartitionedBy-ltb (λ j. j) xs i (λ j k d l h. ⊎_elim (λ (a : j < k). omega (arith, rising j k d a h)) (λ (a : k ≤ j). let same : j ≡ k = omega arith in rw same (omega arith)) (cases_lt j k))
