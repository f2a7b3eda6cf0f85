-- The number that the hash gives is the number of the name.
use Rattle.std.proofs.Common.{◌≡◌, ℕ, zero, suc, ◌+◌, ◌<◌, length, get_or, Bool, true, false, cond, ◌||◌, lit<, List, [], ◌∷◌, drop, bytes_eq, refl, sym, ap, ◌∙◌, arith}
use Rattle.std.proofs.lemmas.Bool.{false_from_ne_true, both_ways}
use denote.Ref.{Bor}
use Rattle.hm_elements.specs.Names.{is_among}
use Rattle.hm_elements.specs.Texts.{texts}
use Rattle.hm_elements.specs.declared.names.TheConstants.{NAME_COUNT}
use Rattle.hm_elements.specs.Numbers.{names, place, number_of, text_of}
use Rattle.hm_elements.proofs.TableTools.{same_bytes, eq_self}
use Rattle.hm_elements.proofs.Places.{are_placed, placed_at, at_place, among_at}
use Rattle.hm_elements.proofs.SlotFacts.{number_by, all_placed}

-- said of any list that begins with the empty name
placed_in : (at : List ℕ → ℕ) (ms : List (List ℕ)) (n : List ℕ) → 0 < length n → are_placed at 1 ms ≡ true → is_among n ([] ∷ ms) ≡ true → at n ≡ place n ([] ∷ ms)
unfolding is_among
placed_in at ms [] h all among = absurd (omega arith)
placed_in at ms (c ∷ n) h all among = let is : at (c ∷ n) ≡ 1 + place (c ∷ n) ms = placed_at at (c ∷ n) 1 ms all among in omega arith

begins_empty : names ≡ [] ∷ drop 1 names
unfolding names
begins_empty = refl

placed : (n : List ℕ) → 0 < length n → is_among n names ≡ true → number_by n ≡ place n names
placed n h among = rw begins_empty (placed_in number_by (drop 1 names) n h all_placed (rw begins_empty at among))

-- a name of the list
pub number_of_listed : (n : List ℕ) → is_among n names ≡ true → number_of n ≡ place n names
unfolding number_of
number_of_listed n e = rw e refl

pub text_of_listed : (n : List ℕ) → is_among n names ≡ true → text_of (number_of n) ≡ n
unfolding text_of
text_of_listed n e = rw (number_of_listed n e) (at_place n names e)

-- another name
pub number_of_other : (n : List ℕ) → is_among n names ≡ false → number_of n ≡ 0
unfolding number_of
number_of_other n e = rw e refl

pub number_of_empty : (n : List ℕ) → length n ≡ 0 → number_of n ≡ 0
unfolding number_of names is_among
number_of_empty [] h = refl
number_of_empty (c ∷ n) h = absurd (omega arith)

pub many : length names ≡ NAME_COUNT
unfolding names
many = refl

-- the candidate is the name
pub found : (n : List ℕ) → 0 < length n → number_by n < NAME_COUNT → bytes_eq (text_of (number_by n)) n ≡ true → number_by n ≡ number_of n
unfolding text_of
found n h below e =
    let among : is_among n names ≡ true = among_at n names (number_by n) (rw many below) (same_bytes (get_or names (number_by n) []) n e) in
    placed n h among ∙ sym (number_of_listed n among)

-- the candidate is another name
pub missed : (n : List ℕ) → 0 < length n → bytes_eq (text_of (number_by n)) n ≡ false → number_of n ≡ 0
unfolding text_of
missed n h e = number_of_other n (false_from_ne_true (is_among n names) no)
  where
    no : is_among n names ≡ true → ⊥
    no among =
        let is : get_or names (number_by n) [] ≡ n = ap (λ k. get_or names k []) (placed n h among) ∙ at_place n names among in
        let k : bytes_eq (get_or names (number_by n) []) n ≡ true = rw is (eq_self n) in
        both_ways (bytes_eq (get_or names (number_by n) []) n) e k

pub texts_at : (xs : List (Bor (List ℕ))) (i : ℕ) (d : Bor (List ℕ)) → i < length xs → (get_or xs i d).now ≡ get_or (texts xs) i []
texts_at [] i d h = absurd (omega arith)
texts_at (x ∷ xs) zero d h = refl
texts_at (x ∷ xs) (suc i) d h = texts_at xs i d (omega arith)

-- the name that the list has at a number
pub text_at : (xs : List (Bor (List ℕ))) (i : ℕ) (d : Bor (List ℕ)) → texts xs ≡ names → length xs ≡ NAME_COUNT → i < NAME_COUNT → (get_or xs i d).now ≡ text_of i
unfolding text_of
text_at xs i d e l h = texts_at xs i d (rw l h) ∙ ap (λ ys. get_or ys i []) e

no_text : text_of 0 ≡ []
unfolding text_of names
no_text = refl

-- a question that names without a number answer as the empty name does
pub same_asked : {X : Type 0} (ask : List ℕ → X) (n : List ℕ) → (is_among n names ≡ false → ask [] ≡ ask n) → ask (text_of (number_of n)) ≡ ask n
same_asked ask n other = by (is_among n names) refl
  where
    by : (b : Bool) → is_among n names ≡ b → ask (text_of (number_of n)) ≡ ask n
    by true e = ap ask (text_of_listed n e)
    by false e = ap ask (ap text_of (number_of_other n e) ∙ no_text) ∙ other e

place_below : (n : List ℕ) (ms : List (List ℕ)) → is_among n ms ≡ true → place n ms < length ms
unfolding is_among
place_below n [] among = cc
place_below n (m ∷ ms) among = by (bytes_eq m n) among (place_below n ms)
  where
    by : (b : Bool) → b || is_among n ms ≡ true → (is_among n ms ≡ true → place n ms < length ms) → cond b 0 (place n ms + 1) < suc (length ms)
    by true a there = omega arith
    by false a there = let l : place n ms < length ms = there a in omega arith

pub number_below : (n : List ℕ) → number_of n < NAME_COUNT
number_below n = by (is_among n names) refl
  where
    by : (b : Bool) → is_among n names ≡ b → number_of n < NAME_COUNT
    by true e = let l : place n names < length names = place_below n names e in rw (number_of_listed n e, sym many) l
    by false e = rw (number_of_other n e) (lit< tt)
