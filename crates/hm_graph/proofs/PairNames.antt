-- Names for two code points, by the places of the names that begin with the first.
use Rattle.std.proofs.Common.{◌≡◌, ◌∙◌, ℕ, zero, suc, ◌+◌, ◌<◌, ◌≤◌, Bool, true, false, cond, ◌==◌, List, [], ◌∷◌, ◌++◌, length, get_or, drop, Some, None, refl, sym, ap, arith, append_assoc, length-append, bytes_eq}
use Rattle.std.proofs.lemmas.List.{drop_more, drop_all}
use Rattle.std.proofs.lemmas.Slice.Eq.{bytes_eq-Decides}
use Rattle.std.proofs.Math.Seq.{get_or-append_seam}
use Rattle.std.specs.List.{list_any}
use Rattle.hm_base.specs.Bytes.{head_is}
use Rattle.hm_refs.specs.Names.{Entry}
use Rattle.hm_refs.specs.Tables.{entry_at, is_for, no_entry, places_from, places_for}
use Rattle.hm_edges.specs.Units.{has_pair, pair_of}
use Rattle.hm_graph.specs.Interned.{BeginsNoPair}

-- some name at these places stands for the two
abbrev pub pair_among : List Entry → ℕ → ℕ → List ℕ → Bool
pair_among t c d is = list_any (λ i. bytes_eq (entry_at t i).points (c ∷ d ∷ [])) is

other_points : (c d : ℕ) (ps : List ℕ) → head_is (λ p. p == c) ps ≡ false → bytes_eq ps (c ∷ d ∷ []) ≡ false
other_points c d [] h = refl
other_points c d (p ∷ ps) h = by_test (bytes_eq (p ∷ ps) (c ∷ d ∷ [])) refl
  where
    by_test : (b : Bool) → bytes_eq (p ∷ ps) (c ∷ d ∷ []) ≡ b → b ≡ false
    by_test false e = refl
    by_test true e =
        let i : p ∷ ps ≡ c ∷ d ∷ [] = (bytes_eq-Decides (p ∷ ps) (c ∷ d ∷ [])).0 e in
        let j : p ≡ c = cc in
        absurd (grind arith)

among_from : (c d : ℕ) (front rest : List Entry) → pair_among (front ++ rest) c d (places_from c (length front) rest) ≡ has_pair rest c d
among_from c d front [] = refl
among_from c d front (e ∷ rest) =
    let f : (front ++ e ∷ []) ++ rest ≡ front ++ e ∷ rest = append_assoc front (e ∷ []) rest in
    let n : length (front ++ e ∷ []) ≡ suc (length front) = length-append front (e ∷ []) ∙ omega arith in
    by_test (is_for c e) refl (rw (← f, ← n) (among_from c d (front ++ e ∷ []) rest))
  where
    by_test : (b : Bool) → is_for c e ≡ b → pair_among (front ++ e ∷ rest) c d (places_from c (suc (length front)) rest) ≡ has_pair rest c d
        → pair_among (front ++ e ∷ rest) c d (cond b (length front ∷ places_from c (suc (length front)) rest) (places_from c (suc (length front)) rest)) ≡ has_pair (e ∷ rest) c d
    by_test true h further = rw (get_or-append_seam front e rest no_entry, further) refl
    by_test false h further = rw (further, other_points c d e.points h) refl

pub among_all : (c d : ℕ) (t : List Entry) → pair_among t c d (places_for c t) ≡ has_pair t c d
unfolding places_for
among_all c d t = among_from c d [] t

one_first : (t : List Entry) (c d : ℕ) (is : List ℕ) (k i : ℕ) → k < length is → i ≡ get_or is k i → drop k is ≡ i ∷ drop (k + 1) is
one_first t c d is k i within at = drop_more is k i within ∙ ap (λ j. j ∷ drop (k + 1) is) (sym at)

pub among_here : (t : List Entry) (c d : ℕ) (is : List ℕ) (k i : ℕ) (b : Bool) → k < length is → i ≡ get_or is k i → pair_among t c d (drop k is) ≡ b → bytes_eq (entry_at t i).points (c ∷ d ∷ []) ≡ true → true ≡ b
among_here t c d is k i b within at is_b pair =
    let first : pair_among t c d (drop k is) ≡ pair_among t c d (i ∷ drop (k + 1) is) = ap (pair_among t c d) (one_first t c d is k i within at) in
    let there : pair_among t c d (i ∷ drop (k + 1) is) ≡ true = rw pair refl in
    sym there ∙ sym first ∙ is_b

pub among_next : (t : List Entry) (c d : ℕ) (is : List ℕ) (k i : ℕ) (b : Bool) → k < length is → i ≡ get_or is k i → pair_among t c d (drop k is) ≡ b → bytes_eq (entry_at t i).points (c ∷ d ∷ []) ≡ false
    → pair_among t c d (drop (k + 1) is) ≡ b
among_next t c d is k i b within at is_b other =
    let first : pair_among t c d (drop k is) ≡ pair_among t c d (i ∷ drop (k + 1) is) = ap (pair_among t c d) (one_first t c d is k i within at) in
    let later : pair_among t c d (i ∷ drop (k + 1) is) ≡ pair_among t c d (drop (k + 1) is) = rw other refl in
    sym later ∙ sym first ∙ is_b

pub among_none : (t : List Entry) (c d : ℕ) (is : List ℕ) (k : ℕ) (b : Bool) → length is ≤ k → pair_among t c d (drop k is) ≡ b → false ≡ b
among_none t c d is k b past is_b = sym (ap (pair_among t c d) (drop_all k is past)) ∙ is_b

-- one more mark
pub marked_more : (P : ℕ → Type 0) (marks : List Bool) (b : Bool) → ((c : ℕ) → get_or marks c false ≡ true → P c) → (b ≡ true → P (length marks)) → (c : ℕ) → get_or (marks ++ b ∷ []) c false ≡ true → P c
marked_more P [] b are own zero is = own is
marked_more P [] b are own (suc c) is = absurd (cc)
marked_more P (x ∷ marks) b are own zero is = are zero is
marked_more P (x ∷ marks) b are own (suc c) is = marked_more (λ k. P (suc k)) marks b (λ k. are (suc k)) own c is

-- a character with which no name for two code points begins is no part of one
pub none_paired : (t : List Entry) (c next : ℕ) → BeginsNoPair t c → pair_of t c (Some next) ≡ None
none_paired t c next lone = rw (lone next) refl
