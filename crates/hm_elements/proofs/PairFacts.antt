-- A table of pairs by classes of the first names and masks of the second: it says what is asked.
use Rattle.std.proofs.Common.{◌≡◌, ℕ, ◌+◌, ◌<◌, length, get_or, nat_lt, Bool, true, false, ◌==◌, List, [], ◌∷◌, map, if◌then◌else◌, sym, ap, ◌∙◌, arith}
use Rattle.std.specs.List.{list_all, range_with_len}
use Rattle.std.proofs.lemmas.List.{get_or-map}
use Rattle.std.proofs.lemmas.List.FromFn.{get_or-map-range_with_len}
use Rattle.hm_elements.specs.declared.names.TheConstants.{NAME_COUNT}
use Rattle.hm_elements.specs.Names.{is_among}
use Rattle.hm_elements.specs.Numbers.{names, number_of, text_of}
use Rattle.hm_elements.specs.Rows.{bit_at, is_told}
use Rattle.hm_elements.proofs.Finding.{many, same_asked}
use Rattle.hm_elements.proofs.Places.{all_below}

-- two columns that are the same, at a place
pub same_at : {X A B : Type 0} (f : A → X) (g : B → X) (ks : List A) (ls : List B) (i : ℕ) (a : A) (b : B) (x : X) → i < length ks → i < length ls → map f ks ≡ map g ls → f (get_or ks i a) ≡ g (get_or ls i b)
same_at f g ks ls i a b x h k e = sym (get_or-map f ks i a x h) ∙ ap (λ l. get_or l i x) e ∙ get_or-map g ls i b x k

abbrev index_of : ℕ → List ℕ → ℕ
index_of c [] = 0
index_of c (d ∷ ds) = if d == c then 0 else index_of c ds + 1

-- the first name of a class
unfoldable pub first : List ℕ → ℕ → List ℕ
first classes c = text_of (index_of c classes)

-- What the classes and masks must be, so that they say what is asked of a first name and a second one. The row of a first name settles its answers.
pub record IsTable (R : Type 0) (row : List ℕ → R) (ask : List ℕ → List ℕ → Bool) (count : ℕ) (classes masks : List ℕ) : Type 0 where
  pub by_row : (a b n : List ℕ) → row a ≡ row b → ask a n ≡ ask b n
  pub other_row : (a : List ℕ) → is_among a names ≡ false → row [] ≡ row a
  pub other_next : (a n : List ℕ) → is_among n names ≡ false → ask a [] ≡ ask a n
  pub same_rows : map row names ≡ map (λ c. row (first classes c)) classes
  pub bits : map (λ c. map (ask (first classes c)) names) (range_with_len 0 count) ≡ map (λ c. map (λ m. bit_at m c) masks) (range_with_len 0 count)
  pub below : list_all (λ c. nat_lt c count) classes ≡ true
  pub some : 0 < count
  pub classes_many : length classes ≡ NAME_COUNT
  pub masks_many : length masks ≡ NAME_COUNT

-- of the names with two numbers
pub told : {R : Type 0} (row : List ℕ → R) (ask : List ℕ → List ℕ → Bool) (count : ℕ) (classes masks : List ℕ) → IsTable R row ask count classes masks → (cs ms : List ℕ) (i j : ℕ) → cs ≡ classes → ms ≡ masks → i < NAME_COUNT → j < NAME_COUNT → is_told cs ms i j ≡ ask (text_of i) (text_of j)
unfolding is_told text_of
told row ask count classes masks t cs ms i j e f h k =
    let c : ℕ = get_or classes i 0 in
    let below : c < count = all_below count classes i t.some t.below in
    let is : row (get_or names i []) ≡ row (first classes c) = same_at row (λ c'. row (first classes c')) names classes i [] 0 (row []) (rw many h) (rw t.classes_many h) t.same_rows in
    let column : map (ask (first classes c)) names ≡ map (λ m. bit_at m c) masks =
    sym (get_or-map-range_with_len (λ c'. map (ask (first classes c')) names) 0 count c c [] below (omega arith)) ∙ ap (λ l. get_or l c []) t.bits ∙ get_or-map-range_with_len (λ c'. map (λ m. bit_at m c') masks) 0 count c c [] below (omega arith) in
    rw (e, f) (sym (same_at (ask (first classes c)) (λ m. bit_at m c) names masks j [] 0 false (rw many k) (rw t.masks_many k) column) ∙ sym (t.by_row (get_or names i []) (first classes c) (get_or names j []) is))

-- a pair of names is asked as their numbers are
pub pair_named : {R : Type 0} (row : List ℕ → R) (ask : List ℕ → List ℕ → Bool) (count : ℕ) (classes masks : List ℕ) → IsTable R row ask count classes masks → (a b : List ℕ) → ask (text_of (number_of a)) (text_of (number_of b)) ≡ ask a b
pair_named row ask count classes masks t a b = t.by_row (text_of (number_of a)) a (text_of (number_of b)) (same_asked row a (t.other_row a)) ∙ same_asked (ask a) b (t.other_next a b)
