-- Which elements close: the longest prefix that passes a test, found from the innermost element outwards.
use Rattle.std.proofs.Common.{◌≡◌, ℕ, suc, ◌+◌, ◌-◌, ◌<◌, ◌≤◌, Bool, true, false, not, cond, List, [], ◌∷◌, length, take, get_or, bytes_eq, refl, sym, ◌∙◌, arith}
use Rattle.std.proofs.lemmas.Bool.{both_ways, and_parts}
use Rattle.hm_base.specs.Walks.{Element}
use Rattle.hm_elements.specs.Names.{is_among, body}
use Rattle.hm_elements.specs.Nesting.{closed_by_start_rows, is_closed_by_start, end_rows, is_ended_by}
use Rattle.hm_elements.specs.Paths.{front, rest_after, is_closed_by_end_of, is_open}
use Rattle.hm_open_elements.specs.declared.element.OpenElement.{OpenElement}
use Rattle.hm_open_elements.specs.Elements.{name_of, element_of, path_of, IsPath}
use Rattle.hm_open_elements.proofs.Elements.{path_of-last, is_inner}

-- so far all of the elements that close have passed the test
abbrev pub ClosesSoFar : (Element → Bool) → List OpenElement → ℕ → Type 0
ClosesSoFar q os left = (2 ≤ left) × (left ≤ length os) × (rest_after q (path_of (take left os)) ≡ rest_after q (path_of os))

pub closes_more : (q : Element → Bool) (os : List OpenElement) (left : ℕ) (o : OpenElement) → o ≡ get_or os (left - 1) o → IsPath os → ClosesSoFar q os left → q (element_of o) ≡ true → (name_of o.name ≡ body → ⊥) → ClosesSoFar q os (left - 1)
closes_more q os left o at path so_far h inside =
    let all : path_of (take left os) ≡ element_of o ∷ path_of (take (left - 1) os) = path_of-last os left (left - 1) o at (omega arith) (omega arith) in
    let step : rest_after q (path_of (take left os)) ≡ rest_after q (path_of (take (left - 1) os)) = rw (all, h) refl in
    (is_inner os (left - 1) o at path (omega arith) (omega arith) inside, omega arith, sym step ∙ so_far.2)

pub closes_no_more : (q : Element → Bool) (os : List OpenElement) (left : ℕ) (o : OpenElement) → o ≡ get_or os (left - 1) o → ClosesSoFar q os left → q (element_of o) ≡ false → path_of (take left os) ≡ rest_after q (path_of os)
closes_no_more q os left o at so_far h =
    let all : path_of (take left os) ≡ element_of o ∷ path_of (take (left - 1) os) = path_of-last os left (left - 1) o at (omega arith) (omega arith) in
    let step : rest_after q (path_of (take left os)) ≡ path_of (take left os) = rw (all, h) refl in
    sym step ∙ so_far.2

pub length-front : (q : Element → Bool) (path : List Element) → length (front q path) + length (rest_after q path) ≡ length path
length-front q [] = refl
length-front q (e ∷ path) = by (q e) (length-front q path)
  where
    by : (b : Bool) → length (front q path) + length (rest_after q path) ≡ length path → length (cond b (e ∷ front q path) []) + length (cond b (rest_after q path) (e ∷ path)) ≡ suc (length path)
    by true h = omega arith
    by false h = omega arith

body_stays : (n : List ℕ) → is_closed_by_start body n ≡ false
unfolding is_closed_by_start closed_by_start_rows is_among
body_stays n = refl

-- what yields isn't body
pub yields_inside : (m n : List ℕ) → is_closed_by_start m n ≡ true → m ≡ body → ⊥
yields_inside m n h e = let no : is_closed_by_start m n ≡ false = rw e (body_stays n) in cc

body_ends : (n : List ℕ) → is_ended_by body n ≡ false
unfolding is_ended_by end_rows is_among
body_ends n = refl

-- what ends with a tag of another name isn't body
pub falls_inside : (n : List ℕ) (e : Element) → is_closed_by_end_of n e ≡ true → e.name ≡ body → ⊥
falls_inside n e h is =
    let stays : is_ended_by e.name n ≡ false = rw is (body_ends n) in
    both_ways (is_ended_by e.name n) stays (and_parts (not (bytes_eq e.name n)) (is_ended_by e.name n) h).1

-- an element of that name is open, as far as it was looked for
abbrev pub IsNotFound : List ℕ → List OpenElement → ℕ → Type 0
IsNotFound n os left = (left ≤ length os) × (is_open n (path_of (take left os)) ≡ is_open n (path_of os))

pub found : (n : List ℕ) (os : List OpenElement) (left : ℕ) (o : OpenElement) → o ≡ get_or os (left - 1) o → 0 < left → IsNotFound n os left → bytes_eq (name_of o.name) n ≡ true → is_open n (path_of os) ≡ true
found n os left o at some so_far h =
    let all : path_of (take left os) ≡ element_of o ∷ path_of (take (left - 1) os) = path_of-last os left (left - 1) o at (omega arith) (omega arith) in
    let step : is_open n (path_of (take left os)) ≡ true = rw (all, h) refl in
    sym so_far.1 ∙ step

pub not_found : (n : List ℕ) (os : List OpenElement) (left : ℕ) (o : OpenElement) → o ≡ get_or os (left - 1) o → 0 < left → IsNotFound n os left → bytes_eq (name_of o.name) n ≡ false → IsNotFound n os (left - 1)
not_found n os left o at some so_far h =
    let all : path_of (take left os) ≡ element_of o ∷ path_of (take (left - 1) os) = path_of-last os left (left - 1) o at (omega arith) (omega arith) in
    let step : is_open n (path_of (take left os)) ≡ is_open n (path_of (take (left - 1) os)) = rw (all, h) refl in
    (omega arith, sym step ∙ so_far.1)
