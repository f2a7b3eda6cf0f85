-- Open elements that are kept one after the other, and the path that they make.
use Rattle.std.proofs.Common.{◌≡◌, ℕ, zero, suc, ◌+◌, ◌-◌, ◌<◌, ◌≤◌, List, [], ◌∷◌, ◌++◌, length, take, get_or, refl, sym, ap, ◌∙◌, inl, inr, arith}
use Rattle.std.proofs.lemmas.List.{take_more, take_all, take-take, take-append-le, length-take-le, length_push}
use Rattle.std.proofs.lemmas.Bool.{cases_eq}
use Rattle.hm_base.specs.Walks.{Element}
use Rattle.hm_base.specs.declared.limits.TheConstants.{DEPTH_LIMIT}
use Rattle.hm_elements.specs.Names.{body}
use Rattle.hm_elements.specs.Kinds.{kind}
use Rattle.hm_elements.specs.Paths.{current, is_in_text}
use Rattle.hm_open_elements.specs.declared.element.ScopeFlags.{ScopeFlags}
use Rattle.hm_open_elements.specs.declared.element.OpenElement.{OpenElement}
use Rattle.hm_open_elements.specs.Elements.{name_of, element_of, onto, path_of, marks_of, KeepsKind, AreMarked, IsPath}

onto-append : (path : List Element) (xs ys : List OpenElement) → onto path (xs ++ ys) ≡ onto (onto path xs) ys
onto-append path [] ys = refl
onto-append path (x ∷ xs) ys = onto-append (element_of x ∷ path) xs ys

pub path_of-push : (xs : List OpenElement) (x : OpenElement) → path_of (xs ++ x ∷ []) ≡ element_of x ∷ path_of xs
path_of-push xs x = onto-append [] xs (x ∷ [])

length-onto : (path : List Element) (xs : List OpenElement) → length (onto path xs) ≡ length path + length xs
length-onto path [] = omega arith
length-onto path (x ∷ xs) = omega (arith, length-onto (element_of x ∷ path) xs)

pub length-path_of : (xs : List OpenElement) → length (path_of xs) ≡ length xs
length-path_of xs = omega (arith, length-onto [] xs)

-- the path of the first elements, with the last of them as the innermost
pub path_of-last : (os : List OpenElement) (left i : ℕ) (o : OpenElement) → o ≡ get_or os i o → i + 1 ≡ left → i < length os → path_of (take left os) ≡ element_of o ∷ path_of (take i os)
path_of-last os left i o at e h =
    rw (← e, take_more os i o h) (path_of-push (take i os) (get_or os i o) ∙ ap (λ x. element_of x ∷ path_of (take i os)) (sym at))

pub path_of-all : (os : List OpenElement) (i : ℕ) (o : OpenElement) → o ≡ get_or os i o → i + 1 ≡ length os → path_of os ≡ element_of o ∷ path_of (take i os)
path_of-all os i o at e = ap path_of (sym (take_all (length os) os (omega arith))) ∙ path_of-last os (length os) i o at e (omega arith)

marked_from : (path : List Element) (os : List OpenElement) (i : ℕ) (d : OpenElement) → AreMarked path os → i < length os → (get_or os i d).marks ≡ marks_of (onto path (take (suc i) os))
marked_from path [] i d marked h = absurd (omega arith)
marked_from path (o ∷ os) zero d marked h = marked.0
marked_from path (o ∷ os) (suc i) d marked h = marked_from (element_of o ∷ path) os i d marked.1 (omega arith)

pub marked_at : (os : List OpenElement) (i : ℕ) (o : OpenElement) → o ≡ get_or os i o → AreMarked [] os → i + 1 ≡ length os → o.marks ≡ marks_of (path_of os)
marked_at os i o at marked e =
    ap (λ (x : OpenElement). x.marks) at ∙ marked_from [] os i o marked (omega arith) ∙ ap (λ k. marks_of (path_of k)) (take_all (suc i) os (omega arith))

-- the marks of each element keep the kind of its name
pub known_at : (os : List OpenElement) (i : ℕ) (o : OpenElement) → o ≡ get_or os i o → AreMarked [] os → i < length os → KeepsKind o
known_at os i o at marked h =
    ap (λ (x : OpenElement). x.marks.kind) at
    ∙ ap (λ (m : ScopeFlags). m.kind) (marked_from [] os i o marked h)
    ∙ ap (λ path. kind (current path)) (path_of-last os (suc i) i o at (omega arith) h)

-- and those of the innermost whether one text stands in it
pub text_at : (os : List OpenElement) (o : OpenElement) → o ≡ get_or os (length os - 1) o → IsPath os → o.marks.text ≡ is_in_text (path_of os)
text_at os o at path = ap (λ (m : ScopeFlags). m.text) (marked_at os (length os - 1) o at path.marked (omega (arith, path.least)))

pub marked_first : (path : List Element) (n : ℕ) (os : List OpenElement) → AreMarked path os → AreMarked path (take n os)
marked_first path zero os marked = tt
marked_first path (suc n) [] marked = tt
marked_first path (suc n) (o ∷ os) marked = (marked.0, marked_first (element_of o ∷ path) n os marked.1)

marked_after : (path : List Element) (os : List OpenElement) (o : OpenElement) → AreMarked path os → o.marks ≡ marks_of (element_of o ∷ onto path os) → AreMarked path (os ++ o ∷ [])
marked_after path [] o marked h = (h, tt)
marked_after path (p ∷ os) o marked h = (marked.0, marked_after (element_of p ∷ path) os o marked.1 h)

pub AreMarked-push : (os : List OpenElement) (o : OpenElement) → AreMarked [] os → o.marks ≡ marks_of (element_of o ∷ path_of os) → AreMarked [] (os ++ o ∷ [])
AreMarked-push os o marked h = marked_after [] os o marked h

pub IsPath-take : (os : List OpenElement) (n : ℕ) → IsPath os → 2 ≤ n → n ≤ length os → IsPath (take n os)
IsPath-take os n path least most =
    let len : length (take n os) ≡ n = length-take-le n os most in
    record {
      marked = marked_first [] n os path.marked;
      begins = ap path_of (take-take 2 n os least) ∙ path.begins;
      least = omega arith;
      most = omega (arith, path.most);
    }

pub IsPath-push : (os : List OpenElement) (o : OpenElement) → IsPath os → length os < DEPTH_LIMIT → AreMarked [] (os ++ o ∷ []) → IsPath (os ++ o ∷ [])
IsPath-push os o path room marked =
    record {
      marked = marked;
      begins = ap path_of (take-append-le 2 os (o ∷ []) path.least) ∙ path.begins;
      least = omega (arith, length_push os o, path.least);
      most = omega (arith, length_push os o);
    }

-- an element that isn't body, and stands in body, isn't one of the two outermost
pub is_inner : (os : List OpenElement) (i : ℕ) (o : OpenElement) → o ≡ get_or os i o → IsPath os → 1 ≤ i → i < length os → (name_of o.name ≡ body → ⊥) → 2 ≤ i
is_inner os i o at path least most h =
    elim (cases_eq i 1) [
      | inl e ↦ absurd (h (ap current (sym (path_of-last os 2 i o at (omega arith) most) ∙ path.begins)))
      | inr e ↦ omega arith
    ]
