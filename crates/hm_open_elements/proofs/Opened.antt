-- The elements around the innermost one.
use Rattle.std.proofs.Common.{◌≡◌, ℕ, ◌-◌, List, [], ◌∷◌, length, take, refl, arith}
use Rattle.hm_base.specs.Walks.{Element}
use Rattle.hm_elements.specs.Paths.{outer}
use Rattle.hm_open_elements.specs.declared.element.OpenElement.{OpenElement}
use Rattle.hm_open_elements.specs.Elements.{element_of, onto, path_of}

outer_from : (path : List Element) (o : OpenElement) (os : List OpenElement) → outer (onto path (o ∷ os)) ≡ onto path (take (length os) (o ∷ os))
outer_from path o [] = refl
outer_from path o (x ∷ os) = outer_from (element_of o ∷ path) x os

pub outer_path : (os : List OpenElement) (n : ℕ) → n ≡ length os - 1 → outer (path_of os) ≡ path_of (take n os)
outer_path [] n e = rw e refl
outer_path (o ∷ os) n e = let same : n ≡ length os = omega (arith, e) in rw same (outer_from [] o os)
