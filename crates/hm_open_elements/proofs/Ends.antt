-- What an end tag does, and on which elements another may stand.
use Rattle.std.proofs.Common.{◌≡◌, ℕ, ◌+◌, ◌-◌, ◌≤◌, Bool, true, false, List, [], ◌∷◌, ◌++◌, length, take, get_or, Some, bytes_eq, refl, sym, ap, ◌∙◌, arith}
use Rattle.std.proofs.lemmas.List.{take_all, length-take-le, length_push}
use Rattle.hm_base.specs.Walks.{Element}
use Rattle.hm_base.specs.declared.rules.Rule.TheVariants.{StrayEnd, NotCurrent}
use Rattle.hm_elements.specs.Names.{body}
use Rattle.hm_elements.specs.Nesting.{may_stand}
use Rattle.hm_elements.specs.Paths.{html_element, is_in_svg, front, rest_after, is_closed_by_end_of, stands_on, is_open}
use Rattle.hm_elements.proofs.TableTools.{same_bytes}
use Rattle.hm_open_elements.specs.Moves.{refuses, end_moves, ends_nothing}
use Rattle.hm_open_elements.specs.Elements.{name_of, element_of, path_of, IsPath}
use Rattle.hm_open_elements.specs.Plans.{IsReached, IsEndPlan}
use Rattle.hm_open_elements.specs.declared.element.OpenElement.{OpenElement}
use Rattle.hm_open_elements.proofs.Elements.{path_of-last, path_of-all, length-path_of, is_inner}
use Rattle.hm_open_elements.proofs.Fronts.{length-front}

pub in_svg_by : (os : List OpenElement) (o : OpenElement) → o ≡ get_or os (length os - 1) o → IsPath os → is_in_svg (path_of os) ≡ o.foreign
in_svg_by os o at path = rw (path_of-all os (length os - 1) o at (omega (arith, path.least))) refl

pub all_stay : (os : List OpenElement) → path_of (take (length os) os) ≡ path_of os
all_stay os = ap path_of (take_all (length os) os (omega arith))

pub reached_in_svg : (os : List OpenElement) (n : List ℕ) → is_in_svg (path_of os) ≡ true → IsPath os → IsReached os n (length os)
unfolding end_moves
reached_in_svg os n svg path =
    record {
      closed = [];
      ends = rw (svg, all_stay os) refl;
      closes = omega arith;
      least = path.least;
    }

-- `left` elements stay where the others pass the test
pub closes_rest : (q : Element → Bool) (os : List OpenElement) (left : ℕ) → left ≤ length os → path_of (take left os) ≡ rest_after q (path_of os) → length (front q (path_of os)) + left ≡ length os
closes_rest q os left most e =
    omega (arith, length-front q (path_of os), length-path_of os, length-path_of (take left os), length-take-le left os most, ap length e)

pub reached_in_html : (os : List OpenElement) (n : List ℕ) (left : ℕ) → is_in_svg (path_of os) ≡ false → 2 ≤ left → left ≤ length os → path_of (take left os) ≡ rest_after (is_closed_by_end_of n) (path_of os) → IsReached os n left
unfolding end_moves
reached_in_html os n left html least most e =
    record {
      closed = front (is_closed_by_end_of n) (path_of os);
      ends = rw (html, e) refl;
      closes = closes_rest (is_closed_by_end_of n) os left most e;
      least = least;
    }

pub ends_there : (os : List OpenElement) (n : List ℕ) (left : ℕ) (o : OpenElement) → o ≡ get_or os (left - 1) o → IsPath os → IsReached os n left → bytes_eq (name_of o.name) n ≡ true → (n ≡ body → ⊥) → IsEndPlan os n (left - 1)
ends_there os n left o at path reached same other =
    let all : path_of (take left os) ≡ element_of o ∷ path_of (take (left - 1) os) = path_of-last os left (left - 1) o at (omega (arith, reached.least)) (omega (arith, reached.least, reached.closes)) in
    record {
      closed = reached.closed ++ element_of o ∷ [];
      does_move = reached.ends ∙ rw (all, same) refl;
      closes = omega (arith, reached.closes, reached.least, length_push reached.closed (element_of o));
      least = is_inner os (left - 1) o at path (omega (arith, reached.least)) (omega (arith, reached.least, reached.closes)) (λ e. other (sym (same_bytes (name_of o.name) n same) ∙ e));
    }

-- the innermost element ends by a tag of its name
pub ends_innermost : (os : List OpenElement) (n : List ℕ) (o : OpenElement) → o ≡ get_or os (length os - 1) o → IsPath os → bytes_eq (name_of o.name) n ≡ true → (n ≡ body → ⊥) → IsEndPlan os n (length os - 1)
ends_innermost os n o at path same other = ends_there os n (length os) o at path (by o.foreign refl) same other
  where
    none_falls : rest_after (is_closed_by_end_of n) (path_of os) ≡ path_of os
    none_falls = rw (path_of-all os (length os - 1) o at (omega (arith, path.least)), same) refl

    by : (b : Bool) → o.foreign ≡ b → IsReached os n (length os)
    by true e = reached_in_svg os n (in_svg_by os o at path ∙ e) path
    by false e = reached_in_html os n (length os) (in_svg_by os o at path ∙ e) path.least (omega arith) (all_stay os ∙ sym none_falls)

ends_none : (os : List OpenElement) (n : List ℕ) (left : ℕ) (o : OpenElement) → o ≡ get_or os (left - 1) o → IsReached os n left → bytes_eq (name_of o.name) n ≡ false → end_moves n (path_of os) ≡ ends_nothing (is_open n (path_of os))
ends_none os n left o at reached same =
    let all : path_of (take left os) ≡ element_of o ∷ path_of (take (left - 1) os) = path_of-last os left (left - 1) o at (omega (arith, reached.least)) (omega (arith, reached.least, reached.closes)) in
    reached.ends ∙ rw (all, same) refl

pub ends_further_out : (os : List OpenElement) (n : List ℕ) (left : ℕ) (o : OpenElement) → o ≡ get_or os (left - 1) o → IsReached os n left → bytes_eq (name_of o.name) n ≡ false → is_open n (path_of os) ≡ true → end_moves n (path_of os) ≡ refuses NotCurrent
ends_further_out os n left o at reached same opened = rw opened at (ends_none os n left o at reached same)

pub ends_nowhere : (os : List OpenElement) (n : List ℕ) (left : ℕ) (o : OpenElement) → o ≡ get_or os (left - 1) o → IsReached os n left → bytes_eq (name_of o.name) n ≡ false → is_open n (path_of os) ≡ false → end_moves n (path_of os) ≡ refuses StrayEnd
ends_nowhere os n left o at reached same opened = rw opened at (ends_none os n left o at reached same)

pub stands_alone : (os : List OpenElement) (n : List ℕ) (o p : OpenElement) → IsPath os → o ≡ get_or os (length os - 1) o → p ≡ get_or os (length os - 2) p → may_stand n (name_of o.name) (Some (name_of p.name)) ≡ stands_on n (path_of os)
stands_alone os n o p path at_o at_p =
    rw (path_of-all os (length os - 1) o at_o (omega (arith, path.least)), path_of-last os (length os - 1) (length os - 2) p at_p (omega (arith, path.least)) (omega (arith, path.least))) refl

pub stands_on_made : (os : List OpenElement) (n m : List ℕ) (o : OpenElement) → IsPath os → o ≡ get_or os (length os - 1) o → may_stand n m (Some (name_of o.name)) ≡ stands_on n (html_element m ∷ path_of os)
stands_on_made os n m o path at = rw (path_of-all os (length os - 1) o at (omega (arith, path.least))) refl
