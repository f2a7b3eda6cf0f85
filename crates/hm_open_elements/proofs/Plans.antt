-- The plan of a start tag.
use Rattle.std.proofs.Common.{◌≡◌, ℕ, ◌+◌, ◌-◌, ◌<◌, ◌≤◌, Bool, true, false, not, ◌&&◌, List, [], length, take, get_or, map, Result, Ok, bytes_eq, refl, sym, ap, ◌∙◌, arith}
use Rattle.std.proofs.lemmas.List.{length-take-le}
use Rattle.hm_base.specs.Walks.{Element}
use Rattle.hm_base.specs.declared.limits.TheConstants.{DEPTH_LIMIT}
use Rattle.hm_base.specs.declared.rules.Rule.{Rule}
use Rattle.hm_elements.specs.Names.{is_among, svg}
use Rattle.hm_elements.specs.Tables.{voids, is_void, is_root, is_refused, is_svg_name, holds_svg_text, is_boundary}
use Rattle.hm_elements.specs.Nesting.{made_under}
use Rattle.hm_elements.specs.Paths.{html_element, current, is_in_svg, front, rest_after, is_closed_by_start_of, is_block_in_p, is_nested}
use Rattle.hm_elements.proofs.TableTools.{same_bytes}
use Rattle.hm_open_elements.specs.Moves.{start_moves, start_on}
use Rattle.hm_open_elements.specs.Answers.{elements_of}
use Rattle.hm_open_elements.specs.Elements.{name_of, path_of, IsPath}
use Rattle.hm_open_elements.specs.Plans.{opened, IsStartPlan}
use Rattle.hm_open_elements.specs.declared.element.OpenElement.{OpenElement}
use Rattle.hm_open_elements.specs.declared.moves.Made.{Made}
use Rattle.hm_open_elements.specs.declared.moves.Made.TheVariants.{Nothing}
use Rattle.hm_open_elements.proofs.Elements.{path_of-all, length-path_of}
use Rattle.hm_open_elements.proofs.Ends.{all_stay, closes_rest}
use Rattle.hm_open_elements.proofs.Starts.{Makes, svg_opens, html_known}

pub boundary_in_svg : (n : List ℕ) → holds_svg_text n ≡ is_boundary n true
unfolding holds_svg_text is_boundary
boundary_in_svg n = refl

pub svg_plan : (os : List OpenElement) (n : List ℕ) → IsPath os → is_in_svg (path_of os) ≡ true → is_svg_name n ≡ true → holds_svg_text (current (path_of os)) ≡ false → length os < DEPTH_LIMIT → IsStartPlan os n (record { left = length os; made = Nothing; is_void = false })
svg_plan os n path svg known text room =
    record {
      closed = [];
      does_move = rw (svg, all_stay os) (svg_opens n (path_of os) svg known text (omega (arith, length-path_of os)));
      closes = omega arith;
      least = path.least;
      room = omega arith;
      void = rw svg refl;
    }

pub current_by : (os : List OpenElement) (o : OpenElement) → IsPath os → o ≡ get_or os (length os - 1) o → current (path_of os) ≡ name_of o.name
current_by os o path at = ap current (path_of-all os (length os - 1) o at (omega (arith, path.least)))

pub makes_by : (os : List OpenElement) (n : List ℕ) (o : OpenElement) (made : Made) → IsPath os → o ≡ get_or os (length os - 1) o → is_block_in_p n (path_of os) ≡ false → is_nested n (path_of os) ≡ false → elements_of made ≡ map html_element (made_under (name_of o.name) n) → Makes n (path_of os) made
makes_by os n o made path at block nested h =
    record {
      no_block = block;
      not_nested = nested;
      makes = h ∙ ap (λ m. map html_element (made_under m n)) (sym (current_by os o path at));
    }

svg_holds : is_void svg ≡ false
unfolding is_void voids is_among
svg_holds = refl

void_html : (n : List ℕ) → is_void n ≡ not (bytes_eq n svg) && is_void n
void_html n = by (bytes_eq n svg) refl
  where
    by : (b : Bool) → bytes_eq n svg ≡ b → is_void n ≡ not b && is_void n
    by true e = rw (same_bytes n svg e) svg_holds
    by false e = refl

-- a start tag in an element of HTML, where some of the elements stay
pub html_opens : (os : List OpenElement) (n : List ℕ) (left : ℕ) (r : Result Made Rule) → is_in_svg (path_of os) ≡ false → is_refused n ≡ false → is_root n ≡ false → path_of (take left os) ≡ rest_after (is_closed_by_start_of n) (path_of os)
    → ((closed : List Element) → start_on n closed (path_of (take left os)) ≡ opened n closed (path_of (take left os)) r) → start_moves n (path_of os) ≡ opened n (front (is_closed_by_start_of n) (path_of os)) (path_of (take left os)) r
html_opens os n left r html known other e h =
    html_known n (path_of os) html known other ∙ ap (start_on n (front (is_closed_by_start_of n) (path_of os))) (sym e) ∙ h (front (is_closed_by_start_of n) (path_of os))

pub html_plan : (os : List OpenElement) (n : List ℕ) (left : ℕ) (made : Made) (void : Bool) → is_in_svg (path_of os) ≡ false → start_moves n (path_of os) ≡ opened n (front (is_closed_by_start_of n) (path_of os)) (path_of (take left os)) (Ok made) → 2 ≤ left → left ≤ length os → path_of (take left os) ≡ rest_after (is_closed_by_start_of n) (path_of os)
    → length (take left os) + length (elements_of made) < DEPTH_LIMIT → is_void n ≡ void → IsStartPlan os n (record { left = left; made = made; is_void = void })
html_plan os n left made void html moves least most e room v =
    record {
      closed = front (is_closed_by_start_of n) (path_of os);
      does_move = rw html moves;
      closes = closes_rest (is_closed_by_start_of n) os left most e;
      least = least;
      room = omega (arith, length-take-le left os most);
      void = rw html (sym v ∙ void_html n);
    }
