-- The path after a tag: what closes is a prefix of the path, and what is made and opens stands on the rest.
use Rattle.std.proofs.Common.{◌≡◌, ℕ, Bool, true, false, not, cond, List, [], ◌∷◌, ◌++◌, bytes_eq, refl, sym, ap, subst, append_assoc}
use Rattle.hm_base.specs.Walks.{Element}
use Rattle.hm_base.specs.declared.rules.Rule.TheVariants.{TooDeep, WrongParent, BlockInParagraph, Nested, RefusedName, SecondRoot, ForeignName}
use Rattle.hm_elements.specs.Names.{svg}
use Rattle.hm_elements.specs.Tables.{is_root, is_refused, is_svg_name, holds_svg_text}
use Rattle.hm_elements.specs.Paths.{current, is_in_svg, front, rest_after, is_closed_by_start_of, is_closed_by_end_of, made_on, stands_on, is_open, is_block_in_p, is_nested, is_deep}
use Rattle.hm_open_elements.specs.Moves.{moves, refuses, element, opens, opens_in_place, start_on, svg_start_moves, html_start_moves, start_moves, ends_nothing, end_on, html_end_moves, end_moves}
use Rattle.hm_open_elements.specs.Plans.{opens_as_svg}

front_after : (q : Element → Bool) (path : List Element) → path ≡ front q path ++ rest_after q path
front_after q [] = refl
front_after q (e ∷ path) = by (q e) (front_after q path)
  where
    by : (b : Bool) → path ≡ front q path ++ rest_after q path → e ∷ path ≡ cond b (e ∷ front q path) [] ++ cond b (rest_after q path) (e ∷ path)
    by true h = ap (λ x. e ∷ x) h
    by false h = refl

-- the same moves
pub record AreMoves (closed made path closed' made' path' : List Element) : Type 0 where
  pub closed_is : closed ≡ closed'
  pub made_is : made ≡ made'
  pub path_is : path ≡ path'

same_moves : (closed made path closed' made' path' : List Element) → moves closed made path ≡ moves closed' made' path' → AreMoves closed made path closed' made' path'
same_moves closed made path closed' made' path' h = record { closed_is = cc; made_is = cc; path_is = cc }

opens_means : (e : Element) (closed made path closed' made' path' : List Element) → opens e closed made path ≡ moves closed' made' path' → AreMoves closed made (e ∷ path) closed' made' path'
opens_means e closed made path closed' made' path' h = by (is_deep (e ∷ path)) h
  where
    by : (b : Bool) → cond b (refuses TooDeep) (moves closed made (e ∷ path)) ≡ moves closed' made' path' → AreMoves closed made (e ∷ path) closed' made' path'
    by true h' = absurd (cc)
    by false h' = same_moves closed made (e ∷ path) closed' made' path' h'

in_place_means : (n : List ℕ) (closed made path closed' made' path' : List Element) → opens_in_place n closed made path ≡ moves closed' made' path' → AreMoves closed made (element n (bytes_eq n svg) ∷ path) closed' made' path'
in_place_means n closed made path closed' made' path' h = by (is_deep path) (not (stands_on n path)) h
  where
    by : (b c : Bool) → cond b (refuses TooDeep) (cond c (refuses WrongParent) (opens (element n (bytes_eq n svg)) closed made path)) ≡ moves closed' made' path' → AreMoves closed made (element n (bytes_eq n svg) ∷ path) closed' made' path'
    by true c h' = absurd (cc)
    by false true h' = absurd (cc)
    by false false h' = opens_means (element n (bytes_eq n svg)) closed made path closed' made' path' h'

start_on_means : (n : List ℕ) (closed path closed' made' path' : List Element) → start_on n closed path ≡ moves closed' made' path' → AreMoves closed (made_on n path) (element n (bytes_eq n svg) ∷ (made_on n path ++ path)) closed' made' path'
start_on_means n closed path closed' made' path' h = by (is_block_in_p n path) (is_nested n path) h
  where
    by : (b c : Bool) → cond b (refuses BlockInParagraph) (cond c (refuses Nested) (opens_in_place n closed (made_on n path) (made_on n path ++ path))) ≡ moves closed' made' path'
        → AreMoves closed (made_on n path) (element n (bytes_eq n svg) ∷ (made_on n path ++ path)) closed' made' path'
    by true c h' = absurd (cc)
    by false true h' = absurd (cc)
    by false false h' = in_place_means n closed (made_on n path) (made_on n path ++ path) closed' made' path' h'

-- what a start tag that isn't refused does to a path
pub record IsStartOn (n : List ℕ) (path closed made after : List Element) : Type 0 where
  pub left : List Element
  pub splits : path ≡ closed ++ left
  pub opens_on : after ≡ element n (opens_as_svg n path) ∷ (made ++ left)

svg_start_means : (n : List ℕ) (path closed made after : List Element) → is_in_svg path ≡ true → svg_start_moves n path ≡ moves closed made after → IsStartOn n path closed made after
svg_start_means n path closed made after svg_is h = by (not (is_svg_name n)) (holds_svg_text (current path)) h
  where
    by : (b c : Bool) → cond b (refuses ForeignName) (cond c (refuses WrongParent) (opens (element n true) [] [] path)) ≡ moves closed made after → IsStartOn n path closed made after
    by true c h' = absurd (cc)
    by false true h' = absurd (cc)
    by false false h' =
        let same = opens_means (element n true) [] [] path closed made after h' in
        record { left = path; splits = rw (← same.closed_is) refl; opens_on = rw (svg_is, ← same.made_is) (sym same.path_is) }

html_start_means : (n : List ℕ) (path closed made after : List Element) → is_in_svg path ≡ false → html_start_moves n path ≡ moves closed made after → IsStartOn n path closed made after
html_start_means n path closed made after html_is h = by (is_refused n) (is_root n) h
  where
    by : (b c : Bool) → cond b (refuses RefusedName) (cond c (refuses SecondRoot) (start_on n (front (is_closed_by_start_of n) path) (rest_after (is_closed_by_start_of n) path))) ≡ moves closed made after → IsStartOn n path closed made after
    by true c h' = absurd (cc)
    by false true h' = absurd (cc)
    by false false h' =
        let same = start_on_means n (front (is_closed_by_start_of n) path) (rest_after (is_closed_by_start_of n) path) closed made after h' in
        record {
          left = rest_after (is_closed_by_start_of n) path;
          splits = rw (← same.closed_is) (front_after (is_closed_by_start_of n) path);
          opens_on = rw (html_is, ← same.made_is) (sym same.path_is);
        }

pub start_means : (n : List ℕ) (path closed made after : List Element) → start_moves n path ≡ moves closed made after → IsStartOn n path closed made after
unfolding start_moves
start_means n path closed made after h = by (is_in_svg path) refl h
  where
    by : (b : Bool) → is_in_svg path ≡ b → cond b (svg_start_moves n path) (html_start_moves n path) ≡ moves closed made after → IsStartOn n path closed made after
    by true e h' = svg_start_means n path closed made after e h'
    by false e h' = html_start_means n path closed made after e h'

-- what an end tag that isn't refused does to a path: it makes nothing
pub record IsEndOn (path closed made after : List Element) : Type 0 where
  pub none_made : made ≡ []
  pub splits : path ≡ closed ++ after

nothing_moves : (b : Bool) (closed made after : List Element) → ends_nothing b ≡ moves closed made after → ⊥
nothing_moves true closed made after h = cc
nothing_moves false closed made after h = cc

end_on_means : (n : List ℕ) (first rest closed made after : List Element) (b : Bool) → end_on n first rest b ≡ moves closed made after → IsEndOn (first ++ rest) closed made after
end_on_means n first [] closed made after b h = absurd (nothing_moves b closed made after h)
end_on_means n first (e ∷ rest) closed made after b h = by (bytes_eq e.name n) h
  where
    by : (c : Bool) → cond c (moves (first ++ e ∷ []) [] rest) (ends_nothing b) ≡ moves closed made after → IsEndOn (first ++ e ∷ rest) closed made after
    by true h' =
        let same = same_moves (first ++ e ∷ []) [] rest closed made after h' in
        record { none_made = sym same.made_is; splits = rw (← same.closed_is, ← same.path_is) (sym (append_assoc first (e ∷ []) rest)) }
    by false h' = absurd (nothing_moves b closed made after h')

pub end_means : (n : List ℕ) (path closed made after : List Element) → end_moves n path ≡ moves closed made after → IsEndOn path closed made after
unfolding end_moves
end_means n path closed made after h = by (is_in_svg path) h
  where
    by : (b : Bool) → cond b (end_on n [] path (is_open n path)) (html_end_moves n path) ≡ moves closed made after → IsEndOn path closed made after
    by true h' = end_on_means n [] path closed made after (is_open n path) h'
    by false h' =
        subst (λ p. IsEndOn p closed made after) (sym (front_after (is_closed_by_end_of n) path)) (end_on_means n (front (is_closed_by_end_of n) path) (rest_after (is_closed_by_end_of n) path) closed made after (is_open n path) h')
