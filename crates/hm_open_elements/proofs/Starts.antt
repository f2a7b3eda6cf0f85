-- What a start tag does in an element of HTML, test by test.
use Rattle.std.proofs.Common.{◌≡◌, ℕ, ◌+◌, ◌<◌, ◌≤◌, true, false, List, [], ◌∷◌, ◌++◌, length, refl, Ok, bytes_eq, arith, length-append}
use Rattle.std.proofs.lemmas.Bool.{lt-ltb, le-ltb}
use Rattle.hm_base.specs.Walks.{Element}
use Rattle.hm_base.specs.declared.limits.TheConstants.{DEPTH_LIMIT}
use Rattle.hm_base.specs.declared.rules.Rule.TheVariants.{RefusedName, SecondRoot, WrongParent, TooDeep, ForeignName}
use Rattle.hm_elements.specs.Names.{svg}
use Rattle.hm_elements.specs.Tables.{is_root, is_refused, is_svg_name, holds_svg_text}
use Rattle.hm_elements.specs.Paths.{current, is_in_svg, front, rest_after, is_closed_by_start_of, is_block_in_p, is_nested, is_deep, made_on, stands_on}
use Rattle.hm_open_elements.specs.Moves.{refuses, moves, start_on, start_moves, element}
use Rattle.hm_open_elements.specs.Plans.{opened}
use Rattle.hm_open_elements.specs.Answers.{elements_of}
use Rattle.hm_open_elements.specs.declared.moves.Made.{Made}

pub deep : (path : List Element) → DEPTH_LIMIT < length path → is_deep path ≡ true
unfolding is_deep
deep path h = lt-ltb DEPTH_LIMIT (length path) h

pub shallow : (path : List Element) → length path ≤ DEPTH_LIMIT → is_deep path ≡ false
unfolding is_deep
shallow path h = le-ltb DEPTH_LIMIT (length path) h

-- the tests that come before elements are made, and what is made
pub record Makes (n : List ℕ) (path : List Element) (made : Made) : Type 0 where
  pub no_block : is_block_in_p n path ≡ false
  pub not_nested : is_nested n path ≡ false
  pub makes : elements_of made ≡ made_on n path

pub made_too_deep : (n : List ℕ) (closed path : List Element) (made : Made) → Makes n path made → DEPTH_LIMIT < length path + length (elements_of made) → start_on n closed path ≡ refuses TooDeep
made_too_deep n closed path made h most =
    rw (h.no_block, h.not_nested, ← h.makes, deep (elements_of made ++ path) (simp length-append (omega arith))) refl

pub misplaced : (n : List ℕ) (closed path : List Element) (made : Made) → Makes n path made → length path + length (elements_of made) ≤ DEPTH_LIMIT → stands_on n (elements_of made ++ path) ≡ false → start_on n closed path ≡ refuses WrongParent
misplaced n closed path made h most stands =
    rw (h.no_block, h.not_nested, ← h.makes, shallow (elements_of made ++ path) (simp length-append (omega arith)), stands) refl

pub too_deep : (n : List ℕ) (closed path : List Element) (made : Made) → Makes n path made → length path + length (elements_of made) ≡ DEPTH_LIMIT → stands_on n (elements_of made ++ path) ≡ true → start_on n closed path ≡ refuses TooDeep
too_deep n closed path made h most stands =
    rw (h.no_block, h.not_nested, ← h.makes, shallow (elements_of made ++ path) (simp length-append (omega arith)), stands, deep (element n (bytes_eq n svg) ∷ (elements_of made ++ path)) (simp length-append (omega arith))) refl

pub opens_there : (n : List ℕ) (closed path : List Element) (made : Made) → Makes n path made → length path + length (elements_of made) < DEPTH_LIMIT → stands_on n (elements_of made ++ path) ≡ true → start_on n closed path ≡ opened n closed path (Ok made)
opens_there n closed path made h most stands =
    rw (h.no_block, h.not_nested, ← h.makes, shallow (elements_of made ++ path) (simp length-append (omega arith)), stands, shallow (element n (bytes_eq n svg) ∷ (elements_of made ++ path)) (simp length-append (omega arith))) refl

-- in an element of SVG
pub svg_unknown : (n : List ℕ) (path : List Element) → is_in_svg path ≡ true → is_svg_name n ≡ false → start_moves n path ≡ refuses ForeignName
unfolding start_moves
svg_unknown n path svg known = rw (svg, known) refl

pub svg_text : (n : List ℕ) (path : List Element) → is_in_svg path ≡ true → is_svg_name n ≡ true → holds_svg_text (current path) ≡ true → start_moves n path ≡ refuses WrongParent
unfolding start_moves
svg_text n path svg known text = rw (svg, known, text) refl

pub svg_too_deep : (n : List ℕ) (path : List Element) → is_in_svg path ≡ true → is_svg_name n ≡ true → holds_svg_text (current path) ≡ false → length path ≡ DEPTH_LIMIT → start_moves n path ≡ refuses TooDeep
unfolding start_moves
svg_too_deep n path svg known text most = rw (svg, known, text, deep (element n true ∷ path) (omega arith)) refl

pub svg_opens : (n : List ℕ) (path : List Element) → is_in_svg path ≡ true → is_svg_name n ≡ true → holds_svg_text (current path) ≡ false → length path < DEPTH_LIMIT → start_moves n path ≡ moves [] [] (element n true ∷ path)
unfolding start_moves
svg_opens n path svg known text most = rw (svg, known, text, shallow (element n true ∷ path) (omega arith)) refl

-- in an element of HTML
pub html_refused : (n : List ℕ) (path : List Element) → is_in_svg path ≡ false → is_refused n ≡ true → start_moves n path ≡ refuses RefusedName
unfolding start_moves
html_refused n path html refused = rw (html, refused) refl

pub html_root : (n : List ℕ) (path : List Element) → is_in_svg path ≡ false → is_refused n ≡ false → is_root n ≡ true → start_moves n path ≡ refuses SecondRoot
unfolding start_moves
html_root n path html known root = rw (html, known, root) refl

pub html_known : (n : List ℕ) (path : List Element) → is_in_svg path ≡ false → is_refused n ≡ false → is_root n ≡ false → start_moves n path ≡ start_on n (front (is_closed_by_start_of n) path) (rest_after (is_closed_by_start_of n) path)
unfolding start_moves
html_known n path html known root = rw (html, known, root) refl
