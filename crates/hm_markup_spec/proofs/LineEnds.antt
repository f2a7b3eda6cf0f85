-- What bytes become where each CR LF and each other CR becomes one LF, as in the text of a page (HTML Standard,
-- #preprocessing-the-input-stream).
use Rattle.std.proofs.Common.{◌≡◌, ℕ, ◌+◌, Bool, true, false, not, ◌&&◌, ◌==◌, List, [], ◌∷◌, ◌++◌, map, refl, sym, ap, subst, ◌∙◌, if◌then◌else◌}
use Rattle.std.proofs.lemmas.Bool.{and_parts, eqb-true}
use Rattle.hm_base.specs.Bytes.{is_space, lower, all_pass}
use Rattle.hm_base.specs.Forms.{is_blank}
use Rattle.hm_base.specs.Source.{PlacedByte, numbered, without_mark, pairs_joined, returns_replaced, byte_of, text_of}
use Rattle.hm_markup_spec.specs.Gaps.{is_gap}
use Rattle.hm_markup_spec.proofs.Gaps.{gap_blank}

-- with line ends as LF; the Bool says whether a CR stands directly before
abbrev pub newlines_after : Bool → List ℕ → List ℕ
newlines_after after [] = []
newlines_after after (c ∷ s) =
    if after && c == 10 then newlines_after false s
    else if c == 13 then 10 ∷ newlines_after true s
    else c ∷ newlines_after false s

abbrev pub newlines : List ℕ → List ℕ
newlines s = newlines_after false s

-- the text of a page without a mark

abbrev bytes_from : ℕ → List ℕ → List ℕ
bytes_from n s = map byte_of (returns_replaced (pairs_joined (numbered n s)))

lines_from : (n : ℕ) (s : List ℕ) → bytes_from n s ≡ newlines s
lines_from n [] = refl
lines_from n (c ∷ []) = by_test (c == 13)
  where
    by_test : (b : Bool) → (if b then 10 else c) ∷ [] ≡ (if b then 10 ∷ [] else c ∷ [])
    by_test true = refl
    by_test false = refl
lines_from n (c ∷ d ∷ s) = by_tests (c == 13) refl (d == 10) refl (lines_from (n + 1 + 1) s) (lines_from (n + 1) (d ∷ s))
  where
    by_tests : (a : Bool) → (c == 13) ≡ a → (b : Bool) → (d == 10) ≡ b → bytes_from (n + 1 + 1) s ≡ newlines s → bytes_from (n + 1) (d ∷ s) ≡ newlines (d ∷ s) → bytes_from n (c ∷ d ∷ s) ≡ newlines (c ∷ d ∷ s)
    by_tests true e true f far near = rw (e, f) (ap (λ r. 10 ∷ r) far)
    by_tests true e false f far near = rw (e, f, e) (ap (λ r. 10 ∷ r) near)
    by_tests false e b f far near = rw (e, e) (ap (λ r. c ∷ r) near)

pub text_is_newlines : (page : List ℕ) → without_mark (numbered 0 page) ≡ numbered 0 page → text_of page ≡ newlines page
text_is_newlines page unmarked = ap (λ (s : List PlacedByte). map byte_of (returns_replaced (pairs_joined s))) unmarked ∙ lines_from 0 page

-- a page that doesn't begin with the first byte of a mark has no mark
pub unmarked : (c : ℕ) (s : List ℕ) → (c == 0xEF) ≡ false → without_mark (numbered 0 (c ∷ s)) ≡ numbered 0 (c ∷ s)
unmarked c [] h = refl
unmarked c (d ∷ []) h = refl
unmarked c (d ∷ e ∷ s) h = rw h refl

-- ---- bytes inside a line

abbrev pub is_no_return : ℕ → Bool
is_no_return c = not (c == 13)

no_return : (c : ℕ) → is_no_return c ≡ true → (c == 13) ≡ false
no_return c h = by_test (c == 13) h
  where
    by_test : (b : Bool) → not b ≡ true → b ≡ false
    by_test false h = refl
    by_test true h = cc

-- bytes without CR stay
pub newlines_plain : (f s : List ℕ) → all_pass is_no_return f ≡ true → newlines (f ++ s) ≡ f ++ newlines s
newlines_plain [] s all = refl
newlines_plain (c ∷ f) s all =
    let both = and_parts (is_no_return c) (all_pass is_no_return f) all in
    rw (no_return c both.0) (ap (λ r. c ∷ r) (newlines_plain f s both.1))

-- the bytes are the same up to the first CR, where there is one
pub data UpToReturn (s : List ℕ) : Type 0 where
  same : newlines s ≡ s → UpToReturn s
  up_to : (f x : List ℕ) → s ≡ f ++ 13 ∷ x → newlines s ≡ f ++ 10 ∷ newlines_after true x → UpToReturn s

pub up_to_return : (s : List ℕ) → UpToReturn s
up_to_return [] = same refl
up_to_return (c ∷ s) = by_test (c == 13) refl (up_to_return s)
  where
    by_test : (b : Bool) → (c == 13) ≡ b → UpToReturn s → UpToReturn (c ∷ s)
    by_test true e more = up_to [] s (ap (λ d. d ∷ s) (eqb-true c 13 e)) (rw e refl)
    by_test false e (same k) = same (rw e (ap (λ r. c ∷ r) k))
    by_test false e (up_to f x is k) = up_to (c ∷ f) x (ap (λ r. c ∷ r) is) (rw e (ap (λ r. c ∷ r) k))

-- bytes that don't begin with LF, and hold no CR
pub record IsInLine (s : List ℕ) : Type 0 where
  pub first : ℕ
  pub more : List ℕ
  pub is : s ≡ first ∷ more
  pub no_feed : (first == 10) ≡ false
  pub plain : all_pass is_no_return (first ∷ more) ≡ true

-- c isn't d, where d is its own small letter and fails a test that the small letter of c passes
lower_differs : (p : ℕ → Bool) (c d : ℕ) → lower d ≡ d → p d ≡ false → p (lower c) ≡ true → (c == d) ≡ false
lower_differs p c d stays fails passes = by_test (c == d) refl
  where
    by_test : (b : Bool) → (c == d) ≡ b → b ≡ false
    by_test false e = refl
    by_test true e =
        let here : c ≡ d = eqb-true c d e in
        let no : p d ≡ true = subst (λ x. p x ≡ true) stays (subst (λ x. p (lower x) ≡ true) here passes) in
        cc

return_stays : lower 13 ≡ 13
unfolding lower
return_stays = refl

feed_stays : lower 10 ≡ 10
unfolding lower
feed_stays = refl

-- words in any case

pub lowered_plain : (p : ℕ → Bool) (s : List ℕ) → p 13 ≡ false → all_pass p (map lower s) ≡ true → all_pass is_no_return s ≡ true
lowered_plain p [] fails all = refl
lowered_plain p (c ∷ s) fails all =
    let both = and_parts (p (lower c)) (all_pass p (map lower s)) all in
    rw (lower_differs p c 13 return_stays fails both.0, lowered_plain p s fails both.1) refl

pub lowered_in_line : (p : ℕ → Bool) (s : List ℕ) (c : ℕ) (w : List ℕ) → map lower s ≡ c ∷ w → p 10 ≡ false → p 13 ≡ false → all_pass p (c ∷ w) ≡ true → IsInLine s
lowered_in_line p [] c w e feed return all = absurd (cc)
lowered_in_line p (d ∷ s) c w e feed return all =
    let here : all_pass p (map lower (d ∷ s)) ≡ true = subst (λ x. all_pass p x ≡ true) (sym e) all in
    record {
      first = d;
      more = s;
      is = refl;
      no_feed = lower_differs p d 10 feed_stays feed (and_parts (p (lower d)) (all_pass p (map lower s)) here).0;
      plain = lowered_plain p (d ∷ s) return here;
    }

-- ---- whitespace before such bytes

some_gap : (needed : Bool) (c : ℕ) (gap : List ℕ) → is_space c ≡ true → is_blank gap ≡ true → is_gap needed (c ∷ gap) ≡ true
unfolding is_gap
some_gap true c gap h k = rw (h, k) refl
some_gap false c gap h k = rw (h, k) refl

feed_is_space : is_space 10 ≡ true
unfolding is_space
feed_is_space = refl

-- whitespace before a byte that is no line end
record HasSpaces (after : Bool) (ws : List ℕ) (d : ℕ) (s : List ℕ) : Type 0 where
  other : List ℕ
  blank : is_blank other ≡ true
  is : newlines_after after (ws ++ d ∷ s) ≡ other ++ d ∷ newlines s

spaces_lines : (ws : List ℕ) (after : Bool) (d : ℕ) (s : List ℕ) → is_blank ws ≡ true → (d == 10) ≡ false → (d == 13) ≡ false → HasSpaces after ws d s
spaces_lines [] true d s blank feed return = record { other = []; blank = refl; is = rw (feed, return) refl }
spaces_lines [] false d s blank feed return = record { other = []; blank = refl; is = rw return refl }
spaces_lines (c ∷ ws) after d s blank feed return =
    let both = and_parts (is_space c) (is_blank ws) blank in
    by_tests (after && c == 10) refl (c == 13) refl both.0 (spaces_lines ws true d s both.1 feed return) (spaces_lines ws false d s both.1 feed return)
  where
    by_tests : (joins : Bool) → (after && c == 10) ≡ joins → (returns : Bool) → (c == 13) ≡ returns → is_space c ≡ true → HasSpaces true ws d s → HasSpaces false ws d s → HasSpaces after (c ∷ ws) d s
    by_tests true e returns f space one two = record { other = two.other; blank = two.blank; is = rw e two.is }
    by_tests false e true f space one two = record { other = 10 ∷ one.other; blank = rw (feed_is_space, one.blank) refl; is = rw (e, f) (ap (λ r. 10 ∷ r) one.is) }
    by_tests false e false f space one two = record { other = c ∷ two.other; blank = rw (space, two.blank) refl; is = rw (e, f) (ap (λ r. c ∷ r) two.is) }

-- a gap before a piece inside a line
pub record HasGap (needed : Bool) (gap piece s : List ℕ) : Type 0 where
  pub other : List ℕ
  pub gap_is : is_gap needed other ≡ true
  pub is : newlines (gap ++ (piece ++ s)) ≡ other ++ (piece ++ newlines s)

gap_by_byte : (needed : Bool) (gap : List ℕ) (d : ℕ) (more s : List ℕ) → is_gap needed gap ≡ true → (d == 10) ≡ false → all_pass is_no_return (d ∷ more) ≡ true → HasGap needed gap (d ∷ more) s
gap_by_byte needed [] d more s h feed plain = record { other = []; gap_is = h; is = newlines_plain (d ∷ more) s plain }
gap_by_byte needed (c ∷ ws) d more s h feed plain =
    let both = and_parts (is_space c) (is_blank ws) (gap_blank needed (c ∷ ws) h) in
    let parts = and_parts (is_no_return d) (all_pass is_no_return more) plain in
    let return : (d == 13) ≡ false = no_return d parts.0 in
    by_test (c == 13) refl both.0 (newlines_plain more s parts.1) (spaces_lines ws true d (more ++ s) both.1 feed return) (spaces_lines ws false d (more ++ s) both.1 feed return)
  where
    by_test : (b : Bool) → (c == 13) ≡ b → is_space c ≡ true → newlines (more ++ s) ≡ more ++ newlines s → HasSpaces true ws d (more ++ s) → HasSpaces false ws d (more ++ s) → HasGap needed (c ∷ ws) (d ∷ more) s
    by_test true e space after one two = record {
      other = 10 ∷ one.other;
      gap_is = some_gap needed 10 one.other feed_is_space one.blank;
      is = rw e (ap (λ r. 10 ∷ r) (one.is ∙ ap (λ r. one.other ++ d ∷ r) after));
    }
    by_test false e space after one two = record {
      other = c ∷ two.other;
      gap_is = some_gap needed c two.other space two.blank;
      is = rw e (ap (λ r. c ∷ r) (two.is ∙ ap (λ r. two.other ++ d ∷ r) after));
    }

pub gap_lines : (needed : Bool) (gap piece s : List ℕ) → is_gap needed gap ≡ true → IsInLine piece → HasGap needed gap piece s
gap_lines needed gap piece s h p = subst (λ x. HasGap needed gap x s) (sym p.is) (gap_by_byte needed gap p.first p.more s h p.no_feed p.plain)
