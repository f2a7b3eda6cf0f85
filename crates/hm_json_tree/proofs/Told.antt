-- The rules of settled walks, asked of what an item says of an event.
use Rattle.std.proofs.Common.{◌≡◌, ℕ, zero, suc, ◌+◌, ◌<◌, Bool, true, false, cond, not, ◌&&◌, ◌||◌, List, [], ◌∷◌, ◌++◌, length, take, drop, map, get_or, slice_get, Bor, bytes_eq, nat_le, nat_lt, Some, option_map, refl, sym, ap, ◌∙◌, subst, arith, drop-cons}
use Rattle.std.proofs.lemmas.Bool.Decides.{nat_tests}
use Rattle.std.proofs.lemmas.Bool.{and_parts}
use Rattle.std.proofs.lemmas.List.{take_more}
use Rattle.std.proofs.lemmas.Option.{slice_get_within, slice_get_read, slice_get-map, get_or_from_slice_get}
use Rattle.hm_base.specs.Bytes.{strip}
use Rattle.hm_base.specs.Forms.{has_byte, has_mark, is_attribute_name}
use Rattle.hm_base.specs.RawText.{is_found}
use Rattle.hm_base.specs.Walks.{Attribute, Element, start, same_flag, has_name, has_distinct_names}
use Rattle.hm_base.specs.declared.limits.TheConstants.{ATTRIBUTE_LIMIT}
use Rattle.hm_elements.specs.Names.{svg, is_among}
use Rattle.hm_elements.specs.Tables.{is_root, roots, is_svg_name, is_boundary, holds_svg_text}
use Rattle.hm_elements.specs.Paths.{current, is_in_svg, is_deep}
use Rattle.hm_elements.specs.Settled.{nests, is_svg_in_place, is_comment_in_form, is_not_deep, all_names_in_form, no_zero_in_values}
use Rattle.hm_elements.proofs.TableTools.{same_bytes, eq_self}
use Rattle.hm_json_tree.specs.Reading.{is_svg_here}
use Rattle.hm_json_tree.specs.Forms.{are_in_form, told}
use Rattle.hm_json_tree.specs.declared.form.JsonEvent.{JsonEvent}
use Rattle.hm_json_tree.specs.declared.form.JsonEvent.TheVariants.{Doctype, Start, Text, Comment, End}

-- ---- Events that a rule doesn't ask for

module _ (path : List Element) where
  pub nests_other : (f : JsonEvent) → ((n : Bor (List ℕ)) (attributes : List Attribute) → f ≡ Start n attributes → ⊥) → true ≡ nests path (told path f) []
  unfolding nests
  nests_other (Doctype legacy) other = refl
  nests_other (Start n attributes) other = absurd (other n attributes refl)
  nests_other (Text s) other = refl
  nests_other (Comment s) other = refl
  nests_other End other = refl

  pub svg_other : (f : JsonEvent) → ((n : Bor (List ℕ)) (attributes : List Attribute) → f ≡ Start n attributes → ⊥) → true ≡ is_svg_in_place path (told path f) []
  unfolding is_svg_in_place
  svg_other (Doctype legacy) other = refl
  svg_other (Start n attributes) other = absurd (other n attributes refl)
  svg_other (Text s) other = refl
  svg_other (Comment s) other = refl
  svg_other End other = refl

  pub deep_other : (f : JsonEvent) → ((n : Bor (List ℕ)) (attributes : List Attribute) → f ≡ Start n attributes → ⊥) → true ≡ is_not_deep path (told path f) []
  unfolding is_not_deep
  deep_other (Doctype legacy) other = refl
  deep_other (Start n attributes) other = absurd (other n attributes refl)
  deep_other (Text s) other = refl
  deep_other (Comment s) other = refl
  deep_other End other = refl

  pub comment_other : (f : JsonEvent) → ((s : Bor (List ℕ)) → f ≡ Comment s → ⊥) → true ≡ is_comment_in_form path (told path f) []
  unfolding is_comment_in_form
  comment_other (Doctype legacy) other = refl
  comment_other (Start n attributes) other = refl
  comment_other (Text s) other = refl
  comment_other (Comment s) other = absurd (other s refl)
  comment_other End other = refl

-- ---- Starts

svg_is_no_root : is_root svg ≡ false
unfolding is_root roots is_among
svg_is_no_root = refl

-- where no element of SVG is open, the roots are HTML elements
pub root_is_html : (path : List Element) (n : List ℕ) → is_in_svg path ≡ false → is_root n ≡ not (is_svg_here n path) && is_root n
root_is_html path n html = rw html (by (bytes_eq n svg) refl)
  where
    by : (b : Bool) → bytes_eq n svg ≡ b → is_root n ≡ not (b || false) && is_root n
    by true e = ap is_root (same_bytes n svg e) ∙ svg_is_no_root
    by false e = refl

same : (b : Bool) → same_flag b b ≡ true
same true = refl
same false = refl

pub svg_stands : (path : List Element) (n : List ℕ) (attributes : List Attribute) → is_in_svg path ≡ true → is_svg_name n ≡ true → not (is_boundary (current path) true) ≡ is_svg_in_place path (start n (is_svg_here n path) attributes) []
unfolding is_svg_in_place is_boundary holds_svg_text
svg_stands path n attributes inside known = rw (same (is_svg_here n path), inside, known) refl

pub open_more : (n : ℕ) (m : Element) (path : List Element) → n ≡ length path → nat_lt n 512 ≡ not (is_deep (m ∷ path))
unfolding is_deep
open_more n m path e = rw e (grind (arith, nat_tests))

-- ---- A mark further on

pub mark_goes_on : (mark s : List ℕ) (i : ℕ) → i < length s → is_found (strip mark (drop i s)) ≡ false → has_mark mark (drop i s) ≡ has_mark mark (drop (suc i) s)
mark_goes_on mark s i l h =
    let e = drop-cons s i 0 l in ap (has_mark mark) e ∙ ap (λ b. b || has_mark mark (drop (suc i) s)) (ap (λ t. is_found (strip mark t)) (sym e) ∙ h)

-- ---- Attributes one by one

pub name_fails : (attributes : List Attribute) (i : ℕ) (a : Attribute) → slice_get attributes i ≡ Some a → is_attribute_name a.name ≡ false → all_names_in_form attributes ≡ false
name_fails [] i a at h = cc
name_fails (b ∷ attributes) zero a at h = let same : b ≡ a = cc in ap (λ x. x && all_names_in_form attributes) (ap (λ x. is_attribute_name x.name) same ∙ h)
name_fails (b ∷ attributes) (suc i) a at h = rw (name_fails attributes i a at h) (none (is_attribute_name b.name))
  where
    none : (x : Bool) → x && false ≡ false
    none true = refl
    none false = refl

has_later : (attributes : List Attribute) (i : ℕ) (a : Attribute) → slice_get attributes i ≡ Some a → has_name a.name attributes ≡ true
has_later [] i a at = cc
has_later (b ∷ attributes) zero a at =
    let same : b ≡ a = cc in
    let own : has_name b.name (b ∷ attributes) ≡ true = ap (λ x. cond x true (has_name b.name attributes)) (eq_self b.name) in
    subst (λ x. has_name x.name (b ∷ attributes) ≡ true) same own
has_later (b ∷ attributes) (suc i) a at = rw (has_later attributes i a at) (either (bytes_eq b.name a.name))
  where
    either : (x : Bool) → cond x true true ≡ true
    either true = refl
    either false = refl

pub name_repeats : (attributes : List Attribute) (i : ℕ) (a : Attribute) → slice_get attributes i ≡ Some a → has_name a.name (take i attributes) ≡ true → has_distinct_names attributes ≡ false
name_repeats [] i a at h = cc
name_repeats (b ∷ attributes) zero a at h = cc
name_repeats (b ∷ attributes) (suc i) a at h = by (bytes_eq b.name a.name) refl h (λ k. name_repeats attributes i a at k)
  where
    none : (x : Bool) → x && false ≡ false
    none true = refl
    none false = refl

    by : (x : Bool) → bytes_eq b.name a.name ≡ x → cond x true (has_name a.name (take i attributes)) ≡ true → (has_name a.name (take i attributes) ≡ true → has_distinct_names attributes ≡ false) → not (has_name b.name attributes) && has_distinct_names attributes ≡ false
    by true e k more = rw (same_bytes b.name a.name e, has_later attributes i a at) refl
    by false e k more = rw (more k) (none (not (has_name b.name attributes)))

-- the attribute that one of these stands for
pub mapped_at : {X : Type 0} (f : X → Attribute) (xs : List X) (i : ℕ) (x : X) → i < length xs → x ≡ get_or xs i x → slice_get (map f xs) i ≡ Some (f x)
mapped_at f xs i x l at = slice_get-map f xs i ∙ ap (option_map f) (slice_get_read xs (length xs) i x refl l at)

-- one attribute more
pub one_more : (attributes : List Attribute) (i : ℕ) (a : Attribute) → slice_get attributes i ≡ Some a → take i attributes ++ a ∷ [] ≡ take (i + 1) attributes
one_more attributes i a at = sym (rw (take_more attributes i a (slice_get_within attributes i a at), get_or_from_slice_get attributes i a a at) refl)

-- from an attribute on
pub from_one : (attributes : List Attribute) (i : ℕ) (a : Attribute) → slice_get attributes i ≡ Some a → drop i attributes ≡ a ∷ drop (i + 1) attributes
from_one [] i a at = cc
from_one (b ∷ attributes) zero a at = let same : b ≡ a = cc in ap (λ x. x ∷ attributes) same
from_one (b ∷ attributes) (suc i) a at = let next : suc i + 1 ≡ suc (i + 1) = omega arith in rw next (from_one attributes i a at)

module _ (attributes : List Attribute) (i : ℕ) (a : Attribute) (at : slice_get attributes i ≡ Some a) where
  pub zero_found : has_byte 0 a.value ≡ true → no_zero_in_values (drop i attributes) ≡ false
  zero_found h = rw (from_one attributes i a at, h) refl

  pub zero_goes_on : has_byte 0 a.value ≡ false → no_zero_in_values (drop i attributes) ≡ no_zero_in_values (drop (i + 1) attributes)
  zero_goes_on h = rw (from_one attributes i a at, h) refl

pub names_more : (named : List Attribute) (a : Attribute) → all_names_in_form named ≡ true → is_attribute_name a.name ≡ true → all_names_in_form (named ++ a ∷ []) ≡ true
names_more [] a h k = rw k refl
names_more (b ∷ named) a h k = let two = and_parts (is_attribute_name b.name) (all_names_in_form named) h in rw (two.0) (names_more named a two.1 k)

-- a name that can't be written, or a repeated one, and the attributes aren't in form
pub misnamed : (attributes : List Attribute) → all_names_in_form attributes ≡ false → are_in_form attributes ≡ false
misnamed attributes h = rw h (none (nat_le (length attributes) ATTRIBUTE_LIMIT && has_distinct_names attributes))
  where
    none : (b : Bool) → b && false ≡ false
    none true = refl
    none false = refl

pub repeated : (attributes : List Attribute) → has_distinct_names attributes ≡ false → are_in_form attributes ≡ false
repeated attributes h = rw h (by (nat_le (length attributes) ATTRIBUTE_LIMIT))
  where
    by : (b : Bool) → b && false && all_names_in_form attributes ≡ false
    by true = refl
    by false = refl

pub denied : (b : Bool) → not b ≡ false → b ≡ true
denied true h = refl
denied false h = cc
