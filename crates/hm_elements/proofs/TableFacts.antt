-- Facts about which element may stand where, what is made, and what closes.
use Rattle.std.proofs.Common.{◌≡◌, ℕ, suc, ◌≤◌, length, arith, Bool, true, false, cond, ◌||◌, ◌&&◌, not, List, [], ◌∷◌, ◌++◌, bytes_eq, refl, sym, ◌⊎◌, inl, inr, Option, None}
use Rattle.std.proofs.lemmas.Bool.{or_cases, and_parts, not-true, false_from_ne_true, both_ways, ltb-false, le-ltb}
use Rattle.hm_base.specs.Bytes.{is_digit_of}
use Rattle.hm_base.specs.Forms.{is_small, is_tag_byte, is_tag_name}
use Rattle.hm_base.specs.Walks.{Element}
use Rattle.hm_base.specs.declared.limits.TheConstants.{DEPTH_LIMIT}
use Rattle.hm_elements.specs.Names.{words, is_among, find, is_pair, head, table, tbody, tr, col, colgroup, script, svg}
use Rattle.hm_elements.specs.Tables.{is_raw, is_rcdata, holds_text, roots, voids, rcdata_names, raw_names, refused_names, headings, sections, parts, blocks, paragraph_ends, unnested_names, is_root, is_void, is_refused, is_section, is_heading, is_unnested, closes_p}
use Rattle.hm_elements.specs.Nesting.{children, noscript_children, own_parents, bound_names, may_stand, closed_by_start_rows, is_closed_by_start, end_rows, is_ended_by, made_under}
use Rattle.hm_elements.specs.Omission.{start_rows, start_tag_optional_before}
use Rattle.hm_elements.specs.Paths.{is_block_in_p, is_nested, is_deep}
use Rattle.hm_elements.specs.Laws.{ParentIs, HoldsMore, StartIsMade, SvgIsPlain}
use Rattle.hm_elements.proofs.TableTools.{same_bytes, each_pair, pair_passes, HoldsInTables, stands_passes, no_row, none_among, no_head, second_of}

abbrev pub is_nil : List (List ℕ) → Bool
is_nil [] = true
is_nil (m ∷ ms) = false

pub nil_is : (ms : List (List ℕ)) → is_nil ms ≡ true → ms ≡ []
nil_is [] e = refl
nil_is (m ∷ ms) e = cc

-- a parent without children of its own is no section
not_section : (t : List ℕ) → find t children ≡ None → is_section t ≡ false
unfolding is_section sections is_among children rcdata_names raw_names voids
not_section t alone = no_head t sections children alone refl

abbrev makes_nothing : List ℕ → List ℕ → Bool
makes_nothing c t = is_nil (made_under t c)

makes_nothing_holds : HoldsInTables makes_nothing
unfolding children noscript_children own_parents made_under is_section sections is_among rcdata_names raw_names voids
makes_nothing_holds = record {
  children_pass = refl;
  noscript_passes = refl;
  own_parents_pass = refl;
  div_passes = refl;
  ordinary_passes = λ n t alone none not_in. rw (no_row t table children alone refl, not_section t alone) refl;
}

-- under a parent where the element may stand nothing is made
pub stands_made : (n t : List ℕ) (g : Option (List ℕ)) → may_stand n t g ≡ true → made_under t n ≡ []
stands_made n t g h = nil_is (made_under t n) (stands_passes makes_nothing makes_nothing_holds n t g h)

-- a child of these names stands only under these parents
abbrev pub only_in : List (List ℕ) → List (List ℕ) → List ℕ → List ℕ → Bool
only_in names ps c t = not (is_among c names) || is_among t ps

abbrev pub parents_of_parts : List ℕ → List ℕ → Bool
parents_of_parts c t =
    only_in (words "caption colgroup thead tbody tfoot") (table ∷ []) c t
    && (only_in (words "tr") sections c t && (only_in (words "td th") (tr ∷ []) c t
    && (only_in (words "col") (colgroup ∷ []) c t && (only_in (words "head body html") [] c t && only_in (words "base title") (head ∷ []) c t))))

parents_of_parts_hold : HoldsInTables parents_of_parts
unfolding children noscript_children own_parents bound_names parts sections is_among rcdata_names raw_names voids
parents_of_parts_hold = record {
  children_pass = refl;
  noscript_passes = refl;
  own_parents_pass = refl;
  div_passes = refl;
  ordinary_passes = λ n t alone none not_in. ordinary n t not_in;
}
  where
    ordinary : (n t : List ℕ) → is_among n bound_names ≡ false → parents_of_parts n t ≡ true
    ordinary n t not_in = rw (none_among n (words "caption colgroup thead tbody tfoot") bound_names not_in refl, none_among n (words "tr") bound_names not_in refl, none_among n (words "td th") bound_names not_in refl, none_among n (words "col") bound_names not_in refl, none_among n (words "head body html") bound_names not_in refl, none_among n (words "base title") bound_names not_in refl) refl

only_means : (names ps : List (List ℕ)) (c t : List ℕ) → only_in names ps c t ≡ true → is_among c names ≡ true → is_among t ps ≡ true
only_means names ps c t h e = second_of (not (is_among c names)) (is_among t ps) h (rw e refl)

one_name : (t m : List ℕ) → is_among t (m ∷ []) ≡ true → t ≡ m
unfolding is_among
one_name t m h = sym (same_bytes m t (by_or (bytes_eq m t) h))
  where
    by_or : (b : Bool) → b || false ≡ true → b ≡ true
    by_or true e = refl
    by_or false e = e

none_stands : (names : List (List ℕ)) (c t : List ℕ) → only_in names [] c t ≡ true → is_among c names ≡ false
unfolding is_among
none_stands names c t h = by (is_among c names) h
  where
    by : (b : Bool) → not b || false ≡ true → b ≡ false
    by true e = cc
    by false e = refl

root_order : (n : List ℕ) → is_among n (words "head body html") ≡ false → is_root n ≡ false
unfolding is_root roots is_among
root_order n h = none_among n roots (words "head body html") h refl

pub stands_parent : (n t : List ℕ) (g : Option (List ℕ)) → may_stand n t g ≡ true → ParentIs n t
unfolding is_section is_among
stands_parent n t g h =
    let all : parents_of_parts n t ≡ true = stands_passes parents_of_parts parents_of_parts_hold n t g h in
    let one = and_parts (only_in (words "caption colgroup thead tbody tfoot") (table ∷ []) n t) _ all in
    let two = and_parts (only_in (words "tr") sections n t) _ one.1 in
    let three = and_parts (only_in (words "td th") (tr ∷ []) n t) _ two.1 in
    let four = and_parts (only_in (words "col") (colgroup ∷ []) n t) _ three.1 in
    let five = and_parts (only_in (words "head body html") [] n t) _ four.1 in
    record {
      in_table = λ e. one_name t table (only_means (words "caption colgroup thead tbody tfoot") (table ∷ []) n t one.0 e);
      in_section = λ e. only_means (words "tr") sections n t two.0 (rw e refl);
      in_row = λ e. one_name t tr (only_means (words "td th") (tr ∷ []) n t three.0 e);
      in_colgroup = λ e. one_name t colgroup (only_means (words "col") (colgroup ∷ []) n t four.0 (rw e refl));
      is_no_root = root_order n (none_stands (words "head body html") n t five.0);
      in_head = λ e. one_name t head (only_means (words "base title") (head ∷ []) n t five.1 e);
    }

-- a child of table is no col, so that colgroup closes before it
pub stands_beside_colgroup : (n : List ℕ) (g : Option (List ℕ)) → may_stand n table g ≡ true → bytes_eq n col ≡ false
stands_beside_colgroup n g h = false_from_ne_true (bytes_eq n col) (λ e. differ ((stands_parent n table g h).in_colgroup (same_bytes n col e)))
  where
    differ : table ≡ colgroup → ⊥
    differ e = cc

ends_differ : each_pair (λ c t. not (bytes_eq c t)) end_rows ≡ true
unfolding end_rows blocks headings sections is_among
ends_differ = refl

-- no element ends with its own name's end tag by the table
pub ends_is_other : (m n : List ℕ) → is_ended_by m n ≡ true → bytes_eq m n ≡ false
unfolding is_ended_by
ends_is_other m n h = not-true (bytes_eq m n) (pair_passes (λ c t. not (bytes_eq c t)) m n end_rows ends_differ h)

abbrev is_start_pair : List ℕ → List ℕ → Bool
is_start_pair n k = (bytes_eq n colgroup && bytes_eq k col) || (bytes_eq n tbody && bytes_eq k tr)

start_pairs : each_pair is_start_pair start_rows ≡ true
unfolding start_rows is_among
start_pairs = refl

both_names : (n k a b : List ℕ) → bytes_eq n a && bytes_eq k b ≡ true → (n ≡ a) × (k ≡ b)
both_names n k a b h = let two = and_parts (bytes_eq n a) (bytes_eq k b) h in (same_bytes n a two.0, same_bytes k b two.1)

-- which start tags may be left out before which
pub start_cases : (n k : List ℕ) → start_tag_optional_before n k ≡ true → (n ≡ colgroup) × (k ≡ col) ⊎ (n ≡ tbody) × (k ≡ tr)
unfolding start_tag_optional_before
start_cases n k h =
    let e : is_start_pair n k ≡ true = pair_passes is_start_pair n k start_rows start_pairs h in
    elim (or_cases (bytes_eq n colgroup && bytes_eq k col) (bytes_eq n tbody && bytes_eq k tr) e) [
      | inl f ↦ inl (both_names n k colgroup col f)
      | inr f ↦ inr (both_names n k tbody tr f)
    ]

made_col : (t : List ℕ) → t ≡ table → StartIsMade colgroup col t
unfolding made_under is_closed_by_start closed_by_start_rows is_among start_tag_optional_before start_rows is_block_in_p is_nested closes_p paragraph_ends blocks headings is_unnested unnested_names is_heading
made_col t e = record { in_table = e; makes = rw e refl; kept = rw e refl; kept_inside = refl; last = λ l. refl; no_block_in_p = λ path. refl; not_nested = λ path. refl }

made_tr : (t : List ℕ) → t ≡ table → StartIsMade tbody tr t
unfolding made_under is_closed_by_start closed_by_start_rows parts is_among start_tag_optional_before start_rows is_block_in_p is_nested closes_p paragraph_ends blocks headings is_unnested unnested_names is_heading
made_tr t e = record { in_table = e; makes = rw e refl; kept = rw e refl; kept_inside = refl; last = λ l. refl; no_block_in_p = λ path. refl; not_nested = λ path. refl }

pub start_is_made : (n k t : List ℕ) (g : Option (List ℕ)) → may_stand n t g ≡ true → start_tag_optional_before n k ≡ true → StartIsMade n k t
unfolding is_among
start_is_made n k t g h before =
    elim (start_cases n k before) [
      | inl (c, d) ↦ rw (c, d) (made_col t ((stands_parent n t g h).in_table (rw c refl)))
      | inr (c, d) ↦ rw (c, d) (made_tr t ((stands_parent n t g h).in_table (rw c refl)))
    ]

pub svg_is_plain : SvgIsPlain
unfolding is_tag_name is_small is_tag_byte is_digit_of is_refused refused_names is_block_in_p is_nested closes_p paragraph_ends blocks headings is_unnested unnested_names is_heading is_void voids is_root roots is_among
svg_is_plain = record { name = refl; known = refl; no_block_in_p = λ path. refl; not_nested = λ path. refl; not_void = refl; not_root = refl }

no_svg_after : each_pair (λ c k. not (bytes_eq k svg)) closed_by_start_rows ≡ true
unfolding closed_by_start_rows paragraph_ends blocks headings parts is_among
no_svg_after = refl

no_svg_in_colgroup : (g : Option (List ℕ)) → may_stand svg colgroup g ≡ false
unfolding may_stand children sections rcdata_names raw_names voids is_among
no_svg_in_colgroup g = refl

pub svg_is_kept : (t : List ℕ) (g : Option (List ℕ)) → may_stand svg t g ≡ true → is_closed_by_start t svg ≡ false
unfolding is_closed_by_start
svg_is_kept t g h = by_colgroup (bytes_eq t colgroup) refl
  where
    never : bytes_eq t colgroup ≡ true → ⊥
    never e = both_ways (may_stand svg t g) (rw (same_bytes t colgroup e) (no_svg_in_colgroup g)) h

    by_colgroup : (b : Bool) → bytes_eq t colgroup ≡ b → cond b true (is_pair closed_by_start_rows t svg) ≡ false
    by_colgroup true e = absurd (never e)
    by_colgroup false e = false_from_ne_true (is_pair closed_by_start_rows t svg) (λ k. both_ways (bytes_eq svg svg) (not-true (bytes_eq svg svg) (pair_passes (λ c n. not (bytes_eq n svg)) t svg closed_by_start_rows no_svg_after k)) refl)

abbrev pub holds_more : List ℕ → Bool
holds_more c = not (holds_text c) && not (is_void c)

pub holds_more_means : (c : List ℕ) → holds_more c ≡ true → HoldsMore c
holds_more_means c h = let two = and_parts (not (holds_text c)) (not (is_void c)) h in record { no_text = not-true (holds_text c) two.0; not_void = not-true (is_void c) two.1 }

ordinary_holds : (t : List ℕ) → find t children ≡ None → holds_more t ≡ true
unfolding children sections holds_text is_raw raw_names is_rcdata rcdata_names is_void voids is_among
ordinary_holds t alone = rw (no_head t (raw_names ++ script ∷ []) children alone refl, no_head t rcdata_names children alone refl, no_head t voids children alone refl) refl

parent_holds : HoldsInTables (λ c t. holds_more t)
unfolding children noscript_children own_parents sections holds_text is_raw raw_names is_rcdata rcdata_names is_void voids is_among
parent_holds = record {
  children_pass = refl;
  noscript_passes = refl;
  own_parents_pass = refl;
  div_passes = refl;
  ordinary_passes = λ n t alone none not_in. ordinary_holds t alone;
}

-- an element in which another stands
pub stands_parent_holds : (n t : List ℕ) (g : Option (List ℕ)) → may_stand n t g ≡ true → HoldsMore t
stands_parent_holds n t g h = holds_more_means t (stands_passes (λ c t'. holds_more t') parent_holds n t g h)

pub outer_is_not_deep : (e : Element) (path : List Element) → is_deep (e ∷ path) ≡ false → is_deep path ≡ false
unfolding is_deep
outer_is_not_deep e path h = let l : suc (length path) ≤ DEPTH_LIMIT = ltb-false DEPTH_LIMIT (suc (length path)) h in le-ltb DEPTH_LIMIT (length path) (omega arith)
