-- Each table of pairs says what its definition says.
use Rattle.std.proofs.Common.{◌≡◌, ℕ, ◌<◌, Bool, true, false, not, cond, ◌||◌, ◌&&◌, if◌then◌else◌, List, [], ◌∷◌, map, codes, bytes_eq, refl, sym, ap, ◌∙◌, lit<, Option, Some, None}
use Rattle.std.specs.List.{list_all}
use Rattle.std.specs.Option.{is_some}
use Rattle.std.proofs.lemmas.Bool.{and_parts, false_from_ne_true, both_ways}
use Rattle.hm_elements.specs.declared.names.TheConstants.{NAME_COUNT}
use Rattle.hm_elements.specs.declared.rows.TheConstants.{CLOSED_CLASSES, CLOSED_MASKS, END_CLASSES, END_MASKS, PARENT_CLASSES, PARENT_MASKS, BEFORE_CLASSES, BEFORE_MASKS, INSIDE_CLASSES, INSIDE_MASKS}
use Rattle.hm_elements.specs.Names.{words, is_among, PairRow, find, is_among_found, is_pair, colgroup, col, p, option, head, noscript, div, dl}
use Rattle.hm_elements.specs.Tables.{headings, blocks, parts, sections, paragraph_ends, rcdata_names, raw_names, voids}
use Rattle.hm_elements.specs.Nesting.{closed_by_start_rows, is_closed_by_start, end_rows, is_ended_by, children, own_parents, bound_names, noscript_children, is_name, stands_by_parents, stands_by_children, may_stand}
use Rattle.hm_elements.specs.Numbers.{names, number_of, text_of}
use Rattle.hm_elements.specs.Omission.{before_rows, end_tag_optional_before, up_names, up_of_p, end_tag_optional_in}
use Rattle.hm_elements.specs.Rows.{flags, listed_at, bit_at, is_told, stands_in}
use Rattle.hm_elements.proofs.PairFacts.{IsTable, first, told, pair_named}
use Rattle.hm_elements.proofs.FlagFacts.{flag_named}
use Rattle.hm_elements.proofs.TableTools.{same_bytes, eq_self, entry_passes, not_among, none_among, each_pair, pair_passes}

-- ---- A name without a number is in no row

abbrev all_named : List (List ℕ) → Bool
all_named ms = list_all (λ m. is_among m names) ms

abbrev heads_named : List PairRow → Bool
heads_named [] = true
heads_named (r ∷ rs) = all_named r.heads && heads_named rs

no_row : (n : List ℕ) (rows : List PairRow) → is_among n names ≡ false → heads_named rows ≡ true → find n rows ≡ None
no_row n [] e all = refl
no_row n (r ∷ rs) e all =
    let both = and_parts (all_named r.heads) (heads_named rs) all in
    rw (none_among n r.heads names e both.0) (no_row n rs e both.1)

-- the second names of the rows have numbers, and are not empty
abbrev next_named : List PairRow → Bool
next_named rows = each_pair (λ a b. is_among b names && not (bytes_eq [] b)) rows

no_pair : (rows : List PairRow) (n m : List ℕ) → is_among m names ≡ false → next_named rows ≡ true → is_pair rows n m ≡ false
no_pair rows n m e all = false_from_ne_true (is_pair rows n m) (λ h. both_ways (is_among m names) e (and_parts (is_among m names) (not (bytes_eq [] m)) (pair_passes (λ a b. is_among b names && not (bytes_eq [] b)) n m rows all h)).0)

no_empty : (rows : List PairRow) (n : List ℕ) → next_named rows ≡ true → is_pair rows n [] ≡ false
no_empty rows n all = false_from_ne_true (is_pair rows n []) (λ h. both_ways false refl (and_parts (is_among [] names) (not (bytes_eq [] [])) (pair_passes (λ a b. is_among b names && not (bytes_eq [] b)) n [] rows all h)).1)

colgroup_named : is_among colgroup names ≡ true
unfolding names is_among
colgroup_named = refl

col_named : is_among col names ≡ true
unfolding names is_among
col_named = refl

-- ---- Tables of rows, and what colgroup is asked in place of a row

abbrev with_colgroup : List PairRow → (List ℕ → Bool) → List ℕ → List ℕ → Bool
with_colgroup rows own a n = if bytes_eq a colgroup then own n else is_pair rows a n

abbrev colgroup_row : List PairRow → List ℕ → Bool × Option (List (List ℕ))
colgroup_row rows a = (bytes_eq a colgroup, find a rows)

asked_by_row : (rows : List PairRow) (own : List ℕ → Bool) (a b n : List ℕ) → colgroup_row rows a ≡ colgroup_row rows b → with_colgroup rows own a n ≡ with_colgroup rows own b n
asked_by_row rows own a b n e =
    let c : bytes_eq a colgroup ≡ bytes_eq b colgroup = ap (λ x. x.0) e in
    let f : find a rows ≡ find b rows = ap (λ x. x.1) e in
    rw (c, f) refl

other_row : (rows : List PairRow) (a : List ℕ) → heads_named rows ≡ true → find [] rows ≡ None → is_among a names ≡ false → colgroup_row rows [] ≡ colgroup_row rows a
other_row rows a all none e = rw (none, not_among a colgroup names e colgroup_named, no_row a rows e all) refl

other_next : (rows : List PairRow) (own : List ℕ → Bool) (a n : List ℕ) → next_named rows ≡ true → is_among n names ≡ false → own [] ≡ own n → with_colgroup rows own a [] ≡ with_colgroup rows own a n
other_next rows own a n all e same = rw (same, no_empty rows a all, no_pair rows a n e all) refl

-- ---- What closes before a start tag

yield_heads : heads_named closed_by_start_rows ≡ true
unfolding closed_by_start_rows names is_among
yield_heads = refl

yield_nexts : next_named closed_by_start_rows ≡ true
unfolding closed_by_start_rows paragraph_ends blocks headings parts names is_among
yield_nexts = refl

yield_table : IsTable (Bool × Option (List (List ℕ))) (colgroup_row closed_by_start_rows) is_closed_by_start 11 CLOSED_CLASSES CLOSED_MASKS
unfolding names first text_of is_closed_by_start closed_by_start_rows parts headings blocks paragraph_ends is_among bit_at
yield_table = record { by_row = asked_by_row closed_by_start_rows (λ n. not (bytes_eq n col)); other_row = λ a e. other_row closed_by_start_rows a yield_heads refl e; other_next = λ a n e. other_next closed_by_start_rows (λ m. not (bytes_eq m col)) a n yield_nexts e (ap not (sym (not_among n col names e col_named))); same_rows = refl; bits = refl; below = refl; some = lit< tt; classes_many = refl; masks_many = refl }

pub yields_told : (cs ms : List ℕ) (i j : ℕ) → cs ≡ CLOSED_CLASSES → ms ≡ CLOSED_MASKS → i < NAME_COUNT → j < NAME_COUNT → is_told cs ms i j ≡ is_closed_by_start (text_of i) (text_of j)
yields_told = told (colgroup_row closed_by_start_rows) is_closed_by_start 11 CLOSED_CLASSES CLOSED_MASKS yield_table

pub yields_named : (a b : List ℕ) → is_closed_by_start (text_of (number_of a)) (text_of (number_of b)) ≡ is_closed_by_start a b
yields_named = pair_named (colgroup_row closed_by_start_rows) is_closed_by_start 11 CLOSED_CLASSES CLOSED_MASKS yield_table

-- ---- Before which start tags an end tag may be left out

before_heads : heads_named before_rows ≡ true
unfolding before_rows names is_among
before_heads = refl

before_nexts : next_named before_rows ≡ true
unfolding before_rows sections blocks headings names is_among
before_nexts = refl

before_table : IsTable (Bool × Option (List (List ℕ))) (colgroup_row before_rows) end_tag_optional_before 12 BEFORE_CLASSES BEFORE_MASKS
unfolding names first text_of end_tag_optional_before before_rows sections headings blocks is_among bit_at
before_table = record { by_row = asked_by_row before_rows (λ n. true); other_row = λ a e. other_row before_rows a before_heads refl e; other_next = λ a n e. other_next before_rows (λ m. true) a n before_nexts e refl; same_rows = refl; bits = refl; below = refl; some = lit< tt; classes_many = refl; masks_many = refl }

pub before_told : (cs ms : List ℕ) (i j : ℕ) → cs ≡ BEFORE_CLASSES → ms ≡ BEFORE_MASKS → i < NAME_COUNT → j < NAME_COUNT → is_told cs ms i j ≡ end_tag_optional_before (text_of i) (text_of j)
before_told = told (colgroup_row before_rows) end_tag_optional_before 12 BEFORE_CLASSES BEFORE_MASKS before_table

pub before_named : (a b : List ℕ) → end_tag_optional_before (text_of (number_of a)) (text_of (number_of b)) ≡ end_tag_optional_before a b
before_named = pair_named (colgroup_row before_rows) end_tag_optional_before 12 BEFORE_CLASSES BEFORE_MASKS before_table

-- ---- What ends with an end tag

abbrev end_row : List ℕ → Option (List (List ℕ))
end_row a = find a end_rows

end_heads : heads_named end_rows ≡ true
unfolding end_rows names is_among
end_heads = refl

end_nexts : next_named end_rows ≡ true
unfolding end_rows sections blocks headings names is_among
end_nexts = refl

end_table : IsTable (Option (List (List ℕ))) end_row is_ended_by 10 END_CLASSES END_MASKS
unfolding names first text_of is_ended_by end_rows sections headings blocks is_among bit_at
end_table = record { by_row = λ a b n e. ap (is_among_found n) e; other_row = λ a e. sym (no_row a end_rows e end_heads); other_next = λ a n e. no_empty end_rows a end_nexts ∙ sym (no_pair end_rows a n e end_nexts); same_rows = refl; bits = refl; below = refl; some = lit< tt; classes_many = refl; masks_many = refl }

pub ends_told : (cs ms : List ℕ) (i j : ℕ) → cs ≡ END_CLASSES → ms ≡ END_MASKS → i < NAME_COUNT → j < NAME_COUNT → is_told cs ms i j ≡ is_ended_by (text_of i) (text_of j)
ends_told = told end_row is_ended_by 10 END_CLASSES END_MASKS end_table

pub ends_named : (a b : List ℕ) → is_ended_by (text_of (number_of a)) (text_of (number_of b)) ≡ is_ended_by a b
ends_named = pair_named end_row is_ended_by 10 END_CLASSES END_MASKS end_table

-- ---- At the end of which parents an end tag may be left out

abbrev inside_row : List ℕ → Bool × (Bool × Bool)
inside_row a = (bytes_eq a p, (bytes_eq a option, is_among a up_names))

inside_by_row : (a b n : List ℕ) → inside_row a ≡ inside_row b → end_tag_optional_in a n ≡ end_tag_optional_in b n
unfolding end_tag_optional_in
inside_by_row a b n e =
    let c : bytes_eq a p ≡ bytes_eq b p = ap (λ x. x.0) e in
    let d : bytes_eq a option ≡ bytes_eq b option = ap (λ x. x.1.0) e in
    let f : is_among a up_names ≡ is_among b up_names = ap (λ x. x.1.1) e in
    rw (c, d, f) refl

up_named : all_named up_names ≡ true
unfolding up_names names is_among
up_named = refl

up_of_p_named : all_named up_of_p ≡ true
unfolding up_of_p blocks headings names is_among
up_of_p_named = refl

p_named : is_among p names ≡ true
unfolding names is_among
p_named = refl

option_named : is_among option names ≡ true
unfolding names is_among
option_named = refl

datalist_named : is_among (codes "datalist") names ≡ true
unfolding names is_among
datalist_named = refl

other_inside_row : (a : List ℕ) → is_among a names ≡ false → inside_row [] ≡ inside_row a
unfolding up_names is_among
other_inside_row a e = rw (not_among a p names e p_named, not_among a option names e option_named, none_among a up_names names e up_named) refl

up_of_p_filled : is_among [] up_of_p ≡ false
unfolding up_of_p blocks headings is_among
up_of_p_filled = refl

inside_other : (a n : List ℕ) → is_among n names ≡ false → end_tag_optional_in a [] ≡ end_tag_optional_in a n
unfolding end_tag_optional_in
inside_other a n e = rw (up_of_p_filled, none_among n up_of_p names e up_of_p_named, not_among n (codes "datalist") names e datalist_named) refl

inside_table : IsTable (Bool × (Bool × Bool)) inside_row end_tag_optional_in 4 INSIDE_CLASSES INSIDE_MASKS
unfolding names first text_of end_tag_optional_in up_names up_of_p headings blocks is_among bit_at
inside_table = record { by_row = inside_by_row; other_row = other_inside_row; other_next = inside_other; same_rows = refl; bits = refl; below = refl; some = lit< tt; classes_many = refl; masks_many = refl }

pub inside_told : (cs ms : List ℕ) (i j : ℕ) → cs ≡ INSIDE_CLASSES → ms ≡ INSIDE_MASKS → i < NAME_COUNT → j < NAME_COUNT → is_told cs ms i j ≡ end_tag_optional_in (text_of i) (text_of j)
inside_told = told inside_row end_tag_optional_in 4 INSIDE_CLASSES INSIDE_MASKS inside_table

pub inside_named : (a b : List ℕ) → end_tag_optional_in (text_of (number_of a)) (text_of (number_of b)) ≡ end_tag_optional_in a b
inside_named = pair_named inside_row end_tag_optional_in 4 INSIDE_CLASSES INSIDE_MASKS inside_table

-- ---- Which elements stand in a parent, if what is around it says nothing more

abbrev parent_row : List ℕ → Option (List (List ℕ)) × List Bool
parent_row a = (find a children, map (λ r. is_among a r.names) own_parents)

found_alike : (rows : List PairRow) (n a b : List ℕ) → map (λ r. is_among a r.names) rows ≡ map (λ r. is_among b r.names) rows → is_among_found a (find n rows) ≡ is_among_found b (find n rows)
found_alike [] n a b e = refl
found_alike (r ∷ rs) n a b e =
    let here : is_among a r.names ≡ is_among b r.names = cc in
    let there : map (λ r'. is_among a r'.names) rs ≡ map (λ r'. is_among b r'.names) rs = cc in
    by (is_among n r.heads) here (found_alike rs n a b there)
  where
    by : (c : Bool) → is_among a r.names ≡ is_among b r.names → is_among_found a (find n rs) ≡ is_among_found b (find n rs) → is_among_found a (cond c (Some r.names) (find n rs)) ≡ is_among_found b (cond c (Some r.names) (find n rs))
    by true here there = here
    by false here there = there

nothing_more : (a b : Bool) → a && (b && false) ≡ false
nothing_more true true = refl
nothing_more true false = refl
nothing_more false b = refl

own_alike : (o : Option (List (List ℕ))) (n a b : List ℕ) → is_among_found a o ≡ is_among_found b o → stands_by_parents o n a None ≡ stands_by_parents o n b None
own_alike None n a b e = refl
own_alike (Some ps) n a b e = rw (e, nothing_more (is_among n (words "dt dd")) (bytes_eq a div), nothing_more (is_among n (words "dt dd")) (bytes_eq b div)) refl

row_alike : (o : Option (List (List ℕ))) (n a b : List ℕ) → stands_by_parents (find n own_parents) n a None ≡ stands_by_parents (find n own_parents) n b None → stands_by_children o n a None ≡ stands_by_children o n b None
row_alike None n a b e = e
row_alike (Some ns) n a b e = refl

stands_by_row : (a b n : List ℕ) → parent_row a ≡ parent_row b → stands_in a n ≡ stands_in b n
unfolding stands_in
stands_by_row a b n e =
    let f : find a children ≡ find b children = ap (λ x. x.0) e in
    let g : map (λ r. is_among a r.names) own_parents ≡ map (λ r. is_among b r.names) own_parents = ap (λ x. x.1) e in
    rw f (row_alike (find b children) n a b (own_alike (find n own_parents) n a b (found_alike own_parents n a b g)))

child_heads : heads_named children ≡ true
unfolding children rcdata_names raw_names voids names is_among
child_heads = refl

child_nexts : next_named children ≡ true
unfolding children rcdata_names raw_names voids names is_among
child_nexts = refl

parent_heads : heads_named own_parents ≡ true
unfolding own_parents names is_among
parent_heads = refl

parents_named : list_all (λ r. all_named r.names) own_parents ≡ true
unfolding own_parents names is_among
parents_named = refl

bound_named : all_named bound_names ≡ true
unfolding bound_names parts names is_among
bound_named = refl

none_of_rows : (rows : List PairRow) (a : List ℕ) → is_among a names ≡ false → list_all (λ r. all_named r.names) rows ≡ true → map (λ r. is_among a r.names) rows ≡ map (λ r. false) rows
none_of_rows [] a e all = refl
none_of_rows (r ∷ rs) a e all =
    let both = and_parts (all_named r.names) (list_all (λ r'. all_named r'.names) rs) all in
    rw (none_among a r.names names e both.0, none_of_rows rs a e both.1) refl

empty_parent_row : parent_row [] ≡ (None, map (λ r. false) own_parents)
unfolding children own_parents rcdata_names raw_names voids is_among
empty_parent_row = refl

other_parent_row : (a : List ℕ) → is_among a names ≡ false → parent_row [] ≡ parent_row a
other_parent_row a e = rw (empty_parent_row, no_row a children e child_heads, none_of_rows own_parents a e parents_named) refl

no_empty_parents : find [] own_parents ≡ None
unfolding own_parents is_among
no_empty_parents = refl

unbound_empty : is_among [] bound_names ≡ false
unfolding bound_names parts is_among
unbound_empty = refl

stands_other : (a n : List ℕ) → is_among n names ≡ false → stands_in a [] ≡ stands_in a n
unfolding stands_in
stands_other a n e = by (find a children) (no_empty children a child_nexts ∙ sym (no_pair children a n e child_nexts))
  where
    by : (o : Option (List (List ℕ))) → is_among_found [] o ≡ is_among_found n o → stands_by_children o [] a None ≡ stands_by_children o n a None
    by (Some ns) h = h
    by None h = rw (no_empty_parents, no_row n own_parents e parent_heads, unbound_empty, none_among n bound_names names e bound_named) refl

parent_table : IsTable (Option (List (List ℕ)) × List Bool) parent_row stands_in 13 PARENT_CLASSES PARENT_MASKS
unfolding names first text_of stands_in children own_parents bound_names parts rcdata_names raw_names voids is_among bit_at
parent_table = record { by_row = stands_by_row; other_row = other_parent_row; other_next = stands_other; same_rows = refl; bits = refl; below = refl; some = lit< tt; classes_many = refl; masks_many = refl }

pub stands_told : (cs ms : List ℕ) (i j : ℕ) → cs ≡ PARENT_CLASSES → ms ≡ PARENT_MASKS → i < NAME_COUNT → j < NAME_COUNT → is_told cs ms i j ≡ stands_in (text_of i) (text_of j)
stands_told = told parent_row stands_in 13 PARENT_CLASSES PARENT_MASKS parent_table

pub stands_named : (a b : List ℕ) → stands_in (text_of (number_of a)) (text_of (number_of b)) ≡ stands_in a b
stands_named = pair_named parent_row stands_in 13 PARENT_CLASSES PARENT_MASKS parent_table

-- ---- The same with what is around the parent

one_of : (n m : List ℕ) → is_among n (m ∷ []) ≡ bytes_eq n m
unfolding is_among
one_of n m = by (bytes_eq m n) refl
  where
    by : (b : Bool) → bytes_eq m n ≡ b → b || false ≡ bytes_eq n m
    by true e = let is : m ≡ n = same_bytes m n e in rw (is, eq_self n) refl
    by false e = sym (false_from_ne_true (bytes_eq n m) (λ k. both_ways (bytes_eq m n) e (let is : n ≡ m = same_bytes n m k in rw (is, eq_self m) refl)))

pub is_noscript : (k : ℕ) → is_among (text_of k) (listed_at 22) ≡ bytes_eq (text_of k) noscript
unfolding listed_at flags
is_noscript k = one_of (text_of k) noscript

pub is_div : (k : ℕ) → is_among (text_of k) (listed_at 23) ≡ bytes_eq (text_of k) div
unfolding listed_at flags
is_div k = one_of (text_of k) div

same_noscript : (n : List ℕ) → bytes_eq (text_of (number_of n)) noscript ≡ bytes_eq n noscript
unfolding listed_at flags
same_noscript n = sym (is_noscript (number_of n)) ∙ flag_named 22 n ∙ one_of n noscript

same_div : (n : List ℕ) → bytes_eq (text_of (number_of n)) div ≡ bytes_eq n div
unfolding listed_at flags
same_div n = sym (is_div (number_of n)) ∙ flag_named 23 n ∙ one_of n div

same_children : (n : List ℕ) → is_among (text_of (number_of n)) noscript_children ≡ is_among n noscript_children
unfolding listed_at flags
same_children n = flag_named 21 n

same_description : (n : List ℕ) → is_among (text_of (number_of n)) (words "dt dd") ≡ is_among n (words "dt dd")
unfolding listed_at flags
same_description n = flag_named 24 n

-- what is around the parent says nothing more, except that noscript may be in head, and div in dl
abbrev pub stands : Bool → Bool → Bool → Bool → Bool → Bool
stands in_head script_child plain in_dl description = if in_head then script_child else plain || (in_dl && description)

no_div_row : find div children ≡ None
unfolding children rcdata_names raw_names voids is_among
no_div_row = refl

descriptions_have : list_all (λ m. is_some (find m own_parents)) (words "dt dd") ≡ true
unfolding own_parents is_among
descriptions_have = refl

by_own : (n t : List ℕ) (g : Option (List ℕ)) (o : Option (List (List ℕ))) → find n own_parents ≡ o → stands_by_parents o n t g ≡ stands_by_parents o n t None || ((bytes_eq t div && is_name dl g) && is_among n (words "dt dd"))
by_own n t g (Some ps) e = by (is_among t ps) (is_among n (words "dt dd")) (bytes_eq t div) (is_name dl g)
  where
    by : (a d v i : Bool) → a || (d && (v && i)) ≡ (a || (d && (v && false))) || ((v && i) && d)
    by true d v i = refl
    by false true true true = refl
    by false true true false = refl
    by false true false i = refl
    by false false true true = refl
    by false false true false = refl
    by false false false i = refl
by_own n t g None e = rw (false_from_ne_true (is_among n (words "dt dd")) listed) (by (not (is_among n bound_names)) (bytes_eq t div) (is_name dl g))
  where
    listed : is_among n (words "dt dd") ≡ true → ⊥
    listed k = both_ways (is_some (find n own_parents)) (rw e refl) (entry_passes (λ m. is_some (find m own_parents)) n (words "dt dd") descriptions_have k)

    by : (a v i : Bool) → a ≡ a || ((v && i) && false)
    by true v i = refl
    by false true true = refl
    by false true false = refl
    by false false i = refl

by_children : (n t : List ℕ) (g : Option (List ℕ)) (o : Option (List (List ℕ))) → find t children ≡ o → stands_by_children o n t g ≡ stands_by_children o n t None || ((bytes_eq t div && is_name dl g) && is_among n (words "dt dd"))
by_children n t g (Some ns) e = rw (false_from_ne_true (bytes_eq t div) no_div) (by (is_among n ns))
  where
    no_div : bytes_eq t div ≡ true → ⊥
    no_div d = let is : find div children ≡ Some ns = sym (ap (λ x. find x children) (same_bytes t div d)) ∙ e in both_ways (is_some (find div children)) (rw no_div_row refl) (rw is refl)

    by : (a : Bool) → a ≡ a || false
    by true = refl
    by false = refl
by_children n t g None e = by_own n t g (find n own_parents) refl

pub may_stand_by : (n t : List ℕ) (g : Option (List ℕ)) → may_stand n t g ≡ stands (bytes_eq t noscript && is_name head g) (is_among n noscript_children) (stands_in t n) (bytes_eq t div && is_name dl g) (is_among n (words "dt dd"))
unfolding may_stand stands_in
may_stand_by n t g = ap (λ b. if bytes_eq t noscript && is_name head g then is_among n noscript_children else b) (by_children n t g (find t children) refl)

pub may_stand_named : (n t : List ℕ) (g : Option (List ℕ)) → may_stand (text_of (number_of n)) (text_of (number_of t)) g ≡ may_stand n t g
may_stand_named n t g =
    may_stand_by (text_of (number_of n)) (text_of (number_of t)) g
    ∙ rw (same_noscript t, same_children n, stands_named t n, same_div t, same_description n) (sym (may_stand_by n t g))
