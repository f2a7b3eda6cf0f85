-- The members of an object that was read stand in the byte order of their keys, and those that pass are names of a table.
use Rattle.std.proofs.Common.{◌≡◌, ℕ, Bool, true, false, cond, List, [], ◌∷◌, Option, Some, None, option_map, option_and_then, is_some, Ok, Err, Ordering, Less, Equal, Greater, refl, sym, ap, ◌∙◌, subst, nat_lt, length, codes}
use Rattle.std.proofs.lemmas.Cmp.{nat_list_cmp_total}
use Rattle.std.specs.Ordering.{nat_cmp, match_ordering, ordering_reverse}
use Rattle.std.specs.Cmp.Lexicographic.{slice_cmp}
use Rattle.std.specs.List.{AllByRecursion, list_all}
use Rattle.std.specs.List.Sorted.{IsStrictlySortedBy}
use Rattle.std.specs.Str.{is_utf8}
use Rattle.json.specs.Json as json
use Rattle.serde_json.specs.Data.{Num, Data, null, boolean, number, string, array, object, Items, no_items, item, Members, no_members, member, put}
use Rattle.json.specs.Lex.{tokens}
use Rattle.serde_json.specs.Read.{number_of, of_json, of_items, of_members, max_depth, read}
use Rattle.serde_json.specs.Find.{as_object, as_array, as_number, as_u64, get}
use Rattle.hm_base.specs.declared.limits.TheConstants.{TABLE_LIMIT}
use Rattle.hm_refs.specs.Names.{Entry, is_good_name}
use Rattle.hm_refs.specs.Tables.{is_point, are_points, names_in, IsTable, IsGathered}
use Rattle.hm_refs.specs.Json as refs
use Rattle.hm_refs.specs.Json.{if_point, point_in, points_in, codepoints, entries_in, first_bad_name, first_bad_points, keys_in, unless, checked, names_of_members, names_of_object, names_of_data, names}
use Rattle.hm_refs.specs.declared.fault.TableFault.TheVariants.{TooLong, BadName, BadPoints}
use Rattle.hm_refs.proofs.Gathered.{checked_table}

abbrev pub text_cmp : List ℕ → List ℕ → Ordering
text_cmp = slice_cmp nat_cmp

abbrev Above : List ℕ → Members → Type 0
Above k ms = AllByRecursion (λ l. text_cmp k l ≡ Less) (keys_in ms)

abbrev pub Ascends : Members → Type 0
Ascends ms = IsStrictlySortedBy text_cmp (keys_in ms)

turned : (k l : List ℕ) → text_cmp k l ≡ Greater → text_cmp l k ≡ Less
turned k l h = nat_list_cmp_total.antisymm l k ∙ ap ordering_reverse h

above_more : (k l : List ℕ) → text_cmp k l ≡ Less → (ms : Members) → Above l ms → Above k ms
above_more k l h no_members a = tt
above_more k l h (member m d ms) a = (nat_list_cmp_total.trans k l m h a.0, above_more k l h ms a.1)

-- what is above stays above
above_put : (k n : List ℕ) (d : Data) (ms : Members) → text_cmp n k ≡ Less → Above n ms → Above n (put k d ms)
above_put k n d no_members h a = (h, tt)
above_put k n d (member l e ms) h a = by_order (text_cmp k l) (above_put k n d ms h a.1)
  where
    by_order : (o : Ordering) → Above n (put k d ms) → Above n (match_ordering o (member k d (member l e ms)) (member l d ms) (member l e (put k d ms)))
    by_order Less more = (h, a)
    by_order Equal more = a
    by_order Greater more = (a.0, more)

pub put_ascends : (k : List ℕ) (d : Data) (ms : Members) → Ascends ms → Ascends (put k d ms)
unfolding IsStrictlySortedBy
put_ascends k d no_members h = (tt, tt)
put_ascends k d (member l e ms) h = by_order (text_cmp k l) refl (put_ascends k d ms h.1)
  where
    by_order : (o : Ordering) → text_cmp k l ≡ o → Ascends (put k d ms) → Ascends (match_ordering o (member k d (member l e ms)) (member l d ms) (member l e (put k d ms)))
    by_order Less i more = ((i, above_more k l i ms h.0), h)
    by_order Equal i more = h
    by_order Greater i more = (above_put k l d ms (turned k l i) h.0, more)

of_members_ascend : (js : json.Members) (found ms : Members) → Ascends found → of_members js found ≡ Some ms → Ascends ms
of_members_ascend json.no_members found ms h e = let i : found ≡ ms = cc in subst Ascends i h
of_members_ascend (json.member k j js) found ms h e = by_value (of_json j) (λ d. of_members_ascend js (put k d found) ms (put_ascends k d found h)) e
  where
    by_value : (o : Option Data) → ((d : Data) → of_members js (put k d found) ≡ Some ms → Ascends ms) → option_and_then (λ d. of_members js (put k d found)) o ≡ Some ms → Ascends ms
    by_value None more i = absurd (cc)
    by_value (Some d) more i = more d i

nothing_ascends : Ascends no_members
unfolding IsStrictlySortedBy
nothing_ascends = tt

no_object : (c d : Data) (ms : Members) → as_object c ≡ None → c ≡ d → as_object d ≡ Some ms → ⊥
no_object c d ms n e f = let g : as_object c ≡ Some ms = rw e f in cc

of_json_ascend : (j : json.Json) (d : Data) (ms : Members) → of_json j ≡ Some d → as_object d ≡ Some ms → Ascends ms
of_json_ascend json.null d ms e f = absurd (no_object null d ms refl (cc) f)
of_json_ascend (json.boolean b) d ms e f = absurd (no_object (boolean b) d ms refl (cc) f)
of_json_ascend (json.number s) d ms e f = by_number (number_of s) e
  where
    by_number : (o : Option Num) → option_map number o ≡ Some d → Ascends ms
    by_number None i = absurd (cc)
    by_number (Some n) i = absurd (no_object (number n) d ms refl (cc) f)
of_json_ascend (json.string s) d ms e f = absurd (no_object (string s) d ms refl (cc) f)
of_json_ascend (json.array js) d ms e f = by_items (of_items js) e
  where
    by_items : (o : Option Items) → option_map array o ≡ Some d → Ascends ms
    by_items None i = absurd (cc)
    by_items (Some ds) i = absurd (no_object (array ds) d ms refl (cc) f)
of_json_ascend (json.object js) d ms e f = by_members (of_members js no_members) refl e
  where
    by_members : (o : Option Members) → of_members js no_members ≡ o → option_map object o ≡ Some d → Ascends ms
    by_members None i k = absurd (cc)
    by_members (Some ns) i k =
        let m : object ns ≡ d = cc in
        let g : as_object (object ns) ≡ Some ms = subst (λ x. as_object x ≡ Some ms) (sym m) f in
        let n : ns ≡ ms = cc in
        of_members_ascend js no_members ms nothing_ascends (i ∙ ap Some n)

-- the keys of an object that was read ascend, so that the first of some keys is the least
pub members_ascend : (text : List ℕ) (d : Data) (ms : Members) → read text ≡ Some d → as_object d ≡ Some ms → IsStrictlySortedBy (slice_cmp nat_cmp) (keys_in ms)
members_ascend text d ms h f = by_json (option_and_then (λ p. json.if_last p.0 p.1) (json.value max_depth (tokens text))) h
  where
    by_json : (o : Option json.Json) → option_and_then of_json o ≡ Some d → Ascends ms
    by_json None i = absurd (cc)
    by_json (Some j) i = of_json_ascend j d ms i f

pub json_ascends : (bytes : List ℕ) (d : Data) (ms : Members) → refs.json bytes ≡ Some d → as_object d ≡ Some ms → IsStrictlySortedBy (slice_cmp nat_cmp) (keys_in ms)
unfolding refs.json
json_ascends bytes d ms h f = by_test (is_utf8 bytes) h
  where
    by_test : (b : Bool) → cond b (read bytes) None ≡ Some d → Ascends ms
    by_test true i = members_ascend bytes d ms i f
    by_test false i = absurd (cc)

-- ---- what passes is a table

if_point_is : (n p : ℕ) → if_point n ≡ Some p → is_point p ≡ true
if_point_is n p h = by_test (is_point n) refl h
  where
    by_test : (b : Bool) → is_point n ≡ b → cond b (Some n) None ≡ Some p → is_point p ≡ true
    by_test true e k = let i : n ≡ p = cc in subst (λ m. is_point m ≡ true) i e
    by_test false e k = absurd (cc)

point_is : (d : Data) (p : ℕ) → point_in d ≡ Some p → is_point p ≡ true
point_is d p h = by_number (option_and_then as_u64 (as_number d)) h
  where
    by_number : (o : Option ℕ) → option_and_then if_point o ≡ Some p → is_point p ≡ true
    by_number None k = absurd (cc)
    by_number (Some n) k = if_point_is n p k

points_are : (ds : Items) (ps : List ℕ) → points_in ds ≡ Some ps → are_points ps ≡ true
points_are no_items ps h = absurd (cc)
points_are (item a no_items) ps h = by_point (point_in a) refl h
  where
    by_point : (o : Option ℕ) → point_in a ≡ o → option_map (λ p. p ∷ []) o ≡ Some ps → are_points ps ≡ true
    by_point None e k = absurd (cc)
    by_point (Some p) e k = let i : p ∷ [] ≡ ps = cc in subst (λ qs. are_points qs ≡ true) i (point_is a p e)
points_are (item a (item b no_items)) ps h = by_first (point_in a) refl h
  where
    by_second : (p : ℕ) → is_point p ≡ true → (o : Option ℕ) → point_in b ≡ o → option_map (λ q. p ∷ q ∷ []) o ≡ Some ps → are_points ps ≡ true
    by_second p i None e k = absurd (cc)
    by_second p i (Some q) e k = let j : p ∷ q ∷ [] ≡ ps = cc in subst (λ qs. are_points qs ≡ true) j (rw (i, point_is b q e) refl)

    by_first : (o : Option ℕ) → point_in a ≡ o → option_and_then (λ p. option_map (λ q. p ∷ q ∷ []) (point_in b)) o ≡ Some ps → are_points ps ≡ true
    by_first None e k = absurd (cc)
    by_first (Some p) e k = by_second p (point_is a p e) (point_in b) refl k
points_are (item a (item b (item c ds))) ps h = absurd (cc)

codepoints_are : (d : Data) (ps : List ℕ) → codepoints d ≡ Some ps → are_points ps ≡ true
unfolding codepoints
codepoints_are d ps h = by_items (option_and_then as_array (get (codes "codepoints") d)) h
  where
    by_items : (o : Option Items) → option_and_then points_in o ≡ Some ps → are_points ps ≡ true
    by_items None k = absurd (cc)
    by_items (Some ds) k = points_are ds ps k

-- the members that pass both tests, one by one
pub data AllGood : Members → Type 0 where
  none_left : AllGood no_members
  good_member : (k : List ℕ) (d : Data) (ps : List ℕ) (ms : Members) → is_good_name k ≡ true → codepoints d ≡ Some ps → AllGood ms → AllGood (member k d ms)

all_good : (ms : Members) → first_bad_name ms ≡ None → first_bad_points ms ≡ None → AllGood ms
all_good no_members h k = none_left
all_good (member n d ms) h k = by_tests (is_good_name n) refl (codepoints d) refl (λ i j. all_good ms i j) h k
  where
    by_tests : (b : Bool) → is_good_name n ≡ b → (o : Option (List ℕ)) → codepoints d ≡ o → (first_bad_name ms ≡ None → first_bad_points ms ≡ None → AllGood ms)
        → cond b (first_bad_name ms) (Some n) ≡ None → cond (is_some o) (first_bad_points ms) (Some n) ≡ None → AllGood (member n d ms)
    by_tests false e o f more i j = absurd (cc)
    by_tests true e None f more i j = absurd (cc)
    by_tests true e (Some ps) f more i j = good_member n d ps ms e f (more i j)

names_keys : (ms : Members) → AllGood ms → names_in (entries_in ms) ≡ keys_in ms
names_keys ms none_left = refl
names_keys ms (good_member k d ps ns g c a) = rw c (ap (λ l. k ∷ l) (names_keys ns a))

good_names : (ms : Members) → AllGood ms → list_all (λ (e : Entry). is_good_name e.name) (entries_in ms) ≡ true
good_names ms none_left = refl
good_names ms (good_member k d ps ns g c a) = rw (c, g, good_names ns a) refl

good_points : (ms : Members) → AllGood ms → list_all (λ (e : Entry). are_points e.points) (entries_in ms) ≡ true
good_points ms none_left = refl
good_points ms (good_member k d ps ns g c a) = rw (c, codepoints_are d ps c, good_points ns a) refl

pub gathered_of : (ms : Members) → Ascends ms → first_bad_name ms ≡ None → first_bad_points ms ≡ None → IsGathered (entries_in ms)
gathered_of ms s h k = let a = all_good ms h k in
    record { ascending = subst (IsStrictlySortedBy text_cmp) (sym (names_keys ms a)) s; good = good_names ms a; pointed = good_points ms a }

-- ---- the law

members_table : (ms : Members) (t : List Entry) → Ascends ms → names_of_members ms ≡ Ok t → IsTable t
members_table ms t s h = by_name (first_bad_name ms) refl h
  where
    by_points : (o : Option (List ℕ)) → first_bad_points ms ≡ o → first_bad_name ms ≡ None → unless o BadPoints (checked (entries_in ms)) ≡ Ok t → IsTable t
    by_points None e f k = checked_table (entries_in ms) t (gathered_of ms s f e) k
    by_points (Some n) e f k = absurd (cc)

    by_name : (o : Option (List ℕ)) → first_bad_name ms ≡ o → unless o BadName (unless (first_bad_points ms) BadPoints (checked (entries_in ms))) ≡ Ok t → IsTable t
    by_name None e k = by_points (first_bad_points ms) refl e k
    by_name (Some n) e k = absurd (cc)

pub names_table : (bytes : List ℕ) (t : List Entry) → names bytes ≡ Ok t → IsTable t
unfolding names
names_table bytes t h = by_length (nat_lt TABLE_LIMIT (length bytes)) h
  where
    by_object : (d : Data) (o : Option Members) → refs.json bytes ≡ Some d → as_object d ≡ o → names_of_object o ≡ Ok t → IsTable t
    by_object d None e f k = absurd (cc)
    by_object d (Some ms) e f k = members_table ms t (json_ascends bytes d ms e f) k

    by_data : (o : Option Data) → refs.json bytes ≡ o → names_of_data o ≡ Ok t → IsTable t
    by_data None e k = absurd (cc)
    by_data (Some d) e k = by_object d (as_object d) e refl k

    by_length : (b : Bool) → cond b (Err TooLong) (names_of_data (refs.json bytes)) ≡ Ok t → IsTable t
    by_length true k = absurd (cc)
    by_length false k = by_data (refs.json bytes) refl k
