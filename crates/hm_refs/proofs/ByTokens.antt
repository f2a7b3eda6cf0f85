-- What is read token by token is what the whole text gives.
use Rattle.std.proofs.Common.{◌≡◌, ℕ, Bool, true, false, cond, ◌<◌, ◌≤◌, ◌-◌, ◌^◌, slice_index, ne_eqb, lt-ltb, IfSome, bytes_eq, List, [], ◌∷◌, Option, Some, None, is_some, option_map, option_and_then, length, codes, IsUtf8, Ordering, Less, Equal, Greater, refl, sym, ap, ◌∙◌, subst, arith}
use Rattle.std.proofs.lemmas.Cmp.{nat_list_cmp_total}
use Rattle.std.proofs.lemmas.Slice.Eq.{bytes_eq-Decides}
use Rattle.std.specs.Ordering.{is_lt, ordering_reverse}
use Rattle.std.specs.List.{AllByRecursion}
use Rattle.std.specs.List.Sorted.{IsStrictlySortedBy}
use Rattle.fast_float.specs.Text.{IsInteger, digits_of, scan}
use Rattle.json.specs.Token.{Token}
use Rattle.json.specs.Lex.{tokens}
use Rattle.json.specs.Json as json
use Rattle.json.specs.Json.{parse_map, after_end_array, read_key, items, members, value, if_last}
use Rattle.json.proofs.Grammar.{left, value_is, value-begin_array, value-begin_object, items_end, items_more, members_end, members_more, read_key-shorter, skip_value-shorter}
use Rattle.serde_json.specs.Data.{Num, unsigned, Data, number, string, array, object, Items, no_items, item, Members, no_members, member, put}
use Rattle.serde_json.specs.Read.{number_of, of_items, read}
use Rattle.serde_json.specs.Find.{as_u64, get_member}
use Rattle.serde_json.proofs.Views.{get_member-put, get_member-put_other}
use Rattle.hm_base.specs.declared.limits.TheConstants.{TABLE_LIMIT}
use Rattle.hm_refs.specs.Names.{Entry, is_good_name}
use Rattle.hm_refs.specs.Tables.{IsGathered}
use Rattle.hm_refs.specs.Json.{if_point, point_in, and_entry, codepoints, with_entry, entries_in, first_bad_name, first_bad_points, keys_in, checked, names}
use Rattle.hm_refs.specs.Ordered.{IsPoint, Begins, Adds, ArePoints, Closes, IsBefore, IsEntry, AreEntries, IsTableOf}
use Rattle.hm_refs.proofs.Members.{text_cmp, put_ascends, gathered_of}
use Rattle.hm_refs.proofs.ReadingLaws.{json_read, names_by_members}

-- ---- values, a part at a time

pub begins_shorter : (depth : ℕ) (old new : List Token) (d : Data) → Begins depth old d new → length new < length old
begins_shorter depth old new d b = skip_value-shorter depth old new (ap left b.1)

pub object_begins : (depth : ℕ) (old ts new : List Token) (ms : Members) → old ≡ Token.begin_object ∷ ts → 0 < depth → Adds (depth - 1) no_members (length ts) ts ms new → Begins depth old (object ms) new
object_begins depth old ts new ms b h a = (json.object a.0, ap (value depth) b ∙ value-begin_object depth ts h ∙ ap (parse_map json.object) a.1, rw a.2 refl)

pub one_more : (depth n : ℕ) (found : Members) (k : List ℕ) (d : Data) (ts s r : List Token) (ms : Members) (new : List Token) → 0 < n → read_key ts ≡ Some (Some k, s) → Begins depth s d r → Adds depth (put k d found) (n - 1) r ms new
    → Adds depth found n ts ms new
one_more depth n found k d ts s r ms new h e b a =
    (json.member k b.0 a.0, members_more (value depth) n k ts s r b.0 h e b.1 ∙ ap (parse_map (json.member k b.0)) a.1, rw b.2 a.2)

pub no_more : (depth n : ℕ) (found : Members) (ts r : List Token) → length ts ≤ n → read_key ts ≡ Some (None, r) → Adds depth found n ts found r
no_more depth n found ts r h e = (json.no_members, members_end (value depth) n ts r h e, refl)

-- ---- code points

-- the number that a text writes without sign, point or exponent
pub number_read : (s : List ℕ) → (slice_index s 0 ≡ 45 → ⊥) → IsInteger (scan s) → digits_of (scan s) < 2 ^ 64 → number_of s ≡ Some (unsigned (digits_of (scan s)))
unfolding number_of
number_read s unsigned_so i l = rw (ne_eqb (slice_index s 0) 45 unsigned_so, lt-ltb 0 (length (scan s).whole) i.0, i.1, i.2, lt-ltb (digits_of (scan s)) (2 ^ 64) l) refl

pub point_read : (s : List ℕ) (n : ℕ) (r : Option ℕ) → number_of s ≡ Some (unsigned n) → r ≡ if_point n → IfSome r (λ c. option_and_then if_point (option_and_then as_u64 (number_of s)) ≡ Some c)
point_read s n None e f = tt
point_read s n (Some c) e f = rw e (sym f)

number_begins : (depth c : ℕ) (old new : List Token) → IsPoint old c new → (a : Data) × Begins depth old a new × (point_in a ≡ Some c)
number_begins depth c old new p = by_number (number_of p.0) refl p.2
  where
    by_number : (o : Option Num) → number_of p.0 ≡ o → option_and_then if_point (option_and_then as_u64 o) ≡ Some c → (a : Data) × Begins depth old a new × (point_in a ≡ Some c)
    by_number None e f = absurd (cc)
    by_number (Some n) e f = (number n, (json.number p.0, ap (value depth) p.1 ∙ value_is depth _, ap (option_map number) e), f)

abbrev Lists : ℕ → ℕ → List Token → Items → List Token → Type 0
Lists depth n old ds new = (js : json.Items) × (items (value depth) n old ≡ Some (js, new)) × (of_items js ≡ Some ds)

no_item : (depth n : ℕ) (ts r : List Token) → length ts ≤ n → after_end_array ts ≡ Some r → Lists depth n ts no_items r
no_item depth n ts r h e = (json.no_items, items_end (value depth) n ts r h e, refl)

one_item : (depth n : ℕ) (ts r new : List Token) (a : Data) (ds : Items) → 0 < n → after_end_array ts ≡ None → Begins depth ts a r → Lists depth (n - 1) r ds new → Lists depth n ts (item a ds) new
one_item depth n ts r new a ds h e b l =
    (json.item b.0 l.0, items_more (value depth) n ts r b.0 h e b.1 ∙ ap (parse_map (json.item b.0)) l.1, rw (b.2, l.2) refl)

no_end : (c : ℕ) (old new : List Token) → IsPoint old c new → after_end_array old ≡ None
no_end c old new p = ap after_end_array p.1

array_begins : (depth : ℕ) (old ts new : List Token) (ds : Items) → old ≡ Token.begin_array ∷ ts → 0 < depth → Lists (depth - 1) (length ts) ts ds new → Begins depth old (array ds) new
array_begins depth old ts new ds b h l = (json.array l.0, ap (value depth) b ∙ value-begin_array depth ts h ∙ ap (parse_map json.array) l.1, rw l.2 refl)

pub one_point : (c : ℕ) (old ts r new : List Token) → old ≡ Token.begin_array ∷ ts → IsPoint ts c r → after_end_array r ≡ Some new → ArePoints old (c ∷ []) new
one_point c old ts r new b p e =
    let a = number_begins 124 c ts r p in
    let less = begins_shorter 124 ts r a.0 a.1 in
    let last = no_item 124 (length ts - 1) r new (omega (arith, less)) e in
    (item a.0 no_items, array_begins 125 old ts new _ b (omega arith) (one_item 124 (length ts) ts r new a.0 no_items (omega (arith, less)) (no_end c ts r p) a.1 last), rw a.2 refl)

pub two_points : (c d : ℕ) (old ts r s new : List Token) → old ≡ Token.begin_array ∷ ts → IsPoint ts c r → IsPoint r d s → after_end_array s ≡ Some new → ArePoints old (c ∷ d ∷ []) new
two_points c d old ts r s new o p q e =
    let a = number_begins 124 c ts r p in
    let b = number_begins 124 d r s q in
    let less = begins_shorter 124 ts r a.0 a.1 in
    let lesser = begins_shorter 124 r s b.0 b.1 in
    let last = no_item 124 (length ts - 1 - 1) s new (omega (arith, less, lesser)) e in
    let second = one_item 124 (length ts - 1) r s new b.0 no_items (omega (arith, less, lesser)) (no_end d r s q) b.1 last in
    (item a.0 (item b.0 no_items), array_begins 125 old ts new _ o (omega arith) (one_item 124 (length ts) ts r new a.0 _ (omega (arith, less)) (no_end c ts r p) a.1 second), rw (a.2, b.2) refl)

-- ---- a name's object

pub closed_at_once : (k : List ℕ) (old new : List Token) → read_key old ≡ Some (None, new) → Closes k old new
closed_at_once k old new e = λ n found l. (found, no_more 125 n found old new l e, refl)

pub closed_after_text : (k q t : List ℕ) (old s new : List Token) → read_key old ≡ Some (Some q, s) → bytes_eq q k ≡ false → s ≡ Token.string t ∷ Token.end_object ∷ new → Closes k old new
closed_after_text k q t old s new e other f = λ n found l.
    let less = read_key-shorter old (Some q) s e in
    let left : length s ≡ length (Token.string t ∷ Token.end_object ∷ new) = ap length f in
    let text : Begins 125 s (string t) (Token.end_object ∷ new) = (json.string t, ap (value 125) f ∙ value_is 125 _, refl) in
    let last = no_more 125 (n - 1) (put q (string t) found) (Token.end_object ∷ new) new (omega (arith, less, left, l)) refl in
    (put q (string t) found, one_more 125 n found q (string t) old s _ _ new (omega (arith, less, l)) e text last, get_member-put_other k q (string t) found (λ h. let same = (bytes_eq-Decides q k).1 (sym h) in cc))

pub entry_read : (old ts s r new : List Token) (k ps : List ℕ) → old ≡ Token.begin_object ∷ ts → read_key ts ≡ Some (Some k, s) → bytes_eq k (codes "codepoints") ≡ true → ArePoints s ps r → Closes (codes "codepoints") r new → IsEntry old ps new
unfolding codepoints
entry_read old ts s r new k ps b f i a c =
    let e : read_key ts ≡ Some (Some (codes "codepoints"), s) = f ∙ ap (λ q. Some (Some q, s)) ((bytes_eq-Decides k (codes "codepoints")).0 i) in
    let less = read_key-shorter ts _ s e in
    let lesser = begins_shorter 125 s r (array a.0) a.1 in
    let rest = c (length ts - 1) (put (codes "codepoints") (array a.0) no_members) (omega (arith, less, lesser)) in
    let all = one_more 125 (length ts) no_members _ (array a.0) ts s r rest.0 new (omega (arith, less)) e a.1 rest.1 in
    let got : get_member (codes "codepoints") rest.0 ≡ Some (array a.0) = rest.2 ∙ get_member-put (codes "codepoints") (array a.0) no_members in
    (object rest.0, object_begins 126 old ts new rest.0 b (omega arith) all, rw got a.2)

-- ---- the members, in byte order

less_before : (k l : List ℕ) → IsBefore k l → text_cmp k l ≡ Less
less_before k l h = by_order (text_cmp k l) h
  where
    by_order : (o : Ordering) → is_lt o ≡ true → o ≡ Less
    by_order Less i = refl
    by_order Equal i = absurd (cc)
    by_order Greater i = absurd (cc)

abbrev pub Under : List ℕ → Members → Type 0
Under k ms = AllByRecursion (λ l. text_cmp l k ≡ Less) (keys_in ms)

abbrev with_last : List ℕ → Data → Members → Members
with_last k d no_members = member k d no_members
with_last k d (member l e ms) = member l e (with_last k d ms)

put_last : (k : List ℕ) (d : Data) (ms : Members) → Under k ms → put k d ms ≡ with_last k d ms
put_last k d no_members u = refl
put_last k d (member l e ms) u =
    let after : text_cmp k l ≡ Greater = nat_list_cmp_total.antisymm k l ∙ ap ordering_reverse u.0 in
    rw after (ap (member l e) (put_last k d ms u.1))

under_last : (k m : List ℕ) (d : Data) (ms : Members) → text_cmp k m ≡ Less → Under k ms → Under m (with_last k d ms)
under_last k m d no_members h u = (h, tt)
under_last k m d (member l e ms) h u = (nat_list_cmp_total.trans l k m u.0 h, under_last k m d ms h u.1)

good_name_last : (k : List ℕ) (d : Data) (ms : Members) → is_good_name k ≡ true → first_bad_name ms ≡ None → first_bad_name (with_last k d ms) ≡ None
good_name_last k d no_members g h = rw g refl
good_name_last k d (member l e ms) g h = by_test (is_good_name l) (good_name_last k d ms g) h
  where
    by_test : (b : Bool) → (first_bad_name ms ≡ None → first_bad_name (with_last k d ms) ≡ None) → cond b (first_bad_name ms) (Some l) ≡ None → cond b (first_bad_name (with_last k d ms)) (Some l) ≡ None
    by_test true more i = more i
    by_test false more i = absurd (cc)

points_last : (k ps : List ℕ) (d : Data) (ms : Members) → codepoints d ≡ Some ps → first_bad_points ms ≡ None → first_bad_points (with_last k d ms) ≡ None
points_last k ps d no_members c h = rw c refl
points_last k ps d (member l e ms) c h = by_test (is_some (codepoints e)) (points_last k ps d ms c) h
  where
    by_test : (b : Bool) → (first_bad_points ms ≡ None → first_bad_points (with_last k d ms) ≡ None) → cond b (first_bad_points ms) (Some l) ≡ None → cond b (first_bad_points (with_last k d ms)) (Some l) ≡ None
    by_test true more i = more i
    by_test false more i = absurd (cc)

entry_last : (k ps : List ℕ) (d : Data) (ms : Members) → codepoints d ≡ Some ps → entries_in (with_last k d ms) ≡ and_entry (entries_in ms) k ps
entry_last k ps d no_members c = rw c refl
entry_last k ps d (member l e ms) c = by_points (codepoints e) (entry_last k ps d ms c)
  where
    by_points : (o : Option (List ℕ)) → entries_in (with_last k d ms) ≡ and_entry (entries_in ms) k ps → with_entry l o (entries_in (with_last k d ms)) ≡ and_entry (with_entry l o (entries_in ms)) k ps
    by_points None h = h
    by_points (Some qs) h = ap (λ t. record { name = l; points = qs } ∷ t) h

pub entries_and_one : (k ps : List ℕ) (d : Data) (ms : Members) (t : List Entry) → AreEntries ms t → Under k ms → is_good_name k ≡ true → codepoints d ≡ Some ps → AreEntries (put k d ms) (and_entry t k ps)
entries_and_one k ps d ms t a u g c =
    let e = put_last k d ms u in
    record {
      ascending = put_ascends k d ms a.ascending;
      named = ap first_bad_name e ∙ good_name_last k d ms g a.named;
      pointed = ap first_bad_points e ∙ points_last k ps d ms c a.pointed;
      same = ap entries_in e ∙ entry_last k ps d ms c ∙ ap (λ x. and_entry x k ps) a.same;
    }

pub under_and_one : (k m : List ℕ) (d : Data) (ms : Members) → Under k ms → IsBefore k m → Under m (put k d ms)
under_and_one k m d ms u h = subst (Under m) (sym (put_last k d ms u)) (under_last k m d ms (less_before k m h) u)

pub no_entries : AreEntries no_members []
unfolding IsStrictlySortedBy
no_entries = record { ascending = tt; named = refl; pointed = refl; same = refl }

-- ---- the whole text

pub table_gathered : (old new : List Token) (t : List Entry) → IsTableOf old t new → IsGathered t
table_gathered old new t h = let a = h.2 in subst IsGathered a.same (gathered_of h.0 a.ascending a.named a.pointed)

pub table_names : (bytes : List ℕ) (t : List Entry) → IsUtf8 bytes → length bytes ≤ TABLE_LIMIT → IsTableOf (tokens bytes) t [] → names bytes ≡ checked t
table_names bytes t u l h =
    let a = h.2 in
    let whole : read bytes ≡ Some (object h.0) = rw h.1.1 h.1.2 in
    names_by_members bytes (object h.0) h.0 (checked t) l (json_read bytes (object h.0) u whole) refl (rw (a.named, a.pointed, a.same) refl)
