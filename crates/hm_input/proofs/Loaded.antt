-- What the loaded prefix of a file says about the file.
use Rattle.std.proofs.Common.{true≢false, ◌≡◌, ◌≢◌, ℕ, ◌+◌, ◌≤◌, ◌<◌, Bool, true, false, not, ◌||◌, cond, List, [], length, drop, take, ◌∷◌, zero, suc, Some, None, IsSome, refl, sym, ap, ap₂, ◌∙◌, subst, arith, length-append}
use Rattle.std.proofs.lemmas.Bool.Decides.{nat_tests}
use Rattle.std.proofs.lemmas.Grind.{common_steps}
use Rattle.std.proofs.lemmas.List.{take_all}
use Rattle.std.specs.Bool.{nat_lt}
use Rattle.std.specs.Io.{StartsWith}
use Rattle.std.specs.Str.{bytes_eq}
use Rattle.std.specs.Prelude.{Result, Ok, Err}
use Rattle.std.specs.Result.{IsErrAnd, IfErr}
use Rattle.std.specs.declared.option.Option.{Option}
use Rattle.hm_base.specs.Faults.{HasText, IsRefusalOf}
use Rattle.hm_base.specs.Source.{Source, Refusal, refusal_at, source_of, text_fault}
use Rattle.hm_base.specs.Walks.{Event}
use Rattle.hm_base.specs.declared.limits.TheConstants.{PAGE_LIMIT, TABLE_LIMIT}
use Rattle.hm_base.specs.declared.plain.TreeOptions.{TreeOptions}
use Rattle.hm_base.specs.declared.rules.Refused.{Refused}
use Rattle.hm_base.specs.declared.rules.Refused.TheVariants as refused
use Rattle.hm_base.specs.declared.rules.Rule.TheVariants as rules
use Rattle.hm_store.specs.Contents.{Sees}
use Rattle.hm_store.specs.Files.{FileMap, Takes, file_of}
use Rattle.hm_refs.proofs.Places.{same_bytes}
use Rattle.hm_refs.specs.Json.{names}
use Rattle.hm_refs.specs.Names.{Entry}
use Rattle.hm_refs.specs.declared.fault.TableFault.{TableFault}
use Rattle.hm_refs.specs.declared.fault.TableFault.TheVariants.{TooLong}
use Rattle.hm_fragment.specs.Trees.{Outcome, built, refused_by, page_tree, tree_of_source}
use Rattle.hm_page_loading.specs.Pages.{IsPageTree, IsRefusedAs, NoPageTree, page_outcome_within}
use Rattle.hm_page_loading.specs.declared.fault.PageLoadFault.{PageLoadFault}
use Rattle.hm_page_loading.specs.declared.fault.PageLoadFault.TheVariants as page_faults
use Rattle.hm_fragment.proofs.Fragments.{with_front}
use Rattle.hm_fragment.specs.Fragments.{fragment_tree}
use Rattle.hm_fragment.specs.Frames.{front, unframed}
use Rattle.hm_html_names.specs.HtmlNames.{html_entries}
use Rattle.hm_json_tree.specs.Progress.{fault_walk}
use Rattle.hm_json_tree.specs.Reading.{json_walk, too_long, walk}
use Rattle.hm_json_tree.specs.declared.fault.JsonFault.{JsonFault}
use Rattle.hm_json_tree.specs.declared.fault.JsonFault.TheVariants as json_faults
use Rattle.hm_json_tree.specs.declared.limits.TheConstants.{JSON_LIMIT}
use Rattle.hm_options.specs.Rewrites.{rewrite}
use Rattle.hm_words.specs.Words.{are_apart, fragment_at, is_table_word, json_at, page_at}
use Rattle.hm_input.specs.Inputs.{Input, IsInput, tree, bad_table, bad_page, bad_json, file_with_table, fragment_input, fragment_outcome, is_html, is_none, json_input, names_of_table, page_input, table_names, page_outcome, rewritten_input, input_from, walk_input}
use Rattle.hm_input.specs.Loads.{IsFragmentOf, IsLoaded, IsRefusedFragment, IsRefusedJson, IsTableOf, IsTextIn, IsWalkOf, NoFragment, NoFragmentIn, NoInput, NoInputWhere, NoPage, NoTable, NoTextIn, NoWalk}
use Rattle.hm_input.specs.Reasons.{page_unread, refused_as}
use Rattle.hm_input.specs.declared.unread.InputFault.{InputFault}
use Rattle.hm_input.specs.declared.unread.InputFault.TheVariants as reasons

-- ---- a table

long_table : (content : List ℕ) → TABLE_LIMIT < length content → names content ≡ Err TooLong
unfolding names
long_table content h =
    let long : nat_lt TABLE_LIMIT (length content) ≡ true = grind (arith, nat_tests) in
    rw long refl

still_long : (content : List ℕ) (n : ℕ) → n < length content → n < length (take (n + 1) content)
still_long content n h = grind (arith, common_steps)

long_by_test : (n m : ℕ) → nat_lt n m ≡ true → n < m
long_by_test n m e = grind (arith, nat_tests)

short_by_test : (n m : ℕ) → nat_lt n m ≡ false → m ≤ n + 1
short_by_test n m e = grind (arith, nat_tests)

names_front : (content : List ℕ) → names (take (TABLE_LIMIT + 1) content) ≡ names content
names_front content = by_length (nat_lt TABLE_LIMIT (length content)) refl
  where
    by_length : (long : Bool) → nat_lt TABLE_LIMIT (length content) ≡ long → names (take (TABLE_LIMIT + 1) content) ≡ names content
    by_length true e =
        let h : TABLE_LIMIT < length content = long_by_test TABLE_LIMIT (length content) e in
        long_table (take (TABLE_LIMIT + 1) content) (still_long content TABLE_LIMIT h) ∙ sym (long_table content h)
    by_length false e = ap names (take_all (TABLE_LIMIT + 1) content (short_by_test TABLE_LIMIT (length content) e))

pub table_of_bytes : (told : Option FileMap) (name bytes : List ℕ) (read : Result (List Entry) TableFault) → is_none name ≡ false → is_html name ≡ false → IsLoaded told name TABLE_LIMIT bytes → names bytes ≡ read → IsTableOf told name read
table_of_bytes told name bytes read none html l e = record {
  content = Some l.content;
  there = l.there;
  is = ap₂ (λ a b. table_names a b (Some l.content)) none html ∙ ap Some (sym (names_front l.content) ∙ ap names (sym l.front) ∙ e);
}

pub table_of_none : (told : Option FileMap) (name : List ℕ) (t : List Entry) → is_none name ≡ true → t ≡ [] → IsTableOf told name (Ok t)
table_of_none told name t none e = record {
  content = file_of told name;
  there = λ i. refl;
  is = ap (λ b. table_names b (is_html name) (file_of told name)) none ∙ ap (λ x. Some (Ok x)) (sym e);
}

pub table_of_html : (told : Option FileMap) (name : List ℕ) (t : List Entry) → is_none name ≡ false → is_html name ≡ true → t ≡ html_entries → IsTableOf told name (Ok t)
table_of_html told name t none html e = record {
  content = file_of told name;
  there = λ i. refl;
  is = ap₂ (λ a b. table_names a b (file_of told name)) none html ∙ ap (λ x. Some (Ok x)) (sym e);
}

-- a table that is neither of the words is a file
pub is_no_word : (name : List ℕ) → is_none name ≡ false → is_html name ≡ false → is_table_word name ≡ false
is_no_word name none html = rw (none, html) refl

-- ---- a page

pub long_page : (t : List Entry) (content : List ℕ) → PAGE_LIMIT < length content → page_outcome t content ≡ refused_by rules.TooLong PAGE_LIMIT
unfolding page_outcome
long_page t content h =
    let long : nat_lt PAGE_LIMIT (length content) ≡ true = grind (arith, nat_tests) in
    rw long refl

faulty_page : (t : List Entry) (content : List ℕ) (r : Refusal) → nat_lt PAGE_LIMIT (length content) ≡ false → text_fault content ≡ Some r → page_outcome t content ≡ refused_by r.rule r.at
unfolding page_outcome page_tree
faulty_page t content r short e = rw (short, e) refl

-- where no more than the limit was loaded, all of the file was
whole : (content : List ℕ) (n : ℕ) → length (take (n + 1) content) ≤ n → length content ≤ n
whole content n h = grind (arith, common_steps)

short_test : (n m : ℕ) → m ≤ n → nat_lt n m ≡ false
short_test n m h = grind (arith, nat_tests)

within_one : (n m : ℕ) → m ≤ n → m ≤ n + 1
within_one n m h = omega arith

pub whole_content : (told : Option FileMap) (name bytes : List ℕ) → (l : IsLoaded told name PAGE_LIMIT bytes) → length bytes ≤ PAGE_LIMIT → (bytes ≡ l.content) × (nat_lt PAGE_LIMIT (length l.content) ≡ false)
whole_content told name bytes l h =
    let cut : length (take (PAGE_LIMIT + 1) l.content) ≤ PAGE_LIMIT = subst (λ x. length x ≤ PAGE_LIMIT) l.front h in
    let all : length l.content ≤ PAGE_LIMIT = whole l.content PAGE_LIMIT cut in
    (l.front ∙ take_all (PAGE_LIMIT + 1) l.content (within_one PAGE_LIMIT (length l.content) all), short_test PAGE_LIMIT (length l.content) all)

short_by_limit : (n m : ℕ) → nat_lt n m ≡ false → m ≤ n
short_by_limit n m e = grind (arith, nat_tests)

pub text_in : (page : List ℕ) (text : Source) → HasText PAGE_LIMIT page → text ≡ source_of page → IsTextIn page text
text_in page text h e = record { short = short_test PAGE_LIMIT (length page) h.short; sound = h.sound; is = e }

pub faulty_text : (page : List ℕ) (r : Refusal) → length page ≤ PAGE_LIMIT → text_fault page ≡ Some r → (t : List Entry) → page_outcome t page ≡ refused_by r.rule r.at
faulty_text page r h e t = faulty_page t page r (short_test PAGE_LIMIT (length page) h) e

-- a page that is refused
pub no_text_in : (page : List ℕ) (r : Refused) → IsRefusalOf r PAGE_LIMIT page → NoTextIn page (refused_as r)
no_text_in page (refused.Page rule at) h = λ t. by_length t (nat_lt PAGE_LIMIT (length page)) refl h
  where
    by_length : (t : List Entry) (long : Bool) → nat_lt PAGE_LIMIT (length page) ≡ long → cond long (Some (refusal_at rules.TooLong PAGE_LIMIT)) (text_fault page) ≡ Some (refusal_at rule at) → page_outcome t page ≡ refused_by rule at
    by_length t true e f =
        let same : refusal_at rules.TooLong PAGE_LIMIT ≡ refusal_at rule at = cc in
        long_page t page (long_by_test PAGE_LIMIT (length page) e) ∙ ap (λ (x : Refusal). refused_by x.rule x.at) same
    by_length t false e f = faulty_page t page (refusal_at rule at) e f
no_text_in page refused.OutOfMemory h = tt

-- what is found of the prefix that is loaded is found of the page
pub page_front : (t : List Entry) (content : List ℕ) → page_outcome t (take (PAGE_LIMIT + 1) content) ≡ page_outcome t content
page_front t content = by_length (nat_lt PAGE_LIMIT (length content)) refl
  where
    by_length : (long : Bool) → nat_lt PAGE_LIMIT (length content) ≡ long → page_outcome t (take (PAGE_LIMIT + 1) content) ≡ page_outcome t content
    by_length true e =
        let h : PAGE_LIMIT < length content = long_by_test PAGE_LIMIT (length content) e in
        long_page t (take (PAGE_LIMIT + 1) content) (still_long content PAGE_LIMIT h) ∙ sym (long_page t content h)
    by_length false e = ap (page_outcome t) (take_all (PAGE_LIMIT + 1) content (short_by_test PAGE_LIMIT (length content) e))

-- ---- both

-- the tree of a page is that of its text
pub page_read : (t : List Entry) (text : Source) (page : List ℕ) (outcome : Outcome) → IsTextIn page text → tree_of_source t text ≡ outcome → page_outcome t page ≡ outcome
unfolding page_outcome page_tree
page_read t text page outcome r e = rw (r.short, r.sound) (ap (tree_of_source t) (sym r.is) ∙ e)

-- a word of a table gives the same names whatever a file of that name holds
any_content : (none html : Bool) (a b : Option (List ℕ)) → (none || html) ≡ true → table_names none html a ≡ table_names none html b
any_content true html a b e = refl
any_content false true a b e = refl
any_content false false a b e = cc

-- contents of two files that differ, or of the second one alone, are contents that can be those of all files
pub seen_both : (told : Option FileMap) (reads : List Entry → List ℕ → Input) (table name : List ℕ) (table_content content : Option (List ℕ)) (input : Input) → are_apart table name ≡ true
    → (IsSome told → file_of told table ≡ table_content) → (IsSome told → file_of told name ≡ content) → input_from reads (names_of_table table table_content) content ≡ input
    → Sees told (λ seen. (file_with_table reads table name seen ≡ input) × (seen name ≡ content))
seen_both (Some files) reads table name table_content content input apart is_table is_file is = record {
  seen = file_of (Some files);
  are_told = λ _ _. refl;
  holds = (ap (λ c. input_from reads (names_of_table table c) (file_of (Some files) name)) (is_table refl) ∙ ap (input_from reads (names_of_table table table_content)) (is_file refl) ∙ is, is_file refl);
}
seen_both None reads table name table_content content input apart is_table is_file is = by_word (is_table_word table) refl
  where
    apart_by : (b : Bool) → is_table_word table ≡ b → (b || not (bytes_eq table name)) ≡ true
    apart_by b e = ap (λ x. x || not (bytes_eq table name)) (sym e) ∙ apart

    differ : (b : Bool) → (false || not b) ≡ true → b ≡ false
    differ true h = cc
    differ false h = refl

    by_word : (word : Bool) → is_table_word table ≡ word → Sees None (λ seen. (file_with_table reads table name seen ≡ input) × (seen name ≡ content))
    by_word true e = record {
      seen = λ _. content;
      are_told = λ h. cc;
      holds = (ap (λ x. input_from reads x content) (any_content (is_none table) (is_html table) content table_content e) ∙ is, refl);
    }
    by_word false e = record {
      seen = λ other. cond (bytes_eq table other) table_content content;
      are_told = λ h. cc;
      holds = (
        ap (λ b. input_from reads (names_of_table table (cond b table_content content)) (cond (bytes_eq table name) table_content content)) (same_bytes table)
            ∙ ap (λ b. input_from reads (names_of_table table table_content) (cond b table_content content)) (differ (bytes_eq table name) (apart_by false e)) ∙ is,
        ap (λ b. cond b table_content content) (differ (bytes_eq table name) (apart_by false e)),
      );
    }

seen_file : (told : Option FileMap) (reads : List Entry → List ℕ → Input) (table name : List ℕ) (table_content content : Option (List ℕ)) (input : Input) → are_apart table name ≡ true
    → (IsSome told → file_of told table ≡ table_content) → (IsSome told → file_of told name ≡ content) → input_from reads (names_of_table table table_content) content ≡ input
    → Sees told (λ seen. file_with_table reads table name seen ≡ input)
seen_file told reads table name table_content content input apart is_table is_file is =
    let s = seen_both told reads table name table_content content input apart is_table is_file is in
    record { seen = s.seen; are_told = s.are_told; holds = s.holds.0 }

-- where the table can be read, the second file gives what its content gives
pub seen_content : (told : Option FileMap) (reads : List Entry → List ℕ → Input) (table name : List ℕ) (t : List Entry) (content : List ℕ) (input : Input) → are_apart table name ≡ true → IsTableOf told table (Ok t)
    → (IsSome told → file_of told name ≡ Some content) → reads t content ≡ input → Sees told (λ seen. file_with_table reads table name seen ≡ input)
seen_content told reads table name t content input apart a there is = seen_file told reads table name a.content (Some content) input apart a.there there (ap (λ x. input_from reads x (Some content)) a.is ∙ is)

-- a table that is refused is told first
seen_fault : (told : Option FileMap) (reads : List Entry → List ℕ → Input) (table name : List ℕ) (fault : TableFault) → are_apart table name ≡ true → IsTableOf told table (Err fault) → Sees told (λ seen. file_with_table reads table name seen ≡ bad_table fault)
seen_fault told reads table name fault apart a = seen_file told reads table name a.content (file_of told name) (bad_table fault) apart a.there (λ i. refl) (ap (λ x. input_from reads x (file_of told name)) a.is)

-- there is no table
seen_no_table : (told : Option FileMap) (reads : List Entry → List ℕ → Input) (table name : List ℕ) (unread : InputFault) → are_apart table name ≡ true → NoTable told table unread → NoInputWhere (λ input. Sees told (λ seen. file_with_table reads table name seen ≡ input)) unread
seen_no_table told reads table name (reasons.Table fault) apart n = seen_fault told reads table name fault apart n
seen_no_table told reads table name (reasons.Page rule at) apart n = absurd n
seen_no_table told reads table name (reasons.Json fault) apart n = absurd n
seen_no_table told reads table name reasons.Store apart n = tt
seen_no_table told reads table name reasons.OutOfMemory apart n = tt

-- ---- a page with its table

page_is : (t : List Entry) (page : List ℕ) → page_outcome t page ≡ page_outcome_within PAGE_LIMIT t page
unfolding page_outcome
page_is t page = refl

pub input_of_page : (told : Option FileMap) (table page : List ℕ) (o : TreeOptions) (t : List Entry) (w : List Event) (n : ℕ) (v : List Event) → are_apart table page ≡ true → IsTableOf told table (Ok t) → IsPageTree told page t w n → v ≡ rewrite o w → IsInput told (page_at table page) o (tree n t v)
input_of_page told table page o t w n v apart a b is = seen_content told (page_input o) table page t b.page (tree n t v) apart a b.there
    (ap (rewritten_input o t (length b.page)) (page_is t b.page ∙ b.reads) ∙ ap₂ (λ m x. tree m t x) (sym b.all) (sym is))

pub no_table : (told : Option FileMap) (table page : List ℕ) (o : TreeOptions) (unread : InputFault) → are_apart table page ≡ true → NoTable told table unread → NoInput told (page_at table page) o unread
no_table told table page o unread apart n = seen_no_table told (page_input o) table page unread apart n

pub no_page : (told : Option FileMap) (table page : List ℕ) (o : TreeOptions) (t : List Entry) (unread : InputFault) → are_apart table page ≡ true → IsTableOf told table (Ok t) → NoPage told page t unread → NoInput told (page_at table page) o unread
no_page told table page o t (reasons.Table fault) apart a n = absurd n
no_page told table page o t (reasons.Page rule at) apart a n = seen_content told (page_input o) table page t n.page (bad_page rule at) apart a n.there (ap (rewritten_input o t (length n.page)) (page_is t n.page ∙ n.refused))
no_page told table page o t (reasons.Json fault) apart a n = absurd n
no_page told table page o t reasons.Store apart a n = tt
no_page told table page o t reasons.OutOfMemory apart a n = tt

-- a refusal of a page is given on
pub no_page_of : (told : Option FileMap) (name : List ℕ) (t : List Entry) (fault : PageLoadFault) → NoPageTree told name t fault → NoPage told name t (page_unread fault)
no_page_of told name t (page_faults.Page rule at) n = n
no_page_of told name t page_faults.Store n = tt
no_page_of told name t page_faults.OutOfMemory n = tt

-- what is loaded of a file
none_found : (told : Option (List ℕ)) (bytes : List ℕ) → IsSome {T = List ℕ} None → told ≡ Some bytes
none_found told bytes e = absurd (true≢false (sym e))

pub is_loaded : (told : Option FileMap) (name : List ℕ) (limit : ℕ) (bytes : List ℕ) → Takes (file_of told name) (limit + 1) bytes → length bytes ≤ limit + 1 → (IsSome told → IsSome (file_of told name)) → IsLoaded told name limit bytes
is_loaded told name limit bytes taken within there = by_content (file_of told name) refl taken
  where
    by_content : (content : Option (List ℕ)) → file_of told name ≡ content → Takes content (limit + 1) bytes → IsLoaded told name limit bytes
    by_content None is h = record { content = bytes; there = λ some. none_found (file_of told name) bytes (subst IsSome is (there some)); front = sym (take_all (limit + 1) bytes within) }
    by_content (Some content) is h = record { content = content; there = λ some. is; front = h }

-- ---- a fragment after its front

dropped_length : (n m : ℕ) (s : List ℕ) → length s ≤ n + m → length (drop n s) ≤ m
dropped_length zero m s h = omega (arith, h)
dropped_length (suc n) m [] h = omega arith
dropped_length (suc n) m (c ∷ s) h = dropped_length n m s (omega (arith, h))

pub page_length : (page : List ℕ) → StartsWith page front → length page ≡ 21 + length (unframed page)
page_length page h = ap length (sym (with_front page h)) ∙ length-append front (unframed page)

-- what is loaded after the front is that of the file
pub framed_loaded : (told : Option FileMap) (name : List ℕ) (limit : ℕ) (page : List ℕ) → Takes (file_of told name) (limit + 1) (unframed page) → length page ≤ length front + (limit + 1) → (IsSome told → IsSome (file_of told name)) → IsLoaded told name limit (unframed page)
framed_loaded told name limit page taken within there = is_loaded told name limit (unframed page) taken (dropped_length (length front) (limit + 1) page within) there

-- ---- a fragment with a table

pub input_of_fragment : (told : Option FileMap) (table page : List ℕ) (o : TreeOptions) (t : List Entry) (w : List Event) (n : ℕ) (v : List Event) → are_apart table page ≡ true → IsTableOf told table (Ok t) → IsFragmentOf told page t w n → v ≡ rewrite o w → IsInput told (fragment_at table page) o (tree n t v)
input_of_fragment told table page o t w n v apart a b is = seen_content told (fragment_input o) table page t b.fragment (tree n t v) apart a b.there
    (ap (rewritten_input o t (length b.fragment)) b.reads ∙ ap₂ (λ m x. tree m t x) (sym b.all) (sym is))

pub no_fragment_table : (told : Option FileMap) (table page : List ℕ) (o : TreeOptions) (unread : InputFault) → are_apart table page ≡ true → NoTable told table unread → NoInput told (fragment_at table page) o unread
no_fragment_table told table page o unread apart n = seen_no_table told (fragment_input o) table page unread apart n

pub no_fragment : (told : Option FileMap) (table page : List ℕ) (o : TreeOptions) (t : List Entry) (unread : InputFault) → are_apart table page ≡ true → IsTableOf told table (Ok t) → NoFragment told page t unread → NoInput told (fragment_at table page) o unread
no_fragment told table page o t (reasons.Table fault) apart a n = absurd n
no_fragment told table page o t (reasons.Page rule at) apart a n = seen_content told (fragment_input o) table page t n.fragment (bad_page rule at) apart a n.there (ap (rewritten_input o t (length n.fragment)) n.refused)
no_fragment told table page o t (reasons.Json fault) apart a n = absurd n
no_fragment told table page o t reasons.Store apart a n = tt
no_fragment told table page o t reasons.OutOfMemory apart a n = tt

long_fragment : (t : List Entry) (content : List ℕ) → PAGE_LIMIT < length content → fragment_outcome t content ≡ refused_by rules.TooLong PAGE_LIMIT
unfolding fragment_outcome
long_fragment t content h =
    let long : nat_lt PAGE_LIMIT (length content) ≡ true = grind (arith, nat_tests) in
    rw long refl

taken_length : (n : ℕ) (s : List ℕ) → length (take n s) ≤ length s
taken_length zero s = omega arith
taken_length (suc n) [] = omega arith
taken_length (suc n) (c ∷ s) = let h = taken_length n s in omega (arith, h)

front_is_less : (content fragment : List ℕ) → fragment ≡ take (PAGE_LIMIT + 1) content → PAGE_LIMIT < length fragment → PAGE_LIMIT < length content
front_is_less content fragment e h =
    let cut : PAGE_LIMIT < length (take (PAGE_LIMIT + 1) content) = subst (λ x. PAGE_LIMIT < length x) e h in
    let k : length (take (PAGE_LIMIT + 1) content) ≤ length content = taken_length (PAGE_LIMIT + 1) content in
    omega (arith, cut, k)

pub long_fragment_of : (told : Option FileMap) (name : List ℕ) (t : List Entry) (fragment : List ℕ) → IsLoaded told name PAGE_LIMIT fragment → PAGE_LIMIT < length fragment → IsRefusedFragment told name t rules.TooLong PAGE_LIMIT
long_fragment_of told name t fragment l h = record { fragment = l.content; there = l.there; refused = long_fragment t l.content (front_is_less l.content fragment l.front h) }

short_fragment : (t : List Entry) (fragment : List ℕ) → nat_lt PAGE_LIMIT (length fragment) ≡ false → fragment_outcome t fragment ≡ fragment_tree t fragment
unfolding fragment_outcome
short_fragment t fragment short = rw short refl

pub fragment_of_bytes : (told : Option FileMap) (name : List ℕ) (t : List Entry) (fragment : List ℕ) (w : List Event) (n : ℕ) → IsLoaded told name PAGE_LIMIT fragment → length fragment ≤ PAGE_LIMIT → n ≡ length fragment → fragment_tree t fragment ≡ built w → IsFragmentOf told name t w n
fragment_of_bytes told name t fragment w n l short all reads =
    let k = whole_content told name fragment l short in
    record { fragment = l.content; there = l.there; reads = short_fragment t l.content k.1 ∙ ap (fragment_tree t) (sym k.0) ∙ reads; all = all ∙ ap length k.0 }

pub no_fragment_of_bytes : (told : Option FileMap) (name : List ℕ) (t : List Entry) (fragment : List ℕ) (unread : InputFault) → IsLoaded told name PAGE_LIMIT fragment → length fragment ≤ PAGE_LIMIT → NoFragmentIn t fragment unread → NoFragment told name t unread
no_fragment_of_bytes told name t fragment (reasons.Table fault) l short n = absurd n
no_fragment_of_bytes told name t fragment (reasons.Page rule at) l short n =
    let k = whole_content told name fragment l short in
    record { fragment = l.content; there = l.there; refused = short_fragment t l.content k.1 ∙ ap (fragment_tree t) (sym k.0) ∙ n }
no_fragment_of_bytes told name t fragment (reasons.Json fault) l short n = absurd n
no_fragment_of_bytes told name t fragment reasons.Store l short n = absurd n
no_fragment_of_bytes told name t fragment reasons.OutOfMemory l short n = tt

-- a refusal of a fragment is given on
pub no_fragment_in : (t : List Entry) (fragment : List ℕ) (r : Refused) → IsRefusedAs (fragment_tree t fragment) r → NoFragmentIn t fragment (refused_as r)
no_fragment_in t fragment (refused.Page rule at) h = h
no_fragment_in t fragment refused.OutOfMemory h = tt

-- ---- JSON with a table

pub input_of_walk : (told : Option FileMap) (table page : List ℕ) (o : TreeOptions) (t : List Entry) (w : List Event) (n : ℕ) (v : List Event) → are_apart table page ≡ true → IsTableOf told table (Ok t) → IsWalkOf told page w n → v ≡ rewrite o w → IsInput told (json_at table page) o (tree n t v)
input_of_walk told table page o t w n v apart a b is = seen_content told (json_input o) table page t b.json (tree n t v) apart a b.there
    (ap (walk_input o t (length b.json)) b.reads ∙ ap₂ (λ m x. tree m t x) (sym b.all) (sym is))

pub no_json_table : (told : Option FileMap) (table page : List ℕ) (o : TreeOptions) (unread : InputFault) → are_apart table page ≡ true → NoTable told table unread → NoInput told (json_at table page) o unread
no_json_table told table page o unread apart n = seen_no_table told (json_input o) table page unread apart n

pub no_walk : (told : Option FileMap) (table page : List ℕ) (o : TreeOptions) (t : List Entry) (unread : InputFault) → are_apart table page ≡ true → IsTableOf told table (Ok t) → NoWalk told page unread → NoInput told (json_at table page) o unread
no_walk told table page o t (reasons.Table fault) apart a n = absurd n
no_walk told table page o t (reasons.Page rule at) apart a n = absurd n
no_walk told table page o t (reasons.Json fault) apart a n = seen_content told (json_input o) table page t n.json (bad_json fault) apart a n.there (n.refused o t)
no_walk told table page o t reasons.Store apart a n = tt
no_walk told table page o t reasons.OutOfMemory apart a n = tt

-- JSON that is too long is so by its prefix
long_json : (content : List ℕ) → JSON_LIMIT < length content → json_walk content ≡ too_long
unfolding json_walk
long_json content h =
    let long : nat_lt JSON_LIMIT (length content) ≡ true = grind (arith, nat_tests) in
    rw long refl

json_front : (content : List ℕ) → json_walk (take (JSON_LIMIT + 1) content) ≡ json_walk content
json_front content = by_length (nat_lt JSON_LIMIT (length content)) refl
  where
    by_length : (long : Bool) → nat_lt JSON_LIMIT (length content) ≡ long → json_walk (take (JSON_LIMIT + 1) content) ≡ json_walk content
    by_length true e =
        let h : JSON_LIMIT < length content = long_by_test JSON_LIMIT (length content) e in
        long_json (take (JSON_LIMIT + 1) content) (still_long content JSON_LIMIT h) ∙ sym (long_json content h)
    by_length false e = ap json_walk (take_all (JSON_LIMIT + 1) content (short_by_test JSON_LIMIT (length content) e))

-- where a walk is read, the JSON isn't too long
walk_is_short : (content : List ℕ) (w : List Event) → json_walk content ≡ walk w → nat_lt JSON_LIMIT (length content) ≡ false
walk_is_short content w e = by_length (nat_lt JSON_LIMIT (length content)) refl
  where
    by_length : (long : Bool) → nat_lt JSON_LIMIT (length content) ≡ long → long ≡ false
    by_length true h = let k : too_long ≡ walk w = sym (long_json content (long_by_test JSON_LIMIT (length content) h)) ∙ e in cc
    by_length false h = refl

pub walk_of_bytes : (told : Option FileMap) (name json : List ℕ) (w : List Event) (n : ℕ) → IsLoaded told name JSON_LIMIT json → n ≡ length json → json_walk json ≡ walk w → IsWalkOf told name w n
walk_of_bytes told name json w n l all e =
    let reads : json_walk l.content ≡ walk w = sym (json_front l.content) ∙ ap json_walk (sym l.front) ∙ e in
    let whole : json ≡ l.content = l.front ∙ take_all (JSON_LIMIT + 1) l.content (short_by_test JSON_LIMIT (length l.content) (walk_is_short l.content w reads)) in
    record { json = l.content; there = l.there; reads = reads; all = all ∙ ap length whole }

-- a fault says of an input what it says of a walk
fault_is_said : (fault : JsonFault) → (fault ≡ json_faults.OutOfMemory → ⊥) → (o : TreeOptions) (t : List Entry) (n : ℕ) → walk_input o t n (fault_walk fault) ≡ bad_json fault
fault_is_said json_faults.TooLong other o t n = refl
fault_is_said json_faults.NotJson other o t n = refl
fault_is_said json_faults.NotArray other o t n = refl
fault_is_said (json_faults.BadEvent i) other o t n = refl
fault_is_said (json_faults.Open k) other o t n = refl
fault_is_said (json_faults.NotSettled i k) other o t n = refl
fault_is_said json_faults.OutOfMemory other o t n = absurd (other refl)

pub json_of_bytes : (told : Option FileMap) (name json : List ℕ) (fault : JsonFault) → IsLoaded told name JSON_LIMIT json → (fault ≡ json_faults.OutOfMemory → ⊥) → (fault ≢ json_faults.OutOfMemory → json_walk json ≡ fault_walk fault) → IsRefusedJson told name fault
json_of_bytes told name json fault l other e = record {
  json = l.content;
  there = l.there;
  refused = λ o t. ap (walk_input o t (length l.content)) (sym (json_front l.content) ∙ ap json_walk (sym l.front) ∙ e other) ∙ fault_is_said fault other o t (length l.content);
}

-- an error that is given on as it is
pub given_on : {T E : Type 0} (r : Result T E) (P : E → Type 0) (e : E) → IsErrAnd r (λ y. y ≡ e) → P e → IfErr r P
given_on (Ok x) P e h p = tt
given_on (Err y) P e h p = subst P (sym h) p

-- the slice of a vector has its bytes
pub of_slice : (told : Option FileMap) (name : List ℕ) (limit : ℕ) (items bytes : List ℕ) → bytes ≡ items → IsLoaded told name limit items → IsLoaded told name limit bytes
of_slice told name limit items bytes e l = subst (IsLoaded told name limit) (sym e) l
