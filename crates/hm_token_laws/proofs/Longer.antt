-- A token that ends by itself is the same token of a longer text.
use Rattle.std.proofs.Common.{◌≡◌, ℕ, zero, suc, ◌<◌, Bool, true, false, cond, not, ◌&&◌, ◌||◌, ◌==◌, List, [], ◌∷◌, ◌++◌, map, length, take, drop, Option, Some, None, refl, ap, ap₂, sym, ◌∙◌, arith, append_assoc, codes}
use Rattle.std.proofs.lemmas.Bool.{and_parts, eqb-true, or_from}
use Rattle.std.proofs.lemmas.List.{take-append-drop, length-take-le, take_at, drop_at}
use Rattle.hm_base.specs.Bytes.{cut_at, or_go_on, is_null, is_letter, lower, strip, strip_word}
use Rattle.hm_base.specs.Forms.{has_byte}
use Rattle.hm_base.specs.RawText.{is_found, raw_end, script_end, unescaped}
use Rattle.hm_scan.specs.Comments.{begins, cut_comment, read_comment, begins_cdata, read_cdata}
use Rattle.hm_scan.specs.Doctypes.{begins_doctype, read_doctype}
use Rattle.hm_scan.proofs.Cuts.{RestExtends, strip_extends}
use Rattle.hm_scan.proofs.Extended.{comment_extends, cdata_extends, doctype_extends}
use Rattle.hm_scan.proofs.RawTextLaws.{begins_longer, place_same, parted}
use Rattle.hm_scan.proofs.ScriptLaws.{first_same}
use Rattle.hm_scan.proofs.Searches.{begins_front, front_stripped}
use Rattle.hm_refs.specs.Names.{Entry}
use Rattle.hm_scan.specs.Reading.{read_tag, followed_by_letter, begins_tag}
use Rattle.hm_scan.proofs.Follows.{whatever_follows}
use Rattle.hm_scan.specs.Texts.{opens_markup, begins_markup, read_text}
use Rattle.hm_tree.specs.Tokens.{Scanned, taken, refused, Extends}
use Rattle.hm_tree.specs.declared.tokens.ScanFault.TheVariants as faults
use Rattle.hm_token_laws.specs.First.{ordinary, in_svg, rcdata, raw, script, read_markup, read_here, Remainder, three_more, nothing_skipped, after_empty_tags, next_here, before_rest, read_inside, read_references, read_nothing, unless_end, first}
use Rattle.hm_token_laws.specs.Readings.{NextExtends, NextTokensExtend}
use Rattle.hm_token_laws.proofs.Bools.{or_parts, both_ways, not_true, turned}
use Rattle.hm_token_laws.proofs.Elements.{EndsAt, raw_ends_at, script_ends_at}

-- ---- where a text of an element ends

-- a longer text is cut at the same place
longer_cut : (s y : List ℕ) (n : ℕ) → n < length s → (take n (s ++ y) ≡ take n s) × (drop n (s ++ y) ≡ drop n s ++ y)
longer_cut s y n inside =
    let long : length (take n s) ≡ n = length-take-le n s (omega arith) in
    let cut = parted s y n in
    (ap (take n) cut ∙ take_at (take n s) (drop n s ++ y) n long, ap (drop n) cut ∙ drop_at (take n s) (drop n s ++ y) n long)

raw_longer : (name s y : List ℕ) (n : ℕ) → raw_end name s ≡ Some n → raw_end name (s ++ y) ≡ Some n
raw_longer name s y n h =
    let k = raw_ends_at name s n h in
    let inside = k.inside in
    let long : length (take n s) ≡ n = length-take-le n s (omega arith) in
    let found : raw_end name (take n s ++ drop n s) ≡ Some (length (take n s)) = rw (take-append-drop n s, long) h in
    rw (parted s y n) (place_same name (drop n s) (drop n s ++ y) k.begins (begins_longer name (drop n s) y k.begins) (take n s) 0 (length (take n s)) (omega arith) found ∙ ap Some long)

script_longer : (s y : List ℕ) (n : ℕ) → script_end s ≡ Some n → script_end (s ++ y) ≡ Some n
script_longer s y n h =
    let k = script_ends_at s n h in
    let inside = k.inside in
    let long : length (take n s) ≡ n = length-take-le n s (omega arith) in
    let found : script_end (take n s ++ drop n s) ≡ Some (length (take n s)) = rw (take-append-drop n s, long) h in
    rw (parted s y n) (first_same (drop n s) (drop n s ++ y) k.begins (begins_longer (codes "script") (drop n s) y k.begins) unescaped (take n s) 0 (length (take n s)) (omega arith) found ∙ ap Some long)

-- the same piece as read in a longer text
before_rest_extends : (read : Scanned) (tail y : List ℕ) → Extends y (before_rest read tail) (before_rest read (tail ++ y))
before_rest_extends (taken k left) tail y = ap (taken k) (sym (append_assoc left tail y))
before_rest_extends (refused faults.Cut) tail y = tt
before_rest_extends (refused faults.BadName) tail y = refl
before_rest_extends (refused faults.TooManyAttributes) tail y = refl
before_rest_extends (refused faults.BadDoctype) tail y = refl
before_rest_extends (refused faults.OutOfMemory) tail y = refl

inside_extends : (t : List Entry) (name s y : List ℕ) (o p : Option ℕ) (more : List ℕ → List ℕ → Scanned) → ((n : ℕ) → o ≡ Some n → (p ≡ Some n) × EndsAt name s n)
    → ((x tail : List ℕ) → Extends y (more x tail) (more x (tail ++ y))) → Extends y (read_inside t s o more) (read_inside t (s ++ y) p more)
inside_extends t name s y None p more ends each = tt
inside_extends t name s y (Some zero) p more ends each = rw (ends zero refl).0 (whatever_follows t s y)
inside_extends t name s y (Some (suc n)) p more ends each =
    let k = ends (suc n) refl in
    let cut = longer_cut s y (suc n) k.1.inside in
    rw (k.0, cut.0, cut.1) (each (take (suc n) s) (drop (suc n) s))

unless_end_extends : (s y : List ℕ) (read longer : Scanned) → Extends y read longer → NextExtends y (unless_end s read) (unless_end (s ++ y) longer)
unless_end_extends [] y read longer h = tt
unless_end_extends (c ∷ s) y read longer h = (longer, refl, h)

-- ---- where markup begins

pub markup_longer : (s y : List ℕ) → begins_markup s ≡ true → begins_markup (s ++ y) ≡ true
unfolding begins_markup
markup_longer [] y h = absurd (cc)
markup_longer (c ∷ []) y h = let both = and_parts (c == 60) false h in absurd (cc)
markup_longer (c ∷ d ∷ []) y h =
    let both = and_parts (c == 60) (opens_markup (d ∷ [])) h in
    rw both.0 (by_tests (is_letter d) (d == 33) (d == 63) (d == 47) both.1)
  where
    by_tests : (a b e f : Bool) → a || (b || (e || (f && false))) ≡ true → a || (b || (e || (f && not (is_null y)))) ≡ true
    by_tests true b e f h = refl
    by_tests false true e f h = refl
    by_tests false false true f h = refl
    by_tests false false false true h = absurd (cc)
    by_tests false false false false h = absurd (cc)
markup_longer (c ∷ d ∷ e ∷ s) y h = h

-- a '/' after '<' isn't the last byte
no_last_slash : (c d : ℕ) → begins_markup (c ∷ d ∷ []) ≡ true → (d == 47) ≡ false
unfolding begins_markup is_letter
no_last_slash c d h = by_test (d == 47) refl
  where
    by_test : (b : Bool) → (d == 47) ≡ b → b ≡ false
    by_test false e = refl
    by_test true e = let same : d ≡ 47 = eqb-true d 47 e in let both = and_parts (c == 60) (opens_markup (d ∷ [])) h in absurd (slash_ends d same both.1)
      where
        slash_ends : (d : ℕ) → d ≡ 47 → opens_markup (d ∷ []) ≡ true → ⊥
        slash_ends d e h = grind arith

no_single : (c : ℕ) → begins_markup (c ∷ []) ≡ true → ⊥
unfolding begins_markup
no_single c h = let both = and_parts (c == 60) false h in both_false both.1
  where
    both_false : false ≡ true → ⊥
    both_false e = cc

no_nothing : begins_markup [] ≡ true → ⊥
unfolding begins_markup
no_nothing h = cc

tag_longer : (s y : List ℕ) → begins_markup s ≡ true → begins_tag (s ++ y) ≡ begins_tag s
unfolding begins_tag
tag_longer [] y h = absurd (no_nothing h)
tag_longer (c ∷ []) y h = absurd (no_single c h)
tag_longer (c ∷ d ∷ []) y h = rw (turned d 47 (no_last_slash c d h)) (either (60 == c))
  where
    either : (a : Bool) → followed_by_letter (cond a (Some (d ∷ y)) None) || followed_by_letter (cond a None None) ≡ followed_by_letter (cond a (Some (d ∷ [])) None) || followed_by_letter (cond a None None)
    either true = refl
    either false = refl
tag_longer (c ∷ d ∷ e ∷ s) y h = either (60 == c) (47 == d)
  where
    either : (a b : Bool) → followed_by_letter (cond a (Some (d ∷ e ∷ (s ++ y))) None) || followed_by_letter (cond a (cond b (Some (e ∷ (s ++ y))) None) None)
        ≡ followed_by_letter (cond a (Some (d ∷ e ∷ s)) None) || followed_by_letter (cond a (cond b (Some (e ∷ s)) None) None)
    either true true = refl
    either true false = refl
    either false b = refl

-- ---- a longer text that begins otherwise: then the shorter one has no '>'

-- it begins with a word only when it is longer
unfinished : (w s y : List ℕ) → is_found (strip_word w s) ≡ false → is_found (strip_word w (s ++ y)) ≡ true → (rest : List ℕ) × (map lower s ++ rest ≡ w)
unfinished [] s y h i = absurd (cc)
unfinished (c ∷ w) [] y h i = (c ∷ w, refl)
unfinished (c ∷ w) (d ∷ s) y h i = by_test (c == lower d) refl h i (unfinished w s y)
  where
    by_test : (b : Bool) → (c == lower d) ≡ b → is_found (cond b (strip_word w s) None) ≡ false → is_found (cond b (strip_word w (s ++ y)) None) ≡ true
        → (is_found (strip_word w s) ≡ false → is_found (strip_word w (s ++ y)) ≡ true → (rest : List ℕ) × (map lower s ++ rest ≡ w)) → (rest : List ℕ) × (map lower (d ∷ s) ++ rest ≡ c ∷ w)
    by_test false e h i more = absurd (cc)
    by_test true e h i more =
        let same : c ≡ lower d = eqb-true c (lower d) e in
        let k = more h i in
        (k.0, ap₂ (λ x r. x ∷ r) (sym same) k.1)

unfinished_mark : (w s y : List ℕ) → is_found (strip w s) ≡ false → is_found (strip w (s ++ y)) ≡ true → (rest : List ℕ) × (s ++ rest ≡ w)
unfinished_mark [] s y h i = absurd (cc)
unfinished_mark (c ∷ w) [] y h i = (c ∷ w, refl)
unfinished_mark (c ∷ w) (d ∷ s) y h i = by_test (c == d) refl h i (unfinished_mark w s y)
  where
    by_test : (b : Bool) → (c == d) ≡ b → is_found (cond b (strip w s) None) ≡ false → is_found (cond b (strip w (s ++ y)) None) ≡ true
        → (is_found (strip w s) ≡ false → is_found (strip w (s ++ y)) ≡ true → (rest : List ℕ) × (s ++ rest ≡ w)) → (rest : List ℕ) × ((d ∷ s) ++ rest ≡ c ∷ w)
    by_test false e h i more = absurd (cc)
    by_test true e h i more =
        let same : c ≡ d = eqb-true c d e in
        let k = more h i in
        (k.0, ap₂ (λ x r. x ∷ r) (sym same) k.1)

byte_left : (d : ℕ) (xs ys : List ℕ) → has_byte d (xs ++ ys) ≡ false → has_byte d xs ≡ false
byte_left d [] ys h = refl
byte_left d (x ∷ xs) ys h = by_test (x == d) h (byte_left d xs ys)
  where
    by_test : (b : Bool) → b || has_byte d (xs ++ ys) ≡ false → (has_byte d (xs ++ ys) ≡ false → has_byte d xs ≡ false) → b || has_byte d xs ≡ false
    by_test true h more = absurd (cc)
    by_test false h more = more h

greater_lower : (c : ℕ) → (lower c == 62) ≡ false → (c == 62) ≡ false
unfolding lower
greater_lower c h = grind arith

no_greater : (s : List ℕ) → has_byte 62 (map lower s) ≡ false → has_byte 62 s ≡ false
no_greater [] h = refl
no_greater (c ∷ s) h = or_from (c == 62) (has_byte 62 s) (greater_lower c (or_parts (lower c == 62) (has_byte 62 (map lower s)) h).0) (no_greater s (or_parts (lower c == 62) (has_byte 62 (map lower s)) h).1)

byte_drop : (d n : ℕ) (s : List ℕ) → has_byte d s ≡ false → has_byte d (drop n s) ≡ false
byte_drop d zero s h = h
byte_drop d (suc n) [] h = h
byte_drop d (suc n) (c ∷ s) h = byte_drop d n s (or_parts (c == d) (has_byte d s) h).1

cut_missing : (d : ℕ) (s : List ℕ) → has_byte d s ≡ false → cut_at (d ∷ []) s ≡ None
cut_missing d [] h = refl
cut_missing d (c ∷ s) h = by_test (c == d) refl h (cut_missing d s)
  where
    by_test : (b : Bool) → (c == d) ≡ b → b || has_byte d s ≡ false → (has_byte d s ≡ false → cut_at (d ∷ []) s ≡ None) → or_go_on (cond (d == c) (Some s) None) c (cut_at (d ∷ []) s) ≡ None
    by_test true e h more = absurd (cc)
    by_test false e h more = rw (turned c d e, more h) refl

-- without '>' and without `<!--` there is no comment
no_comment : (s : List ℕ) → has_byte 62 s ≡ false → begins (codes "<!--") s ≡ false → read_comment s ≡ refused faults.Cut
unfolding read_comment
no_comment s none h = rw (by_tests (begins (codes "<?") s) (begins (codes "<!--") s) h) refl
  where
    by_tests : (a b : Bool) → b ≡ false → cond a (cut_at (codes ">") (drop 1 s)) (cond b (cut_comment (drop 4 s)) (cut_at (codes ">") (drop 2 s))) ≡ None
    by_tests true b e = cut_missing 62 (drop 1 s) (byte_drop 62 1 s none)
    by_tests false b e = rw e (cut_missing 62 (drop 2 s) (byte_drop 62 2 s none))

-- `<!--` begins no doctype and no CDATA section
dashes_no_doctype : (s y : List ℕ) → begins (codes "<!--") s ≡ true → begins_doctype (s ++ y) ≡ false
unfolding begins_doctype lower
dashes_no_doctype s y h = rw (front_stripped (codes "<!--") s (drop 4 s) (begins_front (codes "<!--") s h)) refl

dashes_no_cdata : (s y : List ℕ) → begins (codes "<!--") s ≡ true → begins_cdata (s ++ y) ≡ false
unfolding begins_cdata
dashes_no_cdata s y h = rw (front_stripped (codes "<!--") s (drop 4 s) (begins_front (codes "<!--") s h)) refl

cdata_no_doctype : (s y : List ℕ) → begins_cdata s ≡ true → begins_doctype (s ++ y) ≡ false
unfolding begins_cdata begins_doctype lower
cdata_no_doctype s y h = rw (front_stripped (codes "<![CDATA[") s (drop 9 s) (begins_front (codes "<![CDATA[") s h)) refl

doctype_greaterless : (s y : List ℕ) → begins_doctype s ≡ false → begins_doctype (s ++ y) ≡ true → has_byte 62 s ≡ false
unfolding begins_doctype
doctype_greaterless s y h i =
    let k = unfinished (codes "<!doctype") s y h i in
    no_greater s (byte_left 62 (map lower s) k.0 (rw k.1 refl))

cdata_greaterless : (s y : List ℕ) → begins_cdata s ≡ false → begins_cdata (s ++ y) ≡ true → has_byte 62 s ≡ false
unfolding begins_cdata
cdata_greaterless s y h i =
    let k = unfinished_mark (codes "<![CDATA[") s y h i in
    byte_left 62 s k.0 (rw k.1 refl)

-- a doctype or a CDATA section that isn't begun yet
doctype_later : (s y : List ℕ) → begins_doctype s ≡ false → begins_doctype (s ++ y) ≡ true → read_comment s ≡ refused faults.Cut
doctype_later s y h i = no_comment s (doctype_greaterless s y h i) (not_true (begins (codes "<!--") s) (λ e. both_ways (begins_doctype (s ++ y)) i (dashes_no_doctype s y e)))

cdata_later : (s y : List ℕ) → begins_cdata s ≡ false → begins_cdata (s ++ y) ≡ true → read_comment s ≡ refused faults.Cut
cdata_later s y h i = no_comment s (cdata_greaterless s y h i) (not_true (begins (codes "<!--") s) (λ e. both_ways (begins_cdata (s ++ y)) i (dashes_no_cdata s y e)))

found_longer : (o p : Option (List ℕ)) (y : List ℕ) → RestExtends y o p → is_found o ≡ true → is_found p ≡ true
found_longer None p y e h = absurd (cc)
found_longer (Some r) p y e h = rw e refl

word_extends : (w s y : List ℕ) → is_found (strip_word w s) ≡ true → is_found (strip_word w (s ++ y)) ≡ true
word_extends [] s y h = refl
word_extends (c ∷ w) [] y h = absurd (cc)
word_extends (c ∷ w) (d ∷ s) y h = by_test (c == lower d) h (word_extends w s y)
  where
    by_test : (b : Bool) → is_found (cond b (strip_word w s) None) ≡ true → (is_found (strip_word w s) ≡ true → is_found (strip_word w (s ++ y)) ≡ true) → is_found (cond b (strip_word w (s ++ y)) None) ≡ true
    by_test true h more = more h
    by_test false h more = absurd (cc)

doctype_longer : (s y : List ℕ) → begins_doctype s ≡ true → begins_doctype (s ++ y) ≡ true
unfolding begins_doctype
doctype_longer s y h = word_extends (codes "<!doctype") s y h

cdata_longer : (s y : List ℕ) → begins_cdata s ≡ true → begins_cdata (s ++ y) ≡ true
unfolding begins_cdata
cdata_longer s y h = found_longer (strip (codes "<![CDATA[") s) (strip (codes "<![CDATA[") (s ++ y)) y (strip_extends (codes "<![CDATA[") s y) h

-- ---- what is read where markup begins

cut_extends : (y : List ℕ) (read longer : Scanned) → read ≡ refused faults.Cut → Extends y read longer
cut_extends y read longer e = rw e tt

markup_extends : (t : List Entry) (foreign : Bool) (s y : List ℕ) → begins_markup s ≡ true → Extends y (read_markup t foreign s) (read_markup t foreign (s ++ y))
markup_extends t foreign s y begins =
    rw (tag_longer s y begins) (by_tests (begins_tag s) (begins_doctype s) refl (begins_doctype (s ++ y)) refl foreign (begins_cdata s) refl (begins_cdata (s ++ y)) refl)
  where
    by_tests : (a b : Bool) → begins_doctype s ≡ b → (c : Bool) → begins_doctype (s ++ y) ≡ c → (f d : Bool) → begins_cdata s ≡ d → (e : Bool) → begins_cdata (s ++ y) ≡ e
        → Extends y (cond a (read_tag t s) (cond b (read_doctype s) (cond (f && d) (read_cdata s) (read_comment s))))
        (cond a (read_tag t (s ++ y)) (cond c (read_doctype (s ++ y)) (cond (f && e) (read_cdata (s ++ y)) (read_comment (s ++ y)))))
    by_tests true b h c i f d j e k = whatever_follows t s y
    by_tests false true h true i f d j e k = doctype_extends s y
    by_tests false true h false i f d j e k = absurd (both_ways (begins_doctype (s ++ y)) (doctype_longer s y h) i)
    by_tests false false h true i true true j e k = absurd (both_ways (begins_doctype (s ++ y)) i (cdata_no_doctype s y j))
    by_tests false false h true i true false j e k = cut_extends y (read_comment s) _ (doctype_later s y h i)
    by_tests false false h true i false d j e k = cut_extends y (read_comment s) _ (doctype_later s y h i)
    by_tests false false h false i true true j true k = cdata_extends s y
    by_tests false false h false i true true j false k = absurd (both_ways (begins_cdata (s ++ y)) (cdata_longer s y j) k)
    by_tests false false h false i true false j true k = cut_extends y (read_comment s) _ (cdata_later s y j k)
    by_tests false false h false i true false j false k = comment_extends s y
    by_tests false false h false i false d j e k = comment_extends s y

here_extends : (t : List Entry) (foreign : Bool) (s y : List ℕ) → begins_markup s ≡ true → Extends y (read_here t foreign s) (read_here t foreign (s ++ y))
here_extends t foreign s y begins = rw (begins, markup_longer s y begins) (markup_extends t foreign s y begins)

-- ---- `</>` at the start of a longer text

abbrev pub longer_after : List ℕ → Remainder → Remainder
longer_after y k = record { count = k.count; rest = k.rest ++ y }

pub empty_tags_longer : (s y : List ℕ) → begins_markup (after_empty_tags s).rest ≡ true → after_empty_tags (s ++ y) ≡ longer_after y (after_empty_tags s)
empty_tags_longer [] y h = absurd (no_nothing h)
empty_tags_longer (a ∷ []) y h = absurd (no_single a h)
empty_tags_longer (a ∷ b ∷ []) [] h = refl
empty_tags_longer (a ∷ b ∷ []) (c ∷ y) h = rw (no_last_slash a b h) (either (a == 60))
  where
    either : (x : Bool) → cond (x && false) (three_more (after_empty_tags y)) (nothing_skipped (a ∷ b ∷ c ∷ y)) ≡ nothing_skipped (a ∷ b ∷ c ∷ y)
    either true = refl
    either false = refl
empty_tags_longer (a ∷ b ∷ c ∷ s) y h = by_test (a == 60 && (b == 47 && c == 62)) h (empty_tags_longer s y)
  where
    by_test : (x : Bool) → begins_markup (cond x (three_more (after_empty_tags s)) (nothing_skipped (a ∷ b ∷ c ∷ s))).rest ≡ true
        → (begins_markup (after_empty_tags s).rest ≡ true → after_empty_tags (s ++ y) ≡ longer_after y (after_empty_tags s))
        → cond x (three_more (after_empty_tags (s ++ y))) (nothing_skipped (a ∷ b ∷ c ∷ (s ++ y))) ≡ longer_after y (cond x (three_more (after_empty_tags s)) (nothing_skipped (a ∷ b ∷ c ∷ s)))
    by_test true h more = ap three_more (more h)
    by_test false h more = refl

next_here_extends : (t : List Entry) (foreign : Bool) (k : Remainder) (y : List ℕ) → begins_markup k.rest ≡ true → NextExtends y (next_here t foreign k) (next_here t foreign (longer_after y k))
next_here_extends t foreign k y h = rw (some k.rest h, some (k.rest ++ y) (markup_longer k.rest y h)) (read_here t foreign (k.rest ++ y), refl, here_extends t foreign k.rest y h)
  where
    some : (s : List ℕ) → begins_markup s ≡ true → is_null s ≡ false
    some [] h = absurd (no_nothing h)
    some (c ∷ s) h = refl

-- ---- the law

pub next_tokens_extend : NextTokensExtend
unfolding first
next_tokens_extend t ordinary s y h = rw (empty_tags_longer s y h) (next_here_extends t false (after_empty_tags s) y h)
next_tokens_extend t in_svg s y h = rw (empty_tags_longer s y h) (next_here_extends t true (after_empty_tags s) y h)
next_tokens_extend t (rcdata name) s y h =
    unless_end_extends s y (read_inside t s (raw_end name s) (read_references t)) (read_inside t (s ++ y) (raw_end name (s ++ y)) (read_references t))
    (inside_extends t name s y (raw_end name s) (raw_end name (s ++ y)) (read_references t) (λ n e. (raw_longer name s y n e, raw_ends_at name s n e)) (λ x tail. before_rest_extends (read_text t true x) tail y))
next_tokens_extend t (raw name) s y h =
    unless_end_extends s y (read_inside t s (raw_end name s) read_nothing) (read_inside t (s ++ y) (raw_end name (s ++ y)) read_nothing)
    (inside_extends t name s y (raw_end name s) (raw_end name (s ++ y)) read_nothing (λ n e. (raw_longer name s y n e, raw_ends_at name s n e)) (λ x tail. refl))
next_tokens_extend t script s y h =
    unless_end_extends s y (read_inside t s (script_end s) read_nothing) (read_inside t (s ++ y) (script_end (s ++ y)) read_nothing)
    (inside_extends t (codes "script") s y (script_end s) (script_end (s ++ y)) read_nothing (λ n e. (script_longer s y n e, script_ends_at s n e)) (λ x tail. refl))
