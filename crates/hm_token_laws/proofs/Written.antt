-- Written tags, comments, doctypes and texts of elements are the next token.
use Rattle.std.proofs.Common.{◌≡◌, ℕ, ◌<◌, Bool, true, false, cond, ◌||◌, ◌==◌, List, [], ◌∷◌, ◌++◌, map, length, Option, Some, None, refl, inl, inr, ap, ap₂, sym, subst, ◌∙◌, arith, append_assoc, codes}
use Rattle.std.proofs.lemmas.Bool.{and_parts, eqb-true, eq-eqb}
use Rattle.std.proofs.lemmas.List.{take_at, drop_at}
use Rattle.hm_base.specs.Bytes.{head_is, is_null, is_letter, is_space, lower, strip_word}
use Rattle.hm_base.specs.Forms.{is_blank}
use Rattle.hm_base.specs.RawText.{is_name_end, begins_end_tag, raw_end, script_end, unescaped}
use Rattle.hm_scan.specs.Comments.{read_comment, begins_cdata}
use Rattle.hm_scan.specs.Doctypes.{begins_doctype, read_doctype}
use Rattle.hm_scan.proofs.Lowered.{lower_cases}
use Rattle.hm_scan.proofs.RawTextLaws.{place_first, place_same}
use Rattle.hm_scan.proofs.ScriptLaws.{mark_of_end, first_same}
use Rattle.hm_scan.proofs.WrittenComments.{comment_is_read}
use Rattle.hm_scan.proofs.WrittenDoctypes.{doctype_is_read}
use Rattle.hm_markup_spec.specs.Doctypes.{WritesDoctype}
use Rattle.hm_markup_spec.specs.Tags.{WritesEnd}
use Rattle.hm_refs.specs.Names.{Entry}
use Rattle.hm_scan.specs.Reading.{read_tag, followed_by_letter, begins_tag}
use Rattle.hm_scan.proofs.WrittenTags.{starts_read, ends_read}
use Rattle.hm_scan.specs.Texts.{begins_markup}
use Rattle.hm_tree.specs.Tokens.{slice, Scanned, taken}
use Rattle.hm_token_laws.specs.First.{Mode, ordinary, in_svg, rcdata, raw, script, after_bytes, read_markup, nothing_skipped, after_empty_tags, next_here, read_inside, read_references, read_nothing, unless_end, first}
use Rattle.hm_token_laws.specs.Laws.{reads_markup}
use Rattle.hm_token_laws.specs.Written.{StartsAreNext, EndsAreNext, IsTextOf, TextEndsAreNext, CommentsAreNext, DoctypesAreNext, RawTextsAreNext, ScriptsAreNext}
use Rattle.hm_token_laws.proofs.Bools.{same_parts}
use Rattle.hm_token_laws.proofs.Elements.{raw_ends_at, script_ends_at}

-- ---- where markup begins

-- whether CDATA sections are read
reads_cdata : Mode → Bool
reads_cdata in_svg = true
reads_cdata mode = false

-- markup other than `</>`
record IsMarkup (s : List ℕ) : Type 0 where
  begins : begins_markup s ≡ true
  no_empty : after_empty_tags s ≡ nothing_skipped s

not_null : (s : List ℕ) → begins_markup s ≡ true → is_null s ≡ false
unfolding begins_markup
not_null [] h = absurd (cc)
not_null (c ∷ s) h = refl

here_first : (t : List Entry) (foreign : Bool) (s : List ℕ) → IsMarkup s → next_here t foreign (after_empty_tags s) ≡ after_bytes 0 (read_markup t foreign s)
here_first t foreign s m = rw (m.no_empty, not_null s m.begins, m.begins) refl

markup_first : (t : List Entry) (mode : Mode) (s : List ℕ) → reads_markup mode ≡ true → IsMarkup s → first t mode s ≡ after_bytes 0 (read_markup t (reads_cdata mode) s)
unfolding first reads_cdata
markup_first t ordinary s h m = here_first t false s m
markup_first t in_svg s h m = here_first t true s m
markup_first t (rcdata name) s h m = absurd (cc)
markup_first t (raw name) s h m = absurd (cc)
markup_first t script s h m = absurd (cc)

-- ---- tags

data TagShape (s : List ℕ) : Type 0 where
  start : (d : ℕ) (r : List ℕ) → s ≡ 60 ∷ d ∷ r → is_letter d ≡ true → TagShape s
  end : (d : ℕ) (r : List ℕ) → s ≡ 60 ∷ 47 ∷ d ∷ r → is_letter d ≡ true → TagShape s

tag_shape : (s : List ℕ) → begins_tag s ≡ true → TagShape s
unfolding begins_tag
tag_shape [] h = absurd (cc)
tag_shape (c ∷ []) h = by_test (60 == c) h
  where
    by_test : (b : Bool) → followed_by_letter (cond b (Some []) None) || followed_by_letter (cond b None None) ≡ true → TagShape (c ∷ [])
    by_test true h = absurd (cc)
    by_test false h = absurd (cc)
tag_shape (c ∷ d ∷ r) h = by_tests (60 == c) refl (47 == d) refl (is_letter d) refl h
  where
    ending : (x : List ℕ) → r ≡ x → 60 ≡ c → 47 ≡ d → head_is is_letter x ≡ true → TagShape (c ∷ d ∷ r)
    ending [] e one two h = absurd (cc)
    ending (f ∷ x) e one two h = end f x (rw (one, two, e) refl) h

    by_tests : (a : Bool) → (60 == c) ≡ a → (b : Bool) → (47 == d) ≡ b → (l : Bool) → is_letter d ≡ l
        → followed_by_letter (cond a (Some (d ∷ r)) None) || followed_by_letter (cond a (cond b (Some r) None) None) ≡ true → TagShape (c ∷ d ∷ r)
    by_tests false e b f l g h = absurd (cc)
    by_tests true e b f true g h = let one : 60 ≡ c = eqb-true 60 c e in start d r (rw one refl) g
    by_tests true e true f false g h = ending r refl (eqb-true 60 c e) (eqb-true 47 d f) (rw g at h)
    by_tests true e false f false g h = absurd (let k : false ≡ true = rw g at h in cc)

letter_no_slash : (d : ℕ) → is_letter d ≡ true → (d == 47) ≡ false
unfolding is_letter
letter_no_slash d h = grind arith

letter_no_end : (d : ℕ) → is_letter d ≡ true → (d == 62) ≡ false
unfolding is_letter
letter_no_end d h = grind arith

start_markup : (d : ℕ) (r : List ℕ) → is_letter d ≡ true → IsMarkup (60 ∷ d ∷ r)
unfolding begins_markup
start_markup d [] h = record { begins = rw h refl; no_empty = refl }
start_markup d (c ∷ r) h = record { begins = rw h refl; no_empty = rw (letter_no_slash d h) refl }

end_markup : (d : ℕ) (r : List ℕ) → is_letter d ≡ true → IsMarkup (60 ∷ 47 ∷ d ∷ r)
unfolding begins_markup is_letter
end_markup d r h = record { begins = refl; no_empty = rw (letter_no_end d h) refl }

tag_markup : (s : List ℕ) → TagShape s → IsMarkup s
tag_markup s (start d r e h) = subst IsMarkup (sym e) (start_markup d r h)
tag_markup s (end d r e h) = subst IsMarkup (sym e) (end_markup d r h)

tag_first : (t : List Entry) (mode : Mode) (s : List ℕ) → reads_markup mode ≡ true → begins_tag s ≡ true → first t mode s ≡ after_bytes 0 (read_tag t s)
tag_first t mode s m h = markup_first t mode s m (tag_markup s (tag_shape s h)) ∙ ap (after_bytes 0) (rw h refl)

pub starts_are_next : StartsAreNext
starts_are_next t mode name attributes slash b after m good allowed w =
    let r = starts_read t name attributes slash b after good allowed w in
    ((tag_markup (b ++ after) (tag_shape (b ++ after) r.0)).begins, tag_first t mode (b ++ after) m r.0 ∙ ap (after_bytes 0) r.1)

pub ends_are_next : EndsAreNext
ends_are_next t mode name b after m good w =
    let r = ends_read t name b after good w in
    ((tag_markup (b ++ after) (tag_shape (b ++ after) r.0)).begins, tag_first t mode (b ++ after) m r.0 ∙ ap (after_bytes 0) r.1)

-- ---- end tags of elements with text

word_front : (w xs s : List ℕ) → map lower xs ≡ w → strip_word w (xs ++ s) ≡ Some s
word_front w [] s e = rw (← e) refl
word_front w (x ∷ xs) s e =
    let same : (lower x == lower x) ≡ true = eq-eqb (lower x) (lower x) refl in
    rw (← e, same) (word_front (map lower xs) xs s refl)

gap_ends : (gap r : List ℕ) → is_blank gap ≡ true → head_is is_name_end (gap ++ 62 ∷ r) ≡ true
unfolding is_name_end is_space
gap_ends [] r h = refl
gap_ends (c ∷ gap) r h = by_test (and_parts (is_space c) (is_blank gap) h).0
  where
    by_test : is_space c ≡ true → is_space c || c == 47 || c == 62 ≡ true
    by_test e = rw e refl

written_end : (name b after : List ℕ) → WritesEnd name b → begins_end_tag name (b ++ after) ≡ true
unfolding begins_end_tag lower
written_end name b after w =
    let cut : (w.written ++ (w.gap ++ 62 ∷ [])) ++ after ≡ w.written ++ (w.gap ++ 62 ∷ after) = append_assoc w.written (w.gap ++ 62 ∷ []) after ∙ ap (λ x. w.written ++ x) (append_assoc w.gap (62 ∷ []) after) in
    rw (w.is, cut, word_front name w.written (w.gap ++ 62 ∷ after) w.lowered) (gap_ends w.gap after w.blank)

ends_something : (name s : List ℕ) → begins_end_tag name s ≡ true → is_null s ≡ false
unfolding begins_end_tag
ends_something name [] h = absurd (cc)
ends_something name (c ∷ s) h = refl

at_once : (t : List Entry) (s : List ℕ) (o : Option ℕ) (more : List ℕ → List ℕ → Scanned) → is_null s ≡ false → o ≡ Some 0 → unless_end s (read_inside t s o more) ≡ after_bytes 0 (read_tag t s)
at_once t s o more some e = rw (some, e) refl

script_at_once : (s : List ℕ) → begins_end_tag (codes "script") s ≡ true → script_end s ≡ Some 0
unfolding begins_end_tag
script_at_once [] h = absurd (cc)
script_at_once (c ∷ s) h = rw (mark_of_end (c ∷ s) h) refl

text_end_first : (t : List Entry) (mode : Mode) (name s : List ℕ) → IsTextOf mode name → begins_end_tag name s ≡ true → first t mode s ≡ after_bytes 0 (read_tag t s)
unfolding first
text_end_first t ordinary name s m h = absurd m
text_end_first t in_svg name s m h = absurd m
text_end_first t (rcdata own) name s m h = let own_end = subst (λ n. begins_end_tag n s ≡ true) (sym m) h in at_once t s (raw_end own s) (read_references t) (ends_something name s h) (place_first own s 0 own_end)
text_end_first t (raw own) name s m h = let own_end = subst (λ n. begins_end_tag n s ≡ true) (sym m) h in at_once t s (raw_end own s) read_nothing (ends_something name s h) (place_first own s 0 own_end)
text_end_first t script name s m h = at_once t s (script_end s) read_nothing (ends_something name s h) (script_at_once s (subst (λ n. begins_end_tag n s ≡ true) (sym m) h))

pub text_ends_are_next : TextEndsAreNext
text_ends_are_next t mode name b after m good w =
    text_end_first t mode name (b ++ after) m (written_end name b after w) ∙ ap (after_bytes 0) (ends_read t name b after good w).1

-- ---- comments and doctypes

comment_markup : (s : List ℕ) → IsMarkup (codes "<!--" ++ s)
unfolding begins_markup is_letter
comment_markup s = record { begins = refl; no_empty = refl }

comment_first : (t : List Entry) (foreign : Bool) (s : List ℕ) → read_markup t foreign (codes "<!--" ++ s) ≡ read_comment (codes "<!--" ++ s)
unfolding begins_tag begins_doctype begins_cdata is_letter lower
comment_first t true s = refl
comment_first t false s = refl

pub comments_are_next : CommentsAreNext
comments_are_next t mode s after m h =
    let k = comment_markup (s ++ (codes "-->" ++ after)) in (
      k.begins,
      markup_first t mode (codes "<!--" ++ (s ++ (codes "-->" ++ after))) m k
          ∙ ap (after_bytes 0) (comment_first t (reads_cdata mode) (s ++ (codes "-->" ++ after)) ∙ comment_is_read s after h),
    )

-- the word of a doctype
record DoctypeWord (b : List ℕ) : Type 0 where
  word : List ℕ
  more : List ℕ
  is : b ≡ word ++ more
  lowered : map lower word ≡ codes "<!doctype"

doctype_word : (legacy : Bool) (b : List ℕ) → WritesDoctype false legacy b → DoctypeWord b
doctype_word false b w = record { word = w.word; more = w.gap ++ (w.name ++ (w.tail ++ codes ">")); is = w.whole; lowered = w.word_is }
doctype_word true b w = record { word = w.word; more = _; is = w.whole; lowered = w.word_is }

lowered_sign : (c d : ℕ) → d < 65 → lower c ≡ d → c ≡ d
lowered_sign c d low e = elim (lower_cases c) [
  | inl w ↦ let high = w.0 in let up = w.2 in absurd (omega arith)
  | inr w ↦ let same = w.1 in omega arith
]

record Declared (s : List ℕ) : Type 0 where
  more : List ℕ
  is : s ≡ 60 ∷ 33 ∷ more

declared : (word s : List ℕ) → map lower word ≡ codes "<!doctype" → Declared (word ++ s)
declared [] s e = absurd (cc)
declared (c ∷ []) s e = absurd (let k = same_parts (lower c) 60 [] _ e in let l = k.1 in cc)
declared (c ∷ d ∷ word) s e =
    let one = same_parts (lower c) 60 (lower d ∷ map lower word) (codes "!doctype") e in
    let two = same_parts (lower d) 33 (map lower word) (codes "doctype") one.1 in
    record { more = word ++ s; is = rw (lowered_sign c 60 (omega arith) one.0, lowered_sign d 33 (omega arith) two.0) refl }

declared_markup : (s : List ℕ) → IsMarkup (60 ∷ 33 ∷ s)
unfolding begins_markup is_letter
declared_markup [] = record { begins = refl; no_empty = refl }
declared_markup (c ∷ s) = record { begins = refl; no_empty = refl }

declared_no_tag : (s : List ℕ) → begins_tag (60 ∷ 33 ∷ s) ≡ false
unfolding begins_tag is_letter
declared_no_tag s = refl

doctype_begins : (word s : List ℕ) → map lower word ≡ codes "<!doctype" → begins_doctype (word ++ s) ≡ true
unfolding begins_doctype
doctype_begins word s e = rw (word_front (codes "<!doctype") word s e) refl

doctype_first : (t : List Entry) (foreign : Bool) (s : List ℕ) → Declared s → begins_doctype s ≡ true → read_markup t foreign s ≡ read_doctype s
doctype_first t foreign s d h =
    let no : begins_tag s ≡ false = subst (λ x. begins_tag x ≡ false) (sym d.is) (declared_no_tag d.more) in
    rw (no, h) refl

pub doctypes_are_next : DoctypesAreNext
doctypes_are_next t mode legacy b after m w =
    let k = doctype_word legacy b w in
    let cut : b ++ after ≡ k.word ++ (k.more ++ after) = ap (λ x. x ++ after) k.is ∙ append_assoc k.word k.more after in
    let d : Declared (b ++ after) = subst Declared (sym cut) (declared k.word (k.more ++ after) k.lowered) in
    let begins : begins_doctype (b ++ after) ≡ true = subst (λ x. begins_doctype x ≡ true) (sym cut) (doctype_begins k.word (k.more ++ after) k.lowered) in
    let k = subst IsMarkup (sym d.is) (declared_markup d.more) in
    (k.begins, markup_first t mode (b ++ after) m k ∙ ap (after_bytes 0) (doctype_first t (reads_cdata mode) (b ++ after) d begins ∙ doctype_is_read legacy b after w))

-- ---- texts in which nothing is read

before_end : (t : List Entry) (s each : List ℕ) (o : Option ℕ) → is_null s ≡ false → o ≡ Some (length s) → unless_end (s ++ each) (read_inside t (s ++ each) o read_nothing) ≡ after_bytes 0 (taken (slice s) each)
before_end t [] each o some e = absurd (cc)
before_end t (c ∷ s) each o some e =
    rw e (ap₂ (λ x y. after_bytes 0 (taken (slice x) y)) (take_at (c ∷ s) each (length (c ∷ s)) refl) (drop_at (c ∷ s) each (length (c ∷ s)) refl))

pub raw_texts_are_next : RawTextsAreNext
unfolding first
raw_texts_are_next t name s some each there found ends =
    let k = raw_ends_at name (s ++ some) (length s) found in
    let begins : begins_end_tag name some ≡ true = rw (drop_at s some (length s) refl) at k.begins in
    before_end t s each (raw_end name (s ++ each)) there (place_same name some each begins ends s 0 (length s) (omega arith) found)

pub scripts_are_next : ScriptsAreNext
unfolding first
scripts_are_next t s some each there found ends =
    let k = script_ends_at (s ++ some) (length s) found in
    let begins : begins_end_tag (codes "script") some ≡ true = rw (drop_at s some (length s) refl) at k.begins in
    before_end t s each (script_end (s ++ each)) there (first_same some each begins ends unescaped s 0 (length s) (omega arith) found)
