-- Texts where they stand: each byte is kept, except a line feed that is dropped.
use Rattle.std.proofs.Common.{◌≡◌, ℕ, Bool, true, false, cond, ◌&&◌, ◌==◌, List, [], ◌∷◌, ◌++◌, refl, ◌∙◌, ap, chars, encode_utf8_all, arith, if◌then◌else◌}
use lib.Utf8.{encode}
use Rattle.std.proofs.lemmas.Bool.{and_parts, both_ways, false_from_ne_true}
use Rattle.std.proofs.lemmas.Str.{chars_past_char, encodes-chars, chars-nil, IsUtf8-from_is_utf8}
use Rattle.std.specs.Str.{is_utf8, IsUtf8}
use Rattle.hm_base.specs.Bytes.{is_space, is_null, head_is, all_pass}
use Rattle.hm_base.specs.Walks.{Event, start, text, comment, doctype, end, Element, text_before, pushes, begins_text}
use Rattle.hm_base.specs.declared.rules.Rule.TheVariants.{TextHere}
use Rattle.hm_elements.specs.Paths.{is_in_raw, is_in_text, is_in_blank}
use Rattle.hm_spelling_spec.specs.Spellings.{Before, is_opening, is_line_feed, drops_first_line_feed}
use Rattle.hm_construction_laws.specs.Steps.{InsertionMode, in_head, after_head, in_body, Construction, went, stops, drops_after, keep_byte, step_byte}
use Rattle.hm_construction_laws.proofs.Texts.{texts, texts_join}
use Rattle.hm_round_trip_laws.specs.Texts.{text_as_read}
use Rattle.hm_round_trip_laws.proofs.Runs.{Run, ran, halted, after_run, then_run, run_of, run_bytes}
use Rattle.hm_round_trip_laws.proofs.Frame.{here}

-- ---- The line feed that is dropped

-- whether a line feed that comes next is dropped
abbrev pub flag : Before → List Element → Bool
flag before path = is_opening before && drops_first_line_feed path

pub flag_after : (e : Element) (path : List Element) → drops_after (e ∷ path) ≡ drops_first_line_feed (e ∷ path)
unfolding drops_first_line_feed
flag_after e path = refl

encoded_line_feed : encode 10 ≡ 10 ∷ []
unfolding encode
encoded_line_feed = refl

no_line_feed : (c : ℕ) (s cs : List ℕ) → c == 10 ≡ false → encode_utf8_all cs ≡ c ∷ s → head_is is_line_feed cs ≡ false
no_line_feed c s [] e h = refl
no_line_feed c s (d ∷ ds) e h = false_from_ne_true (d == 10) (λ k. differs (is_ten k))
  where
    is_ten : d == 10 ≡ true → d ≡ 10
    is_ten k = grind arith

    differs : d ≡ 10 → ⊥
    differs k =
        let all : encode_utf8_all (10 ∷ ds) ≡ c ∷ s = rw k at h in
        let front : 10 ∷ encode_utf8_all ds ≡ c ∷ s = rw encoded_line_feed at all in
        let same : c ≡ 10 = cc in
        both_ways (c == 10) e (rw same refl)

line_feed_first : (s : List ℕ) → is_utf8 s ≡ true → head_is is_line_feed (chars s) ≡ head_is is_line_feed s
line_feed_first [] u = rw chars-nil refl
line_feed_first (c ∷ s) u = by (c == 10) refl
  where
    v : IsUtf8 (c ∷ s)
    v = IsUtf8-from_is_utf8 (c ∷ s) u

    by : (b : Bool) → c == 10 ≡ b → head_is is_line_feed (chars (c ∷ s)) ≡ b
    by true e =
        let same : c ≡ 10 = grind arith in
        let cut : c ∷ s ≡ encode 10 ++ s = rw (same, encoded_line_feed) refl in
        rw (chars_past_char (c ∷ s) s 10 v cut) refl
    by false e = no_line_feed c s (chars (c ∷ s)) e (encodes-chars (c ∷ s) v)

pub read_text : (before : Before) (path : List Element) (s : List ℕ) → is_utf8 s ≡ true → text_as_read before path s ≡ (if flag before path && head_is is_line_feed s then 10 ∷ s else s)
read_text before path s u = rw (line_feed_first s u) (by (is_opening before) (drops_first_line_feed path) (head_is is_line_feed s))
  where
    by : (a b c : Bool) → cond (a && (b && c)) (10 ∷ s) s ≡ cond ((a && b) && c) (10 ∷ s) s
    by true b c = refl
    by false b c = refl

-- ---- Runs

-- bytes that pass a test are kept
pub run_kept : (st : Construction) (raw : Bool) (q : ℕ → Bool) → ((c : ℕ) → q c ≡ true → run_of (step_byte c st) ≡ ran (text (c ∷ []) raw ∷ []) st) → (s : List ℕ) → all_pass q s ≡ true → run_bytes s st ≡ ran (texts raw s) st
run_kept st raw q keeps [] h = refl
run_kept st raw q keeps (c ∷ s) h =
    let two = and_parts (q c) (all_pass q s) h in
    ap (λ r. then_run r (run_bytes s)) (keeps c two.0) ∙ ap (after_run (text (c ∷ []) raw ∷ [])) (run_kept st raw q keeps s two.1)

abbrev pub any_byte : ℕ → Bool
any_byte c = true

pub all_any : (s : List ℕ) → all_pass any_byte s ≡ true
all_any [] = refl
all_any (c ∷ s) = all_any s

none_follows : (r : Run) → after_run [] r ≡ r
none_follows (ran es st) = refl
none_follows halted = refl

dropped : (mode : InsertionMode) (path : List Element) (s : List ℕ) → run_bytes (10 ∷ s) (here mode path true) ≡ run_bytes s (here mode path false)
unfolding step_byte
dropped mode path s = none_follows (run_bytes s (here mode path false))

not_dropped : (mode : InsertionMode) (path : List Element) (c : ℕ) → c == 10 ≡ false → step_byte c (here mode path true) ≡ step_byte c (here mode path false)
unfolding step_byte
not_dropped mode path c h = rw h refl

-- a text as it is read runs as the text itself does where nothing is dropped
pub run_read : (mode : InsertionMode) (path : List Element) (drops : Bool) (s : List ℕ) → is_null s ≡ false → run_bytes (if drops && head_is is_line_feed s then 10 ∷ s else s) (here mode path drops) ≡ run_bytes s (here mode path false)
run_read mode path drops [] h = cc
run_read mode path false (c ∷ s) h = refl
run_read mode path true (c ∷ s) h = by (c == 10) refl
  where
    by : (b : Bool) → c == 10 ≡ b → run_bytes (cond b (10 ∷ c ∷ s) (c ∷ s)) (here mode path true) ≡ run_bytes (c ∷ s) (here mode path false)
    by true e = dropped mode path (c ∷ s)
    by false e = ap (λ o. then_run (run_of o) (run_bytes s)) (not_dropped mode path c e)

-- ---- Bytes that are kept

-- in title, textarea, style, iframe and script
pub text_byte : (mode : InsertionMode) (path : List Element) (c : ℕ) → is_in_text path ≡ true → step_byte c (here mode path false) ≡ went (text (c ∷ []) (is_in_raw path) ∷ []) (here mode path false)
unfolding step_byte
text_byte mode path c h = rw h refl

-- in body, where what isn't whitespace may stand
pub body_byte : (path : List Element) (c : ℕ) → is_in_text path ≡ false → (is_in_blank path ≡ true → is_space c ≡ true) → step_byte c (here in_body path false) ≡ went (text (c ∷ []) (is_in_raw path) ∷ []) (here in_body path false)
unfolding step_byte
body_byte path c h space = rw h (by (is_space c) (is_in_blank path) space)
  where
    by : (a b : Bool) → (b ≡ true → a ≡ true) → cond a (keep_byte c (here in_body path false)) (cond b (stops TextHere 0) (keep_byte c (here in_body path false))) ≡ went (text (c ∷ []) (is_in_raw path) ∷ []) (here in_body path false)
    by true b e = refl
    by false true e = let bad : false ≡ true = e refl in cc
    by false false e = refl

-- whitespace in head, and after it
pub head_space : (path : List Element) (c : ℕ) → is_in_text path ≡ false → is_space c ≡ true → step_byte c (here in_head path false) ≡ went (text (c ∷ []) (is_in_raw path) ∷ []) (here in_head path false)
unfolding step_byte
head_space path c h space = rw (h, space) refl

pub space_after : (path : List Element) (c : ℕ) → is_in_text path ≡ false → is_space c ≡ true → step_byte c (here after_head path false) ≡ went (text (c ∷ []) (is_in_raw path) ∷ []) (here after_head path false)
unfolding step_byte
space_after path c h space = rw (h, space) refl

-- ---- The event of a text

not_joined : (s : List ℕ) (raw : Bool) (w : List Event) → begins_text w ≡ false → text_before s raw w ≡ text s raw ∷ w
not_joined s raw [] h = refl
not_joined s raw (doctype legacy ∷ w) h = refl
not_joined s raw (start n foreign attributes ∷ w) h = refl
not_joined s raw (text t r ∷ w) h = cc
not_joined s raw (comment t ∷ w) h = refl
not_joined s raw (end n foreign ∷ w) h = refl

pub one_text : (s : List ℕ) (raw : Bool) (w : List Event) → is_null s ≡ false → begins_text w ≡ false → pushes (texts raw s) w ≡ text s raw ∷ w
one_text [] raw w some alone = cc
one_text (c ∷ s) raw w some alone = texts_join raw c s w ∙ not_joined (c ∷ s) raw w alone
