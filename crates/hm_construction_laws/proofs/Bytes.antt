-- Text tokens: each byte is kept, dropped or refused, or the first one that isn't whitespace makes body.
use Rattle.std.proofs.Common.{◌≡◌, ℕ, ◌+◌, ◌<◌, bytes_eq, codes, inl, inr, Bool, true, false, cond, ◌&&◌, ◌||◌, not, if◌then◌else◌, List, [], ◌∷◌, ◌++◌, refl, ◌∙◌, arith}
use Rattle.std.proofs.lemmas.Bool.{both_ways, and_parts, and_from, or_cases, not-true}
use Rattle.std.specs.Str.{is_utf8}
use Rattle.std.proofs.lemmas.Str.{IsUtf8-drop, IsUtf8-take, IsCharBoundary-after_ascii, IsUtf8-from_is_utf8, is_utf8-from_IsUtf8}
use Rattle.std.specs.List.{list_all}
use Rattle.hm_base.specs.Bytes.{is_space}
use Rattle.hm_base.specs.Forms.{has_byte, is_byte, is_blank}
use Rattle.hm_base.specs.Walks.{Event, Element, text_before, pushes}
use Rattle.hm_base.specs.declared.rules.Rule.{Rule}
use Rattle.hm_base.specs.declared.rules.Rule.TheVariants.{TextHere, AfterBody}
use Rattle.hm_elements.specs.Names.{is_among, head, body, noscript}
use Rattle.hm_elements.specs.Tables.{is_raw, raw_names, is_rcdata, rcdata_names, holds_text}
use Rattle.hm_elements.specs.Nesting.{is_name}
use Rattle.hm_elements.specs.Paths.{current_name, is_in_raw, is_in_text, is_in_blank, blank_parents}
use Rattle.hm_elements.specs.Places.{SettledAfterBody, SettledBeforeBody}
use Rattle.hm_elements.proofs.TableTools.{entry_passes}
use Rattle.hm_construction_laws.specs.Steps.{InsertionMode, initial, before_html, before_head, in_head, after_head, in_body, after_body, after_html, Construction, Stepped, went, stops, stepped_after_events, after_bytes, then_step, reach_body, is_in_noscript, keep_byte, space_byte, body_byte, kept_byte, no_drop, step_byte, step_bytes}
use Rattle.hm_construction_laws.proofs.Standing.{SettledAt, Good, Leads}
use Rattle.hm_construction_laws.proofs.Texts.{Piece, text_inside, texts, texts_join}

-- ---- Facts

pub no_text_no_raw : (path : List Element) → is_in_text path ≡ false → is_in_raw path ≡ false
unfolding holds_text
no_text_no_raw [] h = refl
no_text_no_raw (e ∷ path) h = by e.foreign (is_raw e.name) h
  where
    by : (f r : Bool) → not f && (r || is_rcdata e.name) ≡ false → not f && r ≡ false
    by true r k = refl
    by false true k = cc
    by false false k = refl

abbrev is_no_blank_parent : List ℕ → Bool
is_no_blank_parent n = not (is_among n blank_parents || bytes_eq n noscript)

texts_unblank : list_all is_no_blank_parent (raw_names ++ codes "script" ∷ []) && list_all is_no_blank_parent rcdata_names ≡ true
unfolding blank_parents raw_names rcdata_names is_among
texts_unblank = refl

text_unblank : (n : List ℕ) → holds_text n ≡ true → is_no_blank_parent n ≡ true
unfolding holds_text is_raw is_rcdata
text_unblank n h =
    let two = and_parts (list_all is_no_blank_parent (raw_names ++ codes "script" ∷ [])) (list_all is_no_blank_parent rcdata_names) texts_unblank in
    elim (or_cases (is_among n (raw_names ++ codes "script" ∷ [])) (is_among n rcdata_names) h) [
      | inl k ↦ entry_passes is_no_blank_parent n (raw_names ++ codes "script" ∷ []) two.0 k
      | inr k ↦ entry_passes is_no_blank_parent n rcdata_names two.1 k
    ]

-- texts of title, textarea, style, iframe and script may have any bytes
pub text_not_blank : (path : List Element) → is_in_text path ≡ true → is_in_blank path ≡ false
unfolding is_in_blank
text_not_blank [] h = refl
text_not_blank (e ∷ path) h =
    let two = and_parts (not e.foreign) (holds_text e.name) h in
    let k : is_among e.name blank_parents || bytes_eq e.name noscript ≡ false = not-true _ (text_unblank e.name two.1) in
    by e.foreign (is_among e.name blank_parents) (bytes_eq e.name noscript) k
  where
    by : (f a b : Bool) → a || b ≡ false → not f && (a || (b && is_name head (current_name path))) ≡ false
    by f true b k = cc
    by f false true k = cc
    by true false false k = refl
    by false false false k = refl

pub space_low : (c : ℕ) → is_space c ≡ true → c < 128
unfolding is_space
space_low c h = grind arith

pub low_after : (c : ℕ) (s : List ℕ) → c < 128 → is_utf8 (c ∷ s) ≡ true → is_utf8 s ≡ true
low_after c s low u =
    let v = IsUtf8-from_is_utf8 (c ∷ s) u in
    is_utf8-from_IsUtf8 s (IsUtf8-drop (c ∷ s) 1 v (IsCharBoundary-after_ascii (c ∷ s) 0 v (omega arith) low))

pub low_alone : (c : ℕ) (s : List ℕ) → c < 128 → is_utf8 (c ∷ s) ≡ true → is_utf8 (c ∷ []) ≡ true
low_alone c s low u =
    let v = IsUtf8-from_is_utf8 (c ∷ s) u in
    is_utf8-from_IsUtf8 (c ∷ []) (IsUtf8-take (c ∷ s) 1 v (IsCharBoundary-after_ascii (c ∷ s) 0 v (omega arith) low))

pub no_byte_after : (d c : ℕ) (s : List ℕ) → has_byte d (c ∷ s) ≡ false → has_byte d s ≡ false
no_byte_after d c s h = by (is_byte d c) h
  where
    by : (k : Bool) → k || has_byte d s ≡ false → has_byte d s ≡ false
    by true e = cc
    by false e = e

pub no_byte_first : (d c : ℕ) (s : List ℕ) → has_byte d (c ∷ s) ≡ false → has_byte d (c ∷ []) ≡ false
no_byte_first d c s h = by (is_byte d c) h
  where
    by : (k : Bool) → k || has_byte d s ≡ false → k || false ≡ false
    by true e = cc
    by false e = refl

-- ---- Bytes that are kept or refused where they stand

pub data Ran (st : Construction) (s : List ℕ) : Stepped → Type 0 where
  ran : (is_in_blank st.path ≡ true → is_blank s ≡ true) → Ran st s (went (texts (is_in_raw st.path) s) st)
  halted : (rule : Rule) (n : ℕ) → Ran st s (stops rule n)

-- each byte stays where it is, or is refused
abbrev pub Keeps : Construction → Type 0
Keeps st = (c : ℕ) → Ran st (c ∷ []) (kept_byte c st)

ran_more : (st : Construction) (c : ℕ) (s : List ℕ) (blank : is_in_blank st.path ≡ true → is_blank (c ∷ []) ≡ true) (y : Stepped) → Ran st s y → Ran st (c ∷ s) (stepped_after_events (texts (is_in_raw st.path) (c ∷ [])) (after_bytes 1 y))
ran_more st c s blank y (ran b) = ran (λ h. and_from (is_space c) (is_blank s) (and_parts (is_space c) true (blank h)).0 (b h))
ran_more st c s blank y (halted rule n) = halted rule (1 + n)

then_ran : (st : Construction) (c : ℕ) (s : List ℕ) (x : Stepped) → Ran st (c ∷ []) x → Ran st s (step_bytes s st) → Ran st (c ∷ s) (then_step x (λ next. after_bytes 1 (step_bytes s next)))
then_ran st c s x (ran blank) more = ran_more st c s blank (step_bytes s st) more
then_ran st c s x (halted rule n) more = halted rule n

pub all_ran : (s : List ℕ) (st : Construction) → Keeps (no_drop st) → Ran (no_drop st) s (step_bytes s (no_drop st))
unfolding step_byte
all_ran [] st keeps = ran (λ h. refl)
all_ran (c ∷ s) st keeps = then_ran (no_drop st) c s (kept_byte c (no_drop st)) (keeps c) (all_ran s st keeps)

-- in title, textarea, style, iframe and script
pub keeps_in_text : (st : Construction) → is_in_text st.path ≡ true → Keeps st
keeps_in_text st h c = rw h (ran (λ k. absurd (both_ways (is_in_blank st.path) (text_not_blank st.path h) k)))

-- a byte in an insertion mode
abbrev pub kept_in : InsertionMode → ℕ → Construction → Stepped
kept_in insertion_mode c st =
    if is_in_text st.path then keep_byte c st
    else if is_space c then space_byte insertion_mode c st
    else if is_in_noscript insertion_mode st.path then stops TextHere 0
    else reach_body insertion_mode (body_byte c) st

-- insertion modes in which body is open
abbrev pub is_body_mode : InsertionMode → Bool
is_body_mode in_body = true
is_body_mode after_body = true
is_body_mode after_html = true
is_body_mode insertion_mode = false

keeps_space : (st : Construction) (c : ℕ) → is_space c ≡ true → Ran st (c ∷ []) (keep_byte c st)
keeps_space st c h = ran (λ k. and_from (is_space c) true h refl)

keeps_other : (st : Construction) (c : ℕ) → Ran st (c ∷ []) (body_byte c st)
keeps_other st c = by (is_in_blank st.path) refl
  where
    by : (b : Bool) → is_in_blank st.path ≡ b → Ran st (c ∷ []) (cond b (stops TextHere 0) (keep_byte c st))
    by true e = halted TextHere 0
    by false e = ran (λ k. absurd (both_ways (is_in_blank st.path) e k))

body_keeps_space : (insertion_mode : InsertionMode) → is_body_mode insertion_mode ≡ true → (st : Construction) (c : ℕ) → is_space c ≡ true → Ran st (c ∷ []) (space_byte insertion_mode c st)
body_keeps_space initial p st c h = cc
body_keeps_space before_html p st c h = cc
body_keeps_space before_head p st c h = cc
body_keeps_space in_head p st c h = cc
body_keeps_space after_head p st c h = cc
body_keeps_space in_body p st c h = keeps_space st c h
body_keeps_space after_body p st c h = keeps_space st c h
body_keeps_space after_html p st c h = keeps_space st c h

body_keeps_other : (insertion_mode : InsertionMode) → is_body_mode insertion_mode ≡ true → (st : Construction) (c : ℕ) → Ran st (c ∷ []) (if is_in_noscript insertion_mode st.path then stops TextHere 0 else reach_body insertion_mode (body_byte c) st)
body_keeps_other initial p st c = cc
body_keeps_other before_html p st c = cc
body_keeps_other before_head p st c = cc
body_keeps_other in_head p st c = cc
body_keeps_other after_head p st c = cc
body_keeps_other in_body p st c = keeps_other st c
body_keeps_other after_body p st c = halted AfterBody 0
body_keeps_other after_html p st c = halted AfterBody 0

pub body_keeps : (insertion_mode : InsertionMode) → is_body_mode insertion_mode ≡ true → (st : Construction) → is_in_text st.path ≡ false → (c : ℕ) → Ran st (c ∷ []) (kept_in insertion_mode c st)
body_keeps insertion_mode p st t c = rw t (by (is_space c) refl)
  where
    by : (b : Bool) → is_space c ≡ b → Ran st (c ∷ []) (cond b (space_byte insertion_mode c st) (if is_in_noscript insertion_mode st.path then stops TextHere 0 else reach_body insertion_mode (body_byte c) st))
    by true e = body_keeps_space insertion_mode p st c e
    by false e = body_keeps_other insertion_mode p st c

-- in noscript in head
pub noscript_keeps : (insertion_mode : InsertionMode) (st : Construction) → is_in_text st.path ≡ false → is_in_noscript insertion_mode st.path ≡ true → (c : ℕ) → Ran st (c ∷ []) (kept_in insertion_mode c st)
noscript_keeps initial st t n c = cc
noscript_keeps before_html st t n c = cc
noscript_keeps before_head st t n c = cc
noscript_keeps in_head st t n c = rw (t, n) (by (is_space c) refl)
  where
    by : (b : Bool) → is_space c ≡ b → Ran st (c ∷ []) (cond b (keep_byte c st) (stops TextHere 0))
    by true e = keeps_space st c e
    by false e = halted TextHere 0
noscript_keeps after_head st t n c = cc
noscript_keeps in_body st t n c = cc
noscript_keeps after_body st t n c = cc
noscript_keeps after_html st t n c = cc

-- ---- A text that stays where it is

-- insertion modes that keep texts under head or body
abbrev pub holds_texts : InsertionMode → Bool
holds_texts in_head = true
holds_texts in_body = true
holds_texts after_body = true
holds_texts after_html = true
holds_texts insertion_mode = false

put_text : (insertion_mode : InsertionMode) (path : List Element) (s : List ℕ) (w : List Event) → holds_texts insertion_mode ≡ true → is_in_raw path ≡ false → Piece path s → SettledAt insertion_mode path w → SettledAt insertion_mode path (text_before s false w)
put_text initial path s w p no_raw piece h = cc
put_text before_html path s w p no_raw piece h = cc
put_text before_head path s w p no_raw piece h = cc
put_text in_head path s w p no_raw piece h = text_inside head SettledBeforeBody path s w no_raw piece h
put_text after_head path s w p no_raw piece h = cc
put_text in_body path s w p no_raw piece h = text_inside body SettledAfterBody path s w no_raw piece h
put_text after_body path s w p no_raw piece h = text_inside body SettledAfterBody path s w no_raw piece h
put_text after_html path s w p no_raw piece h = text_inside body SettledAfterBody path s w no_raw piece h

pub ran_puts : (insertion_mode : InsertionMode) (path : List Element) (raw : Bool) (s : List ℕ) (w : List Event) → holds_texts insertion_mode ≡ true → is_in_raw path ≡ raw → raw ≡ false → has_byte 0 s ≡ false → is_utf8 s ≡ true → (is_in_blank path ≡ true → is_blank s ≡ true) → SettledAt insertion_mode path w → SettledAt insertion_mode path (pushes (texts raw s) w)
ran_puts insertion_mode path raw [] w p r e zero utf8 blank h = h
ran_puts insertion_mode path raw (c ∷ s) w p r e zero utf8 blank h = rw (texts_join raw c s w, e) (put_text insertion_mode path (c ∷ s) w p (r ∙ e) (record { not_empty = refl; no_zero = zero; blank = blank; utf8 = utf8 }) h)

pub good_still : (st : Construction) → Good st → Good (no_drop st)
good_still st g = record { shape = g.shape; inner_comments = g.inner_comments; last_comments = g.last_comments; keeps = λ h. refl }

ran_leads : (st : Construction) (s : List ℕ) (x : Stepped) → holds_texts st.insertion_mode ≡ true → is_in_raw st.path ≡ false → Good st → has_byte 0 s ≡ false → is_utf8 s ≡ true → Ran (no_drop st) s x → Leads st.insertion_mode st.path x
ran_leads st s x p r g zero utf8 (ran blank) = (good_still st g, λ w h. ran_puts st.insertion_mode st.path (is_in_raw st.path) s w p refl r zero utf8 blank h)
ran_leads st s x p r g zero utf8 (halted rule n) = tt

pub kept_leads : (s : List ℕ) (st : Construction) → Keeps (no_drop st) → holds_texts st.insertion_mode ≡ true → is_in_raw st.path ≡ false → Good st → has_byte 0 s ≡ false → is_utf8 s ≡ true → Leads st.insertion_mode st.path (step_bytes s (no_drop st))
kept_leads s st keeps p r g zero utf8 = ran_leads st s (step_bytes s (no_drop st)) p r g zero utf8 (all_ran s st keeps)
