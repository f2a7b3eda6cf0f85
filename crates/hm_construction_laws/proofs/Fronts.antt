-- Text tokens in every insertion mode.
use Rattle.std.proofs.Common.{◌≡◌, ℕ, ◌<◌, Bool, true, false, cond, ◌&&◌, ◌==◌, List, [], ◌∷◌, ◌++◌, refl, ◌∙◌, ap, subst, arith, append_assoc}
use Rattle.std.proofs.lemmas.Bool.{both_ways, and_from}
use Rattle.std.specs.Str.{is_utf8}
use Rattle.hm_base.specs.Bytes.{is_space}
use Rattle.hm_base.specs.Forms.{has_byte}
use Rattle.hm_base.specs.Walks.{Event, start, end, Element, text_before}
use Rattle.hm_elements.specs.Names.{is_among, html, head, body}
use Rattle.hm_elements.specs.Tables.{is_raw, raw_names, is_rcdata, rcdata_names, holds_text}
use Rattle.hm_elements.specs.Paths.{is_in_raw, is_in_text}
use Rattle.hm_elements.specs.Places.{SettledBeforeBody}
use Rattle.hm_construction_laws.specs.Steps.{InsertionMode, initial, before_html, before_head, in_head, after_head, in_body, after_body, after_html, Construction, Stepped, went, stops, stepped_after_events, after_bytes, then_step, moved, under_html, under_head, under_body, make_html, make_head, close_head, make_body, reach_body, is_in_noscript, space_byte, body_byte, no_drop, step_byte, step_bytes, at_front}
use Rattle.hm_construction_laws.proofs.Standing.{Shape, AllComments, Good, Leads, at_body, after_leads, later_leads, reach_body_leads}
use Rattle.hm_construction_laws.proofs.Texts.{text_before_body, texts}
use Rattle.hm_construction_laws.proofs.Bytes.{no_text_no_raw, space_low, low_after, low_alone, no_byte_after, no_byte_first, kept_in, is_body_mode, holds_texts, body_keeps, noscript_keeps, keeps_in_text, ran_puts, good_still, kept_leads}

-- ---- A step after made elements

after_twice : (es fs : List Event) (s : Stepped) → stepped_after_events (es ++ fs) s ≡ stepped_after_events es (stepped_after_events fs s)
after_twice es fs (went gs st) = ap (λ x. went x st) (append_assoc es fs gs)
after_twice es fs (stops rule n) = refl

then_after : (es : List Event) (s : Stepped) (f : Construction → Stepped) → then_step (stepped_after_events es s) f ≡ stepped_after_events es (then_step s f)
then_after es (went fs st) f = after_twice es fs (f st)
then_after es (stops rule n) f = refl

then_body : (more f : Construction → Stepped) (st : Construction) → then_step (make_body more st) f ≡ make_body (λ here. then_step (more here) f) st
then_body more f st = then_after (start body false [] ∷ []) (more (moved st in_body under_body)) f

then_closed : (more f : Construction → Stepped) (st : Construction) → then_step (close_head (make_body more) st) f ≡ close_head (make_body (λ here. then_step (more here) f)) st
then_closed more f st =
    let next = moved st after_head under_html in
    then_after (end head false ∷ []) (make_body more next) f ∙ ap (stepped_after_events (end head false ∷ [])) (then_body more f next)

then_head : (more f : Construction → Stepped) (st : Construction) → then_step (make_head (close_head (make_body more)) st) f ≡ make_head (close_head (make_body (λ here. then_step (more here) f))) st
then_head more f st =
    let next = moved st in_head under_head in
    then_after (start head false [] ∷ []) (close_head (make_body more) next) f ∙ ap (stepped_after_events (start head false [] ∷ [])) (then_closed more f next)

then_html : (more f : Construction → Stepped) (st : Construction) → then_step (make_html (make_head (close_head (make_body more))) st) f ≡ make_html (make_head (close_head (make_body (λ here. then_step (more here) f)))) st
then_html more f st =
    let next = moved st before_head under_html in
    then_after (start html false [] ∷ []) (make_head (close_head (make_body more)) next) f ∙ ap (stepped_after_events (start html false [] ∷ [])) (then_head more f next)

then_reach : (insertion_mode : InsertionMode) (more f : Construction → Stepped) (st : Construction) → then_step (reach_body insertion_mode more st) f ≡ reach_body insertion_mode (λ here. then_step (more here) f) st
then_reach initial more f st = refl
then_reach before_html more f st = then_html more f st
then_reach before_head more f st = then_head more f st
then_reach in_head more f st = then_closed more f st
then_reach after_head more f st = then_body more f st
then_reach in_body more f st = refl
then_reach after_body more f st = refl
then_reach after_html more f st = refl

-- ---- Before body

body_no_text : is_in_text under_body ≡ false
unfolding holds_text is_raw raw_names is_rcdata rcdata_names is_among
body_no_text = refl

body_no_raw : is_in_raw under_body ≡ false
unfolding is_raw raw_names is_among
body_no_raw = refl

-- the bytes after the first of a text
abbrev more_bytes : List ℕ → Construction → Stepped
more_bytes s next = after_bytes 1 (step_bytes s next)

byte_in_body : (c : ℕ) (st : Construction) → is_in_text st.path ≡ false → is_space c ≡ false → kept_in in_body c st ≡ body_byte c st
byte_in_body c st t e = rw (t, e) refl

-- the first byte that isn't whitespace makes body, and the text stands in it
other_leads : (st : Construction) (c : ℕ) (s : List ℕ) → AllComments st.comments_after_body → AllComments st.comments_after_html → is_space c ≡ false → has_byte 0 (c ∷ s) ≡ false → is_utf8 (c ∷ s) ≡ true
    → Leads in_body under_body (then_step (body_byte c (moved (no_drop st) in_body under_body)) (more_bytes s))
unfolding step_byte
other_leads st c s inner last space zero utf8 =
    let here : Construction = moved (no_drop st) in_body under_body in
    let g : Good here = record { shape = at_body; inner_comments = inner; last_comments = last; keeps = λ h. refl } in
    let l : Leads in_body under_body (then_step (kept_in in_body c here) (more_bytes s)) = kept_leads (c ∷ s) here (body_keeps in_body refl here body_no_text) refl body_no_raw g zero utf8 in
    subst (λ x. Leads in_body under_body (then_step x (more_bytes s))) (byte_in_body c here body_no_text space) l

space_leads : (insertion_mode : InsertionMode) (st : Construction) (c : ℕ) (s : List ℕ) → Shape insertion_mode st.path → is_body_mode insertion_mode ≡ false → is_in_text st.path ≡ false → is_space c ≡ true → has_byte 0 (c ∷ []) ≡ false → is_utf8 (c ∷ []) ≡ true
    → Leads insertion_mode st.path (step_bytes s (no_drop st)) → Leads insertion_mode st.path (then_step (space_byte insertion_mode c (no_drop st)) (more_bytes s))
space_leads initial st c s shape b t e zero utf8 l = after_leads initial initial st.path st.path [] (more_bytes s (no_drop st)) (λ w h. h) (later_leads initial st.path 1 (step_bytes s (no_drop st)) l)
space_leads before_html st c s shape b t e zero utf8 l = after_leads before_html before_html st.path st.path [] (more_bytes s (no_drop st)) (λ w h. h) (later_leads before_html st.path 1 (step_bytes s (no_drop st)) l)
space_leads before_head st c s shape b t e zero utf8 l = after_leads before_head before_head st.path st.path [] (more_bytes s (no_drop st)) (λ w h. h) (later_leads before_head st.path 1 (step_bytes s (no_drop st)) l)
space_leads in_head st c s shape b t e zero utf8 l =
    after_leads in_head in_head st.path st.path (texts (is_in_raw st.path) (c ∷ [])) (more_bytes s (no_drop st))
    (λ w h. ran_puts in_head st.path (is_in_raw st.path) (c ∷ []) w refl refl (no_text_no_raw st.path t) zero utf8 (λ k. and_from (is_space c) true e refl) h)
    (later_leads in_head st.path 1 (step_bytes s (no_drop st)) l)
space_leads after_head st c s shape b t e zero utf8 l =
    after_leads after_head after_head st.path st.path (texts (is_in_raw st.path) (c ∷ [])) (more_bytes s (no_drop st))
    (λ w h. puts (is_in_raw st.path) w (no_text_no_raw st.path t) h)
    (later_leads after_head st.path 1 (step_bytes s (no_drop st)) l)
  where
    puts : (raw : Bool) (w : List Event) → raw ≡ false → SettledBeforeBody w → SettledBeforeBody (text_before (c ∷ []) raw w)
    puts raw w r h = rw r (text_before_body (c ∷ []) w (and_from (is_space c) true e refl) (record { not_empty = refl; no_zero = zero; blank = λ k. and_from (is_space c) true e refl; utf8 = utf8 }) h)
space_leads in_body st c s shape b t e zero utf8 l = cc
space_leads after_body st c s shape b t e zero utf8 l = cc
space_leads after_html st c s shape b t e zero utf8 l = cc

no_body_mode : (insertion_mode : InsertionMode) → is_body_mode insertion_mode ≡ false → insertion_mode ≡ in_body → ⊥
no_body_mode insertion_mode b e = both_ways (is_body_mode insertion_mode) b (rw e refl)

-- the first byte of a text, and what is built of the bytes after it
front_byte : (insertion_mode : InsertionMode) (st : Construction) (c : ℕ) (s : List ℕ) → Shape insertion_mode st.path → AllComments st.comments_after_body → AllComments st.comments_after_html → is_body_mode insertion_mode ≡ false → is_in_text st.path ≡ false → is_in_noscript insertion_mode st.path ≡ false → has_byte 0 (c ∷ s) ≡ false → is_utf8 (c ∷ s) ≡ true
    → (is_utf8 s ≡ true → Leads insertion_mode st.path (step_bytes s (no_drop st))) → Leads insertion_mode st.path (then_step (kept_in insertion_mode c (no_drop st)) (more_bytes s))
front_byte insertion_mode st c s shape inner last b t n zero utf8 more = rw (t, n) (by (is_space c) refl)
  where
    by : (k : Bool) → is_space c ≡ k → Leads insertion_mode st.path (then_step (cond k (space_byte insertion_mode c (no_drop st)) (reach_body insertion_mode (body_byte c) (no_drop st))) (more_bytes s))
    by true e = space_leads insertion_mode st c s shape b t e (no_byte_first 0 c s zero) (low_alone c s (space_low c e) utf8) (more (low_after c s (space_low c e) utf8))
    by false e = rw (then_reach insertion_mode (body_byte c) (more_bytes s) (no_drop st)) (reach_body_leads insertion_mode st.path (no_drop st) (λ here. then_step (body_byte c here) (more_bytes s)) shape t n (other_leads st c s inner last e zero utf8) (λ k. absurd (no_body_mode insertion_mode b k)))

front_leads : (s : List ℕ) (st : Construction) → Good st → is_body_mode st.insertion_mode ≡ false → is_in_text st.path ≡ false → is_in_noscript st.insertion_mode st.path ≡ false → has_byte 0 s ≡ false → is_utf8 s ≡ true → Leads st.insertion_mode st.path (step_bytes s (no_drop st))
unfolding step_byte
front_leads [] st g b t n zero utf8 = (good_still st g, λ w h. h)
front_leads (c ∷ s) st g b t n zero utf8 = front_byte st.insertion_mode st c s g.shape g.inner_comments g.last_comments b t n zero utf8 (λ u. front_leads s st g b t n (no_byte_after 0 c s zero) u)

-- ---- A text token that isn't raw

-- insertion modes whose paths may be those of texts
pub text_mode : (insertion_mode : InsertionMode) (path : List Element) → Shape insertion_mode path → is_in_text path ≡ true → holds_texts insertion_mode ≡ true
unfolding holds_text is_raw raw_names is_rcdata rcdata_names is_among
text_mode initial path s t = let k : is_in_text [] ≡ true = rw s at t in cc
text_mode before_html path s t = let k : is_in_text [] ≡ true = rw s at t in cc
text_mode before_head path s t = let k : is_in_text under_html ≡ true = rw s at t in cc
text_mode in_head path s t = refl
text_mode after_head path s t = let k : is_in_text under_html ≡ true = rw s at t in cc
text_mode in_body path s t = refl
text_mode after_body path s t = refl
text_mode after_html path s t = refl

body_mode_holds : (insertion_mode : InsertionMode) → is_body_mode insertion_mode ≡ true → holds_texts insertion_mode ≡ true
body_mode_holds initial b = cc
body_mode_holds before_html b = cc
body_mode_holds before_head b = cc
body_mode_holds in_head b = cc
body_mode_holds after_head b = cc
body_mode_holds in_body b = refl
body_mode_holds after_body b = refl
body_mode_holds after_html b = refl

noscript_holds : (insertion_mode : InsertionMode) (path : List Element) → is_in_noscript insertion_mode path ≡ true → holds_texts insertion_mode ≡ true
noscript_holds initial path n = cc
noscript_holds before_html path n = cc
noscript_holds before_head path n = cc
noscript_holds in_head path n = refl
noscript_holds after_head path n = cc
noscript_holds in_body path n = refl
noscript_holds after_body path n = refl
noscript_holds after_html path n = refl

-- where no line feed is dropped
still_leads : (s : List ℕ) (st : Construction) → Good st → is_in_raw st.path ≡ false → has_byte 0 s ≡ false → is_utf8 s ≡ true → Leads st.insertion_mode st.path (step_bytes s (no_drop st))
still_leads s st g r zero utf8 = by (is_in_text st.path) (is_body_mode st.insertion_mode) (is_in_noscript st.insertion_mode st.path) refl refl refl
  where
    by : (t b n : Bool) → is_in_text st.path ≡ t → is_body_mode st.insertion_mode ≡ b → is_in_noscript st.insertion_mode st.path ≡ n → Leads st.insertion_mode st.path (step_bytes s (no_drop st))
    by true b n et eb en = kept_leads s st (keeps_in_text (no_drop st) et) (text_mode st.insertion_mode st.path g.shape et) r g zero utf8
    by false true n et eb en = kept_leads s st (body_keeps st.insertion_mode eb (no_drop st) et) (body_mode_holds st.insertion_mode eb) r g zero utf8
    by false false true et eb en = kept_leads s st (noscript_keeps st.insertion_mode (no_drop st) et en) (noscript_holds st.insertion_mode st.path en) r g zero utf8
    by false false false et eb en = front_leads s st g eb et en zero utf8

line_feed_low : (c : ℕ) → c == 10 ≡ true → c < 128
line_feed_low c h = grind arith

-- a text as it is written
pub text_leads : (s : List ℕ) (st : Construction) → Good st → is_in_raw st.path ≡ false → has_byte 0 s ≡ false → is_utf8 s ≡ true → Leads st.insertion_mode st.path (step_bytes s st)
unfolding step_byte
text_leads [] st g r zero utf8 = (g, λ w h. h)
text_leads (c ∷ s) st g r zero utf8 = by (st.drops_line_feed) (c == 10) refl
  where
    by : (d k : Bool) → c == 10 ≡ k → Leads st.insertion_mode st.path (then_step (cond (d && k) (went [] (no_drop st)) (kept_in st.insertion_mode c (no_drop st))) (more_bytes s))
    by true true e = after_leads st.insertion_mode st.insertion_mode st.path st.path [] (more_bytes s (no_drop st)) (λ w h. h) (later_leads st.insertion_mode st.path 1 (step_bytes s (no_drop st)) (still_leads s st g r (no_byte_after 0 c s zero) (low_after c s (line_feed_low c e) utf8)))
    by true false e = still_leads (c ∷ s) st g r zero utf8
    by false k e = still_leads (c ∷ s) st g r zero utf8

-- what a reference gives
pub front_stands : (insertion_mode : InsertionMode) (path : List Element) (s : Stepped) → Leads insertion_mode path s → Leads insertion_mode path (at_front s)
front_stands insertion_mode path (went es st) l = l
front_stands insertion_mode path (stops rule n) l = tt
