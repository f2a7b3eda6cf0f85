-- What is built is settled: token by token, along the text.
use Rattle.std.proofs.Common.{◌≡◌, ℕ, zero, suc, pred, ◌+◌, ◌-◌, Bool, true, false, cond, List, [], ◌∷◌, length, drop, map, refl, sym, ap, subst, encode_utf8_all, bytes_eq}
use Rattle.std.proofs.lemmas.Bool.{both_ways}
use Rattle.hm_base.specs.Source.{Source, byte_of, place_in}
use Rattle.hm_base.specs.Walks.{Event, Element, text_before, pushes, begins_text}
use Rattle.hm_token_laws.proofs.References.{point_bytes}
use Rattle.hm_base.specs.declared.rules.Rule.TheVariants.{StrayEnd, NotCurrent, Cut}
use Rattle.hm_refs.specs.Names.{Entry}
use Rattle.hm_tree.specs.Tokens.{Seen, Scanned, taken, refused}
use Rattle.hm_tree.specs.Tokens as tokens
use Rattle.hm_elements.specs.Names.{head, body}
use Rattle.hm_elements.specs.Paths.{is_in_raw, is_in_text, current, is_open}
use Rattle.hm_elements.specs.Settled.{Settled}
use Rattle.hm_elements.specs.Places.{CommentAllowed, SettledAfterBody, SettledBeforeBody}
use Rattle.hm_elements.proofs.Gathered.{page_settles}
use Rattle.hm_token_laws.specs.First.{Mode, Next, at_end, after_bytes, first}
use Rattle.hm_token_laws.specs.Laws.{IsPlain, SoundNames, IsText, SoundToken}
use Rattle.hm_token_laws.proofs.Firsts.{tokens_are_sound}
use Rattle.hm_scan.specs.Reading.{read_tag}
use Rattle.hm_construction_laws.specs.Steps.{InsertionMode, initial, before_html, before_head, in_head, after_head, in_body, after_body, after_html, Construction, Stepped, went, stops, no_drop, step_bytes, step, step_end, step_over, end_current, end_event, first_state}
use Rattle.hm_construction_laws.specs.Trees.{Outcome, built, refused_by, after_events, mode_of, stepped, next_step, tree_from, tree_of_source}
use Rattle.hm_construction_laws.proofs.Standing.{SettledAt, Good, Leads}
use Rattle.hm_construction_laws.proofs.Texts.{RawPiece, raw_inside, texts, texts_join}
use Rattle.hm_construction_laws.proofs.Bytes.{Ran, ran, halted, all_ran, keeps_in_text, good_still, holds_texts}
use Rattle.hm_construction_laws.proofs.Fronts.{text_leads, front_stands, text_mode}
use Rattle.hm_construction_laws.proofs.Tags.{starts_lead, ends_lead, comments_lead, doctypes_lead}
use Rattle.hm_construction_laws.proofs.Overs.{SettlesAll, over_settles}
use Rattle.hm_construction_laws.proofs.Modes.{is_mode, markup_no_text, references_no_raw, raw_mode, in_text, raw_piece}
use Rattle.hm_construction_laws.proofs.Rests.{rest_is}
use Rattle.hm_construction_laws.proofs.RawTexts.{IsTag, tag_is_read, TagHere, tag_after}

-- ---- Outcomes

-- what was built after events
record BuiltRest (es : List Event) (o : Outcome) (w : List Event) : Type 0 where
  rest : List Event
  built_is : o ≡ built rest
  whole : pushes es rest ≡ w

after_built : (es : List Event) (o : Outcome) (w : List Event) → after_events es o ≡ built w → BuiltRest es o w
after_built es (built v) w h = record { rest = v; built_is = refl; whole = cc }
after_built es (refused_by rule at) w h = cc

-- a step, and what is built after it
step_settles : (place : ℕ → ℕ) (at : ℕ) (insertion_mode : InsertionMode) (path : List Element) (s : Stepped) (more : Construction → Outcome) (w : List Event) → Leads insertion_mode path s
    → ((next : Construction) (v : List Event) → Good next → more next ≡ built v → SettledAt next.insertion_mode next.path v) → stepped place at s more ≡ built w → SettledAt insertion_mode path w
step_settles place at insertion_mode path (went es next) more w l after h =
    let b = after_built es (more next) w h in
    subst (SettledAt insertion_mode path) b.whole (l.1 b.rest (after next b.rest l.0 b.built_is))
step_settles place at insertion_mode path (stops rule n) more w l after h = cc

over_built : (place : ℕ → ℕ) (at : ℕ) (insertion_mode : InsertionMode) (path : List Element) (s : Stepped) (w : List Event) → SettlesAll insertion_mode path s → stepped place at s (λ next. built []) ≡ built w → SettledAt insertion_mode path w
over_built place at insertion_mode path (went es next) w a h = subst (SettledAt insertion_mode path) (let is : built (pushes es []) ≡ built w = h in cc) a
over_built place at insertion_mode path (stops rule n) w a h = cc

-- ---- A token

comment_is_allowed : (mode : Mode) (s : List ℕ) → SoundToken mode (tokens.comment s) → CommentAllowed [] s
comment_is_allowed mode s c = record { form = c.form; no_zero = c.no_zero; outside = refl; utf8 = c.utf8 }

slice_leads : (st : Construction) (s : List ℕ) → Good st → IsText (mode_of st.path) s → is_in_raw st.path ≡ false → Leads st.insertion_mode st.path (step_bytes s st)
slice_leads st s g a r = text_leads s st g r a.no_zero a.utf8

-- every token but a raw text
pub token_leads : (st : Construction) (token : Seen) → Good st → SoundToken (mode_of st.path) token → ((s : List ℕ) → token ≡ tokens.slice s → is_in_raw st.path ≡ false) → Leads st.insertion_mode st.path (step st token)
unfolding step
token_leads st (tokens.doctype legacy) g a r = doctypes_lead st.insertion_mode legacy st st.path (g.inner_comments, g.last_comments) g.shape
token_leads st (tokens.start_tag n attributes slash) g a r = starts_lead st.insertion_mode n attributes slash st st.path (g.inner_comments, g.last_comments) a.name_allowed a.attributes_allowed g.shape (markup_no_text st.path a.mode_reads)
token_leads st (tokens.end_tag n) g a r = ends_lead st.insertion_mode n st st.path (g.inner_comments, g.last_comments) g.shape
token_leads st (tokens.slice s) g a r = slice_leads st s g a (r s refl)
token_leads st (tokens.points ps) g a r =
    let b = point_bytes ps a.scalars in
    front_stands st.insertion_mode st.path (step_bytes (encode_utf8_all ps) st) (text_leads (encode_utf8_all ps) st g (references_no_raw st.path a.mode_reads) b.no_zero b.utf8)
token_leads st (tokens.comment s) g a r = comments_lead st.insertion_mode s st st.path (g.inner_comments, g.last_comments) g.shape (markup_no_text st.path a.mode_reads) (comment_is_allowed (mode_of st.path) s a)

-- ---- A raw text

-- the text stands before what begins with no text
raw_puts : (insertion_mode : InsertionMode) (path : List Element) (s : List ℕ) (w : List Event) → holds_texts insertion_mode ≡ true → RawPiece path s → begins_text w ≡ false → SettledAt insertion_mode path w → SettledAt insertion_mode path (pushes (texts (is_in_raw path) s) w)
raw_puts insertion_mode path [] w p r alone h = h
raw_puts insertion_mode path (c ∷ s) w p r alone h = rw (texts_join (is_in_raw path) c s w, r.raw) (by insertion_mode p h)
  where
    by : (q : InsertionMode) → holds_texts q ≡ true → SettledAt q path w → SettledAt q path (text_before (c ∷ s) true w)
    by initial k x = cc
    by before_html k x = cc
    by before_head k x = cc
    by in_head k x = raw_inside head SettledBeforeBody path (c ∷ s) w r alone x
    by after_head k x = cc
    by in_body k x = raw_inside body SettledAfterBody path (c ∷ s) w r alone x
    by after_body k x = raw_inside body SettledAfterBody path (c ∷ s) w r alone x
    by after_html k x = raw_inside body SettledAfterBody path (c ∷ s) w r alone x

-- where no line feed is dropped, a state is as it is
still_is : (st : Construction) → st.drops_line_feed ≡ false → no_drop st ≡ st
still_is st h = let P : Bool → Construction = λ b. record st { drops_line_feed = b } in ap P (sym h)

raw_settles : (place : ℕ → ℕ) (at : ℕ) (st : Construction) (s : List ℕ) (more : Construction → Outcome) (w : List Event) → Good st → RawPiece st.path s
    → ((v : List Event) → more (no_drop st) ≡ built v → SettledAt st.insertion_mode st.path v × (begins_text v ≡ false)) → stepped place at (step_bytes s (no_drop st)) more ≡ built w → SettledAt st.insertion_mode st.path w
raw_settles place at st s more w g r after h = by (step_bytes s (no_drop st)) (all_ran s st (keeps_in_text (no_drop st) (in_text st.path r.raw))) h
  where
    by : (x : Stepped) → Ran (no_drop st) s x → stepped place at x more ≡ built w → SettledAt st.insertion_mode st.path w
    by x (halted rule n) k = cc
    by x (ran blank) k =
        let b = after_built (texts (is_in_raw st.path) s) (more (no_drop st)) w k in
        let d = after b.rest b.built_is in
        subst (SettledAt st.insertion_mode st.path) b.whole (raw_puts st.insertion_mode st.path s b.rest (text_mode st.insertion_mode st.path g.shape (in_text st.path r.raw)) r d.1 d.0)

-- ---- The end tag after a raw text

abbrev BeginsOther : Stepped → Type 0
BeginsOther (went es next) = (v : List Event) → begins_text (pushes es v) ≡ false
BeginsOther (stops rule n) = Unit {0}

current_begins : (n : List ℕ) (st : Construction) (path : List Element) → BeginsOther (end_current n st path)
current_begins n st [] = tt
current_begins n st (e ∷ path) = by (bytes_eq e.name n) (is_open n (e ∷ path))
  where
    by : (a b : Bool) → BeginsOther (cond a (went (end_event e ∷ []) (record st { path = path })) (cond b (stops NotCurrent 0) (stops StrayEnd 0)))
    by true b = λ v. refl
    by false true = tt
    by false false = tt

end_begins : (n : List ℕ) (st : Construction) → is_in_text st.path ≡ true → BeginsOther (step st (tokens.end_tag n))
unfolding step step_end
end_begins n st h = rw h (current_begins n (no_drop st) st.path)

text_not_over : (st : Construction) → is_in_text st.path ≡ true → step_over st ≡ stops Cut 0
unfolding step_over
text_not_over st h = rw h refl

other_begins : (place : ℕ → ℕ) (at : ℕ) (s : Stepped) (more : Construction → Outcome) (w : List Event) → BeginsOther s → stepped place at s more ≡ built w → begins_text w ≡ false
other_begins place at (went es next) more w b h = let k = after_built es (more next) w h in subst (λ x. begins_text x ≡ false) k.whole (b k.rest)
other_begins place at (stops rule n) more w b h = cc

-- how the rest of a text is read after a token
abbrev reads_on : List Entry → (ℕ → ℕ) → ℕ → List ℕ → ℕ → Construction → Outcome
reads_on t place at s skip next = tree_from t place skip (at + 1) next s

tag_begins : (t : List Entry) (place : ℕ → ℕ) (at : ℕ) (st : Construction) (c : ℕ) (s : List ℕ) (w : List Event) → SoundNames t → is_in_raw st.path ≡ true → IsPlain (c ∷ s) → first t (mode_of st.path) (c ∷ s) ≡ after_bytes 0 (read_tag t (c ∷ s))
    → next_step place at st (c ∷ s) (first t (mode_of st.path) (c ∷ s)) (reads_on t place at s) ≡ built w → begins_text w ≡ false
tag_begins t place at st c s w names r plain is h = by (read_tag t (c ∷ s)) (tag_is_read t (c ∷ s)) is (rw is at h)
  where
    by : (y : Scanned) → IsTag y → first t (mode_of st.path) (c ∷ s) ≡ after_bytes 0 y → next_step place at st (c ∷ s) (after_bytes 0 y) (reads_on t place at s) ≡ built w → begins_text w ≡ false
    by (taken (tokens.start_tag name attributes slash) rest) i e k =
        let a = (tokens_are_sound t (mode_of st.path) (c ∷ s) 0 (tokens.start_tag name attributes slash) rest names (is_mode st.path) plain e).0 in
        absurd (both_ways (is_in_text st.path) (markup_no_text st.path a.mode_reads) (in_text st.path r))
    by (taken (tokens.end_tag name) rest) i e k = other_begins place (at + 0) (step st (tokens.end_tag name)) (reads_on t place at s (pred (length (c ∷ s) - length rest))) w (end_begins name st (in_text st.path r)) k
    by (taken (tokens.doctype legacy) rest) i e k = absurd i
    by (taken (tokens.slice x) rest) i e k = absurd i
    by (taken (tokens.points ps) rest) i e k = absurd i
    by (taken (tokens.comment x) rest) i e k = absurd i
    by (refused fault) i e k = cc

raw_begins : (t : List Entry) (place : ℕ → ℕ) → SoundNames t → (s : List ℕ) (skip at : ℕ) (st : Construction) (w : List Event) → is_in_raw st.path ≡ true → IsPlain (drop skip s) → TagHere t (mode_of st.path) (drop skip s) → tree_from t place skip at st s ≡ built w → begins_text w ≡ false
raw_begins t place names [] skip at st w r plain here h = let k : stepped place at (stops Cut 0) (λ next. built []) ≡ built w = rw (text_not_over st (in_text st.path r)) at h in cc
raw_begins t place names (c ∷ s) (suc skip) at st w r plain here h = raw_begins t place names s skip (at + 1) st w r plain here h
raw_begins t place names (c ∷ s) zero at st w r plain here h = tag_begins t place at st c s w names r plain here h

-- ---- Along the text

-- what is built of the rest of a text from each place on
abbrev pub Settles : List Entry → (ℕ → ℕ) → List ℕ → Type 0
Settles t place s = (skip at : ℕ) (st : Construction) (w : List Event) → Good st → IsPlain (drop skip s) → tree_from t place skip at st s ≡ built w → SettledAt st.insertion_mode st.path w

raw_token : (t : List Entry) (place : ℕ → ℕ) (at : ℕ) (st : Construction) (c : ℕ) (s : List ℕ) (n : ℕ) (x rest : List ℕ) (w : List Event) → SoundNames t → Settles t place s → Good st → is_in_raw st.path ≡ true → IsText (mode_of st.path) x → IsPlain rest
    → first t (mode_of st.path) (c ∷ s) ≡ after_bytes n (taken (tokens.slice x) rest) → stepped place (at + n) (step_bytes x st) (reads_on t place at s (pred (length (c ∷ s) - length rest))) ≡ built w → SettledAt st.insertion_mode st.path w
raw_token t place at st c s n x rest w names more g r a plain e h =
    let skip : ℕ = pred (length (c ∷ s) - length rest) in
    let reached : rest ≡ drop skip s = sym (rest_is t (mode_of st.path) c s n (tokens.slice x) rest names (is_mode st.path) e) in
    let plain' : IsPlain (drop skip s) = subst IsPlain reached plain in
    let here : TagHere t (mode_of st.path) (drop skip s) = subst (TagHere t (mode_of st.path)) reached (tag_after t (current st.path) (mode_of st.path) (c ∷ s) n x rest (raw_mode st.path r) e) in
    raw_settles place (at + n) st x (reads_on t place at s skip) w g (raw_piece st.path x r a)
    (λ v k. (more skip (at + 1) (no_drop st) v (good_still st g) plain' k, raw_begins t place names s skip (at + 1) (no_drop st) v r plain' here k))
    (subst (λ (q : Construction). stepped place (at + n) (step_bytes x q) (reads_on t place at s skip) ≡ built w) (sym (still_is st (g.keeps r))) h)

other_token : (t : List Entry) (place : ℕ → ℕ) (at : ℕ) (st : Construction) (c : ℕ) (s : List ℕ) (n : ℕ) (token : Seen) (rest : List ℕ) (w : List Event) → SoundNames t → Settles t place s → Good st → SoundToken (mode_of st.path) token → ((x : List ℕ) → token ≡ tokens.slice x → is_in_raw st.path ≡ false) → IsPlain rest
    → first t (mode_of st.path) (c ∷ s) ≡ after_bytes n (taken token rest) → stepped place (at + n) (step st token) (reads_on t place at s (pred (length (c ∷ s) - length rest))) ≡ built w → SettledAt st.insertion_mode st.path w
other_token t place at st c s n token rest w names more g a no_raw plain e h =
    let skip : ℕ = pred (length (c ∷ s) - length rest) in
    let plain' : IsPlain (drop skip s) = subst IsPlain (sym (rest_is t (mode_of st.path) c s n token rest names (is_mode st.path) e)) plain in
    step_settles place (at + n) st.insertion_mode st.path (step st token) (reads_on t place at s skip) w (token_leads st token g a no_raw) (λ next v g' k. more skip (at + 1) next v g' plain' k) h

one_token : (t : List Entry) (place : ℕ → ℕ) (at : ℕ) (st : Construction) (c : ℕ) (s : List ℕ) (n : ℕ) (token : Seen) (rest : List ℕ) (w : List Event) → SoundNames t → Settles t place s → Good st → SoundToken (mode_of st.path) token → IsPlain rest
    → first t (mode_of st.path) (c ∷ s) ≡ after_bytes n (taken token rest) → stepped place (at + n) (step st token) (reads_on t place at s (pred (length (c ∷ s) - length rest))) ≡ built w → SettledAt st.insertion_mode st.path w
unfolding step
one_token t place at st c s n (tokens.slice x) rest w names more g a plain e h = by (is_in_raw st.path) refl
  where
    by : (b : Bool) → is_in_raw st.path ≡ b → SettledAt st.insertion_mode st.path w
    by true r = raw_token t place at st c s n x rest w names more g r a plain e h
    by false r = other_token t place at st c s n (tokens.slice x) rest w names more g a (λ y k. r) plain e h
one_token t place at st c s n (tokens.doctype legacy) rest w names more g a plain e h = other_token t place at st c s n (tokens.doctype legacy) rest w names more g a (λ y k. cc) plain e h
one_token t place at st c s n (tokens.start_tag name attributes slash) rest w names more g a plain e h = other_token t place at st c s n (tokens.start_tag name attributes slash) rest w names more g a (λ y k. cc) plain e h
one_token t place at st c s n (tokens.end_tag name) rest w names more g a plain e h = other_token t place at st c s n (tokens.end_tag name) rest w names more g a (λ y k. cc) plain e h
one_token t place at st c s n (tokens.points ps) rest w names more g a plain e h = other_token t place at st c s n (tokens.points ps) rest w names more g a (λ y k. cc) plain e h
one_token t place at st c s n (tokens.comment x) rest w names more g a plain e h = other_token t place at st c s n (tokens.comment x) rest w names more g a (λ y k. cc) plain e h

next_settles : (t : List Entry) (place : ℕ → ℕ) (at : ℕ) (st : Construction) (c : ℕ) (s : List ℕ) (x : Next) (w : List Event) → SoundNames t → Settles t place s → Good st → IsPlain (c ∷ s) → first t (mode_of st.path) (c ∷ s) ≡ x
    → next_step place at st (c ∷ s) x (reads_on t place at s) ≡ built w → SettledAt st.insertion_mode st.path w
next_settles t place at st c s at_end w names more g plain e h = over_built place (at + length (c ∷ s)) st.insertion_mode st.path (step_over st) w (over_settles st g) h
next_settles t place at st c s (after_bytes n (refused fault)) w names more g plain e h = cc
next_settles t place at st c s (after_bytes n (taken token rest)) w names more g plain e h =
    let a = tokens_are_sound t (mode_of st.path) (c ∷ s) n token rest names (is_mode st.path) plain e in
    one_token t place at st c s n token rest w names more g a.0 a.1 e h

pub settles : (t : List Entry) (place : ℕ → ℕ) → SoundNames t → (s : List ℕ) → Settles t place s
settles t place names [] skip at st w g plain h = over_built place at st.insertion_mode st.path (step_over st) w (over_settles st g) h
settles t place names (c ∷ s) (suc skip) at st w g plain h = settles t place names s skip (at + 1) st w g plain h
settles t place names (c ∷ s) zero at st w g plain h = next_settles t place at st c s (first t (mode_of st.path) (c ∷ s)) w names (settles t place names s) g plain refl h

first_good : Good first_state
first_good = record { shape = refl; inner_comments = tt; last_comments = tt; keeps = λ h. refl }

-- a whole page
pub what_is_built_is_settled : (t : List Entry) (page : Source) (w : List Event) → SoundNames t → IsPlain (map byte_of page.placed) → tree_of_source t page ≡ built w → Settled w
unfolding tree_of_source
what_is_built_is_settled t page w names plain h = page_settles w (settles t (place_in page.placed page.end) names (map byte_of page.placed) 0 0 first_state w first_good plain h)
