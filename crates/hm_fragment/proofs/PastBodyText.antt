-- After the end of body: an end tag of body is refused there, and what is read stays there.
use Rattle.std.proofs.Common.{arith, ◌≡◌, ℕ, inl, inr, Bool, true, false, cond, ◌&&◌, ◌==◌, List, [], ◌∷◌, refl, ap, subst, encode_utf8_all, bytes_eq}
use Rattle.std.proofs.lemmas.Bool.{and_parts, and_from}
use Rattle.hm_base.specs.Bytes.{is_space}
use Rattle.hm_base.specs.Forms.{is_blank}
use Rattle.hm_elements.specs.Names.{is_among, html, body}
use Rattle.hm_elements.specs.Tables.{is_raw, raw_names, is_rcdata, rcdata_names, holds_text}
use Rattle.hm_elements.specs.Paths.{is_in_text}
use Rattle.hm_tree.specs.Tokens.{Seen}
use Rattle.hm_tree.specs.Tokens as tokens
use Rattle.hm_token_laws.specs.First.{ordinary}
use Rattle.hm_construction_laws.specs.Steps.{InsertionMode, initial, before_html, before_head, in_head, after_head, in_body, after_body, after_html, Construction, Stepped, went, stops, stepped_after_events, after_bytes, then_step, at_front, no_drop, step_byte, step_bytes, step, step_start, step_end, kept_byte, space_byte, other_byte, is_in_noscript, reach_body, body_byte, is_outside, end_outside, step_comment, step_doctype}
use Rattle.hm_base.specs.declared.rules.Rule.TheVariants.{AfterBody, TextHere}
use Rattle.hm_base.specs.declared.rules.Rule.{Rule}
use Rattle.hm_construction_laws.specs.Trees.{mode_of}
use Rattle.hm_construction_laws.proofs.Standing.{AtEnd}
use Rattle.hm_construction_laws.specs.Closing.{is_after_body}

-- a state after body
pub record IsPastBody (st : Construction) : Type 0 where
  pub after : is_after_body st.insertion_mode ≡ true
  pub outside : is_in_text st.path ≡ false
  pub reads : mode_of st.path ≡ ordinary

pub at_end_is_after : (st : Construction) → is_after_body st.insertion_mode ≡ true → AtEnd st.path → IsPastBody st
unfolding holds_text is_raw raw_names is_rcdata rcdata_names is_among
at_end_is_after st b (inl e) = record { after = b; outside = ap is_in_text e; reads = ap mode_of e }
at_end_is_after st b (inr e) = record { after = b; outside = ap is_in_text e; reads = ap mode_of e }

-- what a step leads to stays after body, and is whitespace where it is text
abbrev pub Stays : Stepped → Type 0
Stays (went es st) = IsPastBody st
Stays (stops rule n) = Unit {0}

abbrev StaysBlank : List ℕ → Stepped → Type 0
StaysBlank s (went es st) = IsPastBody st × (is_blank s ≡ true)
StaysBlank s (stops rule n) = Unit {0}

kept : (st : Construction) → IsPastBody st → IsPastBody (no_drop st)
kept st b = record { after = b.after; outside = b.outside; reads = b.reads }

space_stays : (mode : InsertionMode) (c : ℕ) (st : Construction) → is_after_body mode ≡ true → IsPastBody st → Stays (space_byte mode c st)
space_stays initial c st h b = cc
space_stays before_html c st h b = cc
space_stays before_head c st h b = cc
space_stays in_head c st h b = cc
space_stays after_head c st h b = cc
space_stays in_body c st h b = cc
space_stays after_body c st h b = b
space_stays after_html c st h b = b

other_stops : (mode : InsertionMode) (c : ℕ) (st : Construction) → is_after_body mode ≡ true → (rule : Rule) × (n : ℕ) × (cond (is_in_noscript mode st.path) (stops TextHere 0) (reach_body mode (body_byte c) st) ≡ stops rule n)
other_stops initial c st h = cc
other_stops before_html c st h = cc
other_stops before_head c st h = cc
other_stops in_head c st h = cc
other_stops after_head c st h = cc
other_stops in_body c st h = cc
other_stops after_body c st h = (AfterBody, 0, refl)
other_stops after_html c st h = (AfterBody, 0, refl)

line_feed_is_space : (c : ℕ) → (c == 10) ≡ true → is_space c ≡ true
unfolding is_space
line_feed_is_space c h = grind arith

byte_stays : (c : ℕ) (st : Construction) → IsPastBody st → StaysBlank (c ∷ []) (step_byte c st)
unfolding step_byte
byte_stays c st b = by_drop (st.drops_line_feed && c == 10) refl
  where
    blank : is_space c ≡ true → is_space c && true ≡ true
    blank h = rw h refl

    with_blank : is_space c ≡ true → (o : Stepped) → Stays o → StaysBlank (c ∷ []) o
    with_blank h (went es next) s = (s, blank h)
    with_blank h (stops rule n) s = tt

    stopped : (o : Stepped) → (rule : Rule) × (n : ℕ) × (o ≡ stops rule n) → StaysBlank (c ∷ []) o
    stopped o (rule, n, e) = rw e tt

    by_space : (x : Bool) → is_space c ≡ x → StaysBlank (c ∷ []) (cond x (space_byte st.insertion_mode c (no_drop st)) (other_byte c (no_drop st)))
    by_space true e = with_blank e (space_byte st.insertion_mode c (no_drop st)) (space_stays st.insertion_mode c (no_drop st) b.after (kept st b))
    by_space false e = stopped (other_byte c (no_drop st)) (other_stops st.insertion_mode c (no_drop st) b.after)

    by_drop : (x : Bool) → (st.drops_line_feed && c == 10) ≡ x → StaysBlank (c ∷ []) (cond x (went [] (no_drop st)) (kept_byte c (no_drop st)))
    by_drop true e = (kept st b, blank (line_feed_is_space c (and_parts st.drops_line_feed (c == 10) e).1))
    by_drop false e = rw (b.outside) (by_space (is_space c) refl)

then_stays : (c : ℕ) (s : List ℕ) (o : Stepped) (more : Construction → Stepped) → StaysBlank (c ∷ []) o → ((next : Construction) → IsPastBody next → StaysBlank s (more next)) → StaysBlank (c ∷ s) (then_step o (λ next. after_bytes 1 (more next)))
then_stays c s (stops rule n) more h on = tt
then_stays c s (went es next) more h on = by (more next) (on next h.0)
  where
    by : (o : Stepped) → StaysBlank s o → StaysBlank (c ∷ s) (stepped_after_events es (after_bytes 1 o))
    by (stops rule n) k = tt
    by (went fs st) k = (k.0, and_from (is_space c) (is_blank s) (and_parts (is_space c) true h.1).0 k.1)

bytes_stay : (s : List ℕ) (st : Construction) → IsPastBody st → StaysBlank s (step_bytes s st)
bytes_stay [] st b = (b, refl)
bytes_stay (c ∷ s) st b = then_stays c s (step_byte c st) (step_bytes s) (byte_stays c st b) (λ next k. bytes_stay s next k)

-- ---- A token

-- where it goes on it stays after body, and a text is whitespace
pub record Goes (k : Seen) (next : Construction) : Type 0 where
  pub after : IsPastBody next
  pub blank : (s : List ℕ) → k ≡ tokens.slice s → is_blank s ≡ true

abbrev pub GoesBy : Seen → Stepped → Type 0
GoesBy k (went es next) = Goes k next
GoesBy k (stops rule n) = Unit {0}

html_ends : (mode : InsertionMode) (n : List ℕ) (st : Construction) → is_after_body mode ≡ true → IsPastBody st → Stays (end_outside mode n st)
html_ends initial n st h b = cc
html_ends before_html n st h b = cc
html_ends before_head n st h b = cc
html_ends in_head n st h b = cc
html_ends after_head n st h b = cc
html_ends in_body n st h b = cc
html_ends after_body n st h b = by (bytes_eq n html)
  where
    by : (x : Bool) → Stays (cond x (went [] (record st { insertion_mode = after_html })) (stops AfterBody 0))
    by true = record { after = refl; outside = b.outside; reads = b.reads }
    by false = tt
html_ends after_html n st h b = tt

outside_is : (mode : InsertionMode) → is_after_body mode ≡ true → is_outside mode ≡ true
outside_is initial h = cc
outside_is before_html h = cc
outside_is before_head h = cc
outside_is in_head h = cc
outside_is after_head h = cc
outside_is in_body h = cc
outside_is after_body h = refl
outside_is after_html h = refl

comment_stays : (mode : InsertionMode) (s : List ℕ) (st : Construction) → is_after_body mode ≡ true → IsPastBody st → Stays (step_comment mode s st)
comment_stays initial s st h b = cc
comment_stays before_html s st h b = cc
comment_stays before_head s st h b = cc
comment_stays in_head s st h b = cc
comment_stays after_head s st h b = cc
comment_stays in_body s st h b = cc
comment_stays after_body s st h b = record { after = b.after; outside = b.outside; reads = b.reads }
comment_stays after_html s st h b = record { after = b.after; outside = b.outside; reads = b.reads }

doctype_stays : (mode : InsertionMode) (legacy : Bool) (st : Construction) → is_after_body mode ≡ true → Stays (step_doctype mode legacy st)
doctype_stays initial legacy st h = cc
doctype_stays before_html legacy st h = tt
doctype_stays before_head legacy st h = tt
doctype_stays in_head legacy st h = tt
doctype_stays after_head legacy st h = tt
doctype_stays in_body legacy st h = tt
doctype_stays after_body legacy st h = tt
doctype_stays after_html legacy st h = tt

no_text : (k : Seen) (o : Stepped) → ((s : List ℕ) → k ≡ tokens.slice s → ⊥) → Stays o → GoesBy k o
no_text k (went es next) none b = record { after = b; blank = λ s e. absurd (none s e) }
no_text k (stops rule n) none b = tt

pub token_goes : (k : Seen) (st : Construction) → IsPastBody st → GoesBy k (step st k)
unfolding step step_start step_end
token_goes (tokens.doctype legacy) st b = no_text _ (step_doctype st.insertion_mode legacy (no_drop st)) (λ s e. cc) (doctype_stays st.insertion_mode legacy (no_drop st) b.after)
token_goes (tokens.start_tag n attributes slash) st b = rw (outside_is st.insertion_mode b.after) tt
token_goes (tokens.end_tag n) st b = rw (b.outside, outside_is st.insertion_mode b.after) (no_text (tokens.end_tag n) (end_outside st.insertion_mode n (no_drop st)) (λ s e. cc) (html_ends st.insertion_mode n (no_drop st) b.after (kept st b)))
token_goes (tokens.comment s) st b = no_text _ (step_comment st.insertion_mode s (no_drop st)) (λ x e. cc) (comment_stays st.insertion_mode s (no_drop st) b.after (kept st b))
token_goes (tokens.slice s) st b = by (step_bytes s st) (bytes_stay s st b)
  where
    by : (o : Stepped) → StaysBlank s o → GoesBy (tokens.slice s) o
    by (went es next) h = record { after = h.0; blank = λ x e. let same : s ≡ x = cc in subst (λ y. is_blank y ≡ true) same h.1 }
    by (stops rule n) h = tt
token_goes (tokens.points ps) st b = by (step_bytes (encode_utf8_all ps) st) (bytes_stay (encode_utf8_all ps) st b)
  where
    by : (o : Stepped) → StaysBlank (encode_utf8_all ps) o → GoesBy (tokens.points ps) (at_front o)
    by (went es next) h = record { after = h.0; blank = λ x e. cc }
    by (stops rule n) h = tt

-- the end tag of body is refused
pub body_end_stops : (st : Construction) → IsPastBody st → step st (tokens.end_tag body) ≡ stops AfterBody 0
unfolding step step_end
body_end_stops st b = rw (b.outside, outside_is st.insertion_mode b.after) (by st.insertion_mode b.after)
  where
    by : (mode : InsertionMode) → is_after_body mode ≡ true → end_outside mode body (no_drop st) ≡ stops AfterBody 0
    by initial h = cc
    by before_html h = cc
    by before_head h = cc
    by in_head h = cc
    by after_head h = cc
    by in_body h = cc
    by after_body h = refl
    by after_html h = refl
