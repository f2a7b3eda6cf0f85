-- After the end of head: whitespace and comments, and body, with its start tag or without.
use Rattle.std.proofs.Common.{◌≡◌, ℕ, Bool, true, false, not, ◌&&◌, ◌||◌, List, [], ◌∷◌, ◌++◌, bytes_eq, refl, sym, ◌∙◌, ap, subst}
use Rattle.std.proofs.lemmas.Bool.{and_parts, not-true, both_ways, false_from_ne_true}
use Rattle.hm_base.specs.Bytes.{is_space, head_is, all_pass}
use Rattle.hm_base.specs.Walks.{Attribute, Event, doctype, start, text, comment, end, Element, begins_text, begins_comment}
use Rattle.hm_elements.specs.Names.{words, is_among, head, body, svg, table}
use Rattle.hm_elements.specs.Tables.{is_metadata, is_refused, refused_names, is_raw, raw_names, is_rcdata, rcdata_names, holds_text}
use Rattle.hm_elements.specs.Nesting.{children, may_stand}
use Rattle.hm_elements.specs.Paths.{html_element, is_in_raw, is_in_text, stands_on}
use Rattle.hm_elements.specs.Places.{StartAllowed, ElementAllowed, RootAllowed, TextAllowed, html_path, SettledBody, SettledBeforeBody}
use Rattle.hm_elements.proofs.TableTools.{same_bytes, none_among}
use Rattle.hm_tree.specs.Tokens as tokens
use Rattle.hm_token_laws.specs.First.{ordinary}
use Rattle.hm_spelling_spec.specs.Tags.{Spelling, SpellsStart}
use Rattle.hm_spelling_spec.specs.Omission.{begins_space, head_takes, begins_for_head, start_falls}
use Rattle.hm_spelling_spec.specs.Spellings.{Before, other, opening, StartForm, StartSp, TextSp, drops_first_line_feed, is_self_closing, after_start, left_out_before, SpellsFrom}
use Rattle.hm_construction_laws.specs.Steps.{after_head, in_body, went, under_html, under_head, under_body, step, step_start}
use Rattle.hm_construction_laws.proofs.Texts.{texts}
use Rattle.hm_round_trip_laws.specs.Texts.{InPieces, text_as_read}
use Rattle.hm_round_trip_laws.proofs.Pieces.{PiecesAreNext}
use Rattle.hm_round_trip_laws.proofs.Reading.{Builds, written}
use Rattle.hm_round_trip_laws.proofs.Runs.{ran, run_of, run_bytes}
use Rattle.hm_round_trip_laws.proofs.Ahead.{Sound, tag, point, TextFront, any_front, unseen, text_first}
use Rattle.hm_round_trip_laws.proofs.Frame.{here, First, frame_modes, frame_names, start_omitted}
use Rattle.hm_round_trip_laws.proofs.BodySteps.{at_body, stands_in, no_root}
use Rattle.hm_round_trip_laws.proofs.Closing.{html_part, start_name, falls_child, child_in_table, ends_body, body_end_first}
use Rattle.hm_round_trip_laws.proofs.Follow.{Fronted, text_follows}
use Rattle.hm_round_trip_laws.proofs.TreeTexts.{flag, read_text, run_kept, space_after}
use Rattle.hm_round_trip_laws.proofs.TextElements.{flag_off}
use Rattle.hm_round_trip_laws.proofs.BodyTexts.{plain_text}
use Rattle.hm_round_trip_laws.proofs.BodyLaw.{body_law}
use Rattle.hm_round_trip_laws.proofs.FrameFirst.{BodyChild, BodyFirst, start_child, visible, body_ended, AfterHeadFirst, start_body, body_left_out, body_agrees}

-- ---- A child of body

not_in_both : (n : List ℕ) (ks ms : List (List ℕ)) → is_among n ks ≡ false → is_among n ms ≡ false → is_among n (ks ++ ms) ≡ false
unfolding is_among
not_in_both n [] ms a b = b
not_in_both n (k ∷ ks) ms a b = by (bytes_eq k n) (is_among n ks) refl a (λ e. not_in_both n ks ms e b)
  where
    by : (x y : Bool) → is_among n ks ≡ y → x || y ≡ false → (is_among n ks ≡ false → is_among n (ks ++ ms) ≡ false) → x || is_among n (ks ++ ms) ≡ false
    by true y e h more = cc
    by false true e h more = cc
    by false false e h more = more e

abbrev head_names : List (List ℕ)
head_names = words "link meta noscript script style" ++ words "base title"

pub stands_in_head : (n : List ℕ) → stands_on n under_head ≡ is_among n (words "base link meta noscript script style title")
unfolding may_stand children is_among
stands_in_head n = refl

not_metadata : (n : List ℕ) → is_among n head_names ≡ false → is_metadata n ≡ false
unfolding is_metadata is_among
not_metadata n h = none_among n (words "base link meta script style title") head_names h refl

not_in_head : (n : List ℕ) → is_among n head_names ≡ false → stands_on n under_head ≡ false
unfolding is_among
not_in_head n h = stands_in_head n ∙ none_among n (words "base link meta noscript script style title") head_names h refl

svg_not_taken : head_takes svg ≡ false
unfolding head_takes is_among
svg_not_taken = refl

taken_list : (n : List ℕ) → head_takes n ≡ false → is_among n (words "link meta noscript script style") ≡ false
unfolding head_takes
taken_list n h = h

not_taken : (n : List ℕ) (foreign : Bool) → foreign ≡ bytes_eq n svg → not foreign && head_takes n ≡ false → head_takes n ≡ false
not_taken n true kind h = rw (same_bytes n svg (sym kind)) svg_not_taken
not_taken n false kind h = h

body_child_is : (n : List ℕ) (foreign : Bool) (w : List Event) → ElementAllowed n foreign under_body w → not foreign && head_takes n ≡ false → BodyChild n
body_child_is n foreign w a h =
    let k = html_part n foreign under_body w refl a in
    let at = (stands_in n under_body k.stands).0 in
    let elsewhere : is_among n (words "base title") ≡ false = false_from_ne_true (is_among n (words "base title")) (λ e. other_name (at.in_head e)) in
    let none = not_in_both n (words "link meta noscript script style") (words "base title") (taken_list n (not_taken n foreign k.kind h)) elsewhere in
    record { root = no_root n at.is_no_root; no_metadata = not_metadata n none; not_in_head = not_in_head n none }
  where
    other_name : body ≡ head → ⊥
    other_name e = both_ways (bytes_eq body head) refl (ap (λ (n : List ℕ). bytes_eq n head) e)

-- ---- What is first in body

body_no_flag : (before : Before) → flag before under_body ≡ false
unfolding drops_first_line_feed is_among
body_no_flag before = flag_off before under_body refl

html_no_flag : (before : Before) → flag before under_html ≡ false
unfolding drops_first_line_feed is_among
html_no_flag before = flag_off before under_html refl

body_is_plain : (is_in_raw under_body ≡ false) × (is_rcdata body ≡ false)
unfolding is_raw raw_names is_rcdata rcdata_names is_among
body_is_plain = (refl, refl)

no_body_child : (n : List ℕ) (w : List Event) (frame : Bool) → stands_on n under_body ≡ true → start_falls frame n w ≡ true → ⊥
no_body_child n w frame stands falls = differ (child_in_table n under_body w stands (falls_child frame n w (stands_in n under_body stands).0.is_no_root falls))
  where
    differ : body ≡ table → ⊥
    differ e = cc

start_first : (g : Spelling) → PiecesAreNext g → (w : List Event) (n : List ℕ) (foreign : Bool) (attributes : List Attribute) (before : Before) (b piece rest : List ℕ) (form : StartForm) → StartAllowed n foreign attributes under_body w → not foreign && head_takes n ≡ false
    → b ≡ piece ++ rest → StartSp g before n foreign attributes w form piece rest → First g.table BodyFirst b
start_first g next w n foreign attributes before b piece rest StartForm.written allowed h e sp =
    (tag (tokens.start_tag n attributes false), start_child n attributes false (body_child_is n foreign w allowed.element h), (rest, rw e (next.starts ordinary n attributes false piece rest refl (start_name n foreign under_body w allowed.element) allowed.attributes_allowed sp)))
start_first g next w n foreign attributes before b piece rest StartForm.slashed allowed h e sp =
    (tag (tokens.start_tag n attributes true), start_child n attributes true (body_child_is n foreign w allowed.element h), (rest, rw e (next.starts ordinary n attributes true piece rest refl (start_name n foreign under_body w allowed.element) allowed.attributes_allowed sp.1)))
start_first g next w n foreign attributes before b piece rest StartForm.omitted allowed h e sp =
    let o = start_omitted g.rules (left_out_before before) n foreign attributes w sp.1 in
    let k = html_part n foreign under_body w refl allowed.element in
    absurd (no_body_child n w g.rules.frame k.stands o.falls)

text_is_first : (g : Spelling) → PiecesAreNext g → (w : List Event) (s : List ℕ) (before : Before) (b piece rest : List ℕ) → TextAllowed under_body s false w → SettledBody under_body w → head_is is_space s ≡ false → b ≡ piece ++ rest → TextSp g before under_body s false piece rest → SpellsFrom g other under_body w rest → First g.table BodyFirst b
text_is_first g next w [] before b piece rest a settled h e sp more = let bad : true ≡ false = a.not_empty in cc
text_is_first g next w (c ∷ s) before b piece rest a settled h e sp more =
    let p : InPieces g.table false (text_as_read before under_body (c ∷ s)) piece rest = rw body_is_plain.1 at (next.texts before under_body (c ∷ s) piece rest a.utf8 refl sp) in
    let as_is : text_as_read before under_body (c ∷ s) ≡ c ∷ s = read_text before under_body (c ∷ s) a.utf8 ∙ rw (body_no_flag before) refl in
    let (more_text, front) = text_follows g next w under_body other rest at_body refl settled a.alone refl more in
    let whole = text_first g.table p.pieces b rest more_text (e ∙ ap (λ x. x ++ rest) (sym p.written)) p.good front in
    (point c, visible c h, (s ++ more_text, subst (TextFront g.table b) (ap (λ x. x ++ more_text) (p.means ∙ as_is)) whole))

pub body_first : (g : Spelling) → PiecesAreNext g → (w : List Event) (b : List ℕ) (before : Before) → SettledBody under_body w → begins_comment w ≡ false → begins_space w ≡ false → begins_for_head w ≡ false → is_self_closing before ≡ false → SpellsFrom g before under_body w b → First g.table BodyFirst b
body_first g next [] b before settled h k l fresh sp = absurd settled
body_first g next (doctype legacy ∷ w) b before settled h k l fresh sp = absurd settled
body_first g next (comment s ∷ w) b before settled h k l fresh sp = cc
body_first g next (start n foreign attributes ∷ w) b before settled h k l fresh (form, piece, rest, e, sp, more) = start_first g next w n foreign attributes before b piece rest form settled.0 l e sp
body_first g next (text s true ∷ w) b before settled h k l fresh sp = absurd (both_ways (is_in_raw under_body) body_is_plain.0 (sym settled.0.kind))
body_first g next (text s false ∷ w) b before settled h k l fresh (piece, rest, e, sp, more) = text_is_first g next w s before b piece rest settled.0 settled.1 k e sp more
body_first g next (end m foreign ∷ w) b before settled h k l fresh sp =
    let i = (ends_body g before m foreign w b settled sp).2 in
    let (x, is, begins) = body_end_first g next i.form w i.piece i.rest b before i.settled fresh i.whole i.spells i.more in
    (x, body_ended is, begins)

-- ---- The start of body

pub record BodyFalls (frame : Bool) (w : List Event) : Type 0 where
  pub no_comment : begins_comment w ≡ false
  pub no_space : begins_space w ≡ false
  pub not_for_head : begins_for_head w ≡ false

body_falls : (frame : Bool) (w : List Event) → start_falls frame body w ≡ true → BodyFalls frame w
unfolding start_falls
body_falls frame w h =
    let one = and_parts (not frame) _ h in
    let two = and_parts (not (begins_comment w)) _ one.1 in
    let three = and_parts (not (begins_space w)) (not (begins_for_head w)) two.1 in
    record { no_comment = not-true _ two.0; no_space = not-true _ three.0; not_for_head = not-true _ three.1 }

-- the start of body, with what its parts are
pub record StartsRoot (g : Spelling) (root : List ℕ) (attributes : List Attribute) (path : List Element) (w : List Event) (b : List ℕ) : Type 0 where
  pub form : StartForm
  pub piece : List ℕ
  pub rest : List ℕ
  pub before : Before
  pub whole : b ≡ piece ++ rest
  pub spells : StartSp g before root false attributes w form piece rest
  pub more : SpellsFrom g opening (html_element root ∷ path) w rest

opens_so : (form : StartForm) → after_start false form ≡ opening
opens_so StartForm.omitted = refl
opens_so StartForm.written = refl
opens_so StartForm.slashed = refl

pub starts_root : (g : Spelling) (root : List ℕ) (before : Before) (n : List ℕ) (foreign : Bool) (attributes : List Attribute) (path : List Element) (w : List Event) (b : List ℕ) → RootAllowed root n foreign attributes → SpellsFrom g before path (start n foreign attributes ∷ w) b → StartsRoot g root attributes path w b
starts_root g root before n foreign attributes path w b a (form, piece, rest, e, sp, more) =
    let more' : SpellsFrom g (after_start false form) (html_element root ∷ path) w rest = rw (a.name, a.kind) at more in
    record { form = form; piece = piece; rest = rest; before = before; whole = e; spells = rw (a.name, a.kind) at sp; more = rw (opens_so form) at more' }

body_start_first : (g : Spelling) → PiecesAreNext g → (w : List Event) (attributes : List Attribute) (before : Before) (b piece rest : List ℕ) (form : StartForm) → RootAllowed body body false attributes → SettledBody under_body w → b ≡ piece ++ rest → StartSp g before body false attributes w form piece rest → SpellsFrom g opening under_body w rest
    → First g.table AfterHeadFirst b
body_start_first g next w attributes before b piece rest StartForm.written a settled e sp more =
    (tag (tokens.start_tag body attributes false), start_body attributes false, (rest, rw e (next.starts ordinary body attributes false piece rest refl frame_names.1.1 a.attributes_allowed sp)))
body_start_first g next w attributes before b piece rest StartForm.slashed a settled e sp more =
    (tag (tokens.start_tag body attributes true), start_body attributes true, (rest, rw e (next.starts ordinary body attributes true piece rest refl frame_names.1.1 a.attributes_allowed sp.1)))
body_start_first g next w attributes before b piece rest StartForm.omitted a settled e sp more =
    let o = start_omitted g.rules (left_out_before before) body false attributes w sp.1 in
    let f = body_falls g.rules.frame w o.falls in
    let (x, is, begins) = body_first g next w rest opening settled f.no_comment f.no_space f.not_for_head refl more in
    (x, body_left_out is, rw (e, sp.0) begins)

root_again : (root n : List ℕ) (foreign : Bool) (attributes : List Attribute) → RootAllowed root n foreign attributes → RootAllowed root root false attributes
root_again root n foreign attributes a = record { name = refl; kind = refl; attributes_allowed = a.attributes_allowed }

pub after_head_first : (g : Spelling) → PiecesAreNext g → (w : List Event) (b : List ℕ) (before : Before) → SettledBeforeBody w → begins_text w ≡ false → begins_comment w ≡ false → SpellsFrom g before html_path w b → First g.table AfterHeadFirst b
after_head_first g next [] b before settled h k sp = absurd settled
after_head_first g next (doctype legacy ∷ w) b before settled h k sp = absurd settled
after_head_first g next (end n foreign ∷ w) b before settled h k sp = absurd settled
after_head_first g next (text s raw ∷ w) b before settled h k sp = cc
after_head_first g next (comment s ∷ w) b before settled h k sp = cc
after_head_first g next (start n foreign attributes ∷ w) b before (a, settled) h k sp =
    let i = starts_root g body before n foreign attributes html_path w b a sp in
    body_start_first g next w attributes i.before b i.piece i.rest i.form (root_again body n foreign attributes a) settled i.whole i.spells i.more

after_head_follows : (g : Spelling) → PiecesAreNext g → (w : List Event) (b : List ℕ) (before : Before) → SettledBeforeBody w → begins_text w ≡ false → SpellsFrom g before html_path w b → Fronted g.table b
after_head_follows g next [] b before settled h sp = absurd settled
after_head_follows g next (doctype legacy ∷ w) b before settled h sp = absurd settled
after_head_follows g next (end n foreign ∷ w) b before settled h sp = absurd settled
after_head_follows g next (text s raw ∷ w) b before settled h sp = cc
after_head_follows g next (comment s ∷ w) b before (allowed, settled) h (rest, e, more) = any_front g.table b (tag (tokens.comment s)) (rest, rw e (next.comments ordinary s rest refl allowed.form))
after_head_follows g next (start n foreign attributes ∷ w) b before settled h sp = let (x, is, begins) = after_head_first g next (start n foreign attributes ∷ w) b before settled refl refl sp in any_front g.table b x begins

-- ---- The law

opens_body : (attributes : List Attribute) (slash : Bool) → step (here after_head under_html false) (tokens.start_tag body attributes slash) ≡ went (start body false attributes ∷ []) (here in_body under_body false)
unfolding step step_start is_refused refused_names is_among
opens_body attributes slash = refl

comment_after_head : (s : List ℕ) → step (here after_head under_html false) (tokens.comment s) ≡ went (comment s ∷ []) (here after_head under_html false)
unfolding step
comment_after_head s = refl

written_body : (g : Spelling) → Sound g.table → PiecesAreNext g → (w : List Event) (attributes : List Attribute) (slash : Bool) (piece rest : List ℕ) → RootAllowed body body false attributes → SettledBody under_body w → SpellsStart g body attributes slash piece rest → SpellsFrom g opening under_body w rest
    → Builds g.table (here after_head under_html false) (piece ++ rest) (start body false attributes ∷ w)
written_body g sound next w attributes slash piece rest a settled sp more =
    let law : Builds g.table (here in_body under_body false) rest w = rw (body_no_flag opening) at (body_law g sound next w under_body rest opening at_body settled refl more) in
    written g.table ordinary (here after_head under_html false) (here in_body under_body false) (start body false attributes ∷ []) w (piece ++ rest) 0 (tokens.start_tag body attributes slash) rest sound.names tt frame_modes.1.0
    (next.starts ordinary body attributes slash piece rest refl frame_names.1.1 a.attributes_allowed sp).1 (opens_body attributes slash) law

body_start : (g : Spelling) → Sound g.table → PiecesAreNext g → (w : List Event) (attributes : List Attribute) (before : Before) (b piece rest : List ℕ) (form : StartForm) → RootAllowed body body false attributes → SettledBody under_body w → b ≡ piece ++ rest → StartSp g before body false attributes w form piece rest → SpellsFrom g opening under_body w rest
    → Builds g.table (here after_head under_html false) b (start body false attributes ∷ w)
body_start g sound next w attributes before b piece rest StartForm.written a settled e sp more = rw e (written_body g sound next w attributes false piece rest a settled sp more)
body_start g sound next w attributes before b piece rest StartForm.slashed a settled e sp more = rw e (written_body g sound next w attributes true piece rest a settled sp.1 more)
body_start g sound next w attributes before b piece rest StartForm.omitted a settled e sp more =
    let o = start_omitted g.rules (left_out_before before) body false attributes w sp.1 in
    let f = body_falls g.rules.frame w o.falls in
    let (x, is, begins) = body_first g next w rest opening settled f.no_comment f.no_space f.not_for_head refl more in
    let law : Builds g.table (here in_body under_body false) rest w = rw (body_no_flag opening) at (body_law g sound next w under_body rest opening at_body settled refl more) in
    let cut : b ≡ rest = rw (e, sp.0) refl in
    rw (cut, o.plain) (unseen g.table sound rest x (here after_head under_html false) (here in_body under_body false) (start body false [] ∷ []) w frame_modes.1.0 frame_modes.1.1.1.0 begins (body_agrees x is) law)

html_is_plain : (is_in_text under_html ≡ false) × (is_in_raw under_html ≡ false)
unfolding holds_text is_raw raw_names is_rcdata rcdata_names is_among
html_is_plain = (refl, refl)

space_kept : (s : List ℕ) → all_pass is_space s ≡ true → run_bytes s (here after_head under_html false) ≡ ran (texts (is_in_raw under_html) s) (here after_head under_html false)
space_kept s blank = run_kept (here after_head under_html false) (is_in_raw under_html) is_space (λ c h. ap run_of (space_after under_html c html_is_plain.0 h)) s blank

pub after_head_law : (g : Spelling) → Sound g.table → PiecesAreNext g → (w : List Event) (b : List ℕ) (before : Before) → SettledBeforeBody w → SpellsFrom g before html_path w b → Builds g.table (here after_head under_html false) b w
after_head_law g sound next [] b before settled sp = absurd settled
after_head_law g sound next (doctype legacy ∷ w) b before settled sp = absurd settled
after_head_law g sound next (end n foreign ∷ w) b before settled sp = absurd settled
after_head_law g sound next (comment s ∷ w) b before (allowed, settled) (rest, e, more) =
    rw e (written g.table ordinary (here after_head under_html false) (here after_head under_html false) (comment s ∷ []) w _ 0 (tokens.comment s) rest sound.names tt frame_modes.1.0
    (next.comments ordinary s rest refl allowed.form).1 (comment_after_head s) (after_head_law g sound next w rest other settled more))
after_head_law g sound next (text s true ∷ w) b before (a, blank, settled) sp = absurd (both_ways (is_in_raw under_html) html_is_plain.1 (sym a.kind))
after_head_law g sound next (text s false ∷ w) b before (a, blank, settled) (piece, rest, e, sp, more) =
    let law = plain_text g sound next after_head under_html s piece rest before w refl html_is_plain.0 a sp (after_head_follows g next w rest other settled a.alone more) (space_kept s blank) (after_head_law g sound next w rest other settled more) in
    rw e (rw (html_no_flag before) at law)
after_head_law g sound next (start n foreign attributes ∷ w) b before (a, settled) sp =
    let i = starts_root g body before n foreign attributes html_path w b a sp in
    rw (a.name, a.kind) (body_start g sound next w attributes i.before b i.piece i.rest i.form (root_again body n foreign attributes a) settled i.whole i.spells i.more)
