-- From the doctype to head, and the whole page.
use Rattle.std.proofs.Common.{◌≡◌, ℕ, Bool, true, false, ◌||◌, List, [], ◌∷◌, ◌++◌, refl}
use Rattle.std.proofs.lemmas.Bool.{not-true}
use Rattle.hm_base.specs.Walks.{Attribute, Event, doctype, start, text, comment, end, begins_comment, begins_start, begins_end_of}
use Rattle.hm_elements.specs.Names.{is_among, html, head}
use Rattle.hm_elements.specs.Tables.{is_refused, refused_names}
use Rattle.hm_elements.specs.Places.{RootAllowed, html_path, SettledHead, SettledBeforeHead, SettledBeforeHtml, SettledPage}
use Rattle.hm_tree.specs.Tokens as tokens
use Rattle.hm_token_laws.specs.First.{ordinary}
use Rattle.hm_spelling_spec.specs.Tags.{Spelling, SpellsStart}
use Rattle.hm_spelling_spec.specs.Omission.{start_falls}
use Rattle.hm_spelling_spec.specs.Spellings.{Before, other, opening, StartForm, StartSp, left_out_before, SpellsFrom}
use Rattle.hm_construction_laws.specs.Steps.{before_html, before_head, in_head, went, under_html, under_head, first_state, step, step_start}
use Rattle.hm_round_trip_laws.proofs.Pieces.{PiecesAreNext}
use Rattle.hm_round_trip_laws.proofs.Reading.{Builds, written}
use Rattle.hm_round_trip_laws.proofs.Ahead.{Sound, tag, unseen}
use Rattle.hm_round_trip_laws.proofs.Frame.{here, First, frame_modes, frame_names, start_omitted}
use Rattle.hm_round_trip_laws.proofs.FrameFirst.{BeforeHeadFirst, start_head, head_left_out, head_agrees, html_agrees}
use Rattle.hm_round_trip_laws.proofs.AfterOmittedHead.{starts_root}
use Rattle.hm_round_trip_laws.proofs.HeadLaw.{head_first, head_law}

-- ---- The start of head

head_falls : (frame : Bool) (w : List Event) → start_falls frame head w ≡ true → begins_end_of head w || begins_start w ≡ true
unfolding start_falls
head_falls frame w h = h

opens_head : (attributes : List Attribute) (slash : Bool) → step (here before_head under_html false) (tokens.start_tag head attributes slash) ≡ went (start head false attributes ∷ []) (here in_head under_head false)
unfolding step step_start is_refused refused_names is_among
opens_head attributes slash = refl

comment_before_head : (s : List ℕ) → step (here before_head under_html false) (tokens.comment s) ≡ went (comment s ∷ []) (here before_head under_html false)
unfolding step
comment_before_head s = refl

written_head : (g : Spelling) → Sound g.table → PiecesAreNext g → (w : List Event) (n : List ℕ) (foreign : Bool) (attributes : List Attribute) (slash : Bool) (piece rest : List ℕ) → RootAllowed head n foreign attributes → SettledHead under_head w → SpellsStart g head attributes slash piece rest → SpellsFrom g opening under_head w rest
    → Builds g.table (here before_head under_html false) (piece ++ rest) (start head false attributes ∷ w)
written_head g sound next w n foreign attributes slash piece rest a settled sp more =
    written g.table ordinary (here before_head under_html false) (here in_head under_head false) (start head false attributes ∷ []) w (piece ++ rest) 0 (tokens.start_tag head attributes slash) rest sound.names tt frame_modes.1.0
    (next.starts ordinary head attributes slash piece rest refl frame_names.1.0 a.attributes_allowed sp).1 (opens_head attributes slash) (head_law g sound next w rest opening settled refl more)

head_start : (g : Spelling) → Sound g.table → PiecesAreNext g → (w : List Event) (n : List ℕ) (foreign : Bool) (attributes : List Attribute) (before : Before) (b piece rest : List ℕ) (form : StartForm) → RootAllowed head n foreign attributes → SettledHead under_head w
    → b ≡ piece ++ rest → StartSp g before head false attributes w form piece rest → SpellsFrom g opening under_head w rest → Builds g.table (here before_head under_html false) b (start head false attributes ∷ w)
head_start g sound next w n foreign attributes before b piece rest StartForm.written a settled e sp more = rw e (written_head g sound next w n foreign attributes false piece rest a settled sp more)
head_start g sound next w n foreign attributes before b piece rest StartForm.slashed a settled e sp more = rw e (written_head g sound next w n foreign attributes true piece rest a settled sp.1 more)
head_start g sound next w n foreign attributes before b piece rest StartForm.omitted a settled e sp more =
    let o = start_omitted g.rules (left_out_before before) head false attributes w sp.1 in
    let (x, is, begins) = head_first g next w rest opening settled (head_falls g.rules.frame w o.falls) refl more in
    let cut : b ≡ rest = rw (e, sp.0) refl in
    rw (cut, o.plain) (unseen g.table sound rest x (here before_head under_html false) (here in_head under_head false) (start head false [] ∷ []) w frame_modes.1.0 frame_modes.1.1.0 begins (head_agrees x is) (head_law g sound next w rest opening settled refl more))

pub before_head_law : (g : Spelling) → Sound g.table → PiecesAreNext g → (w : List Event) (b : List ℕ) (before : Before) → SettledBeforeHead w → SpellsFrom g before html_path w b → Builds g.table (here before_head under_html false) b w
before_head_law g sound next [] b before settled sp = absurd settled
before_head_law g sound next (doctype legacy ∷ w) b before settled sp = absurd settled
before_head_law g sound next (end n foreign ∷ w) b before settled sp = absurd settled
before_head_law g sound next (text s raw ∷ w) b before settled sp = absurd settled
before_head_law g sound next (comment s ∷ w) b before (allowed, settled) (rest, e, more) =
    rw e (written g.table ordinary (here before_head under_html false) (here before_head under_html false) (comment s ∷ []) w _ 0 (tokens.comment s) rest sound.names tt frame_modes.1.0
    (next.comments ordinary s rest refl allowed.form).1 (comment_before_head s) (before_head_law g sound next w rest other settled more))
before_head_law g sound next (start n foreign attributes ∷ w) b before (a, settled) sp =
    let i = starts_root g head before n foreign attributes html_path w b a sp in
    rw (a.name, a.kind) (head_start g sound next w n foreign attributes i.before b i.piece i.rest i.form a settled i.whole i.spells i.more)

-- ---- The start of html

head_start_first : (g : Spelling) → PiecesAreNext g → (w : List Event) (n : List ℕ) (foreign : Bool) (attributes : List Attribute) (before : Before) (b piece rest : List ℕ) (form : StartForm) → RootAllowed head n foreign attributes → SettledHead under_head w
    → b ≡ piece ++ rest → StartSp g before head false attributes w form piece rest → SpellsFrom g opening under_head w rest → First g.table BeforeHeadFirst b
head_start_first g next w n foreign attributes before b piece rest StartForm.written a settled e sp more =
    (tag (tokens.start_tag head attributes false), start_head attributes false, (rest, rw e (next.starts ordinary head attributes false piece rest refl frame_names.1.0 a.attributes_allowed sp)))
head_start_first g next w n foreign attributes before b piece rest StartForm.slashed a settled e sp more =
    (tag (tokens.start_tag head attributes true), start_head attributes true, (rest, rw e (next.starts ordinary head attributes true piece rest refl frame_names.1.0 a.attributes_allowed sp.1)))
head_start_first g next w n foreign attributes before b piece rest StartForm.omitted a settled e sp more =
    let o = start_omitted g.rules (left_out_before before) head false attributes w sp.1 in
    let (x, is, begins) = head_first g next w rest opening settled (head_falls g.rules.frame w o.falls) refl more in
    (x, head_left_out is, rw (e, sp.0) begins)

before_head_first : (g : Spelling) → PiecesAreNext g → (w : List Event) (b : List ℕ) (before : Before) → SettledBeforeHead w → begins_comment w ≡ false → SpellsFrom g before html_path w b → First g.table BeforeHeadFirst b
before_head_first g next [] b before settled h sp = absurd settled
before_head_first g next (doctype legacy ∷ w) b before settled h sp = absurd settled
before_head_first g next (end n foreign ∷ w) b before settled h sp = absurd settled
before_head_first g next (text s raw ∷ w) b before settled h sp = absurd settled
before_head_first g next (comment s ∷ w) b before settled h sp = cc
before_head_first g next (start n foreign attributes ∷ w) b before (a, settled) h sp =
    let i = starts_root g head before n foreign attributes html_path w b a sp in
    head_start_first g next w n foreign attributes i.before b i.piece i.rest i.form a settled i.whole i.spells i.more

html_falls : (frame : Bool) (w : List Event) → start_falls frame html w ≡ true → begins_comment w ≡ false
unfolding start_falls
html_falls frame w h = not-true (begins_comment w) h

opens_html : (attributes : List Attribute) (slash : Bool) → step (here before_html [] false) (tokens.start_tag html attributes slash) ≡ went (start html false attributes ∷ []) (here before_head under_html false)
unfolding step step_start is_refused refused_names is_among
opens_html attributes slash = refl

comment_before_html : (s : List ℕ) → step (here before_html [] false) (tokens.comment s) ≡ went (comment s ∷ []) (here before_html [] false)
unfolding step
comment_before_html s = refl

written_html : (g : Spelling) → Sound g.table → PiecesAreNext g → (w : List Event) (n : List ℕ) (foreign : Bool) (attributes : List Attribute) (slash : Bool) (piece rest : List ℕ) → RootAllowed html n foreign attributes → SettledBeforeHead w → SpellsStart g html attributes slash piece rest → SpellsFrom g opening html_path w rest
    → Builds g.table (here before_html [] false) (piece ++ rest) (start html false attributes ∷ w)
written_html g sound next w n foreign attributes slash piece rest a settled sp more =
    written g.table ordinary (here before_html [] false) (here before_head under_html false) (start html false attributes ∷ []) w (piece ++ rest) 0 (tokens.start_tag html attributes slash) rest sound.names tt frame_modes.0
    (next.starts ordinary html attributes slash piece rest refl frame_names.0 a.attributes_allowed sp).1 (opens_html attributes slash) (before_head_law g sound next w rest opening settled more)

html_start : (g : Spelling) → Sound g.table → PiecesAreNext g → (w : List Event) (n : List ℕ) (foreign : Bool) (attributes : List Attribute) (before : Before) (b piece rest : List ℕ) (form : StartForm) → RootAllowed html n foreign attributes → SettledBeforeHead w
    → b ≡ piece ++ rest → StartSp g before html false attributes w form piece rest → SpellsFrom g opening html_path w rest → Builds g.table (here before_html [] false) b (start html false attributes ∷ w)
html_start g sound next w n foreign attributes before b piece rest StartForm.written a settled e sp more = rw e (written_html g sound next w n foreign attributes false piece rest a settled sp more)
html_start g sound next w n foreign attributes before b piece rest StartForm.slashed a settled e sp more = rw e (written_html g sound next w n foreign attributes true piece rest a settled sp.1 more)
html_start g sound next w n foreign attributes before b piece rest StartForm.omitted a settled e sp more =
    let o = start_omitted g.rules (left_out_before before) html false attributes w sp.1 in
    let (x, is, begins) = before_head_first g next w rest opening settled (html_falls g.rules.frame w o.falls) more in
    let cut : b ≡ rest = rw (e, sp.0) refl in
    rw (cut, o.plain) (unseen g.table sound rest x (here before_html [] false) (here before_head under_html false) (start html false [] ∷ []) w frame_modes.0 frame_modes.1.0 begins (html_agrees x is) (before_head_law g sound next w rest opening settled more))

pub before_html_law : (g : Spelling) → Sound g.table → PiecesAreNext g → (w : List Event) (b : List ℕ) (before : Before) → SettledBeforeHtml w → SpellsFrom g before [] w b → Builds g.table (here before_html [] false) b w
before_html_law g sound next [] b before settled sp = absurd settled
before_html_law g sound next (doctype legacy ∷ w) b before settled sp = absurd settled
before_html_law g sound next (end n foreign ∷ w) b before settled sp = absurd settled
before_html_law g sound next (text s raw ∷ w) b before settled sp = absurd settled
before_html_law g sound next (comment s ∷ w) b before (allowed, settled) (rest, e, more) =
    rw e (written g.table ordinary (here before_html [] false) (here before_html [] false) (comment s ∷ []) w _ 0 (tokens.comment s) rest sound.names tt frame_modes.0
    (next.comments ordinary s rest refl allowed.form).1 (comment_before_html s) (before_html_law g sound next w rest other settled more))
before_html_law g sound next (start n foreign attributes ∷ w) b before (a, settled) sp =
    let i = starts_root g html before n foreign attributes [] w b a sp in
    rw (a.name, a.kind) (html_start g sound next w n foreign attributes i.before b i.piece i.rest i.form a settled i.whole i.spells i.more)

-- ---- The page

comment_first : (s : List ℕ) → step first_state (tokens.comment s) ≡ went (comment s ∷ []) first_state
unfolding step
comment_first s = refl

doctype_first : (legacy : Bool) → step first_state (tokens.doctype legacy) ≡ went (doctype legacy ∷ []) (here before_html [] false)
unfolding step
doctype_first legacy = refl

-- What is spelled of a settled page is read back.
pub page_law : (g : Spelling) → Sound g.table → PiecesAreNext g → (w : List Event) (b : List ℕ) (before : Before) → SettledPage w → SpellsFrom g before [] w b → Builds g.table first_state b w
page_law g sound next [] b before settled sp = absurd settled
page_law g sound next (end n foreign ∷ w) b before settled sp = absurd settled
page_law g sound next (text s raw ∷ w) b before settled sp = absurd settled
page_law g sound next (start n foreign attributes ∷ w) b before settled sp = absurd settled
page_law g sound next (comment s ∷ w) b before (allowed, settled) (rest, e, more) =
    rw e (written g.table ordinary first_state first_state (comment s ∷ []) w _ 0 (tokens.comment s) rest sound.names tt frame_modes.0
    (next.comments ordinary s rest refl allowed.form).1 (comment_first s) (page_law g sound next w rest other settled more))
page_law g sound next (doctype legacy ∷ w) b before settled (piece, rest, e, sp, more) =
    rw e (written g.table ordinary first_state (here before_html [] false) (doctype legacy ∷ []) w (piece ++ rest) 0 (tokens.doctype legacy) rest sound.names tt frame_modes.0
    (next.doctypes ordinary legacy piece rest refl sp).1 (doctype_first legacy) (before_html_law g sound next w rest other settled more))
