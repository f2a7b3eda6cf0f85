-- Spellings of what stands in head are read back.
use Rattle.std.proofs.Common.{◌≡◌, ℕ, Bool, true, false, not, ◌||◌, List, [], ◌∷◌, ◌++◌, bytes_eq, refl, sym, ◌∙◌, ap, subst, codes}
use Rattle.std.proofs.lemmas.Bool.{and_parts, not-true, both_ways}
use Rattle.hm_base.specs.Bytes.{is_space, all_pass}
use Rattle.hm_base.specs.Forms.{is_tag_name}
use Rattle.hm_base.specs.Walks.{Attribute, Event, doctype, start, text, comment, end, Element, begins_text, begins_comment, begins_end, begins_end_of, begins_start}
use Rattle.hm_elements.specs.Names.{is_among, html, head, noscript}
use Rattle.hm_elements.specs.Tables.{is_void, holds_text}
use Rattle.hm_elements.specs.Paths.{html_element, current, is_in_raw}
use Rattle.hm_elements.specs.Settled.{is_html}
use Rattle.hm_elements.specs.Places.{StartAllowed, ElementAllowed, HtmlAllowed, TextAllowed, CommentAllowed, html_path, SettledBeforeBody, SettledHead}
use Rattle.hm_tree.specs.Tokens as tokens
use Rattle.hm_token_laws.specs.First.{ordinary}
use Rattle.hm_token_laws.specs.Written.{IsNext}
use Rattle.hm_spelling_spec.specs.Tags.{Spelling, SpellsStart}
use Rattle.hm_spelling_spec.specs.Omission.{end_falls}
use Rattle.hm_spelling_spec.specs.Spellings.{Before, other, drops_first_line_feed, opening, StartForm, EndForm, StartSp, EndSp, TextSp, is_self_closing, after_start, after_end, left_out_before, SpellsFrom}
use Rattle.hm_open_elements.specs.Moves.{element}
use Rattle.hm_construction_laws.specs.Steps.{in_head, after_head, under_html, under_head, drops_after}
use Rattle.hm_construction_laws.specs.Trees.{mode_of}
use Rattle.hm_construction_laws.proofs.Modes.{is_mode}
use Rattle.hm_construction_laws.proofs.Texts.{texts}
use Rattle.hm_construction_laws.proofs.Bytes.{no_text_no_raw}
use Rattle.hm_round_trip_laws.proofs.Pieces.{PiecesAreNext}
use Rattle.hm_round_trip_laws.proofs.Reading.{Builds, written}
use Rattle.hm_round_trip_laws.proofs.Runs.{ran, run_of, run_bytes}
use Rattle.hm_round_trip_laws.proofs.Ahead.{Sound, tag, any_front, unseen}
use Rattle.hm_round_trip_laws.proofs.Frame.{here, First, frame_modes, frame_names, frame_not_void, start_omitted, end_omitted_is}
use Rattle.hm_round_trip_laws.proofs.LastEvents.{not_absent}
use Rattle.hm_round_trip_laws.proofs.BodySteps.{stands_in, NoRoot, no_root}
use Rattle.hm_round_trip_laws.proofs.Closing.{html_part, falls_goes, goes_holds}
use Rattle.hm_round_trip_laws.proofs.Follow.{Fronted}
use Rattle.hm_round_trip_laws.proofs.TreeTexts.{flag, flag_after, run_kept, head_space}
use Rattle.hm_round_trip_laws.proofs.TextElements.{flag_off, text_names, text_ends, element_text}
use Rattle.hm_round_trip_laws.proofs.BodyTexts.{plain_path, plain_text}
use Rattle.hm_round_trip_laws.proofs.BodyLaw.{markup_mode, end_is_next}
use Rattle.hm_round_trip_laws.proofs.FrameFirst.{HeadFirst, head_child, end_head, after_omitted_head, end_head_agrees}
use Rattle.hm_round_trip_laws.proofs.AfterOmittedHead.{after_head_first, after_head_law}
use Rattle.hm_round_trip_laws.proofs.InHead.{Outer, at_head, at_noscript, InHead, around, in_element, outer_is_plain, noscript_name, child_path, html_child, no_omitted_start, head_opens, void_entered, stays_entered, text_ended, noscript_ended, head_ended, comment_in_head, noscript_goes, noscript_facts}

-- ---- The end of head, and of what stands in it

-- the end of head, with what its parts are
pub record EndsHead (g : Spelling) (before : Before) (w : List Event) (b : List ℕ) : Type 0 where
  pub form : EndForm
  pub piece : List ℕ
  pub rest : List ℕ
  pub whole : b ≡ piece ++ rest
  pub spells : EndSp g before head false html_path w form piece
  pub more : SpellsFrom g (after_end head form) html_path w rest
  pub settled : SettledBeforeBody w

ends_head : (g : Spelling) (before : Before) (m : List ℕ) (foreign : Bool) (w : List Event) (b : List ℕ) → SettledHead under_head (end m foreign ∷ w) → SpellsFrom g before under_head (end m foreign ∷ w) b → (m ≡ head) × (foreign ≡ false) × EndsHead g before w b
ends_head g before m foreign w b settled (form, piece, rest, e, sp, more) =
    let named : m ≡ head = ap (λ (x : Element). x.name) (sym settled.0) in
    let kind : foreign ≡ false = ap (λ (x : Element). x.foreign) (sym settled.0) in
    let is : is_html head m foreign ≡ true = rw (named, kind) refl in
    (named, kind, record { form = form; piece = piece; rest = rest; whole = e; spells = rw (named, kind) at sp; more = rw named at more; settled = rw is at settled.1 })

-- the end of an element in head
record EndsChild (g : Spelling) (before : Before) (n : List ℕ) (path : List Element) (w : List Event) (b : List ℕ) : Type 0 where
  form : EndForm
  piece : List ℕ
  rest : List ℕ
  whole : b ≡ piece ++ rest
  spells : EndSp g before n false path w form piece
  more : SpellsFrom g (after_end n form) path w rest
  settled : SettledHead path w

ends_child : (g : Spelling) (before : Before) (n : List ℕ) (path : List Element) (m : List ℕ) (foreign : Bool) (w : List Event) (b : List ℕ) → bytes_eq n head ≡ false → SettledHead (html_element n ∷ path) (end m foreign ∷ w) → SpellsFrom g before (html_element n ∷ path) (end m foreign ∷ w) b
    → (m ≡ n) × (foreign ≡ false) × EndsChild g before n path w b
ends_child g before n path m foreign w b inside settled (form, piece, rest, e, sp, more) =
    let named : m ≡ n = ap (λ (x : Element). x.name) (sym settled.0) in
    let kind : foreign ≡ false = ap (λ (x : Element). x.foreign) (sym settled.0) in
    let outside : is_html head m foreign ≡ false = rw (named, kind) inside in
    (named, kind, record { form = form; piece = piece; rest = rest; whole = e; spells = rw (named, kind) at sp; more = rw named at more; settled = rw outside at settled.1 })

record HeadFalls (w : List Event) : Type 0 where
  no_text : begins_text w ≡ false
  no_comment : begins_comment w ≡ false

head_falls : (parent : List ℕ) (w : List Event) → end_falls head parent w ≡ true → HeadFalls w
unfolding end_falls
head_falls parent w h = let two = and_parts (not (begins_text w)) (not (begins_comment w)) h in record { no_text = not-true _ two.0; no_comment = not-true _ two.1 }

head_end_first : (g : Spelling) → PiecesAreNext g → (w : List Event) (b piece rest : List ℕ) (before : Before) (form : EndForm) → SettledBeforeBody w → is_self_closing before ≡ false → b ≡ piece ++ rest → EndSp g before head false html_path w form piece → SpellsFrom g (after_end head form) html_path w rest → First g.table HeadFirst b
head_end_first g next w b piece rest before EndForm.absent settled fresh e sp more = absurd (not_absent before head false fresh frame_not_void.1.0 sp.1)
head_end_first g next w b piece rest before EndForm.omitted settled fresh e sp more =
    let f = head_falls html w (end_omitted_is g.rules head false html_path w sp.2).1 in
    let (x, is, begins) = after_head_first g next w rest (after_end head EndForm.omitted) settled f.no_text f.no_comment more in
    (x, after_omitted_head is, rw (e, sp.0) begins)
head_end_first g next w b piece rest before EndForm.written settled fresh e sp more = (tag (tokens.end_tag head), end_head, (rest, rw e (next.ends ordinary head piece rest refl frame_names.1.0 sp.1)))

-- ---- What is first in head

start_first : (g : Spelling) → PiecesAreNext g → (w : List Event) (n : List ℕ) (foreign : Bool) (attributes : List Attribute) (path : List Element) (before : Before) (b piece rest : List ℕ) (form : StartForm) → Outer path → StartAllowed n foreign attributes path w → b ≡ piece ++ rest → StartSp g before n foreign attributes w form piece rest → First g.table HeadFirst b
start_first g next w n foreign attributes path before b piece rest StartForm.written o allowed e sp =
    let h = html_part n foreign path w (outer_is_plain path o).outside allowed.element in
    (tag (tokens.start_tag n attributes false), head_child n attributes false (no_root n (stands_in n path h.stands).0.is_no_root), (rest, rw e (next.starts ordinary n attributes false piece rest refl h.name allowed.attributes_allowed sp)))
start_first g next w n foreign attributes path before b piece rest StartForm.slashed o allowed e sp =
    let h = html_part n foreign path w (outer_is_plain path o).outside allowed.element in
    (tag (tokens.start_tag n attributes true), head_child n attributes true (no_root n (stands_in n path h.stands).0.is_no_root), (rest, rw e (next.starts ordinary n attributes true piece rest refl h.name allowed.attributes_allowed sp.1)))
start_first g next w n foreign attributes path before b piece rest StartForm.omitted o allowed e sp =
    let h = html_part n foreign path w (outer_is_plain path o).outside allowed.element in
    absurd (no_omitted_start g.rules.frame n path w o h.stands (start_omitted g.rules (left_out_before before) n foreign attributes w sp.1).falls)

pub head_first : (g : Spelling) → PiecesAreNext g → (w : List Event) (b : List ℕ) (before : Before) → SettledHead under_head w → begins_end_of head w || begins_start w ≡ true → is_self_closing before ≡ false → SpellsFrom g before under_head w b → First g.table HeadFirst b
head_first g next [] b before settled h fresh sp = cc
head_first g next (doctype legacy ∷ w) b before settled h fresh sp = cc
head_first g next (text s raw ∷ w) b before settled h fresh sp = cc
head_first g next (comment s ∷ w) b before settled h fresh sp = cc
head_first g next (start n foreign attributes ∷ w) b before settled h fresh (form, piece, rest, e, sp, more) = start_first g next w n foreign attributes under_head before b piece rest form at_head settled.0 e sp
head_first g next (end m foreign ∷ w) b before settled h fresh sp =
    let i = (ends_head g before m foreign w b settled sp).2 in
    head_end_first g next w b i.piece i.rest before i.form i.settled fresh i.whole i.spells i.more

noscript_follows : (g : Spelling) → PiecesAreNext g → (w : List Event) (b piece rest : List ℕ) (before : Before) (form : EndForm) → is_self_closing before ≡ false → b ≡ piece ++ rest → EndSp g before noscript false under_head w form piece → Fronted g.table b
noscript_follows g next w b piece rest before EndForm.absent fresh e sp = absurd (not_absent before noscript false fresh noscript_facts.1 sp.1)
noscript_follows g next w b piece rest before EndForm.omitted fresh e sp = absurd (noscript_goes w (falls_goes noscript head w (no_root noscript noscript_facts.0) (end_omitted_is g.rules noscript false under_head w sp.2).1))
noscript_follows g next w b piece rest before EndForm.written fresh e sp = any_front g.table b (tag (tokens.end_tag noscript)) (rest, rw e (next.ends ordinary noscript piece rest refl noscript_name sp.1))

head_follows : (g : Spelling) → PiecesAreNext g → (w : List Event) (path : List Element) (b : List ℕ) (before : Before) → Outer path → SettledHead path w → begins_text w ≡ false → is_self_closing before ≡ false → SpellsFrom g before path w b → Fronted g.table b
head_follows g next [] path b before o settled h fresh sp = absurd settled
head_follows g next (doctype legacy ∷ w) path b before o settled h fresh sp = absurd settled
head_follows g next (text s raw ∷ w) path b before o settled h fresh sp = cc
head_follows g next (comment s ∷ w) path b before o (allowed, settled) h fresh (rest, e, more) = any_front g.table b (tag (tokens.comment s)) (rest, rw e (next.comments ordinary s rest refl allowed.form))
head_follows g next (start n foreign attributes ∷ w) path b before o settled h fresh (form, piece, rest, e, sp, more) =
    let (x, is, begins) = start_first g next w n foreign attributes path before b piece rest form o settled.0 e sp in any_front g.table b x begins
head_follows g next (end m foreign ∷ w) path b before at_head settled h fresh sp =
    let i = (ends_head g before m foreign w b settled sp).2 in
    let (x, is, begins) = head_end_first g next w b i.piece i.rest before i.form i.settled fresh i.whole i.spells i.more in any_front g.table b x begins
head_follows g next (end m foreign ∷ w) path b before at_noscript settled h fresh sp =
    let i = (ends_child g before noscript under_head m foreign w b refl settled sp).2 in
    noscript_follows g next w b i.piece i.rest before i.form fresh i.whole i.spells

-- ---- The law

abbrev pub HeadLaw : Spelling → List Event → Type 0
HeadLaw g w = (path : List Element) (b : List ℕ) (before : Before) → InHead path → SettledHead path w → is_self_closing before ≡ false → SpellsFrom g before path w b → Builds g.table (here in_head path (flag before path)) b w

abbrev pub HeadLaws : Spelling → List Event → Type 0
HeadLaws g [] = HeadLaw g []
HeadLaws g (e ∷ w) = HeadLaw g (e ∷ w) × HeadLaws g w

law_of : (g : Spelling) (w : List Event) → HeadLaws g w → HeadLaw g w
law_of g [] laws = laws
law_of g (e ∷ w) laws = laws.0

outer_mode : (path : List Element) → Outer path → mode_of path ≡ ordinary
outer_mode path o = let k = outer_is_plain path o in plain_path path k.outside k.no_text

head_comment : (g : Spelling) → Sound g.table → PiecesAreNext g → (w : List Event) → HeadLaw g w → (s : List ℕ) (path : List Element) (b rest : List ℕ) (drops : Bool) → InHead path → CommentAllowed path s → SettledHead path w
    → b ≡ codes "<!--" ++ (s ++ (codes "-->" ++ rest)) → SpellsFrom g other path w rest → Builds g.table (here in_head path drops) b (comment s ∷ w)
head_comment g sound next w law s path b rest drops ins allowed settled e more =
    rw e (written g.table (mode_of path) (here in_head path drops) (here in_head path false) (comment s ∷ []) w _ 0 (tokens.comment s) rest sound.names (is_mode path) refl
    (next.comments (mode_of path) s rest (markup_mode path allowed.outside) allowed.form).1 (comment_in_head path drops s) (law path rest other ins settled refl more))

blank_kept : (path : List Element) (s : List ℕ) → Outer path → all_pass is_space s ≡ true → run_bytes s (here in_head path false) ≡ ran (texts (is_in_raw path) s) (here in_head path false)
blank_kept path s o blank = run_kept (here in_head path false) (is_in_raw path) is_space (λ c h. ap run_of (head_space path c (outer_is_plain path o).no_text h)) s blank

head_text : (g : Spelling) → Sound g.table → PiecesAreNext g → (w : List Event) → HeadLaw g w → (s : List ℕ) (raw : Bool) (path : List Element) (piece rest : List ℕ) (before : Before) → InHead path → TextAllowed path s raw w → SettledHead path w
    → TextSp g before path s raw piece rest → SpellsFrom g other path w rest → Builds g.table (here in_head path (flag before path)) (piece ++ rest) (text s raw ∷ w)
head_text g sound next w law s raw path piece rest before (in_element n outer t named o) a settled sp more =
    element_text g sound next in_head (html_element n) outer s piece rest raw before w t a (text_ends g next head _ w (html_element n) outer other rest t named settled a.alone refl more) sp (law (html_element n ∷ outer) rest other (in_element n outer t named o) settled refl more)
head_text g sound next w law s true path piece rest before (around outer o) a settled sp more = absurd (both_ways (is_in_raw outer) (no_text_no_raw outer (outer_is_plain outer o).no_text) (sym a.kind))
head_text g sound next w law s false path piece rest before (around outer o) a settled sp more =
    let k = outer_is_plain outer o in
    plain_text g sound next in_head outer s piece rest before w k.outside k.no_text a sp (head_follows g next w outer rest other o settled a.alone refl more) (blank_kept outer s o (a.blank k.blank)) (law outer rest other (around outer o) settled refl more)

-- a void element
void_case : (g : Spelling) (w : List Event) → HeadLaws g w → (n : List ℕ) (path : List Element) (b : List ℕ) → InHead path → SettledHead (html_element n ∷ path) w → begins_end w ≡ true → is_void n ≡ true → bytes_eq n head ≡ false
    → SpellsFrom g opening (html_element n ∷ path) w b → (rest : List Event) × (w ≡ end n false ∷ rest) × Builds g.table (here in_head path false) b rest
void_case g [] laws n path b ins settled ends v inside sp = cc
void_case g (doctype legacy ∷ w) laws n path b ins settled ends v inside sp = cc
void_case g (start m f attributes ∷ w) laws n path b ins settled ends v inside sp = cc
void_case g (text s raw ∷ w) laws n path b ins settled ends v inside sp = cc
void_case g (comment s ∷ w) laws n path b ins settled ends v inside sp = cc
void_case g (end m f ∷ w) laws n path b ins settled ends v inside sp =
    let (named, kind, i) = ends_child g opening n path m f w b inside settled sp in
    (w, rw (named, kind) refl, by i.form i.piece i.rest i.spells i.more i.settled i.whole)
  where
    by : (k : EndForm) (piece rest : List ℕ) → EndSp g opening n false path w k piece → SpellsFrom g (after_end n k) path w rest → SettledHead path w → b ≡ piece ++ rest → Builds g.table (here in_head path false) b w
    by EndForm.absent piece rest s more' settled' e = let cut : b ≡ rest = rw (e, s.0) refl in rw cut (law_of g w laws.1 path rest other ins settled' refl more')
    by EndForm.omitted piece rest s more' settled' e = absurd (both_ways (is_void n) s.1 v)
    by EndForm.written piece rest s more' settled' e = absurd (both_ways (is_void n) s.0 v)

written_start : (g : Spelling) → Sound g.table → PiecesAreNext g → (w : List Event) → HeadLaws g w → (n : List ℕ) (attributes : List Attribute) (slash : Bool) (path : List Element) (piece rest : List ℕ) (drops : Bool) → Outer path → StartAllowed n false attributes path w → SettledHead (html_element n ∷ path) w
    → SpellsStart g n attributes slash piece rest → SpellsFrom g opening (html_element n ∷ path) w rest → Builds g.table (here in_head path drops) (piece ++ rest) (start n false attributes ∷ w)
written_start g sound next w laws n attributes slash path piece rest drops o allowed settled spells more = by (is_void n) refl
  where
    h : HtmlAllowed n false path w
    h = html_part n false path w (outer_is_plain path o).outside allowed.element

    root : NoRoot n
    root = no_root n (stands_in n path h.stands).0.is_no_root

    read : IsNext g.table ordinary (piece ++ rest) (tokens.start_tag n attributes slash) rest
    read = (next.starts ordinary n attributes slash piece rest refl h.name allowed.attributes_allowed spells).1

    by : (b : Bool) → is_void n ≡ b → Builds g.table (here in_head path drops) (piece ++ rest) (start n false attributes ∷ w)
    by true v =
        let c = void_case g w laws n path rest (around path o) settled (h.void_is_closed v) v root.no_head more in
        rw c.1 (written g.table ordinary (here in_head path drops) (here in_head path false) (start n false attributes ∷ end n false ∷ []) c.0 (piece ++ rest) 0 (tokens.start_tag n attributes slash) rest sound.names tt (outer_mode path o) read
        (head_opens n attributes slash path drops o h.stands h.known root ∙ void_entered n attributes path v) c.2)
    by false v =
        written g.table ordinary (here in_head path drops) (here in_head (html_element n ∷ path) (drops_after (html_element n ∷ path))) (start n false attributes ∷ []) w (piece ++ rest) 0 (tokens.start_tag n attributes slash) rest sound.names tt (outer_mode path o) read
        (head_opens n attributes slash path drops o h.stands h.known root ∙ stays_entered n attributes path v)
        (rw (flag_after (html_element n) path) (law_of g w laws (html_element n ∷ path) rest opening (child_path n path o h.stands h.name v) settled refl more))

start_case : (g : Spelling) → Sound g.table → PiecesAreNext g → (w : List Event) → HeadLaws g w → (n : List ℕ) (attributes : List Attribute) (path : List Element) (b piece rest : List ℕ) (before : Before) (drops : Bool) (form : StartForm) → Outer path → StartAllowed n false attributes path w → SettledHead (html_element n ∷ path) w
    → b ≡ piece ++ rest → StartSp g before n false attributes w form piece rest → SpellsFrom g (after_start false form) (html_element n ∷ path) w rest → Builds g.table (here in_head path drops) b (start n false attributes ∷ w)
start_case g sound next w laws n attributes path b piece rest before drops StartForm.written o allowed settled e sp more = rw e (written_start g sound next w laws n attributes false path piece rest drops o allowed settled sp more)
start_case g sound next w laws n attributes path b piece rest before drops StartForm.slashed o allowed settled e sp more = rw e (written_start g sound next w laws n attributes true path piece rest drops o allowed settled sp.1 more)
start_case g sound next w laws n attributes path b piece rest before drops StartForm.omitted o allowed settled e sp more =
    let h = html_part n false path w (outer_is_plain path o).outside allowed.element in
    absurd (no_omitted_start g.rules.frame n path w o h.stands (start_omitted g.rules (left_out_before before) n false attributes w sp.1).falls)

no_start : (n : List ℕ) (foreign : Bool) (m : List ℕ) (path : List Element) (w : List Event) → holds_text m ≡ true → ElementAllowed n foreign (html_element m ∷ path) w → ⊥
no_start n foreign m path w t a = both_ways (holds_text m) (stands_in n (html_element m ∷ path) (html_part n foreign (html_element m ∷ path) w refl a).stands).1.0.no_text t

text_end : (g : Spelling) → Sound g.table → PiecesAreNext g → (w : List Event) → HeadLaw g w → (n : List ℕ) (path : List Element) (b piece rest : List ℕ) (before : Before) (drops : Bool) (form : EndForm) → holds_text n ≡ true → is_tag_name n ≡ true → Outer path → SettledHead path w → is_self_closing before ≡ false
    → b ≡ piece ++ rest → EndSp g before n false path w form piece → SpellsFrom g (after_end n form) path w rest → Builds g.table (here in_head (html_element n ∷ path) drops) b (end n false ∷ w)
text_end g sound next w law n path b piece rest before drops EndForm.absent t named o settled fresh e sp more = absurd (not_absent before n false fresh (text_names n t).0 sp.1)
text_end g sound next w law n path b piece rest before drops EndForm.omitted t named o settled fresh e sp more =
    let goes = falls_goes n (current path) w (no_root n (text_names n t).1) (end_omitted_is g.rules n false path w sp.2).1 in
    absurd (both_ways (holds_text n) (goes_holds n (current path) w goes).no_text t)
text_end g sound next w law n path b piece rest before drops EndForm.written t named o settled fresh e sp more =
    rw e (written g.table (mode_of (html_element n ∷ path)) (here in_head (html_element n ∷ path) drops) (here in_head path false) (end n false ∷ []) w (piece ++ rest) 0 (tokens.end_tag n) rest sound.names (is_mode (html_element n ∷ path)) refl
    (end_is_next g next (html_element n) path piece rest named sp.1) (text_ended (html_element n) path drops t) (law path rest other (around path o) settled refl more))

noscript_end : (g : Spelling) → Sound g.table → PiecesAreNext g → (w : List Event) → HeadLaw g w → (b piece rest : List ℕ) (before : Before) (drops : Bool) (form : EndForm) → SettledHead under_head w → is_self_closing before ≡ false
    → b ≡ piece ++ rest → EndSp g before noscript false under_head w form piece → SpellsFrom g (after_end noscript form) under_head w rest → Builds g.table (here in_head (html_element noscript ∷ under_head) drops) b (end noscript false ∷ w)
noscript_end g sound next w law b piece rest before drops EndForm.absent settled fresh e sp more = absurd (not_absent before noscript false fresh noscript_facts.1 sp.1)
noscript_end g sound next w law b piece rest before drops EndForm.omitted settled fresh e sp more = absurd (noscript_goes w (falls_goes noscript head w (no_root noscript noscript_facts.0) (end_omitted_is g.rules noscript false under_head w sp.2).1))
noscript_end g sound next w law b piece rest before drops EndForm.written settled fresh e sp more =
    rw e (written g.table ordinary (here in_head (html_element noscript ∷ under_head) drops) (here in_head under_head false) (end noscript false ∷ []) w (piece ++ rest) 0 (tokens.end_tag noscript) rest sound.names tt (outer_mode (html_element noscript ∷ under_head) at_noscript)
    (next.ends ordinary noscript piece rest refl noscript_name sp.1).1 (noscript_ended drops) (law under_head rest other (around under_head at_head) settled refl more))

head_no_flag : (before : Before) → flag before under_head ≡ false
unfolding drops_first_line_feed is_among
head_no_flag before = flag_off before under_head refl

head_end : (g : Spelling) → Sound g.table → PiecesAreNext g → (w : List Event) (b piece rest : List ℕ) (before : Before) (form : EndForm) → SettledBeforeBody w → is_self_closing before ≡ false
    → b ≡ piece ++ rest → EndSp g before head false html_path w form piece → SpellsFrom g (after_end head form) html_path w rest → Builds g.table (here in_head under_head false) b (end head false ∷ w)
head_end g sound next w b piece rest before EndForm.absent settled fresh e sp more = absurd (not_absent before head false fresh frame_not_void.1.0 sp.1)
head_end g sound next w b piece rest before EndForm.omitted settled fresh e sp more =
    let f = head_falls html w (end_omitted_is g.rules head false html_path w sp.2).1 in
    let (x, is, begins) = after_head_first g next w rest (after_end head EndForm.omitted) settled f.no_text f.no_comment more in
    let cut : b ≡ rest = rw (e, sp.0) refl in
    rw cut (unseen g.table sound rest x (here in_head under_head false) (here after_head under_html false) (end head false ∷ []) w frame_modes.1.1.0 frame_modes.1.0 begins (end_head_agrees x is) (after_head_law g sound next w rest (after_end head EndForm.omitted) settled more))
head_end g sound next w b piece rest before EndForm.written settled fresh e sp more =
    rw e (written g.table ordinary (here in_head under_head false) (here after_head under_html false) (end head false ∷ []) w (piece ++ rest) 0 (tokens.end_tag head) rest sound.names tt frame_modes.1.1.0
    (next.ends ordinary head piece rest refl frame_names.1.0 sp.1).1 (head_ended false) (after_head_law g sound next w rest other settled more))

head_event : (g : Spelling) → Sound g.table → PiecesAreNext g → (e : Event) (w : List Event) → HeadLaws g w → HeadLaw g (e ∷ w)
head_event g sound next (doctype legacy) w laws path b before ins settled fresh sp = absurd settled
head_event g sound next (comment s) w laws path b before ins settled fresh (rest, e, more) = head_comment g sound next w (law_of g w laws) s path b rest (flag before path) ins settled.0 settled.1 e more
head_event g sound next (text s raw) w laws path b before ins settled fresh (piece, rest, e, sp, more) = rw e (head_text g sound next w (law_of g w laws) s raw path piece rest before ins settled.0 settled.1 sp more)
head_event g sound next (start n foreign attributes) w laws path b before (in_element m outer t named o) settled fresh sp = absurd (no_start n foreign m outer w t settled.0.element)
head_event g sound next (start n foreign attributes) w laws path b before (around outer o) settled fresh (form, piece, rest, e, sp, more) =
    let kind = html_child n foreign outer w o settled.0.element in
    let allowed : StartAllowed n false attributes outer w = subst (λ (f : Bool). StartAllowed n f attributes outer w) kind settled.0 in
    let settled' : SettledHead (html_element n ∷ outer) w = subst (λ (f : Bool). SettledHead (element n f ∷ outer) w) kind settled.1 in
    let sp' : StartSp g before n false attributes w form piece rest = subst (λ (f : Bool). StartSp g before n f attributes w form piece rest) kind sp in
    let more' : SpellsFrom g (after_start false form) (html_element n ∷ outer) w rest = subst (λ (f : Bool). SpellsFrom g (after_start f form) (element n f ∷ outer) w rest) kind more in
    rw kind (start_case g sound next w laws n attributes outer b piece rest before (flag before outer) form o allowed settled' e sp' more')
head_event g sound next (end m foreign) w laws path b before (in_element n outer t named o) settled fresh sp =
    let (is, kind, i) = ends_child g before n outer m foreign w b (no_root n (text_names n t).1).no_head settled sp in
    rw (is, kind) (text_end g sound next w (law_of g w laws) n outer b i.piece i.rest before (flag before (html_element n ∷ outer)) i.form t named o i.settled fresh i.whole i.spells i.more)
head_event g sound next (end m foreign) w laws path b before (around outer at_noscript) settled fresh sp =
    let (is, kind, i) = ends_child g before noscript under_head m foreign w b refl settled sp in
    rw (is, kind) (noscript_end g sound next w (law_of g w laws) b i.piece i.rest before (flag before (html_element noscript ∷ under_head)) i.form i.settled fresh i.whole i.spells i.more)
head_event g sound next (end m foreign) w laws path b before (around outer at_head) settled fresh sp =
    let (is, kind, i) = ends_head g before m foreign w b settled sp in
    rw (is, kind, head_no_flag before) (head_end g sound next w b i.piece i.rest before i.form i.settled fresh i.whole i.spells i.more)

head_laws : (g : Spelling) → Sound g.table → PiecesAreNext g → (w : List Event) → HeadLaws g w
head_laws g sound next [] = λ path b before ins settled fresh sp. absurd settled
head_laws g sound next (e ∷ w) = let laws = head_laws g sound next w in (head_event g sound next e w laws, laws)

-- What is spelled in head is read back.
pub head_law : (g : Spelling) → Sound g.table → PiecesAreNext g → (w : List Event) (b : List ℕ) (before : Before) → SettledHead under_head w → is_self_closing before ≡ false → SpellsFrom g before under_head w b → Builds g.table (here in_head under_head false) b w
head_law g sound next w b before settled fresh sp = rw (head_no_flag before) at (law_of g w (head_laws g sound next w) under_head b before (around under_head at_head) settled fresh sp)
