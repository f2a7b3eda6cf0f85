-- Spellings of what stands in body are read back.
use Rattle.std.proofs.Common.{◌≡◌, ℕ, Bool, true, false, cond, not, ◌&&◌, ◌||◌, List, [], ◌∷◌, ◌++◌, bytes_eq, refl, sym, ◌∙◌, ap, subst, inl, inr, codes}
use Rattle.std.proofs.lemmas.Bool.{both_ways}
use Rattle.hm_base.specs.Forms.{is_tag_name}
use Rattle.hm_base.specs.Walks.{Attribute, Event, doctype, start, text, comment, end, Element, begins_end}
use Rattle.hm_elements.specs.Names.{html, body, p, script as script_name}
use Rattle.hm_elements.specs.Tables.{is_void, is_raw, is_rcdata, holds_text}
use Rattle.hm_elements.specs.Nesting.{is_closed_by_start}
use Rattle.hm_elements.specs.Paths.{html_element, current, is_in_svg, is_in_text, head_yields}
use Rattle.hm_elements.specs.Settled.{is_html}
use Rattle.hm_elements.specs.Omission.{end_tag_optional_in}
use Rattle.hm_elements.specs.Places.{CommentAllowed, StartAllowed, HtmlAllowed, ElementAllowed, SettledBody}
use Rattle.hm_elements.proofs.TableTools.{same_bytes}
use Rattle.hm_tree.specs.Tokens as tokens
use Rattle.hm_token_laws.specs.First.{ordinary, rcdata, raw as raw_mode_of, script}
use Rattle.hm_token_laws.specs.Laws.{reads_markup}
use Rattle.hm_token_laws.specs.Written.{IsNext, IsTextOf}
use Rattle.hm_markup_spec.specs.Tags.{WritesEnd}
use Rattle.hm_spelling_spec.specs.Tags.{Spelling, SpellsStart}
use Rattle.hm_spelling_spec.specs.Omission.{end_goes}
use Rattle.hm_spelling_spec.specs.Spellings.{Before, other, opening, end_omitted, StartForm, EndForm, StartSp, EndSp, is_self_closing, has_no_end_tag, may_be_slashed, after_start, after_end, left_out_before, SpellsFrom}
use Rattle.hm_open_elements.specs.Moves.{element}
use Rattle.hm_construction_laws.specs.Steps.{in_body, Construction, went, under_body, closes_at_once, entered}
use Rattle.hm_construction_laws.specs.Steps as steps
use Rattle.hm_construction_laws.specs.Trees.{mode_of, mode_of_name}
use Rattle.hm_construction_laws.proofs.Modes.{is_mode}
use Rattle.hm_round_trip_laws.proofs.Pieces.{PiecesAreNext}
use Rattle.hm_round_trip_laws.proofs.Reading.{Builds, written}
use Rattle.hm_round_trip_laws.proofs.Ahead.{Sound, tag, unseen}
use Rattle.hm_round_trip_laws.proofs.Frame.{here, start_omitted, end_omitted_is}
use Rattle.hm_round_trip_laws.proofs.LastEvents.{last_law}
use Rattle.hm_round_trip_laws.proofs.BodySteps.{Inside, at_body, inner, Stands, stands_in, no_root, element_no_root, start_steps, stays_open, closes_again, end_steps, comment_steps, close_agrees, start_made}
use Rattle.hm_round_trip_laws.proofs.Closing.{start_name, falls_child, ChildFirst, child_first, falls_goes, goes_holds, p_in_body, closes_first, ends_inner, ends_body}
use Rattle.hm_round_trip_laws.proofs.Follow.{AtEnd, body_ends, goes_on, at_end}
use Rattle.hm_round_trip_laws.proofs.TreeTexts.{flag, flag_after}
use Rattle.hm_round_trip_laws.proofs.TextElements.{in_text_is}
use Rattle.hm_round_trip_laws.proofs.BodyTexts.{svg_mode, svg_no_text, plain_path, body_text}

-- what is spelled on a path of body is read back
abbrev pub BodyLaw : Spelling → List Event → Type 0
BodyLaw g w = (path : List Element) (b : List ℕ) (before : Before) → Inside path → SettledBody path w → is_self_closing before ≡ false → SpellsFrom g before path w b → Builds g.table (here in_body path (flag before path)) b w

-- for the events, and for what follows each of them
abbrev pub BodyLaws : Spelling → List Event → Type 0
BodyLaws g [] = BodyLaw g []
BodyLaws g (e ∷ w) = BodyLaw g (e ∷ w) × BodyLaws g w

pub law_of : (g : Spelling) (w : List Event) → BodyLaws g w → BodyLaw g w
law_of g [] laws = laws
law_of g (e ∷ w) laws = laws.0

-- ---- Modes

pub markup_mode : (path : List Element) → is_in_text path ≡ false → reads_markup (mode_of path) ≡ true
markup_mode path t = by (is_in_svg path) refl
  where
    by : (b : Bool) → is_in_svg path ≡ b → reads_markup (mode_of path) ≡ true
    by true e = rw (svg_mode path e) refl
    by false e = rw (plain_path path e t) refl

name_mode : (n : List ℕ) → holds_text n ≡ true → IsTextOf (mode_of_name n) n
unfolding holds_text
name_mode n h = by (is_rcdata n) (bytes_eq n script_name) (is_raw n) refl h
  where
    by : (a b c : Bool) → bytes_eq n script_name ≡ b → c || a ≡ true → IsTextOf (cond a (rcdata n) (cond b script (cond c (raw_mode_of n) ordinary))) n
    by true b c e k = refl
    by false true c e k = sym (same_bytes n script_name e)
    by false false true e k = refl
    by false false false e k = cc

pub text_mode : (d : Element) (path : List Element) → is_in_text (d ∷ path) ≡ true → IsTextOf (mode_of (d ∷ path)) d.name
text_mode d path t = let k = in_text_is d path t in rw k.0 (name_mode d.name k.1)

-- an end tag of the innermost element is next
pub end_is_next : (g : Spelling) → PiecesAreNext g → (d : Element) (path : List Element) (piece rest : List ℕ) → is_tag_name d.name ≡ true → WritesEnd d.name piece → IsNext g.table (mode_of (d ∷ path)) (piece ++ rest) (tokens.end_tag d.name) rest
end_is_next g next d path piece rest named writes = by (is_in_text (d ∷ path)) refl
  where
    by : (b : Bool) → is_in_text (d ∷ path) ≡ b → IsNext g.table (mode_of (d ∷ path)) (piece ++ rest) (tokens.end_tag d.name) rest
    by true e = next.text_ends (mode_of (d ∷ path)) d.name piece rest (text_mode d path e) named writes
    by false e = (next.ends (mode_of (d ∷ path)) d.name piece rest (markup_mode (d ∷ path) e) named writes).1

-- ---- Starts

-- an element that ends at once
closed_case : (g : Spelling) (w : List Event) → BodyLaws g w → (n : List ℕ) (foreign : Bool) (path : List Element) (before : Before) (b : List ℕ) → Inside path → SettledBody (element n foreign ∷ path) w → begins_end w ≡ true → is_html body n foreign ≡ false
    → has_no_end_tag before n foreign ≡ true → SpellsFrom g before (element n foreign ∷ path) w b → (rest : List Event) × (w ≡ end n foreign ∷ rest) × Builds g.table (here in_body path false) b rest
closed_case g [] laws n foreign path before b ins settled ends inside none sp = cc
closed_case g (doctype legacy ∷ w) laws n foreign path before b ins settled ends inside none sp = cc
closed_case g (start m f attributes ∷ w) laws n foreign path before b ins settled ends inside none sp = cc
closed_case g (text s raw ∷ w) laws n foreign path before b ins settled ends inside none sp = cc
closed_case g (comment s ∷ w) laws n foreign path before b ins settled ends inside none sp = cc
closed_case g (end m f ∷ w) laws n foreign path before b ins settled ends inside none (form, piece, rest, e, sp, more) = (w, rw (named, kind) refl, by form sp more)
  where
    named : m ≡ n
    named = ap (λ (x : Element). x.name) (sym settled.0)

    kind : f ≡ foreign
    kind = ap (λ (x : Element). x.foreign) (sym settled.0)

    outside : is_html body m f ≡ false
    outside = rw (named, kind) inside

    here_none : has_no_end_tag before m f ≡ true
    here_none = rw (named, kind) none

    settled' : SettledBody path w
    settled' = rw outside at settled.1

    by : (k : EndForm) → EndSp g before m f path w k piece → SpellsFrom g (after_end m k) path w rest → Builds g.table (here in_body path false) b w
    by EndForm.absent s more' = let cut : b ≡ rest = rw (e, s.0) refl in rw cut (law_of g w laws.1 path rest other ins settled' refl more')
    by EndForm.omitted s more' = absurd (both_ways (has_no_end_tag before m f) s.1 here_none)
    by EndForm.written s more' = absurd (both_ways (has_no_end_tag before m f) s.0 here_none)

slash_of : StartForm → Bool
slash_of StartForm.slashed = true
slash_of form = false

html_place : (n : List ℕ) (foreign : Bool) (path : List Element) (w : List Event) → foreign ≡ false → ElementAllowed n foreign path w → (is_in_svg path ≡ false) × HtmlAllowed n foreign path w
html_place n foreign path w h (inl (inside, s)) = absurd (both_ways foreign h s.kind)
html_place n foreign path w h (inr (out, k)) = (out, k)

stands_here : (n : List ℕ) (foreign : Bool) (path : List Element) (w : List Event) → ElementAllowed n foreign path w → (foreign ≡ false → is_void n ≡ false) → Stands (element n foreign) path
stands_here n foreign path w a solid = record { name = start_name n foreign path w a; outside = λ h. (html_place n foreign path w h a).0; stands = λ h. (html_place n foreign path w h a).1.stands; solid = solid }

pub no_text_name : (path : List Element) → holds_text (current path) ≡ false → is_in_text path ≡ false
no_text_name [] h = refl
no_text_name (e ∷ path) h = by e.foreign
  where
    by : (f : Bool) → not f && holds_text e.name ≡ false
    by true = refl
    by false = h

pub parent_no_text : (n : List ℕ) (foreign : Bool) (path : List Element) (w : List Event) → ElementAllowed n foreign path w → is_in_text path ≡ false
parent_no_text n foreign path w (inl (inside, s)) = (svg_no_text path inside).0
parent_no_text n foreign path w (inr (out, a)) = no_text_name path (stands_in n path a.stands).1.0.no_text

-- how an element goes on after its start tag, by whether it ends at once
record GoesOn (n : List ℕ) (foreign slash : Bool) (path : List Element) (w : List Event) (before : Before) : Type 0 where
  stays : closes_at_once slash (element n foreign ∷ path) ≡ false → before ≡ opening
  ends : closes_at_once slash (element n foreign ∷ path) ≡ true → (begins_end w ≡ true) × (has_no_end_tag before n foreign ≡ true)

void_ends : (n : List ℕ) (path : List Element) (w : List Event) → ElementAllowed n false path w → is_void n ≡ true → begins_end w ≡ true
void_ends n path w (inl (inside, s)) v = let bad : false ≡ true = s.kind in cc
void_ends n path w (inr (out, a)) v = a.void_is_closed v

written_goes : (n : List ℕ) (foreign : Bool) (path : List Element) (w : List Event) → ElementAllowed n foreign path w → GoesOn n foreign false path w (after_start foreign StartForm.written)
written_goes n true path w a = record { stays = λ h. refl; ends = λ h. let bad : false ≡ true = h in cc }
written_goes n false path w a = record { stays = λ h. refl; ends = λ h. let v = void_of (is_void n) h in (void_ends n path w a v, v) }
  where
    void_of : (b : Bool) → b || false ≡ true → b ≡ true
    void_of true h = refl
    void_of false h = h

slashed_goes : (n : List ℕ) (foreign : Bool) (path : List Element) (w : List Event) → ElementAllowed n foreign path w → may_be_slashed n foreign w ≡ true → GoesOn n foreign true path w (after_start foreign StartForm.slashed)
slashed_goes n true path w a h = record { stays = λ k. let bad : true ≡ false = k in cc; ends = λ k. (h, refl) }
slashed_goes n false path w a h = record { stays = λ k. refl; ends = λ k. (void_ends n path w a h, h) }

written_start : (g : Spelling) → Sound g.table → PiecesAreNext g → (w : List Event) → BodyLaws g w → (n : List ℕ) (foreign : Bool) (attributes : List Attribute) (path : List Element) (piece rest : List ℕ) (drops slash : Bool) (before : Before)
    → Inside path → StartAllowed n foreign attributes path w → SettledBody (element n foreign ∷ path) w → GoesOn n foreign slash path w before
    → SpellsStart g n attributes slash piece rest → SpellsFrom g before (element n foreign ∷ path) w rest → Builds g.table (here in_body path drops) (piece ++ rest) (start n foreign attributes ∷ w)
written_start g sound next w laws n foreign attributes path piece rest drops slash before ins allowed settled goes spells more = by (closes_at_once slash (element n foreign ∷ path)) refl
  where
    read : IsNext g.table (mode_of path) (piece ++ rest) (tokens.start_tag n attributes slash) rest
    read = (next.starts (mode_of path) n attributes slash piece rest (markup_mode path (parent_no_text n foreign path w allowed.element)) (start_name n foreign path w allowed.element) allowed.attributes_allowed spells).1

    outside : is_html body n foreign ≡ false
    outside = by_kind foreign refl allowed.element
      where
        by_kind : (f : Bool) → foreign ≡ f → ElementAllowed n foreign path w → is_html body n f ≡ false
        by_kind true k a = refl
        by_kind false k (inl (inside, s)) = absurd (both_ways foreign k s.kind)
        by_kind false k (inr (out, a)) = (no_root n (stands_in n path a.stands).0.is_no_root).no_body

    solid : closes_at_once slash (element n foreign ∷ path) ≡ false → foreign ≡ false → is_void n ≡ false
    solid h k = by_void foreign (is_void n) k h
      where
        by_void : (f v : Bool) → f ≡ false → (not f && v) || (slash && f) ≡ false → v ≡ false
        by_void true v k h = cc
        by_void false true k h = cc
        by_void false false k h = refl

    by : (b : Bool) → closes_at_once slash (element n foreign ∷ path) ≡ b → Builds g.table (here in_body path drops) (piece ++ rest) (start n foreign attributes ∷ w)
    by true h =
        let k = goes.ends h in
        let c = closed_case g w laws n foreign path before rest ins settled k.0 outside k.1 more in
        rw c.1 (written g.table (mode_of path) (here in_body path drops) (here in_body path false) (start n foreign attributes ∷ end n foreign ∷ []) c.0 (piece ++ rest) 0 (tokens.start_tag n attributes slash) rest sound.names (is_mode path) refl read
        (start_steps n foreign attributes slash path w drops allowed ∙ closes_again attributes slash n foreign path h) c.2)
    by false h =
        let is : before ≡ opening = goes.stays h in
        let more' : SpellsFrom g opening (element n foreign ∷ path) w rest = subst (λ (x : Before). SpellsFrom g x (element n foreign ∷ path) w rest) is more in
        written g.table (mode_of path) (here in_body path drops) (here in_body (element n foreign ∷ path) (steps.drops_after (element n foreign ∷ path))) (start n foreign attributes ∷ []) w (piece ++ rest) 0 (tokens.start_tag n attributes slash) rest sound.names (is_mode path) refl read
        (start_steps n foreign attributes slash path w drops allowed ∙ stays_open attributes slash n foreign path h)
        (rw (flag_after (element n foreign) path) (law_of g w laws (element n foreign ∷ path) rest opening (inner (element n foreign) path (stands_here n foreign path w allowed.element (solid h)) ins) settled refl more'))

kept_by : (path : List Element) (k : List ℕ) → is_closed_by_start (current path) k ≡ false → head_yields path k ≡ false
kept_by [] k h = refl
kept_by (e ∷ path) k h = h

-- a start tag that is left out
omitted_start : (g : Spelling) → Sound g.table → PiecesAreNext g → (w : List Event) → BodyLaws g w → (n : List ℕ) (path : List Element) (rest : List ℕ) (drops : Bool)
    → Inside path → is_in_svg path ≡ false → HtmlAllowed n false path w → SettledBody (html_element n ∷ path) w → ChildFirst g n path rest → SpellsFrom g opening (html_element n ∷ path) w rest → Builds g.table (here in_body path drops) rest (start n false [] ∷ w)
omitted_start g sound next w laws n path rest drops ins out a settled c more =
    let t = no_text_name path (stands_in n path a.stands).1.0.no_text in
    let t' = no_text_name (html_element n ∷ path) c.holds.no_text in
    let stands : Stands (html_element n) path = record { name = a.name; outside = λ h. out; stands = λ h. a.stands; solid = λ h. c.holds.not_void } in
    unseen g.table sound rest (tag (tokens.start_tag c.child c.attributes c.slash)) (here in_body path drops) (here in_body (html_element n ∷ path) (flag opening (html_element n ∷ path))) (start n false [] ∷ []) w
    (plain_path path out t) (plain_path (html_element n ∷ path) refl t') c.begins
    (start_made c.attributes c.slash n c.child (current path) path drops (flag opening (html_element n ∷ path)) out refl c.made (kept_by path c.child c.made.kept) c.nothing)
    (law_of g w laws (html_element n ∷ path) rest opening (inner (html_element n) path stands ins) settled refl more)

start_case : (g : Spelling) → Sound g.table → PiecesAreNext g → (w : List Event) → BodyLaws g w → (n : List ℕ) (foreign : Bool) (attributes : List Attribute) (path : List Element) (b piece rest : List ℕ) (before : Before) (drops : Bool) (form : StartForm)
    → Inside path → StartAllowed n foreign attributes path w → SettledBody (element n foreign ∷ path) w → b ≡ piece ++ rest → StartSp g before n foreign attributes w form piece rest → SpellsFrom g (after_start foreign form) (element n foreign ∷ path) w rest
    → Builds g.table (here in_body path drops) b (start n foreign attributes ∷ w)
start_case g sound next w laws n foreign attributes path b piece rest before drops StartForm.written ins allowed settled e sp more =
    rw e (written_start g sound next w laws n foreign attributes path piece rest drops false (after_start foreign StartForm.written) ins allowed settled (written_goes n foreign path w allowed.element) sp more)
start_case g sound next w laws n foreign attributes path b piece rest before drops StartForm.slashed ins allowed settled e sp more =
    rw e (written_start g sound next w laws n foreign attributes path piece rest drops true (after_start foreign StartForm.slashed) ins allowed settled (slashed_goes n foreign path w allowed.element sp.0) sp.1 more)
start_case g sound next w laws n foreign attributes path b piece rest before drops StartForm.omitted ins allowed settled e sp more =
    let o = start_omitted g.rules (left_out_before before) n foreign attributes w sp.1 in
    let (out, a) = html_place n foreign path w o.is_html allowed.element in
    let a' : HtmlAllowed n false path w = subst (λ (f : Bool). HtmlAllowed n f path w) o.is_html a in
    let settled' : SettledBody (html_element n ∷ path) w = subst (λ (f : Bool). SettledBody (element n f ∷ path) w) o.is_html settled in
    let more' : SpellsFrom g opening (html_element n ∷ path) w rest = subst (λ (f : Bool). SpellsFrom g (after_start f StartForm.omitted) (element n f ∷ path) w rest) o.is_html more in
    let child = falls_child g.rules.frame n w (stands_in n path a.stands).0.is_no_root o.falls in
    let cut : b ≡ rest = rw (e, sp.0) refl in
    rw (cut, o.is_html, o.plain) (omitted_start g sound next w laws n path rest drops ins out a' settled' (child_first g next w n path opening rest a.stands settled' child more') more')

-- ---- Ends

element_is : (d : Element) → d.foreign ≡ false → d ≡ html_element d.name
element_is d h = let f : Bool → Element = λ b. record { name = d.name; foreign = b } in ap f h

never_absent : (before : Before) (d : Element) (path : List Element) → Stands d path → is_self_closing before ≡ false → has_no_end_tag before d.name d.foreign ≡ true → ⊥
never_absent before d path s fresh h = both_ways (has_no_end_tag before d.name d.foreign) (rw fresh (by d.foreign refl)) h
  where
    by : (f : Bool) → d.foreign ≡ f → not f && is_void d.name ≡ false
    by true k = refl
    by false k = s.solid k

-- a p is left open at the end of body
p_left_open : (g : Spelling) → Sound g.table → PiecesAreNext g → (m : List ℕ) (foreign : Bool) (w : List Event) (n : List ℕ) (b : List ℕ) (drops : Bool) → n ≡ p → SettledBody under_body (end m foreign ∷ w) → SpellsFrom g (end_omitted n) under_body (end m foreign ∷ w) b
    → Builds g.table (here in_body (html_element n ∷ under_body) drops) b (end n false ∷ end m foreign ∷ w)
p_left_open g sound next m foreign w n b drops is settled sp =
    let (named, kind, i) = ends_body g (end_omitted n) m foreign w b settled sp in
    rw (named, kind, is) (last_law g sound next i.form w i.piece i.rest b (end_omitted n) true drops i.settled refl i.whole i.spells i.more)

up_at_end : (n : List ℕ) (parent : List ℕ) (m : List ℕ) (foreign : Bool) (w whole : List Event) → whole ≡ end m foreign ∷ w → end_goes n parent whole ≡ true → end_tag_optional_in n parent ≡ true
up_at_end n parent m foreign w whole is goes = rw is at goes

omitted_end : (g : Spelling) → Sound g.table → PiecesAreNext g → (w : List Event) → BodyLaw g w → (n : List ℕ) (path : List Element) (b : List ℕ) (drops : Bool)
    → Stands (html_element n) path → Inside path → SettledBody path w → end_goes n (current path) w ≡ true → SpellsFrom g (end_omitted n) path w b → AtEnd path w → Builds g.table (here in_body (html_element n ∷ path) drops) b (end n false ∷ w)
omitted_end g sound next w law n path b drops s ins settled goes sp (body_ends m foreign rest is whole) =
    let up : end_tag_optional_in n (current path) ≡ true = up_at_end n (current path) m foreign rest w whole goes in
    let at : bytes_eq (current path) body ≡ true = rw is refl in
    let settled' : SettledBody under_body (end m foreign ∷ rest) = rw (is, whole) at settled in
    let sp' : SpellsFrom g (end_omitted n) under_body (end m foreign ∷ rest) b = rw (is, whole) at sp in
    rw (is, whole) (p_left_open g sound next m foreign rest n b drops (p_in_body n path (s.stands refl) up at) settled' sp')
omitted_end g sound next w law n path b drops s ins settled goes sp (goes_on within) =
    let (x, closes, begins) = closes_first g next w n path b ins (s.outside refl) (s.stands refl) settled goes within sp in
    let holds = goes_holds n (current path) w goes in
    let t = no_text_name path (stands_in n path (s.stands refl)).1.0.no_text in
    unseen g.table sound b x (here in_body (html_element n ∷ path) drops) (here in_body path false) (end n false ∷ []) w
    (plain_path (html_element n ∷ path) refl (no_text_name (html_element n ∷ path) holds.no_text)) (plain_path path (s.outside refl) t) begins
    (close_agrees n path drops false x (s.outside refl) holds.no_text t closes)
    (law path b (end_omitted n) ins settled refl sp)

end_case : (g : Spelling) → Sound g.table → PiecesAreNext g → (w : List Event) → BodyLaw g w → (d : Element) (path : List Element) (b piece rest : List ℕ) (before : Before) (drops : Bool) (form : EndForm)
    → Stands d path → Inside path → SettledBody path w → is_self_closing before ≡ false → b ≡ piece ++ rest → EndSp g before d.name d.foreign path w form piece → SpellsFrom g (after_end d.name form) path w rest
    → Builds g.table (here in_body (d ∷ path) drops) b (end d.name d.foreign ∷ w)
end_case g sound next w law d path b piece rest before drops EndForm.absent s ins settled fresh e sp more = absurd (never_absent before d path s fresh sp.1)
end_case g sound next w law d path b piece rest before drops EndForm.omitted s ins settled fresh e sp more =
    let (html, falls) = end_omitted_is g.rules d.name d.foreign path w sp.2 in
    let goes = falls_goes d.name (current path) w (element_no_root d path s html) falls in
    let is = element_is d html in
    let s' : Stands (html_element d.name) path = subst (λ (x : Element). Stands x path) is s in
    let cut : b ≡ rest = rw (e, sp.0) refl in
    rw cut (subst (λ (x : Element). Builds g.table (here in_body (x ∷ path) drops) rest (end x.name x.foreign ∷ w)) (sym is)
    (omitted_end g sound next w law d.name path rest drops s' ins settled goes more (at_end path w ins (s'.outside refl))))
end_case g sound next w law d path b piece rest before drops EndForm.written s ins settled fresh e sp more =
    rw e (written g.table (mode_of (d ∷ path)) (here in_body (d ∷ path) drops) (here in_body path false) (end d.name d.foreign ∷ []) w (piece ++ rest) 0 (tokens.end_tag d.name) rest sound.names (is_mode (d ∷ path)) refl
    (end_is_next g next d path piece rest s.name sp.1) (end_steps d path drops s) (law path rest other ins settled refl more))

-- ---- The law

comment_case : (g : Spelling) → Sound g.table → PiecesAreNext g → (w : List Event) → BodyLaw g w → (s : List ℕ) (path : List Element) (b rest : List ℕ) (drops : Bool) → Inside path → CommentAllowed path s → SettledBody path w
    → b ≡ codes "<!--" ++ (s ++ (codes "-->" ++ rest)) → SpellsFrom g other path w rest → Builds g.table (here in_body path drops) b (comment s ∷ w)
comment_case g sound next w law s path b rest drops ins allowed settled e more =
    rw e (written g.table (mode_of path) (here in_body path drops) (here in_body path false) (comment s ∷ []) w _ 0 (tokens.comment s) rest sound.names (is_mode path) refl
    (next.comments (mode_of path) s rest (markup_mode path allowed.outside) allowed.form).1 (comment_steps path drops s) (law path rest other ins settled refl more))

body_end_case : (g : Spelling) → Sound g.table → PiecesAreNext g → (m : List ℕ) (foreign : Bool) (w : List Event) (b : List ℕ) (before : Before) (drops : Bool) → is_self_closing before ≡ false → SettledBody under_body (end m foreign ∷ w) → SpellsFrom g before under_body (end m foreign ∷ w) b
    → Builds g.table (here in_body under_body drops) b (end m foreign ∷ w)
body_end_case g sound next m foreign w b before drops fresh settled sp =
    let (named, kind, i) = ends_body g before m foreign w b settled sp in
    rw (named, kind) (last_law g sound next i.form w i.piece i.rest b before false drops i.settled fresh i.whole i.spells i.more)

body_event : (g : Spelling) → Sound g.table → PiecesAreNext g → (e : Event) (w : List Event) → BodyLaws g w → BodyLaw g (e ∷ w)
body_event g sound next (doctype legacy) w laws path b before ins settled fresh sp = absurd settled
body_event g sound next (comment s) w laws path b before ins settled fresh (rest, e, more) = comment_case g sound next w (law_of g w laws) s path b rest (flag before path) ins settled.0 settled.1 e more
body_event g sound next (text s raw) w laws path b before ins settled fresh (piece, rest, e, sp, more) =
    rw e (body_text g sound next path s piece rest raw before w ins settled.0 settled.1 sp more (law_of g w laws path rest other ins settled.1 refl more))
body_event g sound next (start n foreign attributes) w laws path b before ins settled fresh (form, piece, rest, e, sp, more) =
    start_case g sound next w laws n foreign attributes path b piece rest before (flag before path) form ins settled.0 settled.1 e sp more
body_event g sound next (end m foreign) w laws path b before at_body settled fresh sp = body_end_case g sound next m foreign w b before (flag before under_body) fresh settled sp
body_event g sound next (end m foreign) w laws path b before (inner d outer s ins) settled fresh (form, piece, rest, e, sp, more) =
    let i = ends_inner d outer m foreign w s settled in
    let sp' : EndSp g before d.name d.foreign outer w form piece = rw (i.named, i.kind) at sp in
    let more' : SpellsFrom g (after_end d.name form) outer w rest = rw i.named at more in
    rw (i.named, i.kind) (end_case g sound next w (law_of g w laws) d outer b piece rest before (flag before (d ∷ outer)) form s ins i.settled fresh e sp' more')

body_laws : (g : Spelling) → Sound g.table → PiecesAreNext g → (w : List Event) → BodyLaws g w
body_laws g sound next [] = λ path b before ins settled fresh sp. absurd settled
body_laws g sound next (e ∷ w) = let laws = body_laws g sound next w in (body_event g sound next e w laws, laws)

-- What is spelled in body is read back.
pub body_law : (g : Spelling) → Sound g.table → PiecesAreNext g → (w : List Event) → BodyLaw g w
body_law g sound next w = law_of g w (body_laws g sound next w)
