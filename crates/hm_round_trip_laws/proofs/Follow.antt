-- What follows a text in body.
use Rattle.std.proofs.Common.{◌≡◌, ℕ, Bool, true, false, ◌||◌, List, [], ◌∷◌, ◌++◌, bytes_eq, refl, subst, inl, inr}
use Rattle.std.proofs.lemmas.Bool.{both_ways}
use Rattle.hm_base.specs.Walks.{Attribute, Event, doctype, start, text, comment, end, Element, begins_text, begins_end}
use Rattle.hm_elements.specs.Names.{body}
use Rattle.hm_elements.specs.Paths.{html_element, current, is_in_svg}
use Rattle.hm_elements.specs.Places.{StartAllowed, ElementAllowed, SettledBody}
use Rattle.hm_refs.specs.Names.{Entry}
use Rattle.hm_tree.specs.Tokens as tokens
use Rattle.hm_token_laws.specs.First.{ordinary, in_svg}
use Rattle.hm_scan.specs.Texts.{begins_markup}
use Rattle.hm_spelling_spec.specs.Tags.{Spelling}
use Rattle.hm_spelling_spec.specs.Omission.{end_goes}
use Rattle.hm_spelling_spec.specs.Spellings.{Before, end_omitted, StartForm, EndForm, StartSp, EndSp, is_self_closing, after_start, after_end, left_out_before, SpellsFrom}
use Rattle.hm_open_elements.specs.Moves.{element}
use Rattle.hm_construction_laws.specs.Steps.{under_body}
use Rattle.hm_round_trip_laws.proofs.Pieces.{PiecesAreNext}
use Rattle.hm_round_trip_laws.proofs.Ahead.{Ahead, tag, TextFront, any_front}
use Rattle.hm_round_trip_laws.proofs.Frame.{First, start_omitted, end_omitted_is}
use Rattle.hm_round_trip_laws.proofs.LastEvents.{not_absent}
use Rattle.hm_round_trip_laws.proofs.BodySteps.{Inside, at_body, inner, Stands, stands_in, element_no_root}
use Rattle.hm_round_trip_laws.proofs.Closing.{html_part, start_name, falls_child, child_first, falls_goes, closes_first, ends_inner, ends_body, body_end_first}

-- an end of body after an element whose end tag was left out, or something else
pub data AtEnd (path : List Element) (w : List Event) : Type 0 where
  body_ends : (m : List ℕ) (foreign : Bool) (rest : List Event) → path ≡ under_body → w ≡ end m foreign ∷ rest → AtEnd path w
  goes_on : (begins_end w ≡ true → bytes_eq (current path) body ≡ false) → AtEnd path w

pub at_end : (path : List Element) (w : List Event) → Inside path → is_in_svg path ≡ false → AtEnd path w
at_end path [] ins out = goes_on (λ h. cc)
at_end path (doctype legacy ∷ w) ins out = goes_on (λ h. cc)
at_end path (start n foreign attributes ∷ w) ins out = goes_on (λ h. cc)
at_end path (text s raw ∷ w) ins out = goes_on (λ h. cc)
at_end path (comment s ∷ w) ins out = goes_on (λ h. cc)
at_end path (end m foreign ∷ w) at_body out = body_ends m foreign w refl refl
at_end path (end m foreign ∷ w) (inner e rest s ins) out = goes_on (λ h. (element_no_root e rest s out).no_body)

-- ordinary text may go on here, up to where it ends
abbrev pub Fronted : List Entry → List ℕ → Type 0
Fronted t b = (text : List ℕ) × TextFront t b text

fronted : (t : List Entry) (b : List ℕ) (P : Ahead → Type 0) → First t P b → Fronted t b
fronted t b P (x, is, begins) = any_front t b x begins

start_follows : (g : Spelling) → PiecesAreNext g → (w : List Event) (n : List ℕ) (foreign : Bool) (attributes : List Attribute) (path : List Element) (before : Before) (b piece rest : List ℕ) (form : StartForm)
    → is_in_svg path ≡ false → StartAllowed n foreign attributes path w → SettledBody (element n foreign ∷ path) w → b ≡ piece ++ rest → StartSp g before n foreign attributes w form piece rest → SpellsFrom g (after_start foreign form) (element n foreign ∷ path) w rest → Fronted g.table b
start_follows g next w n foreign attributes path before b piece rest StartForm.written out allowed settled e sp more =
    any_front g.table b (tag (tokens.start_tag n attributes false)) (rest, rw e (next.starts ordinary n attributes false piece rest refl (start_name n foreign path w allowed.element) allowed.attributes_allowed sp))
start_follows g next w n foreign attributes path before b piece rest StartForm.slashed out allowed settled e sp more =
    any_front g.table b (tag (tokens.start_tag n attributes true)) (rest, rw e (next.starts ordinary n attributes true piece rest refl (start_name n foreign path w allowed.element) allowed.attributes_allowed sp.1))
start_follows g next w n foreign attributes path before b piece rest StartForm.omitted out allowed settled e sp more =
    let h = html_part n foreign path w out allowed.element in
    let o = start_omitted g.rules (left_out_before before) n foreign attributes w sp.1 in
    let child = falls_child g.rules.frame n w (stands_in n path h.stands).0.is_no_root o.falls in
    let settled' : SettledBody (html_element n ∷ path) w = subst (λ (f : Bool). SettledBody (element n f ∷ path) w) o.is_html settled in
    let more' : SpellsFrom g (after_start false StartForm.omitted) (html_element n ∷ path) w rest = subst (λ (f : Bool). SpellsFrom g (after_start f StartForm.omitted) (element n f ∷ path) w rest) o.is_html more in
    let c = child_first g next w n path (after_start false StartForm.omitted) rest h.stands settled' child more' in
    any_front g.table b (tag (tokens.start_tag c.child c.attributes c.slash)) (rw (e, sp.0) c.begins)

body_follows : (g : Spelling) → PiecesAreNext g → (m : List ℕ) (foreign : Bool) (w : List Event) (b : List ℕ) (before : Before) → SettledBody under_body (end m foreign ∷ w) → is_self_closing before ≡ false → SpellsFrom g before under_body (end m foreign ∷ w) b → Fronted g.table b
body_follows g next m foreign w b before settled fresh sp =
    let i = (ends_body g before m foreign w b settled sp).2 in
    fronted g.table b _ (body_end_first g next i.form w i.piece i.rest b before i.settled fresh i.whole i.spells i.more)

omitted_follows : (g : Spelling) → PiecesAreNext g → (w : List Event) (d : Element) (path : List Element) (b : List ℕ) → Stands d path → Inside path → d.foreign ≡ false → SettledBody path w → end_goes d.name (current path) w ≡ true → SpellsFrom g (end_omitted d.name) path w b → AtEnd path w → Fronted g.table b
omitted_follows g next w d path b s ins out settled goes sp (goes_on within) = fronted g.table b _ (closes_first g next w d.name path b ins (s.outside out) (s.stands out) settled goes within sp)
omitted_follows g next w d path b s ins out settled goes sp (body_ends m foreign rest is whole) =
    let settled' : SettledBody under_body (end m foreign ∷ rest) = rw (is, whole) at settled in
    let sp' : SpellsFrom g (end_omitted d.name) under_body (end m foreign ∷ rest) b = rw (is, whole) at sp in
    body_follows g next m foreign rest b (end_omitted d.name) settled' refl sp'

end_follows : (g : Spelling) → PiecesAreNext g → (w : List Event) (d : Element) (path : List Element) (before : Before) (b piece rest : List ℕ) (form : EndForm) → Stands d path → Inside path → d.foreign ≡ false → SettledBody path w → is_self_closing before ≡ false
    → b ≡ piece ++ rest → EndSp g before d.name d.foreign path w form piece → SpellsFrom g (after_end d.name form) path w rest → Fronted g.table b
end_follows g next w d path before b piece rest EndForm.absent s ins out settled fresh e sp more = absurd (not_absent before d.name d.foreign fresh (s.solid out) sp.1)
end_follows g next w d path before b piece rest EndForm.written s ins out settled fresh e sp more =
    any_front g.table b (tag (tokens.end_tag d.name)) (rest, rw e (next.ends ordinary d.name piece rest refl s.name sp.1))
end_follows g next w d path before b piece rest EndForm.omitted s ins out settled fresh e sp more =
    let falls = (end_omitted_is g.rules d.name d.foreign path w sp.2).1 in
    let goes = falls_goes d.name (current path) w (element_no_root d path s out) falls in
    rw (e, sp.0) (omitted_follows g next w d path rest s ins out settled goes more (at_end path w ins (s.outside out)))

-- After an ordinary text, and wherever no text begins.
pub text_follows : (g : Spelling) → PiecesAreNext g → (w : List Event) (path : List Element) (before : Before) (b : List ℕ) → Inside path → is_in_svg path ≡ false → SettledBody path w → begins_text w ≡ false → is_self_closing before ≡ false → SpellsFrom g before path w b → Fronted g.table b
text_follows g next [] path before b ins out settled alone fresh sp = absurd settled
text_follows g next (doctype legacy ∷ w) path before b ins out settled alone fresh sp = absurd settled
text_follows g next (text s raw ∷ w) path before b ins out settled alone fresh sp = cc
text_follows g next (comment s ∷ w) path before b ins out (allowed, settled) alone fresh (rest, e, more) = any_front g.table b (tag (tokens.comment s)) (rest, rw e (next.comments ordinary s rest refl allowed.form))
text_follows g next (start n foreign attributes ∷ w) path before b ins out settled alone fresh (form, piece, rest, e, sp, more) = start_follows g next w n foreign attributes path before b piece rest form out settled.0 settled.1 e sp more
text_follows g next (end m foreign ∷ w) path before b at_body out settled alone fresh sp = body_follows g next m foreign w b before settled fresh sp
text_follows g next (end m foreign ∷ w) path before b (inner d outer s ins) out settled alone fresh (form, piece, rest, e, sp, more) =
    let i = ends_inner d outer m foreign w s settled in
    let sp' : EndSp g before d.name d.foreign outer w form piece = rw (i.named, i.kind) at sp in
    let more' : SpellsFrom g (after_end d.name form) outer w rest = rw i.named at more in
    end_follows g next w d outer before b piece rest form s ins out i.settled fresh e sp' more'

-- ---- In an element of SVG

svg_start : (g : Spelling) → PiecesAreNext g → (w : List Event) (n : List ℕ) (foreign : Bool) (attributes : List Attribute) (path : List Element) (before : Before) (b piece rest : List ℕ) (form : StartForm)
    → is_in_svg path ≡ true → StartAllowed n foreign attributes path w → b ≡ piece ++ rest → StartSp g before n foreign attributes w form piece rest → begins_markup b ≡ true
svg_start g next w n foreign attributes path before b piece rest StartForm.written inside allowed e sp = rw e (next.starts in_svg n attributes false piece rest refl (start_name n foreign path w allowed.element) allowed.attributes_allowed sp).0
svg_start g next w n foreign attributes path before b piece rest StartForm.slashed inside allowed e sp = rw e (next.starts in_svg n attributes true piece rest refl (start_name n foreign path w allowed.element) allowed.attributes_allowed sp.1).0
svg_start g next w n foreign attributes path before b piece rest StartForm.omitted inside allowed e sp = absurd (by allowed.element)
  where
    by : ElementAllowed n foreign path w → ⊥
    by (inl (h, a)) = both_ways foreign (start_omitted g.rules (left_out_before before) n foreign attributes w sp.1).is_html a.kind
    by (inr (out, a)) = both_ways (is_in_svg path) out inside

svg_end : (g : Spelling) → PiecesAreNext g → (w : List Event) (d : Element) (path : List Element) (before : Before) (b piece rest : List ℕ) (form : EndForm) → Stands d path → d.foreign ≡ true → is_self_closing before ≡ false → b ≡ piece ++ rest → EndSp g before d.name d.foreign path w form piece → begins_markup b ≡ true
svg_end g next w d path before b piece rest EndForm.absent s inside fresh e sp = let k : is_self_closing before || false ≡ true = rw inside at sp.1 in let l : is_self_closing before || false ≡ false = rw fresh refl in absurd (both_ways (is_self_closing before || false) l k)
svg_end g next w d path before b piece rest EndForm.omitted s inside fresh e sp = absurd (both_ways d.foreign (end_omitted_is g.rules d.name d.foreign path w sp.2).0 inside)
svg_end g next w d path before b piece rest EndForm.written s inside fresh e sp = rw e (next.ends in_svg d.name piece rest refl s.name sp.1).0

pub svg_follows : (g : Spelling) → PiecesAreNext g → (w : List Event) (path : List Element) (before : Before) (b : List ℕ) → Inside path → is_in_svg path ≡ true → SettledBody path w → begins_text w ≡ false → is_self_closing before ≡ false → SpellsFrom g before path w b → begins_markup b ≡ true
svg_follows g next [] path before b ins inside settled alone fresh sp = absurd settled
svg_follows g next (doctype legacy ∷ w) path before b ins inside settled alone fresh sp = absurd settled
svg_follows g next (text s raw ∷ w) path before b ins inside settled alone fresh sp = cc
svg_follows g next (comment s ∷ w) path before b ins inside (allowed, settled) alone fresh (rest, e, more) = rw e (next.comments in_svg s rest refl allowed.form).0
svg_follows g next (start n foreign attributes ∷ w) path before b ins inside settled alone fresh (form, piece, rest, e, sp, more) = svg_start g next w n foreign attributes path before b piece rest form inside settled.0 e sp
svg_follows g next (end m foreign ∷ w) path before b at_body inside settled alone fresh sp = cc
svg_follows g next (end m foreign ∷ w) path before b (inner d outer s ins) inside settled alone fresh (form, piece, rest, e, sp, more) =
    let i = ends_inner d outer m foreign w s settled in
    let sp' : EndSp g before d.name d.foreign outer w form piece = rw (i.named, i.kind) at sp in
    svg_end g next w d outer before b piece rest form s inside fresh e sp'
