-- After the end of body: comments, the end of html, comments, and the end of the page; a p may still be open.
use Rattle.std.proofs.Common.{◌≡◌, ℕ, Bool, true, false, List, [], ◌∷◌, ◌++◌, map, refl, sym, ◌∙◌, ap}
use Rattle.std.proofs.lemmas.Bool.{both_ways}
use Rattle.hm_base.specs.Walks.{Event, doctype, start, text, comment, end, Element, pushes, begins_comment}
use Rattle.hm_elements.specs.Names.{is_among, html, body, p}
use Rattle.hm_elements.specs.Tables.{is_void, is_raw, raw_names, is_rcdata, rcdata_names, holds_text}
use Rattle.hm_elements.specs.Paths.{html_element}
use Rattle.hm_elements.specs.Places.{SettledLast, SettledAfterBody, html_path}
use Rattle.hm_tree.specs.Tokens as tokens
use Rattle.hm_token_laws.specs.First.{ordinary}
use Rattle.hm_spelling_spec.specs.Tags.{Spelling}
use Rattle.hm_spelling_spec.specs.Spellings.{Before, other, EndForm, is_self_closing, has_no_end_tag, EndSp, after_end, SpellsFrom}
use Rattle.hm_construction_laws.specs.Steps.{InsertionMode, in_body, after_body, after_html, Construction, went, under_body, is_at_end, step, step_end, step_over}
use Rattle.hm_construction_laws.specs.Trees.{built, mode_of}
use Rattle.hm_round_trip_laws.proofs.Pieces.{PiecesAreNext}
use Rattle.hm_round_trip_laws.proofs.Reading.{Builds, written}
use Rattle.hm_round_trip_laws.proofs.Ahead.{Sound, Ahead, tag, finish, Agree, unseen}
use Rattle.hm_round_trip_laws.proofs.Frame.{here, First, frame_modes, end_omitted_is, root_end_falls, frame_not_void, frame_names}

-- html and body are open, and maybe a p
abbrev pub end_path : Bool → List Element
end_path false = under_body
end_path true = html_element p ∷ under_body

abbrev pub p_ended : Bool → List Event → List Event
p_ended false w = w
p_ended true w = end p false ∷ w

-- a state after body, with the comments that are kept
abbrev pub left : InsertionMode → Bool → List (List ℕ) → List (List ℕ) → Construction
left mode loose inner last = record { insertion_mode = mode; path = end_path loose; drops_line_feed = false; comments_after_body = inner; comments_after_html = last }

-- what such a state still has to make, before what follows
abbrev pub owed : Bool → List (List ℕ) → List Event → List Event
owed loose inner w = p_ended loose (end body false ∷ (map comment inner ++ w))

pub end_mode : (loose : Bool) → mode_of (end_path loose) ≡ ordinary
end_mode false = frame_modes.1.1.1.0
end_mode true = frame_modes.1.1.1.1

comment_moves : (ks : List (List ℕ)) (c : List ℕ) (w : List Event) → map comment (ks ++ c ∷ []) ++ w ≡ map comment ks ++ comment c ∷ w
comment_moves [] c w = refl
comment_moves (k ∷ ks) c w = ap (λ r. comment k ∷ r) (comment_moves ks c w)

comments_pushed : (ks : List (List ℕ)) (es w : List Event) → pushes (map comment ks ++ es) w ≡ map comment ks ++ pushes es w
comments_pushed [] es w = refl
comments_pushed (k ∷ ks) es w = ap (λ r. comment k ∷ r) (comments_pushed ks es w)

last_pushed : (ks : List (List ℕ)) → pushes (map comment ks) [] ≡ map comment ks ++ []
last_pushed [] = refl
last_pushed (k ∷ ks) = ap (λ r. comment k ∷ r) (last_pushed ks)

all_pushed : (inner last : List (List ℕ)) → pushes (map comment inner ++ end html false ∷ map comment last) [] ≡ map comment inner ++ end html false ∷ (map comment last ++ [])
all_pushed inner last = comments_pushed inner (end html false ∷ map comment last) [] ∙ ap (λ r. map comment inner ++ end html false ∷ r) (last_pushed last)

over_last : (g : Spelling) (loose : Bool) (inner last : List (List ℕ)) → Builds g.table (left after_html loose inner last) [] (owed loose inner (end html false ∷ (map comment last ++ [])))
unfolding step_over holds_text is_raw raw_names is_rcdata rcdata_names is_among
over_last g false inner last place at = ap (λ r. built (end body false ∷ r)) (all_pushed inner last)
over_last g true inner last place at = ap (λ r. built (end p false ∷ end body false ∷ r)) (all_pushed inner last)

last_comment : (loose : Bool) (inner last : List (List ℕ)) (s : List ℕ) → step (left after_html loose inner last) (tokens.comment s) ≡ went [] (left after_html loose inner (last ++ s ∷ []))
unfolding step
last_comment loose inner last s = refl

inner_comment : (loose : Bool) (inner : List (List ℕ)) (s : List ℕ) → step (left after_body loose inner []) (tokens.comment s) ≡ went [] (left after_body loose (inner ++ s ∷ []) [])
unfolding step
inner_comment loose inner s = refl

ends_html : (loose : Bool) (inner : List (List ℕ)) → step (left after_body loose inner []) (tokens.end_tag html) ≡ went [] (left after_html loose inner [])
unfolding step step_end holds_text is_raw raw_names is_rcdata rcdata_names is_among
ends_html false inner = refl
ends_html true inner = refl

ends_body : (loose drops : Bool) → step (here in_body (end_path loose) drops) (tokens.end_tag body) ≡ went [] (left after_body loose [] [])
unfolding step step_end holds_text is_raw raw_names is_rcdata rcdata_names is_among is_at_end
ends_body false drops = refl
ends_body true drops = refl

-- ---- After html

pub outer_law : (g : Spelling) → Sound g.table → PiecesAreNext g → (w : List Event) (b : List ℕ) (before : Before) (loose : Bool) (inner last : List (List ℕ)) → SettledLast w → SpellsFrom g before [] w b
    → Builds g.table (left after_html loose inner last) b (owed loose inner (end html false ∷ (map comment last ++ w)))
outer_law g sound next [] b before loose inner last settled e = rw e (over_last g loose inner last)
outer_law g sound next (comment s ∷ w) b before loose inner last (allowed, settled) (rest, e, more) =
    let cut = (next.comments ordinary s rest refl allowed.form).1 in
    rw (e, sym (comment_moves last s w))
    (written g.table ordinary (left after_html loose inner last) (left after_html loose inner (last ++ s ∷ [])) [] _ _ 0 (tokens.comment s) rest sound.names tt (end_mode loose) cut (last_comment loose inner last s)
    (outer_law g sound next w rest other loose inner (last ++ s ∷ []) settled more))
outer_law g sound next (doctype legacy ∷ w) b before loose inner last settled sp = absurd settled
outer_law g sound next (start n foreign attributes ∷ w) b before loose inner last settled sp = absurd settled
outer_law g sound next (text s raw ∷ w) b before loose inner last settled sp = absurd settled
outer_law g sound next (end n foreign ∷ w) b before loose inner last settled sp = absurd settled

-- ---- The end of html

-- only the end of the page follows an omitted `</html>`
over_is : (g : Spelling) (w : List Event) (b : List ℕ) (before : Before) → SettledLast w → begins_comment w ≡ false → SpellsFrom g before [] w b → b ≡ []
over_is g [] b before settled h e = e
over_is g (comment s ∷ w) b before settled h sp = cc
over_is g (doctype legacy ∷ w) b before settled h sp = absurd settled
over_is g (start n foreign attributes ∷ w) b before settled h sp = absurd settled
over_is g (text s raw ∷ w) b before settled h sp = absurd settled
over_is g (end n foreign ∷ w) b before settled h sp = absurd settled

html_over : (loose : Bool) (inner : List (List ℕ)) → Agree (left after_body loose inner []) [] (left after_html loose inner []) finish
unfolding step_over holds_text is_raw raw_names is_rcdata rcdata_names is_among
html_over false inner place at = refl
html_over true inner place at = refl

no_tag : (before : Before) (n : List ℕ) (foreign : Bool) → is_self_closing before ≡ false → is_void n ≡ false → has_no_end_tag before n foreign ≡ false
no_tag before n true fresh solid = rw fresh refl
no_tag before n false fresh solid = rw (fresh, solid) refl

pub not_absent : (before : Before) (n : List ℕ) (foreign : Bool) → is_self_closing before ≡ false → is_void n ≡ false → has_no_end_tag before n foreign ≡ true → ⊥
not_absent before n foreign fresh solid h = both_ways (has_no_end_tag before n foreign) (no_tag before n foreign fresh solid) h

html_end : (g : Spelling) → Sound g.table → PiecesAreNext g → (form : EndForm) (w : List Event) (piece rest b : List ℕ) (before : Before) (loose : Bool) (inner : List (List ℕ)) → SettledLast w → is_self_closing before ≡ false
    → b ≡ piece ++ rest → EndSp g before html false [] w form piece → SpellsFrom g (after_end html form) [] w rest → Builds g.table (left after_body loose inner []) b (owed loose inner (end html false ∷ w))
html_end g sound next EndForm.absent w piece rest b before loose inner settled fresh e sp more = absurd (not_absent before html false fresh frame_not_void.0 sp.1)
html_end g sound next EndForm.omitted w piece rest b before loose inner settled fresh e sp more =
    let falls = (end_omitted_is g.rules html false [] w sp.2).1 in
    let none : rest ≡ [] = over_is g w rest (after_end html EndForm.omitted) settled (root_end_falls html [] w refl falls) more in
    let cut : b ≡ rest = rw (e, sp.0) refl in
    rw cut (unseen g.table sound rest finish (left after_body loose inner []) (left after_html loose inner []) [] _ (end_mode loose) (end_mode loose) none (html_over loose inner)
    (outer_law g sound next w rest (after_end html EndForm.omitted) loose inner [] settled more))
html_end g sound next EndForm.written w piece rest b before loose inner settled fresh e sp more =
    rw e (written g.table ordinary (left after_body loose inner []) (left after_html loose inner []) [] _ _ 0 (tokens.end_tag html) rest sound.names tt (end_mode loose) (next.ends ordinary html piece rest refl frame_names.0 sp.1).1 (ends_html loose inner)
    (outer_law g sound next w rest (after_end html EndForm.written) loose inner [] settled more))

-- ---- After body

pub inner_law : (g : Spelling) → Sound g.table → PiecesAreNext g → (w : List Event) (b : List ℕ) (before : Before) (loose : Bool) (inner : List (List ℕ)) → SettledAfterBody w → is_self_closing before ≡ false → SpellsFrom g before html_path w b
    → Builds g.table (left after_body loose inner []) b (owed loose inner w)
inner_law g sound next [] b before loose inner settled fresh sp = absurd settled
inner_law g sound next (comment s ∷ w) b before loose inner (allowed, settled) fresh (rest, e, more) =
    let cut = (next.comments ordinary s rest refl allowed.form).1 in
    rw (e, sym (comment_moves inner s w))
    (written g.table ordinary (left after_body loose inner []) (left after_body loose (inner ++ s ∷ []) []) [] _ _ 0 (tokens.comment s) rest sound.names tt (end_mode loose) cut (inner_comment loose inner s)
    (inner_law g sound next w rest other loose (inner ++ s ∷ []) settled refl more))
inner_law g sound next (end n foreign ∷ w) b before loose inner (named, kind, settled) fresh (form, piece, rest, e, sp, more) =
    let sp' : EndSp g before html false [] w form piece = rw (named, kind) at sp in
    let more' : SpellsFrom g (after_end html form) [] w rest = rw named at more in
    rw (named, kind) (html_end g sound next form w piece rest b before loose inner settled fresh e sp' more')
inner_law g sound next (doctype legacy ∷ w) b before loose inner settled fresh sp = absurd settled
inner_law g sound next (start n foreign attributes ∷ w) b before loose inner settled fresh sp = absurd settled
inner_law g sound next (text s raw ∷ w) b before loose inner settled fresh sp = absurd settled

-- ---- The end of body

pub data EndFirst : Ahead → Type 0 where
  end_html : EndFirst (tag (tokens.end_tag html))
  ended : EndFirst finish

html_first : (g : Spelling) → PiecesAreNext g → (form : EndForm) (w : List Event) (piece rest b : List ℕ) (before : Before) → SettledLast w → is_self_closing before ≡ false
    → b ≡ piece ++ rest → EndSp g before html false [] w form piece → SpellsFrom g (after_end html form) [] w rest → First g.table EndFirst b
html_first g next EndForm.absent w piece rest b before settled fresh e sp more = absurd (not_absent before html false fresh frame_not_void.0 sp.1)
html_first g next EndForm.omitted w piece rest b before settled fresh e sp more =
    let falls = (end_omitted_is g.rules html false [] w sp.2).1 in
    let none : rest ≡ [] = over_is g w rest (after_end html EndForm.omitted) settled (root_end_falls html [] w refl falls) more in
    (finish, ended, rw (e, sp.0) none)
html_first g next EndForm.written w piece rest b before settled fresh e sp more = (tag (tokens.end_tag html), end_html, (rest, rw e (next.ends ordinary html piece rest refl frame_names.0 sp.1)))

pub end_first : (g : Spelling) → PiecesAreNext g → (w : List Event) (b : List ℕ) (before : Before) → SettledAfterBody w → begins_comment w ≡ false → is_self_closing before ≡ false → SpellsFrom g before html_path w b → First g.table EndFirst b
end_first g next [] b before settled h fresh sp = absurd settled
end_first g next (comment s ∷ w) b before settled h fresh sp = cc
end_first g next (end n foreign ∷ w) b before (named, kind, settled) h fresh (form, piece, rest, e, sp, more) =
    let sp' : EndSp g before html false [] w form piece = rw (named, kind) at sp in
    let more' : SpellsFrom g (after_end html form) [] w rest = rw named at more in
    html_first g next form w piece rest b before settled fresh e sp' more'
end_first g next (doctype legacy ∷ w) b before settled h fresh sp = absurd settled
end_first g next (start n foreign attributes ∷ w) b before settled h fresh sp = absurd settled
end_first g next (text s raw ∷ w) b before settled h fresh sp = absurd settled

end_agrees : (loose drops : Bool) (x : Ahead) → EndFirst x → Agree (here in_body (end_path loose) drops) [] (left after_body loose [] []) x
unfolding step step_end step_over holds_text is_raw raw_names is_rcdata rcdata_names is_among is_at_end
end_agrees false drops x end_html = refl
end_agrees true drops x end_html = refl
end_agrees false drops x ended = λ place at. refl
end_agrees true drops x ended = λ place at. refl

-- the end of body, where at most a p is still open
pub last_law : (g : Spelling) → Sound g.table → PiecesAreNext g → (form : EndForm) (w : List Event) (piece rest b : List ℕ) (before : Before) (loose drops : Bool) → SettledAfterBody w → is_self_closing before ≡ false
    → b ≡ piece ++ rest → EndSp g before body false html_path w form piece → SpellsFrom g (after_end body form) html_path w rest → Builds g.table (here in_body (end_path loose) drops) b (p_ended loose (end body false ∷ w))
last_law g sound next EndForm.absent w piece rest b before loose drops settled fresh e sp more = absurd (not_absent before body false fresh frame_not_void.1.1 sp.1)
last_law g sound next EndForm.omitted w piece rest b before loose drops settled fresh e sp more =
    let falls = (end_omitted_is g.rules body false html_path w sp.2).1 in
    let (x, is, begins) = end_first g next w rest (after_end body EndForm.omitted) settled (root_end_falls body html w refl falls) refl more in
    let cut : b ≡ rest = rw (e, sp.0) refl in
    rw cut (unseen g.table sound rest x (here in_body (end_path loose) drops) (left after_body loose [] []) [] _ (end_mode loose) (end_mode loose) begins (end_agrees loose drops x is)
    (inner_law g sound next w rest (after_end body EndForm.omitted) loose [] settled refl more))
last_law g sound next EndForm.written w piece rest b before loose drops settled fresh e sp more =
    rw e (written g.table ordinary (here in_body (end_path loose) drops) (left after_body loose [] []) [] _ _ 0 (tokens.end_tag body) rest sound.names tt (end_mode loose) (next.ends ordinary body piece rest refl frame_names.1.1 sp.1).1 (ends_body loose drops)
    (inner_law g sound next w rest (after_end body EndForm.written) loose [] settled refl more))
