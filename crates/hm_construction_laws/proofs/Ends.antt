-- End tags inside head and body.
use Rattle.std.proofs.Common.{◌≡◌, ℕ, Bool, true, false, cond, ◌&&◌, not, if◌then◌else◌, List, [], ◌∷◌, ◌++◌, map, bytes_eq, refl, ap, ◌⊎◌, inl, inr, codes}
use Rattle.std.proofs.lemmas.Bool.{and_parts, or_cases, not-true}
use Rattle.std.specs.List.{list_all}
use Rattle.hm_base.specs.Walks.{Event, Element, pushed, pushes}
use Rattle.hm_base.specs.declared.rules.Rule.TheVariants.{StrayEnd, NotCurrent}
use Rattle.hm_elements.specs.Names.{is_among, head, body, noscript, p}
use Rattle.hm_elements.specs.Tables.{is_raw, raw_names, is_rcdata, rcdata_names, holds_text}
use Rattle.hm_elements.specs.Nesting.{is_ended_by, end_rows}
use Rattle.hm_elements.specs.Paths.{html_element, is_in_svg, is_in_text, is_open, front, rest_after, is_closed_by_end_of}
use Rattle.hm_elements.specs.Settled.{is_html}
use Rattle.hm_elements.proofs.TableTools.{same_bytes, entry_passes}
use Rattle.hm_open_elements.specs.Moves.{moves, ends_nothing, end_on, html_end_moves, end_moves}
use Rattle.hm_construction_laws.specs.Steps.{InsertionMode, initial, before_html, before_head, in_head, after_head, in_body, after_body, after_html, Construction, went, stops, moved, no_drop, under_html, under_head, under_body, end_event, after_end_moves, end_current, is_in_noscript}
use Rattle.hm_construction_laws.proofs.Standing.{HeadOuter, at_head, at_noscript, HeadPath, outside_text, inside_text, BodyPath, at_body, inner, Shape, AtEnd, Good, Leads}
use Rattle.hm_construction_laws.proofs.Made.{OpensTo}
use Rattle.hm_construction_laws.proofs.Starts.{CommentsGood, front_leads, front_path}

-- a state before a tag
abbrev pub before_tag : Construction → InsertionMode → List Element → Construction
before_tag st insertion_mode path = moved (no_drop st) insertion_mode path

-- a state with another path
pub good_on : (st : Construction) (insertion_mode : InsertionMode) (old path : List Element) → CommentsGood st → Shape insertion_mode path → Good (record (before_tag st insertion_mode old) { path = path })
good_on st insertion_mode old path c s = record { shape = s; inner_comments = c.0; last_comments = c.1; keeps = λ h. refl }

body_ends_none : (k : List ℕ) → is_ended_by body k ≡ false
unfolding is_ended_by end_rows is_among
body_ends_none k = refl

falls_body : (n : List ℕ) → is_closed_by_end_of n (html_element body) ≡ false
falls_body n = by (bytes_eq body n)
  where
    by : (c : Bool) → not c && is_ended_by body n ≡ false
    by true = refl
    by false = body_ends_none n

one_more_end : (closed : List Element) (e : Element) (w : List Event) → pushes (map end_event (closed ++ e ∷ [])) w ≡ pushes (map end_event closed) (end_event e ∷ w)
one_more_end [] e w = refl
one_more_end (f ∷ closed) e w = ap (pushed (end_event f)) (one_more_end closed e w)

nothing_ends : (n : List ℕ) (st : Construction) (path : List Element) (b : Bool) → Leads in_body path (after_end_moves st (ends_nothing b))
nothing_ends n st path true = tt
nothing_ends n st path false = tt

tail_path : (e : Element) (rest : List Element) → BodyPath (e ∷ rest) → bytes_eq e.name body ≡ false → BodyPath rest
tail_path e rest at_body h = cc
tail_path e rest (inner e' rest' other out more) h = more

no_body : (e : Element) → bytes_eq e.name body ≡ false → is_html body e.name e.foreign ≡ false
no_body e h = rw h (by e.foreign)
  where
    by : (f : Bool) → not f && false ≡ false
    by true = refl
    by false = refl

end_on_leads : (n : List ℕ) (st : Construction) (path closed left : List Element) (somewhere : Bool) → CommentsGood st → bytes_eq n body ≡ false → OpensTo path (map end_event closed) left → BodyPath left
    → Leads in_body path (after_end_moves (before_tag st in_body path) (end_on n closed left somewhere))
end_on_leads n st path closed [] somewhere c other closes on_path = elim on_path [ ]
end_on_leads n st path closed (e ∷ rest) somewhere c other closes on_path = by (bytes_eq e.name n) refl
  where
    no_root : bytes_eq e.name n ≡ true → bytes_eq e.name body ≡ false
    no_root h = rw (same_bytes e.name n h) other

    by : (b : Bool) → bytes_eq e.name n ≡ b → Leads in_body path (after_end_moves (before_tag st in_body path) (cond b (moves (closed ++ e ∷ []) [] rest) (ends_nothing somewhere)))
    by true h = (good_on st in_body path rest c (tail_path e rest on_path (no_root h)), λ w s. rw (one_more_end closed e w) (closes (end_event e ∷ w) (refl, rw (no_body e (no_root h)) s)))
    by false h = nothing_ends n (before_tag st in_body path) path somewhere

-- an end tag in body, of another element than body
pub end_leads : (n : List ℕ) (st : Construction) (path : List Element) → CommentsGood st → bytes_eq n body ≡ false → BodyPath path → Leads in_body path (after_end_moves (before_tag st in_body path) (end_moves n path))
unfolding end_moves
end_leads n st path c other on_path = by (is_in_svg path)
  where
    by : (b : Bool) → Leads in_body path (after_end_moves (before_tag st in_body path) (cond b (end_on n [] path (is_open n path)) (html_end_moves n path)))
    by true = end_on_leads n st path [] path (is_open n path) c other (λ w h. h) on_path
    by false = end_on_leads n st path (front (is_closed_by_end_of n) path) (rest_after (is_closed_by_end_of n) path) (is_open n path) c other (front_leads (is_closed_by_end_of n) path on_path (falls_body n)) (front_path (is_closed_by_end_of n) path on_path (falls_body n))

-- ---- The innermost element alone

abbrev is_no_head : List ℕ → Bool
is_no_head n = not (bytes_eq n head)

texts_no_head : list_all is_no_head (raw_names ++ codes "script" ∷ []) && list_all is_no_head rcdata_names ≡ true
unfolding raw_names rcdata_names is_among
texts_no_head = refl

text_no_head : (n : List ℕ) → holds_text n ≡ true → bytes_eq n head ≡ false
unfolding holds_text is_raw is_rcdata
text_no_head n h =
    let two = and_parts (list_all is_no_head (raw_names ++ codes "script" ∷ [])) (list_all is_no_head rcdata_names) texts_no_head in
    elim (or_cases (is_among n (raw_names ++ codes "script" ∷ [])) (is_among n rcdata_names) h) [
      | inl k ↦ not-true (bytes_eq n head) (entry_passes is_no_head n (raw_names ++ codes "script" ∷ []) two.0 k)
      | inr k ↦ not-true (bytes_eq n head) (entry_passes is_no_head n rcdata_names two.1 k)
    ]

-- the innermost element holds a text, is one of SVG, or is noscript in head
abbrev pub StandsAlone : InsertionMode → List Element → Type 0
StandsAlone insertion_mode path = (is_in_text path ≡ true) ⊎ ((is_in_svg path ≡ true) ⊎ (is_in_noscript insertion_mode path ≡ true))

other_ends : (insertion_mode : InsertionMode) (path : List Element) (b : Bool) → Leads insertion_mode path (if b then stops NotCurrent 0 else stops StrayEnd 0)
other_ends insertion_mode path true = tt
other_ends insertion_mode path false = tt

current_in_body : (n : List ℕ) (st : Construction) (path : List Element) → CommentsGood st → BodyPath path → StandsAlone in_body path → Leads in_body path (end_current n (before_tag st in_body path) path)
unfolding holds_text is_raw raw_names is_rcdata rcdata_names is_among
current_in_body n st path c at_body (inl t) = cc
current_in_body n st path c at_body (inr (inl s)) = cc
current_in_body n st path c at_body (inr (inr s)) = cc
current_in_body n st path c (inner e rest other out more) s = by (bytes_eq e.name n)
  where
    by : (b : Bool) → Leads in_body (e ∷ rest) (cond b (went (end_event e ∷ []) (record (before_tag st in_body (e ∷ rest)) { path = rest })) (if is_open n (e ∷ rest) then stops NotCurrent 0 else stops StrayEnd 0))
    by true = (good_on st in_body (e ∷ rest) rest c more, λ w h. (refl, rw other h))
    by false = other_ends in_body (e ∷ rest) (is_open n (e ∷ rest))

head_closed : (n m : List ℕ) (st : Construction) (rest : List Element) → CommentsGood st → HeadPath rest → bytes_eq m head ≡ false → Leads in_head (html_element m ∷ rest) (end_current n (before_tag st in_head (html_element m ∷ rest)) (html_element m ∷ rest))
head_closed n m st rest c on_path other = by (bytes_eq m n)
  where
    by : (b : Bool) → Leads in_head (html_element m ∷ rest) (cond b (went (end_event (html_element m) ∷ []) (record (before_tag st in_head (html_element m ∷ rest)) { path = rest })) (if is_open n (html_element m ∷ rest) then stops NotCurrent 0 else stops StrayEnd 0))
    by true = (good_on st in_head (html_element m ∷ rest) rest c on_path, λ w h. (refl, rw other h))
    by false = other_ends in_head (html_element m ∷ rest) (is_open n (html_element m ∷ rest))

outer_closed : (n : List ℕ) (st : Construction) (path : List Element) → CommentsGood st → HeadOuter path → StandsAlone in_head path → Leads in_head path (end_current n (before_tag st in_head path) path)
unfolding holds_text is_raw raw_names is_rcdata rcdata_names is_among
outer_closed n st path c at_head (inl t) = cc
outer_closed n st path c at_head (inr (inl s)) = cc
outer_closed n st path c at_head (inr (inr s)) = cc
outer_closed n st path c at_noscript s = head_closed n noscript st under_head c (outside_text under_head at_head) refl

current_in_head : (n : List ℕ) (st : Construction) (path : List Element) → CommentsGood st → HeadPath path → StandsAlone in_head path → Leads in_head path (end_current n (before_tag st in_head path) path)
current_in_head n st path c (outside_text path' o) s = outer_closed n st path c o s
current_in_head n st path c (inside_text m rest h o) s = head_closed n m st rest c (outside_text rest o) (text_no_head m h)

end_is_frame : (path : List Element) → AtEnd path → StandsAlone after_body path → ⊥
unfolding holds_text is_raw raw_names is_rcdata rcdata_names is_among
end_is_frame path (inl e) (inl t) = let k : is_in_text under_body ≡ true = rw e at t in cc
end_is_frame path (inl e) (inr (inl s)) = let k : is_in_svg under_body ≡ true = rw e at s in cc
end_is_frame path (inl e) (inr (inr s)) = cc
end_is_frame path (inr e) (inl t) = let k : is_in_text (html_element p ∷ under_body) ≡ true = rw e at t in cc
end_is_frame path (inr e) (inr (inl s)) = let k : is_in_svg (html_element p ∷ under_body) ≡ true = rw e at s in cc
end_is_frame path (inr e) (inr (inr s)) = cc

html_is_frame : (path : List Element) → path ≡ under_html → StandsAlone after_body path → ⊥
unfolding holds_text is_raw raw_names is_rcdata rcdata_names is_among
html_is_frame path e (inl t) = let k : is_in_text under_html ≡ true = rw e at t in cc
html_is_frame path e (inr (inl s)) = let k : is_in_svg under_html ≡ true = rw e at s in cc
html_is_frame path e (inr (inr s)) = cc

top_is_frame : (path : List Element) → path ≡ [] → StandsAlone after_body path → ⊥
top_is_frame path e (inl t) = let k : is_in_text [] ≡ true = rw e at t in cc
top_is_frame path e (inr (inl s)) = let k : is_in_svg [] ≡ true = rw e at s in cc
top_is_frame path e (inr (inr s)) = cc

pub current_leads : (n : List ℕ) (st : Construction) (insertion_mode : InsertionMode) (path : List Element) → CommentsGood st → Shape insertion_mode path → StandsAlone insertion_mode path → Leads insertion_mode path (end_current n (before_tag st insertion_mode path) path)
current_leads n st initial path c shape s = absurd (top_is_frame path shape s)
current_leads n st before_html path c shape s = absurd (top_is_frame path shape s)
current_leads n st before_head path c shape s = absurd (html_is_frame path shape s)
current_leads n st in_head path c shape s = current_in_head n st path c shape s
current_leads n st after_head path c shape s = absurd (html_is_frame path shape s)
current_leads n st in_body path c shape s = current_in_body n st path c shape s
current_leads n st after_body path c shape s = absurd (end_is_frame path shape s)
current_leads n st after_html path c shape s = absurd (end_is_frame path shape s)
