-- A page that begins with the front and closes its body nowhere has the tree of a fragment.
use Rattle.std.proofs.Common.{◌≡◌, ℕ, zero, suc, pred, ◌+◌, ◌-◌, ◌⊎◌, inl, inr, Bool, true, false, cond, ◌&&◌, ◌||◌, ◌==◌, List, [], ◌∷◌, ◌++◌, length, map, Option, Some, None, codes, refl, sym, ap, ◌∙◌, subst, arith, bytes_eq, encode_utf8_all}
use Rattle.hm_base.specs.Bytes.{is_letter, is_space, is_alnum, is_digit_of, lower}
use Rattle.hm_base.specs.Forms.{is_tag_name, is_small, is_tag_byte}
use Rattle.hm_base.specs.RawText.{is_name_end}
use Rattle.hm_base.specs.Source.{byte_of, place_in, source_of, placed_text, numbered, pairs_joined, returns_replaced, text_fault, Refusal}
use Rattle.hm_base.specs.Walks.{Attribute, Event, doctype, start, text, comment, end, Element, pushed, pushes}
use Rattle.hm_base.specs.declared.rules.Rule.TheVariants.{TextHere, SecondRoot, RefusedName, NotCurrent, StrayEnd, Unclosed, Cut}
use Rattle.hm_elements.specs.Names.{html, head, body, p, is_among}
use Rattle.hm_elements.specs.Paths.{is_in_svg, is_in_text, is_in_blank, is_open}
use Rattle.hm_elements.specs.Tables.{is_refused, refused_names, is_rcdata, rcdata_names, is_raw, raw_names}
use Rattle.hm_refs.specs.Names.{Entry}
use Rattle.hm_open_elements.specs.Moves.{Moves, moves, refuses, start_moves, end_moves}
use Rattle.hm_tree.specs.Tokens.{Seen, Scanned, taken, refused}
use Rattle.hm_tree.specs.Tokens as tokens
use Rattle.hm_token_laws.specs.First.{Next, at_end, after_bytes, first, ordinary}
use Rattle.hm_scan.specs.Reading.{read_tag, read_start, begins_tag, tag_fault, is_bad_byte}
use Rattle.hm_scan.specs.Tags.{is_name_byte, is_later_byte, is_tag_end, attribute_at}
use Rattle.hm_scan.specs.Texts.{begins_markup}
use Rattle.hm_scan.specs.Doctypes.{read_doctype, doctype_form, begins_doctype}
use Rattle.hm_construction_laws.specs.Steps.{InsertionMode, before_html, in_body, after_body, after_html, Construction, Stepped, went, stops, stepped_after_events, after_bytes as after_refusal, then_step, step_byte, step_bytes, step_start, step_end, step, step_over, keep_byte, first_state, under_body, at_front, end_event, starts, entered, after_moves, closes_at_once, drops_after, leave_body, is_at_end, closing, end_current, after_end_moves, start_in_body}
use Rattle.hm_construction_laws.specs.Trees.{Outcome, built, refused_by, after_events, mode_of, stepped, over, next_step, tree_from, tree_of_source, page_tree, unless_faulty}
use Rattle.hm_construction_laws.proofs.Standing.{AtEnd}
use Rattle.hm_construction_laws.proofs.Tags.{at_end_is}
use Rattle.hm_construction_laws.specs.Closing.{is_after_body, closed_step, closed_next, closed_from, closed_of_source}
use Rattle.hm_fragment.specs.Frames.{framed, front, frame_start, frame_end, IsFramed}
use Rattle.hm_fragment.specs.Laws.{OpenPagesAreFramed}

-- ---- In body, with nothing put off

abbrev pub here : List Element → Bool → Construction
here path drops = record { insertion_mode = in_body; path = path; drops_line_feed = drops; comments_after_body = []; comments_after_html = [] }

pub record InBody (st : Construction) : Type 0 where
  pub path : List Element
  pub drops : Bool
  pub is : st ≡ here path drops

in_here : (path : List Element) (drops : Bool) → InBody (here path drops)
in_here path drops = record { path = path; drops = drops; is = refl }

-- a step stays there, or closes body
abbrev Stays : Stepped → Type 0
Stays (went es st) = InBody st ⊎ (is_after_body st.insertion_mode ≡ true)
Stays (stops rule n) = Prim.Unit {0}

-- a step stays there
abbrev Remains : Stepped → Type 0
Remains (went es st) = InBody st
Remains (stops rule n) = Prim.Unit {0}

later_remains : (es : List Event) (o : Stepped) → Remains o → Remains (stepped_after_events es o)
later_remains es (went fs st) h = h
later_remains es (stops rule n) h = tt

stays : (o : Stepped) → Remains o → Stays o
stays (went es st) h = inl h
stays (stops rule n) h = tt

byte_remains : (c : ℕ) (path : List Element) (drops : Bool) → Remains (step_byte c (here path drops))
unfolding step_byte
byte_remains c path drops = by (drops && c == 10) (is_in_text path) (is_space c) (is_in_blank path)
  where
    by : (a b d e : Bool) → Remains (cond a (went [] (here path false)) (cond b (keep_byte c (here path false)) (cond d (keep_byte c (here path false)) (cond e (stops TextHere 0) (keep_byte c (here path false))))))
    by true b d e = in_here path false
    by false true d e = in_here path false
    by false false true e = in_here path false
    by false false false true = tt
    by false false false false = in_here path false

bytes_remain : (s : List ℕ) (st : Construction) → InBody st → Remains (step_bytes s st)
bytes_remain [] st k = k
bytes_remain (c ∷ s) st k = by (step_byte c st) (subst (λ x. Remains (step_byte c x)) (sym k.is) (byte_remains c k.path k.drops)) (λ next h. bytes_remain s next h)
  where
    later : (o : Stepped) → Remains o → Remains (after_refusal 1 o)
    later (went es next) h = h
    later (stops rule n) h = tt

    by : (o : Stepped) → Remains o → ((next : Construction) → InBody next → Remains (step_bytes s next)) → Remains (then_step o (λ next. after_refusal 1 (step_bytes s next)))
    by (went es next) h more = later_remains es (after_refusal 1 (step_bytes s next)) (later (step_bytes s next) (more next h))
    by (stops rule n) h more = tt

front_remains : (o : Stepped) → Remains o → Remains (at_front o)
front_remains (went es st) h = h
front_remains (stops rule n) h = tt

entered_remains : (attributes : List Attribute) (slash drops : Bool) (path more : List Element) → Remains (entered attributes slash (here path drops) more)
entered_remains attributes slash drops path [] = in_here path drops
entered_remains attributes slash drops path (e ∷ more) = by (closes_at_once slash (e ∷ more))
  where
    by : (b : Bool) → Remains (cond b (went (start e.name e.foreign attributes ∷ end e.name e.foreign ∷ []) (here more drops)) (went (start e.name e.foreign attributes ∷ []) (here (e ∷ more) (drops_after (e ∷ more)))))
    by true = in_here more drops
    by false = in_here (e ∷ more) (drops_after (e ∷ more))

moves_remain : (attributes : List Attribute) (slash drops : Bool) (path : List Element) (m : Moves) → Remains (after_moves attributes slash (here path drops) m)
moves_remain attributes slash drops path (moves closed made more) = later_remains (map end_event closed ++ starts made) (entered attributes slash (here path drops) more) (entered_remains attributes slash drops path more)
moves_remain attributes slash drops path (refuses rule) = tt

current_remains : (n : List ℕ) (path more : List Element) → Remains (end_current n (here path false) more)
current_remains n path [] = tt
current_remains n path (e ∷ more) = by (bytes_eq e.name n) (is_open n (e ∷ more))
  where
    by : (a b : Bool) → Remains (cond a (went (end_event e ∷ []) (here more false)) (cond b (stops NotCurrent 0) (stops StrayEnd 0)))
    by true b = in_here more false
    by false true = tt
    by false false = tt

end_moves_remain : (path : List Element) (m : Moves) → Remains (after_end_moves (here path false) m)
end_moves_remain path (moves closed made more) = in_here more false
end_moves_remain path (refuses rule) = tt

leaves : (next : InsertionMode) (path : List Element) → is_after_body next ≡ true → Stays (leave_body next (here path false))
leaves next path h = by (is_at_end path)
  where
    by : (b : Bool) → Stays (cond b (went [] (record (here path false) { insertion_mode = next })) (stops Unclosed 0))
    by true = inr h
    by false = tt

start_stays : (n : List ℕ) (attributes : List Attribute) (slash : Bool) (path : List Element) → Stays (step_start n attributes slash (here path false))
unfolding step_start
start_stays n attributes slash path = by (is_in_svg path) (is_refused n) (bytes_eq n html) (bytes_eq n head) (bytes_eq n body)
  where
    inside : Stays (start_in_body n attributes slash (here path false))
    inside = stays (start_in_body n attributes slash (here path false)) (moves_remain attributes slash false path (start_moves n path))

    by : (a b c d e : Bool) → Stays (cond a (start_in_body n attributes slash (here path false)) (cond b (stops RefusedName 0) (cond c (stops SecondRoot 0) (cond d (stops SecondRoot 0) (cond e (stops SecondRoot 0) (start_in_body n attributes slash (here path false)))))))
    by true b c d e = inside
    by false true c d e = tt
    by false false true d e = tt
    by false false false true e = tt
    by false false false false true = tt
    by false false false false false = inside

end_stays : (n : List ℕ) (path : List Element) → Stays (step_end n (here path false))
unfolding step_end
end_stays n path = by (is_in_text path) (is_in_svg path) (bytes_eq n head) (bytes_eq n body) (bytes_eq n html)
  where
    current : Stays (end_current n (here path false) path)
    current = stays (end_current n (here path false) path) (current_remains n path path)

    by : (a b c d e : Bool) → Stays (cond a (end_current n (here path false) path) (cond (b || false) (end_current n (here path false) path) (cond c (stops StrayEnd 0) (cond d (leave_body after_body (here path false)) (cond e (leave_body after_html (here path false)) (after_end_moves (here path false) (end_moves n path)))))))
    by true b c d e = current
    by false true c d e = current
    by false false true d e = tt
    by false false false true e = leaves after_body path refl
    by false false false false true = leaves after_html path refl
    by false false false false false = stays (after_end_moves (here path false) (end_moves n path)) (end_moves_remain path (end_moves n path))

step_in : (path : List Element) (drops : Bool) (token : Seen) → Stays (step (here path drops) token)
unfolding step
step_in path drops (tokens.doctype legacy) = tt
step_in path drops (tokens.start_tag n attributes slash) = start_stays n attributes slash path
step_in path drops (tokens.end_tag n) = end_stays n path
step_in path drops (tokens.slice s) = stays (step_bytes s (here path drops)) (bytes_remain s (here path drops) (in_here path drops))
step_in path drops (tokens.points ps) = stays (at_front (step_bytes (encode_utf8_all ps) (here path drops))) (front_remains (step_bytes (encode_utf8_all ps) (here path drops)) (bytes_remain (encode_utf8_all ps) (here path drops) (in_here path drops)))
step_in path drops (tokens.comment s) = inl (in_here path false)

step_stays : (st : Construction) (token : Seen) → InBody st → Stays (step st token)
step_stays st token k = subst (λ x. Stays (step x token)) (sym k.is) (step_in k.path k.drops token)

-- ---- The end of the page

pub record EndsFramed (w : List Event) : Type 0 where
  pub inside : List Event
  pub is : w ≡ inside ++ frame_end

pub pushed_end : (e : Event) (w : List Event) → pushed e (w ++ frame_end) ≡ pushed e w ++ frame_end
pushed_end (doctype legacy) w = refl
pushed_end (start n f attributes) w = refl
pushed_end (comment s) w = refl
pushed_end (end n f) w = refl
pushed_end (text s raw) [] = refl
pushed_end (text s raw) (doctype legacy ∷ w) = refl
pushed_end (text s raw) (start n f attributes ∷ w) = refl
pushed_end (text s raw) (text r next ∷ w) = refl
pushed_end (text s raw) (comment r ∷ w) = refl
pushed_end (text s raw) (end n f ∷ w) = refl

pub pushes_end : (es w : List Event) → pushes es (w ++ frame_end) ≡ pushes es w ++ frame_end
pushes_end [] w = refl
pushes_end (e ∷ es) w = ap (pushed e) (pushes_end es w) ∙ pushed_end e (pushes es w)

pushed_framed : (es w : List Event) → EndsFramed w → EndsFramed (pushes es w)
pushed_framed es w k = record { inside = pushes es k.inside; is = ap (pushes es) k.is ∙ pushes_end es k.inside }

over_in : (place : ℕ → ℕ) (at : ℕ) (path : List Element) (drops : Bool) (w : List Event) → over place at (here path drops) ≡ built w → EndsFramed w
unfolding step_over
over_in place at path drops w h = by (is_in_text path) (is_at_end path) refl refl
  where
    left : AtEnd path → pushes (closing path [] []) [] ≡ w → EndsFramed w
    left (inl e) h = record { inside = []; is = sym h ∙ ap (λ x. pushes (closing x [] []) []) e }
    left (inr e) h = record { inside = end p false ∷ []; is = sym h ∙ ap (λ x. pushes (closing x [] []) []) e }

    by : (a b : Bool) → is_in_text path ≡ a → is_at_end path ≡ b → EndsFramed w
    by true b d e = let no : refused_by Cut (place (at + 0)) ≡ built w = rw d at h in cc
    by false false d e = let no : refused_by Unclosed (place (at + 0)) ≡ built w = rw (d, e) at h in cc
    by false true d e = let same : built (pushes (closing path [] []) []) ≡ built w = rw (d, e) at h in let is : pushes (closing path [] []) [] ≡ w = cc in left (at_end_is path e) is

over_framed : (place : ℕ → ℕ) (at : ℕ) (st : Construction) (w : List Event) → InBody st → over place at st ≡ built w → EndsFramed w
over_framed place at st w k h = over_in place at k.path k.drops w (ap (over place at) (sym k.is) ∙ h)

-- ---- The rest of a page

module _ (t : List Entry) (place : ℕ → ℕ) where
  abbrev RestFramed : List ℕ → Type 0
  RestFramed s = (skip at : ℕ) (st : Construction) (w : List Event) → InBody st → tree_from t place skip at st s ≡ built w → closed_from t place skip at st s ≡ None → EndsFramed w

  token_framed : (at : ℕ) (st : Construction) (c : ℕ) (s : List ℕ) (w : List Event) → RestFramed s → InBody st → (x : Next)
      → next_step place at st (c ∷ s) x (λ skip next. tree_from t place skip (at + 1) next s) ≡ built w → closed_next place at st (c ∷ s) x (λ skip next. closed_from t place skip (at + 1) next s) ≡ None → EndsFramed w
  token_framed at st c s w more k at_end h d = over_framed place (at + length (c ∷ s)) st w k h
  token_framed at st c s w more k (after_bytes n (refused fault)) h d = cc
  token_framed at st c s w more k (after_bytes n (taken token rest)) h d = by (step st token) (step_stays st token k) h d
    where
      skip : ℕ
      skip = pred (length (c ∷ s) - length rest)

      by : (o : Stepped) → Stays o → stepped place (at + n) o (λ next. tree_from t place skip (at + 1) next s) ≡ built w → closed_step place (at + n) o (λ next. closed_from t place skip (at + 1) next s) ≡ None → EndsFramed w
      by (stops rule m) y h d = cc
      by (went es next) (inr b) h d = let no : Some (place (at + n)) ≡ None = rw b at d in cc
      by (went es next) (inl y) h d = after (tree_from t place skip (at + 1) next s) refl h (rw (ap (λ x. is_after_body x.insertion_mode) y.is) at d)
        where
          after : (o : Outcome) → tree_from t place skip (at + 1) next s ≡ o → after_events es o ≡ built w → closed_from t place skip (at + 1) next s ≡ None → EndsFramed w
          after (refused_by rule n) e h d = cc
          after (built v) e h d = let same : pushes es v ≡ w = cc in subst EndsFramed same (pushed_framed es v (more skip (at + 1) next v y e d))

  rest_framed : (s : List ℕ) → RestFramed s
  rest_framed [] skip at st w k h d = over_framed place at st w k h
  rest_framed (c ∷ s) (suc skip) at st w k h d = rest_framed s skip (at + 1) st w k h d
  rest_framed (c ∷ s) zero at st w k h d = token_framed at st c s w (rest_framed s) k (first t (mode_of st.path) (c ∷ s)) h d

-- ---- The front

-- the text after the front
record TextAfter (f : List ℕ) : Type 0 where
  rest : List ℕ
  is : map byte_of (placed_text (framed f)) ≡ front ++ rest

text_after : (f : List ℕ) → TextAfter f
text_after [] = record { rest = []; is = refl }
text_after (c ∷ f) = record { rest = map byte_of (returns_replaced (pairs_joined (numbered 21 (c ∷ f)))); is = refl }

doctype_next : (t : List Entry) (rest : List ℕ) → first t ordinary (codes "<!doctype html>" ++ rest) ≡ after_bytes 0 (taken (tokens.doctype false) rest)
unfolding first read_tag begins_tag begins_markup begins_doctype read_doctype doctype_form is_letter is_space lower
doctype_next t rest = refl

body_next : (t : List Entry) (rest : List ℕ) → first t ordinary (codes "<body>" ++ rest) ≡ after_bytes 0 (taken (tokens.start_tag body [] false) rest)
unfolding first read_tag read_start begins_tag tag_fault is_bad_byte is_name_byte is_later_byte is_tag_end attribute_at is_letter is_space is_alnum is_digit_of lower is_tag_name is_small is_tag_byte begins_markup is_name_end
body_next t rest = refl

abbrev before_tag : Construction
before_tag = record { insertion_mode = before_html; path = []; drops_line_feed = false; comments_after_body = []; comments_after_html = [] }

abbrev opened : List Event
opened = start html false [] ∷ start head false [] ∷ end head false ∷ start body false [] ∷ []

record FirstSteps : Type 0 where
  doctype_first : step first_state (tokens.doctype false) ≡ went (doctype false ∷ []) before_tag
  body_opens : step before_tag (tokens.start_tag body [] false) ≡ went opened (here under_body false)
  ordinary_first : mode_of [] ≡ ordinary

first_steps : FirstSteps
unfolding step step_start is_refused refused_names is_among is_rcdata rcdata_names is_raw raw_names
first_steps = record { doctype_first = refl; body_opens = refl; ordinary_first = refl }

-- ---- The law

module _ (t : List Entry) (place : ℕ → ℕ) where
  tree_steps : (at : ℕ) (st next : Construction) (c : ℕ) (s rest : List ℕ) (token : Seen) (es : List Event) (skip : ℕ) → first t (mode_of st.path) (c ∷ s) ≡ after_bytes 0 (taken token rest) → step st token ≡ went es next → pred (length (c ∷ s) - length rest) ≡ skip
      → tree_from t place 0 at st (c ∷ s) ≡ after_events es (tree_from t place skip (at + 1) next s)
  tree_steps at st next c s rest token es skip e f g =
      ap (λ x. next_step place at st (c ∷ s) x (λ skip next. tree_from t place skip (at + 1) next s)) e
      ∙ ap (λ o. stepped place (at + 0) o (λ next. tree_from t place (pred (length (c ∷ s) - length rest)) (at + 1) next s)) f
      ∙ ap (λ k. after_events es (tree_from t place k (at + 1) next s)) g

  closed_steps : (at : ℕ) (st next : Construction) (c : ℕ) (s rest : List ℕ) (token : Seen) (es : List Event) (skip : ℕ) → first t (mode_of st.path) (c ∷ s) ≡ after_bytes 0 (taken token rest) → step st token ≡ went es next → is_after_body next.insertion_mode ≡ false → pred (length (c ∷ s) - length rest) ≡ skip
      → closed_from t place 0 at st (c ∷ s) ≡ closed_from t place skip (at + 1) next s
  closed_steps at st next c s rest token es skip e f b g =
      ap (λ x. closed_next place at st (c ∷ s) x (λ skip next. closed_from t place skip (at + 1) next s)) e
      ∙ ap (λ o. closed_step place (at + 0) o (λ next. closed_from t place (pred (length (c ∷ s) - length rest)) (at + 1) next s)) f
      ∙ ap (λ x. cond x (Some (place (at + 0))) (closed_from t place (pred (length (c ∷ s) - length rest)) (at + 1) next s)) b
      ∙ ap (λ k. closed_from t place k (at + 1) next s) g

  abbrev after_tag : List ℕ → Outcome
  after_tag rest = tree_from t place 5 16 (here under_body false) (codes "body>" ++ rest)

  doctype_here : (rest : List ℕ) → first t (mode_of []) (front ++ rest) ≡ after_bytes 0 (taken (tokens.doctype false) (codes "<body>" ++ rest))
  doctype_here rest = ap (λ m. first t m (front ++ rest)) first_steps.ordinary_first ∙ doctype_next t (codes "<body>" ++ rest)

  body_here : (rest : List ℕ) → first t (mode_of []) (codes "<body>" ++ rest) ≡ after_bytes 0 (taken (tokens.start_tag body [] false) rest)
  body_here rest = ap (λ m. first t m (codes "<body>" ++ rest)) first_steps.ordinary_first ∙ body_next t rest

  tree_opens : (rest : List ℕ) → tree_from t place 0 0 first_state (front ++ rest) ≡ after_events (doctype false ∷ []) (after_events opened (after_tag rest))
  tree_opens rest =
      tree_steps 0 first_state before_tag 60 (codes "!doctype html><body>" ++ rest) (codes "<body>" ++ rest) (tokens.doctype false) (doctype false ∷ []) 14 (doctype_here rest) first_steps.doctype_first (omega arith)
      ∙ ap (after_events (doctype false ∷ [])) (tree_steps 15 before_tag (here under_body false) 60 (codes "body>" ++ rest) rest (tokens.start_tag body [] false) opened 5 (body_here rest) first_steps.body_opens (omega arith))

  closed_opens : (rest : List ℕ) → closed_from t place 0 0 first_state (front ++ rest) ≡ closed_from t place 5 16 (here under_body false) (codes "body>" ++ rest)
  closed_opens rest =
      closed_steps 0 first_state before_tag 60 (codes "!doctype html><body>" ++ rest) (codes "<body>" ++ rest) (tokens.doctype false) (doctype false ∷ []) 14 (doctype_here rest) first_steps.doctype_first refl (omega arith)
      ∙ closed_steps 15 before_tag (here under_body false) 60 (codes "body>" ++ rest) rest (tokens.start_tag body [] false) opened 5 (body_here rest) first_steps.body_opens refl (omega arith)

  framed_by : (rest : List ℕ) (w : List Event) (o : Outcome) → after_tag rest ≡ o → after_events (doctype false ∷ []) (after_events opened o) ≡ built w → closed_from t place 5 16 (here under_body false) (codes "body>" ++ rest) ≡ None → IsFramed w
  framed_by rest w (refused_by rule n) e h d = cc
  framed_by rest w (built v) e h d =
      let k : EndsFramed v = rest_framed t place (codes "body>" ++ rest) 5 16 (here under_body false) v (in_here under_body false) e d in
      let same : frame_start ++ v ≡ w = cc in
      record { inside = k.inside; is = sym same ∙ ap (λ x. frame_start ++ x) k.is }

pub open_pages_are_framed : OpenPagesAreFramed
unfolding page_tree closed_of_source tree_of_source
open_pages_are_framed t f w h d = by (text_fault (framed f)) h
  where
    place : ℕ → ℕ
    place = place_in (source_of (framed f)).placed (source_of (framed f)).end

    read : tree_from t place 0 0 first_state (map byte_of (placed_text (framed f))) ≡ built w → IsFramed w
    read h =
        let b : TextAfter f = text_after f in
        let tree : tree_from t place 0 0 first_state (front ++ b.rest) ≡ built w = subst (λ s. tree_from t place 0 0 first_state s ≡ built w) b.is h in
        let open_still : closed_from t place 0 0 first_state (front ++ b.rest) ≡ None = subst (λ s. closed_from t place 0 0 first_state s ≡ None) b.is d in
        framed_by t place b.rest w (after_tag t place b.rest) refl (sym (tree_opens t place b.rest) ∙ tree) (sym (closed_opens t place b.rest) ∙ open_still)

    by : (o : Option Refusal) → unless_faulty o (tree_of_source t (source_of (framed f))) ≡ built w → IsFramed w
    by None h = read h
    by (Some r) h = cc
