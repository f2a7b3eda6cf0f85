-- Texts in body: in an element of SVG, and ordinary text.
use Rattle.std.proofs.Common.{◌≡◌, ℕ, Bool, true, false, cond, ◌&&◌, ◌||◌, ◌==◌, List, [], ◌∷◌, ◌++◌, refl, sym, ◌∙◌, ap, subst}
use Rattle.std.proofs.lemmas.Bool.{both_ways}
use Rattle.hm_base.specs.Bytes.{is_space, all_pass}
use Rattle.hm_base.specs.Walks.{Event, start, text, end, Element}
use Rattle.hm_base.specs.declared.rules.Rule.TheVariants.{TextHere}
use Rattle.hm_elements.specs.Tables.{is_raw, is_rcdata, holds_text, raw_names, rcdata_names}
use Rattle.hm_elements.specs.Names.{is_among, html, head, body}
use Rattle.hm_elements.specs.Paths.{current, is_in_svg, is_in_raw, is_in_text, is_in_blank}
use Rattle.hm_elements.specs.Places.{TextAllowed, SettledBody}
use Rattle.hm_token_laws.specs.First.{ordinary, in_svg}
use Rattle.hm_token_laws.proofs.TextReads.{markup_ends_texts}
use Rattle.hm_spelling_spec.specs.Tags.{Spelling}
use Rattle.hm_spelling_spec.specs.Spellings.{Before, other, TextSp, drops_first_line_feed, SpellsFrom}
use Rattle.hm_construction_laws.specs.Steps.{InsertionMode, initial, before_html, before_head, in_head, after_head, in_body, after_body, after_html, Construction, Stepped, went, stops, stepped_after_events, moved, no_drop, under_html, under_head, under_body, make_head, close_head, make_body, reach_body, is_in_noscript, keep_byte, kept_byte, space_byte, body_byte, step_byte}
use Rattle.hm_construction_laws.specs.Trees.{mode_of}
use Rattle.hm_construction_laws.proofs.Bytes.{no_text_no_raw}
use Rattle.hm_construction_laws.proofs.Texts.{texts}
use Rattle.hm_round_trip_laws.specs.Texts.{InPieces, text_as_read}
use Rattle.hm_round_trip_laws.proofs.Pieces.{PiecesAreNext}
use Rattle.hm_round_trip_laws.proofs.Reading.{Builds}
use Rattle.hm_round_trip_laws.proofs.Runs.{ran, run_of, run_bytes, Holds, Keeps, Reads}
use Rattle.hm_round_trip_laws.proofs.Ahead.{Sound, text_alone, text_before_front}
use Rattle.hm_round_trip_laws.proofs.Frame.{here, plain_mode, frame_modes}
use Rattle.hm_round_trip_laws.proofs.BodySteps.{Inside, at_body, inner}
use Rattle.hm_round_trip_laws.proofs.Follow.{Fronted, text_follows, svg_follows}
use Rattle.hm_round_trip_laws.proofs.TreeTexts as bytes
use Rattle.hm_round_trip_laws.proofs.TreeTexts.{flag, read_text, run_kept, any_byte, all_any, run_read, one_text}
use Rattle.hm_round_trip_laws.proofs.TextElements.{flag_off, text_ends, element_text}

-- ---- In an element of SVG

abbrev pub InSvg : List Element → Construction → Type 0
InSvg path st = (st.path ≡ path) × (st.insertion_mode ≡ in_body)

pub svg_no_text : (path : List Element) → is_in_svg path ≡ true → (is_in_text path ≡ false) × ((is_in_raw path ≡ false) × (is_in_blank path ≡ false))
unfolding is_in_blank
svg_no_text [] h = cc
svg_no_text (e ∷ path) h = rw h (refl, (refl, refl))

svg_body_byte : (path : List Element) (c : ℕ) (st : Construction) → InSvg path st → Holds (InSvg path) (run_of (body_byte c st))
svg_body_byte path c st on = by (is_in_blank st.path)
  where
    by : (b : Bool) → Holds (InSvg path) (run_of (cond b (stops TextHere 0) (keep_byte c st)))
    by true = tt
    by false = on

svg_kept_byte : (path : List Element) (c : ℕ) (st : Construction) → InSvg path st → Holds (InSvg path) (run_of (kept_byte c st))
svg_kept_byte path c st on =
    subst (λ (m : InsertionMode). Holds (InSvg path) (run_of (cond (is_in_text st.path) (keep_byte c st) (cond (is_space c) (space_byte m c st) (cond (is_in_noscript m st.path) (stops TextHere 0) (reach_body m (body_byte c) st))))))
    (sym on.1) (by (is_in_text st.path) (is_space c))
  where
    by : (a b : Bool) → Holds (InSvg path) (run_of (cond a (keep_byte c st) (cond b (keep_byte c st) (body_byte c st))))
    by true b = on
    by false true = on
    by false false = svg_body_byte path c st on

svg_kept : (path : List Element) → Keeps (InSvg path)
unfolding step_byte
svg_kept path c st on = by (st.drops_line_feed && c == 10)
  where
    by : (b : Bool) → Holds (InSvg path) (run_of (cond b (went [] (no_drop st)) (kept_byte c (no_drop st))))
    by true = on
    by false = svg_kept_byte path c (no_drop st) on

pub svg_mode : (path : List Element) → is_in_svg path ≡ true → mode_of path ≡ in_svg
svg_mode path h = rw h refl

svg_reads : (path : List Element) → is_in_svg path ≡ true → Reads (InSvg path) in_svg
svg_reads path h = record { mode_is = λ st on. ap mode_of on.0 ∙ svg_mode path h; keeps = svg_kept path }

svg_flag : (before : Before) (path : List Element) → is_in_svg path ≡ true → flag before path ≡ false
unfolding drops_first_line_feed
svg_flag before path h = flag_off before path (rw h refl)

kept_in_body : (path : List Element) (s : List ℕ) → is_in_text path ≡ false → is_in_blank path ≡ false → run_bytes s (here in_body path false) ≡ ran (texts (is_in_raw path) s) (here in_body path false)
kept_in_body path s t b = run_kept (here in_body path false) (is_in_raw path) any_byte (λ c h. ap run_of (bytes.body_byte path c t (λ k. absurd (both_ways (is_in_blank path) b k)))) s (all_any s)

blank_in_body : (path : List Element) (s : List ℕ) → is_in_text path ≡ false → all_pass is_space s ≡ true → run_bytes s (here in_body path false) ≡ ran (texts (is_in_raw path) s) (here in_body path false)
blank_in_body path s t blank = run_kept (here in_body path false) (is_in_raw path) is_space (λ c h. ap run_of (bytes.body_byte path c t (λ k. h))) s blank

pub svg_text : (g : Spelling) → Sound g.table → PiecesAreNext g → (path : List Element) (s piece rest : List ℕ) (before : Before) (w : List Event) → Inside path → is_in_svg path ≡ true → TextAllowed path s false w → SettledBody path w
    → TextSp g before path s false piece rest → SpellsFrom g other path w rest → Builds g.table (here in_body path false) rest w → Builds g.table (here in_body path (flag before path)) (piece ++ rest) (text s false ∷ w)
svg_text g sound next path s piece rest before w ins inside a settled sp spells more =
    let no = svg_no_text path inside in
    let markup = svg_follows g next w path other rest ins inside settled a.alone refl spells in
    let is = next.svg_texts before path s piece rest a.utf8 inside (markup_ends_texts g.table rest markup).0 sp in
    let run : run_bytes s (here in_body path false) ≡ ran (texts false s) (here in_body path false) = rw no.1.0 at (kept_in_body path s no.0 no.1.1) in
    rw (svg_flag before path inside, sym (one_text s false w a.not_empty a.alone))
    (text_alone g.table sound.names (InSvg path) in_svg tt (svg_reads path inside) s (piece ++ rest) rest (here in_body path false) (here in_body path false) (texts false s) w (refl, refl) is run more)

-- ---- Ordinary text

abbrev pub Plain : Construction → Type 0
Plain st = mode_of st.path ≡ ordinary

holds_after : (P : Construction → Type 0) (es : List Event) (o : Stepped) → Holds P (run_of o) → Holds P (run_of (stepped_after_events es o))
holds_after P es (went fs st) h = h
holds_after P es (stops rule n) h = tt

plain_body_byte : (c : ℕ) (st : Construction) → Plain st → Holds Plain (run_of (body_byte c st))
plain_body_byte c st on = by (is_in_blank st.path)
  where
    by : (b : Bool) → Holds Plain (run_of (cond b (stops TextHere 0) (keep_byte c st)))
    by true = tt
    by false = on

plain_made : (c : ℕ) (st : Construction) → Holds Plain (run_of (make_body (body_byte c) st))
plain_made c st = holds_after Plain (start body false [] ∷ []) (body_byte c (moved st in_body under_body)) (plain_body_byte c (moved st in_body under_body) frame_modes.1.1.1.0)

plain_closed : (c : ℕ) (st : Construction) → Holds Plain (run_of (close_head (make_body (body_byte c)) st))
plain_closed c st = holds_after Plain (end head false ∷ []) (make_body (body_byte c) (moved st after_head under_html)) (plain_made c (moved st after_head under_html))

plain_head : (c : ℕ) (st : Construction) → Holds Plain (run_of (make_head (close_head (make_body (body_byte c))) st))
plain_head c st = holds_after Plain (start head false [] ∷ []) (close_head (make_body (body_byte c)) (moved st in_head under_head)) (plain_closed c (moved st in_head under_head))

plain_reached : (mode : InsertionMode) (c : ℕ) (st : Construction) → Plain st → Holds Plain (run_of (reach_body mode (body_byte c) st))
plain_reached initial c st on = tt
plain_reached before_html c st on = holds_after Plain (start html false [] ∷ []) (make_head (close_head (make_body (body_byte c))) (moved st before_head under_html)) (plain_head c (moved st before_head under_html))
plain_reached before_head c st on = plain_head c st
plain_reached in_head c st on = plain_closed c st
plain_reached after_head c st on = plain_made c st
plain_reached in_body c st on = plain_body_byte c st on
plain_reached after_body c st on = tt
plain_reached after_html c st on = tt

plain_space : (mode : InsertionMode) (c : ℕ) (st : Construction) → Plain st → Holds Plain (run_of (space_byte mode c st))
plain_space initial c st on = on
plain_space before_html c st on = on
plain_space before_head c st on = on
plain_space in_head c st on = on
plain_space after_head c st on = on
plain_space in_body c st on = on
plain_space after_body c st on = on
plain_space after_html c st on = on

plain_kept_byte : (c : ℕ) (st : Construction) → Plain st → Holds Plain (run_of (kept_byte c st))
plain_kept_byte c st on = by (is_in_text st.path) (is_space c) (is_in_noscript st.insertion_mode st.path)
  where
    by : (a b d : Bool) → Holds Plain (run_of (cond a (keep_byte c st) (cond b (space_byte st.insertion_mode c st) (cond d (stops TextHere 0) (reach_body st.insertion_mode (body_byte c) st)))))
    by true b d = on
    by false true d = plain_space st.insertion_mode c st on
    by false false true = tt
    by false false false = plain_reached st.insertion_mode c st on

plain_kept : Keeps Plain
unfolding step_byte
plain_kept c st on = by (st.drops_line_feed && c == 10)
  where
    by : (b : Bool) → Holds Plain (run_of (cond b (went [] (no_drop st)) (kept_byte c (no_drop st))))
    by true = on
    by false = plain_kept_byte c (no_drop st) on

pub plain_reads : Reads Plain ordinary
plain_reads = record { mode_is = λ st on. on; keeps = plain_kept }

pub plain_name : (path : List Element) → is_in_svg path ≡ false → is_in_text path ≡ false → holds_text (current path) ≡ false
unfolding holds_text is_raw raw_names is_rcdata rcdata_names is_among
plain_name [] out t = refl
plain_name (e ∷ path) out t = rw out at t

pub plain_path : (path : List Element) → is_in_svg path ≡ false → is_in_text path ≡ false → mode_of path ≡ ordinary
plain_path path out t = plain_mode path out (plain_name path out t)

not_rcdata : (n : List ℕ) → holds_text n ≡ false → is_rcdata n ≡ false
unfolding holds_text
not_rcdata n h = by (is_raw n) (is_rcdata n) h
  where
    by : (a b : Bool) → a || b ≡ false → b ≡ false
    by true b k = cc
    by false b k = k

-- An ordinary text before what follows it, in any state that keeps its bytes.
pub plain_text : (g : Spelling) → Sound g.table → PiecesAreNext g → (mode : InsertionMode) (path : List Element) (s piece rest : List ℕ) (before : Before) (w : List Event) → is_in_svg path ≡ false → is_in_text path ≡ false → TextAllowed path s false w
    → TextSp g before path s false piece rest → Fronted g.table rest → run_bytes s (here mode path false) ≡ ran (texts (is_in_raw path) s) (here mode path false) → Builds g.table (here mode path false) rest w → Builds g.table (here mode path (flag before path)) (piece ++ rest) (text s false ∷ w)
plain_text g sound next mode path s piece rest before w out t a sp front kept more =
    let no_raw = no_text_no_raw path t in
    let m = plain_path path out t in
    let p : InPieces g.table false (text_as_read before path s) piece rest = rw (not_rcdata (current path) (plain_name path out t)) at (next.texts before path s piece rest a.utf8 out sp) in
    let run : run_bytes (text_as_read before path s) (here mode path (flag before path)) ≡ ran (texts false s) (here mode path false) =
    ap (λ x. run_bytes x (here mode path (flag before path))) (read_text before path s a.utf8) ∙ run_read mode path (flag before path) s a.not_empty ∙ (rw no_raw at kept) in
    rw (sym (one_text s false w a.not_empty a.alone))
    (text_before_front g.table sound Plain plain_reads p.pieces (piece ++ rest) rest front.0 (here mode path (flag before path)) (here mode path false) (texts false s) w m m (ap (λ x. x ++ rest) (sym p.written)) p.good front.1 (ap (λ x. run_bytes x (here mode path (flag before path))) p.means ∙ run) more)

plain_in_body : (path : List Element) (s : List ℕ) (w : List Event) → is_in_text path ≡ false → TextAllowed path s false w → run_bytes s (here in_body path false) ≡ ran (texts (is_in_raw path) s) (here in_body path false)
plain_in_body path s w t a = by (is_in_blank path) refl
  where
    by : (b : Bool) → is_in_blank path ≡ b → run_bytes s (here in_body path false) ≡ ran (texts (is_in_raw path) s) (here in_body path false)
    by true e = blank_in_body path s t (a.blank e)
    by false e = kept_in_body path s t e

-- ---- Any text in body

text_in_element : (g : Spelling) → Sound g.table → PiecesAreNext g → (path : List Element) (s piece rest : List ℕ) (raw : Bool) (before : Before) (w : List Event) → Inside path → is_in_text path ≡ true → TextAllowed path s raw w → SettledBody path w
    → TextSp g before path s raw piece rest → SpellsFrom g other path w rest → Builds g.table (here in_body path false) rest w → Builds g.table (here in_body path (flag before path)) (piece ++ rest) (text s raw ∷ w)
unfolding holds_text is_raw raw_names is_rcdata rcdata_names is_among
text_in_element g sound next path s piece rest raw before w at_body t a settled sp spells more = cc
text_in_element g sound next path s piece rest raw before w (inner d outer stands ins) t a settled sp spells more =
    element_text g sound next in_body d outer s piece rest raw before w t a (text_ends g next body _ w d outer other rest t stands.name settled a.alone refl spells) sp more

pub body_text : (g : Spelling) → Sound g.table → PiecesAreNext g → (path : List Element) (s piece rest : List ℕ) (raw : Bool) (before : Before) (w : List Event) → Inside path → TextAllowed path s raw w → SettledBody path w
    → TextSp g before path s raw piece rest → SpellsFrom g other path w rest → Builds g.table (here in_body path false) rest w → Builds g.table (here in_body path (flag before path)) (piece ++ rest) (text s raw ∷ w)
body_text g sound next path s piece rest raw before w ins a settled sp spells more = by (is_in_svg path) (is_in_text path) raw refl refl a sp
  where
    by : (v t r : Bool) → is_in_svg path ≡ v → is_in_text path ≡ t → TextAllowed path s r w → TextSp g before path s r piece rest → Builds g.table (here in_body path (flag before path)) (piece ++ rest) (text s r ∷ w)
    by v true r ev et a' sp' = text_in_element g sound next path s piece rest r before w ins et a' settled sp' spells more
    by v false true ev et a' sp' = absurd (both_ways (is_in_raw path) (no_text_no_raw path et) (sym a'.kind))
    by true false false ev et a' sp' = svg_text g sound next path s piece rest before w ins ev a' settled sp' spells more
    by false false false ev et a' sp' = plain_text g sound next in_body path s piece rest before w ev et a' sp' (text_follows g next w path other rest ins ev settled a'.alone refl spells) (plain_in_body path s w et a') more
