-- Elements that hold one text: title, textarea, style, iframe and script, in head and in body.
use Rattle.std.proofs.Common.{◌≡◌, ℕ, Bool, true, false, cond, not, ◌&&◌, ◌==◌, List, [], ◌∷◌, ◌++◌, refl, sym, ◌∙◌, ap, subst, inl, inr, append-nil}
use Rattle.std.proofs.lemmas.Bool.{and_parts, or_cases, not-true, both_ways}
use Rattle.std.specs.List.{list_all}
use Rattle.hm_base.specs.Forms.{is_tag_name}
use Rattle.hm_base.specs.RawText.{begins_end_tag}
use Rattle.hm_base.specs.Walks.{Event, start, text, comment, doctype, end, Element, begins_text}
use Rattle.hm_elements.specs.Names.{is_among, script as script_name}
use Rattle.hm_elements.specs.Tables.{roots, voids, raw_names, rcdata_names, is_root, is_void, is_raw, is_rcdata, holds_text}
use Rattle.hm_elements.specs.Paths.{current, is_in_raw, is_in_text}
use Rattle.hm_elements.specs.Settled.{end_tag}
use Rattle.hm_elements.specs.Places.{TextAllowed, ElementAllowed, SettledInside}
use Rattle.hm_elements.proofs.TableTools.{entry_passes}
use Rattle.hm_refs.specs.Names.{Entry}
use Rattle.hm_tree.specs.Tokens as tokens
use Rattle.hm_token_laws.specs.First.{Mode, rcdata}
use Rattle.hm_token_laws.specs.Laws.{IsMode}
use Rattle.hm_token_laws.specs.Decided.{IsReadAs}
use Rattle.hm_token_laws.specs.Written.{IsNext}
use Rattle.hm_token_laws.proofs.Written.{raw_texts_are_next, scripts_are_next}
use Rattle.hm_spelling_spec.specs.Tags.{Spelling}
use Rattle.hm_spelling_spec.specs.Spellings.{Before, EndForm, EndSp, TextSp, is_opening, drops_first_line_feed, is_self_closing, SpellsFrom}
use Rattle.hm_construction_laws.specs.Steps.{InsertionMode, Construction, went, no_drop, kept_byte, step_byte}
use Rattle.hm_construction_laws.specs.Trees.{mode_of}
use Rattle.hm_construction_laws.proofs.Modes.{RawMode, of_script, of_raw, raw_mode, is_mode}
use Rattle.hm_construction_laws.proofs.Starts.{raw_keeps}
use Rattle.hm_construction_laws.proofs.Texts.{texts}
use Rattle.hm_round_trip_laws.specs.Texts.{text_as_read}
use Rattle.hm_round_trip_laws.proofs.Pieces.{PiecesAreNext}
use Rattle.hm_round_trip_laws.proofs.Reading.{Builds}
use Rattle.hm_round_trip_laws.proofs.Runs.{ran, run_of, run_bytes, Holds, Keeps, Reads}
use Rattle.hm_round_trip_laws.proofs.Ahead.{Sound, text_alone}
use Rattle.hm_round_trip_laws.proofs.Frame.{here, end_omitted_is}
use Rattle.hm_round_trip_laws.proofs.LastEvents.{not_absent}
use Rattle.hm_round_trip_laws.proofs.BodySteps.{no_root, stands_in}
use Rattle.hm_round_trip_laws.proofs.Closing.{falls_goes, goes_holds}
use Rattle.hm_round_trip_laws.proofs.TreeTexts.{flag, flag_after, read_text, run_kept, any_byte, all_any, run_read, text_byte, one_text}

-- ---- Their names

abbrev solid : List ℕ → Bool
solid n = not (is_among n voids) && not (is_among n roots)

texts_solid : list_all solid (raw_names ++ script_name ∷ []) && list_all solid rcdata_names ≡ true
unfolding raw_names rcdata_names voids roots is_among
texts_solid = refl

pub text_names : (n : List ℕ) → holds_text n ≡ true → (is_void n ≡ false) × (is_root n ≡ false)
unfolding holds_text is_raw is_rcdata is_void is_root
text_names n h =
    let two = and_parts (list_all solid (raw_names ++ script_name ∷ [])) (list_all solid rcdata_names) texts_solid in
    let one : solid n ≡ true = elim (or_cases (is_among n (raw_names ++ script_name ∷ [])) (is_among n rcdata_names) h) [
      | inl k ↦ entry_passes solid n (raw_names ++ script_name ∷ []) two.0 k
      | inr k ↦ entry_passes solid n rcdata_names two.1 k
    ] in
    let parts = and_parts (not (is_among n voids)) (not (is_among n roots)) one in
    (not-true (is_among n voids) parts.0, not-true (is_among n roots) parts.1)

pub in_text_is : (d : Element) (path : List Element) → is_in_text (d ∷ path) ≡ true → (d.foreign ≡ false) × (holds_text d.name ≡ true)
in_text_is d path h = let two = and_parts (not d.foreign) (holds_text d.name) h in (not-true d.foreign two.0, two.1)

-- ---- The end tag after the text

element_ends : (g : Spelling) → PiecesAreNext g → (w : List Event) (d : Element) (path : List Element) (before : Before) (b piece rest : List ℕ) (form : EndForm) → is_in_text (d ∷ path) ≡ true → is_tag_name d.name ≡ true → is_self_closing before ≡ false
    → b ≡ piece ++ rest → EndSp g before d.name d.foreign path w form piece → begins_end_tag d.name b ≡ true
element_ends g next w d path before b piece rest EndForm.absent t named fresh e sp =
    absurd (not_absent before d.name d.foreign fresh (text_names d.name (in_text_is d path t).1).0 sp.1)
element_ends g next w d path before b piece rest EndForm.omitted t named fresh e sp =
    let k = in_text_is d path t in
    let falls = (end_omitted_is g.rules d.name d.foreign path w sp.2).1 in
    let goes = falls_goes d.name (current path) w (no_root d.name (text_names d.name k.1).1) falls in
    absurd (both_ways (holds_text d.name) (goes_holds d.name (current path) w goes).no_text k.1)
element_ends g next w d path before b piece rest EndForm.written t named fresh e sp = rw e (next.end_begins d.name piece rest sp.1)

no_start : (n : List ℕ) (foreign : Bool) (d : Element) (path : List Element) (w : List Event) → is_in_text (d ∷ path) ≡ true → ElementAllowed n foreign (d ∷ path) w → ⊥
no_start n foreign d path w t (inl (inside, a)) = both_ways d.foreign (in_text_is d path t).0 inside
no_start n foreign d path w t (inr (out, a)) = both_ways (holds_text d.name) (stands_in n (d ∷ path) a.stands).1.0.no_text (in_text_is d path t).1

pub text_ends : (g : Spelling) → PiecesAreNext g → (root : List ℕ) (after : List Event → Type 0) (w : List Event) (d : Element) (path : List Element) (before : Before) (b : List ℕ) → is_in_text (d ∷ path) ≡ true → is_tag_name d.name ≡ true → SettledInside root after (d ∷ path) w
    → begins_text w ≡ false → is_self_closing before ≡ false → SpellsFrom g before (d ∷ path) w b → begins_end_tag d.name b ≡ true
text_ends g next root after [] d path before b t named settled alone fresh sp = absurd settled
text_ends g next root after (doctype legacy ∷ w) d path before b t named settled alone fresh sp = absurd settled
text_ends g next root after (text s raw ∷ w) d path before b t named settled alone fresh sp = cc
text_ends g next root after (comment s ∷ w) d path before b t named (allowed, settled) alone fresh sp = absurd (both_ways (is_in_text (d ∷ path)) allowed.outside t)
text_ends g next root after (start n foreign attributes ∷ w) d path before b t named settled alone fresh sp = absurd (no_start n foreign d path w t settled.0.element)
text_ends g next root after (end m foreign ∷ w) d path before b t named settled alone fresh (form, piece, rest, e, sp, more) =
    let is : m ≡ d.name = ap (λ (x : Element). x.name) (sym settled.0) in
    let kind : foreign ≡ d.foreign = ap (λ (x : Element). x.foreign) (sym settled.0) in
    element_ends g next w d path before b piece rest form t named fresh e (rw (is, kind) at sp)

-- ---- The text

-- a state in the element
abbrev pub On : List Element → Construction → Type 0
On path st = st.path ≡ path

-- bytes of such a text leave the path as it is
pub text_kept : (path : List Element) → is_in_text path ≡ true → Keeps (On path)
unfolding step_byte
text_kept path t c st on = by (st.drops_line_feed && c == 10)
  where
    inside : is_in_text st.path ≡ true
    inside = ap is_in_text on ∙ t

    kept : Holds (On path) (run_of (kept_byte c (no_drop st)))
    kept = rw inside on

    by : (b : Bool) → Holds (On path) (run_of (cond b (went [] (no_drop st)) (kept_byte c (no_drop st))))
    by true = on
    by false = kept

text_reads : (path : List Element) → is_in_text path ≡ true → Reads (On path) (mode_of path)
text_reads path t = record { mode_is = λ st on. ap mode_of on; keeps = text_kept path t }

raw_next : (t : List Entry) (d : Element) (path : List Element) (s rest : List ℕ) (w : List Event) (mode : Mode) → RawMode d.name mode → TextAllowed (d ∷ path) s true w → begins_end_tag d.name rest ≡ true → IsNext t mode (s ++ rest) (tokens.slice s) rest
raw_next t d path s rest w mode (of_script e) a ends = scripts_are_next t s (end_tag script_name) rest a.not_empty (rw e at (a.ends refl)) (rw e at ends)
raw_next t d path s rest w mode (of_raw e) a ends = raw_texts_are_next t d.name s (end_tag d.name) rest a.not_empty (rw e at (a.ends refl)) ends

pub flag_off : (before : Before) (path : List Element) → drops_first_line_feed path ≡ false → flag before path ≡ false
flag_off before path h = rw h (by (is_opening before))
  where
    by : (b : Bool) → b && false ≡ false
    by true = refl
    by false = refl

raw_flag : (before : Before) (d : Element) (path : List Element) → is_in_raw (d ∷ path) ≡ true → flag before (d ∷ path) ≡ false
raw_flag before d path r = flag_off before (d ∷ path) (sym (flag_after d path) ∙ raw_keeps (d ∷ path) r)

kept_here : (mode : InsertionMode) (path : List Element) (s : List ℕ) → is_in_text path ≡ true → run_bytes s (here mode path false) ≡ ran (texts (is_in_raw path) s) (here mode path false)
kept_here mode path s t = run_kept (here mode path false) (is_in_raw path) any_byte (λ c h. ap run_of (text_byte mode path c t)) s (all_any s)

-- a raw text
raw_law : (g : Spelling) → Sound g.table → (mode : InsertionMode) (d : Element) (path : List Element) (s rest : List ℕ) (before : Before) (w : List Event) → is_in_text (d ∷ path) ≡ true → is_in_raw (d ∷ path) ≡ true → TextAllowed (d ∷ path) s true w → begins_end_tag d.name rest ≡ true
    → Builds g.table (here mode (d ∷ path) false) rest w → Builds g.table (here mode (d ∷ path) (flag before (d ∷ path))) (s ++ rest) (text s true ∷ w)
raw_law g sound mode d path s rest before w t r a ends more =
    let is : IsReadAs g.table (mode_of (d ∷ path)) (s ++ rest) rest s = record { tokens = tokens.slice s ∷ []; reads = (0, rest, raw_next g.table d path s rest w (mode_of (d ∷ path)) (raw_mode (d ∷ path) r) a ends, refl); texts = refl; joined = append-nil s } in
    let run : run_bytes s (here mode (d ∷ path) false) ≡ ran (texts true s) (here mode (d ∷ path) false) = rw r at (kept_here mode (d ∷ path) s t) in
    rw (raw_flag before d path r, sym (one_text s true w a.not_empty a.alone))
    (text_alone g.table sound.names (On (d ∷ path)) (mode_of (d ∷ path)) (is_mode (d ∷ path)) (text_reads (d ∷ path) t) s (s ++ rest) rest (here mode (d ∷ path) false) (here mode (d ∷ path) false) (texts true s) w refl is run more)

not_raw_name : (n : List ℕ) → holds_text n ≡ true → is_raw n ≡ false → is_rcdata n ≡ true
unfolding holds_text
not_raw_name n h r = rw r at h

-- the text of title or textarea
rcdata_law : (g : Spelling) → Sound g.table → PiecesAreNext g → (mode : InsertionMode) (d : Element) (path : List Element) (s piece rest : List ℕ) (before : Before) (w : List Event) → is_in_text (d ∷ path) ≡ true → is_in_raw (d ∷ path) ≡ false → TextAllowed (d ∷ path) s false w → begins_end_tag d.name rest ≡ true
    → TextSp g before (d ∷ path) s false piece rest → Builds g.table (here mode (d ∷ path) false) rest w → Builds g.table (here mode (d ∷ path) (flag before (d ∷ path))) (piece ++ rest) (text s false ∷ w)
rcdata_law g sound next mode d path s piece rest before w t r a ends sp more =
    let k = in_text_is d path t in
    let not_raw : is_raw d.name ≡ false = rw k.0 at r in
    let is_rc : is_rcdata d.name ≡ true = not_raw_name d.name k.1 not_raw in
    let mode_is : mode_of (d ∷ path) ≡ rcdata d.name = rw (k.0, is_rc) refl in
    let is : IsReadAs g.table (rcdata d.name) (piece ++ rest) rest (text_as_read before (d ∷ path) s) = next.element_texts before (d ∷ path) s piece rest a.utf8 k.0 is_rc ends sp in
    let run : run_bytes (text_as_read before (d ∷ path) s) (here mode (d ∷ path) (flag before (d ∷ path))) ≡ ran (texts false s) (here mode (d ∷ path) false) =
    ap (λ x. run_bytes x (here mode (d ∷ path) (flag before (d ∷ path)))) (read_text before (d ∷ path) s a.utf8) ∙ run_read mode (d ∷ path) (flag before (d ∷ path)) s a.not_empty ∙ (rw r at (kept_here mode (d ∷ path) s t)) in
    let m : IsMode (rcdata d.name) = subst IsMode mode_is (is_mode (d ∷ path)) in
    let reads : Reads (On (d ∷ path)) (rcdata d.name) = subst (Reads (On (d ∷ path))) mode_is (text_reads (d ∷ path) t) in
    rw (sym (one_text s false w a.not_empty a.alone))
    (text_alone g.table sound.names (On (d ∷ path)) (rcdata d.name) m reads (text_as_read before (d ∷ path) s) (piece ++ rest) rest (here mode (d ∷ path) (flag before (d ∷ path))) (here mode (d ∷ path) false) (texts false s) w refl is run more)

-- The text of an element that holds one text, before its end tag.
pub element_text : (g : Spelling) → Sound g.table → PiecesAreNext g → (mode : InsertionMode) (d : Element) (path : List Element) (s piece rest : List ℕ) (raw : Bool) (before : Before) (w : List Event) → is_in_text (d ∷ path) ≡ true → TextAllowed (d ∷ path) s raw w → begins_end_tag d.name rest ≡ true
    → TextSp g before (d ∷ path) s raw piece rest → Builds g.table (here mode (d ∷ path) false) rest w → Builds g.table (here mode (d ∷ path) (flag before (d ∷ path))) (piece ++ rest) (text s raw ∷ w)
element_text g sound next mode d path s piece rest true before w t a ends sp more = rw sp (raw_law g sound mode d path s rest before w t (sym a.kind) a ends more)
element_text g sound next mode d path s piece rest false before w t a ends sp more = rcdata_law g sound next mode d path s piece rest before w t (sym a.kind) a ends sp more
