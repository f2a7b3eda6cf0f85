-- The states in which a spelling is read, their modes, and what follows from a tag that is left out.
use Rattle.std.proofs.Common.{◌≡◌, ℕ, Bool, true, false, cond, not, ◌||◌, List, [], ◌∷◌, bytes_eq, refl}
use Rattle.std.proofs.lemmas.Bool.{and_parts, not-true, both_ways}
use Rattle.hm_base.specs.Bytes.{is_digit_of}
use Rattle.hm_base.specs.Forms.{is_small, is_tag_byte, is_tag_name}
use Rattle.hm_base.specs.Walks.{Attribute, Event, Element, begins_comment}
use Rattle.hm_base.specs.declared.plain.SpellRules.{SpellRules}
use Rattle.hm_elements.specs.Names.{is_among, html, head, body, p, script}
use Rattle.hm_elements.specs.Tables.{voids, is_void, is_raw, raw_names, is_rcdata, rcdata_names, holds_text}
use Rattle.hm_elements.specs.Paths.{html_element, current, is_in_svg}
use Rattle.hm_elements.proofs.TableTools.{same_bytes}
use Rattle.hm_token_laws.specs.First.{ordinary, rcdata, raw, script as script_mode}
use Rattle.hm_refs.specs.Names.{Entry}
use Rattle.hm_spelling_spec.specs.Omission.{LeftOut, may_omit_start, may_omit_end, start_falls, end_falls, bars, has_none}
use Rattle.hm_construction_laws.specs.Steps.{InsertionMode, Construction, under_html, under_head, under_body}
use Rattle.hm_construction_laws.specs.Trees.{mode_of}
use Rattle.hm_round_trip_laws.proofs.Ahead.{Ahead, Begins}

-- a state with no comment after body or html
abbrev pub here : InsertionMode → List Element → Bool → Construction
here mode path drops = record { insertion_mode = mode; path = path; drops_line_feed = drops; comments_after_body = []; comments_after_html = [] }

-- something of this kind is first
abbrev pub First : List Entry → (Ahead → Type 0) → List ℕ → Type 0
First t P b = (x : Ahead) × P x × Begins t b x

-- ---- Modes

script_is_raw : is_raw script ≡ true
unfolding is_raw raw_names is_among
script_is_raw = refl

pub plain_mode : (path : List Element) → is_in_svg path ≡ false → holds_text (current path) ≡ false → mode_of path ≡ ordinary
unfolding holds_text
plain_mode path html h = rw html (by (is_rcdata (current path)) (bytes_eq (current path) script) (is_raw (current path)) refl refl h)
  where
    by : (a b c : Bool) → bytes_eq (current path) script ≡ b → is_raw (current path) ≡ c → c || a ≡ false → cond a (rcdata (current path)) (cond b script_mode (cond c (raw (current path)) ordinary)) ≡ ordinary
    by a b true eb ec k = cc
    by true b false eb ec k = cc
    by false true false eb ec k = let no : is_raw script ≡ false = rw (same_bytes (current path) script eb) at ec in absurd (both_ways (is_raw script) no script_is_raw)
    by false false false eb ec k = refl

pub frame_modes : (mode_of [] ≡ ordinary) × ((mode_of under_html ≡ ordinary) × ((mode_of under_head ≡ ordinary) × ((mode_of under_body ≡ ordinary) × (mode_of (html_element p ∷ under_body) ≡ ordinary))))
unfolding is_rcdata rcdata_names is_raw raw_names is_among
frame_modes = (refl, (refl, (refl, (refl, refl))))

-- ---- Tags that are left out

pub record StartOmitted (r : SpellRules) (before : LeftOut) (n : List ℕ) (foreign : Bool) (attributes : List Attribute) (w : List Event) : Type 0 where
  pub is_html : foreign ≡ false
  pub plain : attributes ≡ []
  pub free : bars before n ≡ false
  pub falls : start_falls r.frame n w ≡ true

none_is : (attributes : List Attribute) → has_none attributes ≡ true → attributes ≡ []
none_is [] h = refl
none_is (a ∷ attributes) h = cc

pub start_omitted : (r : SpellRules) (before : LeftOut) (n : List ℕ) (foreign : Bool) (attributes : List Attribute) (w : List Event) → may_omit_start r before n foreign attributes w ≡ true → StartOmitted r before n foreign attributes w
unfolding may_omit_start
start_omitted r before n foreign attributes w h =
    let one = and_parts r.omit _ h in
    let two = and_parts (not foreign) _ one.1 in
    let three = and_parts (has_none attributes) _ two.1 in
    let four = and_parts (not (bars before n)) _ three.1 in
    record { is_html = not-true foreign two.0; plain = none_is attributes three.0; free = not-true (bars before n) four.0; falls = four.1 }

pub end_omitted_is : (r : SpellRules) (n : List ℕ) (foreign : Bool) (path : List Element) (w : List Event) → may_omit_end r n foreign path w ≡ true → (foreign ≡ false) × (end_falls n (current path) w ≡ true)
unfolding may_omit_end
end_omitted_is r n foreign path w h =
    let one = and_parts r.omit _ h in
    let two = and_parts (not foreign) _ one.1 in
    (not-true foreign two.0, two.1)

pub root_end_falls : (n parent : List ℕ) (w : List Event) → bytes_eq n html || bytes_eq n body ≡ true → end_falls n parent w ≡ true → begins_comment w ≡ false
unfolding end_falls
root_end_falls n parent w root h = not-true (begins_comment w) (rw root at h)

pub frame_not_void : (is_void html ≡ false) × ((is_void head ≡ false) × (is_void body ≡ false))
unfolding is_void voids is_among
frame_not_void = (refl, (refl, refl))

pub frame_names : (is_tag_name html ≡ true) × ((is_tag_name head ≡ true) × (is_tag_name body ≡ true))
unfolding is_tag_name is_small is_tag_byte is_digit_of
frame_names = (refl, (refl, refl))
