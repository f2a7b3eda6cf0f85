-- What a mode says of the innermost element.
use Rattle.std.proofs.Common.{◌≡◌, ℕ, Bool, true, false, cond, ◌||◌, ◌&&◌, not, List, [], ◌∷◌, ◌++◌, length, bytes_eq, Some, refl}
use Rattle.std.proofs.lemmas.Bool.{not-true, both_ways}
use Rattle.std.specs.List.{list_all}
use Rattle.hm_base.specs.Bytes.{is_null, is_digit_of}
use Rattle.hm_base.specs.Forms.{is_small, is_tag_byte, is_tag_name}
use Rattle.hm_base.specs.Walks.{Element}
use Rattle.hm_elements.specs.Names.{is_among, script as script_name}
use Rattle.hm_elements.specs.Tables.{is_raw, raw_names, is_rcdata, rcdata_names, holds_text}
use Rattle.hm_elements.specs.Paths.{current, is_in_raw, is_in_text, is_in_blank}
use Rattle.hm_elements.specs.Settled.{raw_text_end, end_tag}
use Rattle.hm_elements.proofs.TableTools.{same_bytes, entry_passes}
use Rattle.hm_token_laws.specs.First.{Mode, ordinary, in_svg, rcdata, raw, script}
use Rattle.hm_token_laws.specs.Laws.{IsMode, reads_markup, reads_references, IsWhole, IsText}
use Rattle.hm_construction_laws.specs.Trees.{mode_of_name, mode_of}
use Rattle.hm_construction_laws.proofs.Texts.{RawPiece}
use Rattle.hm_construction_laws.proofs.Bytes.{text_not_blank}

-- ---- By name

rcdata_form : list_all is_tag_name rcdata_names ≡ true
unfolding is_tag_name is_small is_tag_byte is_digit_of rcdata_names
rcdata_form = refl

raw_form : list_all is_tag_name (raw_names ++ script_name ∷ []) ≡ true
unfolding is_tag_name is_small is_tag_byte is_digit_of raw_names
raw_form = refl

rcdata_no_raw : list_all (λ n. not (is_among n (raw_names ++ script_name ∷ []))) rcdata_names ≡ true
unfolding raw_names rcdata_names is_among
rcdata_no_raw = refl

abbrev mode_by : Bool → Bool → Bool → List ℕ → Mode
mode_by a b c n = cond a (rcdata n) (cond b script (cond c (raw n) ordinary))

is_mode_name : (n : List ℕ) → IsMode (mode_of_name n)
unfolding is_rcdata is_raw
is_mode_name n = by (is_among n rcdata_names) (bytes_eq n script_name) (is_among n (raw_names ++ script_name ∷ [])) refl refl
  where
    by : (a b c : Bool) → is_among n rcdata_names ≡ a → is_among n (raw_names ++ script_name ∷ []) ≡ c → IsMode (mode_by a b c n)
    by true b c ea ec = entry_passes is_tag_name n rcdata_names rcdata_form ea
    by false true c ea ec = tt
    by false false true ea ec = entry_passes is_tag_name n (raw_names ++ script_name ∷ []) raw_form ec
    by false false false ea ec = tt

rcdata_is_no_raw : (n : List ℕ) → is_rcdata n ≡ true → is_raw n ≡ false
unfolding is_rcdata is_raw
rcdata_is_no_raw n h = not-true (is_among n (raw_names ++ script_name ∷ [])) (entry_passes (λ m. not (is_among m (raw_names ++ script_name ∷ []))) n rcdata_names rcdata_no_raw h)

markup_name : (n : List ℕ) → reads_markup (mode_of_name n) ≡ true → holds_text n ≡ false
unfolding holds_text
markup_name n h = by (is_rcdata n) (bytes_eq n script_name) (is_raw n) h
  where
    by : (a b c : Bool) → reads_markup (mode_by a b c n) ≡ true → c || a ≡ false
    by true b c k = cc
    by false true c k = cc
    by false false true k = cc
    by false false false k = refl

references_name : (n : List ℕ) → reads_references (mode_of_name n) ≡ true → is_raw n ≡ false
references_name n h = by (is_rcdata n) (bytes_eq n script_name) (is_raw n) refl refl h
  where
    by : (a b c : Bool) → is_rcdata n ≡ a → is_raw n ≡ c → reads_references (mode_by a b c n) ≡ true → is_raw n ≡ false
    by true b c ea ec k = rcdata_is_no_raw n ea
    by false true c ea ec k = cc
    by false false true ea ec k = cc
    by false false false ea ec k = ec

-- the mode of a raw text
pub data RawMode (n : List ℕ) : Mode → Type 0 where
  of_script : n ≡ script_name → RawMode n script
  of_raw : bytes_eq n script_name ≡ false → RawMode n (raw n)

raw_mode_name : (n : List ℕ) → is_raw n ≡ true → RawMode n (mode_of_name n)
raw_mode_name n h = by (is_rcdata n) (bytes_eq n script_name) (is_raw n) refl refl refl
  where
    by : (a b c : Bool) → is_rcdata n ≡ a → bytes_eq n script_name ≡ b → is_raw n ≡ c → RawMode n (mode_by a b c n)
    by true b c ea eb ec = absurd (both_ways (is_raw n) (rcdata_is_no_raw n ea) h)
    by false true c ea eb ec = of_script (same_bytes n script_name eb)
    by false false true ea eb ec = of_raw eb
    by false false false ea eb ec = absurd (both_ways (is_raw n) ec h)

-- ---- By path

pub is_mode : (path : List Element) → IsMode (mode_of path)
unfolding is_rcdata rcdata_names is_raw raw_names is_among
is_mode [] = tt
is_mode (e ∷ path) = by e.foreign (is_mode_name e.name)
  where
    by : (f : Bool) → IsMode (mode_of_name e.name) → IsMode (cond f in_svg (mode_of_name e.name))
    by true m = tt
    by false m = m

pub markup_no_text : (path : List Element) → reads_markup (mode_of path) ≡ true → is_in_text path ≡ false
markup_no_text [] h = refl
markup_no_text (e ∷ path) h = by e.foreign h
  where
    by : (f : Bool) → reads_markup (cond f in_svg (mode_of_name e.name)) ≡ true → not f && holds_text e.name ≡ false
    by true k = refl
    by false k = markup_name e.name k

pub references_no_raw : (path : List Element) → reads_references (mode_of path) ≡ true → is_in_raw path ≡ false
references_no_raw [] h = refl
references_no_raw (e ∷ path) h = by e.foreign h
  where
    by : (f : Bool) → reads_references (cond f in_svg (mode_of_name e.name)) ≡ true → not f && is_raw e.name ≡ false
    by true k = refl
    by false k = references_name e.name k

pub raw_mode : (path : List Element) → is_in_raw path ≡ true → RawMode (current path) (mode_of path)
raw_mode [] h = cc
raw_mode (e ∷ path) h = by e.foreign h
  where
    by : (f : Bool) → not f && is_raw e.name ≡ true → RawMode e.name (cond f in_svg (mode_of_name e.name))
    by true k = cc
    by false k = raw_mode_name e.name k

-- a raw text that is read stands where the end tag follows
raw_whole : (n : List ℕ) (mode : Mode) (s : List ℕ) → RawMode n mode → IsWhole mode s → (is_null s ≡ false) × (raw_text_end n (s ++ end_tag n) ≡ Some (length s))
raw_whole n mode s (of_script e) w = (w.0, rw e w.1)
raw_whole n mode s (of_raw e) w = (w.0, rw e w.1)

pub in_text : (path : List Element) → is_in_raw path ≡ true → is_in_text path ≡ true
unfolding holds_text
in_text [] h = cc
in_text (e ∷ path) h = by e.foreign (is_raw e.name) h
  where
    by : (f r : Bool) → not f && r ≡ true → not f && (r || is_rcdata e.name) ≡ true
    by true r k = cc
    by false true k = refl
    by false false k = cc

pub raw_piece : (path : List Element) (s : List ℕ) → is_in_raw path ≡ true → IsText (mode_of path) s → RawPiece path s
raw_piece path s h t =
    let w = raw_whole (current path) (mode_of path) s (raw_mode path h) t.whole in
    record {
      raw = h;
      piece = record { not_empty = w.0; no_zero = t.no_zero; blank = λ k. absurd (both_ways (is_in_blank path) (text_not_blank path (in_text path h)) k); utf8 = t.utf8 };
      no_return = t.no_return;
      ends = w.1;
    }
