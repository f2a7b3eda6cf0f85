-- What the tables say of tags that are left out.
use Rattle.std.proofs.Common.{◌≡◌, ℕ, Bool, true, false, cond, not, ◌&&◌, ◌||◌, List, [], ◌∷◌, bytes_eq, refl, sym, subst, inl, inr, ◌⊎◌}
use Rattle.std.specs.List.{list_all}
use Rattle.std.proofs.lemmas.Bool.{and_parts, false_from_ne_true, both_ways, not-true}
use Rattle.hm_base.specs.Walks.{Event, doctype, start, text, comment, end, begins_end, begins_start}
use Rattle.hm_elements.specs.Names.{words, is_among, html, head, body, table, colgroup, tbody, col, tr}
use Rattle.hm_elements.specs.Omission.{start_tag_required_after, before_rows, end_tag_optional_before, end_tag_optional_in, start_tag_optional_before, start_rows, up_names}
use Rattle.hm_elements.specs.Tables.{blocks, headings, holds_text, is_raw, is_rcdata, is_root, is_section, is_void, raw_names, rcdata_names, roots, sections, voids}
use Rattle.hm_elements.proofs.TableFacts.{start_cases}
use Rattle.hm_elements.proofs.TableTools.{entry_passes, same_bytes}
use Rattle.hm_elements.proofs.UpFacts.{left_open_holds}
use Rattle.hm_spelling_spec.specs.Omission.{begins_child_of, end_falls, end_goes, start_falls}
use Rattle.hm_graph_laws.specs.Units.{is_omission_noted}

abbrev pub begins_tag : List Event → Bool
begins_tag w = begins_start w || begins_end w

-- ---- starts that are left out

-- html, head or body, or an element that goes before a child
start_left_out : (frame : Bool) (n : List ℕ) (w : List Event) → start_falls frame n w ≡ true → (is_root n ≡ true) ⊎ (begins_child_of n w ≡ true)
unfolding start_falls is_root roots is_among
start_left_out frame n w h = by_names (bytes_eq n html) (bytes_eq n head) (bytes_eq n body) _ _ _ (begins_child_of n w) refl refl refl h
  where
    root_is : (m : List ℕ) → bytes_eq n m ≡ true → is_root m ≡ true → is_root n ≡ true
    root_is m e r = subst (λ x. is_root x ≡ true) (sym (same_bytes n m e)) r

    by_names : (a b d x y z v : Bool) → bytes_eq n html ≡ a → bytes_eq n head ≡ b → bytes_eq n body ≡ d → cond a x (cond b y (cond d z v)) ≡ true → (is_root n ≡ true) ⊎ (v ≡ true)
    by_names true b d x y z v ha hb hd k = inl (root_is html ha refl)
    by_names false true d x y z v ha hb hd k = inl (root_is head hb refl)
    by_names false false true x y z v ha hb hd k = inl (root_is body hd refl)
    by_names false false false x y z v ha hb hd k = inr k

-- it holds more than a text, and no line feed is dropped in it
abbrev is_open_name : List ℕ → Bool
is_open_name n = not (holds_text n) && not (is_among n (words "pre textarea"))

roots_open : (list_all is_open_name roots ≡ true) × (is_open_name colgroup ≡ true) × (is_open_name tbody ≡ true)
unfolding roots holds_text is_raw raw_names is_rcdata rcdata_names is_among
roots_open = (refl, refl, refl)

root_open : (n : List ℕ) → is_root n ≡ true → is_open_name n ≡ true
unfolding is_root
root_open n h = entry_passes is_open_name n roots roots_open.0 h

child_open : (n : List ℕ) (w : List Event) → begins_child_of n w ≡ true → is_open_name n ≡ true
child_open n [] h = absurd (cc)
child_open n (doctype legacy ∷ w) h = absurd (cc)
child_open n (text s raw ∷ w) h = absurd (cc)
child_open n (comment s ∷ w) h = absurd (cc)
child_open n (end m foreign ∷ w) h = absurd (cc)
child_open n (start m foreign attributes ∷ w) h = elim (start_cases n m (and_parts (not foreign) (start_tag_optional_before n m) h).1) [
  | inl (e, k) ↦ subst (λ x. is_open_name x ≡ true) (sym e) roots_open.1
  | inr (e, k) ↦ subst (λ x. is_open_name x ≡ true) (sym e) roots_open.2
]

pub record IsOpenName (n : List ℕ) : Type 0 where
  pub no_text : holds_text n ≡ false
  pub no_feed : is_among n (words "pre textarea") ≡ false

pub start_open : (frame : Bool) (n : List ℕ) (w : List Event) → start_falls frame n w ≡ true → IsOpenName n
start_open frame n w h = by_kind (start_left_out frame n w h)
  where
    apart : is_open_name n ≡ true → IsOpenName n
    apart k = let two = and_parts (not (holds_text n)) (not (is_among n (words "pre textarea"))) k in record { no_text = not-true (holds_text n) two.0; no_feed = not-true _ two.1 }

    by_kind : (is_root n ≡ true) ⊎ (begins_child_of n w ≡ true) → IsOpenName n
    by_kind (inl r) = apart (root_open n r)
    by_kind (inr c) = apart (child_open n w c)

-- ---- ends that are left out

frame_names : (is_omission_noted html ≡ false) × (is_omission_noted body ≡ false) × (is_omission_noted head ≡ false) × (is_omission_noted table ≡ false)
unfolding is_section sections is_among
frame_names = (refl, refl, refl, refl)

other_name : (n m : List ℕ) → is_omission_noted n ≡ true → is_omission_noted m ≡ false → bytes_eq n m ≡ false
other_name n m h k = false_from_ne_true (bytes_eq n m) (λ e. both_ways (is_omission_noted m) k (subst (λ x. is_omission_noted x ≡ true) (same_bytes n m e) h))

goes_tag : (n parent : List ℕ) (w : List Event) → end_goes n parent w ≡ true → begins_tag w ≡ true
goes_tag n parent [] h = absurd (cc)
goes_tag n parent (doctype legacy ∷ w) h = absurd (cc)
goes_tag n parent (text s raw ∷ w) h = absurd (cc)
goes_tag n parent (comment s ∷ w) h = absurd (cc)
goes_tag n parent (start m foreign attributes ∷ w) h = refl
goes_tag n parent (end m foreign ∷ w) h = refl

-- after an end of a section or of colgroup that is left out a tag follows
pub loose_goes : (n parent : List ℕ) (w : List Event) → is_omission_noted n ≡ true → end_falls n parent w ≡ true → begins_tag w ≡ true
unfolding end_falls
loose_goes n parent w l h = goes_tag n parent w (rw (other_name n html l frame_names.0, other_name n body l frame_names.1, other_name n head l frame_names.2) at h)

-- the end tag of table is always there
no_goes : (parent : List ℕ) (w : List Event) → end_goes table parent w ≡ false
unfolding end_tag_optional_before end_tag_optional_in before_rows up_names blocks headings sections is_among
no_goes parent [] = refl
no_goes parent (doctype legacy ∷ w) = refl
no_goes parent (text s raw ∷ w) = refl
no_goes parent (comment s ∷ w) = refl
no_goes parent (start m true attributes ∷ w) = refl
no_goes parent (start m false attributes ∷ w) = refl
no_goes parent (end m foreign ∷ w) = refl

pub table_stays : (parent : List ℕ) (w : List Event) → end_falls table parent w ≡ false
unfolding end_falls
table_stays parent w = no_goes parent w

three_open : (holds_text html ≡ false) × (holds_text body ≡ false) × (holds_text head ≡ false)
unfolding holds_text is_raw raw_names is_rcdata rcdata_names is_among
three_open = (refl, refl, refl)

goes_open : (n parent : List ℕ) (w : List Event) → end_goes n parent w ≡ true → holds_text n ≡ false
goes_open n parent [] h = absurd (cc)
goes_open n parent (doctype legacy ∷ w) h = absurd (cc)
goes_open n parent (text s raw ∷ w) h = absurd (cc)
goes_open n parent (comment s ∷ w) h = absurd (cc)
goes_open n parent (start m foreign attributes ∷ w) h = (left_open_holds n m (inl (and_parts (not foreign) (end_tag_optional_before n m) h).1)).no_text
goes_open n parent (end m foreign ∷ w) h = (left_open_holds n parent (inr h)).no_text

-- what holds one text has its end tag
pub end_open : (n parent : List ℕ) (w : List Event) → end_falls n parent w ≡ true → holds_text n ≡ false
unfolding end_falls
end_open n parent w h = by_names (bytes_eq n html) (bytes_eq n body) (bytes_eq n head) _ _ refl refl refl h
  where
    named : (m : List ℕ) → bytes_eq n m ≡ true → holds_text m ≡ false → holds_text n ≡ false
    named m e k = subst (λ x. holds_text x ≡ false) (sym (same_bytes n m e)) k

    by_names : (a b d x y : Bool) → bytes_eq n html ≡ a → bytes_eq n body ≡ b → bytes_eq n head ≡ d → cond (a || b) x (cond d y (end_goes n parent w)) ≡ true → holds_text n ≡ false
    by_names true b d x y ha hb hd k = named html ha three_open.0
    by_names false true d x y ha hb hd k = named body hb three_open.1
    by_names false false true x y ha hb hd k = named head hd three_open.2
    by_names false false false x y ha hb hd k = goes_open n parent w k

-- ---- void elements

abbrev is_plain_void : List ℕ → Bool
is_plain_void n = not (is_omission_noted n) && not (holds_text n)

voids_plain : (list_all is_plain_void voids ≡ true) × (is_void table ≡ false)
unfolding is_void voids is_section sections holds_text is_raw raw_names is_rcdata rcdata_names is_among
voids_plain = (refl, refl)

pub table_not_void : is_void table ≡ false
table_not_void = voids_plain.1

pub void_plain : (n : List ℕ) → is_void n ≡ true → (is_omission_noted n ≡ false) × (holds_text n ≡ false)
unfolding is_void
void_plain n h =
    let two = and_parts (not (is_omission_noted n)) (not (holds_text n)) (entry_passes is_plain_void n voids voids_plain.0 h) in
    (not-true (is_omission_noted n) two.0, not-true (holds_text n) two.1)

-- ---- what bars a start

pub bars_nothing : (n m : List ℕ) → is_omission_noted n ≡ false → start_tag_required_after n m ≡ false
unfolding start_tag_required_after
bars_nothing n m h = by_tests (is_section n) (bytes_eq n colgroup) (bytes_eq m tbody) (bytes_eq m colgroup) h
  where
    by_tests : (a b x y : Bool) → (a || b) ≡ false → ((x && a) || (y && b)) ≡ false
    by_tests true b x y k = absurd (cc)
    by_tests false true x y k = absurd (cc)
    by_tests false false true true k = refl
    by_tests false false true false k = refl
    by_tests false false false true k = refl
    by_tests false false false false k = refl

-- ---- a start after one that is left out

no_child : (w : List Event) → (begins_child_of col w ≡ false) × (begins_child_of tr w ≡ false)
unfolding start_tag_optional_before start_rows is_among
no_child [] = (refl, refl)
no_child (doctype legacy ∷ w) = (refl, refl)
no_child (text s raw ∷ w) = (refl, refl)
no_child (comment s ∷ w) = (refl, refl)
no_child (start m true attributes ∷ w) = (refl, refl)
no_child (start m false attributes ∷ w) = (refl, refl)
no_child (end m foreign ∷ w) = (refl, refl)

-- the start tag of such a child is always there
pub child_stays : (frame : Bool) (n k : List ℕ) (w : List Event) → start_tag_optional_before n k ≡ true → start_falls frame k w ≡ false
unfolding start_falls
child_stays frame n k w h = elim (start_cases n k h) [
  | inl (d, e) ↦ subst (λ x. start_falls frame x w ≡ false) (sym e) (no_child w).0
  | inr (d, e) ↦ subst (λ x. start_falls frame x w ≡ false) (sym e) (no_child w).1
]

-- a start that is left out, of another element than html, head and body, stands before the start of a child
pub before_child : (frame : Bool) (n : List ℕ) (w : List Event) → is_root n ≡ false → start_falls frame n w ≡ true → begins_child_of n w ≡ true
before_child frame n w other h = by_kind (start_left_out frame n w h)
  where
    by_kind : (is_root n ≡ true) ⊎ (begins_child_of n w ≡ true) → begins_child_of n w ≡ true
    by_kind (inl r) = absurd (both_ways (is_root n) other r)
    by_kind (inr c) = c
