-- Inside head: metadata, noscript with metadata in it, whitespace and comments.
use Rattle.std.proofs.Common.{◌≡◌, ℕ, Bool, true, false, not, ◌&&◌, ◌||◌, List, [], ◌∷◌, bytes_eq, refl, sym, ◌∙◌, ap, inl, inr}
use Rattle.std.proofs.lemmas.Bool.{or_cases, both_ways, false_from_ne_true}
use Rattle.std.specs.List.{list_all}
use Rattle.hm_base.specs.Bytes.{is_digit_of}
use Rattle.hm_base.specs.Forms.{is_small, is_tag_byte, is_tag_name}
use Rattle.hm_base.specs.Walks.{Attribute, Event, doctype, start, text, comment, end, Element}
use Rattle.hm_elements.specs.Names.{words, is_among, head, noscript, svg, table}
use Rattle.hm_elements.specs.Tables.{voids, is_void, is_refused, is_raw, raw_names, is_rcdata, rcdata_names, holds_text, blocks, headings, sections, roots, is_root}
use Rattle.hm_elements.specs.Nesting.{children, noscript_children, may_stand}
use Rattle.hm_elements.specs.Omission.{before_rows, end_tag_optional_before, up_names, up_of_p, end_tag_optional_in}
use Rattle.hm_elements.specs.Paths.{html_element, current, is_in_svg, is_in_text, is_in_blank, blank_parents, stands_on}
use Rattle.hm_elements.specs.Places.{ElementAllowed}
use Rattle.hm_elements.proofs.TableTools.{same_bytes, entry_passes, eq_self}
use Rattle.hm_tree.specs.Tokens as tokens
use Rattle.hm_spelling_spec.specs.Omission.{start_falls, end_goes}
use Rattle.hm_construction_laws.specs.Steps.{in_head, after_head, went, under_html, under_head, drops_after, entered, end_current, step, step_start, step_end}
use Rattle.hm_round_trip_laws.proofs.Frame.{here}
use Rattle.hm_round_trip_laws.proofs.AfterOmittedHead.{stands_in_head}
use Rattle.hm_round_trip_laws.proofs.BodySteps.{stands_in, NoRoot}
use Rattle.hm_round_trip_laws.proofs.Closing.{html_part, falls_child, child_in_table}

-- ---- Paths in head

-- head, or noscript in it
pub data Outer : List Element → Type 0 where
  at_head : Outer under_head
  at_noscript : Outer (html_element noscript ∷ under_head)

-- maybe an element that holds a text in one of these
pub data InHead : List Element → Type 0 where
  around : (path : List Element) → Outer path → InHead path
  in_element : (n : List ℕ) (path : List Element) → holds_text n ≡ true → is_tag_name n ≡ true → Outer path → InHead (html_element n ∷ path)

-- an element of HTML that holds whitespace and no text of its own
pub record PlainPath (path : List Element) : Type 0 where
  pub outside : is_in_svg path ≡ false
  pub no_text : is_in_text path ≡ false
  pub blank : is_in_blank path ≡ true

pub outer_is_plain : (path : List Element) → Outer path → PlainPath path
unfolding holds_text is_raw raw_names is_rcdata rcdata_names is_in_blank blank_parents is_among
outer_is_plain path at_head = record { outside = refl; no_text = refl; blank = refl }
outer_is_plain path at_noscript = record { outside = refl; no_text = refl; blank = refl }

pub noscript_name : is_tag_name noscript ≡ true
unfolding is_tag_name is_small is_tag_byte is_digit_of
noscript_name = refl

abbrev is_kept : List ℕ → Bool
is_kept n = is_void n || holds_text n

head_children : list_all (λ n. is_kept n || bytes_eq n noscript) (words "base link meta noscript script style title") ≡ true
unfolding is_void voids holds_text is_raw raw_names is_rcdata rcdata_names is_among
head_children = refl

inner_children : list_all is_kept noscript_children ≡ true
unfolding noscript_children is_void voids holds_text is_raw raw_names is_rcdata rcdata_names is_among
inner_children = refl

stands_in_noscript : (n : List ℕ) → stands_on n (html_element noscript ∷ under_head) ≡ is_among n noscript_children
unfolding may_stand
stands_in_noscript n = refl

void_or_text : (n : List ℕ) → is_kept n ≡ true → is_void n ≡ false → holds_text n ≡ true
void_or_text n h v = rw v at h

-- a child that isn't void stays open
pub child_path : (n : List ℕ) (path : List Element) → Outer path → stands_on n path ≡ true → is_tag_name n ≡ true → is_void n ≡ false → InHead (html_element n ∷ path)
child_path n path at_head h named v =
    let k : (is_void n || holds_text n) || bytes_eq n noscript ≡ true = entry_passes (λ m. is_kept m || bytes_eq m noscript) n (words "base link meta noscript script style title") head_children (rw (stands_in_head n) at h) in
    elim (or_cases (is_void n || holds_text n) (bytes_eq n noscript) k) [
      | inl a ↦ in_element n under_head (void_or_text n a v) named at_head
      | inr b ↦ rw (same_bytes n noscript b) (around (html_element noscript ∷ under_head) at_noscript)
    ]
child_path n path at_noscript h named v =
    let k : is_kept n ≡ true = entry_passes is_kept n noscript_children inner_children (rw (stands_in_noscript n) at h) in
    in_element n (html_element noscript ∷ under_head) (void_or_text n k v) named at_noscript

no_svg : (path : List Element) → Outer path → stands_on svg path ≡ false
unfolding may_stand children noscript_children is_among
no_svg path at_head = refl
no_svg path at_noscript = refl

-- an element of head is one of HTML
pub html_child : (n : List ℕ) (foreign : Bool) (path : List Element) (w : List Event) → Outer path → ElementAllowed n foreign path w → foreign ≡ false
html_child n foreign path w o a =
    let h = html_part n foreign path w (outer_is_plain path o).outside a in
    false_from_ne_true foreign (λ e. let is : n ≡ svg = same_bytes n svg (sym h.kind ∙ e) in both_ways (stands_on n path) (rw is (no_svg path o)) h.stands)

no_table : (path : List Element) → Outer path → current path ≡ table → ⊥
no_table path at_head e = both_ways (bytes_eq head table) refl (ap (λ (n : List ℕ). bytes_eq n table) e)
no_table path at_noscript e = both_ways (bytes_eq noscript table) refl (ap (λ (n : List ℕ). bytes_eq n table) e)

-- its start tag isn't left out
pub no_omitted_start : (frame : Bool) (n : List ℕ) (path : List Element) (w : List Event) → Outer path → stands_on n path ≡ true → start_falls frame n w ≡ true → ⊥
no_omitted_start frame n path w o stands falls = no_table path o (child_in_table n path w stands (falls_child frame n w (stands_in n path stands).0.is_no_root falls))

-- ---- Start tags

pub head_opens : (n : List ℕ) (attributes : List Attribute) (slash : Bool) (path : List Element) (drops : Bool) → Outer path → stands_on n path ≡ true → is_refused n ≡ false → NoRoot n
    → step (here in_head path drops) (tokens.start_tag n attributes slash) ≡ entered attributes false (here in_head path false) (html_element n ∷ path)
unfolding step step_start
head_opens n attributes slash path drops at_head stands known root = rw (known, root.no_html, root.no_head, root.no_body, stands) refl
head_opens n attributes slash path drops at_noscript stands known root = let k = stands_in_noscript n in let child : is_among n noscript_children ≡ true = rw k at stands in rw (known, root.no_html, root.no_head, root.no_body, child) refl

pub void_entered : (n : List ℕ) (attributes : List Attribute) (path : List Element) → is_void n ≡ true → entered attributes false (here in_head path false) (html_element n ∷ path) ≡ went (start n false attributes ∷ end n false ∷ []) (here in_head path false)
void_entered n attributes path h = rw h refl

pub stays_entered : (n : List ℕ) (attributes : List Attribute) (path : List Element) → is_void n ≡ false → entered attributes false (here in_head path false) (html_element n ∷ path) ≡ went (start n false attributes ∷ []) (here in_head (html_element n ∷ path) (drops_after (html_element n ∷ path)))
stays_entered n attributes path h = rw h refl

-- ---- End tags

current_ends : (e : Element) (path : List Element) → end_current e.name (here in_head (e ∷ path) false) (e ∷ path) ≡ went (end e.name e.foreign ∷ []) (here in_head path false)
current_ends e path = rw (eq_self e.name) refl

pub text_ended : (e : Element) (path : List Element) (drops : Bool) → is_in_text (e ∷ path) ≡ true → step (here in_head (e ∷ path) drops) (tokens.end_tag e.name) ≡ went (end e.name e.foreign ∷ []) (here in_head path false)
unfolding step step_end
text_ended e path drops t = rw t (current_ends e path)

pub noscript_ended : (drops : Bool) → step (here in_head (html_element noscript ∷ under_head) drops) (tokens.end_tag noscript) ≡ went (end noscript false ∷ []) (here in_head under_head false)
unfolding step step_end holds_text is_raw raw_names is_rcdata rcdata_names is_among
noscript_ended drops = refl

pub head_ended : (drops : Bool) → step (here in_head under_head drops) (tokens.end_tag head) ≡ went (end head false ∷ []) (here after_head under_html false)
unfolding step step_end holds_text is_raw raw_names is_rcdata rcdata_names is_among
head_ended drops = refl

pub comment_in_head : (path : List Element) (drops : Bool) (s : List ℕ) → step (here in_head path drops) (tokens.comment s) ≡ went (comment s ∷ []) (here in_head path false)
unfolding step
comment_in_head path drops s = refl

-- ---- The end tag of noscript isn't left out

pub noscript_goes : (w : List Event) → end_goes noscript head w ≡ true → ⊥
unfolding end_tag_optional_before before_rows end_tag_optional_in up_names up_of_p blocks headings sections is_among
noscript_goes [] h = cc
noscript_goes (doctype legacy ∷ w) h = cc
noscript_goes (text s raw ∷ w) h = cc
noscript_goes (comment s ∷ w) h = cc
noscript_goes (start m foreign attributes ∷ w) h = by foreign h
  where
    by : (f : Bool) → not f && false ≡ true → ⊥
    by true k = cc
    by false k = cc
noscript_goes (end m foreign ∷ w) h = cc

pub noscript_facts : (is_root noscript ≡ false) × (is_void noscript ≡ false)
unfolding is_root roots is_void voids is_among
noscript_facts = (refl, refl)
