-- Elements that are made before another opens may stand where they are made.
use Rattle.std.proofs.Common.{◌≡◌, ℕ, Bool, true, false, cond, ◌&&◌, not, if◌then◌else◌, List, [], ◌∷◌, ◌++◌, map, bytes_eq, refl, sym, inr, Option, Some, None}
use Rattle.std.proofs.lemmas.Bool.{and_parts, not-true, both_ways}
use Rattle.std.specs.List.{list_all}
use Rattle.hm_base.specs.Bytes.{is_digit_of}
use Rattle.hm_base.specs.Forms.{is_small, is_tag_byte, is_tag_name}
use Rattle.hm_base.specs.Walks.{Event, start, Element, pushes}
use Rattle.hm_elements.specs.Names.{is_among, find, is_among_found, noscript, table, tbody, tr, td, th, col, colgroup, svg}
use Rattle.hm_elements.specs.Tables.{is_void, voids, is_refused, refused_names, is_section, sections, is_heading, headings, is_unnested, unnested_names, closes_p, paragraph_ends, blocks, parts}
use Rattle.hm_elements.specs.Nesting.{may_stand, children, stands_by_children, is_closed_by_start, closed_by_start_rows, made_under}
use Rattle.hm_elements.specs.Paths.{html_element, current_name, is_in_svg, stands_on, head_yields, is_block_in_p, is_nested, is_deep}
use Rattle.hm_elements.specs.Places.{StartAllowed, SettledBody}
use Rattle.hm_elements.proofs.TableTools.{same_bytes, entry_passes}
use Rattle.hm_elements.proofs.TableFacts.{outer_is_not_deep}
use Rattle.hm_construction_laws.specs.Steps.{starts}
use Rattle.hm_construction_laws.proofs.Standing.{BodyPath, inner, no_attributes}

-- what is settled after events is settled with them before it
abbrev pub OpensTo : List Element → List Event → List Element → Type 0
OpensTo path es path' = (w : List Event) → SettledBody path' w → SettledBody path (pushes es w)

abbrev part_names : List (List ℕ)
part_names = tr ∷ td ∷ th ∷ col ∷ tbody ∷ colgroup ∷ []

abbrev is_plain_part : List ℕ → Bool
is_plain_part m = not (closes_p m) && (not (is_unnested m) && not (is_heading m))

parts_plain : list_all is_plain_part part_names ≡ true
unfolding closes_p paragraph_ends blocks is_unnested unnested_names is_heading headings is_among
parts_plain = refl

plain_part : (n : List ℕ) → is_among n part_names ≡ true → (path : List Element) → (is_block_in_p n path ≡ false) × (is_nested n path ≡ false)
unfolding is_block_in_p is_nested
plain_part n h path =
    let both = and_parts (not (closes_p n)) (not (is_unnested n) && not (is_heading n)) (entry_passes is_plain_part n part_names parts_plain h) in
    let two = and_parts (not (is_unnested n)) (not (is_heading n)) both.1 in
    let x : closes_p n ≡ false = not-true (closes_p n) both.0 in
    let y : is_unnested n ≡ false = not-true (is_unnested n) two.0 in
    let z : is_heading n ≡ false = not-true (is_heading n) two.1 in
    (rw x refl, rw (y, z) refl)

-- what is made, by parent and child
pub data Made : List ℕ → List ℕ → List (List ℕ) → Type 0 where
  none_made : (t n : List ℕ) → Made t n []
  a_tbody : Made table tr (tbody ∷ [])
  two_made : (n : List ℕ) → is_among n (td ∷ th ∷ []) ≡ true → Made table n (tr ∷ tbody ∷ [])
  a_colgroup : Made table col (colgroup ∷ [])
  a_tr : (t n : List ℕ) → is_section t ≡ true → is_among n (td ∷ th ∷ []) ≡ true → Made t n (tr ∷ [])

pub made_cases : (t n : List ℕ) → Made t n (made_under t n)
unfolding made_under
made_cases t n = by_table (bytes_eq t table) refl
  where
    by_cell : (c : Bool) → is_section t && is_among n (td ∷ th ∷ []) ≡ c → Made t n (cond c (tr ∷ []) [])
    by_cell false e = none_made t n
    by_cell true e = let both = and_parts (is_section t) (is_among n (td ∷ th ∷ [])) e in a_tr t n both.0 both.1

    by_name : t ≡ table → (c d e : Bool) → bytes_eq n tr ≡ c → is_among n (td ∷ th ∷ []) ≡ d → bytes_eq n col ≡ e → Made t n (cond c (tbody ∷ []) (cond d (tr ∷ tbody ∷ []) (cond e (colgroup ∷ []) [])))
    by_name at true d e x y z = rw (at, same_bytes n tr x) a_tbody
    by_name at false true e x y z = rw at (two_made n y)
    by_name at false false true x y z = rw (at, same_bytes n col z) a_colgroup
    by_name at false false false x y z = none_made t n

    by_table : (c : Bool) → bytes_eq t table ≡ c → Made t n (cond c (if bytes_eq n tr then tbody ∷ [] else if is_among n (td ∷ th ∷ []) then tr ∷ tbody ∷ [] else if bytes_eq n col then colgroup ∷ [] else []) (if is_section t && is_among n (td ∷ th ∷ []) then tr ∷ [] else []))
    by_table true e = by_name (same_bytes t table e) (bytes_eq n tr) (is_among n (td ∷ th ∷ [])) (bytes_eq n col) refl refl refl
    by_table false e = by_cell (is_section t && is_among n (td ∷ th ∷ [])) refl

part_voids : (is_void tr ≡ false) × ((is_void tbody ≡ false) × (is_void colgroup ≡ false))
unfolding is_void voids is_among
part_voids = (refl, (refl, refl))

part_known : (is_refused tr ≡ false) × ((is_refused tbody ≡ false) × (is_refused colgroup ≡ false))
unfolding is_refused refused_names is_among
part_known = (refl, (refl, refl))

part_in_form : (is_tag_name tr ≡ true) × ((is_tag_name tbody ≡ true) × (is_tag_name colgroup ≡ true))
unfolding is_tag_name is_small is_tag_byte is_digit_of
part_in_form = (refl, (refl, refl))

part_among : (is_among tr part_names ≡ true) × ((is_among tbody part_names ≡ true) × (is_among colgroup part_names ≡ true))
unfolding is_among
part_among = (refl, (refl, refl))

-- an element of HTML that is made in one of HTML
made_allowed : (n : List ℕ) (path : List Element) (w : List Event) → bytes_eq n svg ≡ false → is_tag_name n ≡ true → is_refused n ≡ false → is_void n ≡ false → is_among n part_names ≡ true
    → is_in_svg path ≡ false → stands_on n path ≡ true → head_yields path n ≡ false → is_deep (html_element n ∷ path) ≡ false → StartAllowed n false [] path w
made_allowed n path w no_svg form known no_void part outside stands kept shallow =
    let f = plain_part n part path in
    record {
      element = inr (outside, record { kind = sym no_svg; name = form; known = known; stands = stands; kept = kept; no_block_in_p = f.0; not_nested = f.1; void_is_closed = λ h. absurd (both_ways (is_void n) no_void h) });
      attributes_allowed = no_attributes;
      not_deep = shallow;
    }

in_table : (path : List Element) → (stands_on tbody (html_element table ∷ path) ≡ true) × (head_yields (html_element table ∷ path) tbody ≡ false) × (stands_on colgroup (html_element table ∷ path) ≡ true) × (head_yields (html_element table ∷ path) colgroup ≡ false)
unfolding may_stand children is_closed_by_start closed_by_start_rows is_among
in_table path = (refl, refl, refl, refl)

tbody_allowed : (path : List Element) (w : List Event) → is_deep (html_element tbody ∷ html_element table ∷ path) ≡ false → StartAllowed tbody false [] (html_element table ∷ path) w
tbody_allowed path w shallow = let f = in_table path in made_allowed tbody (html_element table ∷ path) w refl part_in_form.1.0 part_known.1.0 part_voids.1.0 part_among.1.0 refl f.0 f.1 shallow

colgroup_allowed : (path : List Element) (w : List Event) → is_deep (html_element colgroup ∷ html_element table ∷ path) ≡ false → StartAllowed colgroup false [] (html_element table ∷ path) w
colgroup_allowed path w shallow = let f = in_table path in made_allowed colgroup (html_element table ∷ path) w refl part_in_form.1.1 part_known.1.1 part_voids.1.1 part_among.1.1 refl f.2 f.3 shallow

abbrev holds_row : List ℕ → Bool
holds_row t = not (is_closed_by_start t tr) && (not (bytes_eq t noscript) && is_among_found tr (find t children))

sections_hold : list_all holds_row sections ≡ true
unfolding is_closed_by_start closed_by_start_rows sections children parts is_among
sections_hold = refl

found_stands : (n t : List ℕ) (g : Option (List ℕ)) (o : Option (List (List ℕ))) → is_among_found n o ≡ true → stands_by_children o n t g ≡ true
found_stands n t g None h = cc
found_stands n t g (Some names) h = h

row_stands : (t : List ℕ) (path : List Element) → is_section t ≡ true → (stands_on tr (html_element t ∷ path) ≡ true) × (is_closed_by_start t tr ≡ false)
unfolding is_section may_stand
row_stands t path h =
    let both = and_parts (not (is_closed_by_start t tr)) (not (bytes_eq t noscript) && is_among_found tr (find t children)) (entry_passes holds_row t sections sections_hold h) in
    let two = and_parts (not (bytes_eq t noscript)) (is_among_found tr (find t children)) both.1 in
    (rw (not-true (bytes_eq t noscript) two.0) (found_stands tr t (current_name path) (find t children) two.1), not-true (is_closed_by_start t tr) both.0)

tr_allowed : (t : List ℕ) (path : List Element) (w : List Event) → is_section t ≡ true → is_deep (html_element tr ∷ html_element t ∷ path) ≡ false → StartAllowed tr false [] (html_element t ∷ path) w
tr_allowed t path w h shallow = let f = row_stands t path h in made_allowed tr (html_element t ∷ path) w refl part_in_form.0 part_known.0 part_voids.0 part_among.0 refl f.0 f.1 shallow

tbody_is_section : is_section tbody ≡ true
unfolding is_section sections is_among
tbody_is_section = refl

-- the made elements lead to the path on which the element opens
pub made_leads : (t n : List ℕ) (made : List (List ℕ)) (path : List Element) → Made t n made → is_deep (map html_element made ++ html_element t ∷ path) ≡ false → OpensTo (html_element t ∷ path) (starts (map html_element made)) (map html_element made ++ html_element t ∷ path)
made_leads t n made path (none_made s m) shallow w h = h
made_leads t n made path a_tbody shallow w h = (tbody_allowed path w shallow, h)
made_leads t n made path (two_made m c) shallow w h =
    (tbody_allowed path (start tr false [] ∷ w) (outer_is_not_deep (html_element tr) (html_element tbody ∷ html_element table ∷ path) shallow), (tr_allowed tbody (html_element table ∷ path) w tbody_is_section shallow, h))
made_leads t n made path a_colgroup shallow w h = (colgroup_allowed path w shallow, h)
made_leads t n made path (a_tr s m section c) shallow w h = (tr_allowed s path w section shallow, h)

kept_by_made : (is_closed_by_start tbody tr ≡ false) × (is_closed_by_start colgroup col ≡ false)
unfolding is_closed_by_start closed_by_start_rows parts is_among
kept_by_made = (refl, refl)

cells_kept : list_all (λ n. not (is_closed_by_start tr n) && is_among n part_names) (td ∷ th ∷ []) ≡ true
unfolding is_closed_by_start closed_by_start_rows parts is_among
cells_kept = refl

cell_kept : (n : List ℕ) → is_among n (td ∷ th ∷ []) ≡ true → (is_closed_by_start tr n ≡ false) × (is_among n part_names ≡ true)
cell_kept n h =
    let two = and_parts (not (is_closed_by_start tr n)) (is_among n part_names) (entry_passes (λ m. not (is_closed_by_start tr m) && is_among m part_names) n (td ∷ th ∷ []) cells_kept h) in
    (not-true (is_closed_by_start tr n) two.0, two.1)

more_parts : (is_among tr part_names ≡ true) × (is_among col part_names ≡ true)
unfolding is_among
more_parts = (refl, refl)

-- what is true of the element on the path to which it comes is true after the made elements
pub record Free (n : List ℕ) (path : List Element) : Type 0 where
  pub kept : head_yields path n ≡ false
  pub no_block : is_block_in_p n path ≡ false
  pub not_nested : is_nested n path ≡ false
  pub outside : is_in_svg path ≡ false

part_free : (n : List ℕ) (path : List Element) → is_among n part_names ≡ true → head_yields path n ≡ false → is_in_svg path ≡ false → Free n path
part_free n path part kept outside = let f = plain_part n part path in record { kept = kept; no_block = f.0; not_nested = f.1; outside = outside }

pub made_free : (t n : List ℕ) (made : List (List ℕ)) (path : List Element) → Made t n made → Free n (html_element t ∷ path) → Free n (map html_element made ++ html_element t ∷ path)
made_free t n made path (none_made s m) f = f
made_free t n made path a_tbody f = part_free tr (html_element tbody ∷ html_element table ∷ path) more_parts.0 kept_by_made.0 refl
made_free t n made path (two_made m c) f = let k = cell_kept m c in part_free m (html_element tr ∷ html_element tbody ∷ html_element table ∷ path) k.1 k.0 refl
made_free t n made path a_colgroup f = part_free col (html_element colgroup ∷ html_element table ∷ path) more_parts.1 kept_by_made.1 refl
made_free t n made path (a_tr s m section c) f = let k = cell_kept m c in part_free m (html_element tr ∷ html_element s ∷ path) k.1 k.0 refl

-- and the path stays one of body
pub made_path : (t n : List ℕ) (made : List (List ℕ)) (path : List Element) → Made t n made → BodyPath (html_element t ∷ path) → BodyPath (map html_element made ++ html_element t ∷ path)
made_path t n made path (none_made s m) b = b
made_path t n made path a_tbody b = inner (html_element tbody) (html_element table ∷ path) refl (λ h. refl) b
made_path t n made path (two_made m c) b = inner (html_element tr) (html_element tbody ∷ html_element table ∷ path) refl (λ h. refl) (inner (html_element tbody) (html_element table ∷ path) refl (λ h. refl) b)
made_path t n made path a_colgroup b = inner (html_element colgroup) (html_element table ∷ path) refl (λ h. refl) b
made_path t n made path (a_tr s m section c) b = inner (html_element tr) (html_element s ∷ path) refl (λ h. refl) b
