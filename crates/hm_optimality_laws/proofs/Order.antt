-- What ways (paths through the layered graph) need from the events of a walk; settled walks have it.
use Rattle.std.proofs.Common.{◌≡◌, ℕ, Bool, true, false, cond, not, List, [], ◌∷◌, map, bytes_eq, refl, sym, ap, ◌∙◌, subst, inl, inr, ◌⊎◌, Option, Some, None}
use Rattle.std.proofs.lemmas.Bool.{and_parts, both_ways, not-true, or_cases}
use Rattle.hm_graph_laws.specs.AttributeLaws.{AreLow}
use Rattle.hm_base.specs.Bytes.{lower}
use Rattle.hm_base.specs.Walks.{Attribute, Event, doctype, start, text, comment, end, Element, path_after_event, begins_text, is_same_element, ends_match}
use Rattle.hm_elements.specs.Names.{words, is_among, html, head, body, table, colgroup}
use Rattle.hm_elements.specs.Paths.{current, current_name, is_in_raw, is_in_text, outer, stands_on}
use Rattle.hm_elements.specs.Places.{ElementAllowed}
use Rattle.hm_elements.specs.Settled.{Frame, Settled, SettledFrom, Top, all_there, go_on, has_body, has_frame, has_top, is_html, is_text_in_place, next_frame, next_top, no_body, no_doctype, no_head, no_html, no_zero_in_values, starts_root}
use Rattle.hm_elements.specs.Tables.{is_root, is_section, sections}
use Rattle.hm_elements.proofs.Chain.{after_event, here, html_is, same_element}
use Rattle.hm_elements.proofs.Events.{EventStands, attributes_allowed, start_allowed, text_allowed}
use Rattle.hm_elements.proofs.NameFacts.{svg_name_is_tag_name}
use Rattle.hm_elements.proofs.TableFacts.{stands_parent}
use Rattle.hm_elements.proofs.TableTools.{entry_passes, same_bytes}
use Rattle.hm_graph_laws.specs.Units.{is_omission_noted}
use Rattle.hm_optimality_laws.proofs.Names.{names_low, tag_name_low}

abbrev pub element : List ℕ → Bool → Element
element n foreign = record { name = n; foreign = foreign }

-- An element among those around it: its name has no capitals, they hold more than a text, and parts of a table stand in
-- table.
pub record IsPlaced (n : List ℕ) (foreign : Bool) (path : List Element) : Type 0 where
  pub low : map lower n ≡ n
  pub around : is_in_text path ≡ false
  pub in_table : foreign ≡ false → is_omission_noted n ≡ true → current path ≡ table

pub record StartFits (n : List ℕ) (foreign : Bool) (attributes : List Attribute) (path : List Element) : Type 0 where
  pub placed : IsPlaced n foreign path
  pub names : AreLow attributes
  pub no_root : current path ≡ table → foreign ≡ false → is_root n ≡ false

pub record EndFits (n : List ℕ) (foreign : Bool) (path : List Element) : Type 0 where
  pub top : path ≡ element n foreign ∷ outer path
  pub placed : IsPlaced n foreign (outer path)

pub record TextFits (raw : Bool) (path : List Element) (w : List Event) : Type 0 where
  pub alone : begins_text w ≡ false
  pub kind : raw ≡ is_in_raw path

abbrev pub InOrder : List Element → List Event → Type 0
InOrder path [] = Unit {0}
InOrder path (doctype legacy ∷ w) = InOrder path w
InOrder path (comment s ∷ w) = InOrder path w
InOrder path (text s raw ∷ w) = TextFits raw path w × InOrder path w
InOrder path (start n foreign attributes ∷ w) = StartFits n foreign attributes path × InOrder (element n foreign ∷ path) w
InOrder path (end n foreign ∷ w) = EndFits n foreign path × InOrder (outer path) w

-- ---- settled walks

-- the open elements are placed, and the outermost is html
abbrev PathFits : List Element → Type 0
PathFits [] = Unit {0}
PathFits (e ∷ path) = IsPlaced e.name e.foreign path × (path ≡ [] → e.name ≡ html) × PathFits path

went : {A : Type 0} (o : Option A) (more : A → Bool) → go_on o more ≡ true → (a : A) × (o ≡ Some a) × (more a ≡ true)
went None more h = absurd (cc)
went (Some a) more h = (a, refl, h)

top_on : (t : Top) (path : List Element) (e : Event) (w : List Event) → has_top t path (e ∷ w) ≡ true → (t' : Top) × (has_top t' (path_after_event path e) w ≡ true)
top_on t [] e w h = let (t', is, k) = went (next_top t e) (λ next. has_top next (path_after_event [] e) w) h in (t', k)
top_on t (m ∷ path) e w h = (t, (and_parts _ (has_top t (path_after_event (m ∷ path) e) w) h).1)

frame_on : (f : Frame) (path : List Element) (e : Event) (w : List Event) → has_frame f path (e ∷ w) ≡ true → (f' : Frame) × (has_frame f' (path_after_event path e) w ≡ true)
frame_on f [] e w h = (no_head, (and_parts _ (has_frame no_head (path_after_event [] e) w) h).1)
frame_on f (m ∷ []) e w h = let (f', is, k) = went (next_frame f e) (λ next. has_frame next (path_after_event (m ∷ []) e) w) h in (f', k)
frame_on f (m ∷ k ∷ path) e w h = (f, (and_parts _ (has_frame f (path_after_event (m ∷ k ∷ path) e) w) h).1)

-- ---- starts

-- html, head and body
frame_plain : (map lower html ≡ html) × (map lower head ≡ head) × (map lower body ≡ body) × (is_omission_noted html ≡ false) × (is_omission_noted head ≡ false) × (is_omission_noted body ≡ false)
unfolding lower is_section sections is_among
frame_plain = (refl, refl, refl, refl, refl, refl)

root_placed : (root n : List ℕ) (foreign : Bool) (path : List Element) → map lower root ≡ root → is_omission_noted root ≡ false → is_in_text path ≡ false → is_html root n foreign ≡ true → IsPlaced n foreign path
root_placed root n foreign path low tight around h =
    let (name, kind) = html_is root n foreign h in
    record {
      low = subst (λ x. map lower x ≡ x) (sym name) low;
      around = around;
      in_table = λ f l. absurd (both_ways (is_omission_noted root) tight (subst (λ x. is_omission_noted x ≡ true) name l));
    }

passed : {A : Type 0} (b : Bool) (a : A) (o : A) → cond b (Some a) None ≡ Some o → b ≡ true
passed true a o h = refl
passed false a o h = absurd (cc)

first_is_html : (t t' : Top) (n : List ℕ) (foreign : Bool) (attributes : List Attribute) → next_top t (start n foreign attributes) ≡ Some t' → is_html html n foreign ≡ true
first_is_html no_doctype t' n foreign attributes h = absurd (cc)
first_is_html no_html t' n foreign attributes h = passed (is_html html n foreign) all_there t' h
first_is_html all_there t' n foreign attributes h = absurd (cc)

second_is_root : (f f' : Frame) (n : List ℕ) (foreign : Bool) (attributes : List Attribute) → next_frame f (start n foreign attributes) ≡ Some f' → (is_html head n foreign ≡ true) ⊎ (is_html body n foreign ≡ true)
second_is_root no_head f' n foreign attributes h = inl (passed (is_html head n foreign) no_body f' h)
second_is_root no_body f' n foreign attributes h = inr (passed (is_html body n foreign) has_body f' h)
second_is_root has_body f' n foreign attributes h = absurd (cc)

loose_part : (n : List ℕ) → is_omission_noted n ≡ true → is_among n (words "caption colgroup thead tbody tfoot") ≡ true
unfolding is_section sections is_among
loose_part n h = elim (or_cases (is_section n) (bytes_eq n colgroup) h) [
  | inl s ↦ entry_passes (λ m. is_among m (words "caption colgroup thead tbody tfoot")) n sections refl s
  | inr e ↦ subst (λ x. is_among x (words "caption colgroup thead tbody tfoot") ≡ true) (sym (same_bytes n colgroup e)) refl
]

part_in_table : (n : List ℕ) (path : List Element) → stands_on n path ≡ true → is_omission_noted n ≡ true → current path ≡ table
part_in_table n [] h l = absurd (cc)
part_in_table n (e ∷ path) h l = (stands_parent n e.name (current_name path) h).in_table (loose_part n l)

outside_text : (path : List Element) (n : List ℕ) (foreign : Bool) (attributes : List Attribute) (w : List Event) → EventStands path (start n foreign attributes) w → is_in_text path ≡ false
unfolding is_text_in_place
outside_text path n foreign attributes w s = not-true (is_in_text path) (and_parts (no_zero_in_values attributes) (not (is_in_text path)) s.texts).1

inner_placed : (path : List Element) (n : List ℕ) (foreign : Bool) (w : List Event) → is_in_text path ≡ false → ElementAllowed n foreign path w → IsPlaced n foreign path
inner_placed path n foreign w around (inl (here, a)) = record { low = tag_name_low n (svg_name_is_tag_name n a.name); around = around; in_table = λ f l. absurd (both_ways foreign f a.kind) }
inner_placed path n foreign w around (inr (here, a)) = record { low = tag_name_low n a.name; around = around; in_table = λ f l. part_in_table n path a.stands l }

html_no_table : (e : Element) → e.name ≡ html → e.name ≡ table → ⊥
html_no_table e h k = let same : html ≡ table = sym h ∙ k in absurd (cc)

no_root_here : (n : List ℕ) (foreign : Bool) (attributes : List Attribute) → starts_root (start n foreign attributes) ≡ false → foreign ≡ false → is_root n ≡ false
no_root_here n true attributes h e = absurd (cc)
no_root_here n false attributes h e = h

start_fits : (t : Top) (f : Frame) (path : List Element) (n : List ℕ) (foreign : Bool) (attributes : List Attribute) (w : List Event) → PathFits path → SettledFrom t f path (start n foreign attributes ∷ w) → StartFits n foreign attributes path
start_fits t f [] n foreign attributes w fits s =
    let st = here t f [] (start n foreign attributes) w s in
    let (t', is, k) = went (next_top t (start n foreign attributes)) (λ next. has_top next (path_after_event [] (start n foreign attributes)) w) s.top in
    record {
      placed = root_placed html n foreign [] frame_plain.0 frame_plain.3 (outside_text [] n foreign attributes w st) (first_is_html t t' n foreign attributes is);
      names = names_low attributes (attributes_allowed [] n foreign attributes w st).names;
      no_root = λ e. absurd (cc);
    }
start_fits t f (m ∷ []) n foreign attributes w (placed, first, more) s =
    let st = here t f (m ∷ []) (start n foreign attributes) w s in
    let (f', is, k) = went (next_frame f (start n foreign attributes)) (λ next. has_frame next (path_after_event (m ∷ []) (start n foreign attributes)) w) s.frame in
    record {
      placed = elim (second_is_root f f' n foreign attributes is) [
        | inl h ↦ root_placed head n foreign (m ∷ []) frame_plain.1 frame_plain.4 (outside_text (m ∷ []) n foreign attributes w st) h
        | inr h ↦ root_placed body n foreign (m ∷ []) frame_plain.2 frame_plain.5 (outside_text (m ∷ []) n foreign attributes w st) h
      ];
      names = names_low attributes (attributes_allowed (m ∷ []) n foreign attributes w st).names;
      no_root = λ e. absurd (html_no_table m (first refl) e);
    }
start_fits t f (m ∷ k ∷ path) n foreign attributes w fits s =
    let st = here t f (m ∷ k ∷ path) (start n foreign attributes) w s in
    let two = and_parts (not (starts_root (start n foreign attributes))) (has_frame f (path_after_event (m ∷ k ∷ path) (start n foreign attributes)) w) s.frame in
    let other = not-true (starts_root (start n foreign attributes)) two.0 in
    let a = start_allowed (m ∷ k ∷ path) n foreign attributes w other st in
    record {
      placed = inner_placed (m ∷ k ∷ path) n foreign w (outside_text (m ∷ k ∷ path) n foreign attributes w st) a.element;
      names = names_low attributes a.attributes_allowed.names;
      no_root = λ e. no_root_here n foreign attributes other;
    }

first_html : (t : Top) (f : Frame) (path : List Element) (n : List ℕ) (foreign : Bool) (attributes : List Attribute) (w : List Event) → SettledFrom t f path (start n foreign attributes ∷ w) → path ≡ [] → n ≡ html
first_html t f [] n foreign attributes w s e =
    let (t', is, k) = went (next_top t (start n foreign attributes)) (λ next. has_top next (path_after_event [] (start n foreign attributes)) w) s.top in
    (html_is html n foreign (first_is_html t t' n foreign attributes is)).0
first_html t f (m ∷ path) n foreign attributes w s e = absurd (cc)

end_fits : (t : Top) (f : Frame) (path : List Element) (n : List ℕ) (foreign : Bool) (w : List Event) → PathFits path → SettledFrom t f path (end n foreign ∷ w) → EndFits n foreign path × PathFits (outer path)
end_fits t f [] n foreign w fits s = absurd (let h = s.ends in cc)
end_fits t f (e ∷ path) n foreign w (placed, first, more) s =
    let two = and_parts (is_same_element e n foreign) (ends_match path w) s.ends in
    let is = same_element e n foreign two.0 in
    (record { top = ap (λ x. x ∷ path) is; placed = subst (λ (x : Element). IsPlaced x.name x.foreign path) is placed }, more)

-- ---- all events

in_order : (w : List Event) (t : Top) (f : Frame) (path : List Element) → PathFits path → SettledFrom t f path w → InOrder path w
in_order [] t f path fits s = tt
in_order (doctype legacy ∷ w) t f path fits s =
    let (t', top) = top_on t path (doctype legacy) w s.top in
    let (f', frame) = frame_on f path (doctype legacy) w s.frame in
    in_order w t' f' path fits (after_event t f path (doctype legacy) w s t' f' top frame)
in_order (comment c ∷ w) t f path fits s =
    let (t', top) = top_on t path (comment c) w s.top in
    let (f', frame) = frame_on f path (comment c) w s.frame in
    in_order w t' f' path fits (after_event t f path (comment c) w s t' f' top frame)
in_order (text c raw ∷ w) t f path fits s =
    let (t', top) = top_on t path (text c raw) w s.top in
    let (f', frame) = frame_on f path (text c raw) w s.frame in
    let a = text_allowed path c raw w (here t f path (text c raw) w s) in
    (record { alone = a.alone; kind = a.kind }, in_order w t' f' path fits (after_event t f path (text c raw) w s t' f' top frame))
in_order (start n foreign attributes ∷ w) t f path fits s =
    let (t', top) = top_on t path (start n foreign attributes) w s.top in
    let (f', frame) = frame_on f path (start n foreign attributes) w s.frame in
    let a = start_fits t f path n foreign attributes w fits s in
    (a, in_order w t' f' (element n foreign ∷ path) (a.placed, first_html t f path n foreign attributes w s, fits) (after_event t f path (start n foreign attributes) w s t' f' top frame))
in_order (end n foreign ∷ w) t f path fits s =
    let (t', top) = top_on t path (end n foreign) w s.top in
    let (f', frame) = frame_on f path (end n foreign) w s.frame in
    let a = end_fits t f path n foreign w fits s in
    (a.0, in_order w t' f' (outer path) a.1 (subst (λ p. SettledFrom t' f' p w) (outer_is path n foreign) (after_event t f path (end n foreign) w s t' f' top frame)))
  where
    outer_is : (path : List Element) (n : List ℕ) (foreign : Bool) → path_after_event path (end n foreign) ≡ outer path
    outer_is [] n foreign = refl
    outer_is (e ∷ path) n foreign = refl

pub settled_in_order : (w : List Event) → Settled w → InOrder [] w
settled_in_order w s = in_order w no_doctype no_head [] tt s
