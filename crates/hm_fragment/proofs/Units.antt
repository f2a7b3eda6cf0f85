-- The units of a tree of a fragment.
use Rattle.std.proofs.Common.{◌≡◌, ℕ, Bool, true, false, cond, not, ◌&&◌, List, [], ◌∷◌, ◌++◌, Some, None, refl, sym, ap, ◌∙◌, append_assoc, chars, codes}
use Rattle.std.proofs.lemmas.Bool.{and_parts, both_ways}
use Rattle.hm_base.specs.Walks.{Attribute, Event, doctype, start, text, comment, end, Element, is_same_element, ends_match}
use Rattle.hm_base.specs.declared.plain.SpellRules.{SpellRules}
use Rattle.hm_elements.specs.Names.{is_among, html, head, body}
use Rattle.hm_elements.specs.Omission.{start_tag_required_after}
use Rattle.hm_elements.specs.Paths.{outer}
use Rattle.hm_elements.specs.Tables.{is_void, voids, is_section, sections}
use Rattle.hm_spelling_spec.specs.Omission.{start_falls, may_omit_end, end_falls}
use Rattle.hm_spelling_spec.specs.Spellings.{wants_line_feed, opening, other}
use Rattle.hm_graph_laws.specs.Units.{Unit, TextKind, fixed, start_tag, tag_name, attribute_end, tag_close, end_tag, character_units, attribute_units, start_units, end_units, text_units, line_feed_units, is_after_start, is_omission_noted, may_close_itself, kind_of, Previous, units_from, units_of, in_value}
use Rattle.hm_fragment.specs.Frames.{frame_start, frame_end}
use Rattle.hm_fragment.proofs.Ways.{closes_unit, begins_end_tag, Follows}

abbrev pub last_units : List Unit
last_units = end_tag body true false ∷ end_tag html true false ∷ []

-- no unit closes its tag
abbrev Calm : List Unit → Type 0
Calm [] = Prim.Unit {0}
Calm (u ∷ us) = (closes_unit u ≡ false) × Calm us

calm_append : (xs ys : List Unit) → Calm xs → Calm ys → Calm (xs ++ ys)
calm_append [] ys a b = b
calm_append (x ∷ xs) ys a b = (a.0, calm_append xs ys a.1 b)

calm_follows : (xs us : List Unit) → Calm xs → Follows us → Follows (xs ++ us)
calm_follows [] us c f = f
calm_follows (x ∷ xs) us c f = (λ h. absurd (both_ways (closes_unit x) c.0 h), calm_follows xs us c.1 f)

calm_characters : (kind : TextKind) (cs : List ℕ) → Calm (character_units kind cs)
calm_characters kind [] = tt
calm_characters kind (c ∷ cs) = (refl, calm_characters kind cs)

calm_parts : (name value : List ℕ) (attributes : List Attribute) → Calm (attribute_units attributes) → Calm (attribute_units (record { name = name; value = value } ∷ attributes))
calm_parts name [] attributes c = (refl, c)
calm_parts name (d ∷ s) attributes c = (refl, calm_append (character_units in_value (chars (d ∷ s)) ++ attribute_end ∷ []) (attribute_units attributes) (calm_append (character_units in_value (chars (d ∷ s))) (attribute_end ∷ []) (calm_characters in_value (chars (d ∷ s))) (refl, tt)) c)

calm_attributes : (attributes : List Attribute) → Calm (attribute_units attributes)
calm_attributes [] = tt
calm_attributes (a ∷ attributes) = calm_parts a.name a.value attributes (calm_attributes attributes)

calm_text : (previous : Previous) (path : List Element) (s : List ℕ) (raw : Bool) → Calm (text_units previous path s raw)
calm_text previous path s true = (refl, tt)
calm_text previous path s false = calm_append (line_feed_units previous path (chars s)) (character_units (kind_of path) (chars s)) (feed (wants_line_feed (cond (is_after_start previous) opening other) path (chars s))) (calm_characters (kind_of path) (chars s))
  where
    feed : (b : Bool) → Calm (cond b (fixed (10 ∷ []) ∷ []) [])
    feed true = (refl, tt)
    feed false = tt

calm_end : (r : SpellRules) (n : List ℕ) (foreign : Bool) (path : List Element) (w : List Event) → Calm (end_units r n foreign path w)
calm_end r n foreign path w = by (not foreign && is_void n)
  where
    by : (b : Bool) → Calm (cond b [] (end_tag n (may_omit_end r n foreign path w) (is_omission_noted n) ∷ []))
    by true = tt
    by false = (refl, tt)

-- ---- The units of what stands in body, and of its end

abbrev pub begins_foreign_end : List Event → Bool
begins_foreign_end (end n foreign ∷ w) = foreign
begins_foreign_end w = false

pub record Split (inside : List Event) (units : List Unit) : Type 0 where
  pub us : List Unit
  pub is : units ≡ us ++ last_units
  pub follows : Follows us
  pub begins : begins_foreign_end inside ≡ true → begins_end_tag us ≡ true

-- with calm units in front
split_after : (e : Event) (inside : List Event) (xs units : List Unit) → Calm xs → begins_foreign_end (e ∷ inside) ≡ false → Split inside units → Split (e ∷ inside) (xs ++ units)
split_after e inside xs units c none k = record {
  us = xs ++ k.us;
  is = ap (λ x. xs ++ x) k.is ∙ sym (append_assoc xs k.us last_units);
  follows = calm_follows xs k.us c k.follows;
  begins = λ h. absurd (both_ways (begins_foreign_end (e ∷ inside)) none h);
}

-- an element of SVG that ends at once is followed by its end tag
closes_foreign : (n : List ℕ) (foreign : Bool) (path : List Element) (inside : List Event) → ends_match (record { name = n; foreign = foreign } ∷ path) (inside ++ frame_end) ≡ true → may_close_itself foreign (inside ++ frame_end) ≡ true → begins_foreign_end inside ≡ true
closes_foreign n false path inside m h = cc
closes_foreign n true path [] m h = absurd (let two = and_parts (is_same_element (record { name = n; foreign = true }) body false) _ m in let k = (and_parts _ false two.0).1 in (let no : false ≡ true = k in cc))
closes_foreign n true path (doctype legacy ∷ inside) m h = cc
closes_foreign n true path (start k foreign attributes ∷ inside) m h = cc
closes_foreign n true path (text s raw ∷ inside) m h = cc
closes_foreign n true path (comment s ∷ inside) m h = cc
closes_foreign n true path (end k foreign ∷ inside) m h = (and_parts _ foreign (and_parts (is_same_element (record { name = n; foreign = true }) k foreign) _ m).0).1

split_start : (r : SpellRules) (previous : Previous) (n : List ℕ) (foreign : Bool) (attributes : List Attribute) (w inside : List Event) (units : List Unit) → (may_close_itself foreign w ≡ true → begins_foreign_end inside ≡ true) → Split inside units → Split (start n foreign attributes ∷ inside) (start_units r previous n foreign attributes w ++ units)
split_start r previous n foreign [] w inside units closes k = record {
  us = start_units r previous n foreign [] w ++ k.us;
  is = ap (λ x. start_units r previous n foreign [] w ++ x) k.is;
  follows = (λ h. k.begins (closes h), k.follows);
  begins = λ h. cc;
}
split_start r previous n foreign (a ∷ attributes) w inside units closes k =
    let xs : List Unit = tag_name n ∷ attribute_units (a ∷ attributes) in
    let close : Unit = tag_close (may_close_itself foreign w) in
    let cut : (ys : List Unit) → start_units r previous n foreign (a ∷ attributes) w ++ ys ≡ xs ++ close ∷ ys = λ ys. ap (λ x. tag_name n ∷ x) (append_assoc (attribute_units (a ∷ attributes)) (close ∷ []) ys) in
    record {
      us = xs ++ close ∷ k.us;
      is = cut units ∙ ap (λ x. xs ++ close ∷ x) k.is ∙ sym (append_assoc xs (close ∷ k.us) last_units);
      follows = calm_follows xs (close ∷ k.us) (refl, calm_attributes (a ∷ attributes)) (λ h. k.begins (closes h), k.follows);
      begins = λ h. cc;
    }

frame_solid : (is_void body ≡ false) × ((is_void html ≡ false) × ((is_omission_noted body ≡ false) × (is_omission_noted html ≡ false)))
unfolding is_void voids is_section sections is_among
frame_solid = (refl, (refl, (refl, refl)))

body_falls : (r : SpellRules) (path : List Element) → r.omit ≡ true → may_omit_end r body false path (end html false ∷ []) ≡ true
unfolding may_omit_end end_falls
body_falls r path o = rw o refl

html_falls : (r : SpellRules) (path : List Element) → r.omit ≡ true → may_omit_end r html false path [] ≡ true
unfolding may_omit_end end_falls
html_falls r path o = rw o refl

ends_less : (path : List Element) (n : List ℕ) (foreign : Bool) (w : List Event) → ends_match path (end n foreign ∷ w) ≡ true → ends_match (outer path) w ≡ true
ends_less [] n foreign w h = cc
ends_less (m ∷ path) n foreign w h = (and_parts (is_same_element m n foreign) (ends_match path w) h).1

module _ (r : SpellRules) (omits : r.omit ≡ true) where
  pub inner_split : (inside : List Event) (previous : Previous) (path : List Element) → ends_match path (inside ++ frame_end) ≡ true → Split inside (units_from r previous path (inside ++ frame_end))
  inner_split [] previous path m = record {
    us = [];
    is = rw (frame_solid.0, frame_solid.1.0, frame_solid.1.1.0, frame_solid.1.1.1, body_falls r (outer path) omits, html_falls r (outer (outer path)) omits) refl;
    follows = tt;
    begins = λ h. cc;
  }
  inner_split (doctype legacy ∷ inside) previous path m = split_after (doctype legacy) inside (fixed _ ∷ []) _ (refl, tt) refl (inner_split inside (Some (doctype legacy)) path m)
  inner_split (comment s ∷ inside) previous path m = split_after (comment s) inside (fixed _ ∷ []) _ (refl, tt) refl (inner_split inside (Some (comment s)) path m)
  inner_split (text s raw ∷ inside) previous path m = split_after (text s raw) inside (text_units previous path s raw) _ (calm_text previous path s raw) refl (inner_split inside (Some (text s raw)) path m)
  inner_split (start n foreign attributes ∷ inside) previous path m =
      split_start r previous n foreign attributes (inside ++ frame_end) inside _ (closes_foreign n foreign path inside m) (inner_split inside (Some (start n foreign attributes)) (record { name = n; foreign = foreign } ∷ path) m)
  inner_split (end n foreign ∷ inside) previous path m = by foreign (inner_split inside (Some (end n foreign)) (outer path) (ends_less path n foreign (inside ++ frame_end) m))
    where
      by : (f : Bool) → Split inside (units_from r (Some (end n foreign)) (outer path) (inside ++ frame_end)) → Split (end n f ∷ inside) (end_units r n f (outer path) (inside ++ frame_end) ++ units_from r (Some (end n foreign)) (outer path) (inside ++ frame_end))
      by false k = split_after (end n false) inside (end_units r n false (outer path) (inside ++ frame_end)) _ (calm_end r n false (outer path) (inside ++ frame_end)) refl k
      by true k = record {
        us = end_units r n true (outer path) (inside ++ frame_end) ++ k.us;
        is = ap (λ x. end_units r n true (outer path) (inside ++ frame_end) ++ x) k.is;
        follows = ((λ h. cc), k.follows);
        begins = λ h. refl;
      }

-- ---- The whole tree

-- a way over the units of the frame's start writes the front
abbrev pub first_units : List Unit
first_units = fixed (codes "<!doctype html>") ∷ start_tag html true false false ∷ start_tag head true false false ∷ end_tag head true false ∷ start_tag body false false false ∷ []

html_left_out : (r : SpellRules) → r.omit ≡ true → (w : List Event) → (r.omit && (not false && start_falls r.frame html (start head false [] ∷ w))) ≡ true
unfolding start_falls
html_left_out r o w = rw o refl

head_left_out : (r : SpellRules) → r.omit ≡ true → (w : List Event) → (r.omit && (not false && start_falls r.frame head (end head false ∷ w))) ≡ true
unfolding start_falls
head_left_out r o w = rw o refl

head_end_left_out : (r : SpellRules) → r.omit ≡ true → (path : List Element) (w : List Event) → may_omit_end r head false path (start body false [] ∷ w) ≡ true
unfolding may_omit_end end_falls
head_end_left_out r o path w = rw o refl

body_stays : (r : SpellRules) → r.frame ≡ true → (w : List Event) → (r.omit && (not false && start_falls r.frame body w)) ≡ false
unfolding start_falls
body_stays r f w = rw f (and_false r.omit)
  where
    and_false : (b : Bool) → b && false ≡ false
    and_false true = refl
    and_false false = refl

frame_tight : (is_void head ≡ false) × ((is_omission_noted head ≡ false) × (start_tag_required_after head body ≡ false))
unfolding is_void voids is_section sections is_among start_tag_required_after
frame_tight = (refl, (refl, refl))

frame_units : (r : SpellRules) → r.omit ≡ true → r.frame ≡ true → (w : List Event)
    → units_from r None [] (frame_start ++ w) ≡ first_units ++ units_from r (Some (start body false [])) (record { name = body; foreign = false } ∷ record { name = html; foreign = false } ∷ []) w
frame_units r o f w =
    let rest : List Unit = units_from r (Some (start body false [])) (record { name = body; foreign = false } ∷ record { name = html; foreign = false } ∷ []) w in
    let a = html_left_out r o (end head false ∷ start body false [] ∷ w) in
    let b = head_left_out r o (start body false [] ∷ w) in
    let c = head_end_left_out r o (record { name = html; foreign = false } ∷ []) w in
    let d = body_stays r f w in
    rw (frame_tight.0, frame_tight.1.0, frame_tight.1.1) (λ i. fixed (codes "<!doctype html>") ∷ start_tag html (a i) false false ∷ start_tag head (b i) false false ∷ end_tag head (c i) false ∷ start_tag body (d i) false false ∷ rest)

pub record UnitsSplit (r : SpellRules) (w : List Event) : Type 0 where
  pub us : List Unit
  pub is : units_of r w ≡ first_units ++ (us ++ last_units)
  pub follows : Follows (first_units ++ us)

pub units_split : (r : SpellRules) → r.omit ≡ true → r.frame ≡ true → (inside : List Event) → ends_match [] (frame_start ++ (inside ++ frame_end)) ≡ true → UnitsSplit r (frame_start ++ (inside ++ frame_end))
units_split r o f inside m =
    let k = inner_split r o inside (Some (start body false [])) (record { name = body; foreign = false } ∷ record { name = html; foreign = false } ∷ []) m in
    record { us = k.us; is = frame_units r o f (inside ++ frame_end) ∙ ap (λ x. first_units ++ x) k.is; follows = calm_follows first_units k.us (refl, (refl, (refl, (refl, (refl, tt))))) k.follows }
