-- In the units of a tree each value follows its attribute's name.
use Rattle.std.proofs.Common.{◌≡◌, ◌∙◌, ℕ, Bool, true, false, cond, not, ◌&&◌, List, [], ◌∷◌, ◌++◌, Some, None, ap, append_assoc, chars}
use Rattle.hm_base.specs.Walks.{Attribute, Event, doctype, start, text, comment, end, Element}
use Rattle.hm_base.specs.declared.plain.SpellRules.{SpellRules}
use Rattle.hm_elements.specs.Paths.{outer}
use Rattle.hm_elements.specs.Tables.{is_void}
use Rattle.hm_spelling_spec.specs.Omission.{may_omit_end}
use Rattle.hm_spelling_spec.specs.Spellings.{wants_line_feed, opening, other}
use Rattle.hm_graph_laws.specs.Units.{Unit, TextKind, fixed, start_tag, tag_name, bare_attribute, attribute_name, character, attribute_end, tag_close, end_tag, character_units, attribute_units, start_units, end_units, text_units, line_feed_units, is_after_start, is_omission_noted, may_close_itself, kind_of, Previous, units_from, in_value}
use Rattle.hm_optimality_laws.specs.Forms.{value_and}
use Rattle.hm_optimality_laws.specs.SparseLaws.{HaveValues, IsFollowed, TreesHaveValues}

value_append : (v : List ℕ) (rest us : List Unit) → value_and v rest ++ us ≡ value_and v (rest ++ us)
value_append v rest us = append_assoc (character_units in_value v) (attribute_end ∷ rest) us

followed_append : (x : Unit) (xs us : List Unit) → IsFollowed x xs → IsFollowed x (xs ++ us)
followed_append (fixed b) xs us h = tt
followed_append (start_tag n omits required_after_omission closes) xs us h = tt
followed_append (tag_name n) xs us h = tt
followed_append (bare_attribute n) xs us h = tt
followed_append (attribute_name n v) xs us (rest, is) = (rest ++ us, ap (λ ys. ys ++ us) is ∙ value_append v rest us)
followed_append (character kind c next) xs us h = tt
followed_append attribute_end xs us h = tt
followed_append (tag_close closes) xs us h = tt
followed_append (end_tag n omits notes_omission) xs us h = tt

join : (xs us : List Unit) → HaveValues xs → HaveValues us → HaveValues (xs ++ us)
join [] us a b = b
join (x ∷ xs) us a b = (followed_append x xs us a.0, join xs us a.1 b)

in_characters : (kind : TextKind) (cs : List ℕ) → HaveValues (character_units kind cs)
in_characters kind [] = tt
in_characters kind (c ∷ cs) = (tt, in_characters kind cs)

in_attribute : (n v : List ℕ) (attributes : List Attribute) → HaveValues (attribute_units attributes) → HaveValues (attribute_units (record { name = n; value = v } ∷ attributes))
in_attribute n [] attributes h = (tt, h)
in_attribute n (c ∷ s) attributes h =
    let cs : List Unit = character_units in_value (chars (c ∷ s)) in (
      (attribute_units attributes, append_assoc cs (attribute_end ∷ []) (attribute_units attributes)),
      join (cs ++ attribute_end ∷ []) (attribute_units attributes) (join cs (attribute_end ∷ []) (in_characters in_value (chars (c ∷ s))) (tt, tt)) h,
    )

in_attributes : (attributes : List Attribute) → HaveValues (attribute_units attributes)
in_attributes [] = tt
in_attributes (a ∷ attributes) = in_attribute a.name a.value attributes (in_attributes attributes)

in_start : (r : SpellRules) (previous : Previous) (n : List ℕ) (foreign : Bool) (attributes : List Attribute) (w : List Event) → HaveValues (start_units r previous n foreign attributes w)
in_start r previous n foreign [] w = (tt, tt)
in_start r previous n foreign (a ∷ attributes) w = (tt, join (attribute_units (a ∷ attributes)) (tag_close (may_close_itself foreign w) ∷ []) (in_attributes (a ∷ attributes)) (tt, tt))

in_text : (previous : Previous) (path : List Element) (s : List ℕ) (raw : Bool) → HaveValues (text_units previous path s raw)
in_text previous path s true = (tt, tt)
in_text previous path s false =
    join (line_feed_units previous path (chars s)) (character_units (kind_of path) (chars s)) (feed (wants_line_feed (cond (is_after_start previous) opening other) path (chars s))) (in_characters (kind_of path) (chars s))
  where
    feed : (b : Bool) → HaveValues (cond b (fixed (10 ∷ []) ∷ []) [])
    feed true = (tt, tt)
    feed false = tt

in_end : (r : SpellRules) (n : List ℕ) (foreign : Bool) (path : List Element) (w : List Event) → HaveValues (end_units r n foreign path w)
in_end r n foreign path w = by (not foreign && is_void n)
  where
    by : (b : Bool) → HaveValues (cond b [] (end_tag n (may_omit_end r n foreign path w) (is_omission_noted n) ∷ []))
    by true = tt
    by false = (tt, tt)

in_events : (r : SpellRules) (previous : Previous) (path : List Element) (w : List Event) → HaveValues (units_from r previous path w)
in_events r previous path [] = tt
in_events r previous path (doctype legacy ∷ w) = (tt, in_events r (Some (doctype legacy)) path w)
in_events r previous path (comment s ∷ w) = (tt, in_events r (Some (comment s)) path w)
in_events r previous path (text s raw ∷ w) = join (text_units previous path s raw) (units_from r (Some (text s raw)) path w) (in_text previous path s raw) (in_events r (Some (text s raw)) path w)
in_events r previous path (start n foreign attributes ∷ w) =
    let inner : List Element = record { name = n; foreign = foreign } ∷ path in
    join (start_units r previous n foreign attributes w) (units_from r (Some (start n foreign attributes)) inner w) (in_start r previous n foreign attributes w) (in_events r (Some (start n foreign attributes)) inner w)
in_events r previous path (end n foreign ∷ w) =
    join (end_units r n foreign (outer path) w) (units_from r (Some (end n foreign)) (outer path) w) (in_end r n foreign (outer path) w) (in_events r (Some (end n foreign)) (outer path) w)

pub trees_have_values : TreesHaveValues
trees_have_values r w = in_events r None [] w
