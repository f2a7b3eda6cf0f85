-- One event more, where events are rewritten in place and comments are left out.
use Rattle.std.specs.Prelude.{◌≡◌, ℕ, suc, ◌+◌, ◌<◌, Bool, true, false, not, List, [], ◌∷◌, ◌++◌, length, take, drop, slice_get, flat_map, Some, if◌then◌else◌}
use Rattle.hm_base.specs.Walks.{Attribute, Event, doctype, start, text, comment, end, begins_comment, pushed, pushes}
use Rattle.hm_base.specs.declared.plain.TreeOptions.{TreeOptions}
use Rattle.hm_options.specs.Passes.{attribute_pass, attributes_pass, passed}
use Rattle.hm_options.specs.declared.attributes.Fate.{Fate}
use Rattle.hm_options.specs.declared.attributes.Fate.TheVariants as fates
use Rattle.hm_tree.specs.Edits.{Edited, is_loose}
use Rattle.hm_tree.specs.Rows.{ends_in_text, is_text}

-- where comments are left out, none comes directly after a text that is done
abbrev pub IsCalm : TreeOptions → Edited → Type 0
IsCalm o e = o.comments ≡ true → ends_in_text e.done ≡ true → begins_comment e.left ≡ false

-- what is done, and what becomes of that which is left, are together as before; at least one event fewer is left
pub record IsPassing (o : TreeOptions) (before after : Edited) : Type 0 where
  pub same : pushes after.done (passed o after.left) ≡ pushes before.done (passed o before.left)
  pub fewer : length after.left < length before.left
  pub calm : IsCalm o after

-- The first of the events is now what it becomes, together with those that were joined to it.
pub record IsChanged (o : TreeOptions) (before after : List Event) : Type 0 where
  pub event : Event
  pub rest : List Event
  pub is : after ≡ event ∷ rest
  pub same : pushed event (passed o rest) ≡ passed o before
  pub fewer : length rest < length before
  pub calm : o.comments ≡ true → is_text event ≡ true → begins_comment rest ≡ false

-- how many texts and comments come first
abbrev pub loose_count : List Event → ℕ
loose_count [] = 0
loose_count (e ∷ w) = if is_loose e then suc (loose_count w) else 0

-- a text or a comment comes first
abbrev pub begins_loose : List Event → Bool
begins_loose [] = false
begins_loose (e ∷ w) = is_loose e

-- the bytes of a text
abbrev pub text_in : Event → List ℕ
text_in (text s raw) = s
text_in (doctype legacy) = []
text_in (start n foreign attributes) = []
text_in (comment s) = []
text_in (end n foreign) = []

-- the bytes of the texts, one after the other
abbrev pub texts_of : List Event → List ℕ
texts_of [] = []
texts_of (e ∷ w) = text_in e ++ texts_of w

-- the text that is first, with the texts that touch it once comments are left out
abbrev pub with_touching : List Event → List Event
with_touching (text s raw ∷ w) = text (s ++ texts_of (take (loose_count w) w)) raw ∷ drop (loose_count w) w
with_touching w = w

-- what becomes of an attribute
abbrev pub fated : Fate → Attribute → List Attribute
fated fates.Stays a = a ∷ []
fated fates.Emptied a = record { name = a.name; value = [] } ∷ []
fated fates.LeftOut a = []

-- what becomes of the attribute at a place of the start that is first
abbrev pub IsFate : TreeOptions → List Event → ℕ → Fate → Type 0
IsFate o (start n foreign attributes ∷ w) at fate = (a : Attribute) → slice_get attributes at ≡ Some a → attribute_pass o n a ≡ fated fate a
IsFate o w at fate = Unit {0}

-- the attribute at a place of the start that is first became what it becomes
abbrev pub IsFated : TreeOptions → ℕ → List Event → List Event → Type 0
IsFated o at (start n foreign attributes ∷ w) after =
    (a : Attribute) → slice_get attributes at ≡ Some a → after ≡ start n foreign (take at attributes ++ (attribute_pass o n a ++ drop (at + 1) attributes)) ∷ w
IsFated o at w after = Unit {0}

abbrev pub first_attributes : List Event → List Attribute
first_attributes (start n foreign attributes ∷ w) = attributes
first_attributes w = []

abbrev pub begins_html_start : List Event → Bool
begins_html_start (start n foreign attributes ∷ w) = not foreign
begins_html_start w = false

-- the attributes of the start that is first stay as they are
abbrev pub StartStays : TreeOptions → List Event → Type 0
StartStays o (start n foreign attributes ∷ w) = attributes_pass o n foreign attributes ≡ attributes
StartStays o w = Unit {0}

-- the start that is first, whose attributes from a place on are what they become
abbrev pub with_passed : TreeOptions → ℕ → List Event → List Event
with_passed o i (start n foreign attributes ∷ w) = start n foreign (take i attributes ++ flat_map (attribute_pass o n) (drop i attributes)) ∷ w
with_passed o i w = w
