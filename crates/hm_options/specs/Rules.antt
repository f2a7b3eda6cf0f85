-- The rewrites that change single events, one by one.
use Rattle.std.specs.Prelude.{ℕ, Bool, false, List, [], ◌∷◌, Option, if◌then◌else◌}
use Rattle.hm_base.specs.Walks.{Event, Attribute, Element}
use Rattle.hm_elements.specs.Attributes.{is_redundant}
use Rattle.hm_options.specs.Rewrites.{plain_doctype, with_attributes, without_value, no_boolean_values, is_empty, no_empty, no_redundant}

-- a rewrite that changes doctypes or the attributes of HTML elements
pub data AttributeRule : Type 0 where
  PlainDoctype : AttributeRule
  BooleanValues : AttributeRule
  EmptyAttributes : AttributeRule
  RedundantAttributes : AttributeRule

-- what an event becomes
abbrev pub event_rule : AttributeRule → List Element → Option Event → Event → Option Event → List Event
event_rule PlainDoctype = plain_doctype
event_rule BooleanValues = with_attributes no_boolean_values
event_rule EmptyAttributes = with_attributes no_empty
event_rule RedundantAttributes = with_attributes no_redundant

-- what the attributes of an HTML element become
abbrev pub attributes_rule : AttributeRule → List ℕ → List Attribute → List Attribute
attributes_rule PlainDoctype n attributes = attributes
attributes_rule BooleanValues n attributes = no_boolean_values n attributes
attributes_rule EmptyAttributes n attributes = no_empty n attributes
attributes_rule RedundantAttributes n attributes = no_redundant n attributes

-- the attribute is left out
abbrev pub is_dropped : AttributeRule → List ℕ → Attribute → Bool
is_dropped PlainDoctype n a = false
is_dropped BooleanValues n a = false
is_dropped EmptyAttributes n a = is_empty a
is_dropped RedundantAttributes n a = is_redundant n a

-- what an attribute becomes that isn't left out
abbrev pub valued : AttributeRule → Attribute → Attribute
valued PlainDoctype a = a
valued BooleanValues a = without_value a
valued EmptyAttributes a = a
valued RedundantAttributes a = a

abbrev pub attribute_rule : AttributeRule → List ℕ → Attribute → List Attribute
attribute_rule rule n a = if is_dropped rule n a then [] else valued rule a ∷ []
