-- What each of the rewrites makes of an event.
use Rattle.std.proofs.Common.{◌≡◌, ℕ, Bool, true, false, List, [], ◌∷◌, Option, refl}
use Rattle.hm_base.specs.Walks.{Event, start, text, comment, end, Attribute, Element}
use Rattle.hm_options.specs.Rules.{AttributeRule, PlainDoctype, BooleanValues, EmptyAttributes, RedundantAttributes, event_rule, attributes_rule}

-- a start with attributes by a rule
pub start_by : (rule : AttributeRule) (n : List ℕ) (attributes : List Attribute) (path : List Element) (before next : Option Event) → event_rule rule path before (start n false attributes) next ≡ start n false (attributes_rule rule n attributes) ∷ []
start_by PlainDoctype n attributes path before next = refl
start_by BooleanValues n attributes path before next = refl
start_by EmptyAttributes n attributes path before next = refl
start_by RedundantAttributes n attributes path before next = refl

-- and an element of SVG stays
pub svg_by : (rule : AttributeRule) (n : List ℕ) (attributes : List Attribute) (path : List Element) (before next : Option Event) → event_rule rule path before (start n true attributes) next ≡ start n true attributes ∷ []
svg_by PlainDoctype n attributes path before next = refl
svg_by BooleanValues n attributes path before next = refl
svg_by EmptyAttributes n attributes path before next = refl
svg_by RedundantAttributes n attributes path before next = refl

-- other events stay, wherever they are
pub text_by : (rule : AttributeRule) (s : List ℕ) (raw : Bool) (path : List Element) (before next : Option Event) → event_rule rule path before (text s raw) next ≡ text s raw ∷ []
text_by PlainDoctype s raw path before next = refl
text_by BooleanValues s raw path before next = refl
text_by EmptyAttributes s raw path before next = refl
text_by RedundantAttributes s raw path before next = refl

pub comment_by : (rule : AttributeRule) (s : List ℕ) (path : List Element) (before next : Option Event) → event_rule rule path before (comment s) next ≡ comment s ∷ []
comment_by PlainDoctype s path before next = refl
comment_by BooleanValues s path before next = refl
comment_by EmptyAttributes s path before next = refl
comment_by RedundantAttributes s path before next = refl

pub end_by : (rule : AttributeRule) (n : List ℕ) (foreign : Bool) (path : List Element) (before next : Option Event) → event_rule rule path before (end n foreign) next ≡ end n foreign ∷ []
end_by PlainDoctype n foreign path before next = refl
end_by BooleanValues n foreign path before next = refl
end_by EmptyAttributes n foreign path before next = refl
end_by RedundantAttributes n foreign path before next = refl
