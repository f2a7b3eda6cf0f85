-- What each of the rewrites makes of attributes.
use Rattle.std.proofs.Common.{◌≡◌, ℕ, ◌≤◌, Bool, true, false, List, [], ◌∷◌, ◌++◌, length, flat_map, if◌then◌else◌, ap, refl}
use Rattle.hm_base.specs.Walks.{Attribute, has_name}
use Rattle.hm_elements.specs.Tables.{is_boolean}
use Rattle.hm_elements.specs.Attributes.{is_redundant}
use Rattle.hm_options.specs.Rewrites.{without, without_value, is_empty, no_boolean_values}
use Rattle.hm_options.specs.Rules.{AttributeRule, PlainDoctype, BooleanValues, EmptyAttributes, RedundantAttributes, attributes_rule, attribute_rule, is_dropped, valued}
use Rattle.hm_options.proofs.OneByOne.{each_count, each_fresh}

pub same_list : (rule : Attribute → List Attribute) → ((a : Attribute) → rule a ≡ a ∷ []) → (attributes : List Attribute) → attributes ≡ flat_map rule attributes
same_list rule one [] = refl
same_list rule one (a ∷ attributes) = rw (one a) (ap (λ rest. a ∷ rest) (same_list rule one attributes))

pub without_by : (b : Bool) (a : Attribute) (rest others : List Attribute) → rest ≡ others → (if b then rest else a ∷ rest) ≡ (if b then [] else a ∷ []) ++ others
without_by true a rest others h = h
without_by false a rest others h = ap (λ r. a ∷ r) h

without_each : (test : Attribute → Bool) (attributes : List Attribute) → without test attributes ≡ flat_map (λ a. if test a then [] else a ∷ []) attributes
without_each test [] = refl
without_each test (a ∷ attributes) = without_by (test a) a (without test attributes) (flat_map (λ d. if test d then [] else d ∷ []) attributes) (without_each test attributes)

booleans_each : (n : List ℕ) (attributes : List Attribute) → no_boolean_values n attributes ≡ flat_map (attribute_rule BooleanValues n) attributes
booleans_each n [] = refl
booleans_each n (a ∷ attributes) = ap (λ rest. without_value a ∷ rest) (booleans_each n attributes)

-- the attributes are rewritten one by one
pub rule_each : (rule : AttributeRule) (n : List ℕ) (attributes : List Attribute) → attributes_rule rule n attributes ≡ flat_map (attribute_rule rule n) attributes
rule_each PlainDoctype n attributes = same_list (attribute_rule PlainDoctype n) (λ a. refl) attributes
rule_each BooleanValues n attributes = booleans_each n attributes
rule_each EmptyAttributes n attributes = without_each is_empty attributes
rule_each RedundantAttributes n attributes = without_each (is_redundant n) attributes

pub named_by : (b : Bool) (a : Attribute) → (if b then record { name = a.name; value = [] } else a).name ≡ a.name
named_by true a = refl
named_by false a = refl

-- a rewrite keeps names
pub valued_name : (rule : AttributeRule) (a : Attribute) → (valued rule a).name ≡ a.name
valued_name PlainDoctype a = refl
valued_name BooleanValues a = named_by (is_boolean a.name) a
valued_name EmptyAttributes a = refl
valued_name RedundantAttributes a = refl

pub rule_count : (rule : AttributeRule) (n : List ℕ) (attributes : List Attribute) → length (flat_map (attribute_rule rule n) attributes) ≤ length attributes
rule_count rule n attributes = each_count (is_dropped rule n) (valued rule) attributes

pub fresh_name : (rule : AttributeRule) (n name : List ℕ) (attributes : List Attribute) → has_name name attributes ≡ false → has_name name (flat_map (attribute_rule rule n) attributes) ≡ false
fresh_name rule n name attributes h = each_fresh (is_dropped rule n) (valued rule) (valued_name rule) name attributes h
