-- The rewrites of a tree, and all that options ask for in their order.
use Rattle.std.specs.Prelude.{ℕ, Bool, false, ◌&&◌, List, [], ◌∷◌, Option, None, if◌then◌else◌, map}
use Rattle.hm_base.specs.Bytes.{is_space, all_pass}
use Rattle.hm_base.specs.Walks.{Event, doctype, start, comment, Attribute, Element, pushes}
use Rattle.hm_base.specs.declared.plain.TreeOptions.{TreeOptions}
use Rattle.hm_elements.specs.Attributes.{nothing_blank, is_redundant}
use Rattle.hm_elements.specs.Names.{is_among}
use Rattle.hm_elements.specs.Tables.{is_boolean}
use Rattle.hm_options.specs.Rewritten.{rewritten}
use Rattle.hm_options.specs.Space.{collapsed}

-- the legacy doctype as the plain one
abbrev pub plain_doctype : List Element → Option Event → Event → Option Event → List Event
plain_doctype path before (doctype legacy) next = doctype false ∷ []
plain_doctype path before e next = e ∷ []

-- no comment
abbrev pub no_comment : List Element → Option Event → Event → Option Event → List Event
no_comment path before (comment s) next = []
no_comment path before e next = e ∷ []

-- the attributes of an HTML element, each rewritten or removed
abbrev pub with_attributes : (List ℕ → List Attribute → List Attribute) → List Element → Option Event → Event → Option Event → List Event
with_attributes f path before (start n false attributes) next = start n false (f n attributes) ∷ []
with_attributes f path before e next = e ∷ []

-- the value of a boolean attribute says nothing
abbrev pub without_value : Attribute → Attribute
without_value a = if is_boolean a.name then record { name = a.name; value = [] } else a

abbrev pub no_boolean_values : List ℕ → List Attribute → List Attribute
no_boolean_values n attributes = map without_value attributes

-- those that don't pass
abbrev pub without : (Attribute → Bool) → List Attribute → List Attribute
without test [] = []
without test (a ∷ attributes) = if test a then without test attributes else a ∷ without test attributes

-- a class, an id or a style of nothing but whitespace
unfoldable pub is_empty : Attribute → Bool
is_empty a = is_among a.name nothing_blank && all_pass is_space a.value

abbrev pub no_empty : List ℕ → List Attribute → List Attribute
no_empty n attributes = without is_empty attributes

abbrev pub no_redundant : List ℕ → List Attribute → List Attribute
no_redundant n attributes = without (is_redundant n) attributes

abbrev pub by : (List Element → Option Event → Event → Option Event → List Event) → List Event → List Event
by f w = rewritten f [] None w

-- a rewrite, where it is asked for
abbrev pub where_set : Bool → (List Event → List Event) → List Event → List Event
where_set flag f w = if flag then f w else w

-- without comments, the texts that then touch joined
abbrev pub uncommented : List Event → List Event
uncommented w = pushes (by no_comment w) []

-- the walk that the options ask for
unfoldable pub rewrite : TreeOptions → List Event → List Event
rewrite o w =
    where_set o.space (collapsed o.conservative)
    (where_set o.redundant (by (with_attributes no_redundant))
    (where_set o.empty (by (with_attributes no_empty))
    (where_set o.booleans (by (with_attributes no_boolean_values))
    (where_set o.comments uncommented
    (where_set o.doctype (by plain_doctype) w)))))
