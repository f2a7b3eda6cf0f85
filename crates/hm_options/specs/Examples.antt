-- Rewrites, on examples.
use Rattle.std.specs.Prelude.{◌≡◌, ℕ, true, false, List, [], ◌∷◌, codes, refl}
use Rattle.hm_base.specs.Bytes.{is_space, lower}
use Rattle.hm_base.specs.Walks.{Attribute, doctype, start, text, comment}
use Rattle.hm_base.specs.declared.plain.TreeOptions.{TreeOptions}
use Rattle.hm_elements.specs.Names.{is_among}
use Rattle.hm_elements.specs.Tables.{is_boolean, boolean_attributes}
use Rattle.hm_elements.specs.Attributes.{is_redundant, is_default, defaults}
use Rattle.hm_options.specs.Rewrites.{rewrite, is_empty}

abbrev attribute : List ℕ → List ℕ → Attribute
attribute n v = record { name = n; value = v }

abbrev none_set : TreeOptions
none_set = record { doctype = false; comments = false; booleans = false; empty = false; redundant = false; space = false; conservative = false }

without_comments : rewrite (record none_set { comments = true }) (text (codes "a<") false ∷ comment (codes "c") ∷ text (codes "b") false ∷ []) ≡ text (codes "a<b") false ∷ []
unfolding rewrite
without_comments = refl

without_attributes : rewrite (record none_set { booleans = true; empty = true; redundant = true })
    (start (codes "form") false (attribute (codes "method") (codes "GET") ∷ []) ∷ start (codes "input") false (attribute (codes "type") (codes "text") ∷ attribute (codes "disabled") (codes "x") ∷ attribute (codes "class") (codes " ") ∷ []) ∷ [])
    ≡ start (codes "form") false [] ∷ start (codes "input") false (attribute (codes "disabled") [] ∷ []) ∷ []
unfolding rewrite is_boolean boolean_attributes is_among is_empty is_space is_redundant is_default defaults lower
without_attributes = refl

plain : rewrite (record none_set { doctype = true }) (doctype true ∷ []) ≡ doctype false ∷ []
unfolding rewrite
plain = refl
