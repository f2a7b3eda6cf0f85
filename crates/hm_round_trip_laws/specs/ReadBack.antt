-- What is written is read back.
use Rattle.std.specs.Prelude.{◌≡◌, ℕ, Bool, List}
use Rattle.hm_base.specs.Walks.{Event}
use Rattle.hm_base.specs.declared.plain.SpellRules.{SpellRules}
use Rattle.hm_base.specs.declared.plain.TreeOptions.{TreeOptions}
use Rattle.hm_elements.specs.Settled.{Settled}
use Rattle.hm_refs.specs.Names.{Entry}
use Rattle.hm_refs.specs.Tables.{IsTable}
use Rattle.hm_options.specs.Rewrites.{rewrite}
use Rattle.hm_spelling_spec.specs.Spellings.{Spells, SpellsWhere}
use Rattle.hm_construction_laws.specs.Trees.{built, tree_of_text, page_tree}

-- Every spelling of a settled tree, by any rules and with any table of names, is a page whose tree it is.
abbrev pub SpellingsAreReadBack : Type 0
SpellingsAreReadBack = (refers : ℕ → Bool) (t : List Entry) (r : SpellRules) (w : List Event) (b : List ℕ) → IsTable t → Settled w → SpellsWhere refers t r w b → page_tree t b ≡ built w

-- The text of such a page is itself read so.
abbrev pub TextsAreReadBack : Type 0
TextsAreReadBack = (refers : ℕ → Bool) (t : List Entry) (r : SpellRules) (w : List Event) (b : List ℕ) → IsTable t → Settled w → SpellsWhere refers t r w b → tree_of_text t b ≡ built w

-- Whatever page is read and however its tree is rewritten, every spelling of that tree is read back as it.
abbrev pub RewrittenIsReadBack : Type 0
RewrittenIsReadBack = (t : List Entry) (r : SpellRules) (o : TreeOptions) (page : List ℕ) (w : List Event) (b : List ℕ) → IsTable t → page_tree t page ≡ built w → Spells t r (rewrite o w) b → page_tree t b ≡ built (rewrite o w)
