-- What is known of a page that was loaded to be explained.
use Rattle.std.specs.Prelude.{ℕ, ◌≡◌, List, [], take}
use Rattle.std.specs.declared.option.Option.{Option}
use Rattle.std.specs.Option.{unwrap_or}
use Rattle.hm_base.specs.declared.limits.TheConstants.{PAGE_LIMIT}
use Rattle.hm_base.specs.declared.plain.TreeOptions.{TreeOptions}
use Rattle.hm_base.specs.declared.rules.Refused.{Refused}
use Rattle.hm_base.specs.declared.rules.Refused.TheVariants as answers
use Rattle.hm_base.specs.declared.rules.Rule.{Rule}
use Rattle.hm_elements.specs.Settled.{Settled}
use Rattle.hm_store.specs.Contents.{Sees}
use Rattle.hm_store.specs.Files.{FileMap}
use Rattle.hm_input.specs.Inputs.{IsInput, bad_page, origin_input, tree as tree_input}
use Rattle.hm_input.specs.declared.explained.Found.{Found}
use Rattle.hm_input.specs.declared.explained.Found.TheVariants as founds
use Rattle.hm_words.specs.Words.{page_at}

-- the page in a file is refused by a rule at a byte, and these bytes are those of it that were loaded
abbrev pub IsRefusedWith : Option FileMap → List ℕ → List ℕ → TreeOptions → List ℕ → Rule → ℕ → Type 0
IsRefusedWith told table page o bytes rule at = Sees told (λ seen. (origin_input (page_at table page) o seen ≡ bad_page rule at) × (take PAGE_LIMIT (unwrap_or (seen page) []) ≡ take PAGE_LIMIT bytes))

-- what there is of the page in a file: a tree, or why it is refused
abbrev pub IsFound : Option FileMap → List ℕ → List ℕ → TreeOptions → Found → Type 0
IsFound told table page o (founds.Tree input) = IsInput told (page_at table page) o (tree_input input.bytes input.table.entries input.tree) × Settled input.tree
IsFound told table page o (founds.Refused bytes rule at) = IsRefusedWith told table page o bytes.items rule at

-- what is found is that a page of these bytes is refused so
abbrev pub IsRefusalFound : List ℕ → Refused → Found → Type 0
IsRefusalFound page refused (founds.Tree input) = ⊥
IsRefusalFound page refused (founds.Refused bytes rule at) = (bytes.items ≡ page) × (refused ≡ answers.Page rule at)
