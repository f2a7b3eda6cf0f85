-- Generated pages are read.
use Rattle.std.specs.Prelude.{◌≡◌, ℕ, ◌^◌, ◌<◌, List}
use Rattle.hm_base.specs.Walks.{Event}
use Rattle.hm_elements.specs.Settled.{Settled}
use Rattle.hm_refs.specs.Names.{Entry}
use Rattle.hm_refs.specs.Tables.{IsTable}
use Rattle.hm_construction_laws.specs.Trees.{built, tree_of_text, page_tree}
use Rattle.hm_measure_page.specs.Pages.{page}

-- a tree is built of the page, and of its text by itself, and it is settled
pub record IsBuilt (t : List Entry) (s : List ℕ) : Type 0 where
  pub tree : List Event
  pub of_page : page_tree t s ≡ built tree
  pub of_text : tree_of_text t s ≡ built tree
  pub settled : Settled tree

-- Each page of a number is read, whatever the names of references.
abbrev pub PagesAreBuilt : Type 0
PagesAreBuilt = (t : List Entry) (number size : ℕ) → IsTable t → number < 2 ^ 32 → size < 2 ^ 32 → IsBuilt t (page number size)
