-- The page that a file of a store holds: its tree, or why it has none.
use Rattle.std.specs.Prelude.{ℕ, ◌≡◌, List, length, Option, Some, IsSome}
use Rattle.hm_base.specs.Walks.{Event}
use Rattle.hm_base.specs.declared.limits.TheConstants.{PAGE_LIMIT}
use Rattle.hm_base.specs.declared.rules.Refused.{Refused}
use Rattle.hm_base.specs.declared.rules.Refused.TheVariants as answers
use Rattle.hm_base.specs.declared.rules.Rule.{Rule}
use Rattle.hm_store.specs.Files.{FileMap, file_of}
use Rattle.hm_store.specs.declared.whole_files.LoadFault.{LoadFault}
use Rattle.hm_store.specs.declared.whole_files.LoadFault.TheVariants as loads
use Rattle.hm_refs.specs.Names.{Entry}
use Rattle.hm_build.specs.Trees.{built, refused_by}
-- handed on from crates/hm_build/specs, for hm_input and hm_minify, which don't list that crate
pub use Rattle.hm_build.specs.Feeding.{page_outcome_within}
pub use Rattle.hm_build.specs.Parsing.{IsRefusedAs}
use Rattle.hm_page_loading.specs.declared.fault.PageLoadFault.{PageLoadFault}
use Rattle.hm_page_loading.specs.declared.fault.PageLoadFault.TheVariants as faults

-- The page in the file of this name has this tree, and so many bytes. Where the files aren't known, some page has.
pub record IsPageTree (told : Option FileMap) (name : List ℕ) (t : List Entry) (tree : List Event) (bytes : ℕ) : Type 0 where
  pub page : List ℕ
  pub there : IsSome told → file_of told name ≡ Some page
  pub reads : page_outcome_within PAGE_LIMIT t page ≡ built tree
  pub all : bytes ≡ length page

-- The page in the file of this name is refused so.
pub record IsRefusedPage (told : Option FileMap) (name : List ℕ) (t : List Entry) (rule : Rule) (at : ℕ) : Type 0 where
  pub page : List ℕ
  pub there : IsSome told → file_of told name ≡ Some page
  pub refused : page_outcome_within PAGE_LIMIT t page ≡ refused_by rule at

-- why there is no tree; failed calls and lack of memory have other causes
abbrev pub NoPageTree : Option FileMap → List ℕ → List Entry → PageLoadFault → Type 0
NoPageTree told name t (faults.Page rule at) = IsRefusedPage told name t rule at
NoPageTree told name t faults.Store = Unit {0}
NoPageTree told name t faults.OutOfMemory = Unit {0}

-- what a failed load is called here, and a refusal
abbrev pub load_fault_of : LoadFault → PageLoadFault
load_fault_of loads.Store = faults.Store
load_fault_of loads.OutOfMemory = faults.OutOfMemory

abbrev pub fault_of : Refused → PageLoadFault
fault_of (answers.Page rule at) = faults.Page rule at
fault_of answers.OutOfMemory = faults.OutOfMemory
