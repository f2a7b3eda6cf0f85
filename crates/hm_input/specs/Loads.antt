-- What is known of a file that was loaded.
use Rattle.std.specs.Prelude.{ℕ, ◌≡◌, ◌⊎◌, ◌+◌, false, nat_lt, List, length, take, Option, Some, None, IsSome, Result, Ok, Err}
use Rattle.hm_base.specs.Source.{Source, source_of, text_fault}
use Rattle.hm_base.specs.Walks.{Event}
use Rattle.hm_base.specs.declared.limits.TheConstants.{PAGE_LIMIT}
use Rattle.hm_base.specs.declared.plain.TreeOptions.{TreeOptions}
use Rattle.hm_base.specs.declared.rules.Rule.{Rule}
use Rattle.hm_store.specs.Files.{FileMap, file_of, IsMissing}
use Rattle.hm_refs.specs.Names.{Entry}
use Rattle.hm_refs.specs.declared.fault.TableFault.{TableFault}
use Rattle.hm_fragment.specs.Trees.{built, refused_by}
use Rattle.hm_fragment.specs.Fragments.{fragment_tree}
use Rattle.hm_measure_page.specs.Pages.{page as made_page}
use Rattle.hm_page_loading.specs.Pages.{IsPageTree, IsRefusedPage}
use Rattle.hm_json_tree.specs.Reading.{json_walk, walk}
use Rattle.hm_json_tree.specs.declared.fault.JsonFault.{JsonFault}
use Rattle.hm_options.specs.Rewrites.{rewrite}
use Rattle.hm_input.specs.Inputs.{Input, IsInput, bad_table, bad_page, bad_json, json_input, names_of_table, fragment_outcome, page_outcome}
use Rattle.hm_words.specs.Words.{Origin, page_at, fragment_at, json_at, made, is_table_word}
use Rattle.hm_input.specs.declared.unread.InputFault.{InputFault}
use Rattle.hm_input.specs.declared.unread.InputFault.TheVariants as reasons

-- the bytes that were loaded of a file with this content, one more than the limit at most
pub record IsLoaded (told : Option FileMap) (name : List ℕ) (limit : ℕ) (bytes : List ℕ) : Type 0 where
  pub content : List ℕ
  pub there : IsSome told → file_of told name ≡ Some content
  pub front : bytes ≡ take (limit + 1) content

-- what a table gives
pub record IsTableOf (told : Option FileMap) (name : List ℕ) (read : Result (List Entry) TableFault) : Type 0 where
  pub content : Option (List ℕ)
  pub there : IsSome told → file_of told name ≡ content
  pub is : names_of_table name content ≡ Some read

-- the text of a page within the limit
pub record IsTextIn (page : List ℕ) (text : Source) : Type 0 where
  pub short : nat_lt PAGE_LIMIT (length page) ≡ false
  pub sound : text_fault page ≡ None
  pub is : text ≡ source_of page

-- the text of a page within the limit, with how many bytes the page has
pub record IsPageText (page : List ℕ) (text : Source) (bytes : ℕ) : Type 0 where
  pub read : IsTextIn page text
  pub all : bytes ≡ length page

-- the tree of a page, with how many bytes the page has
pub record IsTreeOf (page : List ℕ) (t : List Entry) (tree : List Event) (bytes : ℕ) : Type 0 where
  pub reads : page_outcome t page ≡ built tree
  pub all : bytes ≡ length page

-- the tree of the fragment in a file, with how many bytes that has
pub record IsFragmentOf (told : Option FileMap) (name : List ℕ) (t : List Entry) (tree : List Event) (bytes : ℕ) : Type 0 where
  pub fragment : List ℕ
  pub there : IsSome told → file_of told name ≡ Some fragment
  pub reads : fragment_outcome t fragment ≡ built tree
  pub all : bytes ≡ length fragment

-- the fragment in a file is refused
pub record IsRefusedFragment (told : Option FileMap) (name : List ℕ) (t : List Entry) (rule : Rule) (at : ℕ) : Type 0 where
  pub fragment : List ℕ
  pub there : IsSome told → file_of told name ≡ Some fragment
  pub refused : fragment_outcome t fragment ≡ refused_by rule at

-- the tree for which the JSON in a file stands, with how many bytes that has
pub record IsWalkOf (told : Option FileMap) (name : List ℕ) (tree : List Event) (bytes : ℕ) : Type 0 where
  pub json : List ℕ
  pub there : IsSome told → file_of told name ≡ Some json
  pub reads : json_walk json ≡ walk tree
  pub all : bytes ≡ length json

-- JSON stands for no tree, whatever the rewrites and the names of references
abbrev pub IsNoWalk : List ℕ → JsonFault → Type 0
IsNoWalk json fault = (o : TreeOptions) (t : List Entry) → json_input o t json ≡ bad_json fault

-- so does that in a file
pub record IsRefusedJson (told : Option FileMap) (name : List ℕ) (fault : JsonFault) : Type 0 where
  pub json : List ℕ
  pub there : IsSome told → file_of told name ≡ Some json
  pub refused : IsNoWalk json fault

-- why a page has no tree
abbrev pub NoTreeOf : List ℕ → List Entry → InputFault → Type 0
NoTreeOf page t (reasons.Table fault) = ⊥
NoTreeOf page t (reasons.Page rule at) = page_outcome t page ≡ refused_by rule at
NoTreeOf page t (reasons.Json fault) = ⊥
NoTreeOf page t reasons.Store = ⊥
NoTreeOf page t reasons.OutOfMemory = Unit {0}

-- why there is no tree of the page in a file
abbrev pub NoPage : Option FileMap → List ℕ → List Entry → InputFault → Type 0
NoPage told name t (reasons.Table fault) = ⊥
NoPage told name t (reasons.Page rule at) = IsRefusedPage told name t rule at
NoPage told name t (reasons.Json fault) = ⊥
NoPage told name t reasons.Store = Unit {0}
NoPage told name t reasons.OutOfMemory = Unit {0}

-- a table that can be read
pub record HasNames (told : Option FileMap) (name : List ℕ) : Type 0 where
  pub entries : List Entry
  pub read : IsTableOf told name (Ok entries)

-- a file that is read isn't there: the table, or where there is one that can be read, the page
abbrev pub IsFileMissing : Option FileMap → List ℕ → List ℕ → Type 0
IsFileMissing told table page = ((is_table_word table ≡ false) × IsMissing told table) ⊎ (HasNames told table × IsMissing told page)

-- why there is no table; failed calls and lack of memory have other causes
abbrev pub NoTable : Option FileMap → List ℕ → InputFault → Type 0
NoTable told name (reasons.Table fault) = IsTableOf told name (Err fault)
NoTable told name (reasons.Page rule at) = ⊥
NoTable told name (reasons.Json fault) = ⊥
NoTable told name reasons.Store = Unit {0}
NoTable told name reasons.OutOfMemory = Unit {0}

-- why a page has no text, whatever the names of references
abbrev pub NoTextIn : List ℕ → InputFault → Type 0
NoTextIn page (reasons.Table fault) = ⊥
NoTextIn page (reasons.Page rule at) = (t : List Entry) → page_outcome t page ≡ refused_by rule at
NoTextIn page (reasons.Json fault) = ⊥
NoTextIn page reasons.Store = ⊥
NoTextIn page reasons.OutOfMemory = Unit {0}

-- why a fragment has no tree
abbrev pub NoFragmentIn : List Entry → List ℕ → InputFault → Type 0
NoFragmentIn t fragment (reasons.Table fault) = ⊥
NoFragmentIn t fragment (reasons.Page rule at) = fragment_tree t fragment ≡ refused_by rule at
NoFragmentIn t fragment (reasons.Json fault) = ⊥
NoFragmentIn t fragment reasons.Store = ⊥
NoFragmentIn t fragment reasons.OutOfMemory = Unit {0}

-- why there is no tree of the fragment in a file
abbrev pub NoFragment : Option FileMap → List ℕ → List Entry → InputFault → Type 0
NoFragment told name t (reasons.Table fault) = ⊥
NoFragment told name t (reasons.Page rule at) = IsRefusedFragment told name t rule at
NoFragment told name t (reasons.Json fault) = ⊥
NoFragment told name t reasons.Store = Unit {0}
NoFragment told name t reasons.OutOfMemory = Unit {0}

-- why there is no tree in the JSON of a file
abbrev pub NoWalk : Option FileMap → List ℕ → InputFault → Type 0
NoWalk told name (reasons.Table fault) = ⊥
NoWalk told name (reasons.Page rule at) = ⊥
NoWalk told name (reasons.Json fault) = IsRefusedJson told name fault
NoWalk told name reasons.Store = Unit {0}
NoWalk told name reasons.OutOfMemory = Unit {0}

-- ---- an origin with the names of its table

abbrev pub table_of : Origin → List ℕ
table_of (page_at table page) = table
table_of (fragment_at table page) = table
table_of (json_at table page) = table
table_of (made table number size) = table

-- it gives this tree, with how many bytes its page has, or its JSON
abbrev pub IsOriginRead : Option FileMap → Origin → List Entry → List Event → ℕ → Type 0
IsOriginRead told (page_at table page) t tree bytes = IsPageTree told page t tree bytes
IsOriginRead told (fragment_at table page) t tree bytes = IsFragmentOf told page t tree bytes
IsOriginRead told (json_at table page) t tree bytes = IsWalkOf told page tree bytes
IsOriginRead told (made table number size) t tree bytes = IsTreeOf (made_page number size) t tree bytes

-- so it does after rewrites
pub record IsOriginTree (told : Option FileMap) (origin : Origin) (t : List Entry) (o : TreeOptions) (tree : List Event) (bytes : ℕ) : Type 0 where
  pub walk : List Event
  pub read : IsOriginRead told origin t walk bytes
  pub is : tree ≡ rewrite o walk

-- why it gives none
abbrev pub NoOriginRead : Option FileMap → Origin → List Entry → InputFault → Type 0
NoOriginRead told (page_at table page) t unread = NoPage told page t unread
NoOriginRead told (fragment_at table page) t unread = NoFragment told page t unread
NoOriginRead told (json_at table page) t unread = NoWalk told page unread
NoOriginRead told (made table number size) t unread = NoTreeOf (made_page number size) t unread

-- its page, or its JSON, isn't there
abbrev pub IsOriginMissing : Option FileMap → Origin → Type 0
IsOriginMissing told (page_at table page) = IsMissing told page
IsOriginMissing told (fragment_at table page) = IsMissing told page
IsOriginMissing told (json_at table page) = IsMissing told page
IsOriginMissing told (made table number size) = ⊥

-- why there is no tree, by what is said of an input
abbrev pub NoInputWhere : (Input → Type 0) → InputFault → Type 0
NoInputWhere Is (reasons.Table fault) = Is (bad_table fault)
NoInputWhere Is (reasons.Page rule at) = Is (bad_page rule at)
NoInputWhere Is (reasons.Json fault) = Is (bad_json fault)
NoInputWhere Is reasons.Store = Unit {0}
NoInputWhere Is reasons.OutOfMemory = Unit {0}

abbrev pub NoInput : Option FileMap → Origin → TreeOptions → InputFault → Type 0
NoInput told origin o unread = NoInputWhere (IsInput told origin o) unread
