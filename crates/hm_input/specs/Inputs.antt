-- What the files of a request give: a table of names with the tree that is wanted, or the first reason why there is none.
use Rattle.std.specs.Prelude.{ℕ, ◌≡◌, Bool, true, false, nat_lt, List, [], length, Option, Some, None, option_map, Result, Ok, Err, if◌then◌else◌, codes, bytes_eq}
use Rattle.hm_base.specs.Walks.{Event}
use Rattle.hm_base.specs.declared.limits.TheConstants.{PAGE_LIMIT}
use Rattle.hm_base.specs.declared.plain.TreeOptions.{TreeOptions}
use Rattle.hm_base.specs.declared.rules.Rule.{Rule}
use Rattle.hm_base.specs.declared.rules.Rule.TheVariants.{TooLong}
use Rattle.hm_store.specs.Contents.{Contents, Sees}
use Rattle.hm_store.specs.Files.{FileMap}
use Rattle.hm_refs.specs.Json.{names}
use Rattle.hm_refs.specs.Names.{Entry}
use Rattle.hm_refs.specs.declared.fault.TableFault.{TableFault}
use Rattle.hm_fragment.specs.Trees.{Outcome, built, refused_by, page_tree}
use Rattle.hm_fragment.specs.Fragments.{fragment_tree}
use Rattle.hm_measure_page.specs.Pages.{page as made_page}
use Rattle.hm_html_names.specs.HtmlNames.{html_entries}
use Rattle.hm_json_tree.specs.Reading.{JsonWalk, walk, too_long, not_json, not_array, no_event, some_open, not_settled, json_walk}
use Rattle.hm_json_tree.specs.declared.fault.JsonFault.{JsonFault}
use Rattle.hm_json_tree.specs.declared.fault.JsonFault.TheVariants as json_faults
use Rattle.hm_options.specs.Rewrites.{rewrite}
use Rattle.hm_words.specs.Words.{Origin, page_at, fragment_at, json_at, made}

pub data Input : Type 0 where
  missing : Input  -- a file isn't there
  bad_table : TableFault → Input
  bad_page : Rule → ℕ → Input  -- at a byte of the page
  bad_json : JsonFault → Input  -- the JSON stands for no tree
  tree : ℕ → List Entry → List Event → Input  -- how many bytes the page has, or its JSON, the names of the table, and the tree

-- ---- a table

-- the name of the table without names, which is no file
abbrev pub is_none : List ℕ → Bool
is_none name = bytes_eq name (codes "none")

-- the name of the table of the HTML Standard, which is no file either
abbrev pub is_html : List ℕ → Bool
is_html name = bytes_eq name (codes "html")

-- no names, or those of the standard, or those that the content of a file gives, where it is there
abbrev pub table_names : Bool → Bool → Option (List ℕ) → Option (Result (List Entry) TableFault)
table_names true html content = Some (Ok [])
table_names false true content = Some (Ok html_entries)
table_names false false content = option_map names content

-- what a name of a table gives, by the content of a file of that name
abbrev pub names_of_table : List ℕ → Option (List ℕ) → Option (Result (List Entry) TableFault)
names_of_table name content = table_names (is_none name) (is_html name) content

-- ---- a page

-- the tree of a page within the limit
unfoldable pub page_outcome : List Entry → List ℕ → Outcome
page_outcome t page = if nat_lt PAGE_LIMIT (length page) then refused_by TooLong PAGE_LIMIT else page_tree t page

-- a page of `bytes` bytes that is read so
abbrev pub rewritten_input : TreeOptions → List Entry → ℕ → Outcome → Input
rewritten_input o t bytes (built w) = tree bytes t (rewrite o w)
rewritten_input o t bytes (refused_by rule at) = bad_page rule at

-- what a page gives with the names of a table
abbrev pub page_input : TreeOptions → List Entry → List ℕ → Input
page_input o t page = rewritten_input o t (length page) (page_outcome t page)

-- ---- a fragment

-- the tree of a fragment within the limit
unfoldable pub fragment_outcome : List Entry → List ℕ → Outcome
fragment_outcome t fragment = if nat_lt PAGE_LIMIT (length fragment) then refused_by TooLong PAGE_LIMIT else fragment_tree t fragment

-- what a fragment gives with the names of a table
abbrev pub fragment_input : TreeOptions → List Entry → List ℕ → Input
fragment_input o t fragment = rewritten_input o t (length fragment) (fragment_outcome t fragment)

-- ---- a tree as JSON

-- the tree for which `bytes` bytes of JSON stand
abbrev pub walk_input : TreeOptions → List Entry → ℕ → JsonWalk → Input
walk_input o t bytes (walk w) = tree bytes t (rewrite o w)
walk_input o t bytes too_long = bad_json json_faults.TooLong
walk_input o t bytes not_json = bad_json json_faults.NotJson
walk_input o t bytes not_array = bad_json json_faults.NotArray
walk_input o t bytes (no_event i) = bad_json (json_faults.BadEvent i)
walk_input o t bytes (some_open n) = bad_json (json_faults.Open n)
walk_input o t bytes (not_settled b) = bad_json (json_faults.NotSettled b.event b.point)

-- what JSON gives, whatever the names of the table
abbrev pub json_input : TreeOptions → List Entry → List ℕ → Input
json_input o t bytes = walk_input o t (length bytes) (json_walk bytes)

-- ---- both

-- what the contents of two files give, by what the second one gives with a table: the table is read first
abbrev pub input_from : (List Entry → List ℕ → Input) → Option (Result (List Entry) TableFault) → Option (List ℕ) → Input
input_from reads None content = missing
input_from reads (Some (Err fault)) content = bad_table fault
input_from reads (Some (Ok t)) None = missing
input_from reads (Some (Ok t)) (Some content) = reads t content

-- what a table and a second file give
abbrev pub file_with_table : (List Entry → List ℕ → Input) → List ℕ → List ℕ → Contents → Input
file_with_table reads table name seen = input_from reads (names_of_table table (seen table)) (seen name)

-- what a table gives with a page
abbrev pub given_with_table : TreeOptions → List ℕ → List ℕ → Contents → Input
given_with_table o table page seen = input_from (page_input o) (names_of_table table (seen table)) (Some page)

-- what the files of an origin give
abbrev pub origin_input : Origin → TreeOptions → Contents → Input
origin_input (page_at table page) o seen = file_with_table (page_input o) table page seen
origin_input (fragment_at table page) o seen = file_with_table (fragment_input o) table page seen
origin_input (json_at table page) o seen = file_with_table (json_input o) table page seen
origin_input (made table number size) o seen = given_with_table o table (made_page number size) seen

-- An origin gives this, as far as the store's files are known.
abbrev pub IsInput : Option FileMap → Origin → TreeOptions → Input → Type 0
IsInput told origin o input = Sees told (λ seen. origin_input origin o seen ≡ input)
