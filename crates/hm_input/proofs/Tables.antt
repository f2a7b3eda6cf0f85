-- The names that the files of a run give are a table.
use Rattle.std.proofs.Common.{◌≡◌, ℕ, Bool, true, false, List, [], length, Some, None, Result, Ok, Err, refl, sym, ◌∙◌, subst}
use Rattle.std.specs.declared.option.Option.{Option}
use Rattle.hm_base.specs.Walks.{Event}
use Rattle.hm_base.specs.declared.plain.TreeOptions.{TreeOptions}
use Rattle.hm_fragment.specs.Trees.{Outcome, built, refused_by}
use Rattle.hm_measure_page.specs.Pages.{page as made_page}
use Rattle.hm_input.specs.Inputs.{Input, tree as tree_input, input_from, fragment_input, fragment_outcome, json_input, origin_input, is_html, is_none, names_of_table, page_input, page_outcome, rewritten_input, table_names, walk_input}
use Rattle.hm_json_tree.specs.Reading.{JsonWalk, walk, too_long, not_json, not_array, no_event, some_open, not_settled, json_walk}
use Rattle.hm_html_names.proofs.Alike.{html_is}
use Rattle.hm_html_names.proofs.Computing.{is_ready}
use Rattle.hm_html_names.specs.HtmlNames.{html_entries}
use Rattle.hm_refs.proofs.Gathered.{no_table}
use Rattle.hm_refs.proofs.Members.{names_table}
use Rattle.hm_refs.specs.Json.{names}
use Rattle.hm_refs.specs.Names.{Entry}
use Rattle.hm_refs.specs.Tables.{IsTable}
use Rattle.hm_refs.specs.declared.fault.TableFault.{TableFault}
use Rattle.hm_store.specs.Contents.{Contents}
use Rattle.hm_words.specs.Words.{Origin, page_at, fragment_at, json_at, made}

-- ---- The table

content_is_table : (o : Option (Result (List Entry) TableFault)) (t : List Entry) (content : Option (List ℕ)) → o ≡ table_names false false content → o ≡ Some (Ok t) → IsTable t
content_is_table o t None is e = let h : None ≡ Some (Ok t) = sym is ∙ e in cc
content_is_table o t (Some bytes) is e = names_table bytes t (let h : Some (names bytes) ≡ Some (Ok t) = sym is ∙ e in cc)

standard_is_table : (o : Option (Result (List Entry) TableFault)) (e t : List Entry) → IsTable e → o ≡ Some (Ok e) → o ≡ Some (Ok t) → IsTable t
standard_is_table o e t k has is = let h : e ≡ t = cc in subst IsTable h k

pub table_is : (none html : Bool) (content : Option (List ℕ)) (t : List Entry) → table_names none html content ≡ Some (Ok t) → IsTable t
table_is true html content t e = let h : [] ≡ t = cc in subst IsTable h no_table
table_is false true content t e = standard_is_table (table_names false true content) html_entries t (subst IsTable html_is is_ready.table) refl e
table_is false false content t e = content_is_table (table_names false false content) t content refl e

-- ---- The table of a request

rewritten_names : (t u : List Entry) (o : TreeOptions) (n m : ℕ) (w : List Event) (x : Outcome) → rewritten_input o t n x ≡ tree_input m u w → t ≡ u
rewritten_names t u o n m w (built v) e = let h : t ≡ u = cc in h
rewritten_names t u o n m w (refused_by rule at) e = cc

walk_names : (t u : List Entry) (o : TreeOptions) (n m : ℕ) (w : List Event) (x : JsonWalk) → walk_input o t n x ≡ tree_input m u w → t ≡ u
walk_names t u o n m w (walk v) e = let h : t ≡ u = cc in h
walk_names t u o n m w too_long e = cc
walk_names t u o n m w not_json e = cc
walk_names t u o n m w not_array e = cc
walk_names t u o n m w (no_event i) e = cc
walk_names t u o n m w (some_open k) e = cc
walk_names t u o n m w (not_settled b) e = cc

-- what is read of a second file gives the names of the table on
abbrev KeepsNames : (List Entry → List ℕ → Input) → Type 0
KeepsNames reads = (t u : List Entry) (content : List ℕ) (m : ℕ) (w : List Event) → reads t content ≡ tree_input m u w → t ≡ u

pages_keep : (o : TreeOptions) → KeepsNames (page_input o)
pages_keep o t u page m w e = rewritten_names t u o (length page) m w (page_outcome t page) e

fragments_keep : (o : TreeOptions) → KeepsNames (fragment_input o)
fragments_keep o t u fragment m w e = rewritten_names t u o (length fragment) m w (fragment_outcome t fragment) e

json_keeps : (o : TreeOptions) → KeepsNames (json_input o)
json_keeps o t u json m w e = walk_names t u o (length json) m w (json_walk json) e

file_table : (reads : List Entry → List ℕ → Input) → KeepsNames reads → (m : ℕ) (t u : List Entry) (w : List Event) (content : Option (List ℕ)) → IsTable t → input_from reads (Some (Ok t)) content ≡ tree_input m u w → IsTable u
file_table reads keeps m t u w None k e = cc
file_table reads keeps m t u w (Some content) k e = subst IsTable (keeps t u content m w e) k

input_table : (reads : List Entry → List ℕ → Input) → KeepsNames reads → (m : ℕ) (u : List Entry) (w : List Event) (none html : Bool) (content page : Option (List ℕ)) (names : Option (Result (List Entry) TableFault)) → table_names none html content ≡ names → input_from reads names page ≡ tree_input m u w → IsTable u
input_table reads keeps m u w none html content page None is e = cc
input_table reads keeps m u w none html content page (Some (Err fault)) is e = cc
input_table reads keeps m u w none html content page (Some (Ok t)) is e = file_table reads keeps m t u w page (table_is none html content t is) e

pub origin_table : (origin : Origin) (o : TreeOptions) (seen : Contents) (m : ℕ) (t : List Entry) (w : List Event) → origin_input origin o seen ≡ tree_input m t w → IsTable t
origin_table (page_at table page) o seen m t w e = input_table (page_input o) (pages_keep o) m t w (is_none table) (is_html table) (seen table) (seen page) (names_of_table table (seen table)) refl e
origin_table (fragment_at table page) o seen m t w e = input_table (fragment_input o) (fragments_keep o) m t w (is_none table) (is_html table) (seen table) (seen page) (names_of_table table (seen table)) refl e
origin_table (json_at table page) o seen m t w e = input_table (json_input o) (json_keeps o) m t w (is_none table) (is_html table) (seen table) (seen page) (names_of_table table (seen table)) refl e
origin_table (made table number size) o seen m t w e = input_table (page_input o) (pages_keep o) m t w (is_none table) (is_html table) (seen table) (Some (made_page number size)) (names_of_table table (seen table)) refl e
