-- What a table and a page that is made give.
use Rattle.std.proofs.Common.{◌≡◌, ℕ, List, Some, None, IsSome, Ok, length, refl, sym, ap, ap₂, ◌∙◌}
use Rattle.std.specs.declared.option.Option.{Option}
use Rattle.hm_base.specs.Source.{Source}
use Rattle.hm_base.specs.Walks.{Event}
use Rattle.hm_base.specs.declared.plain.TreeOptions.{TreeOptions}
use Rattle.hm_base.specs.declared.rules.Refused.{Refused}
use Rattle.hm_base.specs.declared.rules.Refused.TheVariants as refused
use Rattle.hm_fragment.specs.Trees.{built, refused_by, tree_of_source}
use Rattle.hm_measure_page.specs.Pages.{page as made_page}
use Rattle.hm_words.specs.Words.{made}
use Rattle.hm_refs.specs.Names.{Entry}
use Rattle.hm_store.specs.Contents.{Sees}
use Rattle.hm_store.specs.Files.{FileMap, file_of}
use Rattle.hm_input.specs.Inputs.{Input, IsInput, tree, bad_table, bad_page, names_of_table, page_input, rewritten_input, input_from}
use Rattle.hm_page_loading.specs.Pages.{IsRefusedAs}
use Rattle.hm_options.specs.Rewrites.{rewrite}
use Rattle.hm_input.specs.Loads.{IsPageText, IsTableOf, IsTreeOf, NoInput, NoTable, NoTextIn, NoTreeOf}
use Rattle.hm_input.specs.Reasons.{refused_as}
use Rattle.hm_input.specs.declared.unread.InputFault.{InputFault}
use Rattle.hm_input.specs.declared.unread.InputFault.TheVariants as reasons
use Rattle.hm_input.proofs.Loaded.{page_read}

-- the content of the table is one that can be known
seen_table : (told : Option FileMap) (table page : List ℕ) (o : TreeOptions) (content : Option (List ℕ)) (input : Input) → (IsSome told → file_of told table ≡ content) → input_from (page_input o) (names_of_table table content) (Some page) ≡ input
    → Sees told (λ seen. input_from (page_input o) (names_of_table table (seen table)) (Some page) ≡ input)
seen_table (Some files) table page o content input is_table is = record {
  seen = file_of (Some files);
  are_told = λ _ _. refl;
  holds = ap (λ c. input_from (page_input o) (names_of_table table c) (Some page)) (is_table refl) ∙ is;
}
seen_table None table page o content input is_table is = record { seen = λ _. content; are_told = λ h. cc; holds = is }

pub made_tree : (told : Option FileMap) (table : List ℕ) (number size : ℕ) (o : TreeOptions) (t : List Entry) (w : List Event) (n : ℕ) (v : List Event) → IsTableOf told table (Ok t) → IsTreeOf (made_page number size) t w n → v ≡ rewrite o w → IsInput told (made table number size) o (tree n t v)
made_tree told table number size o t w n v a r is = seen_table told table (made_page number size) o a.content (tree n t v) a.there
    (ap (λ x. input_from (page_input o) x (Some (made_page number size))) a.is ∙ ap (rewritten_input o t (length (made_page number size))) r.reads ∙ ap₂ (λ m x. tree m t x) (sym r.all) (sym is))

-- ---- the text of a page

pub tree_of_text : (page : List ℕ) (text : Source) (n : ℕ) (t : List Entry) (w : List Event) → IsPageText page text n → tree_of_source t text ≡ built w → IsTreeOf page t w n
tree_of_text page text n t w b e = record { reads = page_read t text page (built w) b.read e; all = b.all }

pub no_tree_of_text : (page : List ℕ) (text : Source) (n : ℕ) (t : List Entry) (r : Refused) → IsPageText page text n → IsRefusedAs (tree_of_source t text) r → NoTreeOf page t (refused_as r)
no_tree_of_text page text n t (refused.Page rule at) b e = page_read t text page (refused_by rule at) b.read e
no_tree_of_text page text n t refused.OutOfMemory b e = tt

pub no_tree_without_text : (page : List ℕ) (t : List Entry) (unread : InputFault) → NoTextIn page unread → NoTreeOf page t unread
no_tree_without_text page t (reasons.Table fault) n = absurd n
no_tree_without_text page t (reasons.Page rule at) n = n t
no_tree_without_text page t (reasons.Json fault) n = absurd n
no_tree_without_text page t reasons.Store n = absurd n
no_tree_without_text page t reasons.OutOfMemory n = tt

-- ---- by the reason why there is no tree

pub no_table : (told : Option FileMap) (table : List ℕ) (number size : ℕ) (o : TreeOptions) (unread : InputFault) → NoTable told table unread → NoInput told (made table number size) o unread
no_table told table number size o (reasons.Table fault) n = seen_table told table (made_page number size) o n.content (bad_table fault) n.there (ap (λ x. input_from (page_input o) x (Some (made_page number size))) n.is)
no_table told table number size o (reasons.Page rule at) n = absurd n
no_table told table number size o (reasons.Json fault) n = absurd n
no_table told table number size o reasons.Store n = tt
no_table told table number size o reasons.OutOfMemory n = tt

pub no_tree : (told : Option FileMap) (table : List ℕ) (number size : ℕ) (o : TreeOptions) (t : List Entry) (unread : InputFault) → IsTableOf told table (Ok t) → NoTreeOf (made_page number size) t unread → NoInput told (made table number size) o unread
no_tree told table number size o t (reasons.Table fault) a n = absurd n
no_tree told table number size o t (reasons.Page rule at) a n = seen_table told table (made_page number size) o a.content (bad_page rule at) a.there
    (ap (λ x. input_from (page_input o) x (Some (made_page number size))) a.is ∙ ap (rewritten_input o t (length (made_page number size))) n)
no_tree told table number size o t (reasons.Json fault) a n = absurd n
no_tree told table number size o t reasons.Store a n = absurd n
no_tree told table number size o t reasons.OutOfMemory a n = tt
