-- A page that is loaded to be explained.
use Rattle.std.proofs.Common.{◌≡◌, ◌∙◌, ℕ, ◌+◌, ◌≤◌, Bool, true, false, cond, List, [], length, take, Some, Ok, refl, sym, ap, ap₂, subst, arith}
use Rattle.std.proofs.lemmas.Bool.Decides.{nat_tests}
use Rattle.std.proofs.lemmas.List.{take-take}
use Rattle.std.specs.Bool.{nat_lt}
use Rattle.std.specs.Option.{unwrap_or}
use Rattle.std.specs.declared.option.Option.{Option}
use Rattle.hm_base.specs.Faults.{HasText, IsRefusalOf}
use Rattle.hm_base.specs.Source.{Source, source_of}
use Rattle.hm_base.specs.Walks.{Event}
use Rattle.hm_base.specs.declared.limits.TheConstants.{PAGE_LIMIT}
use Rattle.hm_base.specs.declared.plain.TreeOptions.{TreeOptions}
use Rattle.hm_base.specs.declared.rules.Refused.{Refused}
use Rattle.hm_base.specs.declared.rules.Refused.TheVariants as refused
use Rattle.hm_base.specs.declared.rules.Rule.{Rule}
use Rattle.hm_base.specs.declared.rules.Rule.TheVariants.{TooLong}
use Rattle.hm_page_loading.specs.Pages.{IsRefusedAs}
use Rattle.hm_fragment.specs.Trees.{Outcome, built, refused_by, page_tree, tree_of_source}
use Rattle.hm_options.specs.Rewrites.{rewrite}
use Rattle.hm_refs.specs.Names.{Entry}
use Rattle.hm_store.specs.Files.{FileMap}
use Rattle.hm_words.specs.Words.{are_apart, page_at}
use Rattle.hm_input.specs.Explaining.{IsFound, IsRefusalFound, IsRefusedWith}
use Rattle.hm_input.specs.Inputs.{IsInput, bad_page, input_from, page_input, page_outcome, rewritten_input, tree}
use Rattle.hm_input.specs.Loads.{IsLoaded, IsTableOf}
use Rattle.hm_input.specs.declared.explained.Found.{Found}
use Rattle.hm_input.specs.declared.explained.Found.TheVariants as founds
use Rattle.hm_input.proofs.Loaded.{no_text_in, page_front, page_read, seen_both, seen_content, text_in, whole_content}

-- ---- the bytes are parsed

parsed_text : (t : List Entry) (page : List ℕ) (text : Source) (o : Outcome) → HasText PAGE_LIMIT page → text ≡ source_of page → tree_of_source t text ≡ o → page_outcome t page ≡ o
parsed_text t page text o sound is e = page_read t text page o (text_in page text sound is) e

pub built_text : (t : List Entry) (page : List ℕ) (text : Source) (w : List Event) → HasText PAGE_LIMIT page → text ≡ source_of page → tree_of_source t text ≡ built w → page_outcome t page ≡ built w
built_text t page text w sound is e = parsed_text t page text (built w) sound is e

pub refused_text : (t : List Entry) (page : List ℕ) (text : Source) (r : Refused) → HasText PAGE_LIMIT page → text ≡ source_of page → IsRefusedAs (tree_of_source t text) r → IsRefusedAs (page_outcome t page) r
refused_text t page text (refused.Page rule at) sound is e = parsed_text t page text (refused_by rule at) sound is e
refused_text t page text refused.OutOfMemory sound is e = tt

pub faulty_bytes : (t : List Entry) (page : List ℕ) (r : Refused) → IsRefusalOf r PAGE_LIMIT page → IsRefusedAs (page_outcome t page) r
faulty_bytes t page (refused.Page rule at) h = no_text_in page (refused.Page rule at) h t
faulty_bytes t page refused.OutOfMemory h = tt

-- ---- what there is of the file

built_is_short : (t : List Entry) (page : List ℕ) (w : List Event) → page_outcome t page ≡ built w → length page ≤ PAGE_LIMIT
unfolding page_outcome
built_is_short t page w e = by_length (nat_lt PAGE_LIMIT (length page)) refl e
  where
    short : nat_lt PAGE_LIMIT (length page) ≡ false → length page ≤ PAGE_LIMIT
    short is = grind (arith, nat_tests)

    by_length : (long : Bool) → nat_lt PAGE_LIMIT (length page) ≡ long → cond long (refused_by TooLong PAGE_LIMIT) (page_tree t page) ≡ built w → length page ≤ PAGE_LIMIT
    by_length true is h = cc
    by_length false is h = short is

pub found_tree : (told : Option FileMap) (table name : List ℕ) (o : TreeOptions) (t : List Entry) (bytes : List ℕ) (w v : List Event) (n : ℕ) → are_apart table name ≡ true → IsTableOf told table (Ok t) → IsLoaded told name PAGE_LIMIT bytes
    → page_outcome t bytes ≡ built w → v ≡ rewrite o w → n ≡ length bytes → IsInput told (page_at table name) o (tree n t v)
found_tree told table name o t bytes w v n apart a l e is all =
    let k = whole_content told name bytes l (built_is_short t bytes w e) in
    let reads : page_outcome t l.content ≡ built w = ap (page_outcome t) (sym k.0) ∙ e in
    seen_content told (page_input o) table name t l.content (tree n t v) apart a l.there
    (ap (rewritten_input o t (length l.content)) reads ∙ ap₂ (λ m x. tree m t x) (sym (all ∙ ap length k.0)) (sym is))

found_refused : (told : Option FileMap) (table name : List ℕ) (o : TreeOptions) (t : List Entry) (bytes : List ℕ) (rule : Rule) (at : ℕ) → are_apart table name ≡ true → IsTableOf told table (Ok t) → IsLoaded told name PAGE_LIMIT bytes
    → page_outcome t bytes ≡ refused_by rule at → IsRefusedWith told table name o bytes rule at
found_refused told table name o t bytes rule at apart a l e =
    let reads : page_outcome t l.content ≡ refused_by rule at = sym (page_front t l.content) ∙ ap (page_outcome t) (sym l.front) ∙ e in
    let s = seen_both told (page_input o) table name a.content (Some l.content) (bad_page rule at) apart a.there l.there (ap (λ x. input_from (page_input o) x (Some l.content)) a.is ∙ ap (rewritten_input o t (length l.content)) reads) in
    let same : take PAGE_LIMIT l.content ≡ take PAGE_LIMIT bytes = sym (take-take PAGE_LIMIT (PAGE_LIMIT + 1) l.content (omega arith)) ∙ ap (take PAGE_LIMIT) (sym l.front) in
    record { seen = s.seen; are_told = s.are_told; holds = (s.holds.0, ap (λ c. take PAGE_LIMIT (unwrap_or c [])) s.holds.1 ∙ same) }

pub refusal_found : (told : Option FileMap) (table name : List ℕ) (o : TreeOptions) (t : List Entry) (bytes kept : List ℕ) (r : Refused) (found : Found) → are_apart table name ≡ true → IsTableOf told table (Ok t) → IsLoaded told name PAGE_LIMIT bytes
    → IsRefusedAs (page_outcome t bytes) r → kept ≡ bytes → IsRefusalFound kept r found → IsFound told table name o found
refusal_found told table name o t bytes kept r (founds.Tree input) apart a l refused same h = absurd h
refusal_found told table name o t bytes kept r (founds.Refused page rule at) apart a l refused same h =
    subst (λ items. IsRefusedWith told table name o items rule at) (sym (h.0 ∙ same)) (found_refused told table name o t bytes rule at apart a l (subst (IsRefusedAs (page_outcome t bytes)) h.1 refused))
