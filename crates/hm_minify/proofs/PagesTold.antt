-- What the ending of an explanation says of its request.
use Rattle.std.proofs.Common.{◌≡◌, ◌∙◌, ℕ, List, [], length, Some, None, Ok, Err, refl, sym, ap, subst}
use Rattle.std.specs.Option.{unwrap_or}
use Rattle.std.specs.declared.option.Option.{Option}
use Rattle.std.specs.declared.result.Result.{Result}
use Rattle.std.specs.Io.KnownBytes.{append_known}
use Rattle.hm_base.specs.Walks.{Event}
use Rattle.hm_base.specs.declared.plain.TreeOptions.{TreeOptions}
use Rattle.hm_base.specs.declared.rules.Rule.{Rule}
use Rattle.hm_input.specs.Trees.{Outcome, built, refused_by}
use Rattle.hm_order.specs.Shortest.{certificate_of, shortest_text}
use Rattle.hm_refs.specs.Names.{Entry}
use Rattle.hm_refs.specs.declared.fault.TableFault.{TableFault}
use Rattle.hm_store.specs.Contents.{AreTold, Contents, Sees}
use Rattle.hm_words.specs.Words.{Asked, asked, explains, page_at}
use Rattle.hm_minify.specs.Endings.{IsReadableAsked, IsReadableBy, ending, format_of, page_name, refusal}
use Rattle.hm_location.specs.Explanations.{explained_page, settled_line}
use Rattle.hm_input.specs.Inputs.{Input, bad_json, bad_page, bad_table, input_from, missing, names_of_table, origin_input, page_input, page_outcome, rewritten_input, tree as tree_input}
use Rattle.hm_minify.specs.Wanted.{input_of, wanted}
use Rattle.hm_minify.specs.Outside.{Outside}
use Rattle.hm_minify.specs.Runs.{Ends, EndsAs, HasExplained, HasSettled}
use Rattle.hm_minify.specs.declared.status.Status.{Status}
use Rattle.hm_minify.specs.declared.status.Status.TheVariants as status
use Rattle.hm_minify.proofs.Headline.{input_is_shortest}
use Rattle.hm_minify.proofs.Meanings.{EndsBy, of_work}

-- ---- the content of the page

-- a content is there, and has so many bytes where there is a tree
record IsThere (content : Option (List ℕ)) : Type 0 where
  page : List ℕ
  is : content ≡ Some page

record HasLength (content : Option (List ℕ)) (n : ℕ) : Type 0 where
  page : List ℕ
  is : content ≡ Some page
  all : n ≡ length page

refused_content : (o : TreeOptions) (names : Option (Result (List Entry) TableFault)) (content : Option (List ℕ)) (rule : Rule) (at : ℕ) → input_from (page_input o) names content ≡ bad_page rule at → IsThere content
refused_content o None content rule at e = cc
refused_content o (Some (Err fault)) content rule at e = cc
refused_content o (Some (Ok t)) None rule at e = cc
refused_content o (Some (Ok t)) (Some page) rule at e = record { page = page; is = refl }

tree_content : (o : TreeOptions) (u t : List Entry) (page : List ℕ) (n : ℕ) (v : List Event) (x : Outcome) → rewritten_input o u (length page) x ≡ tree_input n t v → n ≡ length page
tree_content o u t page n v (built w) e = cc
tree_content o u t page n v (refused_by rule at) e = cc

settled_content : (o : TreeOptions) (names : Option (Result (List Entry) TableFault)) (content : Option (List ℕ)) (n : ℕ) (t : List Entry) (v : List Event) → input_from (page_input o) names content ≡ tree_input n t v → HasLength content n
settled_content o None content n t v e = cc
settled_content o (Some (Err fault)) content n t v e = cc
settled_content o (Some (Ok u)) None n t v e = cc
settled_content o (Some (Ok u)) (Some page) n t v e = record { page = page; is = refl; all = tree_content o u t page n v (page_outcome u page) e }

-- what is wanted of an input is refused where the input is
wanted_refused : (q : Asked) (x : Input) (rule : Rule) (at : ℕ) → wanted q x ≡ bad_page rule at → x ≡ bad_page rule at
wanted_refused q missing rule at e = cc
wanted_refused q (bad_table fault) rule at e = cc
wanted_refused q (bad_page known place) rule at e = e
wanted_refused q (bad_json fault) rule at e = cc
wanted_refused q (tree_input n t w) rule at e = cc

record IsOf (x : Input) (n : ℕ) : Type 0 where
  names : List Entry
  walk : List Event
  is : x ≡ tree_input n names walk

wanted_tree_of : (q : Asked) (x : Input) (n : ℕ) (t : List Entry) (v : List Event) → wanted q x ≡ tree_input n t v → IsOf x n
wanted_tree_of q missing n t v e = cc
wanted_tree_of q (bad_table fault) n t v e = cc
wanted_tree_of q (bad_page rule at) n t v e = cc
wanted_tree_of q (bad_json fault) n t v e = cc
wanted_tree_of q (tree_input m u w) n t v e = let same : m ≡ n = cc in record { names = u; walk = w; is = ap (λ k. tree_input k u w) same }

-- ---- a page that is refused

explained_of : (q : Asked) (table page : List ℕ) (r : Status) (b a : Outside) (seen : Contents) (x : Input) → q.origin ≡ page_at table page → AreTold b.files seen → input_of q seen ≡ x → EndsBy q explains seen x r b a → r ≡ status.PageRefused → HasExplained q page b a
explained_of q table page r b a seen missing origin told reads w is = let e : status.StoreFault ≡ status.PageRefused = sym w.status ∙ is in cc
explained_of q table page r b a seen (bad_table fault) origin told reads w is = let e : status.TableRefused ≡ status.PageRefused = sym w.status ∙ is in cc
explained_of q table page r b a seen (bad_page rule at) origin told reads w is =
    let input : origin_input (page_at table page) q.options seen ≡ bad_page rule at = ap (λ x. origin_input x q.options seen) (sym origin) ∙ wanted_refused q (origin_input q.origin q.options seen) rule at reads in
    let content = refused_content q.options (names_of_table table (seen table)) (seen page) rule at input in
    record {
      seen = seen;
      are_told = told;
      page = content.page;
      there = content.is;
      rule = rule;
      at = at;
      reads = reads;
      files = w.files;
      lines = w.line ∙ ap (append_known b.printed) (ap (λ x. refusal x explains seen rule at) origin ∙ ap (λ c. explained_page page (unwrap_or c []) rule at) content.is);
    }
explained_of q table page r b a seen (bad_json fault) origin told reads w is = let e : status.JsonRefused ≡ status.PageRefused = sym w.status ∙ is in cc
explained_of q table page r b a seen (tree_input n t v) origin told reads w is = let e : status.Done ≡ status.PageRefused = sym w.status ∙ is in cc

pub explains_page : (words : List (List ℕ)) (q : Asked) (table page : List ℕ) (r : Status) (b a : Outside) → asked words ≡ Some q → q.origin ≡ page_at table page → q.work ≡ explains → Ends words r b a → r ≡ status.PageRefused → HasExplained q page b a
explains_page words q table page r b a e origin work w is = explained_of q table page r b a w.seen (input_of q w.seen) origin w.are_told refl (of_work words q explains r b a w.seen e work w.holds) is

-- ---- a page that isn't

settled_of : (q : Asked) (table page : List ℕ) (r : Status) (b a : Outside) (seen : Contents) (x : Input) → q.origin ≡ page_at table page → AreTold b.files seen → input_of q seen ≡ x → EndsBy q explains seen x r b a → IsReadableBy explains q.writing x → r ≡ status.Done → HasSettled q page b a
settled_of q table page r b a seen missing origin told reads w h is = let e : status.StoreFault ≡ status.Done = sym w.status ∙ is in cc
settled_of q table page r b a seen (bad_table fault) origin told reads w h is = let e : status.TableRefused ≡ status.Done = sym w.status ∙ is in cc
settled_of q table page r b a seen (bad_page rule at) origin told reads w h is = let e : status.PageRefused ≡ status.Done = sym w.status ∙ is in cc
settled_of q table page r b a seen (bad_json fault) origin told reads w h is = let e : status.JsonRefused ≡ status.Done = sym w.status ∙ is in cc
settled_of q table page r b a seen (tree_input n t v) origin told reads w h is =
    let x = wanted_tree_of q (origin_input q.origin q.options seen) n t v reads in
    let input : origin_input (page_at table page) q.options seen ≡ tree_input n x.names x.walk = ap (λ y. origin_input y q.options seen) (sym origin) ∙ x.is in
    let content = settled_content q.options (names_of_table table (seen table)) (seen page) n x.names x.walk input in
    record {
      seen = seen;
      are_told = told;
      page = content.page;
      there = content.is;
      table = t;
      tree = v;
      reads = reads ∙ ap (λ k. tree_input k t v) content.all;
      out = shortest_text t q.writing.rules v;
      cert = certificate_of t q.writing.rules (format_of q.writing.sparse) v;
      shortest = input_is_shortest q seen n t v reads h.0 h.1;
      files = w.files;
      line = w.line ∙ ap (append_known b.printed) (ap (λ y. settled_line (page_name y) n (length (shortest_text t q.writing.rules v))) origin ∙ ap (λ k. settled_line page k (length (shortest_text t q.writing.rules v))) content.all);
    }

pub settles : (words : List (List ℕ)) (q : Asked) (table page : List ℕ) (r : Status) (b a : Outside) → asked words ≡ Some q → q.origin ≡ page_at table page → q.work ≡ explains → Sees b.files (λ seen. EndsAs (ending words seen) r b a × IsReadableAsked (asked words) seen) → r ≡ status.Done → HasSettled q page b a
settles words q table page r b a e origin work w is = settled_of q table page r b a w.seen (input_of q w.seen) origin w.are_told refl (of_work words q explains r b a w.seen e work w.holds.0)
    (subst (λ k. IsReadableBy k q.writing (input_of q w.seen)) work (subst (λ x. IsReadableAsked x w.seen) e w.holds.1)) is
