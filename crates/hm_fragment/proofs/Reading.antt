-- The tree of a fragment from that of its page, or why there is none.
use Rattle.std.proofs.Common.{◌≡◌, ℕ, ◌≤◌, false, List, length, Some, None, nat_lt, sym, ap, ◌∙◌, arith}
use Rattle.std.proofs.lemmas.Bool.Decides.{nat_tests}
use Rattle.std.specs.Io.{StartsWith}
use Rattle.hm_base.specs.Faults.{IsRefusalOf}
use Rattle.hm_base.specs.Source.{Source, refusal_at, source_of, text_fault}
use Rattle.hm_base.specs.Walks.{Event}
use Rattle.hm_base.specs.declared.limits.TheConstants.{OUTPUT_LIMIT}
use Rattle.hm_base.specs.declared.rules.Refused.{Refused}
use Rattle.hm_base.specs.declared.rules.Refused.TheVariants as answers
use Rattle.hm_base.specs.declared.rules.Rule.TheVariants.{FrameEnd}
use Rattle.hm_build.specs.Parsing.{IsRefusedAs}
use Rattle.hm_construction_laws.specs.Closing.{closed_at, closed_of_source}
use Rattle.hm_construction_laws.specs.Trees.{built, refused_by, unless_faulty, page_tree, tree_of_source}
use Rattle.hm_refs.specs.Names.{Entry}
use Rattle.hm_fragment.specs.Fragments.{fragment_of, fragment_tree, refusal_of, unframed_at}
use Rattle.hm_fragment.specs.Frames.{front, unframed}
use Rattle.hm_fragment.proofs.Fragments.{with_front}

-- the outcome of a page that begins with the front
outcome : (t : List Entry) (page : List ℕ) → StartsWith page front → fragment_tree t (unframed page) ≡ fragment_of (closed_at t page) (page_tree t page)
unfolding fragment_tree
outcome t page h = ap (λ x. fragment_of (closed_at t x) (page_tree t x)) (with_front page h)

-- that of a page with a text
of_text : (t : List Entry) (page : List ℕ) (text : Source) → StartsWith page front → text_fault page ≡ None → text ≡ source_of page → fragment_tree t (unframed page) ≡ fragment_of (closed_of_source t text) (tree_of_source t text)
unfolding page_tree
of_text t page text h sound is =
    outcome t page h ∙ ap (λ o. fragment_of (closed_at t page) (unless_faulty o (tree_of_source t (source_of page)))) sound
    ∙ ap (λ x. fragment_of (closed_of_source t x) (tree_of_source t x)) (sym is)

pub fragment_built : (t : List Entry) (page : List ℕ) (text : Source) (w : List Event) → StartsWith page front → text_fault page ≡ None → text ≡ source_of page → closed_of_source t text ≡ None → tree_of_source t text ≡ built w → fragment_tree t (unframed page) ≡ built w
fragment_built t page text w h sound is stays reads = of_text t page text h sound is ∙ ap (λ closed. fragment_of closed (tree_of_source t text)) stays ∙ ap (fragment_of None) reads

pub fragment_closed : (t : List Entry) (page : List ℕ) (text : Source) (w : List Event) (at : ℕ) → StartsWith page front → text_fault page ≡ None → text ≡ source_of page → closed_of_source t text ≡ Some at → tree_of_source t text ≡ built w
    → fragment_tree t (unframed page) ≡ refused_by FrameEnd (unframed_at at)
fragment_closed t page text w at h sound is closed reads = of_text t page text h sound is ∙ ap (λ closed. fragment_of closed (tree_of_source t text)) closed ∙ ap (fragment_of (Some at)) reads

pub fragment_refused : (t : List Entry) (page : List ℕ) (text : Source) (refused : Refused) → StartsWith page front → text_fault page ≡ None → text ≡ source_of page → IsRefusedAs (tree_of_source t text) refused → IsRefusedAs (fragment_tree t (unframed page)) (refusal_of refused)
fragment_refused t page text answers.OutOfMemory h sound is refused = tt
fragment_refused t page text (answers.Page rule at) h sound is refused = of_text t page text h sound is ∙ ap (fragment_of (closed_of_source t text)) refused

within_limit : (n m : ℕ) → m ≤ n → nat_lt n m ≡ false
within_limit n m h = grind (arith, nat_tests)

-- a page without a text, within its limit
pub text_refused : (t : List Entry) (page : List ℕ) (refused : Refused) → StartsWith page front → length page ≤ OUTPUT_LIMIT → IsRefusalOf refused OUTPUT_LIMIT page → IsRefusedAs (fragment_tree t (unframed page)) (refusal_of refused)
unfolding page_tree
text_refused t page answers.OutOfMemory h short refused = tt
text_refused t page (answers.Page rule at) h short refused =
    let within : nat_lt OUTPUT_LIMIT (length page) ≡ false = within_limit OUTPUT_LIMIT (length page) short in
    let fault : text_fault page ≡ Some (refusal_at rule at) = rw within at refused in
    outcome t page h ∙ ap (λ o. fragment_of (closed_at t page) (unless_faulty o (tree_of_source t (source_of page)))) fault
