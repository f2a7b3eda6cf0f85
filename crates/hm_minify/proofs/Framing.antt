-- What the words of a command on fragments say of its rules, and that its tree stands in body.
use Rattle.std.proofs.Common.{◌≡◌, ◌∙◌, ◌≤◌, ℕ, Bool, true, false, not, ◌&&◌, ◌||◌, cond, List, length, Option, Some, None, Result, Ok, Err, codes, refl, sym, subst, length-append}
use Rattle.std.specs.Bool.{nat_lt}
use Rattle.hm_base.proofs.Bytes.{first_true, second_true}
use Rattle.hm_base.specs.Walks.{Event}
use Rattle.hm_base.specs.declared.limits.TheConstants.{PAGE_LIMIT}
use Rattle.hm_base.specs.declared.plain.SpellRules.{SpellRules}
use Rattle.hm_base.specs.declared.plain.TreeOptions.{TreeOptions}
use Rattle.hm_base.specs.declared.rules.Rule.TheVariants.{TooLong}
use Rattle.hm_input.specs.Trees.{Outcome, built, refused_by}
use Rattle.hm_elements.specs.Settled.{Settled}
use Rattle.hm_input.proofs.Fragments.{bounds_are_of_fragments, fragments_are_in_body, shortest_is_read_back}
use Rattle.hm_input.proofs.Rewritten.{rewritten_stays_framed}
use Rattle.hm_input.specs.Fragments.{fragment_tree}
use Rattle.hm_input.specs.Frames.{IsFramed, framed, front}
use Rattle.hm_input.specs.Laws.{IsReadBack}
use Rattle.hm_input.proofs.Tables.{table_is}
use Rattle.hm_minify.proofs.Ordered.{wanted_framed}
use Rattle.hm_minify.proofs.WantedTrees.{of_wanted}
use Rattle.hm_input.specs.Inputs.{tree as tree_input, fragment_input, fragment_outcome, input_from, is_html, is_none, names_of_table, origin_input, rewritten_input}
use Rattle.hm_minify.specs.Wanted.{input_of}
use Rattle.hm_input.specs.Rewrites.{rewrite}
use Rattle.hm_order.specs.Shortest.{shortest_text}
use Rattle.hm_refs.specs.Names.{Entry}
use Rattle.hm_refs.specs.Tables.{IsTable}
use Rattle.hm_refs.specs.declared.fault.TableFault.{TableFault}
use Rattle.hm_order.specs.Spellings.{Shortest, Spells}
use Rattle.hm_store.specs.Contents.{Contents}
use Rattle.hm_words.specs.Words.{Asked, Command, Origin, page_at, fragment_at, json_at, made, are_filled, are_flags, asked, asks, choices_of, command_in, fits, has, is_apart, is_fragment, names_in, with_flags, written_of}

-- ---- The rules

-- the start tag of body stays where the tree is that of a fragment, and then tags may be left out
pub record IsRuled (q : Asked) : Type 0 where
  pub frame : q.writing.rules.frame ≡ is_fragment q.origin
  pub omits : is_fragment q.origin ≡ true → q.writing.rules.omit ≡ true

some_is : {A : Type 0} (x y : A) → Some x ≡ Some y → x ≡ y
some_is x y e = let h : x ≡ y = cc in h

omit_is : (ws : List (List ℕ)) → (choices_of ws).writing.rules.omit ≡ has ws (codes "--omit")
unfolding choices_of
omit_is ws = refl

given_where : (a b : Bool) → (not a || b) ≡ true → a ≡ true → b ≡ true
given_where true b h e = h
given_where false b h e = cc

with_ruled : (ws : List (List ℕ)) (x : Option Command) (q : Asked) → with_flags ws x ≡ Some q → IsRuled q
with_ruled ws None q e = cc
with_ruled ws (Some command) q e = by_test (is_apart command.0 command.1 && fits command ws) refl e
  where
    by_test : (b : Bool) → (is_apart command.0 command.1 && fits command ws) ≡ b → cond b (Some (asks command.0 command.1 (choices_of ws).options (written_of command.0 (choices_of ws).writing))) None ≡ Some q → IsRuled q
    by_test true t h = subst IsRuled (some_is _ q h) (record {
      frame = refl;
      omits = λ fragment. omit_is ws ∙ given_where (is_fragment command.0) (has ws (codes "--omit")) (first_true _ _ (second_true (is_apart command.0 command.1) (fits command ws) t)) fragment;
    })
    by_test false t h = cc

pub ruled : (ws : List (List ℕ)) (q : Asked) → asked ws ≡ Some q → IsRuled q
unfolding asked
ruled ws q e = by_test (are_filled ws && are_flags ws) e
  where
    by_test : (b : Bool) → cond b (with_flags ws (command_in (names_in ws))) None ≡ Some q → IsRuled q
    by_test true h = with_ruled ws (command_in (names_in ws)) q h
    by_test false h = cc

-- ---- The tree

in_limit : (t : List Entry) (fragment : List ℕ) (w : List Event) → fragment_outcome t fragment ≡ built w → fragment_tree t fragment ≡ built w
unfolding fragment_outcome
in_limit t fragment w e = by_length (nat_lt PAGE_LIMIT (length fragment)) e
  where
    by_length : (long : Bool) → cond long (refused_by TooLong PAGE_LIMIT) (fragment_tree t fragment) ≡ built w → fragment_tree t fragment ≡ built w
    by_length true h = cc
    by_length false h = h

outcome_framed : (o : TreeOptions) (t u : List Entry) (fragment : List ℕ) (n m : ℕ) (v : List Event) (x : Outcome) → IsTable u → fragment_outcome u fragment ≡ x → rewritten_input o u n x ≡ tree_input m t v → IsFramed v
outcome_framed o t u fragment n m v (built w) k is e =
    let same : rewrite o w ≡ v = cc in
    subst IsFramed same (rewritten_stays_framed o w (fragments_are_in_body u k fragment w (in_limit u fragment w is)).framed)
outcome_framed o t u fragment n m v (refused_by rule at) k is e = cc

file_framed : (o : TreeOptions) (names : Option (Result (List Entry) TableFault)) (content : Option (List ℕ)) (m : ℕ) (t : List Entry) (v : List Event) → ((u : List Entry) → names ≡ Some (Ok u) → IsTable u) → input_from (fragment_input o) names content ≡ tree_input m t v → IsFramed v
file_framed o None content m t v tables e = cc
file_framed o (Some (Err fault)) content m t v tables e = cc
file_framed o (Some (Ok u)) None m t v tables e = cc
file_framed o (Some (Ok u)) (Some fragment) m t v tables e = outcome_framed o t u fragment (length fragment) m v (fragment_outcome u fragment) (tables u refl) refl e

origin_framed : (origin : Origin) (o : TreeOptions) (seen : Contents) (m : ℕ) (t : List Entry) (v : List Event) → is_fragment origin ≡ true → origin_input origin o seen ≡ tree_input m t v → IsFramed v
origin_framed (page_at table page) o seen m t v is e = cc
origin_framed (fragment_at table page) o seen m t v is e = file_framed o (names_of_table table (seen table)) (seen page) m t v (λ u names. table_is (is_none table) (is_html table) (seen table) u names) e
origin_framed (json_at table page) o seen m t v is e = cc
origin_framed (made table number size) o seen m t v is e = cc

pub request_framed : (q : Asked) (seen : Contents) (m : ℕ) (t : List Entry) (w : List Event) → is_fragment q.origin ≡ true → input_of q seen ≡ tree_input m t w → IsFramed w
request_framed q seen m t w is e =
    let x = of_wanted q (origin_input q.origin q.options seen) m t w e in
    subst IsFramed (sym x.is) (wanted_framed q t x.tree (origin_framed q.origin q.options seen m t x.tree is x.input))

-- ---- The text

pub text_read_back : (t : List Entry) → IsTable t → (r : SpellRules) → r.omit ≡ true → r.frame ≡ true → (w : List Event) → Settled w → IsFramed w → IsReadBack t w (shortest_text t r w)
unfolding shortest_text
text_read_back t k r omit frame w s in_body = shortest_is_read_back t k r omit frame w s in_body

-- a shortest text bounds the fragments
pub least_fragment : (t : List Entry) (r : SpellRules) (w : List Event) (out : List ℕ) → Shortest t r w (length (framed out)) → (fragment : List ℕ) → Spells t r w (framed fragment) → length out ≤ length fragment
least_fragment t r w out shortest fragment spells = bounds_are_of_fragments t r w (length out) (subst (Shortest t r w) (length-append front out) shortest) fragment spells
