-- The tree of which another one is wanted.
use Rattle.std.proofs.Common.{◌≡◌, ◌∙◌, ℕ, List, ap, ap₂}
use Rattle.hm_base.specs.Walks.{Event}
use Rattle.hm_input.specs.Inputs.{Input, missing, bad_table, bad_page, bad_json, tree as tree_input}
use Rattle.hm_minify.specs.Wanted.{wanted, wanted_tree}
use Rattle.hm_refs.specs.Names.{Entry}
use Rattle.hm_words.specs.Words.{Asked}

-- what is wanted of a tree
pub record IsWanted (a : Asked) (x : Input) (m : ℕ) (t : List Entry) (v : List Event) : Type 0 where
  pub tree : List Event
  pub input : x ≡ tree_input m t tree
  pub is : v ≡ wanted_tree a t tree

pub of_wanted : (a : Asked) (x : Input) (m : ℕ) (t : List Entry) (v : List Event) → wanted a x ≡ tree_input m t v → IsWanted a x m t v
of_wanted a missing m t v e = cc
of_wanted a (bad_table fault) m t v e = cc
of_wanted a (bad_page rule at) m t v e = cc
of_wanted a (bad_json fault) m t v e = cc
of_wanted a (tree_input n u w) m t v e =
    let bytes : n ≡ m = cc in
    let names : u ≡ t = cc in
    let same : v ≡ wanted_tree a u w = cc in
    record { tree = w; input = ap₂ (λ k y. tree_input k y w) bytes names; is = same ∙ ap (λ y. wanted_tree a y w) names }
