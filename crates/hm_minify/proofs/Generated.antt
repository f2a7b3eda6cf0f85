-- A request for a page that is made of a number is never refused.
use Rattle.std.proofs.Common.{◌≡◌, ℕ, refl}
use Rattle.hm_base.specs.declared.rules.Rule.{Rule}
use Rattle.hm_input.proofs.Measured.{IsGenerated, origin_never_json, origin_never_refused}
use Rattle.hm_input.specs.Inputs.{Input, missing, bad_table, bad_page, bad_json, tree as tree_input, origin_input}
use Rattle.hm_minify.specs.Wanted.{input_of, wanted}
use Rattle.hm_json_tree.specs.declared.fault.JsonFault.{JsonFault}
use Rattle.hm_store.specs.Contents.{Contents}
use Rattle.hm_words.specs.Words.{Asked}

wanted_never_refused : (q : Asked) (x : Input) → ((rule : Rule) (at : ℕ) → x ≡ bad_page rule at → ⊥) → (rule : Rule) (at : ℕ) → wanted q x ≡ bad_page rule at → ⊥
wanted_never_refused q missing never rule at e = cc
wanted_never_refused q (bad_table fault) never rule at e = cc
wanted_never_refused q (bad_json fault) never rule at e = cc
wanted_never_refused q (bad_page known place) never rule at e = never known place refl
wanted_never_refused q (tree_input n t w) never rule at e = cc

pub page_never_refused : (q : Asked) (seen : Contents) → IsGenerated q.origin → (rule : Rule) (at : ℕ) → input_of q seen ≡ bad_page rule at → ⊥
page_never_refused q seen m rule at e = wanted_never_refused q (origin_input q.origin q.options seen) (origin_never_refused q.origin q.options seen m) rule at e

-- and no JSON is read for it
wanted_never_json : (q : Asked) (x : Input) → ((fault : JsonFault) → x ≡ bad_json fault → ⊥) → (fault : JsonFault) → wanted q x ≡ bad_json fault → ⊥
wanted_never_json q missing never fault e = cc
wanted_never_json q (bad_table known) never fault e = cc
wanted_never_json q (bad_page rule at) never fault e = cc
wanted_never_json q (bad_json known) never fault e = never known refl
wanted_never_json q (tree_input n t w) never fault e = cc

pub json_never_refused : (q : Asked) (seen : Contents) → IsGenerated q.origin → (fault : JsonFault) → input_of q seen ≡ bad_json fault → ⊥
json_never_refused q seen m fault e = wanted_never_json q (origin_input q.origin q.options seen) (origin_never_json q.origin q.options seen m) fault e
