-- The headline holds of the table and the tree that the files of a run give.
use Rattle.std.proofs.Common.{◌≡◌, ℕ, List, ap}
use Rattle.hm_base.specs.Walks.{Event}
use Rattle.hm_cert.specs.Certificate.{AreRows}
use Rattle.hm_elements.specs.Settled.{Settled}
use Rattle.hm_input.proofs.Tables.{origin_table}
use Rattle.hm_input.specs.Inputs.{Input, missing, bad_table, bad_page, bad_json, tree as tree_input, origin_input}
use Rattle.hm_minify.specs.Wanted.{input_of, wanted}
use Rattle.hm_refs.specs.Names.{Entry}
use Rattle.hm_refs.specs.Tables.{IsTable}
use Rattle.hm_order.proofs.Headline.{shortest_is_certified}
use Rattle.hm_order.specs.Shortest.{IsShortest, certificate_of, certified_rows, shortest_text}
use Rattle.hm_store.specs.Contents.{Contents}
use Rattle.hm_minify.specs.Endings.{format_of}
use Rattle.hm_words.specs.Words.{Asked}

-- ---- The table of a request

wanted_table : (a : Asked) (x : Input) (m : ℕ) (t : List Entry) (w : List Event) → ((n : ℕ) (v : List Event) → x ≡ tree_input n t v → IsTable t) → wanted a x ≡ tree_input m t w → IsTable t
wanted_table a missing m t w table e = cc
wanted_table a (bad_table fault) m t w table e = cc
wanted_table a (bad_page rule at) m t w table e = cc
wanted_table a (bad_json fault) m t w table e = cc
wanted_table a (tree_input n u v) m t w table e = let names : u ≡ t = cc in table n v (ap (λ y. tree_input n y v) names)

pub request_table : (a : Asked) (seen : Contents) (m : ℕ) (t : List Entry) (w : List Event) → input_of a seen ≡ tree_input m t w → IsTable t
request_table a seen m t w e = wanted_table a (origin_input a.origin a.options seen) m t w (λ n v. origin_table a.origin a.options seen n t v) e

-- ---- The headline

pub input_is_shortest : (a : Asked) (seen : Contents) (m : ℕ) (t : List Entry) (w : List Event) → input_of a seen ≡ tree_input m t w → Settled w → AreRows (certified_rows t a.writing.rules (format_of a.writing.sparse) w)
    → IsShortest t a.writing.rules (format_of a.writing.sparse) w (shortest_text t a.writing.rules w) (certificate_of t a.writing.rules (format_of a.writing.sparse) w)
input_is_shortest a seen m t w e settled readable = shortest_is_certified t (request_table a seen m t w e) a.writing.rules (format_of a.writing.sparse) w settled readable
