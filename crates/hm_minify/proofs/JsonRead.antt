-- The walk of the JSON of which a tree is wanted.
use Rattle.std.proofs.Common.{◌≡◌, ◌∙◌, ℕ, List, length, Option, Some, None, Result, Ok, Err, refl, sym, ap, subst}
use Rattle.hm_base.specs.Walks.{Event}
use Rattle.hm_base.specs.declared.plain.TreeOptions.{TreeOptions}
use Rattle.hm_json_tree.specs.Reading.{JsonWalk, walk, too_long, not_json, not_array, no_event, some_open, not_settled, json_walk}
use Rattle.hm_input.specs.Inputs.{tree as tree_input, input_from, json_input, names_of_table, origin_input, walk_input}
use Rattle.hm_minify.specs.Wanted.{wanted_tree}
use Rattle.hm_minify.proofs.WantedTrees.{of_wanted}
use Rattle.hm_minify.specs.Outside.{Outside}
use Rattle.hm_minify.specs.Runs.{HasMinified, HasMinifiedJson}
use Rattle.hm_minify.specs.Endings.{format_of}
use Rattle.hm_input.specs.Rewrites.{rewrite}
use Rattle.hm_order.specs.Laws.{ShortestAny}
use Rattle.hm_order.specs.Shortest.{IsShortest}
use Rattle.hm_refs.specs.Names.{Entry}
use Rattle.hm_refs.specs.declared.fault.TableFault.{TableFault}
use Rattle.hm_words.specs.Words.{Asked, json_at}

-- a content is the JSON of a walk, whose rewritten tree this is
record IsRead (content : Option (List ℕ)) (o : TreeOptions) (tree : List Event) : Type 0 where
  json : List ℕ
  there : content ≡ Some json
  read : List Event
  reads : json_walk json ≡ walk read
  is : tree ≡ rewrite o read

walk_read : (o : TreeOptions) (u t : List Entry) (json : List ℕ) (n m : ℕ) (v : List Event) (x : JsonWalk) → json_walk json ≡ x → walk_input o u n x ≡ tree_input m t v → IsRead (Some json) o v
walk_read o u t json n m v (walk w) is e = let same : v ≡ rewrite o w = cc in record { json = json; there = refl; read = w; reads = is; is = same }
walk_read o u t json n m v too_long is e = cc
walk_read o u t json n m v not_json is e = cc
walk_read o u t json n m v not_array is e = cc
walk_read o u t json n m v (no_event i) is e = cc
walk_read o u t json n m v (some_open k) is e = cc
walk_read o u t json n m v (not_settled b) is e = cc

content_read : (o : TreeOptions) (names : Option (Result (List Entry) TableFault)) (content : Option (List ℕ)) (m : ℕ) (t : List Entry) (v : List Event) → input_from (json_input o) names content ≡ tree_input m t v → IsRead content o v
content_read o None content m t v e = cc
content_read o (Some (Err fault)) content m t v e = cc
content_read o (Some (Ok u)) None m t v e = cc
content_read o (Some (Ok u)) (Some json) m t v e = walk_read o u t json _ m v (json_walk json) refl e

pub json_minified : (q : Asked) (table json_name out cert : List ℕ) (b a : Outside) → q.origin ≡ json_at table json_name → HasMinified q out cert b a → HasMinifiedJson q json_name out cert b a
json_minified q table json_name out cert b a origin h =
    let w = of_wanted q (origin_input q.origin q.options h.seen) h.bytes h.table h.tree h.reads in
    let r = content_read q.options (names_of_table table (h.seen table)) (h.seen json_name) h.bytes h.table w.tree (ap (λ x. origin_input x q.options h.seen) (sym origin) ∙ w.input) in
    record {
      seen = h.seen;
      are_told = h.are_told;
      table = h.table;
      json = r.json;
      there = r.there;
      read = r.read;
      reads = r.reads;
      out = h.out;
      cert = h.cert;
      shortest = subst (λ tree. IsShortest h.table q.writing.rules (format_of q.writing.sparse) tree h.out h.cert) (w.is ∙ ap (wanted_tree q h.table) r.is) h.shortest;
      any_order = λ order. subst (λ tree. ShortestAny h.table q.writing.rules tree (length h.out)) r.is (h.any_order order w.tree w.input);
      files = h.files;
      line = h.line;
    }
