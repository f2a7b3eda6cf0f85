-- What a value needs, as the code finds it: by its characters so far, and by those that are left.
use Rattle.std.specs.Prelude.{ℕ, Bool, ◌&&◌, ◌||◌, ◌==◌, List, Option}
use Rattle.std.specs.List.{list_any}
use Rattle.hm_edges.specs.Units.{needs_quotes, some_costly}
use Rattle.hm_edges.specs.declared.units.Need.{Need}
use Rattle.hm_edges.specs.declared.units.Needs.{Needs}
use Rattle.hm_graph.specs.EntityFacts.{joined}
use Rattle.hm_graph_laws.specs.Forms.{is_costly}
use Rattle.hm_refs.specs.Names.{Entry}

abbrev pub is_quote : ℕ → Bool
is_quote c = c == 34 || c == 39

-- the need with that of one more character, between these two
abbrev pub need_with : List Entry → (ℕ → Bool) → Need → Option ℕ → ℕ → Option ℕ → Need
need_with t kind n previous c next = joined n (kind c) (kind c && is_costly t previous c next)

abbrev pub needs_with : List Entry → Needs → Option ℕ → ℕ → Option ℕ → Needs
needs_with t n previous c next = record {
  double = need_with t (λ d. d == 34) n.double previous c next;
  single = need_with t (λ d. d == 39) n.single previous c next;
  other = need_with t needs_quotes n.other previous c next;
}

-- the need with that of all characters that are left after the previous one
abbrev pub need_at : List Entry → (ℕ → Bool) → Need → Option ℕ → List ℕ → Need
need_at t kind n previous v = joined n (list_any kind v) (some_costly t kind previous v)

abbrev pub needs_at : List Entry → Needs → Option ℕ → List ℕ → Needs
needs_at t n previous v = record {
  double = need_at t (λ d. d == 34) n.double previous v;
  single = need_at t (λ d. d == 39) n.single previous v;
  other = need_at t needs_quotes n.other previous v;
}
