-- Of the next code point the edges of a character depend on the pair alone.
use Rattle.std.proofs.Common.{◌≡◌, ℕ, Bool, true, false, cond, ◌&&◌, List, [], ◌∷◌, ◌++◌, Option, Some, None, is_some, refl, ap, arith, map, bytes_eq}
use Rattle.std.specs.List.{list_any}
use Rattle.hm_refs.specs.Names.{Entry}
use Rattle.hm_refs.specs.Numbers.{best_number}
use Rattle.hm_spelling_spec.specs.Characters.{CharacterRules, Spot}
use Rattle.hm_graph_laws.specs.CharacterEdges.{choice, by_names, by_pairs, by_decimal, by_hexadecimal, after_name, after_pair, half_of, choices, choices_by, as_itself, character_edges, is_in_section, section_edges, opened_sections, kept_at, spot_at}
use Rattle.hm_graph_laws.specs.States.{Pending, State}
use Rattle.hm_graph_laws.specs.Units.{TextKind}
use Rattle.hm_edges.specs.Characters.{edges_by_pair, rules_with}
use Rattle.hm_graph_laws.specs.Steps.{step}
use Rattle.hm_edges.specs.Units.{has_pair, pair_of}

no_names : (to : List ℕ → Pending) (points : List ℕ) (t : List Entry) → list_any (λ (e : Entry). bytes_eq e.points points) t ≡ false → [] ≡ by_names to points t
no_names to points [] h = refl
no_names to points (e ∷ t) h = by_test (bytes_eq e.points points) refl (λ k. no_names to points t k)
  where
    by_test : (b : Bool) → bytes_eq e.points points ≡ b → (list_any (λ (d : Entry). bytes_eq d.points points) t ≡ false → [] ≡ by_names to points t)
        → [] ≡ cond b (choice e.name (to e.name) ∷ by_names to points t) (by_names to points t)
    by_test true k after = absurd (grind arith)
    by_test false k after = after (grind arith)

pairs_are : (t : List Entry) (c : ℕ) (next : Option ℕ) → by_pairs t c (pair_of t c next) ≡ by_pairs t c next
pairs_are t c None = refl
pairs_are t c (Some d) = by_test (has_pair t c d) refl
  where
    by_test : (b : Bool) → has_pair t c d ≡ b → by_pairs t c (cond b (Some d) None) ≡ by_pairs t c (Some d)
    by_test true h = refl
    by_test false h = no_names after_pair (c ∷ d ∷ []) t h

pub choices_are : (t : List Entry) (rules : CharacterRules) (spot : Spot) (c : ℕ) (pair next : Option ℕ) (p : Pending) → pair ≡ pair_of t c next → choices t rules spot c pair p ≡ choices t rules spot c next p
choices_are t rules spot c pair next p e = by_half (half_of p)
  where
    by_half : (h : Option (Option (List ℕ))) → choices_by h t rules spot c pair p ≡ choices_by h t rules spot c next p
    by_half (Some left) = refl
    by_half None =
        rw e
        (ap (λ two. as_itself t rules spot c p ++ cond (is_some (step t spot p 38) && rules.refers c) (by_names after_name (c ∷ []) t ++ (two ++ (by_decimal (best_number c) ++ by_hexadecimal c))) []) (pairs_are t c next))

-- the edges of a character, with the next code point where a name gives the two
pub by_pair_is : (t : List Entry) (ascii : Bool) (kind : TextKind) (c : ℕ) (pair next : Option ℕ) (s : State) → pair ≡ pair_of t c next → edges_by_pair t ascii kind c pair next s ≡ character_edges t (rules_with t ascii) kind c next s
by_pair_is t ascii kind c pair next s e =
    ap (λ w. cond (is_in_section s.at) (section_edges ascii c next s.pending) (map (kept_at s.at) w ++ opened_sections ascii (spot_at kind s.at) c next s))
    (choices_are t (rules_with t ascii) (spot_at kind s.at) c pair next s.pending e)
