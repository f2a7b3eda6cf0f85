-- The choices of a character, by what is pending and by whether a reference is one.
use Rattle.std.proofs.Common.{◌≡◌, ◌∙◌, ℕ, Bool, cond, ◌&&◌, List, [], ◌∷◌, ◌++◌, map, Option, Some, None, is_some, refl, sym, ap}
use Rattle.std.proofs.lemmas.List.{map-append}
use Rattle.std.specs.Option.{option_map}
use Rattle.hm_refs.specs.Names.{Entry}
use Rattle.hm_refs.specs.Numbers.{best_number}
use Rattle.hm_spelling_spec.specs.Characters.{CharacterRules, Spot}
use Rattle.hm_graph_laws.specs.CharacterEdges.{choice, by_names, by_pairs, by_decimal, by_hexadecimal, by_references, after_name, after_half, choices_by, as_itself, kept_at}
use Rattle.hm_graph_laws.specs.States.{Where, Pending}
use Rattle.hm_graph_laws.specs.Steps.{step}

pub references_are : (at : Where) (t : List Entry) (c : ℕ) (pair : Option ℕ)
    → map (kept_at at) (by_names after_name (c ∷ []) t) ++ (map (kept_at at) (by_pairs t c pair) ++ (map (kept_at at) (by_decimal (best_number c)) ++ map (kept_at at) (by_hexadecimal c))) ≡ map (kept_at at) (by_references t c pair)
references_are at t c pair = sym
    (map-append (kept_at at) (by_names after_name (c ∷ []) t) (by_pairs t c pair ++ (by_decimal (best_number c) ++ by_hexadecimal c))
    ∙ ap (λ w. map (kept_at at) (by_names after_name (c ∷ []) t) ++ w)
    (map-append (kept_at at) (by_pairs t c pair) (by_decimal (best_number c) ++ by_hexadecimal c)
    ∙ ap (λ w. map (kept_at at) (by_pairs t c pair) ++ w) (map-append (kept_at at) (by_decimal (best_number c)) (by_hexadecimal c))))

pub due_choice : (h : Option (Option (List ℕ))) (q : Pending) (t : List Entry) (rules : CharacterRules) (spot : Spot) (c : ℕ) (next : Option ℕ) (p : Pending) → Some q ≡ option_map after_half h → choice [] q ∷ [] ≡ choices_by h t rules spot c next p
due_choice None q t rules spot c next p e = absurd (cc)
due_choice (Some left) q t rules spot c next p e = let i : q ≡ after_half left = cc in rw i refl

pub other_choices : (at : Where) (h : Option (Option (List ℕ))) (t : List Entry) (rules : CharacterRules) (spot : Spot) (c : ℕ) (next : Option ℕ) (p : Pending) (b : Bool)
    → None ≡ option_map after_half h → b ≡ (is_some (step t spot p 38) && rules.refers c)
    → map (kept_at at) (as_itself t rules spot c p) ++ map (kept_at at) (cond b (by_references t c next) []) ≡ map (kept_at at) (choices_by h t rules spot c next p)
other_choices at (Some left) t rules spot c next p b e is = absurd (cc)
other_choices at None t rules spot c next p b e is = rw is (sym (map-append (kept_at at) (as_itself t rules spot c p) (cond (is_some (step t spot p 38) && rules.refers c) (by_references t c next) [])))
