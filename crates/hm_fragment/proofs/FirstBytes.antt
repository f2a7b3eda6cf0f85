-- The first way of a tree of a fragment begins with the front.
use Rattle.std.proofs.Common.{◌≡◌, ℕ, ◌+◌, true, false, cond, List, [], ◌∷◌, ◌++◌, length, min, Option, Some, None, refl, ap, ◌∙◌, arith, codes, nat_eq}
use Rattle.hm_elements.specs.Names.{html, head, body}
use Rattle.hm_graph_laws.proofs.LeastPrices.{same_price_self}
use Rattle.hm_graph_laws.specs.UnitEdges.{edges_of}
use Rattle.hm_graph_laws.specs.Ways.{Edges, lesser, over, least, same_price, along, first_way}
use Rattle.hm_spelling_spec.specs.Tags.{Spelling}
use Rattle.hm_graph_laws.specs.Edges.{Edge, edge_to, edge_length}
use Rattle.hm_graph_laws.specs.States.{State, first_state}
use Rattle.hm_graph_laws.specs.Units.{Unit, fixed, start_tag, end_tag}
use Rattle.hm_fragment.specs.Frames.{front}
use Rattle.hm_fragment.proofs.Units.{first_units}

-- the only edge is taken
only_edge : (es : Edges) (unit : Unit) (units : List Unit) (s : State) (e : Edge) → es unit s ≡ e ∷ [] → first_way es (unit ∷ units) s ≡ e.bytes ++ first_way es units e.to
only_edge es unit units s e is = rw is (by (over (edge_length e) (least es units e.to)))
  where
    none : (p : Option ℕ) → lesser p None ≡ p
    none None = refl
    none (Some a) = refl

    by : (p : Option ℕ) → along (cond (same_price p (lesser p None)) (Some e) None) (first_way es units) ≡ e.bytes ++ first_way es units e.to
    by p = rw (none p, same_price_self p) refl

-- where a tag may be left out and leads to the same state, it is
left_out : (es : Edges) (unit : Unit) (units : List Unit) (s : State) (b : List ℕ) → es unit s ≡ edge_to [] s ∷ edge_to b s ∷ [] → first_way es (unit ∷ units) s ≡ first_way es units s
left_out es unit units s b is = rw is (by (least es units s))
  where
    least_is : (a : ℕ) → nat_eq (0 + a) (min (0 + a) (length b + a)) ≡ true
    least_is a = let h : min (0 + a) (length b + a) ≡ 0 + a = omega arith in rw h (same_price_self (Some (0 + a)))

    by : (p : Option ℕ) → along (cond (same_price (over 0 p) (lesser (over 0 p) (lesser (over (length b) p) None))) (Some (edge_to [] s)) (cond (same_price (over (length b) p) (lesser (over 0 p) (lesser (over (length b) p) None))) (Some (edge_to b s)) None)) (first_way es units) ≡ first_way es units s
    by None = refl
    by (Some a) = rw (least_is a) refl

pub begins_with_front : (g : Spelling) (us : List Unit) → first_way (edges_of g) (first_units ++ us) first_state ≡ front ++ first_way (edges_of g) us first_state
begins_with_front g us =
    let es : Edges = edges_of g in
    let fourth : List Unit = start_tag body false false false ∷ us in
    let third : List Unit = end_tag head true false ∷ fourth in
    let second : List Unit = start_tag head true false false ∷ third in
    let first : List Unit = start_tag html true false false ∷ second in
    only_edge es (fixed (codes "<!doctype html>")) first first_state (edge_to (codes "<!doctype html>") first_state) refl
    ∙ ap (λ x. codes "<!doctype html>" ++ x)
    (left_out es (start_tag html true false false) second first_state (codes "<html>") refl ∙ left_out es (start_tag head true false false) third first_state (codes "<head>") refl ∙ left_out es (end_tag head true false) fourth first_state (codes "</head>") refl
    ∙ only_edge es (start_tag body false false false) us first_state (edge_to (codes "<body>") first_state) refl)
