-- The shortest text of a tree with its attributes put in order is one of the shortest over all orders.
use Rattle.std.proofs.Common.{◌≡◌, ◌≤◌, ℕ, List, [], ◌∷◌, length, Option, Some, None, refl, sym, ◌∙◌, subst, arith}
use Rattle.std.proofs.lemmas.List.Sorted.{IsPermutation-refl, IsPermutation-sym}
use Rattle.hm_base.specs.Walks.{Event, doctype, start, text, comment, end}
use Rattle.hm_base.specs.declared.plain.SpellRules.{SpellRules}
use Rattle.hm_elements.specs.Settled.{Settled}
use Rattle.hm_graph_laws.specs.UnitEdges.{edges_of}
use Rattle.hm_graph_laws.specs.Ways.{Edges, first_way, least}
use Rattle.hm_graph_laws.proofs.LeastPrices.{first_least}
use Rattle.hm_refs.specs.Names.{Entry}
use Rattle.hm_refs.specs.Tables.{IsTable}
use Rattle.hm_spelling_spec.specs.Tags.{Spelling}
use Rattle.hm_graph_laws.specs.States.{first_state}
use Rattle.hm_graph_laws.specs.Units.{units_of, may_close_itself}
use Rattle.hm_optimality_laws.specs.SpellingLaws.{IsBest}
use Rattle.hm_graph_laws.specs.ExchangeLaws.{sparing_plain}
use Rattle.hm_optimality_laws.proofs.Best.{spares_plain, first_ways_are_best}
use Rattle.hm_order.specs.Laws.{OrderedBoundsAll, OrderedIsLike, OrderedIsShortest, ShortestAny}
use Rattle.hm_order.specs.Orders.{Like, LikeEvent, reordered}
use Rattle.hm_order.proofs.Best.{ordered_same}
use Rattle.hm_order.proofs.Likes.{like_settled}
use Rattle.hm_order.proofs.Walks.{NoMore, ordered_no_more, same_previous}

-- the first of the least prices is a number where a best way is
least_is : (t : List Entry) → IsTable t → (r : SpellRules) (w : List Event) → Settled w → (b : List ℕ) → IsBest t r w b → least (edges_of (sparing_plain t r)) (units_of r w) first_state ≡ Some (length b)
least_is t k r w s b best = sym (first_least (edges_of (sparing_plain t r)) (units_of r w)) ∙ best.price

bounded : (p q : Option ℕ) (n m : ℕ) → p ≡ Some n → q ≡ Some m → NoMore p q → n ≤ m
bounded p q n m e f h = subst (λ x. NoMore x (Some m)) e (subst (NoMore p) f h)

pub ordered_is_like : OrderedIsLike
ordered_is_like g [] = tt
ordered_is_like g (doctype legacy ∷ w) = (refl, ordered_is_like g w)
ordered_is_like g (start n f attributes ∷ w) = ((refl, refl, ordered_same g (may_close_itself f w) attributes), ordered_is_like g w)
ordered_is_like g (text s raw ∷ w) = (refl, ordered_is_like g w)
ordered_is_like g (comment s ∷ w) = (refl, ordered_is_like g w)
ordered_is_like g (end n f ∷ w) = (refl, ordered_is_like g w)

pub ordered_is_shortest : OrderedIsShortest
ordered_is_shortest t k r w settled v sv like b spells =
    let g : Spelling = sparing_plain t r in
    let es : Edges = edges_of g in
    let o : List Event = reordered g w in
    let so : Settled o = like_settled w o (ordered_is_like g w) settled in
    let one = first_ways_are_best t k r o so in
    let two = first_ways_are_best t k r v sv in
    let first = bounded _ _ _ _ (least_is t k r o so _ one) (least_is t k r v sv _ two) (ordered_no_more g (spares_plain t k r) w v like [] sv.ends None None (same_previous None) first_state) in
    let second = two.shortest b spells in
    omega (arith, first, second)

-- ---- A bound on one order

like_self : (e : Event) → LikeEvent e e
like_self (doctype legacy) = refl
like_self (start n f attributes) = (refl, refl, IsPermutation-refl attributes)
like_self (text s raw) = refl
like_self (comment s) = refl
like_self (end n f) = refl

back : (e d : Event) → e ≡ d → LikeEvent d e
back e d is = subst (λ x. LikeEvent x e) is (like_self e)

event_back : (e d : Event) → LikeEvent e d → LikeEvent d e
event_back (doctype legacy) d h = back (doctype legacy) d h
event_back (start n f xs) (doctype legacy) h = back (start n f xs) (doctype legacy) h
event_back (start n f xs) (start m g ys) h = (sym h.0, sym h.1, IsPermutation-sym xs ys h.2)
event_back (start n f xs) (text s raw) h = back (start n f xs) (text s raw) h
event_back (start n f xs) (comment s) h = back (start n f xs) (comment s) h
event_back (start n f xs) (end m g) h = back (start n f xs) (end m g) h
event_back (text s raw) d h = back (text s raw) d h
event_back (comment s) d h = back (comment s) d h
event_back (end n f) d h = back (end n f) d h

like_back : (w v : List Event) → Like w v → Like v w
like_back [] [] h = tt
like_back [] (d ∷ v) h = absurd h
like_back (e ∷ w) [] h = absurd h
like_back (e ∷ w) (d ∷ v) h = (event_back e d h.0, like_back w v h.1)

pub ordered_bounds_all : OrderedBoundsAll
ordered_bounds_all t k r w so n bound v sv like b spells =
    let o : List Event = reordered (sparing_plain t r) w in
    let settled : Settled w = like_settled o w (like_back w o (ordered_is_like (sparing_plain t r) w)) so in
    let first = bound _ (first_ways_are_best t k r o so).spells in
    let second = ordered_is_shortest t k r w settled v sv like b spells in
    omega (arith, first, second)

-- ---- A tree that is the one in order

pub made_like : (g : Spelling) (w v : List Event) → v ≡ reordered g w → Like w v
made_like g w v is = subst (Like w) (sym is) (ordered_is_like g w)

pub made_settled : (g : Spelling) (w v : List Event) → v ≡ reordered g w → Settled w → Settled v
made_settled g w v is s = like_settled w v (made_like g w v is) s

pub made_shortest : (t : List Entry) → IsTable t → (r : SpellRules) (w v : List Event) → v ≡ reordered (sparing_plain t r) w → Settled w
    → ShortestAny t r w (length (first_way (edges_of (sparing_plain t r)) (units_of r v) first_state))
made_shortest t k r w v is s = subst (λ u. ShortestAny t r w (length (first_way (edges_of (sparing_plain t r)) (units_of r u) first_state))) (sym is) (ordered_is_shortest t k r w s)
