-- No tree that differs in the order of attributes alone has a lower price than the one with its attributes put in order.
use Rattle.std.proofs.Common.{◌≡◌, ◌+◌, ◌≤◌, ℕ, Bool, true, false, ◌&&◌, List, [], ◌∷◌, ◌++◌, length, Option, Some, None, refl, sym, ap, ap₂, ◌∙◌, subst, arith, bytes_eq, codes}
use Rattle.std.specs.Prelude.{IsPermutation}
use Rattle.std.proofs.lemmas.Bool.{and_parts}
use Rattle.std.specs.Prelude.{sum_by}
use Rattle.std.proofs.lemmas.List.Sums.{sum_by-cons}
use Rattle.std.proofs.lemmas.List.Sorted.{sum_by-IsPermutation}
use Rattle.hm_base.specs.Walks.{Attribute, Event, doctype, start, text, comment, end, Element, is_same_element, ends_match, begins_end}
use Rattle.hm_base.specs.declared.plain.SpellRules.{SpellRules}
use Rattle.hm_elements.specs.Paths.{outer}
use Rattle.hm_graph_laws.specs.UnitEdges.{edges_of}
use Rattle.hm_graph_laws.specs.Ways.{Edges, least, lesser, over, best}
use Rattle.hm_spelling_spec.specs.Omission.{start_falls, may_omit_end, end_falls}
use Rattle.hm_spelling_spec.specs.Tags.{Spelling}
use Rattle.hm_graph_laws.specs.Edges.{Edge, edge_length}
use Rattle.hm_graph_laws.specs.States.{State, state, self_closed, nothing, first_state}
use Rattle.hm_graph_laws.specs.Units.{Unit, fixed, end_tag, tag_close, tag_name, attribute_units, start_units, end_units, text_units, doctype_bytes, may_close_itself, is_required_after_omission, is_after_start, is_omission_noted, units_from, Previous}
use Rattle.hm_optimality_laws.specs.SpellingLaws.{SparesOnlyPlain}
use Rattle.hm_order.specs.Costs.{plus}
use Rattle.hm_order.specs.Laws.{close_cost, ClosesBefore}
use Rattle.hm_order.specs.Orders.{ordered, reordered, Like, picked, Picked}
use Rattle.hm_order.proofs.Split.{tags_split}
use Rattle.hm_order.proofs.Best.{total, cost_is, picked_costs_least}
use Rattle.hm_order.proofs.Numbers.{never, tag_is, numbers, inner_of, last_of}

-- ---- Prices of which one is no more than the other

abbrev pub NoMore : Option ℕ → Option ℕ → Type 0
NoMore p None = Prim.Unit {0}
NoMore None (Some m) = ⊥
NoMore (Some n) (Some m) = n ≤ m

no_more_self : (p : Option ℕ) → NoMore p p
no_more_self None = tt
no_more_self (Some n) = omega arith

over_no_more : (k : ℕ) (p q : Option ℕ) → NoMore p q → NoMore (over k p) (over k q)
over_no_more k p None h = tt
over_no_more k None (Some m) h = h
over_no_more k (Some n) (Some m) h = omega (arith, h)

lesser_no_more : (p q x y : Option ℕ) → NoMore p q → NoMore x y → NoMore (lesser p x) (lesser q y)
lesser_no_more p None x None h k = tt
lesser_no_more None None x (Some m) h k = k
lesser_no_more (Some n) None None (Some m) h k = elim k [ ]
lesser_no_more (Some n) None (Some o) (Some m) h k = omega (arith, k)
lesser_no_more None (Some m) x y h k = elim h [ ]
lesser_no_more (Some n) (Some m) None None h k = h
lesser_no_more (Some n) (Some m) (Some o) None h k = omega (arith, h)
lesser_no_more (Some n) (Some m) None (Some l) h k = elim k [ ]
lesser_no_more (Some n) (Some m) (Some o) (Some l) h k = omega (arith, h, k)

plus_no_more : (a b : ℕ) (p q : Option ℕ) → a ≤ b → NoMore p q → NoMore (plus (Some a) p) (plus (Some b) q)
plus_no_more a b p None h k = tt
plus_no_more a b None (Some m) h k = k
plus_no_more a b (Some n) (Some m) h k = omega (arith, h, k)

best_no_more : (f h : State → Option ℕ) → ((s : State) → NoMore (f s) (h s)) → (es : List Edge) → NoMore (best f es) (best h es)
best_no_more f h k [] = tt
best_no_more f h k (e ∷ es) = lesser_no_more (over (edge_length e) (f e.to)) (over (edge_length e) (h e.to)) (best f es) (best h es) (over_no_more (edge_length e) (f e.to) (h e.to) (k e.to)) (best_no_more f h k es)

-- units that cost no more from any state
abbrev pub NoMoreUnits : Edges → List Unit → List Unit → Type 0
NoMoreUnits es us vs = (s : State) → NoMore (least es us s) (least es vs s)

same_front : (es : Edges) (xs us vs : List Unit) → NoMoreUnits es us vs → NoMoreUnits es (xs ++ us) (xs ++ vs)
same_front es [] us vs h = h
same_front es (x ∷ xs) us vs h = λ s. best_no_more (least es (xs ++ us)) (least es (xs ++ vs)) (same_front es xs us vs h) (es x s)

-- ---- No test asks for the attributes of what follows

abbrev pub bare : List Event → List Event
bare [] = []
bare (doctype legacy ∷ w) = doctype legacy ∷ bare w
bare (start n foreign attributes ∷ w) = start n foreign [] ∷ bare w
bare (text s raw ∷ w) = text s raw ∷ bare w
bare (comment s ∷ w) = comment s ∷ bare w
bare (end n foreign ∷ w) = end n foreign ∷ bare w

pub bare_like : (w v : List Event) → Like w v → bare w ≡ bare v
bare_like [] [] h = refl
bare_like [] (d ∷ v) h = elim h [ ]
bare_like (e ∷ w) [] h = elim h [ ]
bare_like (start n foreign attributes ∷ w) (start m other more ∷ v) h = ap₂ (λ x y. x ∷ y) (ap₂ (λ x y. start x y []) h.0.0 h.0.1) (bare_like w v h.1)
bare_like (start n foreign attributes ∷ w) (doctype legacy ∷ v) (h, k) = cc
bare_like (start n foreign attributes ∷ w) (text s raw ∷ v) (h, k) = cc
bare_like (start n foreign attributes ∷ w) (comment s ∷ v) (h, k) = cc
bare_like (start n foreign attributes ∷ w) (end m other ∷ v) (h, k) = cc
bare_like (doctype legacy ∷ w) (d ∷ v) h = ap (λ u. doctype legacy ∷ u) (bare_like w v h.1) ∙ ap (λ x. bare (x ∷ v)) h.0
bare_like (text s raw ∷ w) (d ∷ v) h = ap (λ u. text s raw ∷ u) (bare_like w v h.1) ∙ ap (λ x. bare (x ∷ v)) h.0
bare_like (comment s ∷ w) (d ∷ v) h = ap (λ u. comment s ∷ u) (bare_like w v h.1) ∙ ap (λ x. bare (x ∷ v)) h.0
bare_like (end n foreign ∷ w) (d ∷ v) h = ap (λ u. end n foreign ∷ u) (bare_like w v h.1) ∙ ap (λ x. bare (x ∷ v)) h.0

bare_reordered : (g : Spelling) (w : List Event) → bare (reordered g w) ≡ bare w
bare_reordered g [] = refl
bare_reordered g (doctype legacy ∷ w) = ap (λ u. doctype legacy ∷ u) (bare_reordered g w)
bare_reordered g (start n foreign attributes ∷ w) = ap (λ u. start n foreign [] ∷ u) (bare_reordered g w)
bare_reordered g (text s raw ∷ w) = ap (λ u. text s raw ∷ u) (bare_reordered g w)
bare_reordered g (comment s ∷ w) = ap (λ u. comment s ∷ u) (bare_reordered g w)
bare_reordered g (end n foreign ∷ w) = ap (λ u. end n foreign ∷ u) (bare_reordered g w)

-- what a test says of a walk, it says of the walk without attributes
pub ends_bare : (w : List Event) → begins_end w ≡ begins_end (bare w)
ends_bare [] = refl
ends_bare (doctype legacy ∷ w) = refl
ends_bare (start n foreign attributes ∷ w) = refl
ends_bare (text s raw ∷ w) = refl
ends_bare (comment s ∷ w) = refl
ends_bare (end n foreign ∷ w) = refl

start_bare : (f : Bool) (n : List ℕ) (w : List Event) → start_falls f n w ≡ start_falls f n (bare w)
unfolding start_falls
start_bare f n [] = refl
start_bare f n (doctype legacy ∷ w) = refl
start_bare f n (start m foreign attributes ∷ w) = refl
start_bare f n (text s raw ∷ w) = refl
start_bare f n (comment s ∷ w) = refl
start_bare f n (end m foreign ∷ w) = refl

end_bare : (r : SpellRules) (n : List ℕ) (foreign : Bool) (path : List Element) (w : List Event) → may_omit_end r n foreign path w ≡ may_omit_end r n foreign path (bare w)
unfolding may_omit_end end_falls
end_bare r n f path [] = refl
end_bare r n f path (doctype legacy ∷ w) = refl
end_bare r n f path (start m foreign attributes ∷ w) = refl
end_bare r n f path (text s raw ∷ w) = refl
end_bare r n f path (comment s ∷ w) = refl
end_bare r n f path (end m foreign ∷ w) = refl

pub matches_bare : (path : List Element) (w : List Event) → ends_match path w ≡ ends_match path (bare w)
matches_bare path [] = refl
matches_bare [] (end n foreign ∷ w) = refl
matches_bare (e ∷ path) (end n foreign ∷ w) = ap (λ b. is_same_element e n foreign && b) (matches_bare path w)
matches_bare [] (doctype legacy ∷ w) = matches_bare [] w
matches_bare (e ∷ path) (doctype legacy ∷ w) = matches_bare (e ∷ path) w
matches_bare [] (start n foreign attributes ∷ w) = matches_bare _ w
matches_bare (e ∷ path) (start n foreign attributes ∷ w) = matches_bare _ w
matches_bare [] (text s raw ∷ w) = matches_bare [] w
matches_bare (e ∷ path) (text s raw ∷ w) = matches_bare (e ∷ path) w
matches_bare [] (comment s ∷ w) = matches_bare [] w
matches_bare (e ∷ path) (comment s ∷ w) = matches_bare (e ∷ path) w

-- ---- What is asked of the event before

abbrev pub SamePrevious : Previous → Previous → Type 0
SamePrevious p q = ((n : List ℕ) → is_required_after_omission p n ≡ is_required_after_omission q n) × (is_after_start p ≡ is_after_start q)

pub same_previous : (p : Previous) → SamePrevious p p
same_previous p = ((λ n. refl), refl)

same_text : (p q : Previous) (path : List Element) (s : List ℕ) (raw : Bool) → SamePrevious p q → text_units p path s raw ≡ text_units q path s raw
same_text p q path s true h = refl
same_text p q path s false h = rw h.1 refl

-- ---- Tags with attributes

-- an element that closes itself has an end tag that isn't left out
closes_before : (r : SpellRules) (previous : Previous) (n : List ℕ) (foreign : Bool) (path : List Element) (u : List Event) → ends_match (record { name = n; foreign = foreign } ∷ path) u ≡ true
    → (c : Bool) → may_close_itself foreign u ≡ c → ClosesBefore c (units_from r previous (record { name = n; foreign = foreign } ∷ path) u)
closes_before r previous n foreign path u m false h = tt
closes_before r previous n false path u m true h = cc
closes_before r previous n true path [] m true h = cc
closes_before r previous n true path (doctype legacy ∷ u) m true h = cc
closes_before r previous n true path (start k f attributes ∷ u) m true h = cc
closes_before r previous n true path (text s raw ∷ u) m true h = cc
closes_before r previous n true path (comment s ∷ u) m true h = cc
closes_before r previous n true path (end k false ∷ u) m true h = absurd (let no : false ≡ true = (and_parts (bytes_eq n k) false (and_parts (is_same_element (record { name = n; foreign = true }) k false) (ends_match path u) m).0).1 in cc)
closes_before r previous n true path (end k true ∷ u) m true h =
    (k, is_omission_noted k, units_from r (Some (end k true)) path u, ap (λ o. end_tag k o (is_omission_noted k) ∷ units_from r (Some (end k true)) path u) (never r k path u))

close_no_more : (g : Spelling) (c : Bool) (us vs : List Unit) → NoMoreUnits (edges_of g) us vs → NoMore (close_cost g c us) (close_cost g c vs)
close_no_more g true us vs h = over_no_more 2 (least (edges_of g) us (state self_closed nothing)) (least (edges_of g) vs (state self_closed nothing)) (h (state self_closed nothing))
close_no_more g false us vs h = over_no_more 1 (least (edges_of g) us first_state) (least (edges_of g) vs first_state) (h first_state)

-- a list with something in it
record IsMore (all : List Attribute) : Type 0 where
  head : Attribute
  rest : List Attribute
  is : all ≡ head ∷ rest

more_after : (xs : List Attribute) (a : Attribute) → IsMore (xs ++ a ∷ [])
more_after [] a = record { head = a; rest = []; is = refl }
more_after (x ∷ xs) a = record { head = x; rest = xs ++ a ∷ []; is = refl }

-- what the attributes of a tag take
abbrev sum_of : (g : Spelling) → SparesOnlyPlain g → Bool → List Attribute → ℕ
sum_of g plain c attributes = total (inner_of g plain c) (last_of g plain c) attributes

tag_costs_sum : (g : Spelling) (plain : SparesOnlyPlain g) (n : List ℕ) (c : Bool) (x : Attribute) (zs : List Attribute) (rest : List Unit) (s : State) → ClosesBefore c rest
    → least (edges_of g) ((tag_name n ∷ (attribute_units (x ∷ zs) ++ tag_close c ∷ [])) ++ rest) s ≡ over (length n + 2) (plus (Some (sum_of g plain c (x ∷ zs))) (close_cost g c rest))
tag_costs_sum g plain n c x zs rest s before =
    ap (λ us. least (edges_of g) us s) (tag_is n x zs c rest) ∙ tags_split g n x zs c rest s before
    ∙ ap (λ p. over (length n + 2) (plus p (close_cost g c rest))) (cost_is g c (inner_of g plain c) (last_of g plain c) (numbers g plain c) zs x)

tag_no_more : (g : Spelling) → SparesOnlyPlain g → (n : List ℕ) (c : Bool) (a b : Attribute) (xs ys : List Attribute) (us vs : List Unit) → IsPermutation (a ∷ xs) (b ∷ ys) → ClosesBefore c us → ClosesBefore c vs → NoMoreUnits (edges_of g) us vs
    → NoMoreUnits (edges_of g) ((tag_name n ∷ (attribute_units (ordered g c (a ∷ xs)) ++ tag_close c ∷ [])) ++ us) ((tag_name n ∷ (attribute_units (b ∷ ys) ++ tag_close c ∷ [])) ++ vs)
tag_no_more g plain n c a b xs ys us vs same before other h s =
    let p : Picked = picked g c a xs in
    let m : IsMore (ordered g c (a ∷ xs)) = more_after p.others p.last in
    let less : sum_of g plain c (m.head ∷ m.rest) ≤ sum_of g plain c (b ∷ ys) = subst (λ all. sum_of g plain c all ≤ sum_of g plain c (b ∷ ys)) m.is (picked_costs_least g c (inner_of g plain c) (last_of g plain c) (numbers g plain c) a b xs ys same) in
    let sums = over_no_more (length n + 2) _ _ (plus_no_more _ _ (close_cost g c us) (close_cost g c vs) less (close_no_more g c us vs h)) in
    subst (λ all. NoMore (least (edges_of g) ((tag_name n ∷ (attribute_units all ++ tag_close c ∷ [])) ++ us) s) (least (edges_of g) ((tag_name n ∷ (attribute_units (b ∷ ys) ++ tag_close c ∷ [])) ++ vs) s)) (sym m.is)
    (subst (λ q. NoMore (least (edges_of g) ((tag_name n ∷ (attribute_units (m.head ∷ m.rest) ++ tag_close c ∷ [])) ++ us) s) q) (sym (tag_costs_sum g plain n c b ys vs s other))
    (subst (λ q. NoMore q (over (length n + 2) (plus (Some (sum_of g plain c (b ∷ ys))) (close_cost g c vs)))) (sym (tag_costs_sum g plain n c m.head m.rest us s before)) sums))

-- ---- Walks

-- no attributes are in the order of no others
abbrev CountOf : List Attribute → ℕ
CountOf attributes = sum_by (λ a. 1) attributes

none_like : (more : List Attribute) → IsPermutation [] more → more ≡ []
none_like [] h = refl
none_like (b ∷ more) h = absurd (let c = sum_by-IsPermutation (λ a. 1) [] (b ∷ more) h in let d = sum_by-cons (λ (a : Attribute). 1) b more in omega (arith, c, d))

some_like : (a : Attribute) (attributes : List Attribute) → IsPermutation (a ∷ attributes) [] → ⊥
some_like a attributes h = let c = sum_by-IsPermutation (λ a. 1) (a ∷ attributes) [] h in let d = sum_by-cons (λ (a : Attribute). 1) a attributes in omega (arith, c, d)

module _ (g : Spelling) (plain : SparesOnlyPlain g) where
  abbrev pub es : Edges
  es = edges_of g

  bare_both : (w v : List Event) → Like w v → bare (reordered g w) ≡ bare v
  bare_both w v like = bare_reordered g w ∙ bare_like w v like

  same_closes : (f : Bool) (w v : List Event) → Like w v → may_close_itself f (reordered g w) ≡ may_close_itself f v
  same_closes f w v like = ap (λ b. f && b) (ends_bare (reordered g w) ∙ ap begins_end (bare_both w v like) ∙ sym (ends_bare v))

  same_own : (f : Bool) (w : List Event) → may_close_itself f (reordered g w) ≡ may_close_itself f w
  same_own f w = ap (λ b. f && b) (ends_bare (reordered g w) ∙ ap begins_end (bare_reordered g w) ∙ sym (ends_bare w))

  same_start : (f : Bool) (n : List ℕ) (w v : List Event) → Like w v → start_falls f n (reordered g w) ≡ start_falls f n v
  same_start f n w v like = start_bare f n (reordered g w) ∙ ap (start_falls f n) (bare_both w v like) ∙ sym (start_bare f n v)

  same_end : (r : SpellRules) (n : List ℕ) (f : Bool) (path : List Element) (w v : List Event) → Like w v → end_units r n f path (reordered g w) ≡ end_units r n f path v
  same_end r n f path w v like = rw (end_bare r n f path (reordered g w) ∙ ap (may_omit_end r n f path) (bare_both w v like) ∙ sym (end_bare r n f path v)) refl

  plain_start : (p q : Previous) (n : List ℕ) (f : Bool) (w v : List Event) → Like w v → SamePrevious p q → start_units g.rules p n f [] (reordered g w) ≡ start_units g.rules q n f [] v
  plain_start p q n f w v like h = rw (same_start g.rules.frame n w v like, h.0 n, same_closes f w v like) refl

  same_matches : (path : List Element) (w v : List Event) → Like w v → ends_match path (reordered g w) ≡ ends_match path v
  same_matches path w v like = matches_bare path (reordered g w) ∙ ap (ends_match path) (bare_both w v like) ∙ sym (matches_bare path v)

  fronts : (xs ys us vs : List Unit) → xs ≡ ys → NoMoreUnits es us vs → NoMoreUnits es (xs ++ us) (ys ++ vs)
  fronts xs ys us vs e h = subst (λ zs. NoMoreUnits es (xs ++ us) (zs ++ vs)) e (same_front es xs us vs h)

  start_no_more : (p q : Previous) (n : List ℕ) (f : Bool) (path : List Element) (attributes more : List Attribute) (w v : List Event) → IsPermutation attributes more → Like w v → SamePrevious p q → ends_match (record { name = n; foreign = f } ∷ path) v ≡ true
      → ((x y : Previous) → SamePrevious x y → NoMoreUnits es (units_from g.rules x (record { name = n; foreign = f } ∷ path) (reordered g w)) (units_from g.rules y (record { name = n; foreign = f } ∷ path) v))
      → NoMoreUnits es (units_from g.rules p path (reordered g (start n f attributes ∷ w))) (units_from g.rules q path (start n f more ∷ v))
  start_no_more p q n f path [] more w v same like h m next =
      subst (λ ys. NoMoreUnits es (units_from g.rules p path (start n f [] ∷ reordered g w)) (units_from g.rules q path (start n f ys ∷ v))) (sym (none_like more same))
      (fronts (start_units g.rules p n f [] (reordered g w)) (start_units g.rules q n f [] v) (units_from g.rules (Some (start n f [])) (record { name = n; foreign = f } ∷ path) (reordered g w)) (units_from g.rules (Some (start n f [])) (record { name = n; foreign = f } ∷ path) v)
      (plain_start p q n f w v like h) (next (Some (start n f [])) (Some (start n f [])) (same_previous (Some (start n f [])))))
  start_no_more p q n f path (a ∷ xs) [] w v same like h m next = absurd (some_like a xs same)
  start_no_more p q n f path (a ∷ xs) (b ∷ ys) w v same like h m next =
      let c : Bool = may_close_itself f w in
      let own : may_close_itself f (reordered g w) ≡ c = same_own f w in
      let other : may_close_itself f v ≡ c = sym (same_closes f w v like) ∙ own in
      let em : ends_match (record { name = n; foreign = f } ∷ path) (reordered g w) ≡ true = same_matches (record { name = n; foreign = f } ∷ path) w v like ∙ m in
      let us : List Unit = units_from g.rules (Some (start n f (ordered g c (a ∷ xs)))) (record { name = n; foreign = f } ∷ path) (reordered g w) in
      let vs : List Unit = units_from g.rules (Some (start n f (b ∷ ys))) (record { name = n; foreign = f } ∷ path) v in
      subst (λ ts. NoMoreUnits es (ts ++ us) (start_units g.rules q n f (b ∷ ys) v ++ vs)) (sym (start_is p n f c (ordered g c (a ∷ xs)) (reordered g w) own (more_after (picked g c a xs).others (picked g c a xs).last)))
      (subst (λ d. NoMoreUnits es ((tag_name n ∷ (attribute_units (ordered g c (a ∷ xs)) ++ tag_close c ∷ [])) ++ us) ((tag_name n ∷ (attribute_units (b ∷ ys) ++ tag_close d ∷ [])) ++ vs)) (sym other)
      (tag_no_more g plain n c a b xs ys us vs same (closes_before g.rules _ n f path (reordered g w) em c own) (closes_before g.rules _ n f path v m c other) (next _ _ ((λ k. refl), refl))))
    where
      start_is : (p : Previous) (n : List ℕ) (f c : Bool) (all : List Attribute) (u : List Event) → may_close_itself f u ≡ c → IsMore all → start_units g.rules p n f all u ≡ tag_name n ∷ (attribute_units all ++ tag_close c ∷ [])
      start_is p n f c all u e k = subst (λ zs. start_units g.rules p n f zs u ≡ tag_name n ∷ (attribute_units zs ++ tag_close c ∷ [])) (sym k.is) (ap (λ d. tag_name n ∷ (attribute_units (k.head ∷ k.rest) ++ tag_close d ∷ [])) e)

  -- the same event before both
  abbrev pub NoMoreWalks : Previous → Previous → List Element → List Event → List Event → Type 0
  NoMoreWalks p q path w v = NoMoreUnits es (units_from g.rules p path w) (units_from g.rules q path v)

  ends_less : (path : List Element) (n : List ℕ) (f : Bool) (v : List Event) → ends_match path (end n f ∷ v) ≡ true → ends_match (outer path) v ≡ true
  ends_less [] n f v h = cc
  ends_less (m ∷ path) n f v h = (and_parts (is_same_element m n f) (ends_match path v) h).1

  by_same : (e : Event) (w v : List Event) → ((path : List Element) → ends_match path (e ∷ v) ≡ true → (p q : Previous) → SamePrevious p q → NoMoreWalks p q path (e ∷ reordered g w) (e ∷ v))
      → (d : Event) → e ≡ d → (path : List Element) → ends_match path (d ∷ v) ≡ true → (p q : Previous) → SamePrevious p q → NoMoreWalks p q path (e ∷ reordered g w) (d ∷ v)
  by_same e w v all d is path m p q h = subst (λ x. NoMoreWalks p q path (e ∷ reordered g w) (x ∷ v)) is (all path (subst (λ x. ends_match path (x ∷ v) ≡ true) (sym is) m) p q h)

  pub ordered_no_more : (w v : List Event) → Like w v → (path : List Element) → ends_match path v ≡ true → (p q : Previous) → SamePrevious p q → NoMoreWalks p q path (reordered g w) v
  ordered_no_more [] [] like path m p q h = λ s. no_more_self (Some 0)
  ordered_no_more [] (d ∷ v) like path m p q h = elim like [ ]
  ordered_no_more (e ∷ w) [] like path m p q h = elim like [ ]
  ordered_no_more (doctype legacy ∷ w) (d ∷ v) (is, like) path m p q h =
      by_same (doctype legacy) w v (λ path m p q h. same_front es (fixed (doctype_bytes legacy) ∷ []) (units_from g.rules (Some (doctype legacy)) path (reordered g w)) (units_from g.rules (Some (doctype legacy)) path v)
      (ordered_no_more w v like path m (Some (doctype legacy)) (Some (doctype legacy)) (same_previous (Some (doctype legacy))))) d is path m p q h
  ordered_no_more (text s raw ∷ w) (d ∷ v) (is, like) path m p q h =
      by_same (text s raw) w v (λ path m p q h. fronts (text_units p path s raw) (text_units q path s raw) (units_from g.rules (Some (text s raw)) path (reordered g w)) (units_from g.rules (Some (text s raw)) path v) (same_text p q path s raw h)
      (ordered_no_more w v like path m (Some (text s raw)) (Some (text s raw)) (same_previous (Some (text s raw))))) d is path m p q h
  ordered_no_more (comment s ∷ w) (d ∷ v) (is, like) path m p q h =
      by_same (comment s) w v (λ path m p q h. same_front es (fixed (codes "<!--" ++ (s ++ codes "-->")) ∷ []) (units_from g.rules (Some (comment s)) path (reordered g w)) (units_from g.rules (Some (comment s)) path v)
      (ordered_no_more w v like path m (Some (comment s)) (Some (comment s)) (same_previous (Some (comment s))))) d is path m p q h
  ordered_no_more (end n f ∷ w) (d ∷ v) (is, like) path m p q h =
      by_same (end n f) w v (λ path m p q h. fronts (end_units g.rules n f (outer path) (reordered g w)) (end_units g.rules n f (outer path) v) (units_from g.rules (Some (end n f)) (outer path) (reordered g w)) (units_from g.rules (Some (end n f)) (outer path) v)
      (same_end g.rules n f (outer path) w v like) (ordered_no_more w v like (outer path) (ends_less path n f v m) (Some (end n f)) (Some (end n f)) (same_previous (Some (end n f))))) d is path m p q h
  ordered_no_more (start n f attributes ∷ w) (start k o more ∷ v) ((a, b, same), like) path m p q h =
      subst (λ x. NoMoreWalks p q path (reordered g (start n f attributes ∷ w)) (start x o more ∷ v)) a
      (subst (λ x. NoMoreWalks p q path (reordered g (start n f attributes ∷ w)) (start n x more ∷ v)) b
      (start_no_more p q n f path attributes more w v same like h (subst (λ x. ends_match (x ∷ path) v ≡ true) (ap₂ (λ x y. record { name = x; foreign = y }) (sym a) (sym b)) m)
      (λ x y k. ordered_no_more w v like (record { name = n; foreign = f } ∷ path) (subst (λ x. ends_match (x ∷ path) v ≡ true) (ap₂ (λ x y. record { name = x; foreign = y }) (sym a) (sym b)) m) x y k)))
  ordered_no_more (start n f attributes ∷ w) (doctype legacy ∷ v) (is, like) path m p q h = cc
  ordered_no_more (start n f attributes ∷ w) (text s raw ∷ v) (is, like) path m p q h = cc
  ordered_no_more (start n f attributes ∷ w) (comment s ∷ v) (is, like) path m p q h = cc
  ordered_no_more (start n f attributes ∷ w) (end k o ∷ v) (is, like) path m p q h = cc
