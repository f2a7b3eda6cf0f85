-- What a value takes at least and at most, by the weights of its characters.
use Rattle.std.proofs.Common.{◌≡◌, ◌+◌, ◌≤◌, ℕ, Bool, true, false, cond, ◌&&◌, List, [], ◌∷◌, ◌++◌, length, map, Option, Some, None, is_some, refl, sym, ap, ◌∙◌, subst, inl, inr, ◌⊎◌, arith, length-append, encode_utf8, codes, nat_le}
use Rattle.std.specs.Fmt as digits
use Rattle.hm_base.specs.Bytes.{is_null}
use Rattle.hm_edges.proofs.NamesFor.{names_are, names_at}
use Rattle.hm_graph_laws.proofs.ChoiceLaws.{IsNamedChoice, itself_fits, name_fits, named_is, pair_to_is, whole_of}
use Rattle.hm_graph_laws.proofs.In.{in_append, only}
use Rattle.hm_graph_laws.proofs.Numbers.{number_fits}
use Rattle.hm_graph_laws.proofs.Runs.{run_fits}
use Rattle.hm_graph_laws.specs.AttributeEdges.{closed_at}
use Rattle.hm_graph_laws.specs.CharacterEdges.{as_itself, after_half, after_name, after_pair, by_decimal, by_hexadecimal, by_names, by_pairs, by_references, Choice, choice, choices, choices_by, itself_by, itself_to, kept_at}
use Rattle.hm_graph_laws.specs.Edges.{Edge, edge, edge_length}
use Rattle.hm_graph_laws.specs.States.{half, hexadecimal, nothing, Pending, State, state, value_spot, Where}
use Rattle.hm_graph_laws.specs.Steps.{Fits, FitsAfter, may_end, run, step}
use Rattle.hm_graph_laws.specs.UnitEdges.{edges_of}
use Rattle.hm_graph_laws.specs.Units.{attribute_end, character_units, in_value, next_of, Unit}
use Rattle.hm_graph_laws.specs.Ways.{best, least, lesser, over}
use Rattle.hm_refs.specs.Names.{Entry}
use Rattle.hm_refs.specs.Numbers.{best_number}
use Rattle.hm_refs.specs.Tables.{entry_at, first, IsIn, IsTable, later, places_for}
use Rattle.hm_refs.proofs.Bools.{and_right}
use Rattle.hm_refs.proofs.Found.{good_entry}
use Rattle.hm_refs.proofs.Shortest.{shortest}
use Rattle.hm_spelling_spec.specs.Characters.{is_writable, may_stand, may_stand_in, Spot}
use Rattle.hm_spelling_spec.specs.Tags.{character_rules, Spelling}
use Rattle.hm_order.specs.Weights.{AreHeavy, size, total}
use Rattle.hm_order.proofs.Values.{character_edges_are, Closes}

-- ---- Prices that are at least a number

abbrev pub AtLeast : ℕ → Option ℕ → Type 0
AtLeast n None = Prim.Unit {0}
AtLeast n (Some m) = n ≤ m

lesser_at_least : (n : ℕ) (p q : Option ℕ) → AtLeast n p → AtLeast n q → AtLeast n (lesser p q)
lesser_at_least n None q h k = k
lesser_at_least n (Some a) None h k = h
lesser_at_least n (Some a) (Some b) h k = omega (arith, h, k)

over_at_least : (n m k : ℕ) (p : Option ℕ) → AtLeast m p → n ≤ k + m → AtLeast n (over k p)
over_at_least n m k None h e = tt
over_at_least n m k (Some a) h e = omega (arith, h, e)

best_at_least : (n : ℕ) (f : State → Option ℕ) (es : List Edge) → ((e : Edge) → IsIn e es → AtLeast n (over (edge_length e) (f e.to))) → AtLeast n (best f es)
best_at_least n f [] each = tt
best_at_least n f (e ∷ es) each = lesser_at_least n (over (edge_length e) (f e.to)) (best f es) (each e (first es)) (best_at_least n f es (λ x i. each x (later e es i)))

-- ---- The choices of a character

-- what is asked of the weight of a character
pub record IsWeighed (g : Spelling) (spot : Spot) (W : ℕ → ℕ) (c : ℕ) : Type 0 where
  pub literal : may_stand_in spot c ≡ true → W c ≤ size c
  pub few : g.refers c ≡ true → W c ≤ 3
  pub names : g.refers c ≡ true → AreHeavy W g.table (places_for c g.table)

abbrev pub AreWeighed : Spelling → Spot → (ℕ → ℕ) → List ℕ → Type 0
AreWeighed g spot W [] = Prim.Unit {0}
AreWeighed g spot W (c ∷ cs) = IsWeighed g spot W c × AreWeighed g spot W cs

-- a choice writes as much as c weighs, or as c and the next one weigh
pub record PaysOne (t : List Entry) (spot : Spot) (W : ℕ → ℕ) (c : ℕ) (e : Choice) : Type 0 where
  pub fits : Fits t spot e.to
  pub pays : W c ≤ length e.bytes

pub record PaysTwo (t : List Entry) (spot : Spot) (W : ℕ → ℕ) (c d : ℕ) (e : Choice) : Type 0 where
  pub left : Option (List ℕ)
  pub to_is : e.to ≡ half left
  pub fits : Fits t spot (after_half left)
  pub pays : W c + W d ≤ length e.bytes

abbrev pub Pays : List Entry → Spot → (ℕ → ℕ) → ℕ → Option ℕ → Choice → Type 0
Pays t spot W c next e = PaysOne t spot W c e ⊎ ((d : ℕ) × (next ≡ Some d) × PaysTwo t spot W c d e)

named_pays : (W : ℕ → ℕ) (t : List Entry) (to : List ℕ → Pending) (points is : List ℕ) (e : Choice) → AreHeavy W t is → IsIn e (names_at to points t is) → total W points ≤ length e.bytes
named_pays W t to points [] e h i = elim i [ ]
named_pays W t to points (x ∷ is) e h i = by (in_append e (by_names to points (entry_at t x ∷ [])) (names_at to points t is) i) (named_pays W t to points is e h.1)
  where
    here : IsNamedChoice (entry_at t x ∷ []) to points e → total W points ≤ length e.bytes
    here n =
        let same : n.entry ≡ entry_at t x = only n.entry (entry_at t x) n.among in
        subst (λ z. total W points ≤ length z.bytes) (sym n.choice_is)
        (subst (λ y. total W y ≤ length n.entry.name) n.points_are (subst (λ y. total W y.points ≤ length y.name) (sym same) h.0))

    by : IsIn e (by_names to points (entry_at t x ∷ [])) ⊎ IsIn e (names_at to points t is) → (IsIn e (names_at to points t is) → total W points ≤ length e.bytes) → total W points ≤ length e.bytes
    by (inl j) more = here (named_is (entry_at t x ∷ []) to points e j)
    by (inr j) more = more j

some_digits : (ds : List ℕ) → is_null ds ≡ false → 1 ≤ length ds
some_digits [] h = cc
some_digits (d ∷ ds) h = omega arith

module _ (g : Spelling) (table : IsTable g.table) (spot : Spot) (W : ℕ → ℕ) where
  abbrev t : List Entry
  t = g.table

  itself_pays : (c : ℕ) (p : Pending) → IsWeighed g spot W c → Fits t spot p → (e : Choice) → IsIn e (as_itself t (character_rules g) spot c p) → PaysOne t spot W c e
  unfolding as_itself may_stand
  itself_pays c p w f e i = by (is_writable g.rules.ascii c && may_stand_in spot c) (run t spot (Some p) (encode_utf8 c)) refl (run_fits t spot (encode_utf8 c) (Some p) f) i
    where
      by : (m : Bool) (n : Option Pending) → (is_writable g.rules.ascii c && may_stand_in spot c) ≡ m → FitsAfter t spot n → IsIn e (cond m (itself_by spot c n) []) → PaysOne t spot W c e
      by true (Some q) hm fits j =
          let is : e ≡ choice (encode_utf8 c) (itself_to spot c q) = only e (choice (encode_utf8 c) (itself_to spot c q)) j in
          subst (PaysOne t spot W c) (sym is) (record { fits = itself_fits t table spot c q fits; pays = w.literal (and_right (is_writable g.rules.ascii c) (may_stand_in spot c) hm) })
      by true None hm fits j = elim j [ ]
      by false n hm fits j = elim j [ ]

  single_pays : (c : ℕ) → AreHeavy W t (places_for c t) → (e : Choice) → IsIn e (by_names after_name (c ∷ []) t) → PaysOne t spot W c e
  single_pays c h e i =
      let n = named_is t after_name (c ∷ []) e i in
      let long = named_pays W t after_name (c ∷ []) (places_for c t) e h (subst (IsIn e) (sym (names_are after_name c [] t)) i) in
      record { fits = subst (λ z. Fits t spot z.to) (sym n.choice_is) (name_fits t spot n.entry.name (good_entry t table n.entry n.among)); pays = omega (arith, long) }

  pair_pays : (c d : ℕ) → AreHeavy W t (places_for c t) → (e : Choice) → IsIn e (by_names after_pair (c ∷ d ∷ []) t) → PaysTwo t spot W c d e
  pair_pays c d h e i =
      let n = named_is t after_pair (c ∷ d ∷ []) e i in
      let long = named_pays W t after_pair (c ∷ d ∷ []) (places_for c t) e h (subst (IsIn e) (sym (names_are after_pair c (d ∷ []) t)) i) in
      let (left, to, same) = pair_to_is n.entry.name in
      record { left = left; to_is = ap (λ z. z.to) n.choice_is ∙ to; fits = subst (Fits t spot) (sym same) (name_fits t spot n.entry.name (good_entry t table n.entry n.among)); pays = omega (arith, long) }

  decimal_pays : (c : ℕ) (o : Option ℕ) → best_number c ≡ o → (e : Choice) → IsIn e (by_decimal o) → 3 ≤ length e.bytes
  decimal_pays c None is e i = elim i [ ]
  decimal_pays c (Some n) is e (first es) = let some = some_digits (digits.decimal n) (shortest c n is).gives.some in omega (arith, some)
  decimal_pays c (Some n) is e (later x es (first fs)) = let long = length-append (digits.decimal n) (codes ";") in omega (arith, long)
  decimal_pays c (Some n) is e (later x es (later y fs j)) = elim j [ ]

  hexadecimal_pays : (c : ℕ) (e : Choice) → IsIn e (by_hexadecimal c) → 3 ≤ length e.bytes
  hexadecimal_pays c e i = by (nat_le 1000000 c && nat_le c 1048575) e i
    where
      by : (b : Bool) (e : Choice) → IsIn e (cond b (choice (codes "&#x" ++ digits.digits 16 false c) hexadecimal ∷ choice (codes "&#x" ++ (digits.digits 16 false c ++ codes ";")) nothing ∷ []) []) → 3 ≤ length e.bytes
      by false e j = elim j [ ]
      by true e (first es) = let long = length-append (codes "&#x") (digits.digits 16 false c) in omega (arith, long)
      by true e (later x es (first fs)) = let long = length-append (codes "&#x") (digits.digits 16 false c ++ codes ";") in omega (arith, long)
      by true e (later x es (later y fs j)) = elim j [ ]

  number_pays : (c : ℕ) → W c ≤ 3 → (e : Choice) → IsIn e (by_decimal (best_number c) ++ by_hexadecimal c) → PaysOne t spot W c e
  number_pays c few e i = record { fits = number_fits t spot c e i; pays = by (in_append e (by_decimal (best_number c)) (by_hexadecimal c) i) }
    where
      by : IsIn e (by_decimal (best_number c)) ⊎ IsIn e (by_hexadecimal c) → W c ≤ length e.bytes
      by (inl j) = let long = decimal_pays c (best_number c) refl e j in omega (arith, long, few)
      by (inr j) = let long = hexadecimal_pays c e j in omega (arith, long, few)

  pairs_pay : (c : ℕ) (next : Option ℕ) → AreHeavy W t (places_for c t) → (e : Choice) → IsIn e (by_pairs t c next) → Pays t spot W c next e
  pairs_pay c None h e i = elim i [ ]
  pairs_pay c (Some d) h e i = inr (d, refl, pair_pays c d h e i)

  references_pay : (c : ℕ) (next : Option ℕ) → W c ≤ 3 → AreHeavy W t (places_for c t) → (e : Choice) → IsIn e (by_references t c next) → Pays t spot W c next e
  references_pay c next few h e i = by (in_append e (by_names after_name (c ∷ []) t) (by_pairs t c next ++ (by_decimal (best_number c) ++ by_hexadecimal c)) i)
    where
      after : IsIn e (by_pairs t c next) ⊎ IsIn e (by_decimal (best_number c) ++ by_hexadecimal c) → Pays t spot W c next e
      after (inl j) = pairs_pay c next h e j
      after (inr j) = inl (number_pays c few e j)

      by : IsIn e (by_names after_name (c ∷ []) t) ⊎ IsIn e (by_pairs t c next ++ (by_decimal (best_number c) ++ by_hexadecimal c)) → Pays t spot W c next e
      by (inl j) = inl (single_pays c h e j)
      by (inr j) = after (in_append e (by_pairs t c next) (by_decimal (best_number c) ++ by_hexadecimal c) j)

  -- each choice of a character where no code point is due
  choices_pay : (c : ℕ) (next : Option ℕ) (p : Pending) → IsWeighed g spot W c → Fits t spot p → (e : Choice) → IsIn e (choices t (character_rules g) spot c next p) → Pays t spot W c next e
  choices_pay c next p w f e i =
      by (is_some (step t spot p 38)) (g.refers c) refl
      (in_append e (as_itself t (character_rules g) spot c p) (cond (is_some (step t spot p 38) && g.refers c) (by_references t c next) []) (subst (λ o. IsIn e (choices_by o t (character_rules g) spot c next p)) (whole_of t spot p f) i))
    where
      by : (b r : Bool) → g.refers c ≡ r → IsIn e (as_itself t (character_rules g) spot c p) ⊎ IsIn e (cond (b && r) (by_references t c next) []) → Pays t spot W c next e
      by b r h (inl j) = inl (itself_pays c p w f e j)
      by true true h (inr j) = references_pay c next (w.few h) (w.names h) e j
      by true false h (inr j) = elim j [ ]
      by false r h (inr j) = elim j [ ]

-- an edge in the list is a choice
record IsKept (at : Where) (ks : List Choice) (e : Edge) : Type 0 where
  kept : Choice
  among : IsIn kept ks
  is : e ≡ kept_at at kept

kept_is : (at : Where) (ks : List Choice) (e : Edge) → IsIn e (map (kept_at at) ks) → IsKept at ks e
kept_is at [] e i = elim i [ ]
kept_is at (k ∷ ks) e (first es) = record { kept = k; among = first ks; is = refl }
kept_is at (k ∷ ks) e (later x es i) = let m = kept_is at ks e i in record { kept = m.kept; among = later k ks m.among; is = m.is }

-- ---- A value takes at least what its characters weigh

module _ (g : Spelling) (table : IsTable g.table) (at : Where) (b : List ℕ) (to : Where) (closes : Closes at b to) (W : ℕ → ℕ) where
  abbrev spot : Spot
  spot = value_spot at

  abbrev pub units : List ℕ → List Unit
  units cs = character_units in_value cs ++ attribute_end ∷ []

  abbrev pub from : List ℕ → Pending → Option ℕ
  from cs p = least (edges_of g) (units cs) (state at p)

  abbrev pub Whole : List ℕ → Type 0
  Whole cs = (p : Pending) → Fits g.table spot p → AtLeast (total W cs + length b) (from cs p)

  end_at_least : (p : Pending) → AtLeast (0 + length b) (from [] p)
  end_at_least p = by (may_end g.table spot p)
    where
      one : AtLeast (0 + length b) (best (λ s. Some 0) (edge b to nothing ∷ []))
      one = omega arith

      by : (m : Bool) → AtLeast (0 + length b) (best (λ s. Some 0) (cond m (closed_at at) []))
      by true = subst (λ es. AtLeast (0 + length b) (best (λ s. Some 0) es)) (sym closes.closed) one
      by false = tt

  -- after a name for two code points the second one is skipped
  half_at_least : (d : ℕ) (cs : List ℕ) (left : Option (List ℕ)) → Fits g.table spot (after_half left) → Whole cs → AtLeast (total W cs + length b) (from (d ∷ cs) (half left))
  half_at_least d cs left f more =
      subst (λ es. AtLeast (total W cs + length b) (best (least (edges_of g) (units cs)) es)) (sym (character_edges_are g at (half left) d (next_of cs) closes.out closes.plain))
      (lesser_at_least (total W cs + length b) (over 0 (from cs (after_half left))) None (over_at_least (total W cs + length b) (total W cs + length b) 0 (from cs (after_half left)) (more (after_half left) f) (omega arith)) tt)

  one_at_least : (c : ℕ) (cs : List ℕ) (e : Choice) → PaysOne g.table spot W c e → Whole cs → AtLeast (total W (c ∷ cs) + length b) (over (length e.bytes) (from cs e.to))
  one_at_least c cs e one more = let pays = one.pays in over_at_least (total W (c ∷ cs) + length b) (total W cs + length b) (length e.bytes) (from cs e.to) (more e.to one.fits) (omega (arith, pays))

  two_at_least : (c d : ℕ) (cs : List ℕ) (e : Choice) → PaysTwo g.table spot W c d e → Whole cs → AtLeast (total W (c ∷ d ∷ cs) + length b) (over (length e.bytes) (from (d ∷ cs) e.to))
  two_at_least c d cs e two more =
      let pays = two.pays in
      over_at_least (total W (c ∷ d ∷ cs) + length b) (total W cs + length b) (length e.bytes) (from (d ∷ cs) e.to)
      (subst (λ p. AtLeast (total W cs + length b) (from (d ∷ cs) p)) (sym two.to_is) (half_at_least d cs two.left two.fits more)) (omega (arith, pays))

  -- each edge of a character
  edges_at_least : (c : ℕ) (cs : List ℕ) (p : Pending) → IsWeighed g spot W c → Fits g.table spot p → ((e : Choice) → Pays g.table spot W c (next_of cs) e → AtLeast (total W (c ∷ cs) + length b) (over (length e.bytes) (from cs e.to)))
      → AtLeast (total W (c ∷ cs) + length b) (from (c ∷ cs) p)
  edges_at_least c cs p w f each =
      subst (λ es. AtLeast (total W (c ∷ cs) + length b) (best (least (edges_of g) (units cs)) es)) (sym (character_edges_are g at p c (next_of cs) closes.out closes.plain))
      (best_at_least (total W (c ∷ cs) + length b) (least (edges_of g) (units cs)) (map (kept_at at) (choices g.table (character_rules g) spot c (next_of cs) p))
      (λ e i. let m = kept_is at (choices g.table (character_rules g) spot c (next_of cs) p) e i in
      subst (λ x. AtLeast (total W (c ∷ cs) + length b) (over (edge_length x) (least (edges_of g) (units cs) x.to))) (sym m.is) (each m.kept (choices_pay g table spot W c (next_of cs) p w f m.kept m.among))))

  pub value_at_least : (cs : List ℕ) → AreWeighed g spot W cs → Whole cs
  value_at_least [] h p f = end_at_least p
  value_at_least (c ∷ []) h p f = edges_at_least c [] p h.0 f by
    where
      by : (e : Choice) → Pays g.table spot W c None e → AtLeast (total W (c ∷ []) + length b) (over (length e.bytes) (from [] e.to))
      by e (inl one) = one_at_least c [] e one (λ q k. end_at_least q)
      by e (inr (d, is, two)) = cc
  value_at_least (c ∷ x ∷ cs) h p f = edges_at_least c (x ∷ cs) p h.0 f (by (value_at_least (x ∷ cs) h.1) (value_at_least cs h.1.1))
    where
      by : Whole (x ∷ cs) → Whole cs → (e : Choice) → Pays g.table spot W c (Some x) e → AtLeast (total W (c ∷ x ∷ cs) + length b) (over (length e.bytes) (from (x ∷ cs) e.to))
      by next after e (inl one) = one_at_least c (x ∷ cs) e one next
      by next after e (inr (d, is, two)) = two_at_least c x cs e (subst (λ y. PaysTwo g.table spot W c y e) (let same : d ≡ x = cc in same) two) after
