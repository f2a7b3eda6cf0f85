-- What an attribute costs whose value has easy characters alone.
use Rattle.std.proofs.Common.{◌≡◌, ◌+◌, ◌<◌, ◌≤◌, ℕ, Bool, true, false, cond, ◌&&◌, ◌||◌, not, nat_le, List, [], ◌∷◌, ◌++◌, length, map, Option, Some, None, is_some, refl, sym, ap, ap₂, ◌∙◌, subst, arith, encode_utf8, chars, length-append, if◌then◌else◌}
use Rattle.std.proofs.lemmas.Bool.Decides.{nat_tests}
use Rattle.std.proofs.lemmas.Str.{encode_ascii, encodes-chars}
use Rattle.std.specs.Prelude.{encode_utf8_all}
use Rattle.std.specs.Str.{IsUtf8}
use Rattle.std.specs.Option.{option_map}
use Rattle.hm_base.specs.Bytes.{is_space}
use Rattle.hm_graph_laws.proofs.ChoiceLaws.{itself_fits, whole_of}
use Rattle.hm_graph_laws.proofs.Runs.{run_fits}
use Rattle.hm_graph_laws.specs.AttributeEdges.{closed_at, gap_at, is_after_unquoted}
use Rattle.hm_graph_laws.specs.CharacterEdges.{as_itself, by_references, Choice, choice, choices_by, itself_to, kept_at}
use Rattle.hm_graph_laws.specs.ExchangeLaws.{sparing_plain}
use Rattle.hm_graph_laws.specs.States.{after_quoted, after_unquoted, in_double, in_single, in_unquoted, nothing, less_than, hash, hash_x, decimal, hexadecimal, ampersand, named, half, one_bracket, two_brackets, Pending, State, state, value_spot, Where}
use Rattle.hm_graph_laws.specs.Steps.{Fits, FitsAfter, may_end, run, step}
use Rattle.hm_graph_laws.specs.UnitEdges.{edges_of}
use Rattle.hm_graph_laws.specs.Units.{attribute_end, character, character_units, in_value, next_of, Unit}
use Rattle.hm_graph_laws.specs.Ways.{best, least, lesser, over}
use Rattle.hm_base.specs.declared.plain.SpellRules.{SpellRules}
use Rattle.hm_refs.specs.Names.{Entry}
use Rattle.hm_refs.specs.Plain.{is_plain}
use Rattle.hm_refs.specs.Tables.{entry_at, IsTable, places_for}
use Rattle.hm_spelling_spec.specs.Characters.{double, is_barred, may_stand, single, Spot, unquoted}
use Rattle.hm_spelling_spec.specs.Tags.{character_rules, Spelling}
use Rattle.hm_order.specs.Costs.{cost_of, inner_cost, last_cost, plus, value_cost}
use Rattle.hm_order.specs.Weights.{are_literal, AreEasy, counted, IsEasy, AreHeavy, easy_cost, ends, literal, literals, size, some_barred, total, weight}
use Rattle.hm_order.proofs.Values.{character_edges_are, Closes, closes_double, closes_single, closes_unquoted}
use Rattle.hm_order.proofs.Weighed.{AreWeighed, AtLeast, value_at_least}

-- ---- Prices that are at most a number

abbrev pub AtMost : ℕ → Option ℕ → Type 0
AtMost n None = ⊥
AtMost n (Some m) = m ≤ n

lesser_at_most : (n : ℕ) (p q : Option ℕ) → AtMost n p → AtMost n (lesser p q)
lesser_at_most n None q h = absurd h
lesser_at_most n (Some a) None h = h
lesser_at_most n (Some a) (Some b) h = omega (arith, h)

over_at_most : (n m k : ℕ) (p : Option ℕ) → AtMost m p → k + m ≤ n → AtMost n (over k p)
over_at_most n m k None h e = absurd h
over_at_most n m k (Some a) h e = omega (arith, h, e)

squeezed : (n : ℕ) (p : Option ℕ) → AtLeast n p → AtMost n p → p ≡ Some n
squeezed n None h k = absurd k
squeezed n (Some m) h k = ap Some (omega (arith, h, k))

-- ---- Characters as themselves

pub run_nothing : (t : List Entry) (spot : Spot) (s : List ℕ) → run t spot (Some nothing) s ≡ Some nothing
run_nothing t spot [] = refl
run_nothing t spot (c ∷ s) = run_nothing t spot s

-- each may stand as itself in such a value
abbrev pub Stand : Bool → Spot → List ℕ → Type 0
Stand ascii spot [] = Prim.Unit {0}
Stand ascii spot (c ∷ cs) = (may_stand ascii spot c ≡ true) × Stand ascii spot cs

none_ends : (t : List Entry) (spot : Spot) (cs : List ℕ) → ends t spot (literals t spot None cs) ≡ false
none_ends t spot [] = refl
none_ends t spot (c ∷ cs) = none_ends t spot cs

module _ (g : Spelling) (table : IsTable g.table) (at : Where) (b : List ℕ) (to : Where) (closes : Closes at b to) where
  abbrev pub units : List ℕ → List Unit
  units cs = character_units in_value cs ++ attribute_end ∷ []

  itself_is : (c : ℕ) (p q : Pending) → may_stand g.rules.ascii (value_spot at) c ≡ true → run g.table (value_spot at) (Some p) (encode_utf8 c) ≡ Some q
      → as_itself g.table (character_rules g) (value_spot at) c p ≡ choice (encode_utf8 c) (itself_to (value_spot at) c q) ∷ []
  unfolding as_itself
  itself_is c p q stands runs = rw (stands, runs) refl

  pub value_at_most : (cs : List ℕ) (p : Pending) → Fits g.table (value_spot at) p → Stand g.rules.ascii (value_spot at) cs → ends g.table (value_spot at) (literals g.table (value_spot at) (Some p) cs) ≡ true
      → AtMost (total size cs + length b) (least (edges_of g) (units cs) (state at p))
  value_at_most [] p f h e = by (may_end g.table (value_spot at) p) e
    where
      by : (m : Bool) → m ≡ true → AtMost (0 + length b) (best (λ s. Some 0) (cond m (closed_at at) []))
      by true e = subst (λ es. AtMost (0 + length b) (best (λ s. Some 0) es)) (sym closes.closed) (omega arith)
      by false e = absurd (cc)
  value_at_most (c ∷ cs) p f h e = by (run g.table (value_spot at) (Some p) (encode_utf8 c)) refl (run_fits g.table (value_spot at) (encode_utf8 c) (Some p) f) e (λ q. value_at_most cs q)
    where
      n : ℕ
      n = total size (c ∷ cs) + length b

      price : State → Option ℕ
      price s = least (edges_of g) (units cs) s

      more : List Choice
      more = cond (is_some (step g.table (value_spot at) p 38) && g.refers c) (by_references g.table c (next_of cs)) []

      by : (o : Option Pending) → run g.table (value_spot at) (Some p) (encode_utf8 c) ≡ o → FitsAfter g.table (value_spot at) o → ends g.table (value_spot at) (literals g.table (value_spot at) (option_map (itself_to (value_spot at) c) o) cs) ≡ true
          → ((q : Pending) → Fits g.table (value_spot at) q → Stand g.rules.ascii (value_spot at) cs → ends g.table (value_spot at) (literals g.table (value_spot at) (Some q) cs) ≡ true → AtMost (total size cs + length b) (price (state at q)))
          → AtMost n (best price (edges_of g (character in_value c (next_of cs)) (state at p)))
      by None r k e next = absurd (let off = sym (none_ends g.table (value_spot at) cs) ∙ e in cc)
      by (Some q) r k e next =
          let to : Pending = itself_to (value_spot at) c q in
          subst (λ es. AtMost n (best price es)) (sym (character_edges_are g at p c (next_of cs) closes.out closes.plain))
          (subst (λ o. AtMost n (best price (map (kept_at at) (choices_by o g.table (character_rules g) (value_spot at) c (next_of cs) p)))) (sym (whole_of g.table (value_spot at) p f))
          (subst (λ ks. AtMost n (best price (map (kept_at at) (ks ++ more)))) (sym (itself_is c p q h.0 r))
          (lesser_at_most n (over (size c) (price (state at to))) (best price (map (kept_at at) more))
          (over_at_most n (total size cs + length b) (size c) (price (state at to)) (next to (itself_fits g.table table (value_spot at) c q k) h.1 e) (omega arith)))))

-- ---- In all values the same bytes are read alike

step_alike : (t : List Entry) (p : Pending) (c : ℕ) → step t unquoted p c ≡ step t double p c
step_alike t nothing c = refl
step_alike t less_than c = refl
step_alike t hash c = refl
step_alike t hash_x c = refl
step_alike t decimal c = refl
step_alike t hexadecimal c = refl
step_alike t (ampersand q) c = refl
step_alike t (named q) c = refl
step_alike t (half left) c = refl
step_alike t one_bracket c = refl
step_alike t two_brackets c = refl

run_alike : (t : List Entry) (p : Option Pending) (s : List ℕ) → run t unquoted p s ≡ run t double p s
run_alike t None s = refl
run_alike t (Some p) [] = refl
run_alike t (Some p) (c ∷ s) = ap (λ o. run t unquoted o s) (step_alike t p c) ∙ run_alike t (step t double p c) s

literal_alike : (t : List Entry) (p : Option Pending) (c : ℕ) → literal t unquoted p c ≡ literal t double p c
literal_alike t None c = refl
literal_alike t (Some p) c = ap (option_map (itself_to double c)) (run_alike t (Some p) (encode_utf8 c))

literals_alike : (t : List Entry) (p : Option Pending) (cs : List ℕ) → literals t unquoted p cs ≡ literals t double p cs
literals_alike t p [] = refl
literals_alike t p (c ∷ cs) = ap (λ o. literals t unquoted o cs) (literal_alike t p c) ∙ literals_alike t (literal t double p c) cs

ends_alike : (t : List Entry) (p : Option Pending) → ends t unquoted p ≡ ends t double p
ends_alike t None = refl
ends_alike t (Some nothing) = refl
ends_alike t (Some less_than) = refl
ends_alike t (Some hash) = refl
ends_alike t (Some hash_x) = refl
ends_alike t (Some decimal) = refl
ends_alike t (Some hexadecimal) = refl
ends_alike t (Some (ampersand q)) = refl
ends_alike t (Some (named q)) = refl
ends_alike t (Some (half left)) = refl
ends_alike t (Some one_bracket) = refl
ends_alike t (Some two_brackets) = refl

unquoted_literal : (t : List Entry) (cs : List ℕ) → are_literal t cs ≡ true → ends t unquoted (literals t unquoted (Some nothing) cs) ≡ true
unquoted_literal t cs h = ap (ends t unquoted) (literals_alike t (Some nothing) cs) ∙ ends_alike t (literals t double (Some nothing) cs) ∙ h

-- ---- Weights of easy characters

barred_ascii : (c : ℕ) → is_barred c ≡ true → c < 128
unfolding is_barred is_space
barred_ascii c h = grind (arith, nat_tests, h)

barred_size : (c : ℕ) → is_barred c ≡ true → size c ≡ 1
barred_size c h = ap length (encode_ascii c (barred_ascii c h))

not_high : (c : ℕ) → c < 128 → nat_le 128 c ≡ false
not_high c h = grind (arith, nat_tests, h)

and_false : (x : Bool) → (x && false) ≡ false
and_false true = refl
and_false false = refl

-- a character of ASCII counts
counts : (low : Bool) (c : ℕ) → c < 128 → (low && nat_le 128 c) ≡ false
counts low c h = ap (λ b. low && b) (not_high c h) ∙ and_false low

-- the size of a character, where it counts
abbrev seen : Bool → ℕ → ℕ
seen low c = counted low c (size c)

seen_within : (low : Bool) (c : ℕ) → seen low c ≤ weight low c
seen_within low c = by (low && nat_le 128 c) (is_barred c) refl
  where
    by : (h x : Bool) → is_barred c ≡ x → cond h 0 (size c) ≤ cond h 0 (cond x 3 (size c))
    by true x e = omega arith
    by false true e = let one = barred_size c e in omega (arith, one)
    by false false e = omega arith

seen_size : (low : Bool) (c : ℕ) → seen low c ≤ size c
seen_size low c = by (low && nat_le 128 c)
  where
    by : (h : Bool) → cond h 0 (size c) ≤ size c
    by true = omega arith
    by false = omega arith

total_within : (low : Bool) (cs : List ℕ) → total (seen low) cs ≤ total (weight low) cs
total_within low [] = omega arith
total_within low (c ∷ cs) = let h = seen_within low c in let k = total_within low cs in omega (arith, h, k)

-- each easy character counts
easy_counts : (t : List Entry) (ascii low : Bool) (c : ℕ) → IsEasy t ascii low c → (low && nat_le 128 c) ≡ false
easy_counts t ascii true c h = not_high c (h.within refl)
easy_counts t ascii false c h = refl

total_seen : (t : List Entry) (ascii low : Bool) (cs : List ℕ) → AreEasy t ascii low cs → total (seen low) cs ≡ total size cs
total_seen t ascii low [] h = refl
total_seen t ascii low (c ∷ cs) h = ap₂ (λ b n. cond b 0 (size c) + n) (easy_counts t ascii low c h.0) (total_seen t ascii low cs h.1)

-- what is barred weighs two bytes more
barred_weighs : (low : Bool) (cs : List ℕ) → some_barred cs ≡ true → total (seen low) cs + 2 ≤ total (weight low) cs
barred_weighs low [] h = absurd (cc)
barred_weighs low (c ∷ cs) h = by (is_barred c) refl h (λ k. barred_weighs low cs k)
  where
    here : (x : Bool) → (low && nat_le 128 c) ≡ x → x ≡ false → size c ≡ 1 → cond x 0 (size c) + total (seen low) cs + 2 ≤ cond x 0 3 + total (weight low) cs
    here true e k one = absurd (cc)
    here false e k one = let w = total_within low cs in omega (arith, one, w)

    by : (x : Bool) → is_barred c ≡ x → (x || some_barred cs) ≡ true → (some_barred cs ≡ true → total (seen low) cs + 2 ≤ total (weight low) cs)
        → cond (low && nat_le 128 c) 0 (size c) + total (seen low) cs + 2 ≤ cond (low && nat_le 128 c) 0 (cond x 3 (size c)) + total (weight low) cs
    by true e k more = here (low && nat_le 128 c) refl (counts low c (barred_ascii c e)) (barred_size c e)
    by false e k more = let w = more k in omega (arith, w)

heavy_sizes : (t : List Entry) (low : Bool) (is : List ℕ) → AreHeavy (weight low) t is → AreHeavy (seen low) t is
heavy_sizes t low [] h = tt
heavy_sizes t low (i ∷ is) h = let w = total_within low (entry_at t i).points in (omega (arith, h.0, w), heavy_sizes t low is h.1)

not_plain : (x : Bool) → not x ≡ true → x ≡ false
not_plain true h = cc
not_plain false h = refl

module _ (t : List Entry) (r : SpellRules) where
  abbrev g : Spelling
  g = sparing_plain t r

  weighed_unquoted : (low : Bool) (cs : List ℕ) → AreEasy t r.ascii low cs → AreWeighed g unquoted (weight low) cs
  weighed_unquoted low [] h = tt
  weighed_unquoted low (c ∷ cs) h =
      (record { literal = λ stands. literal (low && nat_le 128 c) (is_barred c) refl stands; few = λ k. few (low && nat_le 128 c) (is_barred c) (h.0.heavy (not_plain (is_plain t c) k)).few; names = λ k. (h.0.heavy (not_plain (is_plain t c) k)).names }, weighed_unquoted low cs h.1)
    where
      literal : (x y : Bool) → is_barred c ≡ y → not (is_barred c) ≡ true → cond x 0 (cond (is_barred c) 3 (size c)) ≤ size c
      literal true y e k = omega arith
      literal false true e k = absurd (let off = sym (ap not e) ∙ k in cc)
      literal false false e k = subst (λ x. cond x 3 (size c) ≤ size c) (sym e) (omega arith)

      few : (x y : Bool) → size c ≤ 3 → cond x 0 (cond y 3 (size c)) ≤ 3
      few true y k = omega arith
      few false true k = omega arith
      few false false k = k

  weighed_quoted : (low : Bool) (spot : Spot) (cs : List ℕ) → AreEasy t r.ascii low cs → AreWeighed g spot (seen low) cs
  weighed_quoted low spot [] h = tt
  weighed_quoted low spot (c ∷ cs) h =
      let few = seen_size low c in
      (record { literal = λ stands. few; few = λ k. let size = (h.0.heavy (not_plain (is_plain t c) k)).few in omega (arith, few, size); names = λ k. heavy_sizes t low (places_for c t) (h.0.heavy (not_plain (is_plain t c) k)).names }, weighed_quoted low spot cs h.1)

  stand_double : (low : Bool) (cs : List ℕ) → AreEasy t r.ascii low cs → Stand r.ascii double cs
  unfolding may_stand
  stand_double low [] h = tt
  stand_double low (c ∷ cs) h = (ap₂ (λ x y. x && not y) h.0.writable h.0.no_quote, stand_double low cs h.1)

  stand_unquoted : (low : Bool) (cs : List ℕ) → AreEasy t r.ascii low cs → some_barred cs ≡ false → Stand r.ascii unquoted cs
  unfolding may_stand
  stand_unquoted low [] h e = tt
  stand_unquoted low (c ∷ cs) h e =
      let two = or_parts (is_barred c) (some_barred cs) e in
      (ap₂ (λ x y. x && not y) h.0.writable two.0, stand_unquoted low cs h.1 two.1)
    where
      or_parts : (x y : Bool) → (x || y) ≡ false → (x ≡ false) × (y ≡ false)
      or_parts true y h = absurd (cc)
      or_parts false y h = (refl, h)

  module _ (table : IsTable t) (low : Bool) (v : List ℕ) (easy : AreEasy t r.ascii low (chars v)) (read : are_literal t (chars v) ≡ true) where
    abbrev n : ℕ
    n = total size (chars v)

    of_seen : (p : Option ℕ) → AtLeast (total (seen low) (chars v) + 1) p → AtLeast (n + 1) p
    of_seen p h = subst (λ m. AtLeast (m + 1) p) (total_seen t r.ascii low (chars v) easy) h

    pub double_costs : value_cost g in_double v ≡ Some (n + 1)
    double_costs =
        squeezed (n + 1) (value_cost g in_double v) (of_seen (value_cost g in_double v) (value_at_least g table in_double (34 ∷ []) _ closes_double (seen low) (chars v) (weighed_quoted low double (chars v) easy) nothing tt))
        (value_at_most g table in_double (34 ∷ []) _ closes_double (chars v) nothing tt (stand_double low (chars v) easy) read)

    pub single_costs : AtLeast (n + 1) (value_cost g in_single v)
    single_costs = of_seen (value_cost g in_single v) (value_at_least g table in_single (39 ∷ []) _ closes_single (seen low) (chars v) (weighed_quoted low single (chars v) easy) nothing tt)

    at_least_less : (a b : ℕ) (p : Option ℕ) → a ≤ b → AtLeast b p → AtLeast a p
    at_least_less a b None le h = tt
    at_least_less a b (Some m) le h = omega (arith, le, h)

    unquoted_weighs : AtLeast (total (weight low) (chars v) + 0) (value_cost g in_unquoted v)
    unquoted_weighs = value_at_least g table in_unquoted [] _ closes_unquoted (weight low) (chars v) (weighed_unquoted low (chars v) easy) nothing tt

    pub barred_costs : some_barred (chars v) ≡ true → AtLeast (n + 2) (value_cost g in_unquoted v)
    barred_costs e = let more = barred_weighs low (chars v) e in let same = total_seen t r.ascii low (chars v) easy in at_least_less (n + 2) (total (weight low) (chars v) + 0) (value_cost g in_unquoted v) (omega (arith, more, same)) unquoted_weighs

    pub unquoted_costs : some_barred (chars v) ≡ false → value_cost g in_unquoted v ≡ Some n
    unquoted_costs e =
        let within = total_within low (chars v) in
        let same = total_seen t r.ascii low (chars v) easy in
        squeezed n (value_cost g in_unquoted v) (at_least_less n (total (weight low) (chars v) + 0) (value_cost g in_unquoted v) (omega (arith, within, same)) unquoted_weighs)
        (at_most_zero n (value_cost g in_unquoted v) (value_at_most g table in_unquoted [] _ closes_unquoted (chars v) nothing tt (stand_unquoted low (chars v) easy e) (unquoted_literal t (chars v) read)))
      where
        at_most_zero : (a : ℕ) (p : Option ℕ) → AtMost (a + 0) p → AtMost a p
        at_most_zero a None h = h
        at_most_zero a (Some m) h = omega (arith, h)

-- ---- An attribute

form_is : (k m : ℕ) (p : Option ℕ) (a : ℕ) → p ≡ Some a → over k (plus p (Some m)) ≡ Some (k + (a + m))
form_is k m p a e = ap (λ q. over k (plus q (Some m))) e

form_at_least : (k m a : ℕ) (p : Option ℕ) → AtLeast a p → AtLeast (k + (a + m)) (over k (plus p (Some m)))
form_at_least k m a None h = tt
form_at_least k m a (Some b) h = omega (arith, h)

lesser_first : (a : ℕ) (p : Option ℕ) → AtLeast a p → lesser (Some a) p ≡ Some a
lesser_first a None h = refl
lesser_first a (Some b) h = ap Some (omega (arith, h))

lesser_second : (p : Option ℕ) (a : ℕ) → AtLeast a p → lesser p (Some a) ≡ Some a
lesser_second None a h = refl
lesser_second (Some b) a h = ap Some (omega (arith, h))

pub easy_costs : (t : List Entry) → IsTable t → (r : SpellRules) (low : Bool) (after : Where → ℕ) (name : List ℕ) (c : ℕ) (s : List ℕ) → AreEasy t r.ascii low (chars (c ∷ s)) → are_literal t (chars (c ∷ s)) ≡ true → after after_unquoted ≤ 1 → after after_quoted ≤ after after_unquoted
    → cost_of (sparing_plain t r) after name (c ∷ s) ≡ Some (easy_cost (r.unquote && not (some_barred (chars (c ∷ s)))) (length name) (total size (chars (c ∷ s))) (after after_unquoted) (after after_quoted))
easy_costs t table r low after name c s easy read few less = by r.unquote (some_barred (chars (c ∷ s))) refl
  where
    v : List ℕ
    v = c ∷ s

    n : ℕ
    n = total size (chars v)

    l : ℕ
    l = length name

    u : ℕ
    u = after after_unquoted

    q : ℕ
    q = after after_quoted

    quoted : lesser (over (l + 2) (plus (value_cost (sparing_plain t r) in_double v) (Some q))) (over (l + 2) (plus (value_cost (sparing_plain t r) in_single v) (Some q))) ≡ Some (l + 2 + (n + 1 + q))
    quoted =
        ap (λ p. lesser p (over (l + 2) (plus (value_cost (sparing_plain t r) in_single v) (Some q)))) (form_is (l + 2) q (value_cost (sparing_plain t r) in_double v) (n + 1) (double_costs t r table low v easy read))
        ∙ lesser_first (l + 2 + (n + 1 + q)) (over (l + 2) (plus (value_cost (sparing_plain t r) in_single v) (Some q))) (form_at_least (l + 2) q (n + 1) (value_cost (sparing_plain t r) in_single v) (single_costs t r table low v easy read))

    bare : Option ℕ
    bare = over (l + 1) (plus (value_cost (sparing_plain t r) in_unquoted v) (Some u))

    by : (unquote barred : Bool) → some_barred (chars v) ≡ barred
        → lesser (if unquote then bare else None) (lesser (over (l + 2) (plus (value_cost (sparing_plain t r) in_double v) (Some q))) (over (l + 2) (plus (value_cost (sparing_plain t r) in_single v) (Some q))))
        ≡ Some (easy_cost (unquote && not barred) l n u q)
    by false barred e = quoted
    by true true e = ap (lesser bare) quoted ∙ lesser_second bare (l + 2 + (n + 1 + q)) (more bare (form_at_least (l + 1) u (n + 2) (value_cost (sparing_plain t r) in_unquoted v) (barred_costs t r table low v easy read e)))
      where
        more : (p : Option ℕ) → AtLeast (l + 1 + (n + 2 + u)) p → AtLeast (l + 2 + (n + 1 + q)) p
        more None h = tt
        more (Some m) h = omega (arith, h, less)
    by true false e = ap₂ lesser (form_is (l + 1) u (value_cost (sparing_plain t r) in_unquoted v) n (unquoted_costs t r table low v easy read e)) quoted ∙ lesser_first (l + 1 + (n + u)) (Some (l + 2 + (n + 1 + q))) (omega (arith, few))

total_is : (cs : List ℕ) → total size cs ≡ length (encode_utf8_all cs)
total_is [] = refl
total_is (c ∷ cs) = ap (λ n. size c + n) (total_is cs) ∙ sym (length-append (encode_utf8 c) (encode_utf8_all cs))

value_size : (v : List ℕ) → IsUtf8 v → total size (chars v) ≡ length v
value_size v utf8 = total_is (chars v) ∙ ap length (encodes-chars v utf8)

pub inner_easy : (t : List Entry) → IsTable t → (r : SpellRules) (low : Bool) (name v : List ℕ) → IsUtf8 v → 0 < length v → AreEasy t r.ascii low (chars v) → are_literal t (chars v) ≡ true
    → inner_cost (sparing_plain t r) (record { name = name; value = v }) ≡ Some (easy_cost (r.unquote && not (some_barred (chars v))) (length name) (length v) 1 (if r.tight then 0 else 1))
inner_easy t table r low name [] utf8 some easy read = absurd (omega (arith, some))
inner_easy t table r low name (c ∷ s) utf8 some easy read =
    ap (λ x. cost_of (sparing_plain t r) (λ at. length (gap_at x at)) name (c ∷ s)) refl
    ∙ easy_costs t table r low (λ at. length (gap_at r.tight at)) name c s easy read (gap_few r.tight) (gap_less r.tight)
    ∙ ap (λ n. Some (easy_cost (r.unquote && not (some_barred (chars (c ∷ s)))) (length name) n (length (gap_at r.tight after_unquoted)) (length (gap_at r.tight after_quoted)))) (value_size (c ∷ s) utf8)
    ∙ ap₂ (λ x y. Some (easy_cost (r.unquote && not (some_barred (chars (c ∷ s)))) (length name) (length (c ∷ s)) x y)) (gap_one r.tight) (gap_quoted r.tight)
  where
    gap_one : (x : Bool) → length (gap_at x after_unquoted) ≡ 1
    gap_one true = refl
    gap_one false = refl

    gap_quoted : (x : Bool) → length (gap_at x after_quoted) ≡ (if x then 0 else 1)
    gap_quoted true = refl
    gap_quoted false = refl

    gap_few : (x : Bool) → length (gap_at x after_unquoted) ≤ 1
    gap_few true = omega arith
    gap_few false = omega arith

    gap_less : (x : Bool) → length (gap_at x after_quoted) ≤ length (gap_at x after_unquoted)
    gap_less true = omega arith
    gap_less false = omega arith

pub last_easy : (t : List Entry) → IsTable t → (r : SpellRules) (low closes : Bool) (name v : List ℕ) → IsUtf8 v → 0 < length v → AreEasy t r.ascii low (chars v) → are_literal t (chars v) ≡ true
    → last_cost (sparing_plain t r) closes (record { name = name; value = v }) ≡ Some (easy_cost (r.unquote && not (some_barred (chars v))) (length name) (length v) (if closes then 1 else 0) 0)
last_easy t table r low closes name [] utf8 some easy read = absurd (omega (arith, some))
last_easy t table r low true name (c ∷ s) utf8 some easy read =
    easy_costs t table r low (λ at. if true && is_after_unquoted at then 1 else 0) name c s easy read (omega arith) (omega arith)
    ∙ ap (λ n. Some (easy_cost (r.unquote && not (some_barred (chars (c ∷ s)))) (length name) n 1 0)) (value_size (c ∷ s) utf8)
last_easy t table r low false name (c ∷ s) utf8 some easy read =
    easy_costs t table r low (λ at. if false && is_after_unquoted at then 1 else 0) name c s easy read (omega arith) (omega arith)
    ∙ ap (λ n. Some (easy_cost (r.unquote && not (some_barred (chars (c ∷ s)))) (length name) n 0 0)) (value_size (c ∷ s) utf8)
