-- What an attribute takes, after a place in a tag and before what follows.
use Rattle.std.proofs.Common.{◌≡◌, ◌+◌, ℕ, Bool, true, false, cond, List, [], ◌∷◌, ◌++◌, length, map, Option, Some, None, refl, sym, ap, ap₂, subst, ◌∙◌, arith, length-append, append-nil, codes, chars}
use Rattle.hm_refs.specs.Tables.{IsIn, first, later}
use Rattle.hm_graph_laws.specs.Edges.{Edge, edge}
use Rattle.hm_graph_laws.specs.States.{Where, after_name, after_unquoted, after_quoted, in_unquoted, in_double, in_single, Pending, nothing, State, state, value_spot}
use Rattle.hm_graph_laws.specs.Steps.{may_end}
use Rattle.hm_graph_laws.specs.Units.{Unit, in_value, character_units, attribute_end, bare_attribute, attribute_name, next_of}
use Rattle.hm_graph_laws.specs.AttributeEdges.{gap_at, closed_at}
use Rattle.hm_spelling_spec.specs.Characters.{is_foreign}
use Rattle.hm_spelling_spec.specs.Tags.{Spelling, character_rules}
use Rattle.hm_graph_laws.specs.CharacterEdges.{Choice, kept_at, choices, outside_edges, opened_sections, is_in_section, section_edges, character_edges}
use Rattle.hm_graph_laws.specs.UnitEdges.{edges_of}
use Rattle.hm_graph_laws.specs.Ways.{lesser, over, best, least}
use Rattle.hm_order.specs.Costs.{plus, value_units, value_cost, cost_of}
use Rattle.hm_order.proofs.Prices.{LeadsTo, least_cut, lesser_none, over_over, plus_over, plus_assoc, lesser_plus, lesser_over}

-- ---- A value is left at one place

kept_stays : (at : Where) (ks : List Choice) (e : Edge) → IsIn e (map (kept_at at) ks) → e.to ≡ state at e.to.pending
kept_stays at [] e i = elim i [ ]
kept_stays at (k ∷ ks) e (first xs) = refl
kept_stays at (k ∷ ks) e (later y xs i) = kept_stays at ks e i

no_sections : (ascii : Bool) (at : Where) (c : ℕ) (next : Option ℕ) (s : State) → is_foreign (value_spot at) ≡ false → opened_sections ascii (value_spot at) c next s ≡ []
no_sections ascii at c next s h = rw h refl

pub character_edges_are : (g : Spelling) (at : Where) (p : Pending) (c : ℕ) (next : Option ℕ) → is_in_section at ≡ false → is_foreign (value_spot at) ≡ false
    → character_edges g.table (character_rules g) in_value c next (state at p) ≡ map (kept_at at) (choices g.table (character_rules g) (value_spot at) c next p)
character_edges_are g at p c next out plain =
    let ks : List Choice = choices g.table (character_rules g) (value_spot at) c next p in
    ap (λ b. cond b (section_edges g.rules.ascii c next p) (outside_edges g.table (character_rules g) (value_spot at) c next (state at p))) out
    ∙ ap (λ es. map (kept_at at) ks ++ es) (no_sections g.rules.ascii at c next (state at p) plain) ∙ append-nil (map (kept_at at) ks)

character_stays : (g : Spelling) (at : Where) (p : Pending) (c : ℕ) (next : Option ℕ) (e : Edge) → is_in_section at ≡ false → is_foreign (value_spot at) ≡ false
    → IsIn e (character_edges g.table (character_rules g) in_value c next (state at p)) → e.to ≡ state at e.to.pending
character_stays g at p c next e out plain i =
    let ks : List Choice = choices g.table (character_rules g) (value_spot at) c next p in
    let all : character_edges g.table (character_rules g) in_value c next (state at p) ≡ map (kept_at at) ks =
    ap (λ b. cond b (section_edges g.rules.ascii c next p) (outside_edges g.table (character_rules g) (value_spot at) c next (state at p))) out
    ∙ ap (λ es. map (kept_at at) ks ++ es) (no_sections g.rules.ascii at c next (state at p) plain) ∙ append-nil (map (kept_at at) ks) in
    kept_stays at ks e (subst (IsIn e) all i)

-- where a value is closed
pub record Closes (at : Where) (b : List ℕ) (to : Where) : Type 0 where
  pub out : is_in_section at ≡ false
  pub plain : is_foreign (value_spot at) ≡ false
  pub closed : closed_at at ≡ edge b to nothing ∷ []

pub closes_unquoted : Closes in_unquoted [] after_unquoted
closes_unquoted = record { out = refl; plain = refl; closed = refl }

pub closes_double : Closes in_double (34 ∷ []) after_quoted
closes_double = record { out = refl; plain = refl; closed = refl }

pub closes_single : Closes in_single (39 ∷ []) after_quoted
closes_single = record { out = refl; plain = refl; closed = refl }

value_leads : (g : Spelling) (at : Where) (b : List ℕ) (to : Where) → Closes at b to → (cs : List ℕ) (p : Pending) → LeadsTo (edges_of g) (character_units in_value cs ++ attribute_end ∷ []) (state at p) (state to nothing)
value_leads g at b to k [] p = λ e i. by_test (may_end g.table (value_spot at) p) e i
  where
    only : (e : Edge) (es : List Edge) → es ≡ edge b to nothing ∷ [] → IsIn e es → e.to ≡ state to nothing
    only e es is i = single e (subst (IsIn e) is i)
      where
        single : (e : Edge) → IsIn e (edge b to nothing ∷ []) → e.to ≡ state to nothing
        single e (first xs) = refl
        single e (later y xs i) = elim i [ ]

    by_test : (m : Bool) (e : Edge) → IsIn e (cond m (closed_at at) []) → e.to ≡ state to nothing
    by_test true e i = only e (closed_at at) k.closed i
    by_test false e i = elim i [ ]
value_leads g at b to k (c ∷ cs) p = λ e i.
    subst (λ s. LeadsTo (edges_of g) (character_units in_value cs ++ attribute_end ∷ []) s (state to nothing)) (sym (character_stays g at p c (next_of cs) e k.out k.plain i)) (value_leads g at b to k cs e.to.pending)

-- so a value takes its own bytes, whatever follows
pub value_takes : (g : Spelling) (at : Where) (b : List ℕ) (to : Where) → Closes at b to → (v : List ℕ) (rest : List Unit) → least (edges_of g) (value_units v ++ rest) (state at nothing) ≡ plus (value_cost g at v) (least (edges_of g) rest (state to nothing))
value_takes g at b to k v rest = least_cut (edges_of g) (value_units v) rest (state at nothing) (state to nothing) (value_leads g at b to k (chars v) nothing)

-- ---- An attribute

-- the places in a tag where an attribute may begin
pub data InTag : Where → Type 0 where
  named : InTag after_name
  unquoted : InTag after_unquoted
  quoted : InTag after_quoted

-- what is after costs so much, by the place where the attribute leaves the tag
pub record WrittenAfter (g : Spelling) (rest : List Unit) (after : Where → ℕ) (k : Option ℕ) : Type 0 where
  pub at : (at : Where) → InTag at → least (edges_of g) rest (state at nothing) ≡ over (after at) k

plus_some : (n : ℕ) (k : Option ℕ) → over n k ≡ plus (Some n) k
plus_some n k = refl

form_takes : (n m : ℕ) (v k : Option ℕ) → over n (plus v (over m k)) ≡ plus (over n (plus v (Some m))) k
form_takes n m v k = ap (over n) (sym (plus_assoc v (Some m) k)) ∙ sym (plus_over n (plus v (Some m)) k)

gap_form : (gap name tail : List ℕ) → length (gap ++ (name ++ tail)) ≡ length gap + (length name + length tail)
gap_form gap name tail = length-append gap (name ++ tail) ∙ ap (λ n. length gap + n) (length-append name tail)

-- the units of an attribute
abbrev pub units_by : List ℕ → List ℕ → List Unit
units_by n [] = bare_attribute n ∷ []
units_by n (c ∷ s) = attribute_name n (chars (c ∷ s)) ∷ value_units (c ∷ s)

-- an attribute in one form
one_form : (gap name tail : List ℕ) (v k x : Option ℕ) (m : ℕ) → x ≡ plus v (over m k) → over (length (gap ++ (name ++ tail))) x ≡ over (length gap) (plus (over (length name + length tail) (plus v (Some m))) k)
one_form gap name tail v k x m is =
    ap₂ over (gap_form gap name tail) is
    ∙ sym (over_over (length gap) (length name + length tail) (plus v (over m k)))
    ∙ ap (over (length gap)) (form_takes (length name + length tail) m v k)

-- the least of three
three : (n : ℕ) (a b c k : Option ℕ) → over n (plus (lesser a (lesser b c)) k) ≡ lesser (over n (plus a k)) (lesser (over n (plus b k)) (over n (plus c k)))
three n a b c k =
    ap (over n) (lesser_plus a (lesser b c) k ∙ ap (lesser (plus a k)) (lesser_plus b c k))
    ∙ lesser_over n (plus a k) (lesser (plus b k) (plus c k))
    ∙ ap (lesser (over n (plus a k))) (lesser_over n (plus b k) (plus c k))

pub attribute_takes : (g : Spelling) (name value : List ℕ) (rest : List Unit) (after : Where → ℕ) (k : Option ℕ) (at : Where) → WrittenAfter g rest after k
    → least (edges_of g) (units_by name value ++ rest) (state at nothing) ≡ over (length (gap_at g.rules.tight at)) (plus (cost_of g after name value) k)
attribute_takes g name [] rest after k at h =
    let gap : List ℕ = gap_at g.rules.tight at in
    let x : Option ℕ = least (edges_of g) rest (state after_name nothing) in
    lesser_none (over (length (gap ++ name)) x)
    ∙ ap₂ over (length-append gap name) (h.at after_name named)
    ∙ over_over (length gap + length name) (after after_name) k
    ∙ ap (λ n. over n k) (omega arith)
    ∙ sym (over_over (length gap) (length name + after after_name) k)
attribute_takes g name (c ∷ s) rest after k at h = by_test g.rules.unquote
  where
    gap : List ℕ
    gap = gap_at g.rules.tight at

    v : List ℕ
    v = c ∷ s

    from : Where → Option ℕ
    from place = least (edges_of g) (value_units v ++ rest) (state place nothing)

    takes : (place : Where) (b : List ℕ) (to : Where) → Closes place b to → InTag to → from place ≡ plus (value_cost g place v) (over (after to) k)
    takes place b to closes tag = value_takes g place b to closes v rest ∙ ap (plus (value_cost g place v)) (h.at to tag)

    by_test : (u : Bool)
        → best (least (edges_of g) (value_units v ++ rest))
        (cond u (edge (gap ++ (name ++ codes "=")) in_unquoted nothing ∷ []) [] ++ edge (gap ++ (name ++ codes "=\"")) in_double nothing ∷ edge (gap ++ (name ++ codes "='")) in_single nothing ∷ [])
        ≡ over (length gap)
        (plus
        (lesser (cond u (over (length name + 1) (plus (value_cost g in_unquoted v) (Some (after after_unquoted)))) None)
        (lesser (over (length name + 2) (plus (value_cost g in_double v) (Some (after after_quoted)))) (over (length name + 2) (plus (value_cost g in_single v) (Some (after after_quoted))))))
        k)
    by_test u = by u ∙ sym (three (length gap) (cond u (over (length name + 1) (plus (value_cost g in_unquoted v) (Some (after after_unquoted)))) None) (over (length name + 2) (plus (value_cost g in_double v) (Some (after after_quoted)))) (over (length name + 2) (plus (value_cost g in_single v) (Some (after after_quoted)))) k)
      where
        first_form : over (length (gap ++ (name ++ codes "="))) (from in_unquoted) ≡ over (length gap) (plus (over (length name + 1) (plus (value_cost g in_unquoted v) (Some (after after_unquoted)))) k)
        first_form = one_form gap name (codes "=") (value_cost g in_unquoted v) k (from in_unquoted) (after after_unquoted) (takes in_unquoted [] after_unquoted closes_unquoted unquoted)

        others : lesser (over (length (gap ++ (name ++ codes "=\""))) (from in_double)) (lesser (over (length (gap ++ (name ++ codes "='"))) (from in_single)) None)
            ≡ lesser (over (length gap) (plus (over (length name + 2) (plus (value_cost g in_double v) (Some (after after_quoted)))) k)) (over (length gap) (plus (over (length name + 2) (plus (value_cost g in_single v) (Some (after after_quoted)))) k))
        others =
            ap₂ lesser (one_form gap name (codes "=\"") (value_cost g in_double v) k (from in_double) (after after_quoted) (takes in_double (34 ∷ []) after_quoted closes_double quoted))
            (lesser_none (over (length (gap ++ (name ++ codes "='"))) (from in_single)) ∙ one_form gap name (codes "='") (value_cost g in_single v) k (from in_single) (after after_quoted) (takes in_single (39 ∷ []) after_quoted closes_single quoted))

        by : (b : Bool)
            → best (least (edges_of g) (value_units v ++ rest))
            (cond b (edge (gap ++ (name ++ codes "=")) in_unquoted nothing ∷ []) [] ++ edge (gap ++ (name ++ codes "=\"")) in_double nothing ∷ edge (gap ++ (name ++ codes "='")) in_single nothing ∷ [])
            ≡ lesser (over (length gap) (plus (cond b (over (length name + 1) (plus (value_cost g in_unquoted v) (Some (after after_unquoted)))) None) k))
            (lesser (over (length gap) (plus (over (length name + 2) (plus (value_cost g in_double v) (Some (after after_quoted)))) k)) (over (length gap) (plus (over (length name + 2) (plus (value_cost g in_single v) (Some (after after_quoted)))) k)))
        by true = ap₂ lesser first_form others
        by false = others
