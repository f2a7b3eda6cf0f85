-- No attribute saves more than one byte as the last one of its tag, so the first that saves one goes last.
use Rattle.std.proofs.Common.{◌≡◌, ◌+◌, ◌<◌, ◌≤◌, ℕ, zero, suc, Bool, true, false, cond, ◌&&◌, List, [], ◌∷◌, length, slice_get, take, Option, Some, None, sym, ◌∙◌, subst, arith}
use Rattle.std.proofs.lemmas.List.Elements.{All-head, All-tail}
use Rattle.std.proofs.lemmas.Option.{slice_get_within}
use Rattle.std.specs.List.{All}
use Rattle.hm_base.specs.Walks.{Attribute}
use Rattle.hm_base.specs.declared.plain.SpellRules.{SpellRules}
use Rattle.hm_graph_laws.specs.AttributeEdges.{gap_at, is_after_unquoted}
use Rattle.hm_graph_laws.specs.ExchangeLaws.{sparing_plain}
use Rattle.hm_graph_laws.specs.States.{Where, after_name, after_quoted, after_unquoted, in_double, in_single, in_unquoted}
use Rattle.hm_graph_laws.specs.Ways.{lesser, over}
use Rattle.hm_optimality_laws.proofs.Best.{spares_plain}
use Rattle.hm_optimality_laws.specs.SpellingLaws.{SparesOnlyPlain}
use Rattle.hm_refs.specs.Names.{Entry}
use Rattle.hm_refs.specs.Tables.{IsTable}
use Rattle.hm_spelling_spec.specs.Tags.{Spelling}
use Rattle.hm_tree.specs.Moved.{moved}
use Rattle.hm_order.specs.Costs.{plus, value_cost, cost_of, inner_cost, last_cost}
use Rattle.hm_order.specs.Orders.{ordered}
use Rattle.hm_order.specs.Places.{AreCosts, cost_at}
use Rattle.hm_order.specs.declared.costs.AttrCost.{AttrCost}
use Rattle.hm_order.proofs.Numbers.{inner_of, last_of, numbers}
use Rattle.hm_order.proofs.Places.{costs_at, costs_count, ordered_is_moved}

-- ---- The most that is saved

-- a price is at most one byte above another one, where there is that one
abbrev OneMore : Option ℕ → Option ℕ → Type 0
OneMore p None = Unit {0}
OneMore None (Some b) = ⊥
OneMore (Some a) (Some b) = a ≤ b + 1

one_over : (n : ℕ) (p q : Option ℕ) → OneMore p q → OneMore (over n p) (over n q)
one_over n p None h = tt
one_over n None (Some b) h = absurd h
one_over n (Some a) (Some b) h = omega (arith, h)

one_lesser : (p q r s : Option ℕ) → OneMore p q → OneMore r s → OneMore (lesser p r) (lesser q s)
one_lesser p None r None h k = tt
one_lesser None None r (Some d) h k = k
one_lesser (Some a) None None (Some d) h k = absurd k
one_lesser (Some a) None (Some c) (Some d) h k = omega (arith, k)
one_lesser None (Some b) r s h k = absurd h
one_lesser (Some a) (Some b) None None h k = h
one_lesser (Some a) (Some b) (Some c) None h k = omega (arith, h)
one_lesser (Some a) (Some b) None (Some d) h k = absurd k
one_lesser (Some a) (Some b) (Some c) (Some d) h k = omega (arith, h, k)

one_form : (n : ℕ) (value : Option ℕ) (a b : ℕ) → a ≤ b + 1 → OneMore (over n (plus value (Some a))) (over n (plus value (Some b)))
one_form n None a b h = tt
one_form n (Some v) a b h = omega (arith, h)

one_where : (given : Bool) (p q : Option ℕ) → OneMore p q → OneMore (cond given p None) (cond given q None)
one_where true p q h = h
one_where false p q h = tt

-- where so many bytes are counted after an attribute, by where it leaves the tag
saves_one : (g : Spelling) (more less : Where → ℕ) → more after_name ≤ less after_name + 1 → more after_unquoted ≤ less after_unquoted + 1 → more after_quoted ≤ less after_quoted + 1
    → (name value : List ℕ) → OneMore (cost_of g more name value) (cost_of g less name value)
saves_one g more less bare unquoted quoted name [] = omega (arith, bare)
saves_one g more less bare unquoted quoted name (c ∷ s) =
    one_lesser _ _ _ _ (one_where g.rules.unquote _ _ (one_form (length name + 1) (value_cost g in_unquoted (c ∷ s)) (more after_unquoted) (less after_unquoted) unquoted))
    (one_lesser _ _ _ _ (one_form (length name + 2) (value_cost g in_double (c ∷ s)) (more after_quoted) (less after_quoted) quoted) (one_form (length name + 2) (value_cost g in_single (c ∷ s)) (more after_quoted) (less after_quoted) quoted))

short_name : (tight : Bool) (n : ℕ) → length (gap_at tight after_name) ≤ n + 1
short_name true n = omega arith
short_name false n = omega arith

short_unquoted : (tight : Bool) (n : ℕ) → length (gap_at tight after_unquoted) ≤ n + 1
short_unquoted true n = omega arith
short_unquoted false n = omega arith

short_quoted : (tight : Bool) (n : ℕ) → length (gap_at tight after_quoted) ≤ n + 1
short_quoted true n = omega arith
short_quoted false n = omega arith

inner_one_more : (g : Spelling) (closes : Bool) (a : Attribute) → OneMore (inner_cost g a) (last_cost g closes a)
inner_one_more g closes a =
    let less : Where → ℕ = λ at. cond (closes && is_after_unquoted at) 1 0 in
    saves_one g (λ at. length (gap_at g.rules.tight at)) less (short_name g.rules.tight (less after_name)) (short_unquoted g.rules.tight (less after_unquoted)) (short_quoted g.rules.tight (less after_quoted)) a.name a.value

one_number : (g : Spelling) (closes : Bool) (a : Attribute) (i l : ℕ) → inner_cost g a ≡ Some i → last_cost g closes a ≡ Some l → i ≤ l + 1
one_number g closes a i l inner last = subst (OneMore (Some i)) last (subst (λ p. OneMore p (last_cost g closes a)) inner (inner_one_more g closes a))

saves_one_at : (g : Spelling) (closes : Bool) (costs : List AttrCost) (xs : List Attribute) → AreCosts g closes costs xs → (j : ℕ) → j < length costs → (cost_at costs j).inner ≤ (cost_at costs j).last + 1
saves_one_at g closes [] xs h j inside = absurd (omega (arith, inside))
saves_one_at g closes (c ∷ costs) [] h j inside = absurd h
saves_one_at g closes (c ∷ costs) (x ∷ xs) h zero inside = one_number g closes x c.inner c.last h.0.0 h.0.1
saves_one_at g closes (c ∷ costs) (x ∷ xs) h (suc j) inside = saves_one_at g closes costs xs h.1 j (omega (arith, inside))

-- ---- What all attributes cost

all_costs : (g : Spelling) → SparesOnlyPlain g → Bool → List Attribute → List AttrCost
all_costs g plain closes [] = []
all_costs g plain closes (a ∷ xs) = record { inner = inner_of g plain closes a; last = last_of g plain closes a } ∷ all_costs g plain closes xs

are_all : (g : Spelling) (plain : SparesOnlyPlain g) (closes : Bool) (xs : List Attribute) → AreCosts g closes (all_costs g plain closes xs) xs
unfolding all_costs
are_all g plain closes [] = tt
are_all g plain closes (a ∷ xs) = let n = numbers g plain closes in ((n.inner_is a, n.last_is a), are_all g plain closes xs)

some_is : (a b : ℕ) → Some a ≡ Some b → a ≡ b
some_is a b e = let h : a ≡ b = cc in h

-- the attributes before a place, of which none saves a byte
none_before : (g : Spelling) (closes : Bool) (found costs : List AttrCost) (xs : List Attribute) (i : ℕ) → AreCosts g closes found (take i xs) → AreCosts g closes costs xs → All (λ c. c.inner ≤ c.last) found → (j : ℕ) → j < i → j < length costs
    → (cost_at costs j).inner ≤ (cost_at costs j).last
none_before g closes found costs xs zero h k few j low inside = absurd (omega (arith, low))
none_before g closes found [] xs (suc i) h k few j low inside = absurd (omega (arith, inside))
none_before g closes found (c ∷ costs) [] (suc i) h k few j low inside = absurd k
none_before g closes [] (c ∷ costs) (x ∷ xs) (suc i) h k few j low inside = absurd h
none_before g closes (d ∷ found) (c ∷ costs) (x ∷ xs) (suc i) h k few zero low inside =
    let inner = some_is d.inner c.inner (sym h.0.0 ∙ k.0.0) in
    let last = some_is d.last c.last (sym h.0.1 ∙ k.0.1) in
    let own = All-head (λ c. c.inner ≤ c.last) d found few in
    omega (arith, inner, last, own)
none_before g closes (d ∷ found) (c ∷ costs) (x ∷ xs) (suc i) h k few (suc j) low inside =
    none_before g closes found costs xs i h.1 k.1 (All-tail (λ c. c.inner ≤ c.last) d found few) j (omega (arith, low)) (omega (arith, inside))

-- the first that saves a byte goes last
pub first_saving : (t : List Entry) → IsTable t → (r : SpellRules) (closes : Bool) (xs : List Attribute) (i : ℕ) (a : Attribute) (c : AttrCost) (found : List AttrCost) → AreCosts (sparing_plain t r) closes found (take i xs) → All (λ d. d.inner ≤ d.last) found
    → slice_get xs i ≡ Some a → inner_cost (sparing_plain t r) a ≡ Some c.inner → last_cost (sparing_plain t r) closes a ≡ Some c.last → c.last < c.inner → ordered (sparing_plain t r) closes xs ≡ moved i xs
first_saving t k r closes xs i a c found before few there inner last saves =
    let g : Spelling = sparing_plain t r in
    let costs : List AttrCost = all_costs g (spares_plain t k r) closes xs in
    let all : AreCosts g closes costs xs = are_all g (spares_plain t k r) closes xs in
    let own = costs_at g closes costs xs i a all there in
    let own_inner = some_is (cost_at costs i).inner c.inner (sym own.0 ∙ inner) in
    let own_last = some_is (cost_at costs i).last c.last (sym own.1 ∙ last) in
    ordered_is_moved g closes costs xs i all (record {
      inside = omega (arith, slice_get_within xs i a there, costs_count g closes costs xs all);
      least = λ j inside. omega (arith, own_inner, own_last, saves, saves_one_at g closes costs xs all j inside);
      first = λ j low. omega (arith, own_inner, own_last, saves, none_before g closes found costs xs i before all few j low (omega (arith, low, slice_get_within xs i a there, costs_count g closes costs xs all)));
    })
