-- States of a table that mean the same are equal.
use Rattle.std.proofs.Common.{◌≡◌, ◌∙◌, ℕ, true, List, Option, Some, None, refl, sym, ap, ap₂}
use Rattle.hm_graph_laws.proofs.States.{same_is}
use Rattle.hm_refs.specs.Tables.{TableView, IsNode, front_at}
use Rattle.hm_graph_laws.specs.States as states
use Rattle.hm_edges.specs.declared.states.Where.{Where}
use Rattle.hm_edges.specs.declared.states.Where.TheVariants.{Outside, AfterOmittedEnd, SelfClosed, AfterName, AfterUnquoted, AfterQuoted, InUnquoted, InDouble, InSingle, InSection}
use Rattle.hm_edges.specs.declared.states.Pending.{Pending}
use Rattle.hm_edges.specs.declared.states.Pending.TheVariants.{Nothing, LessThan, Hash, HashX, Decimal, Hexadecimal, Ampersand, Named, Half, OneBracket, TwoBrackets}
use Rattle.hm_edges.specs.declared.states.State.{State}
use Rattle.hm_edges.specs.States.{where_of, pending_of, state_of, HasNodes}

abbrev where_back : states.Where → Where
where_back states.outside = Outside
where_back states.after_omitted_end = AfterOmittedEnd
where_back states.self_closed = SelfClosed
where_back states.after_name = AfterName
where_back states.after_unquoted = AfterUnquoted
where_back states.after_quoted = AfterQuoted
where_back states.in_unquoted = InUnquoted
where_back states.in_double = InDouble
where_back states.in_single = InSingle
where_back states.in_section = InSection

there_and_back : (a : Where) → where_back (where_of a) ≡ a
there_and_back Outside = refl
there_and_back AfterOmittedEnd = refl
there_and_back SelfClosed = refl
there_and_back AfterName = refl
there_and_back AfterUnquoted = refl
there_and_back AfterQuoted = refl
there_and_back InUnquoted = refl
there_and_back InDouble = refl
there_and_back InSingle = refl
there_and_back InSection = refl

pub like_places : (a b : Where) → where_of a ≡ where_of b → a ≡ b
like_places a b e = sym (there_and_back a) ∙ ap where_back e ∙ there_and_back b

-- what is pending without a node
abbrev without_node : states.Pending → Option Pending
without_node states.nothing = Some Nothing
without_node states.less_than = Some LessThan
without_node states.hash = Some Hash
without_node states.hash_x = Some HashX
without_node states.decimal = Some Decimal
without_node states.hexadecimal = Some Hexadecimal
without_node (states.ampersand q) = None
without_node (states.named q) = None
without_node (states.half None) = Some (Half None)
without_node (states.half (Some q)) = None
without_node states.one_bracket = Some OneBracket
without_node states.two_brackets = Some TwoBrackets

plain_back : (v : TableView) (p q : Pending) → without_node (pending_of v q) ≡ Some p → q ≡ p
plain_back v p Nothing e = cc
plain_back v p LessThan e = cc
plain_back v p Hash e = cc
plain_back v p HashX e = cc
plain_back v p Decimal e = cc
plain_back v p Hexadecimal e = cc
plain_back v p (Ampersand n) e = absurd (cc)
plain_back v p (Named n) e = absurd (cc)
plain_back v p (Half None) e = cc
plain_back v p (Half (Some n)) e = absurd (cc)
plain_back v p OneBracket e = cc
plain_back v p TwoBrackets e = cc

data NodeKind : Type 0 where
  of_ampersand : NodeKind
  of_name : NodeKind
  of_half : NodeKind

-- what is pending with a node
record WithNode : Type 0 where
  kind : NodeKind
  front : List ℕ

abbrev with_node : states.Pending → Option WithNode
with_node (states.ampersand q) = Some (record { kind = of_ampersand; front = q })
with_node (states.named q) = Some (record { kind = of_name; front = q })
with_node (states.half (Some q)) = Some (record { kind = of_half; front = q })
with_node p = None

abbrev pending_with : NodeKind → ℕ → Pending
pending_with of_ampersand n = Ampersand n
pending_with of_name n = Named n
pending_with of_half n = Half (Some n)

node_back : (v : TableView) (n : ℕ) (k : WithNode) (q : Pending) → IsNode v n → front_at v n ≡ k.front → with_node (pending_of v q) ≡ Some k → HasNodes v q → q ≡ pending_with k.kind n
node_back v n k Nothing own is e has = absurd (cc)
node_back v n k LessThan own is e has = absurd (cc)
node_back v n k Hash own is e has = absurd (cc)
node_back v n k HashX own is e has = absurd (cc)
node_back v n k Decimal own is e has = absurd (cc)
node_back v n k Hexadecimal own is e has = absurd (cc)
node_back v n k (Ampersand m) own is e has =
    let j : record { kind = of_ampersand; front = front_at v m } ≡ k = cc in
    let f : front_at v m ≡ k.front = ap (λ w. w.front) j in
    let g : m ≡ n = own.only m has.inside (f ∙ sym is) in
    rw (← j, g) refl
node_back v n k (Named m) own is e has =
    let j : record { kind = of_name; front = front_at v m } ≡ k = cc in
    let f : front_at v m ≡ k.front = ap (λ w. w.front) j in
    let g : m ≡ n = own.only m has.inside (f ∙ sym is) in
    rw (← j, g) refl
node_back v n k (Half None) own is e has = absurd (cc)
node_back v n k (Half (Some m)) own is e has =
    let j : record { kind = of_half; front = front_at v m } ≡ k = cc in
    let f : front_at v m ≡ k.front = ap (λ w. w.front) j in
    let g : m ≡ n = own.only m has.inside (f ∙ sym is) in
    rw (← j, g) refl
node_back v n k OneBracket own is e has = absurd (cc)
node_back v n k TwoBrackets own is e has = absurd (cc)

pub like_pending : (v : TableView) (p q : Pending) → HasNodes v p → HasNodes v q → pending_of v p ≡ pending_of v q → p ≡ q
like_pending v Nothing q own has e = sym (plain_back v Nothing q (sym (ap without_node e)))
like_pending v LessThan q own has e = sym (plain_back v LessThan q (sym (ap without_node e)))
like_pending v Hash q own has e = sym (plain_back v Hash q (sym (ap without_node e)))
like_pending v HashX q own has e = sym (plain_back v HashX q (sym (ap without_node e)))
like_pending v Decimal q own has e = sym (plain_back v Decimal q (sym (ap without_node e)))
like_pending v Hexadecimal q own has e = sym (plain_back v Hexadecimal q (sym (ap without_node e)))
like_pending v (Ampersand n) q own has e = sym (node_back v n (record { kind = of_ampersand; front = front_at v n }) q own refl (sym (ap with_node e)) has)
like_pending v (Named n) q own has e = sym (node_back v n (record { kind = of_name; front = front_at v n }) q own refl (sym (ap with_node e)) has)
like_pending v (Half None) q own has e = sym (plain_back v (Half None) q (sym (ap without_node e)))
like_pending v (Half (Some n)) q own has e = sym (node_back v n (record { kind = of_half; front = front_at v n }) q own refl (sym (ap with_node e)) has)
like_pending v OneBracket q own has e = sym (plain_back v OneBracket q (sym (ap without_node e)))
like_pending v TwoBrackets q own has e = sym (plain_back v TwoBrackets q (sym (ap without_node e)))

abbrev state : Where → Pending → State
state a p = record { at = a; pending = p }

pub like_states : (v : TableView) (s t : State) → HasNodes v s.pending → HasNodes v t.pending → states.same_state (state_of v s) (state_of v t) ≡ true → s ≡ t
like_states v s t own has e =
    let i : state_of v s ≡ state_of v t = same_is (state_of v s) (state_of v t) e in
    let a : s.at ≡ t.at = like_places s.at t.at (ap (λ w. w.at) i) in
    let p : s.pending ≡ t.pending = like_pending v s.pending t.pending own has (ap (λ w. w.pending) i) in
    ap₂ state a p
