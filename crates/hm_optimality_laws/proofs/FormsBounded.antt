-- A form that covers another one takes at most a byte more than it, and three less where a dear character gains.
use Rattle.std.proofs.Common.{◌≡◌, ◌≤◌, ℕ, ◌+◌, Bool, true, false, cond, not, ◌&&◌, ◌||◌, ◌==◌, List, [], ◌∷◌, ◌++◌, length, Option, Some, None, is_some, refl, ap, subst, inl, inr, ◌⊎◌, arith, length-append}
use Rattle.std.specs.List.{list_all, list_any}
use Rattle.std.proofs.lemmas.Bool.{and_parts}
use Rattle.hm_graph_laws.proofs.CharacterWays.{choice_in}
use Rattle.hm_graph_laws.proofs.In.{in_append}
use Rattle.hm_graph_laws.specs.CharacterEdges.{Choice, as_itself, by_references, choice, choices, choices_by, kept_at}
use Rattle.hm_graph_laws.specs.Edges.{Edge, edge_length}
use Rattle.hm_graph_laws.specs.States.{Where, Pending, State, nothing, ampersand, named, half, state, value_spot}
use Rattle.hm_graph_laws.specs.Steps.{step}
use Rattle.hm_graph_laws.specs.UnitEdges.{edges_of}
use Rattle.hm_graph_laws.specs.Units.{Unit, character, in_value, next_of}
use Rattle.hm_graph_laws.specs.Ways.{Way}
use Rattle.hm_optimality_laws.proofs.DearCharacters.{Inert, IsDearIn, IsLong, Ready, any_in, inert, itself_is, no_itself, references_long, takes_itself}
use Rattle.hm_optimality_laws.proofs.Forgetting.{forgetting, may_forget_is}
use Rattle.hm_optimality_laws.proofs.FormChoices.{choices_covered, same_step, value_edge, value_is}
use Rattle.hm_optimality_laws.proofs.FormWays.{Form, form_of, over_value, step_over, unopened}
use Rattle.hm_optimality_laws.proofs.PendingNames.{Comes, IsDue, choice_comes}
use Rattle.hm_graph_laws.specs.Forms.{added, covers, gains, gains_after, is_costly, is_second, makes_cheap, may_be_costly, may_leave_open, saved, stands}
use Rattle.hm_optimality_laws.specs.Forms.{FormsAreBounded, HasFormWay, value_and}
use Rattle.hm_optimality_laws.specs.SparseLaws.{HasWayOver}
use Rattle.hm_refs.specs.Names.{Entry}
use Rattle.hm_refs.specs.Tables.{IsIn, IsTable, first}
use Rattle.hm_spelling_spec.specs.Characters.{CharacterRules}
use Rattle.hm_spelling_spec.specs.Tags.{Spelling, character_rules}

-- ---- A dear character

-- what makes a character dear
record Dear (t : List Entry) (previous : Option ℕ) (c : ℕ) (next : Option ℕ) : Type 0 where
  inert : Inert c
  costly_in : IsDearIn t c next
  apart : not (c == 61 && may_leave_open t previous) ≡ true

not_true : (b : Bool) → not b ≡ true → b ≡ false
not_true true h = absurd (cc)
not_true false h = refl

costly_of : (t : List Entry) (previous : Option ℕ) (c : ℕ) (next : Option ℕ) → is_costly t previous c next ≡ true → Dear t previous c next
costly_of t previous c next h =
    let one = and_parts (may_be_costly c) (not (list_any (makes_cheap c next) t) && not (c == 61 && may_leave_open t previous)) h in
    let two = and_parts (not (list_any (makes_cheap c next) t)) (not (c == 61 && may_leave_open t previous)) one.1 in
    record { inert = inert c one.0; costly_in = not_true (list_any (makes_cheap c next) t) two.0; apart = two.1 }

ready_of : (t : List Entry) (previous next : Option ℕ) (c : ℕ) (p : Pending) → not (c == 61 && may_leave_open t previous) ≡ true → Comes t previous next p → Ready c p
ready_of t previous next c (ampersand q) n h = h
ready_of t previous next c (named q) n h = by_tests (c == 61) (may_leave_open t previous) n h
  where
    by_tests : (a b : Bool) → not (a && b) ≡ true → b ≡ true → a ≡ false
    by_tests true true n h = absurd (cc)
    by_tests true false n h = absurd (cc)
    by_tests false b n h = refl
ready_of t previous next c p n h = tt

-- no name gives a dear character as its second code point
not_due : (t : List Entry) (c : ℕ) (next : Option ℕ) (left : Option (List ℕ)) → IsDearIn t c next → IsDue t (Some c) left → ⊥
not_due t c next left h d =
    let same : c ≡ d.second = let e = d.next_is in cc in
    let second : is_second c d.entry.points ≡ true = rw (d.points_are, same) (grind arith) in
    let cheap : list_any (makes_cheap c next) t ≡ true = any_in (makes_cheap c next) d.entry t d.among (by_tests (is_second c d.entry.points) _ _ second) in
    cc
  where
    by_tests : (b a e : Bool) → b ≡ true → (a || (b || e)) ≡ true
    by_tests true true e h = refl
    by_tests true false e h = refl
    by_tests false a e h = absurd (cc)

none_among : (k : Choice) → IsIn k [] → ⊥
none_among k i = elim i [ ]

-- a choice of a dear character in the other form is a long reference, where the character stands as itself in this form
module _ (t : List Entry) (table : IsTable t) (rules : CharacterRules) (form other : Where) (previous : Option ℕ) (c : ℕ) (next : Option ℕ) (d : Dear t previous c next) where
  whole_gives : stands form c ≡ true → stands other c ≡ false → (p : Pending) (k : Choice) → Ready c p → IsIn k (choices_by None t rules (value_spot other) c next p)
      → IsLong k × IsIn (choice (c ∷ []) nothing) (choices_by None t rules (value_spot form) c next p)
  whole_gives h n p k r i = by_part (in_append k (as_itself t rules (value_spot other) c p) (refer other) i)
    where
      refer : Where → List Choice
      refer at = cond (is_some (step t (value_spot at) p 38) && rules.refers c) (by_references t c next) []

      literal : is_some (step t (value_spot other) p 38) ≡ true → IsIn (choice (c ∷ []) nothing) (as_itself t rules (value_spot form) c p ++ refer form)
      literal s =
          let takes : is_some (step t (value_spot form) p 38) ≡ true = rw (same_step t (value_spot form) (value_spot other) (value_is form) (value_is other) p 38) s in
          rw (itself_is t rules form c p d.inert h (takes_itself t table (value_spot form) (value_is form) c d.inert p r takes)) (first _)

      by_tests : (a b : Bool) → is_some (step t (value_spot other) p 38) ≡ a → IsIn k (cond (a && b) (by_references t c next) []) → IsLong k × IsIn (choice (c ∷ []) nothing) (as_itself t rules (value_spot form) c p ++ refer form)
      by_tests true true s j = (references_long t c next d.inert d.costly_in k j, literal s)
      by_tests true false s j = elim j [ ]
      by_tests false b s j = elim j [ ]

      by_part : IsIn k (as_itself t rules (value_spot other) c p) ⊎ IsIn k (refer other) → IsLong k × IsIn (choice (c ∷ []) nothing) (as_itself t rules (value_spot form) c p ++ refer form)
      by_part (inl j) = absurd (none_among k (subst (λ ks. IsIn k ks) (no_itself t rules other c p d.inert n) j))
      by_part (inr j) = by_tests (is_some (step t (value_spot other) p 38)) (rules.refers c) refl j

  gives : stands form c ≡ true → stands other c ≡ false → (p : Pending) (k : Choice) → Comes t previous (Some c) p → IsIn k (choices t rules (value_spot other) c next p)
      → IsLong k × IsIn (choice (c ∷ []) nothing) (choices t rules (value_spot form) c next p)
  gives h n (half left) k m i = absurd (not_due t c next left d.costly_in m)
  gives h n p k m i = whole_gives h n p k (ready_of t previous (Some c) c p d.apart m) i

-- ---- Ways

-- a way with at least three bytes less than n
record HasWayBelow (g : Spelling) (units : List Unit) (s : State) (n : ℕ) : Type 0 where
  bytes : List ℕ
  way : Way (edges_of g) units s bytes
  short : length bytes + 3 ≤ n

-- whether a dear character gains here
abbrev gains_here : List Entry → Where → Where → Option ℕ → ℕ → List ℕ → Bool
gains_here t form other previous c v = stands form c && (not (stands other c) && is_costly t previous c (next_of v))

module _ (g : Spelling) (table : IsTable g.table) (units : List Unit) (form other : Where) (f : Form form) (o : Form other) where
  -- The literal in place of a reference of four bytes or more, after which nothing is pending.
  here : (previous : Option ℕ) (c : ℕ) (v : List ℕ) (p : Pending) (b : List ℕ) → covers form other v ≡ true → Comes g.table previous (Some c) p → gains_here g.table form other previous c v ≡ true
      → Way (edges_of g) (value_and (c ∷ v) units) (state other p) b → HasWayBelow g (value_and (c ∷ v) units) (state form p) (length b + added other)
  here previous c v p b h m s (e, i, (rest, is, w)) =
      let one = and_parts (stands form c) (not (stands other c) && is_costly g.table previous c (next_of v)) s in
      let two = and_parts (not (stands other c)) (is_costly g.table previous c (next_of v)) one.1 in
      let k = value_edge g.table (character_rules g) other c (next_of v) p e (unopened other o) i in
      let d = gives g.table table (character_rules g) form other previous c (next_of v) (costly_of g.table previous c (next_of v) two.1) one.0 (not_true (stands other c) two.0) p k.chosen m k.among in
      let after : HasWayOver (edges_of g) (value_and v units) (state other nothing) rest =
      forgetting g (value_and v units) (state other k.chosen.to) rest (may_forget_is other k.chosen.to (unopened other o) d.0.free) (subst (λ (x : Edge). Way (edges_of g) (value_and v units) x.to rest) k.is w) in
      let more = over_value g v units form other f o h nothing after.bytes after.way in
      let among = choice_in g.table (character_rules g) in_value form c (next_of v) p (choice (c ∷ []) nothing) (unopened form f) d.1 in
      let whole = step_over g (character in_value c (next_of v)) (value_and v units) (state form p) (state form nothing) (c ∷ []) (length after.bytes + added other) (length after.bytes + added other + 1) among more (omega arith) in
      record {
        bytes = whole.bytes;
        way = whole.way;
        short = let a = whole.short in let q = after.short in let four = d.0.four in omega (arith, a, q, four, ap length is, length-append e.bytes rest, ap edge_length k.is);
      }

  -- the same choice in both forms, and a gain later on
  later_on : (previous : Option ℕ) (c : ℕ) (v : List ℕ) (p : Pending) (b : List ℕ) → covers form other (c ∷ v) ≡ true → Comes g.table previous (Some c) p → Way (edges_of g) (value_and (c ∷ v) units) (state other p) b
      → ((q : Pending) (r : List ℕ) → Comes g.table (Some c) (next_of v) q → Way (edges_of g) (value_and v units) (state other q) r → HasWayBelow g (value_and v units) (state form q) (length r + added other))
      → HasWayBelow g (value_and (c ∷ v) units) (state form p) (length b + added other)
  later_on previous c v p b h m (e, i, (rest, is, w)) go_on =
      let k = value_edge g.table (character_rules g) other c (next_of v) p e (unopened other o) i in
      let covered = (and_parts (stands form c || not (stands other c)) (list_all (λ d. stands form d || not (stands other d)) v) h).0 in
      let among = choice_in g.table (character_rules g) in_value form c (next_of v) p k.chosen (unopened form f) (choices_covered g.table (character_rules g) form other c (next_of v) p k.chosen covered k.among) in
      let below = go_on k.chosen.to rest (choice_comes g.table (character_rules g) other previous c (next_of v) p k.chosen m k.among) (subst (λ (x : Edge). Way (edges_of g) (value_and v units) x.to rest) k.is w) in
      record {
        bytes = k.chosen.bytes ++ below.bytes;
        way = (kept_at form k.chosen, among, (below.bytes, refl, below.way));
        short = let s = below.short in omega (arith, s, length-append k.chosen.bytes below.bytes, ap length is, length-append e.bytes rest, ap edge_length k.is);
      }

  gaining : (v : List ℕ) (previous : Option ℕ) (p : Pending) (b : List ℕ) → covers form other v ≡ true → Comes g.table previous (next_of v) p → gains_after g.table form other previous v ≡ true
      → Way (edges_of g) (value_and v units) (state other p) b → HasWayBelow g (value_and v units) (state form p) (length b + added other)
  gaining [] previous p b h m s w = absurd (cc)
  gaining (c ∷ v) previous p b h m s w = by_test (gains_here g.table form other previous c v) refl s (λ a q r n u. gaining v (Some c) q r after n a u)
    where
      after : covers form other v ≡ true
      after = (and_parts (stands form c || not (stands other c)) (list_all (λ d. stands form d || not (stands other d)) v) h).1

      by_test : (a : Bool) → gains_here g.table form other previous c v ≡ a → (a || gains_after g.table form other (Some c) v) ≡ true
          → (gains_after g.table form other (Some c) v ≡ true → (q : Pending) (r : List ℕ) → Comes g.table (Some c) (next_of v) q → Way (edges_of g) (value_and v units) (state other q) r → HasWayBelow g (value_and v units) (state form q) (length r + added other))
          → HasWayBelow g (value_and (c ∷ v) units) (state form p) (length b + added other)
      by_test true e k go_on = here previous c v p b after m e w
      by_test false e k go_on = later_on previous c v p b h m w (go_on k)

pub forms_are_bounded : FormsAreBounded
forms_are_bounded g table v form other is_form is_other h units b w = by_gain (gains g.table form other v) refl
  where
    by_gain : (a : Bool) → gains g.table form other v ≡ a → HasFormWay g (value_and v units) form b (added other) (saved a)
    by_gain true e = let r = gaining g table units form other (form_of form is_form) (form_of other is_other) v None nothing b h tt e w in record { bytes = r.bytes; way = r.way; short = r.short }
    by_gain false e = let r = over_value g v units form other (form_of form is_form) (form_of other is_other) h nothing b w in record { bytes = r.bytes; way = r.way; short = let k = r.short in omega (arith, k) }
