-- What is pending after bytes, one after the other, and after a character as itself.
use Rattle.std.proofs.Common.{◌≡◌, ℕ, suc, ◌+◌, ◌<◌, true, false, List, [], ◌∷◌, length, get_or, drop, drop-cons, Option, Some, None, refl, arith, encode_utf8}
use Rattle.hm_refs.specs.Names.{Entry}
use Rattle.hm_spelling_spec.specs.Characters.{CharacterRules, Spot, may_stand}
use Rattle.hm_graph_laws.specs.CharacterEdges.{as_itself, choice, itself_to}
use Rattle.hm_graph_laws.specs.States.{Pending}
use Rattle.hm_graph_laws.specs.Steps.{run, step}

pub run_on : (t : List Entry) (spot : Spot) (p : Pending) (r : Option Pending) (s : List ℕ) (i : ℕ) → i < length s → r ≡ step t spot p (get_or s i 0) → run t spot r (drop (i + 1) s) ≡ run t spot (Some p) (drop i s)
run_on t spot p r s i l e =
    let j : suc i ≡ i + 1 = omega arith in
    rw (drop-cons s i 0 l, e, j) refl

pub itself_barred : (t : List Entry) (rules : CharacterRules) (spot : Spot) (c : ℕ) (p : Pending) → may_stand rules.ascii spot c ≡ false → [] ≡ as_itself t rules spot c p
unfolding as_itself
itself_barred t rules spot c p e = rw e refl

pub itself_broken : (t : List Entry) (rules : CharacterRules) (spot : Spot) (c : ℕ) (p : Pending) → may_stand rules.ascii spot c ≡ true → None ≡ run t spot (Some p) (encode_utf8 c) → [] ≡ as_itself t rules spot c p
unfolding as_itself
itself_broken t rules spot c p e h = rw (e, ← h) refl

pub itself_stands : (t : List Entry) (rules : CharacterRules) (spot : Spot) (c : ℕ) (p q : Pending) → may_stand rules.ascii spot c ≡ true → Some q ≡ run t spot (Some p) (encode_utf8 c) → choice (encode_utf8 c) (itself_to spot c q) ∷ [] ≡ as_itself t rules spot c p
unfolding as_itself
itself_stands t rules spot c p q e h = rw (e, ← h) refl
