-- The first way, written step by step.
use Rattle.std.proofs.Common.{◌≡◌, ◌∙◌, ℕ, zero, suc, ◌+◌, ◌<◌, ◌≤◌, Bool, true, false, List, [], ◌∷◌, ◌++◌, length, map, get_or, drop, Option, Some, None, refl, sym, ap, subst, arith, append_assoc, append-nil}
use Rattle.std.proofs.Math.ListN.{replicate}
use Rattle.std.proofs.lemmas.List.{drop_all, drop_more, length-map, map-append}
use Rattle.std.proofs.lemmas.Str.{encode_ascii}
use Rattle.std.specs.Prelude.{IsSome, encode_utf8}
use Rattle.std.specs.Str.{IsAscii}
use Rattle.hm_edges.specs.Pieces.{own_bytes, piece_text}
use Rattle.hm_graph.specs.Graphs.{only_hop}
use Rattle.hm_graph.specs.Steps.{Step}
use Rattle.hm_graph.specs.declared.hops.Hop.{Hop}
use Rattle.hm_graph_laws.specs.Units.{TextKind, Unit, character, character_units, next_of}
use Rattle.hm_shortest.proofs.Joined.{after, copied_written, nowhere, one_written, way_joined}
use Rattle.hm_shortest.specs.Direct.{CopiesOne, FirstIs, GoesDirectly, GoesHere, GoesOverAlike, GoesOverOne, IsOn, IsOver, IsSettled, place_of}
use Rattle.hm_shortest.specs.Stretches.{IsWritten, KeptView, Place, owns_in, steps_in}
use Rattle.hm_shortest.specs.declared.direct.DirectWay.{DirectWay}
use Rattle.hm_refs.specs.Names.{Entry}

-- a way with no kept steps
on_none : (end : DirectWay) (t : List Entry) (units : List Unit) (steps : List Step) (way : DirectWay) → way.stretch.items ≡ [] → IsOn end t units steps way → IsWritten t end.last (map own_bytes units) steps (place_of way) (place_of end)
on_none end t units steps way none on =
    subst (λ kept. IsWritten t end.last (owns_in kept ++ map own_bytes units) (steps_in kept ++ steps) (place_of way) (place_of end)) none on

none_on : (end : DirectWay) (t : List Entry) (units : List Unit) (steps : List Step) (way : DirectWay) → way.stretch.items ≡ [] → IsWritten t end.last (map own_bytes units) steps (place_of way) (place_of end) → IsOn end t units steps way
none_on end t units steps way none written = subst (λ kept. IsWritten t end.last (owns_in kept ++ map own_bytes units) (steps_in kept ++ steps) (place_of way) (place_of end)) (sym none) written

-- ---- Over one step

pub kept_on : (t : List Entry) (old new : DirectWay) (k : KeptView) → new.stretch.items ≡ old.stretch.items ++ k ∷ [] → place_of new ≡ place_of old → IsOver t k.step k.own old new
kept_on t old new k stretch place end u units steps own on =
    let kept : List KeptView = old.stretch.items in
    let owns : owns_in new.stretch.items ++ map own_bytes units ≡ owns_in kept ++ map own_bytes (u ∷ units) =
    ap (λ s. owns_in s ++ map own_bytes units) stretch ∙ ap (λ o. o ++ map own_bytes units) (map-append (λ (x : KeptView). x.own) kept (k ∷ [])) ∙ append_assoc (owns_in kept) (k.own ∷ []) (map own_bytes units)
    ∙ ap (λ o. owns_in kept ++ o ∷ map own_bytes units) (sym own) in
    let them : steps_in new.stretch.items ++ steps ≡ steps_in kept ++ k.step ∷ steps =
    ap (λ s. steps_in s ++ steps) stretch ∙ ap (λ o. o ++ steps) (map-append (λ (x : KeptView). x.step) kept (k ∷ [])) ∙ append_assoc (steps_in kept) (k.step ∷ []) steps in
    subst (λ A. A) (λ i. IsWritten t end.last (owns i) (them i) (place i) (place_of end)) on

pub put_on : (t : List Entry) (step : Step) (own : List ℕ) (h : Hop) (old new : DirectWay) → old.stretch.items ≡ [] → new.stretch ≡ old.stretch → only_hop step ≡ Some h → h.to ≡ 0
    → place_of new ≡ after (place_of old) h.len (piece_text t own h.piece) → IsOver t step own old new
put_on t step own h old new none same only to place end u units steps is on =
    let one : IsWritten t 1 (own ∷ []) (step ∷ []) (place_of old) (place_of new) = subst (IsWritten t 1 (own ∷ []) (step ∷ []) (place_of old)) (sym place) (one_written t own step h (place_of old) only to) in
    let rest : IsWritten t end.last (map own_bytes units) steps (place_of new) (place_of end) = on_none end t units steps new (ap (λ s. s.items) same ∙ none) on in
    none_on end t (u ∷ units) (step ∷ steps) old none
    (subst (λ o. IsWritten t end.last (o ∷ map own_bytes units) (step ∷ steps) (place_of old) (place_of end)) (sym is)
    (way_joined t end.last (own ∷ []) (map own_bytes units) (step ∷ []) steps (place_of old) (place_of new) (place_of end) refl one rest))

pub settled_on : (t : List Entry) (old new : DirectWay) → IsSettled t 1 old new → GoesHere t old new
settled_on t old new s end units steps on =
    let kept : List KeptView = old.stretch.items in
    let count : length (owns_in kept) ≡ length (steps_in kept) = length-map kept (λ (x : KeptView). x.own) ∙ sym (length-map kept (λ (x : KeptView). x.step)) in
    way_joined t end.last (owns_in kept) (map own_bytes units) (steps_in kept) steps (place_of old) (place_of new) (place_of end) count s.written (on_none end t units steps new s.none on)

pub goes_over_one : (t : List Entry) (step : Step) (own : List ℕ) (old begun settled new : DirectWay) → place_of begun ≡ place_of old → begun.stretch ≡ old.stretch
    → ((steps : List Step) (first : Option Bool) → FirstIs begun.first steps first → FirstIs old.first (step ∷ steps) first) → settled.first ≡ begun.first → GoesHere t begun settled → new.first ≡ settled.first → IsOver t step own settled new
    → GoesOverOne t step own old new
goes_over_one t step own old begun settled new place stretch first same goes known over end u units steps is (f, on) = (
  first steps end.first (subst (λ x. FirstIs x steps end.first) (known ∙ same) f),
  subst (λ A. A) (λ i. IsWritten t end.last (owns_in (stretch i).items ++ map own_bytes (u ∷ units)) (steps_in (stretch i).items ++ step ∷ steps) (place i) (place_of end))
      (goes end (u ∷ units) (step ∷ steps) (over end u units steps is on)),
)

-- ---- The ends

first_ends : (known first : Option Bool) → first ≡ known → FirstIs known [] first
first_ends None first is = is
first_ends (Some b) first is = is

pub at_end : (t : List Entry) (last : ℕ) (old new : DirectWay) → IsSettled t last old new → GoesDirectly new t [] [] old
at_end t last old new s = (
  first_ends old.first new.first s.first,
  subst (λ A. A) (λ i. IsWritten t (sym s.last_is i) (sym (append-nil (owns_in old.stretch.items)) i) (sym (append-nil (steps_in old.stretch.items)) i) (place_of old) (place_of new)) s.written,
)

pub from_start : (end : DirectWay) (t : List Entry) (units : List Unit) (steps : List Step) (start : DirectWay) → start.stretch.items ≡ [] → start.first ≡ None → place_of start ≡ nowhere → GoesDirectly end t units steps start
    → FirstIs None steps end.first × IsWritten t end.last (map own_bytes units) steps nowhere (place_of end)
from_start end t units steps start none first place (f, on) =
    (subst (λ known. FirstIs known steps end.first) first f, subst (λ a. IsWritten t end.last (map own_bytes units) steps a (place_of end)) place (on_none end t units steps start none on))

-- ---- Over characters with one step

pub known_first : (known : Option Bool) (xs ys : List Step) (first : Option Bool) → IsSome known → FirstIs known xs first → FirstIs known ys first
known_first None xs ys first some is = absurd (cc)
known_first (Some b) xs ys first some is = is

own_characters : (kind : TextKind) (bytes rest : List ℕ) (units : List Unit) → IsAscii bytes → map own_bytes (character_units kind (bytes ++ rest) ++ units) ≡ map (λ b. b ∷ []) bytes ++ map own_bytes (character_units kind rest ++ units)
own_characters kind [] rest units ascii = refl
own_characters kind (c ∷ bytes) rest units ascii = λ i. encode_ascii c (ascii 0) i ∷ own_characters kind bytes rest units (λ k. ascii (suc k)) i

pub goes_copied : (t : List Entry) (step : Step) (bytes : List ℕ) (old begun new : DirectWay) → old.stretch.items ≡ [] → CopiesOne step → 0 < length bytes → IsAscii bytes → place_of begun ≡ place_of old → begun.stretch ≡ old.stretch → IsSome begun.first
    → ((steps : List Step) (first : Option Bool) → FirstIs begun.first steps first → FirstIs old.first (step ∷ steps) first) → new.first ≡ begun.first → new.stretch ≡ begun.stretch → place_of new ≡ after (place_of begun) (length bytes) bytes
    → GoesOverAlike t step bytes old new
goes_copied t step [] old begun new none copies some ascii place stretch known first same kept at = absurd (omega (arith, some))
goes_copied t step (c ∷ bytes) old begun new none copies some ascii place stretch known first same kept at = λ end kind rest units steps on.
    let all : List ℕ = c ∷ bytes in
    let owns : List (List ℕ) = map (λ b. b ∷ []) all in
    let them : List Step = replicate (length bytes) step ++ steps in
    let us : List Unit = character_units kind rest ++ units in
    let written : IsWritten t 1 owns (replicate (length all) step) (place_of old) (place_of new) =
    subst (IsWritten t 1 owns (replicate (length all) step) (place_of old)) (ap (λ a. after a (length all) all) (sym place) ∙ sym at) (copied_written t all step copies.hop (place_of old) copies.only copies.to copies.len copies.itself) in
    let more : IsWritten t end.last (map own_bytes us) steps (place_of new) (place_of end) = on_none end t us steps new (ap (λ s. s.items) (kept ∙ stretch) ∙ none) on.1 in
    let count : length owns ≡ length (replicate (length all) step) = length-map all (λ b. b ∷ []) ∙ sym (copies_count (length all)) in (
      first them end.first (known_first begun.first steps them end.first known (subst (λ x. FirstIs x steps end.first) same on.0)),
      none_on end t (character_units kind (all ++ rest) ++ units) (step ∷ them) old none
          (subst (λ o. IsWritten t end.last o (step ∷ them) (place_of old) (place_of end)) (sym (own_characters kind all rest units ascii))
          (way_joined t end.last owns (map own_bytes us) (replicate (length all) step) steps (place_of old) (place_of new) (place_of end) count written more)),
    )
  where
    copies_count : (n : ℕ) → length (replicate n step) ≡ n
    copies_count zero = refl
    copies_count (suc n) = ap (λ k. suc k) (copies_count n)

-- the first n of these characters were gone over
abbrev pub AlikePassed : List Entry → Step → List ℕ → ℕ → DirectWay → DirectWay → Type 0
AlikePassed t step bytes n start way =
    (end : DirectWay) (kind : TextKind) (rest : List ℕ) (units : List Unit) (steps : List Step) → GoesDirectly end t (character_units kind (drop n bytes ++ rest) ++ units) (replicate (length (drop n bytes)) step ++ steps) way
    → GoesDirectly end t (character_units kind (bytes ++ rest) ++ units) (replicate (length bytes) step ++ steps) start

pub none_passed : (t : List Entry) (step : Step) (bytes : List ℕ) (way : DirectWay) → AlikePassed t step bytes 0 way way
none_passed t step bytes way end kind rest units steps on = on

pub one_passed : (t : List Entry) (step : Step) (bytes : List ℕ) (n none : ℕ) (start way new : DirectWay) → n < length bytes → AlikePassed t step bytes n start way → GoesOverOne t step (encode_utf8 (get_or bytes n none)) way new → AlikePassed t step bytes (n + 1) start new
one_passed t step bytes n none start way new inside passed one = λ end kind rest units steps on.
    let c : ℕ = get_or bytes n none in
    let front : List ℕ = drop (n + 1) bytes in
    passed end kind rest units steps
    (subst (λ bs. GoesDirectly end t (character_units kind (bs ++ rest) ++ units) (replicate (length bs) step ++ steps) way) (sym (drop_more bytes n none inside))
    (one end (character kind c (next_of (front ++ rest))) (character_units kind (front ++ rest) ++ units) (replicate (length front) step ++ steps) refl on))

pub all_passed : (t : List Entry) (step : Step) (bytes : List ℕ) (n : ℕ) (start way : DirectWay) → length bytes ≤ n → AlikePassed t step bytes n start way → GoesOverAlike t step bytes start way
all_passed t step bytes n start way past passed = λ end kind rest units steps on.
    passed end kind rest units steps (subst (λ bs. GoesDirectly end t (character_units kind (bs ++ rest) ++ units) (replicate (length bs) step ++ steps) way) (sym (drop_all n bytes past)) on)
