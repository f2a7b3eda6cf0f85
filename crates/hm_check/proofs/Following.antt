-- Following a text, step by step.
use Rattle.std.proofs.Common.{◌≡◌, ◌∙◌, ℕ, zero, suc, ◌+◌, ◌<◌, ◌≤◌, List, [], ◌∷◌, ◌++◌, length, get_or, drop, Option, Some, None, Result, refl, sym, ap, subst, arith, ◌⊎◌, inl, inr}
use Rattle.std.proofs.Math.ListN.{replicate}
use Rattle.std.specs.Option.{IfSome}
use Rattle.std.specs.Result.{IfOk}
use Rattle.std.proofs.lemmas.Result.{IfOk-weaker}
use Rattle.std.specs.Prelude.{encode_utf8}
use Rattle.std.specs.Str.{IsAscii}
use Rattle.std.proofs.lemmas.List.{drop_all, drop_more}
use Rattle.std.proofs.lemmas.Str.{encode_ascii}
use Rattle.hm_edges.specs.Pieces.{HasName, own_bytes, piece_bytes, piece_text}
use Rattle.hm_edges.specs.declared.pieces.Piece.{Piece}
use Rattle.hm_edges.specs.declared.pieces.Piece.TheVariants as pieces
use Rattle.hm_graph.specs.Copied.{Copies}
use Rattle.hm_graph.specs.Graphs.{AreNamedHops}
use Rattle.hm_refs.specs.Names.{Entry}
use Rattle.hm_refs.specs.Tables.{IsIn, first, later}
use Rattle.hm_graph.specs.Steps.{Step}
use Rattle.hm_graph.specs.Ways.{WayOver}
use Rattle.hm_graph.specs.declared.hops.Hop.{Hop}
use Rattle.hm_graph_laws.specs.Units.{TextKind, Unit, character, character_units, next_of}
use Rattle.hm_check.specs.Following.{GoesOverAlike, IsOver, IsWayOn, LeadsTo}
use Rattle.hm_check.specs.declared.followed.Followed.{Followed}
use Rattle.hm_check.specs.declared.followed.Taken.{Taken}

-- ---- Hops

in_at : {A : Type 0} (xs : List A) (k : ℕ) (none : A) → k < length xs → IsIn (get_or xs k none) xs
in_at [] k none inside = absurd (omega arith)
in_at (x ∷ xs) zero none inside = first xs
in_at (x ∷ xs) (suc k) none inside = later x xs (in_at xs k none (omega arith))

pub named_at : (t : List Entry) (hops : List Hop) (k : ℕ) (none : Hop) → k < length hops → AreNamedHops t hops → HasName t (get_or hops k none).piece
named_at t [] k none inside h = absurd (omega arith)
named_at t (x ∷ hops) zero none inside h = h.0
named_at t (x ∷ hops) (suc k) none inside h = named_at t hops k none (omega arith) h.1

-- a hop that leads there is one of the hops
pub hop_over : (bytes : Piece → List ℕ) (hops : List Hop) (k : ℕ) (none : Hop) (text : List ℕ) (found : Option Taken) → k < length hops
    → IfSome found (LeadsTo bytes (get_or hops k none) text) → IfSome found (IsOver bytes hops text)
hop_over bytes hops k none text None inside h = tt
hop_over bytes hops k none text (Some taken) inside h = record { hop = get_or hops k none; among = in_at hops k none inside; leads = h }

-- the only one
pub only_over : {E : Type 0} (bytes : Piece → List ℕ) (hops : List Hop) (hop none : Hop) (text : List ℕ) (result : Result (Option Taken) E) → 0 < length hops → hop ≡ get_or hops 0 none
    → IfOk result (λ found. IfSome found (LeadsTo bytes hop text)) → IfOk result (λ found. IfSome found (IsOver bytes hops text))
only_over bytes hops hop none text result inside is h =
    IfOk-weaker result (λ found. IfSome found (LeadsTo bytes hop text)) (λ found. IfSome found (IsOver bytes hops text))
    (λ found leads. hop_over bytes hops 0 none text found inside (subst (λ h. IfSome found (LeadsTo bytes h text)) is leads)) h

-- one of two
pub either_over : (bytes : Piece → List ℕ) (hops : List Hop) (text : List ℕ) (found one other : Option Taken) → (found ≡ one) ⊎ (found ≡ other)
    → IfSome one (IsOver bytes hops text) → IfSome other (IsOver bytes hops text) → IfSome found (IsOver bytes hops text)
either_over bytes hops text found one other (inl same) p q = subst (λ o. IfSome o (IsOver bytes hops text)) (sym same) p
either_over bytes hops text found one other (inr same) p q = subst (λ o. IfSome o (IsOver bytes hops text)) (sym same) q

-- ---- Characters with one step

-- a hop that copies the unit's own bytes leads to this place
record IsCopy (hops : List Hop) (p : ℕ) : Type 0 where
  hop : Hop
  among : IsIn hop hops
  piece : hop.piece ≡ pieces.Itself
  to : hop.to ≡ p

copy_of : (p : ℕ) (hops : List Hop) → Copies p hops → IsCopy hops p
copy_of p [] h = absurd h
copy_of p (x ∷ []) h = record { hop = x; among = first []; piece = h.0; to = h.1 }
copy_of p (x ∷ y ∷ hops) h = absurd h

way_copied : (t : List Entry) (kind : TextKind) (front rest : List ℕ) (more : List Unit) (step : Step) (steps : List Step) (p : ℕ) (b : List ℕ) → Copies p (get_or step p []) → IsAscii front
    → WayOver (piece_bytes t) (character_units kind rest ++ more) steps p b → WayOver (piece_bytes t) (character_units kind (front ++ rest) ++ more) (replicate (length front) step ++ steps) p (front ++ b)
way_copied t kind [] rest more step steps p b copies ascii on = on
way_copied t kind (c ∷ front) rest more step steps p b copies ascii on =
    let copy : IsCopy (get_or step p []) p = copy_of p (get_or step p []) copies in (
      copy.hop,
      copy.among,
      (
        front ++ b,
        ap (λ x. x ++ (front ++ b)) (sym (encode_ascii c (ascii 0)) ∙ ap (piece_text t (encode_utf8 c)) (sym copy.piece)),
        subst (λ q. WayOver (piece_bytes t) (character_units kind (front ++ rest) ++ more) (replicate (length front) step ++ steps) q (front ++ b)) (sym copy.to)
            (way_copied t kind front rest more step steps p b copies (λ i. ascii (suc i)) on),
      ),
    )

-- a character's bytes are a way over a step that copies it
pub way_character : (t : List Entry) (step : Step) (c : ℕ) (old new : Followed) → Copies old.place (get_or step old.place []) → old.rest.now ≡ encode_utf8 c ++ new.rest.now → new.place ≡ old.place
    → (u : Unit) (more : List Unit) (steps : List Step) → own_bytes u ≡ encode_utf8 c → IsWayOn t more steps new → IsWayOn t (u ∷ more) (step ∷ steps) old
way_character t step c old new copies text place u more steps own on =
    let copy : IsCopy (get_or step old.place []) old.place = copy_of old.place (get_or step old.place []) copies in (
      copy.hop,
      copy.among,
      (
        new.rest.now,
        text ∙ ap (λ x. x ++ new.rest.now) (sym own ∙ ap (piece_text t (own_bytes u)) (sym copy.piece)),
        subst (λ p. WayOver (piece_bytes t) more steps p new.rest.now) (place ∙ sym copy.to) on,
      ),
    )

-- the bytes are a way over the steps that copy them
pub way_after : (t : List Entry) (step : Step) (front : List ℕ) (old new : Followed) → Copies old.place (get_or step old.place []) → IsAscii front → old.rest.now ≡ front ++ new.rest.now → new.place ≡ old.place → GoesOverAlike t step front old new
way_after t step front old new copies ascii text place = λ kind rest more steps on.
    subst (WayOver (piece_bytes t) (character_units kind (front ++ rest) ++ more) (replicate (length front) step ++ steps) old.place) (sym text)
    (way_copied t kind front rest more step steps old.place new.rest.now copies ascii (subst (λ p. WayOver (piece_bytes t) (character_units kind rest ++ more) steps p new.rest.now) place on))

-- the first n of these characters were passed
abbrev pub AlikePassed : List Entry → Step → List ℕ → ℕ → Followed → Followed → Type 0
AlikePassed t step bytes n start way =
    (kind : TextKind) (rest : List ℕ) (more : List Unit) (steps : List Step) → IsWayOn t (character_units kind (drop n bytes ++ rest) ++ more) (replicate (length (drop n bytes)) step ++ steps) way
    → IsWayOn t (character_units kind (bytes ++ rest) ++ more) (replicate (length bytes) step ++ steps) start

pub none_passed : (t : List Entry) (step : Step) (bytes : List ℕ) (way : Followed) → AlikePassed t step bytes 0 way way
none_passed t step bytes way kind rest more steps on = on

pub one_passed : (t : List Entry) (step : Step) (bytes : List ℕ) (n none : ℕ) (start way new : Followed) → n < length bytes → AlikePassed t step bytes n start way
    → ((u : Unit) (more : List Unit) (steps : List Step) → own_bytes u ≡ encode_utf8 (get_or bytes n none) → IsWayOn t more steps new → IsWayOn t (u ∷ more) (step ∷ steps) way) → AlikePassed t step bytes (n + 1) start new
one_passed t step bytes n none start way new inside passed one = λ kind rest more steps on.
    let c : ℕ = get_or bytes n none in
    let front : List ℕ = drop (n + 1) bytes in
    passed kind rest more steps
    (subst (λ xs. IsWayOn t (character_units kind (xs ++ rest) ++ more) (replicate (length xs) step ++ steps) way) (sym (drop_more bytes n none inside))
    (one (character kind c (next_of (front ++ rest))) (character_units kind (front ++ rest) ++ more) (replicate (length front) step ++ steps) refl on))

pub all_passed : (t : List Entry) (step : Step) (bytes : List ℕ) (n : ℕ) (start way : Followed) → length bytes ≤ n → AlikePassed t step bytes n start way → GoesOverAlike t step bytes start way
all_passed t step bytes n start way past passed = λ kind rest more steps on.
    passed kind rest more steps (subst (λ xs. IsWayOn t (character_units kind (xs ++ rest) ++ more) (replicate (length xs) step ++ steps) way) (sym (drop_all n bytes past)) on)
