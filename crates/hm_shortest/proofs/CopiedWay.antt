-- Over equal steps that copy the characters of a text.
use Rattle.std.proofs.Common.{◌≡◌, ◌∙◌, ℕ, zero, suc, ◌+◌, ◌<◌, ◌≤◌, true, List, [], ◌∷◌, ◌++◌, length, get_or, drop, Option, Some, None, slice_get, refl, sym, ap, arith, append_assoc, append-nil}
use Rattle.std.specs.Prelude.{encode_utf8}
use Rattle.std.specs.Str.{IsAscii}
use Rattle.std.proofs.lemmas.Str.{encode_ascii}
use Rattle.hm_edges.specs.Pieces.{piece_bytes, piece_text}
use Rattle.hm_edges.specs.declared.pieces.Piece.TheVariants as pieces
use Rattle.hm_graph_laws.specs.Prices.{Row}
use Rattle.hm_graph.specs.Graphs.{GraphView}
use Rattle.hm_refs.specs.Names.{Entry}
use Rattle.hm_graph.specs.Steps.{Step, is_forced}
use Rattle.hm_graph.specs.Ways.{along, choice, choices_of, way_from}
use Rattle.hm_graph.specs.declared.hops.Hop.{Hop}
use Rattle.hm_graph_laws.specs.Units.{TextKind, Unit, character, character_units, next_of}
use Rattle.hm_graph.specs.Copied.{Copies}
use Rattle.hm_shortest.specs.CopiedRuns.{AreCopied, IsCopied}
use Rattle.hm_shortest.specs.Paths.{row_after, way_on, whole_text}
use Rattle.hm_shortest.specs.declared.paths.WrittenWay.{WrittenWay}
use Rattle.hm_shortest.proofs.FirstWay.{forced_choice, forced_none, step_next, way_next}

-- ---- Steps

-- a hop that copies the unit's own bytes is taken, and leads to this place
record IsCopyTaken (after : Row) (hops : List Hop) (p : ℕ) : Type 0 where
  hop : Hop
  taken : Some hop ≡ slice_get hops (choice after hops)
  piece : hop.piece ≡ pieces.Itself
  to : hop.to ≡ p

copy_taken : (after : Row) (hops : List Hop) (p : ℕ) → Copies p hops → IsCopyTaken after hops p
copy_taken after [] p h = absurd h
copy_taken after (x ∷ []) p h = record { hop = x; taken = ap (slice_get (x ∷ [])) (forced_choice after ((x ∷ []) ∷ []) 0 refl); piece = h.0; to = h.1 }
copy_taken after (x ∷ y ∷ hops) p h = absurd h

later_copied : (g : GraphView) (k n : ℕ) (place : Option ℕ) → AreCopied g k (suc n) place → AreCopied g (k + 1) n place
later_copied g k n place are j low high = are j (omega (arith, low)) (omega (arith, high))

-- nothing is chosen over such steps
forced_at : (step : Step) (place : Option ℕ) → IsCopied step place → is_forced step ≡ true
forced_at step None is = absurd is
forced_at step (Some p) is = is.0

pub choices_copied : (g : GraphView) (k n : ℕ) (place : Option ℕ) → k + n ≤ length g.steps → AreCopied g k n place → choices_of g.last (drop k g.steps) ≡ choices_of g.last (drop (k + n) g.steps)
choices_copied g k zero place inside are = let same : k ≡ k + 0 = omega arith in ap (λ j. choices_of g.last (drop j g.steps)) same
choices_copied g k (suc n) place inside are =
    let same : k + 1 + n ≡ k + suc n = omega arith in
    ap (choices_of g.last) (step_next g.steps k (omega (arith, inside)))
    ∙ ap (λ x. choices_of g.last (drop (k + 1) g.steps) ++ x) (forced_none (row_after g k) (get_or g.steps k []) (forced_at (get_or g.steps k []) place (are k (omega arith) (omega arith))))
    ∙ append-nil (choices_of g.last (drop (k + 1) g.steps))
    ∙ choices_copied g (k + 1) n place (omega (arith, inside)) (later_copied g k n place are)
    ∙ ap (λ j. choices_of g.last (drop j g.steps)) same

-- a hop that copies an ASCII character
along_copied : (t : List Entry) (c p : ℕ) (more : ℕ → List ℕ) (h : Hop) → h.piece ≡ pieces.Itself → h.to ≡ p → c < 128 → along (piece_text t (encode_utf8 c)) more (Some h) ≡ c ∷ more p
along_copied t c p more h piece to ascii = (λ i. piece_text t (encode_utf8 c) (piece i) ++ more (to i)) ∙ ap (λ x. x ++ more p) (encode_ascii c ascii)

way_copied : (g : GraphView) (kind : TextKind) (front rest : List ℕ) (units : List Unit) (k : ℕ) (place : Option ℕ) → k + length front ≤ length g.steps → AreCopied g k (length front) place → IsAscii front
    → way_on g (character_units kind (front ++ rest) ++ units) k place ≡ front ++ way_on g (character_units kind rest ++ units) (k + length front) place
way_copied g kind [] rest units k place inside are ascii = let same : k ≡ k + 0 = omega arith in ap (λ j. way_on g (character_units kind rest ++ units) j place) same
way_copied g kind (c ∷ front) rest units k None inside are ascii = absurd (are k (omega arith) (omega arith))
way_copied g kind (c ∷ front) rest units k (Some p) inside are ascii =
    let t : List Entry = g.source.table.entries in
    let u : Unit = character kind c (next_of (front ++ rest)) in
    let after : List Unit = character_units kind (front ++ rest) ++ units in
    let more : ℕ → List ℕ = way_from (piece_bytes t) g.last after (drop (k + 1) g.steps) in
    let same : k + 1 + length front ≡ k + suc (length front) = omega arith in
    let copy : IsCopyTaken (row_after g k) (get_or (get_or g.steps k []) p []) p = copy_taken (row_after g k) (get_or (get_or g.steps k []) p []) p (are k (omega arith) (omega arith)).1 in
    way_next g u after k (Some p) (omega (arith, inside))
    ∙ ap (along (piece_bytes t u) more) (sym copy.taken)
    ∙ along_copied t c p more copy.hop copy.piece copy.to (ascii 0)
    ∙ ap (λ x. c ∷ x) (way_copied g kind front rest units (k + 1) (Some p) (omega (arith, inside)) (later_copied g k (length front) (Some p) are) (λ i. ascii (suc i)))
    ∙ ap (λ j. c ∷ (front ++ way_on g (character_units kind rest ++ units) j (Some p))) same

-- the way goes over these bytes
pub text_copied : (g : GraphView) (kind : TextKind) (front rest : List ℕ) (units : List Unit) (old new : WrittenWay) → old.at.layer + length front ≤ length g.steps → new.at.layer ≡ old.at.layer + length front
    → AreCopied g old.at.layer (length front) old.place → IsAscii front → new.out.items ≡ old.out.items ++ front → new.place ≡ old.place
    → whole_text g (character_units kind (front ++ rest) ++ units) old ≡ whole_text g (character_units kind rest ++ units) new
text_copied g kind front rest units old new inside next are ascii out place =
    let left : List Unit = character_units kind rest ++ units in
    ap (λ x. old.out.items ++ x) (way_copied g kind front rest units old.at.layer old.place inside are ascii)
    ∙ sym (append_assoc old.out.items front (way_on g left (old.at.layer + length front) old.place))
    ∙ sym (λ i. out i ++ way_on g left (next i) (place i))
