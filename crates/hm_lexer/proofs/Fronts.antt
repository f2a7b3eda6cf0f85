-- What is read in a prefix of a text, up to the end of an element's text.
use Rattle.std.proofs.Common.{◌≡◌, ℕ, zero, suc, ◌+◌, ◌-◌, ◌<◌, ◌≤◌, true, false, List, ◌++◌, length, take, drop, get_or, slice_range, Result, Ok, Err, IfOk, Some, refl, sym, ap, ap₂, subst, ◌∙◌, inl, inr, arith}
use Rattle.std.specs.Str.{IsCharBoundary}
use Rattle.std.proofs.lemmas.Bool.{cases_lt}
use Rattle.std.proofs.lemmas.List.{drop-drop, drop-take, take-take, length-take-le, get_or-take}
use Rattle.std.proofs.lemmas.List.Folds.{drop_split}
use Rattle.hm_refs.specs.Names.{Entry}
use Rattle.hm_scan.specs.Texts.{read_text}
use Rattle.hm_token_laws.specs.First.{before_rest, read_inside}
use Rattle.hm_tree.specs.Lexemes.{token_of}
use Rattle.hm_tree.specs.Tokens.{BeginsAt, IsPiece, IsInText, Reads, Scanned, seen, slice, comment, taken}
use Rattle.hm_tree.specs.declared.tokens.Lexeme.{Lexeme}
use Rattle.hm_tree.specs.declared.tokens.ScanFault.{ScanFault}
use Rattle.hm_tree.specs.declared.tokens.Tag.{Tag}
use Rattle.hm_tree.specs.declared.tokens.Token.{Token}
use Rattle.hm_tree.specs.declared.tokens.Token.TheVariants as tokens
use Rattle.hm_lexer.specs.Steps.{read_piece, read_with}

-- ---- a prefix of a text, and the text

range_front : (s : List ℕ) (n from to : ℕ) → from ≤ to → to ≤ n → slice_range (take n s) from to ≡ slice_range s from to
range_front s n from to low high =
    let cut : take (from + (n - from)) s ≡ take n s = ap (λ m. take m s) (omega arith) in
    ap (λ r. take (to - from) (drop from r)) (sym cut) ∙ ap (take (to - from)) (drop-take from (n - from) s) ∙ take-take (to - from) (n - from) (drop from s) (omega arith)

boundary_front : (s : List ℕ) (n k : ℕ) → n ≤ length s → IsCharBoundary s n → IsCharBoundary (take n s) k → IsCharBoundary s k
boundary_front s n k inside end b =
    let long : length (take n s) ≡ n = length-take-le n s inside in
    let low : k ≤ length (take n s) = b.0 in
    elim (cases_lt k n) [
      | inl h ↦ let same : get_or (take n s) k 0 ≡ get_or s k 0 = get_or-take n s k 0 h in (omega arith, λ i. rw same at b.1 (omega arith))
      | inr h ↦ let same : n ≡ k = omega arith in subst (λ m. IsCharBoundary s m) same end
    ]

piece_front : (s : List ℕ) (n from to : ℕ) → n ≤ length s → IsCharBoundary s n → IsPiece (take n s) from to → IsPiece s from to
piece_front s n from to inside end p =
    record { ordered = p.ordered; from_boundary = boundary_front s n from inside end p.from_boundary; to_boundary = boundary_front s n to inside end p.to_boundary }

piece_short : (s : List ℕ) (n from to : ℕ) → n ≤ length s → IsPiece (take n s) from to → slice_range (take n s) from to ≡ slice_range s from to
piece_short s n from to inside p =
    let long : length (take n s) ≡ n = length-take-le n s inside in
    let high : to ≤ length (take n s) = p.to_boundary.0 in
    range_front s n from to p.ordered (omega arith)

seen_front : (s : List ℕ) (n : ℕ) (token : Token) → n ≤ length s → IsInText (take n s) token → seen (take n s) token ≡ seen s token
seen_front s n (tokens.Slice from to) inside p = ap slice (piece_short s n from to inside p)
seen_front s n (tokens.Comment from to) inside p = ap comment (piece_short s n from to inside p)
seen_front s n (tokens.Doctype legacy) inside p = refl
seen_front s n (tokens.StartTag name attrs slash) inside p = refl
seen_front s n (tokens.EndTag name) inside p = refl
seen_front s n (tokens.Points p) inside q = refl

pieces_front : (s : List ℕ) (n : ℕ) (token : Token) → n ≤ length s → IsCharBoundary s n → IsInText (take n s) token → IsInText s token
pieces_front s n (tokens.Slice from to) inside end p = piece_front s n from to inside end p
pieces_front s n (tokens.Comment from to) inside end p = piece_front s n from to inside end p
pieces_front s n (tokens.Doctype legacy) inside end p = tt
pieces_front s n (tokens.StartTag name attrs slash) inside end p = tt
pieces_front s n (tokens.EndTag name) inside end p = tt
pieces_front s n (tokens.Points p) inside end q = tt

rest_front : (s : List ℕ) (n k : ℕ) → k ≤ n → drop k (take n s) ++ drop n s ≡ drop k s
rest_front s n k low =
    let cut : take (k + (n - k)) s ≡ take n s = ap (λ m. take m s) (omega arith) in
    ap (λ r. drop k r ++ drop n s) (sym cut) ∙ ap (λ r. r ++ drop n s) (drop-take k (n - k) s) ∙ sym (drop_split s k n low)

reads_front : (read : Scanned) (s : List ℕ) (n : ℕ) (token : Token) (to : ℕ) → IsCharBoundary s n → Reads read (take n s) token to → Reads (before_rest read (drop n s)) s token to
reads_front read s n token to end r =
    let inside : n ≤ length s = end.0 in
    let long : length (take n s) ≡ n = length-take-le n s inside in
    let high : to ≤ length (take n s) = r.boundary.0 in
    record {
      is = ap (λ x. before_rest x (drop n s)) r.is ∙ ap₂ taken (seen_front s n token inside r.inside) (rest_front s n to (omega arith));
      inside = pieces_front s n token inside end r.inside;
      boundary = boundary_front s n to inside end r.boundary;
    }

-- ---- the text of an element before its end

piece_inside : (t : List Entry) (s : List ℕ) (n : ℕ) (more : List ℕ → List ℕ → Scanned) → 0 < n → read_inside t s (Some n) more ≡ more (take n s) (drop n s)
piece_inside t s zero more h = absurd (omega arith)
piece_inside t s (suc n) more h = refl

pub reads_references : (t : List Entry) (s : List ℕ) (at to : ℕ) (token : Token) (after : ℕ) → at < to → IsCharBoundary s to → Reads (read_text t true (drop at (slice_range s 0 to))) (slice_range s 0 to) token after
    → Reads (read_inside t (drop at s) (Some (to - at)) (read_piece true t)) s token after
reads_references t s at to token after low end r =
    let cut : take (at + (to - at)) s ≡ take to s = ap (λ m. take m s) (omega arith) in
    let front : drop at (take to s) ≡ take (to - at) (drop at s) = ap (drop at) (sym cut) ∙ drop-take at (to - at) s in
    let rest : drop (to - at) (drop at s) ≡ drop to s = drop-drop (to - at) at s ∙ ap (λ m. drop m s) (omega arith) in
    let whole : read_inside t (drop at s) (Some (to - at)) (read_piece true t) ≡ before_rest (read_text t true (drop at (take to s))) (drop to s) =
    piece_inside t (drop at s) (to - at) (read_piece true t) (omega arith) ∙ rw (front, rest) refl in
    let all : slice_range s 0 to ≡ take to s = ap (λ m. take m s) (omega arith) in
    subst (λ x. Reads x s token after) (sym whole) (reads_front (read_text t true (drop at (take to s))) s to token after end (subst (λ x. Reads (read_text t true (drop at x)) x token after) all r))

pub reads_nothing : (t : List Entry) (s : List ℕ) (at to : ℕ) → at < to → IsCharBoundary s at → IsCharBoundary s to → Reads (read_inside t (drop at s) (Some (to - at)) (read_piece false t)) s (tokens.Slice at to) to
reads_nothing t s at to low starts end =
    let rest : drop (to - at) (drop at s) ≡ drop to s = drop-drop (to - at) at s ∙ ap (λ m. drop m s) (omega arith) in
    record {
      is = piece_inside t (drop at s) (to - at) (read_piece false t) (omega arith) ∙ ap (taken (slice (slice_range s at to))) rest;
      inside = record { ordered = omega arith; from_boundary = starts; to_boundary = end };
      boundary = end;
    }

-- ---- where a token begins

-- a token that names no piece of its text begins at each place
pub at_each : {E : Type 0} (o : Result (Lexeme × ℕ) E) (tag : Tag) (place : ℕ) → IfOk o (λ r. (at : ℕ) → BeginsAt at (token_of r.0 tag)) → IfOk o (λ r. BeginsAt place (token_of r.0 tag))
at_each (Ok r) tag place h = h place
at_each (Err e) tag place h = tt

-- the same of what was read with its tag in a place of its own
pub at_each_with : (o : Result (Lexeme × ℕ) ScanFault) (tag : Tag) (place : ℕ) → IfOk (read_with o tag) (λ r. (at : ℕ) → BeginsAt at r.0) → IfOk o (λ r. BeginsAt place (token_of r.0 tag))
at_each_with (Ok r) tag place h = h place
at_each_with (Err e) tag place h = tt
