-- Scans of comments and CDATA sections.
use Rattle.std.proofs.Common.{◌≡◌, ℕ, ◌+◌, ◌-◌, ◌<◌, ◌≤◌, Bool, true, false, not, ◌&&◌, ◌||◌, List, [], length, drop, get_or, Option, Some, None, refl, ap, sym, subst, ◌∙◌, arith, codes, MatchOption, IfSome, inl, inr, length-drop}
use Rattle.std.proofs.lemmas.Bool.{cases_lt}
use Rattle.std.proofs.lemmas.List.{drop-drop, get_or-drop}
use Rattle.memchr.specs.Find.{is_byte2}
use Rattle.hm_base.specs.Bytes.{Cut, strip, cut_at}
use Rattle.hm_base.specs.RawText.{is_found}
use Rattle.hm_scan.specs.Comments.{begins, begins_comment, found_and, is_no_tag, after_end, cut_comment, cut_where, comment_at, comment_front}
use Rattle.hm_scan.specs.Doctypes.{begins_doctype}
use Rattle.hm_scan.specs.Found.{IsFound, IsFoundAfter, Finds}
use Rattle.hm_scan.specs.declared.search.MarkPiece.{MarkPiece}
use Rattle.hm_scan.proofs.Places.{found_after}
use Rattle.hm_scan.proofs.Searches.{not_stripped, begins_front, begins_not, begins_long, begins_reads}

abbrev pub NoEnd : List ℕ → ℕ → ℕ → Type 0
NoEnd s from to = (k : ℕ) → from ≤ k → k < to → after_end (drop k s) ≡ None

-- the third byte of an end of a comment
abbrev pub is_sign : ℕ → Bool
is_sign = is_byte2 62 33

-- an end stands only where its third byte is a sign
no_sign : (s : List ℕ) (k : ℕ) → k < length s → (k + 2 < length s → is_sign (get_or s (k + 2) 0) ≡ true → ⊥) → after_end (drop k s) ≡ None
no_sign s k inside other =
    let arrow : strip (codes "-->") (drop k s) ≡ None = not_stripped (codes "-->") s k inside (λ o. other (omega (arith, o.fits)) (rw (o.reads 2 (omega arith)) refl)) in
    let bang : strip (codes "--!>") (drop k s) ≡ None = not_stripped (codes "--!>") s k inside (λ o. other (omega (arith, o.fits)) (rw (o.reads 2 (omega arith)) refl)) in
    rw (arrow, bang) refl

-- no end stands before the next sign
pub none_before : (s : List ℕ) (from at to : ℕ) → to ≤ length s → NoEnd s from at → ((j : ℕ) → j < to - at → at + 2 + j < length s → is_sign (get_or (drop (at + 2) s) j 0) ≡ true → ⊥) → NoEnd s from to
none_before s from at to inside none signs k low high = elim (cases_lt k at) [
  | inl h ↦ none k low h
  | inr h ↦
      let place : at + 2 + (k - at) ≡ k + 2 = omega arith in
      let there : get_or (drop (at + 2) s) (k - at) 0 ≡ get_or s (k + 2) 0 = get_or-drop (at + 2) s (k - at) 0 ∙ ap (λ m. get_or s m 0) place in
      no_sign s k (omega arith) (λ fits is. signs (k - at) (omega arith) (omega arith) (rw there is))
]

-- nor at a place where none is found
pub none_at : (s : List ℕ) (from to : ℕ) → NoEnd s from to → after_end (drop to s) ≡ None → NoEnd s from (to + 1)
none_at s from to none here k low high = elim (cases_lt k to) [
  | inl h ↦ none k low h
  | inr h ↦ let same : to ≡ k = omega arith in subst (λ m. after_end (drop m s) ≡ None) same here
]

-- what ends a comment at once
pub ended_by : (mark s : List ℕ) (from : ℕ) (cut : Option Cut) → begins mark (drop from s) ≡ true → 0 < length mark → get_or mark 0 0 < 128 → get_or mark (length mark - 1) 0 < 128
    → cut ≡ Some (record { before = []; after = drop (length mark) (drop from s) }) → IsFound s from cut (record { from = from; to = from; after = from + length mark })
ended_by mark s from cut here some first last is =
    let long : length (drop from s) ≡ length s - from = length-drop from s in
    let fits : length mark ≤ length (drop from s) = begins_long mark (drop from s) here in
    let head : get_or s from 0 ≡ get_or mark 0 0 = ap (λ n. get_or s n 0) (omega arith) ∙ sym (get_or-drop from s 0 0) ∙ begins_reads mark (drop from s) here 0 some in
    let place : from + length mark - 1 ≡ from + (length mark - 1) = omega arith in
    let end : get_or s (from + length mark - 1) 0 ≡ get_or mark (length mark - 1) 0 = rw place (sym (get_or-drop from s (length mark - 1) 0) ∙ begins_reads mark (drop from s) here (length mark - 1) (omega arith)) in
    let width : from - from ≡ 0 = omega arith in
    record {
      starts = refl;
      ordered = omega arith;
      ends = omega arith;
      inside = omega arith;
      first = rw head first;
      last = rw end last;
      is = is ∙ rw (width, drop-drop (length mark) from s) refl;
    }

pub cut_at_greater : (s : List ℕ) → begins (codes ">") s ≡ true → cut_comment s ≡ Some (record { before = []; after = drop 1 s })
cut_at_greater s e = rw (begins_front (codes ">") s e) refl

pub cut_at_arrow : (s : List ℕ) → begins (codes ">") s ≡ false → begins (codes "->") s ≡ true → cut_comment s ≡ Some (record { before = []; after = drop 2 s })
cut_at_arrow s e f = rw (begins_not (codes ">") s e, begins_front (codes "->") s f) refl

pub cut_further : (s : List ℕ) → begins (codes ">") s ≡ false → begins (codes "->") s ≡ false → cut_comment s ≡ cut_where after_end s
cut_further s e f = rw (begins_not (codes ">") s e, begins_not (codes "->") s f) refl

-- after `<!` or `</`
pub second_byte : (s : List ℕ) → begins_comment s ≡ true → begins (codes "<?") s ≡ false → (2 ≤ length s) × (get_or s 1 0 < 128)
unfolding begins_comment
second_byte s e f = either (begins (codes "<!") s) (strip (codes "</") s) refl refl (rw f at e)
  where
    by_mark : (mark : List ℕ) → length mark ≡ 2 → get_or mark 1 0 < 128 → begins mark s ≡ true → (2 ≤ length s) × (get_or s 1 0 < 128)
    by_mark mark two ascii g = (omega (arith, begins_long mark s g), rw (begins_reads mark s g 1 (omega arith)) ascii)

    either : (a : Bool) (b : Option (List ℕ)) → begins (codes "<!") s ≡ a → strip (codes "</") s ≡ b → (a && not (begins_doctype s)) || found_and is_no_tag b ≡ true → (2 ≤ length s) × (get_or s 1 0 < 128)
    either true b g h i = by_mark (codes "<!") refl (omega arith) g
    either false (Some r) g h i = by_mark (codes "</") refl (omega arith) (ap is_found h)
    either false None g h i = cc

pub comment_long : (s : List ℕ) → begins_comment s ≡ true → 2 ≤ length s
comment_long s e = either (begins (codes "<?") s) refl
  where
    either : (a : Bool) → begins (codes "<?") s ≡ a → 2 ≤ length s
    either true f = begins_long (codes "<?") s f
    either false f = (second_byte s e f).0

-- a piece that is found from a place on begins there
pub starts_after : (s : List ℕ) (start n : ℕ) (cut : Option Cut) (found : Option MarkPiece) → Finds s (start + n) cut found → n ≡ comment_front (drop start s) → IfSome found (λ piece. piece.from ≡ start + comment_front (drop start s))
starts_after s start n cut None h e = tt
starts_after s start n cut (Some p) h e = h.starts ∙ ap (λ m. start + m) e

-- The piece that is found gives the comment.
module _ (s : List ℕ) (start : ℕ) where
  abbrev Piece_at : Option MarkPiece → Type 0
  Piece_at found = MatchOption found (comment_at (drop start s) ≡ None) (IsFoundAfter s start (comment_at (drop start s)))

  -- by a cut from a place on that stands after an ASCII byte
  from_place : (from : ℕ) (cut : Option Cut) (found : Option MarkPiece) → start < from → get_or s (from - 1) 0 < 128 → comment_at (drop start s) ≡ cut → Finds s from cut found → Piece_at found
  from_place from cut None beyond ascii same h = same ∙ h
  from_place from cut (Some p) beyond ascii same h = rw same (found_after s start from cut p beyond ascii h)

  byte_at : (n d : ℕ) → get_or (drop start s) n 0 ≡ d → get_or s (start + n) 0 ≡ d
  byte_at n d e = sym (get_or-drop start s n 0) ∙ e

  pub question_piece : (found : Option MarkPiece) → begins (codes "<?") (drop start s) ≡ true → Finds s (start + 1) (cut_at (codes ">") (drop (start + 1) s)) found → Piece_at found
  question_piece found e h =
      let first : get_or s (start + 0) 0 ≡ 60 = byte_at 0 60 (begins_reads (codes "<?") (drop start s) e 0 (omega arith)) in
      let place : start + 1 - 1 ≡ start + 0 = omega arith in
      from_place (start + 1) (cut_at (codes ">") (drop (start + 1) s)) found (omega arith) (rw (place, first) (omega arith)) (rw (e, drop-drop 1 start s) refl) h

  pub dashes_piece : (found : Option MarkPiece) → begins (codes "<?") (drop start s) ≡ false → begins (codes "<!--") (drop start s) ≡ true → Finds s (start + 4) (cut_comment (drop (start + 4) s)) found → Piece_at found
  dashes_piece found e f h =
      let last : get_or s (start + 3) 0 ≡ 45 = byte_at 3 45 (begins_reads (codes "<!--") (drop start s) f 3 (omega arith)) in
      let place : start + 4 - 1 ≡ start + 3 = omega arith in
      from_place (start + 4) (cut_comment (drop (start + 4) s)) found (omega arith) (rw (place, last) (omega arith)) (rw (e, f, drop-drop 4 start s) refl) h

  pub bogus_piece : (found : Option MarkPiece) → begins_comment (drop start s) ≡ true → begins (codes "<?") (drop start s) ≡ false → begins (codes "<!--") (drop start s) ≡ false → Finds s (start + 2) (cut_at (codes ">") (drop (start + 2) s)) found → Piece_at found
  bogus_piece found b e f h =
      let second : get_or s (start + 1) 0 < 128 = rw (get_or-drop start s 1 0) at (second_byte (drop start s) b e).1 in
      let place : start + 2 - 1 ≡ start + 1 = omega arith in
      from_place (start + 2) (cut_at (codes ">") (drop (start + 2) s)) found (omega arith) (rw place second) (rw (e, f, drop-drop 2 start s) refl) h
