-- A whole page: its mark and its lines.
use Rattle.std.proofs.Common.{◌≡◌, ℕ, ◌+◌, Bool, true, false, List, [], ◌++◌, length, refl, sym, ap, ◌∙◌, arith, length-append}
use Rattle.hm_base.specs.Bytes.{all_pass}
use Rattle.hm_base.specs.Source.{PlacedByte, Source, is_text_byte, numbered, pairs_joined, returns_replaced, source_of, without_mark}
use Rattle.hm_base.specs.Places.{is_nonzero, mark_of, source_from, start_of, with_bytes, with_lines}
use Rattle.hm_base.proofs.Bytes.{all_pass_second}
use Rattle.hm_base.proofs.Lines.{with_lines_last}
use Rattle.hm_base.proofs.Places.{same_source, source_at, source_from-append}

length-mark_of : (b : Bool) → length (mark_of b) ≡ start_of b
length-mark_of true = refl
length-mark_of false = refl

pub length_marked : (b : Bool) (page rest : List ℕ) → page ≡ mark_of b ++ rest → length page ≡ start_of b + length rest
length_marked b page rest e = omega (arith, ap length e, length-append (mark_of b) rest, length-mark_of b)

pub marked_rest : (b : Bool) (page rest : List ℕ) → page ≡ mark_of b ++ rest → all_pass is_nonzero page ≡ true → all_pass is_nonzero rest ≡ true
marked_rest b page rest e h = all_pass_second is_nonzero (mark_of b) rest (rw (sym e) h)

-- a text that has no bytes yet
pub source_from_start : (start : ℕ) (pairs text : List ℕ) → pairs ≡ [] → text ≡ [] → source_from start pairs text ≡ record { placed = []; end = start }
unfolding source_from
source_from_start start pairs text e f =
    let none : start + length text + length pairs ≡ start = omega (arith, ap length e, ap length f) in
    same_source _ _ _ _ (rw (e, f) refl) none

-- after the mark come the lines
pub source_of_lines : (b : Bool) (page rest : List ℕ) → page ≡ mark_of b ++ rest → without_mark (numbered 0 page) ≡ numbered (start_of b) rest → with_lines (record { placed = []; end = start_of b }) rest ≡ source_of page
source_of_lines b page rest e places =
    same_source _ _ _ _ (ap (λ (s : List PlacedByte). returns_replaced (pairs_joined s)) (sym places)) (sym (length_marked b page rest e))

-- a text that stands in its page as it is
pub source_of_own : (page pairs : List ℕ) → pairs ≡ [] → without_mark (numbered 0 page) ≡ numbered 0 page → all_pass is_text_byte page ≡ true → source_from 0 pairs page ≡ source_of page
source_of_own page pairs e places plain =
    let empty : source_from 0 [] [] ≡ source_at [] 0 = source_from_start 0 [] [] refl refl in
    let after : source_from 0 [] page ≡ with_bytes (source_from 0 [] []) page = source_from-append 0 [] [] page (λ k d l. absurd (omega arith)) in
    let lines : with_bytes (source_at [] 0) page ≡ with_lines (source_at [] 0) page = with_lines_last (source_at [] 0) page plain in
    rw e (after ∙ ap (λ (v : Source). with_bytes v page) empty ∙ lines ∙ source_of_lines false page page refl places)
