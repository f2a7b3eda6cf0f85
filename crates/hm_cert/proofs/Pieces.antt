-- The pieces of a text between bytes, cut at the first of these bytes.
use Rattle.std.proofs.Common.{◌≡◌, ◌+◌, ◌<◌, ℕ, zero, suc, ◌==◌, Bool, true, false, cond, List, [], ◌∷◌, get_or, length, take, drop, refl, ap, ◌∙◌, add-one, arith}
use Rattle.std.specs.List.{slice_split, onto_first}
use Rattle.std.proofs.lemmas.Bool.{false_from_ne_true}
use Rattle.std.proofs.lemmas.List.Splits.{slice_split-cons_yes, slice_split-cons_no}
use Rattle.memchr.specs.Find.{IsFirstByte, is_byte}
use Rattle.std.specs.Prelude.{Some, None}
use Rattle.hm_cert.specs.Reading.{pieces}

cut_here : (p : ℕ → Bool) (text : List ℕ) (k : ℕ) → k < length text → p (get_or text k 0) ≡ true → ((j : ℕ) → j < k → p (get_or text j 0) ≡ false) → slice_split p text ≡ take k text ∷ slice_split p (drop (suc k) text)
cut_here p [] k h here none = absurd (omega arith)
cut_here p (b ∷ text) zero h here none = slice_split-cons_yes p b text here
cut_here p (b ∷ text) (suc k) h here none =
    slice_split-cons_no p b text (none 0 (omega arith))
    ∙ ap (onto_first b) (cut_here p text k (omega arith) here (λ j l. none (suc j) (omega arith)))

whole : (p : ℕ → Bool) (text : List ℕ) → ((j : ℕ) → j < length text → p (get_or text j 0) ≡ false) → slice_split p text ≡ text ∷ []
whole p [] none = refl
whole p (b ∷ text) none =
    slice_split-cons_no p b text (none 0 (omega arith))
    ∙ ap (onto_first b) (whole p text (λ j l. none (suc j) (omega arith)))

-- where the mark is found
pub pieces_cut : (mark : ℕ) (text : List ℕ) (k : ℕ) → IsFirstByte (is_byte mark) text (Some k) → pieces mark text ≡ take k text ∷ pieces mark (drop (k + 1) text)
pieces_cut mark text k h = rw add-one (cut_here (is_byte mark) text k h.0.high h.1 (λ j l. false_from_ne_true _ (h.0.before j (omega arith) l)))

-- where there is none
pub pieces_whole : (mark : ℕ) (text : List ℕ) → IsFirstByte (is_byte mark) text None → pieces mark text ≡ text ∷ []
pieces_whole mark text h = whole (is_byte mark) text (λ j l. false_from_ne_true _ (h j (omega arith) l))

-- there is always a piece
pub one_piece : (mark : ℕ) (text : List ℕ) → (first : List ℕ) × ((more : List (List ℕ)) × (pieces mark text ≡ first ∷ more))
one_piece mark [] = ([], ([], refl))
one_piece mark (b ∷ text) =
    let r = one_piece mark text in
    elim (b == mark) as (λ t. (first : List ℕ) × ((more : List (List ℕ)) × (cond t ([] ∷ pieces mark text) (onto_first b (pieces mark text)) ≡ first ∷ more))) [ true ↦ ([], (pieces mark text, refl)) | false ↦ (b ∷ r.0, (r.1.0, ap (onto_first b) r.1.1)) ]
