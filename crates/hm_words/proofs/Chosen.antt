-- What the flags of a table set, row by row.
use Rattle.std.proofs.Common.{◌≡◌, ◌∙◌, ◌+◌, ◌<◌, ℕ, suc, Bool, [], arith, true, sym, ap, List, ◌∷◌, length, drop, fold}
use Rattle.std.specs.List.{list_all}
use Rattle.std.proofs.Math.ListN.{get_or}
use Rattle.std.proofs.Math.Seq.{drop-cons}
use Rattle.hm_base.proofs.Bytes.{first_true, second_true}
use Rattle.hm_words.specs.Answers.{set_by}
use Rattle.hm_words.specs.Words.{dashed, flags, has, set}
use Rattle.hm_words.specs.declared.flags.Choices.{Choices}
use Rattle.hm_words.specs.declared.flags.Flag.{Flag}

-- each of these rows is one of the table of flags
abbrev are_rows : List Flag → Bool
are_rows rows = list_all (λ (row : Flag). has flags (dashed row.name.now)) rows

first_row : (rows : List Flag) (i : ℕ) (d : Flag) → i < length rows → drop i rows ≡ get_or rows i d ∷ drop (i + 1) rows
first_row rows i d h =
    let next : suc i ≡ i + 1 = omega arith in
    drop-cons rows i d h ∙ ap (λ k. get_or rows i d ∷ drop k rows) next

known_at : (rows : List Flag) (i : ℕ) (d : Flag) → i < length rows → are_rows (drop i rows) ≡ true → are_rows (get_or rows i d ∷ drop (i + 1) rows) ≡ true
known_at rows i d h known = ap are_rows (sym (first_row rows i d h)) ∙ known

pub first_known : (rows : List Flag) (i : ℕ) (d : Flag) → i < length rows → are_rows (drop i rows) ≡ true → has flags (dashed (get_or rows i d).name.now) ≡ true
first_known rows i d h known = first_true _ _ (known_at rows i d h known)

pub rest_known : (rows : List Flag) (i : ℕ) → i < length rows → are_rows (drop i rows) ≡ true → are_rows (drop (i + 1) rows) ≡ true
rest_known [] i h known = absurd (omega (arith, h))
rest_known (row ∷ rows) i h known = second_true _ _ (known_at (row ∷ rows) i row h known)

-- what is set next by a row
pub rest_chosen : (ws : List (List ℕ)) (rows : List Flag) (i : ℕ) (d : Flag) (given : Bool) (old new wanted : Choices) → i < length rows → new ≡ set (get_or rows i d).setting given old → given ≡ has ws (dashed (get_or rows i d).name.now)
    → fold (set_by ws) old (drop i rows) ≡ wanted → fold (set_by ws) new (drop (i + 1) rows) ≡ wanted
rest_chosen ws rows i d given old new wanted h is told chosen =
    let one : new ≡ set_by ws old (get_or rows i d) = is ∙ ap (λ g. set (get_or rows i d).setting g old) told in
    let all : fold (set_by ws) old (get_or rows i d ∷ drop (i + 1) rows) ≡ wanted = ap (fold (set_by ws) old) (sym (first_row rows i d h)) ∙ chosen in
    ap (λ c. fold (set_by ws) c (drop (i + 1) rows)) one ∙ all
