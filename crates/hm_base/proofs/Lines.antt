-- Line ends: a text is made of lines, pieces without CR, each joined to the next by its line end.
use Rattle.std.proofs.Common.{◌≡◌, ℕ, suc, ◌+◌, ◌<◌, ◌≢◌, true, false, List, [], ◌∷◌, ◌++◌, length, get_or, refl, sym, ap, ◌∙◌, arith, add-zero, append_assoc, length-append, nat_eq}
use Rattle.std.proofs.lemmas.Bool.Decides.{nat_tests}
use Rattle.std.proofs.lemmas.List.{append-nil}
use Rattle.hm_base.specs.Bytes.{all_pass}
use Rattle.hm_base.specs.Source.{PlacedByte, Source, numbered, pairs_joined, returns_replaced, is_text_byte}
use Rattle.hm_base.specs.Places.{is_nonzero, with_bytes, with_pair, with_lines}
use Rattle.hm_base.proofs.Bytes.{both_true, first_true, second_true}
use Rattle.hm_base.proofs.Places.{placed_at, same_source}

-- what is left of a page from the place n on, its line ends as LF
abbrev lines : ℕ → List ℕ → List PlacedByte
lines n s = returns_replaced (pairs_joined (numbered n s))

not_return : (c : ℕ) → is_text_byte c ≡ true → nat_eq c 13 ≡ false
not_return c h = grind (arith, nat_tests)

not_feed : (c : ℕ) → c ≢ 10 → nat_eq c 10 ≡ false
not_feed c h = grind (arith, nat_tests)

text_byte : (c : ℕ) → is_nonzero c ≡ true → c ≢ 13 → is_text_byte c ≡ true
text_byte c h k =
    let other : nat_eq c 13 ≡ false = grind (arith, nat_tests) in
    rw (h, other) refl

-- a byte other than CR stays, whatever follows
kept : (c n : ℕ) (s : List ℕ) → nat_eq c 13 ≡ false → lines n (c ∷ s) ≡ placed_at c n ∷ lines (n + 1) s
kept c n [] h = rw h refl
kept c n (d ∷ s) h = rw h (rw h refl)

-- bytes without CR stay, with their places
pub lines_line : (n : ℕ) (line s : List ℕ) → all_pass is_text_byte line ≡ true → lines n (line ++ s) ≡ numbered n line ++ lines (n + length line) s
lines_line n [] s h = rw add-zero refl
lines_line n (c ∷ line) s h =
    let next : n + 1 + length line ≡ n + suc (length line) = omega arith in
    kept c n (line ++ s) (not_return c (first_true (is_text_byte c) (all_pass is_text_byte line) h))
    ∙ ap (λ r. placed_at c n ∷ r) (lines_line (n + 1) line s (second_true (is_text_byte c) (all_pass is_text_byte line) h) ∙ ap (λ m. numbered (n + 1) line ++ lines m s) next)

lines_pair : (n : ℕ) (s : List ℕ) → lines n (13 ∷ 10 ∷ s) ≡ placed_at 10 n ∷ lines (n + 2) s
lines_pair n s =
    let next : n + 1 + 1 ≡ n + 2 = omega arith in
    ap (λ m. placed_at 10 n ∷ lines m s) next

lines_return : (n : ℕ) (s : List ℕ) → ((rest : List ℕ) → s ≢ 10 ∷ rest) → lines n (13 ∷ s) ≡ placed_at 10 n ∷ lines (n + 1) s
lines_return n [] h = refl
lines_return n (c ∷ s) h =
    let other : nat_eq c 10 ≡ false = not_feed c (λ e. h s (rw e refl)) in
    rw other refl

-- a line and its CR LF
pub with_lines_pair : (source : Source) (line next : List ℕ) → all_pass is_text_byte line ≡ true → with_lines (with_pair (with_bytes source line)) next ≡ with_lines source (line ++ 13 ∷ 10 ∷ next)
with_lines_pair source line next h =
    let n = source.end in
    same_source _ _ _ _
    (simp append_assoc refl ∙ ap (λ r. source.placed ++ r) (sym (lines_line n line (13 ∷ 10 ∷ next) h ∙ ap (λ r. numbered n line ++ r) (lines_pair (n + length line) next))))
    (omega (arith, length-append line (13 ∷ 10 ∷ next)))

-- a line and its CR
pub with_lines_return : (source : Source) (line after : List ℕ) → all_pass is_text_byte line ≡ true → ((rest : List ℕ) → after ≢ 10 ∷ rest) → with_lines (with_bytes (with_bytes source line) (10 ∷ [])) after ≡ with_lines source (line ++ 13 ∷ after)
with_lines_return source line after h other =
    let n = source.end in
    same_source _ _ _ _
    (simp append_assoc refl ∙ ap (λ r. source.placed ++ r) (sym (lines_line n line (13 ∷ after) h ∙ ap (λ r. numbered n line ++ r) (lines_return (n + length line) after other))))
    (omega (arith, length-append line (13 ∷ after)))

-- the last line, which has no CR
pub with_lines_last : (source : Source) (line : List ℕ) → all_pass is_text_byte line ≡ true → with_bytes source line ≡ with_lines source line
with_lines_last source line h =
    let n = source.end in
    same_source _ _ _ _
    (ap (λ r. source.placed ++ r) (sym (ap (lines n) (sym (append-nil line)) ∙ lines_line n line [] h ∙ append-nil (numbered n line))))
    refl

-- a piece of a page without zero bytes and without CR
pub text_bytes : (line : List ℕ) → all_pass is_nonzero line ≡ true → ((i : ℕ) → i < length line → get_or line i 0 ≢ 13) → all_pass is_text_byte line ≡ true
text_bytes [] h k = refl
text_bytes (c ∷ line) h k =
    both_true (is_text_byte c) (all_pass is_text_byte line)
    (text_byte c (first_true (is_nonzero c) (all_pass is_nonzero line) h) (k 0 (omega arith)))
    (text_bytes line (second_true (is_nonzero c) (all_pass is_nonzero line) h) (λ i l. k (suc i) (omega arith)))
