-- Generated pages are ASCII, without zero byte and CR.
use Rattle.std.proofs.Common.{◌≡◌, ℕ, zero, suc, ◌+◌, ◌%◌, ◌^◌, ◌<◌, true, List, [], ◌∷◌, codes, refl, arith}
use Rattle.std.specs.Fmt.{decimal}
use Rattle.std.proofs.lemmas.Bool.Decides.{nat_tests}
use Rattle.std.proofs.lemmas.Fmt.{decimal_by_steps}
use Rattle.hm_base.specs.Bytes.{all_pass}
use Rattle.hm_base.proofs.Bytes.{all_pass-append}
use Rattle.hm_measure_page.specs.declared.block.Block.{Block}
use Rattle.hm_measure_page.specs.declared.block.Block.TheVariants.{Paragraph, Items, Table, Titled}
use Rattle.hm_measure_page.specs.Pages.{chance, chosen, heading, line, lines, page}
use Rattle.hm_measure_page.specs.Laws.{is_plain, PagesArePlain}

plain_digit : (n : ℕ) → n < 10 → is_plain (48 + n) ≡ true
plain_digit n h = grind (arith, nat_tests)

plain_digits : (n : ℕ) → n < 10 → all_pass is_plain ((48 + n) ∷ []) ≡ true
plain_digits n h = rw (plain_digit n h) refl

plain_decimal : (n : ℕ) → n < 2 ^ 64 → all_pass is_plain (decimal n) ≡ true
plain_decimal n h =
    let P : ℕ → List ℕ → Type 0 = λ m ds. all_pass is_plain ds ≡ true in
    decimal_by_steps P plain_digits (λ m ds low before. all_pass-append is_plain ds ((48 + m % 10) ∷ []) before (plain_digits (m % 10) (omega arith))) n h

plain_line : (b : Block) (k : ℕ) → all_pass is_plain (decimal k) ≡ true → all_pass is_plain (line b k) ≡ true
plain_line Paragraph k h = all_pass-append is_plain (decimal k) (codes " &amp; more</p>\n") h refl
plain_line Items k h = all_pass-append is_plain (decimal k) (codes "</li><li>two</li></ul>\n") h refl
plain_line Table k h = all_pass-append is_plain (decimal k) (codes "</td></tr></table>\n") h refl
plain_line Titled k h = all_pass-append is_plain (decimal k) (codes "</p>\n") h refl

plain_lines : (number size : ℕ) → size < 2 ^ 32 → all_pass is_plain (lines number size) ≡ true
plain_lines number zero h = refl
plain_lines number (suc k) h =
    all_pass-append is_plain (lines number k) (line (chosen (chance number (suc k))) (suc k))
    (plain_lines number k (omega arith))
    (plain_line (chosen (chance number (suc k))) (suc k) (plain_decimal (suc k) (omega arith)))

plain_heading : (number : ℕ) → number < 2 ^ 32 → all_pass is_plain (heading number) ≡ true
plain_heading number h = all_pass-append is_plain (decimal number) (codes "</title>\n") (plain_decimal number (omega arith)) refl

pub pages_are_plain : PagesArePlain
unfolding page
pages_are_plain number size h k = all_pass-append is_plain (heading number) (lines number size) (plain_heading number h) (plain_lines number size k)
