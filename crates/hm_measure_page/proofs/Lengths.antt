-- How many bytes generated pages have.
use Rattle.std.proofs.Common.{ℕ, zero, suc, ◌*◌, ◌^◌, ◌<◌, ◌≤◌, List, codes, length, length-append, arith}
use Rattle.std.specs.Fmt.{decimal}
use Rattle.std.proofs.lemmas.Fmt.{length-decimal-le}
use Rattle.hm_measure_page.specs.declared.block.Block.{Block}
use Rattle.hm_measure_page.specs.declared.block.Block.TheVariants.{Paragraph, Items, Table, Titled}
use Rattle.hm_measure_page.specs.Pages.{chance, chosen, heading, line, lines, page}
use Rattle.hm_measure_page.specs.Laws.{PagesAreShort, PagesAreWithinLimit}

ten_digits : (n : ℕ) → n < 2 ^ 32 → length (decimal n) ≤ 10
ten_digits n h = length-decimal-le 10 n (omega arith) (omega arith) (omega arith)

line_bytes : (b : Block) (k : ℕ) → length (decimal k) ≤ 10 → length (line b k) ≤ 44
line_bytes Paragraph k h = omega (arith, length-append (decimal k) (codes " &amp; more</p>\n"))
line_bytes Items k h = omega (arith, length-append (decimal k) (codes "</li><li>two</li></ul>\n"))
line_bytes Table k h = omega (arith, length-append (decimal k) (codes "</td></tr></table>\n"))
line_bytes Titled k h = omega (arith, length-append (decimal k) (codes "</p>\n"))

lines_bytes : (number size : ℕ) → size < 2 ^ 32 → length (lines number size) ≤ 44 * size
lines_bytes number zero h = omega arith
lines_bytes number (suc k) h =
    let last : List ℕ = line (chosen (chance number (suc k))) (suc k) in
    let before : length (lines number k) ≤ 44 * k = lines_bytes number k (omega arith) in
    let more : length last ≤ 44 = line_bytes (chosen (chance number (suc k))) (suc k) (ten_digits (suc k) h) in
    omega (arith, length-append (lines number k) last)

heading_bytes : (number : ℕ) → number < 2 ^ 32 → length (heading number) ≤ 41
heading_bytes number h = omega (arith, ten_digits number h, length-append (decimal number) (codes "</title>\n"))

pub pages_are_short : PagesAreShort
unfolding page
pages_are_short number size h k = omega (arith, length-append (heading number) (lines number size), heading_bytes number h, lines_bytes number size k)

pub pages_are_within_limit : PagesAreWithinLimit
pages_are_within_limit number size h k = omega (arith, pages_are_short number size h (omega arith))
