-- Generated pages: each is made from a number, with `size` blocks.
use Rattle.std.specs.Prelude.{ℕ, zero, suc, ◌+◌, ◌*◌, ◌/◌, ◌%◌, ◌^◌, List, [], ◌++◌, codes}
use Rattle.std.specs.Fmt.{decimal}
use Rattle.hm_measure_page.specs.declared.block.Block.{Block}
use Rattle.hm_measure_page.specs.declared.block.Block.TheVariants.{Paragraph, Items, Table, Titled}

-- ---- The sequence of a linear congruential generator

-- the number after x in the sequence
abbrev pub next : ℕ → ℕ
next x = (x * 1103515245 + 12345) % 2 ^ 31

-- its first number is that of the page, and then comes one for each block
abbrev pub chance : ℕ → ℕ → ℕ
chance number zero = number % 2 ^ 31
chance number (suc k) = next (chance number k)

-- ---- Blocks

-- the kinds of blocks, by number
abbrev pub block_at : ℕ → Block
block_at zero = Paragraph
block_at (suc zero) = Items
block_at (suc (suc zero)) = Table
block_at n = Titled

-- the block that a number of the sequence chooses
abbrev pub chosen : ℕ → Block
chosen x = block_at (x / 65536 % 4)

-- a block that shows a number, and the end of its line
abbrev pub line : Block → ℕ → List ℕ
line Paragraph k = codes "<p>Item " ++ (decimal k ++ codes " &amp; more</p>\n")
line Items k = codes "<ul><li>" ++ (decimal k ++ codes "</li><li>two</li></ul>\n")
line Table k = codes "<table><tr><td>" ++ (decimal k ++ codes "</td></tr></table>\n")
line Titled k = codes "<p title=\"a b\">" ++ (decimal k ++ codes "</p>\n")

-- ---- Pages

-- the blocks from the first to the one with this number
abbrev pub lines : ℕ → ℕ → List ℕ
lines number zero = []
lines number (suc k) = lines number k ++ line (chosen (chance number (suc k))) (suc k)

-- what stands before the blocks: the title shows the page's number
abbrev pub heading : ℕ → List ℕ
heading number = codes "<!doctype html><title>" ++ (decimal number ++ codes "</title>\n")

-- the page of a number, with `size` blocks
unfoldable pub page : ℕ → ℕ → List ℕ
page number size = heading number ++ lines number size
