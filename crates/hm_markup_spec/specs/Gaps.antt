-- Whitespace and words of markup.
use Rattle.std.specs.Prelude.{◌≡◌, ℕ, Bool, not, ◌&&◌, List, map}
use Rattle.hm_base.specs.Bytes.{is_null, lower}
use Rattle.hm_base.specs.Forms.{is_blank}

-- whitespace, and at least one byte of it where it is needed
unfoldable pub is_gap : Bool → List ℕ → Bool
is_gap needed s = is_blank s && not (needed && is_null s)

-- the word in some ASCII case
abbrev pub IsWord : List ℕ → List ℕ → Type 0
IsWord word s = map lower s ≡ word
