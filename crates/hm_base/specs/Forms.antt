-- Forms of names and texts.
use Rattle.std.specs.Prelude.{ℕ, Bool, false, not, ◌&&◌, ◌||◌, ◌==◌, nat_le, List, [], ◌∷◌, codes}
use Rattle.hm_base.specs.Bytes.{is_space, is_digit, all_pass, some_passes, is_null, strip}
use Rattle.hm_base.specs.RawText.{is_found}

-- the byte is this one
abbrev pub is_byte : ℕ → ℕ → Bool
is_byte d c = c == d

abbrev pub has_byte : ℕ → List ℕ → Bool
has_byte d s = some_passes (is_byte d) s

-- the mark stands somewhere in the text
abbrev pub has_mark : List ℕ → List ℕ → Bool
has_mark mark [] = false
has_mark mark (c ∷ s) = is_found (strip mark (c ∷ s)) || has_mark mark s

-- an ASCII lowercase letter
unfoldable pub is_small : ℕ → Bool
is_small c = nat_le 97 c && nat_le c 122

-- a lowercase letter, a digit, '.', '_', ':' or '-'
unfoldable pub is_tag_byte : ℕ → Bool
is_tag_byte c = is_small c || is_digit c || c == 46 || c == 95 || c == 58 || c == 45

-- the names of elements that are read: a lowercase letter, and bytes as above
unfoldable pub is_tag_name : List ℕ → Bool
is_tag_name [] = false
is_tag_name (c ∷ s) = is_small c && all_pass is_tag_byte s

-- neither an ASCII uppercase letter nor whitespace, '/', '>', '=', a quote, '<' or a zero byte
unfoldable pub is_attribute_byte : ℕ → Bool
is_attribute_byte c = not ((nat_le 65 c && nat_le c 90) || is_space c || c == 47 || c == 62 || c == 61 || c == 34 || c == 39 || c == 60 || c == 0)

-- the names of attributes in a tree
unfoldable pub is_attribute_name : List ℕ → Bool
is_attribute_name s = not (is_null s) && all_pass is_attribute_byte s

-- only whitespace
abbrev pub is_blank : List ℕ → Bool
is_blank s = all_pass is_space s

-- Texts that stand between `<!--` and `-->` as they are: without CR, `-->` and `--!>`, and with neither `>` nor `->` at
-- the start.
unfoldable pub is_comment_text : List ℕ → Bool
is_comment_text s =
    not (has_byte 13 s) && not (is_found (strip (codes ">") s)) && not (is_found (strip (codes "->") s))
    && not (has_mark (codes "-->") s) && not (has_mark (codes "--!>") s)
