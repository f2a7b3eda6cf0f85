-- Lines, columns and shown lines, on examples.
use Rattle.std.specs.Prelude.{◌≡◌, [], ◌∷◌, ◌++◌, codes, refl}
use Rattle.std.specs.Fmt.{char_count}
use Rattle.hm_location.specs.Lines.{column_of, columns, line_of}
use Rattle.hm_location.specs.Shown.{front_shown, rest_shown, shown_after}

-- "a", CR LF, "b", CR, "c", LF, "d": the bytes that end a line are of it
pub third_line : line_of (97 ∷ 13 ∷ 10 ∷ 98 ∷ 13 ∷ 99 ∷ 10 ∷ 100 ∷ []) 5 ≡ 3
unfolding line_of
third_line = refl

pub pair_is_one_end : line_of (97 ∷ 13 ∷ 10 ∷ 98 ∷ 13 ∷ 99 ∷ 10 ∷ 100 ∷ []) 3 ≡ 2
unfolding line_of
pair_is_one_end = refl

pub feed_of_a_pair : line_of (97 ∷ 13 ∷ 10 ∷ 98 ∷ 13 ∷ 99 ∷ 10 ∷ 100 ∷ []) 2 ≡ 1
unfolding line_of
feed_of_a_pair = refl

pub after_the_last_end : line_of (97 ∷ 10 ∷ []) 2 ≡ 2
unfolding line_of
after_the_last_end = refl

-- two bytes of one character, and a byte that is none
pub characters_are_counted : column_of (97 ∷ 195 ∷ 169 ∷ 98 ∷ []) 3 ≡ 3
unfolding column_of columns char_count
characters_are_counted = refl

pub at_a_stray_byte : column_of (10 ∷ 195 ∷ 169 ∷ 128 ∷ []) 3 ≡ 2
unfolding column_of columns char_count
at_a_stray_byte = refl

pub first_column : column_of (97 ∷ 13 ∷ 10 ∷ 98 ∷ []) 3 ≡ 1
unfolding column_of columns char_count
first_column = refl

pub mark_is_not_counted : column_of (0xEF ∷ 0xBB ∷ 0xBF ∷ 97 ∷ []) 4 ≡ 2
unfolding column_of columns char_count
mark_is_not_counted = refl

-- a line is shown without its end, and the LF of a pair at the CR
pub line_is_shown : front_shown (codes "ab\ncdef\ng") 5 ++ rest_shown (codes "ab\ncdef\ng") 5 ≡ codes "cdef"
unfolding front_shown rest_shown shown_after
line_is_shown = refl

pub shown_at_the_return : front_shown (97 ∷ 13 ∷ 10 ∷ 98 ∷ []) 2 ++ rest_shown (97 ∷ 13 ∷ 10 ∷ 98 ∷ []) 2 ≡ 97 ∷ []
unfolding front_shown rest_shown shown_after
shown_at_the_return = refl

pub character_is_not_cut : shown_after 2 (97 ∷ 195 ∷ 169 ∷ 98 ∷ []) ≡ 97 ∷ []
unfolding shown_after
character_is_not_cut = refl
