-- The forms of a value: without quotes, in double quotes, in single quotes. What a value and all that follows it take in one
-- form, beside what they take in another.
use Rattle.std.specs.Prelude.{ℕ, Bool, true, false, not, ◌&&◌, ◌||◌, ◌==◌, nat_lt, List, [], ◌∷◌, length, Option, Some, None, if◌then◌else◌, bytes_eq}
use Rattle.std.specs.List.{list_any, list_all}
use Rattle.hm_refs.specs.Names.{Entry, is_closed, last_is}
use Rattle.hm_spelling_spec.specs.Characters.{may_stand_in}
use Rattle.hm_graph_laws.specs.States.{Where, in_unquoted, value_spot}
use Rattle.hm_graph_laws.specs.Units.{next_of}

-- Whether a character may stand as itself in a form. CR never does.
abbrev pub stands : Where → ℕ → Bool
stands form c = not (c == 13) && may_stand_in (value_spot form) c

-- whether each character of a value that may stand as itself in the other form may do so in this one
abbrev pub covers : Where → Where → List ℕ → Bool
covers form other v = list_all (λ c. stands form c || not (stands other c)) v

-- ---- Characters whose references are costly

-- LF, FF, SPACE, quotes, '<', '=', '>' and the grave accent: the best number of each has four bytes or more. (TAB has `&#9`.)
abbrev pub may_be_costly : ℕ → Bool
may_be_costly c = c == 10 || (c == 12 || (c == 32 || (c == 34 || (c == 39 || (c == 60 || (c == 61 || (c == 62 || c == 96)))))))

abbrev pub is_second : ℕ → List ℕ → Bool
is_second c (a ∷ b ∷ []) = b == c
is_second c points = false

abbrev pub gives_both : ℕ → Option ℕ → List ℕ → Bool
gives_both c None points = false
gives_both c (Some d) points = bytes_eq points (c ∷ d ∷ [])

-- a name by which c is cheap before `next`: one of fewer than four bytes, one that gives it as the second of two code points, or
-- one that gives the two
abbrev pub makes_cheap : ℕ → Option ℕ → Entry → Bool
makes_cheap c next e = (bytes_eq e.points (c ∷ []) && nat_lt (length e.name) 4) || (is_second c e.points || gives_both c next e.points)

-- a name without ';' whose last code point is c
abbrev pub leaves_open : ℕ → Entry → Bool
leaves_open c e = not (is_closed e.name) && last_is c e.points

abbrev pub may_leave_open : List Entry → Option ℕ → Bool
may_leave_open t None = false
may_leave_open t (Some c) = list_any (leaves_open c) t

-- Whether each reference to c has at least three bytes more than c itself, where c stands between these two, and c as itself
-- breaks nothing that the '&' of a reference wouldn't break: '=' would end no name without ';'.
abbrev pub is_costly : List Entry → Option ℕ → ℕ → Option ℕ → Bool
is_costly t previous c next = may_be_costly c && (not (list_any (makes_cheap c next) t) && not (c == 61 && may_leave_open t previous))

-- whether a costly character of the value may be written as itself in this form, and not in the other
abbrev pub gains_after : List Entry → Where → Where → Option ℕ → List ℕ → Bool
gains_after t form other previous [] = false
gains_after t form other previous (c ∷ v) = (stands form c && (not (stands other c) && is_costly t previous c (next_of v))) || gains_after t form other (Some c) v

abbrev pub gains : List Entry → Where → Where → List ℕ → Bool
gains t form other v = gains_after t form other None v

-- ---- How many bytes

-- A value without quotes saves the closing one, but a gap after it may have a byte more. So in place of the form without
-- quotes each form takes at most one byte more, and in place of a form in quotes none.
abbrev pub added : Where → ℕ
added in_unquoted = 1
added at = 0

abbrev pub saved : Bool → ℕ
saved b = if b then 3 else 0
