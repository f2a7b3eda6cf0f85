-- Names by their length and first byte. These set most names in pages apart from those that a rule of tags names.
use Rattle.std.specs.Prelude.{ℕ, Bool, false, ◌||◌, ◌==◌, List, [], ◌∷◌}

-- a name like those of void elements
abbrev pub like_void : List ℕ → Bool
like_void (a ∷ b ∷ []) = a == 98 || a == 104
like_void (a ∷ b ∷ c ∷ []) = a == 99 || (a == 105 || a == 119)
like_void (a ∷ b ∷ c ∷ d ∷ []) = a == 97 || (a == 98 || (a == 108 || a == 109))
like_void (a ∷ b ∷ c ∷ d ∷ e ∷ []) = a == 101 || (a == 105 || (a == 112 || a == 116))
like_void (a ∷ b ∷ c ∷ d ∷ e ∷ f ∷ []) = a == 115
like_void n = false

-- a name like those of html, head and body, of colgroup, and of the sections of a table
abbrev pub like_part : List ℕ → Bool
like_part (a ∷ b ∷ c ∷ d ∷ []) = a == 104 || a == 98
like_part (a ∷ b ∷ c ∷ d ∷ e ∷ []) = a == 116
like_part (a ∷ b ∷ c ∷ d ∷ e ∷ f ∷ g ∷ h ∷ []) = a == 99
like_part n = false

-- a name like those of elements whose end tag may be left out
abbrev pub like_ended : List ℕ → Bool
like_ended (a ∷ []) = a == 112
like_ended (a ∷ b ∷ []) = a == 116 || (a == 108 || (a == 100 || a == 114))
like_ended (a ∷ b ∷ c ∷ d ∷ []) = a == 104 || a == 98
like_ended (a ∷ b ∷ c ∷ d ∷ e ∷ []) = a == 116
like_ended (a ∷ b ∷ c ∷ d ∷ e ∷ f ∷ []) = a == 111
like_ended (a ∷ b ∷ c ∷ d ∷ e ∷ f ∷ g ∷ []) = a == 99
like_ended (a ∷ b ∷ c ∷ d ∷ e ∷ f ∷ g ∷ h ∷ []) = a == 99 || a == 111
like_ended n = false
