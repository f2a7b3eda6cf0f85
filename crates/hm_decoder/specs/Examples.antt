-- Fronts of pages: what is decided of them, by computing.
use Rattle.std.specs.Prelude.{◌≡◌, ℕ, List, [], ◌∷◌, ◌++◌, Some, None, codes, refl}
use Rattle.std.specs.Str.{chars, is_utf8}
use Rattle.std.specs.Str.Lossy.{utf8_valid_len, utf8_error_len}
use lib.Utf8.{encode}
use Rattle.hm_base.specs.declared.rules.Rule.TheVariants.{TooLong, NotUtf8, Nul}
use Rattle.hm_base.specs.Source.{PlacedByte, refusal_at}
use Rattle.hm_decoder.specs.Fed.{decided, decided_len, lasting_fault}
use Rattle.hm_decoder.specs.Pieces.{fault_of_page, fault_so_far, grown}

abbrev at : ℕ → ℕ → PlacedByte
at c n = record { byte = c; place = n }

-- "é" and the first byte of another one
character_and_a_front : List ℕ
character_and_a_front = 97 ∷ 0xC3 ∷ 0xA9 ∷ 0xC3 ∷ []

-- ---- how many bytes are decided

return_is_open : decided_len (codes "a" ++ 13 ∷ []) ≡ 1
unfolding decided_len utf8_valid_len is_utf8 chars encode
return_is_open = refl

pair_is_decided : decided_len (codes "a" ++ 13 ∷ 10 ∷ []) ≡ 3
unfolding decided_len utf8_valid_len is_utf8 chars encode
pair_is_decided = refl

front_of_a_mark_is_open : decided_len (0xEF ∷ 0xBB ∷ []) ≡ 0
unfolding decided_len utf8_valid_len is_utf8 chars encode
front_of_a_mark_is_open = refl

front_of_a_character_is_open : decided_len character_and_a_front ≡ 3
unfolding decided_len utf8_valid_len is_utf8 chars encode character_and_a_front
front_of_a_character_is_open = refl

-- ---- which text

text_with_its_places : decided (codes "a" ++ 13 ∷ 10 ∷ codes "b" ++ 13 ∷ []) ≡ record { placed = at 97 0 ∷ at 10 1 ∷ at 98 3 ∷ []; end = 4 }
unfolding decided_len utf8_valid_len is_utf8 chars encode
text_with_its_places = refl

mark_is_no_text : decided (0xEF ∷ 0xBB ∷ 0xBF ∷ codes "x") ≡ record { placed = at 120 3 ∷ []; end = 4 }
unfolding decided_len utf8_valid_len is_utf8 chars encode
mark_is_no_text = refl

only_the_first_mark_is_dropped : grown (record { placed = at 120 3 ∷ []; end = 4 }) (0xEF ∷ 0xBB ∷ 0xBF ∷ []) ≡ record { placed = at 120 3 ∷ at 0xEF 4 ∷ at 0xBB 5 ∷ at 0xBF 6 ∷ []; end = 7 }
only_the_first_mark_is_dropped = refl

-- ---- which fault

unfinished_is_no_fault : lasting_fault character_and_a_front ≡ None
unfolding utf8_valid_len utf8_error_len is_utf8 chars encode character_and_a_front
unfinished_is_no_fault = refl

unfinished_at_the_end : fault_of_page 4 character_and_a_front ≡ Some (NotUtf8, 3)
unfolding utf8_valid_len is_utf8 chars encode character_and_a_front
unfinished_at_the_end = refl

not_utf8 : lasting_fault (codes "<b></i>" ++ 0xFF ∷ []) ≡ Some (refusal_at NotUtf8 7)
unfolding utf8_valid_len utf8_error_len is_utf8 chars encode
not_utf8 = refl

nul_before_it : lasting_fault (97 ∷ 0 ∷ 0xFF ∷ []) ≡ Some (refusal_at Nul 1)
unfolding utf8_valid_len utf8_error_len is_utf8 chars encode
nul_before_it = refl

too_long : fault_so_far 3 (codes "abcd") ≡ Some (TooLong, 3)
too_long = refl
