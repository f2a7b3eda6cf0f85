-- Pages and their texts, computed.
use Rattle.std.specs.Prelude.{◌≡◌, ℕ, List, [], ◌∷◌, ◌++◌, Some, None, codes, refl}
use Rattle.std.specs.Str.{chars, is_utf8}
use Rattle.std.specs.Str.Lossy.{utf8_valid_len}
use lib.Utf8.{encode}
use Rattle.hm_base.specs.declared.rules.Rule.TheVariants.{NotUtf8, Nul}
use Rattle.hm_base.specs.Source.{placed_text, place_in, refusal_at, text_fault, text_of}

doctype : List ℕ
doctype = codes "<!doctype html>"

page : List ℕ
page = 0xEF ∷ 0xBB ∷ 0xBF ∷ 97 ∷ 13 ∷ 10 ∷ 98 ∷ 13 ∷ 99 ∷ 13 ∷ 13 ∷ 10 ∷ []

text : text_of page ≡ 97 ∷ 10 ∷ 98 ∷ 10 ∷ 99 ∷ 10 ∷ 10 ∷ []
unfolding page
text = refl

after_a_pair : place_in (placed_text page) 12 2 ≡ 6
unfolding page
after_a_pair = refl

at_the_end : place_in (placed_text page) 12 7 ≡ 12
unfolding page
at_the_end = refl

whole : text_fault doctype ≡ None
unfolding doctype utf8_valid_len is_utf8 chars encode
whole = refl

not_utf8 : text_fault (doctype ++ 0xFF ∷ 0 ∷ []) ≡ Some (refusal_at NotUtf8 15)
unfolding doctype utf8_valid_len is_utf8 chars encode
not_utf8 = refl

nul : text_fault (doctype ++ 0 ∷ 0xFF ∷ []) ≡ Some (refusal_at Nul 15)
unfolding doctype utf8_valid_len is_utf8 chars encode
nul = refl

surrogate : text_fault (0xED ∷ 0xA0 ∷ 0x80 ∷ []) ≡ Some (refusal_at NotUtf8 0)
unfolding utf8_valid_len is_utf8 chars encode
surrogate = refl
