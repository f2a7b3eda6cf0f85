-- A page that spells a settled tree begins with '<', and so with no mark.
use Rattle.std.proofs.Common.{◌≡◌, ℕ, Bool, true, false, ◌==◌, List, [], ◌∷◌, ◌++◌, map, refl, ap, ◌∙◌, append_assoc, arith}
use Rattle.hm_base.specs.Bytes.{head_is, lower}
use Rattle.hm_base.specs.Forms.{is_byte}
use Rattle.hm_base.specs.Source.{numbered, without_mark}
use Rattle.hm_base.specs.Walks.{Event, doctype, start, text, comment, end}
use Rattle.hm_elements.specs.Places.{SettledPage}
use Rattle.hm_elements.proofs.Chain.{settled_page}
use Rattle.hm_markup_spec.specs.Doctypes.{WritesDoctype}
use Rattle.hm_markup_spec.proofs.LineEnds.{unmarked}
use Rattle.hm_spelling_spec.specs.Spellings.{other, SpellsFrom}
use Rattle.hm_spelling_spec.specs.Tags.{Spelling}
use Rattle.hm_round_trip_laws.specs.PageTexts.{SpelledPagesBeginWithMarkup}

lowered_lt : (c : ℕ) → lower c ≡ 60 → (c == 60) ≡ true
unfolding lower
lowered_lt c h = grind arith

word_begins : (word more s v : List ℕ) → map lower word ≡ 60 ∷ v → s ≡ word ++ more → head_is (is_byte 60) s ≡ true
word_begins [] more s v e is = absurd (cc)
word_begins (c ∷ word) more s v e is = let first : lower c ≡ 60 = cc in rw is (lowered_lt c first)

doctype_begins : (legacy : Bool) (piece rest s : List ℕ) → WritesDoctype true legacy piece → s ≡ piece ++ rest → head_is (is_byte 60) s ≡ true
doctype_begins false piece rest s d is = word_begins d.word _ s _ d.word_is (is ∙ ap (λ x. x ++ rest) d.whole ∙ append_assoc d.word _ rest)
doctype_begins true piece rest s d is = word_begins d.word _ s _ d.word_is (is ∙ ap (λ x. x ++ rest) d.whole ∙ append_assoc d.word _ rest)

page_begins : (g : Spelling) (w : List Event) (page : List ℕ) → SettledPage w → SpellsFrom g other [] w page → head_is (is_byte 60) page ≡ true
page_begins g [] page h sp = absurd h
page_begins g (comment s ∷ w) page h (rest, is, sp) = rw is refl
page_begins g (doctype legacy ∷ w) page h (piece, rest, is, d, sp) = doctype_begins legacy piece rest page d is
page_begins g (start n foreign attributes ∷ w) page h sp = absurd h
page_begins g (text s raw ∷ w) page h sp = absurd h
page_begins g (end n foreign ∷ w) page h sp = absurd h

pub spelled_pages_begin_with_markup : SpelledPagesBeginWithMarkup
spelled_pages_begin_with_markup g w page h sp = page_begins g w page (settled_page w h) sp

no_mark : (c : ℕ) → (c == 60) ≡ true → (c == 0xEF) ≡ false
no_mark c h = grind arith

-- what begins so has no mark
pub begun_unmarked : (page : List ℕ) → head_is (is_byte 60) page ≡ true → without_mark (numbered 0 page) ≡ numbered 0 page
begun_unmarked [] h = refl
begun_unmarked (c ∷ s) h = unmarked c s (no_mark c h)
