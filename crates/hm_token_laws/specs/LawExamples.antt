-- Tokens one after another, and texts piece by piece, on examples.
use Rattle.std.specs.Prelude.{◌≡◌, true, false, [], ◌∷◌, codes, refl}
use Rattle.hm_base.specs.Bytes.{is_letter, is_space, is_alnum, is_digit_of, lower}
use Rattle.hm_base.specs.Forms.{is_tag_name, is_small, is_tag_byte}
use Rattle.hm_base.specs.RawText.{begins_end_tag, is_name_end}
use Rattle.hm_refs.specs.Names.{found_here}
use Rattle.hm_refs.specs.References.{reference, is_blocked}
use Rattle.hm_scan.specs.Reading.{read_tag, read_start, read_end, begins_tag, tag_fault}
use Rattle.hm_scan.specs.Tags.{is_name_byte, is_tag_end}
use Rattle.hm_scan.specs.TextExamples.{copy}
use Rattle.hm_scan.specs.Texts.{read_text, begins_markup, reference_in}
use Rattle.hm_tree.specs.Tokens.{start_tag, end_tag, slice, points}
use Rattle.hm_token_laws.specs.First.{ordinary, rcdata, first}
use Rattle.hm_token_laws.specs.Laws.{IsMode}
use Rattle.hm_token_laws.specs.Readings.{ends_itself, ReadsAs}
use Rattle.hm_token_laws.specs.Decided.{goes_on, literal, referred, ArePieces, cuts_text, in_mode}

a_title : IsMode (rcdata (codes "title"))
unfolding is_tag_name is_small is_tag_byte
a_title = refl

a_title_and_its_text :
    ReadsAs copy (in_mode ordinary (start_tag (codes "title") [] false) ∷ in_mode (rcdata (codes "title")) (slice (codes "<b>")) ∷ in_mode (rcdata (codes "title")) (points (169 ∷ [])) ∷ in_mode (rcdata (codes "title")) (end_tag (codes "title")) ∷ [])
    (codes "<title><b>&copy</title>x") (codes "x")
unfolding first begins_markup is_letter begins_tag read_tag read_start read_end is_name_byte is_name_end is_space lower is_tag_end tag_fault is_tag_name is_small is_tag_byte begins_end_tag read_text reference_in reference found_here is_blocked
a_title_and_its_text = (0, codes "<b>&copy</title>x", refl, (0, codes "&copy</title>x", refl, (0, codes "</title>x", refl, (0, codes "x", refl, refl))))

a_tag_ends_itself : ends_itself ordinary (codes "</></b>") ≡ true
unfolding begins_markup is_letter
a_tag_ends_itself = refl

a_text_does_not : ends_itself ordinary (codes "a<b>") ≡ false
unfolding begins_markup
a_text_does_not = refl

equals_goes_on_in_a_value : goes_on true 61 ≡ true
unfolding goes_on is_alnum is_letter is_digit_of
equals_goes_on_in_a_value = refl

a_tag_cuts : cuts_text (codes "<b>") ≡ true
unfolding goes_on is_alnum is_letter is_digit_of
a_tag_cuts = refl

a_letter_does_not : cuts_text (codes "a") ≡ false
unfolding goes_on is_alnum is_letter is_digit_of
a_letter_does_not = refl

-- `&copy=<` before a tag
pieces_in_front_of_a_tag : ArePieces copy false (referred (codes "&copy") (169 ∷ []) ∷ literal 61 ∷ literal 60 ∷ []) (codes "<b>")
unfolding begins_markup is_letter reference_in reference found_here is_blocked
pieces_in_front_of_a_tag = (refl, (refl, (refl, tt)))
