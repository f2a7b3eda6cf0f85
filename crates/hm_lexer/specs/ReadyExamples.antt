-- What is ready of a text that goes on, which piece is taken, and where construction stands, by computing.
use Rattle.std.specs.Prelude.{◌≡◌, ℕ, true, false, List, [], ◌∷◌, ◌++◌, length, codes, refl, Option, Some, None}
use lib.Utf8.{encode}
use Rattle.hm_base.specs.Bytes.{is_letter, is_space, is_alnum, is_digit_of, lower}
use Rattle.hm_base.specs.Forms.{is_tag_name, is_small, is_tag_byte}
use Rattle.hm_base.specs.RawText.{begins_end_tag, is_name_end}
use Rattle.hm_elements.specs.Names.{is_among}
use Rattle.hm_elements.specs.Tables.{is_metadata, roots, refused_names, headings, sections, parts, blocks, paragraph_ends, boundaries, svg_boundaries, svg_names, unnested_names, voids, rcdata_names, raw_names, is_root, is_void, is_refused, is_rcdata, is_raw, holds_text, is_heading, is_section, is_unnested, closes_p, is_boundary, is_svg_name, holds_svg_text}
use Rattle.hm_elements.specs.Nesting.{children, noscript_children, own_parents, bound_names, may_stand, closed_by_start_rows, is_closed_by_start, end_rows, is_ended_by, made_under}
use Rattle.hm_elements.specs.Paths.{is_block_in_p, is_nested, is_deep, blank_parents, is_in_blank}
use Rattle.hm_refs.specs.Names.{found_here}
use Rattle.hm_refs.specs.Numbers.{point_of}
use Rattle.hm_refs.specs.References.{reference, value_of}
use Rattle.hm_open_elements.specs.Moves.{start_moves, end_moves}
use Rattle.hm_scan.specs.Reading.{read_tag, read_start, read_end, begins_tag, tag_fault, is_bad_byte}
use Rattle.hm_scan.specs.Tags.{is_name_byte, is_later_byte, is_unquoted_byte, is_inside, is_quote, is_tag_end, attribute_at}
use Rattle.hm_scan.specs.Values.{reference_at}
use Rattle.hm_scan.specs.Texts.{read_text, begins_markup, reference_in}
use Rattle.hm_scan.specs.Comments.{read_comment, begins_cdata}
use Rattle.hm_scan.specs.Doctypes.{read_doctype, doctype_form, begins_doctype}
use Rattle.hm_tree.specs.Tokens.{taken, slice, points}
use Rattle.hm_token_laws.specs.First.{ordinary, rcdata, after_bytes, first}
use Rattle.hm_construction_laws.specs.Steps.{first_state, step, step_byte, step_start, step_end, step_over, is_at_end}
use Rattle.hm_lexer.specs.Ready.{part, ready}
use Rattle.hm_lexer.specs.Standing.{Standing, stands}

-- ---- what is ready

letter : ready [] ordinary (codes "a") ≡ true
unfolding ready read_text begins_markup reference_in
letter = refl

no_markup : ready [] ordinary (codes "< a") ≡ true
unfolding ready read_text begins_markup reference_in is_letter
no_markup = refl

whole_tag : ready [] ordinary (codes "<p>") ≡ true
unfolding ready begins_markup is_letter begins_tag read_tag read_start is_name_byte is_name_end is_space lower is_tag_end is_later_byte is_unquoted_byte is_quote is_bad_byte attribute_at reference_at tag_fault is_tag_name is_small is_tag_byte
whole_tag = refl

front_of_a_tag : ready [] ordinary (codes "<p") ≡ false
unfolding ready begins_markup is_letter begins_tag read_tag read_start is_name_byte is_name_end is_space lower is_tag_end is_later_byte is_unquoted_byte is_quote is_bad_byte attribute_at reference_at tag_fault is_tag_name is_small is_tag_byte
front_of_a_tag = refl

front_of_an_end_tag : ready [] ordinary (codes "</></") ≡ false
unfolding ready
front_of_an_end_tag = refl

open_reference : ready [] ordinary (codes "&#60") ≡ false
unfolding ready is_alnum is_letter is_digit_of
open_reference = refl

ended_reference : ready [] ordinary (codes "&#60;") ≡ true
unfolding ready is_alnum is_letter is_digit_of read_text begins_markup reference_in reference point_of value_of found_here encode
ended_reference = refl

open_title : ready [] (rcdata (codes "title")) (codes "a</title") ≡ false
unfolding ready first begins_end_tag is_name_end is_space lower
open_title = refl

-- ---- which piece is taken

signs_that_stand_for_themselves : part [] ordinary (codes "a & b < c<d") ≡ after_bytes 0 (taken (slice (codes "a & b < c")) (codes "<d"))
unfolding part begins_markup reference_in reference is_letter is_alnum is_digit_of found_here
signs_that_stand_for_themselves = refl

before_an_open_reference : part [] ordinary (codes "a&am") ≡ after_bytes 0 (taken (slice (codes "a")) (codes "&am"))
unfolding part begins_markup reference_in reference is_letter is_alnum is_digit_of
before_an_open_reference = refl

a_reference : part [] ordinary (codes "&#60;x") ≡ after_bytes 0 (taken (points (60 ∷ [])) (codes "x"))
unfolding part begins_markup reference_in reference is_letter is_alnum is_digit_of point_of value_of found_here encode
a_reference = refl

-- ---- where construction stands

abbrev d : List ℕ
d = codes "<!doctype html>"

-- the number of open elements, and the bytes that are left
abbrev stood : Option Standing → Option (ℕ × List ℕ)
stood None = None
stood (Some k) = Some (length k.state.path, k.left)

abbrev open_elements : List ℕ → Option (ℕ × List ℕ)
open_elements s = stood (stands [] 0 first_state (d ++ s))

standing : (open_elements (codes "<b><i></i") ≡ Some (4, codes "</i"))
    × (open_elements (codes "<b><i></i>") ≡ Some (3, []))
    × (open_elements (codes "<ti") ≡ Some (0, codes "<ti"))
    × (open_elements (codes "<b></i>") ≡ None)
unfolding ready part encode found_here point_of reference value_of first step step_byte step_start step_end step_over is_metadata is_at_end read_tag read_start read_end begins_tag tag_fault is_bad_byte is_name_byte is_later_byte is_unquoted_byte is_inside is_quote is_tag_end attribute_at reference_at read_text begins_markup reference_in read_comment begins_cdata read_doctype doctype_form begins_doctype is_letter is_space is_alnum is_digit_of lower is_tag_name is_small is_tag_byte begins_end_tag is_name_end is_among roots refused_names headings sections parts blocks paragraph_ends boundaries svg_boundaries svg_names unnested_names voids rcdata_names raw_names is_root is_void is_refused is_rcdata is_raw holds_text is_heading is_section is_unnested closes_p is_boundary is_svg_name holds_svg_text children noscript_children own_parents bound_names may_stand closed_by_start_rows is_closed_by_start end_rows is_ended_by made_under is_block_in_p is_nested is_deep blank_parents is_in_blank start_moves end_moves
standing = (refl, refl, refl, refl)
