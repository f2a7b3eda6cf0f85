-- A settled page with something of everything, and pages that break one rule each.
use Rattle.std.specs.Prelude.{◌≡◌, ℕ, zero, suc, true, false, List, [], ◌∷◌, ◌++◌, codes, refl}
use Rattle.std.specs.Str.{is_utf8, chars}
use lib.Utf8.{encode}
use Rattle.hm_base.specs.Bytes.{is_space, is_digit_of, lower}
use Rattle.hm_base.specs.Forms.{is_small, is_tag_byte, is_tag_name, is_attribute_byte, is_attribute_name, is_comment_text}
use Rattle.hm_base.specs.RawText.{is_name_end, begins_end_tag, mark_at}
use Rattle.hm_base.specs.Walks.{Event, doctype, start, text, comment, end}
use Rattle.hm_elements.specs.Names.{is_among, html, head, body, p, table, colgroup, col, tbody, tr, td, script, svg}
use Rattle.hm_elements.specs.Tables.{roots, voids, rcdata_names, raw_names, refused_names, headings, sections, parts, blocks, paragraph_ends, boundaries, svg_boundaries, svg_names, unnested_names, is_root, is_void, is_rcdata, is_raw, holds_text, is_refused, is_heading, is_section, is_unnested, closes_p, is_boundary, is_svg_name, holds_svg_text}
use Rattle.hm_elements.specs.Nesting.{children, noscript_children, own_parents, bound_names, may_stand, closed_by_start_rows, is_closed_by_start}
use Rattle.hm_elements.specs.Paths.{is_block_in_p, is_nested, is_deep, blank_parents, is_in_blank}
use Rattle.hm_elements.specs.Settled.{Settled, no_doctype, no_head, has_top, has_frame, all_events, nests, is_svg_in_place, closes_void, is_text_in_place, is_raw_text, is_comment_in_form, has_attributes_in_form, is_not_deep, is_event_utf8}

abbrev note : List Event
note = comment (codes " c ") ∷ []

abbrev open_tag : List ℕ → List Event
open_tag n = start n false [] ∷ []

abbrev close_tag : List ℕ → List Event
close_tag n = end n false ∷ []

abbrev around : List ℕ → List Event → List Event
around n w = open_tag n ++ w ++ close_tag n

abbrev words_of : List ℕ → List Event
words_of s = text s false ∷ []

abbrev raw_of : List ℕ → List Event
raw_of s = text s true ∷ []

abbrev sample_head : List Event
sample_head =
    around (codes "title") (words_of (codes "a </b>")) ++ words_of (codes " ") ++ around (codes "meta") []
    ++ around (codes "style") (raw_of (codes "p{}")) ++ note
    ++ around (codes "noscript") (around (codes "link") [] ++ words_of (codes " "))
    ++ around script (raw_of (codes "<!--<script></script>-->"))

abbrev sample_table : List Event
sample_table = around table (around colgroup (around col []) ++ around tbody (around tr (around td (words_of (codes "1")))))

abbrev sample_svg : List Event
sample_svg = start svg true [] ∷ start (codes "title") true [] ∷ text (codes "t") false ∷ end (codes "title") true ∷ start (codes "path") true (record { name = codes "d"; value = codes "M0" } ∷ []) ∷ end (codes "path") true ∷ end svg true ∷ []

abbrev sample_body : List Event
sample_body =
    words_of (codes "x") ++ around p (words_of (codes "y") ++ around (codes "br") []) ++ note ++ sample_table
    ++ around (codes "pre") (words_of (codes "z")) ++ around (codes "ul") (around (codes "li") sample_svg)

pub sample : List Event
sample =
    note ++ doctype false ∷ note ++ start html false (record { name = codes "lang"; value = codes "en" } ∷ []) ∷ note ++ around head sample_head
    ++ words_of (codes " ") ++ note ++ around body sample_body ++ note ++ close_tag html ++ note

pub sample_settles : Settled sample
unfolding sample is_utf8 chars encode is_space is_digit_of lower is_small is_tag_byte is_tag_name is_attribute_byte is_attribute_name is_comment_text is_name_end begins_end_tag mark_at is_among roots voids rcdata_names raw_names refused_names headings sections parts blocks paragraph_ends boundaries svg_boundaries svg_names unnested_names is_root is_void is_rcdata is_raw holds_text is_refused is_heading is_section is_unnested closes_p is_boundary is_svg_name holds_svg_text children noscript_children own_parents bound_names may_stand closed_by_start_rows is_closed_by_start is_block_in_p is_nested is_deep blank_parents is_in_blank nests is_svg_in_place closes_void is_text_in_place is_raw_text is_comment_in_form has_attributes_in_form is_not_deep is_event_utf8
sample_settles = record {
  ends = refl;
  closed = refl;
  top = refl;
  frame = refl;
  nesting = refl;
  svg = refl;
  voids = refl;
  texts = refl;
  raw_texts = refl;
  comments = refl;
  attributes = refl;
  depth = refl;
  utf8 = refl;
}

-- a page with this in its body
abbrev page : List Event → List Event
page w = doctype false ∷ around html (around head [] ++ around body w)

-- elements nested to this depth
abbrev nested_b : ℕ → List Event
nested_b zero = words_of (codes "x")
nested_b (suc k) = around (codes "b") (nested_b k)

abbrev repeated : List Event
repeated = start (codes "i") false (record { name = codes "a"; value = [] } ∷ record { name = codes "a"; value = [] } ∷ []) ∷ close_tag (codes "i")

each_rule_is_needed : (has_top no_doctype [] (page (doctype false ∷ [])) ≡ false)
    × (has_frame no_head [] (page (around head [])) ≡ false)
    × (all_events nests [] (page (around (codes "li") [])) ≡ false)
    × (all_events nests [] (page (around p (around (codes "b") (around p [])))) ≡ false)
    × (all_events nests [] (page (around (codes "a") (around (codes "b") (around (codes "a") [])))) ≡ false)
    × (all_events nests [] (page (around (codes "marquee") [])) ≡ false)
    × (all_events is_svg_in_place [] (page (around svg [])) ≡ false)
    × (all_events closes_void [] (page (around (codes "br") (words_of (codes "x")))) ≡ false)
    × (all_events is_text_in_place [] (page (words_of (codes "x") ++ words_of (codes "y"))) ≡ false)
    × (all_events is_text_in_place [] (page (around table (words_of (codes "x")))) ≡ false)
    × (all_events is_raw_text [] (page (around (codes "style") (raw_of (codes "</STYLE>")))) ≡ false)
    × (all_events is_comment_in_form [] (page (comment (codes "-->") ∷ [])) ≡ false)
    × (all_events has_attributes_in_form [] (page repeated) ≡ false)
    × (all_events is_not_deep [] (page (nested_b 510)) ≡ true)
    × (all_events is_not_deep [] (page (nested_b 511)) ≡ false)
    × (all_events is_event_utf8 [] (page (words_of (237 ∷ 160 ∷ 128 ∷ []))) ≡ false)
unfolding is_utf8 chars encode is_space is_digit_of lower is_small is_tag_byte is_tag_name is_attribute_byte is_attribute_name is_comment_text is_name_end begins_end_tag mark_at is_among roots voids rcdata_names raw_names refused_names headings sections parts blocks paragraph_ends boundaries svg_boundaries svg_names unnested_names is_root is_void is_rcdata is_raw holds_text is_refused is_heading is_section is_unnested closes_p is_boundary is_svg_name holds_svg_text children noscript_children own_parents bound_names may_stand closed_by_start_rows is_closed_by_start is_block_in_p is_nested is_deep blank_parents is_in_blank nests is_svg_in_place closes_void is_text_in_place is_raw_text is_comment_in_form has_attributes_in_form is_not_deep is_event_utf8
each_rule_is_needed = (refl, refl, refl, refl, refl, refl, refl, refl, refl, refl, refl, refl, refl, refl, refl, refl)
