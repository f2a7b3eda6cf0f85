-- A page with CR and CR LF in its tags, the settled tree that it spells, and its text, by computing.
use Rattle.std.specs.Prelude.{◌≡◌, ℕ, true, false, List, [], ◌∷◌, ◌++◌, codes, refl}
use Rattle.std.specs.Str.{is_utf8, chars}
use lib.Utf8.{encode}
use Rattle.hm_base.specs.Bytes.{is_space, is_digit_of, lower}
use Rattle.hm_base.specs.Forms.{is_small, is_tag_byte, is_tag_name, is_attribute_name}
use Rattle.hm_base.specs.Source.{text_of}
use Rattle.hm_base.specs.Walks.{Event, doctype, start, text, end}
use Rattle.hm_elements.specs.Names.{is_among, body}
use Rattle.hm_elements.specs.Tables.{roots, voids, rcdata_names, raw_names, refused_names, headings, sections, parts, blocks, paragraph_ends, boundaries, svg_boundaries, unnested_names, is_root, is_void, is_rcdata, is_raw, holds_text, is_refused, is_heading, is_section, is_unnested, closes_p, is_boundary}
use Rattle.hm_elements.specs.Nesting.{children, noscript_children, own_parents, bound_names, may_stand, closed_by_start_rows, is_closed_by_start}
use Rattle.hm_elements.specs.Paths.{html_element, is_block_in_p, is_nested, is_deep, blank_parents, is_in_blank}
use Rattle.hm_elements.specs.Places.{html_path}
use Rattle.hm_elements.specs.Settled.{Settled, nests, is_svg_in_place, closes_void, is_text_in_place, is_raw_text, is_comment_in_form, has_attributes_in_form, is_not_deep, is_event_utf8}
use Rattle.hm_markup_spec.specs.Tags.{bare}
use Rattle.hm_spelling_spec.specs.Characters.{itself, reference_to}
use Rattle.hm_spelling_spec.specs.PageExamples.{on_literals}
use Rattle.hm_spelling_spec.specs.Spellings.{other, opening, omitted, written, SpellsFrom, everywhere}
use Rattle.hm_spelling_spec.specs.Tags.{Spelling}

abbrev spelling : Spelling
spelling = record { table = []; rules = record { omit = true; unquote = true; tight = false; ascii = false; frame = false }; refers = everywhere }

-- the tree after the start of body, and the whole tree
abbrev body_tree : List Event
body_tree = start (codes "p") false [] ∷ text (97 ∷ 13 ∷ 98 ∷ []) false ∷ end (codes "p") false ∷ end (codes "body") false ∷ end (codes "html") false ∷ []

abbrev tree : List Event
tree = doctype false ∷ start (codes "html") false [] ∷ start (codes "head") false [] ∷ end (codes "head") false ∷ start (codes "body") false [] ∷ body_tree

-- the page: its doctype, and a paragraph, in which the CR of the tree is a reference
abbrev page_doctype : List ℕ
page_doctype = codes "<!doctype" ++ 13 ∷ 10 ∷ (codes "html" ++ 13 ∷ codes ">")

abbrev paragraph : List ℕ
paragraph = codes "<p" ++ 10 ∷ 13 ∷ codes ">a&#13b"

abbrev page : List ℕ
page = page_doctype ++ paragraph

tree_settles : Settled tree
unfolding is_utf8 chars encode is_space is_digit_of lower is_small is_tag_byte is_tag_name is_attribute_name is_among roots voids rcdata_names raw_names refused_names headings sections parts blocks paragraph_ends boundaries svg_boundaries unnested_names is_root is_void is_rcdata is_raw holds_text is_refused is_heading is_section is_unnested closes_p is_boundary children noscript_children own_parents bound_names may_stand closed_by_start_rows is_closed_by_start is_block_in_p is_nested is_deep blank_parents is_in_blank nests is_svg_in_place closes_void is_text_in_place is_raw_text is_comment_in_form has_attributes_in_form is_not_deep is_event_utf8
tree_settles = record {
  ends = refl;
  closed = refl;
  top = refl;
  frame = refl;
  nesting = refl;
  svg = refl;
  voids = refl;
  texts = refl;
  raw_texts = refl;
  comments = refl;
  attributes = refl;
  depth = refl;
  utf8 = refl;
}

body_spells : SpellsFrom spelling opening (html_element body ∷ html_path) body_tree paragraph
unfolding on_literals
body_spells = (
  written,
  codes "<p" ++ 10 ∷ 13 ∷ codes ">",
  codes "a&#13b",
  refl,
  record { written = codes "p"; last = bare; middle = []; gap = 10 ∷ 13 ∷ []; is = refl; lowered = refl; attributed = (refl, refl); apart = refl },
  (
    codes "a&#13b",
    [],
    refl,
    record { pieces = itself 97 ∷ reference_to (codes "&#13") (13 ∷ []) ∷ itself 98 ∷ []; whole = refl; means = refl; allowed = ((refl, refl), ((refl, refl), ((refl, refl), tt))) },
    (omitted, [], [], refl, (refl, refl, refl), (omitted, [], [], refl, (refl, refl, refl), (omitted, [], [], refl, (refl, refl, refl), refl))),
  ),
)

page_spells : SpellsFrom spelling other [] tree page
unfolding on_literals
page_spells = (
  page_doctype,
  paragraph,
  refl,
  record { word = codes "<!doctype"; gap = 13 ∷ 10 ∷ []; name = codes "html"; tail = 13 ∷ []; whole = refl; word_is = refl; gap_is = refl; name_is = refl; tail_is = refl },
  (
    omitted,
    [],
    paragraph,
    refl,
    (refl, refl),
    (omitted, [], paragraph, refl, (refl, refl), (omitted, [], paragraph, refl, (refl, refl, refl), (omitted, [], paragraph, refl, (refl, refl), body_spells))),
  ),
)

-- CR LF is one line feed, and each other CR is one
page_text : text_of page ≡ codes "<!doctype" ++ 10 ∷ (codes "html" ++ 10 ∷ (codes "><p" ++ 10 ∷ 10 ∷ codes ">a&#13b"))
page_text = refl
