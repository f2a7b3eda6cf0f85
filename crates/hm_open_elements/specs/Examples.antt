-- Moves in small bodies, by computing.
use Rattle.std.specs.Prelude.{◌≡◌, ℕ, true, false, List, [], ◌∷◌, codes, refl}
use Rattle.hm_base.specs.Walks.{Element}
use Rattle.hm_base.specs.declared.rules.Rule.TheVariants.{StrayEnd, NotCurrent, BlockInParagraph, Nested, WrongParent, ForeignName}
use Rattle.hm_elements.specs.Names.{is_among}
use Rattle.hm_elements.specs.Tables.{roots, refused_names, headings, sections, parts, blocks, paragraph_ends, boundaries, svg_boundaries, svg_names, unnested_names, voids, rcdata_names, raw_names, is_root, is_refused, is_heading, is_section, is_unnested, closes_p, is_boundary, is_svg_name, holds_svg_text}
use Rattle.hm_elements.specs.Nesting.{children, own_parents, bound_names, may_stand, closed_by_start_rows, is_closed_by_start, end_rows, is_ended_by, made_under}
use Rattle.hm_elements.specs.Paths.{is_block_in_p, is_nested, is_deep}
use Rattle.hm_open_elements.specs.Moves.{moves, refuses, element, start_moves, end_moves}

abbrev pub h : List ℕ → Element
h n = element n false

abbrev pub in_body : List Element
in_body = h (codes "body") ∷ h (codes "html") ∷ []

second_paragraph : start_moves (codes "p") (h (codes "p") ∷ in_body) ≡ moves (h (codes "p") ∷ []) [] (h (codes "p") ∷ in_body)
unfolding start_moves is_refused refused_names is_root roots is_among is_closed_by_start closed_by_start_rows parts paragraph_ends blocks headings is_block_in_p closes_p is_boundary boundaries is_nested is_unnested unnested_names is_heading made_under is_section sections is_deep may_stand children own_parents bound_names rcdata_names raw_names voids
second_paragraph = refl

a_cell : start_moves (codes "td") (h (codes "table") ∷ in_body) ≡ moves [] (h (codes "tr") ∷ h (codes "tbody") ∷ []) (h (codes "td") ∷ h (codes "tr") ∷ h (codes "tbody") ∷ h (codes "table") ∷ in_body)
unfolding start_moves is_refused refused_names is_root roots is_among is_closed_by_start closed_by_start_rows parts paragraph_ends blocks headings is_block_in_p closes_p is_boundary boundaries is_nested is_unnested unnested_names is_heading made_under is_section sections is_deep may_stand children own_parents bound_names rcdata_names raw_names voids
a_cell = refl

a_block_in_a_span : start_moves (codes "div") (h (codes "span") ∷ h (codes "p") ∷ in_body) ≡ refuses BlockInParagraph
unfolding start_moves is_refused refused_names is_root roots is_among is_closed_by_start closed_by_start_rows parts paragraph_ends blocks headings is_block_in_p closes_p is_boundary boundaries
a_block_in_a_span = refl

a_link_in_a_link : start_moves (codes "a") (h (codes "a") ∷ in_body) ≡ refuses Nested
unfolding start_moves is_refused refused_names is_root roots is_among is_closed_by_start closed_by_start_rows parts paragraph_ends blocks headings is_block_in_p closes_p is_boundary boundaries is_nested is_unnested unnested_names is_heading
a_link_in_a_link = refl

a_loose_item : start_moves (codes "li") in_body ≡ refuses WrongParent
unfolding start_moves is_refused refused_names is_root roots is_among is_closed_by_start closed_by_start_rows parts paragraph_ends blocks headings is_block_in_p closes_p is_boundary boundaries is_nested is_unnested unnested_names is_heading made_under is_section sections is_deep may_stand children own_parents bound_names rcdata_names raw_names voids
a_loose_item = refl

an_svg : start_moves (codes "svg") in_body ≡ moves [] [] (element (codes "svg") true ∷ in_body)
unfolding start_moves is_refused refused_names is_root roots is_among is_closed_by_start closed_by_start_rows parts paragraph_ends blocks headings is_block_in_p closes_p is_boundary boundaries is_nested is_unnested unnested_names is_heading made_under is_section sections is_deep may_stand children own_parents bound_names rcdata_names raw_names voids
an_svg = refl

html_in_svg : start_moves (codes "div") (element (codes "svg") true ∷ in_body) ≡ refuses ForeignName
unfolding start_moves is_svg_name svg_names is_among
html_in_svg = refl

in_svg_title : start_moves (codes "g") (element (codes "title") true ∷ element (codes "svg") true ∷ in_body) ≡ refuses WrongParent
unfolding start_moves is_svg_name svg_names is_among holds_svg_text svg_boundaries
in_svg_title = refl

crossed : end_moves (codes "b") (h (codes "i") ∷ h (codes "b") ∷ in_body) ≡ refuses NotCurrent
unfolding end_moves is_ended_by end_rows is_among blocks headings sections
crossed = refl

crossed_in_svg : end_moves (codes "svg") (element (codes "g") true ∷ element (codes "svg") true ∷ in_body) ≡ refuses NotCurrent
unfolding end_moves
crossed_in_svg = refl

implied_ends : end_moves (codes "ul") (h (codes "li") ∷ h (codes "ul") ∷ in_body) ≡ moves (h (codes "li") ∷ h (codes "ul") ∷ []) [] in_body
unfolding end_moves is_ended_by end_rows is_among blocks headings sections
implied_ends = refl

stray : end_moves (codes "p") in_body ≡ refuses StrayEnd
unfolding end_moves is_ended_by end_rows is_among blocks headings sections
stray = refl
