-- Trees and refusals of small fragments, by computing.
use Rattle.std.specs.Prelude.{◌≡◌, ℕ, false, List, [], ◌∷◌, ◌++◌, codes, refl}
use Rattle.hm_base.specs.Bytes.{is_letter, is_space, is_alnum, is_digit_of, lower}
use Rattle.hm_base.specs.Forms.{is_tag_name, is_small, is_tag_byte}
use Rattle.hm_base.specs.RawText.{begins_end_tag, is_name_end, mark_at}
use Rattle.hm_base.specs.declared.rules.Rule.TheVariants as rules
use Rattle.hm_elements.specs.Tables.{is_metadata, roots, refused_names, headings, sections, parts, blocks, paragraph_ends, boundaries, svg_boundaries, svg_names, unnested_names, voids, rcdata_names, raw_names, is_root, is_void, is_refused, is_rcdata, is_raw, holds_text, is_heading, is_section, is_unnested, closes_p, is_boundary, is_svg_name, holds_svg_text}
use Rattle.hm_elements.specs.Nesting.{children, noscript_children, own_parents, bound_names, may_stand, closed_by_start_rows, is_closed_by_start, end_rows, is_ended_by, made_under}
use Rattle.hm_elements.specs.Paths.{is_block_in_p, is_nested, is_deep, blank_parents, is_in_blank}
use Rattle.hm_refs.specs.Names.{found_here}
use Rattle.hm_refs.specs.Numbers.{point_of}
use Rattle.hm_refs.specs.References.{reference, value_of}
use Rattle.hm_open_elements.specs.Moves.{start_moves, end_moves}
use Rattle.hm_scan.specs.Reading.{read_tag, read_start, read_end, begins_tag, tag_fault, is_bad_byte}
use Rattle.hm_scan.specs.Tags.{is_name_byte, is_later_byte, is_unquoted_byte, is_inside, is_quote, is_tag_end, attribute_at}
use Rattle.hm_scan.specs.Values.{reference_at}
use Rattle.hm_scan.specs.Texts.{read_text, begins_markup, reference_in}
use Rattle.hm_scan.specs.Comments.{read_comment, begins_cdata, read_cdata}
use Rattle.hm_scan.specs.Doctypes.{read_doctype, doctype_form, begins_doctype}
use Rattle.hm_token_laws.specs.First.{first}
use lib.Utf8.{encode}
use Rattle.std.specs.Str.{is_utf8, chars}
use Rattle.std.specs.Str.Lossy.{utf8_valid_len}
use Rattle.hm_base.specs.Walks.{Event, start, text, end}
use Rattle.hm_elements.specs.Names.{is_among, p}
use Rattle.hm_construction_laws.specs.Closing.{closed_of_source}
use Rattle.hm_construction_laws.specs.Steps.{step, step_byte, step_start, step_end, step_over, is_at_end}
use Rattle.hm_construction_laws.specs.Trees.{Outcome, built, refused_by, page_tree, tree_of_source}
use Rattle.hm_fragment.specs.Fragments.{fragment_tree}
use Rattle.hm_fragment.specs.Frames.{frame_start, frame_end}

-- the tree of a fragment without a table of names
abbrev pub tree : List ℕ → Outcome
tree fragment = fragment_tree [] fragment

abbrev in_body : List Event → Outcome
in_body inside = built (frame_start ++ (inside ++ frame_end))

trees : (tree [] ≡ in_body [])
    × (tree (codes " x") ≡ in_body (text (codes " x") false ∷ []))
    × (tree (0xEF ∷ 0xBB ∷ 0xBF ∷ codes "x") ≡ in_body (text (0xEF ∷ 0xBB ∷ 0xBF ∷ codes "x") false ∷ []))
    × (tree (codes "&#xFEFF;x") ≡ in_body (text (0xEF ∷ 0xBB ∷ 0xBF ∷ codes "x") false ∷ []))
    × (tree (codes "<p>a</p><p>b") ≡ in_body (start p false [] ∷ text (codes "a") false ∷ end p false ∷ start p false [] ∷ text (codes "b") false ∷ end p false ∷ []))
unfolding fragment_tree page_tree closed_of_source tree_of_source utf8_valid_len is_utf8 chars encode found_here point_of reference value_of first step step_byte step_start step_end step_over is_metadata is_at_end read_tag read_start read_end begins_tag tag_fault is_bad_byte is_name_byte is_later_byte is_unquoted_byte is_inside is_quote is_tag_end attribute_at reference_at read_text begins_markup reference_in read_comment begins_cdata read_cdata read_doctype doctype_form begins_doctype is_letter is_space is_alnum is_digit_of lower is_tag_name is_small is_tag_byte begins_end_tag is_name_end mark_at is_among roots refused_names headings sections parts blocks paragraph_ends boundaries svg_boundaries svg_names unnested_names voids rcdata_names raw_names is_root is_void is_refused is_rcdata is_raw holds_text is_heading is_section is_unnested closes_p is_boundary is_svg_name holds_svg_text children noscript_children own_parents bound_names may_stand closed_by_start_rows is_closed_by_start end_rows is_ended_by made_under is_block_in_p is_nested is_deep blank_parents is_in_blank start_moves end_moves
trees = (refl, refl, refl, refl, refl)

refusals : (tree (codes "a</body>") ≡ refused_by rules.FrameEnd 1)
    × (tree (codes "a</html>") ≡ refused_by rules.FrameEnd 1)
    × (tree (codes "a</body>b") ≡ refused_by rules.AfterBody 8)
    × (tree (codes "a</body><!--c-->") ≡ refused_by rules.FrameEnd 1)
    × (tree (codes "a</body></html>") ≡ refused_by rules.FrameEnd 1)
    × (tree (codes "a" ++ 255 ∷ []) ≡ refused_by rules.NotUtf8 1)
    × (tree (codes "a" ++ 0 ∷ []) ≡ refused_by rules.Nul 1)
    × (tree (codes "<li>x") ≡ refused_by rules.WrongParent 0)
    × (tree (codes "</p>") ≡ refused_by rules.StrayEnd 0)
    × (tree (codes "<title>x") ≡ refused_by rules.WrongParent 0)
    × (tree (codes "<table>x") ≡ refused_by rules.TextHere 7)
    × (tree (codes "<b>") ≡ refused_by rules.Unclosed 3)
    × (tree (codes "<body>") ≡ refused_by rules.SecondRoot 0)
    × (tree (codes "<!doctype html>") ≡ refused_by rules.SecondDoctype 0)
    × (tree (codes "a</body") ≡ refused_by rules.Cut 1)
unfolding fragment_tree page_tree closed_of_source tree_of_source utf8_valid_len is_utf8 chars encode first step step_byte step_start step_end step_over is_metadata is_at_end read_tag read_start read_end begins_tag tag_fault is_bad_byte is_name_byte is_later_byte is_unquoted_byte is_inside is_quote is_tag_end attribute_at reference_at read_text begins_markup reference_in read_comment begins_cdata read_cdata read_doctype doctype_form begins_doctype is_letter is_space is_alnum is_digit_of lower is_tag_name is_small is_tag_byte begins_end_tag is_name_end mark_at is_among roots refused_names headings sections parts blocks paragraph_ends boundaries svg_boundaries svg_names unnested_names voids rcdata_names raw_names is_root is_void is_refused is_rcdata is_raw holds_text is_heading is_section is_unnested closes_p is_boundary is_svg_name holds_svg_text children noscript_children own_parents bound_names may_stand closed_by_start_rows is_closed_by_start end_rows is_ended_by made_under is_block_in_p is_nested is_deep blank_parents is_in_blank start_moves end_moves
refusals = (refl, refl, refl, refl, refl, refl, refl, refl, refl, refl, refl, refl, refl, refl, refl)
