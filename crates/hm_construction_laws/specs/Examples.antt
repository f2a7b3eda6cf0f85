-- Trees and refusals of small pages, by computing.
use Rattle.std.specs.Prelude.{◌≡◌, ℕ, true, false, List, [], ◌∷◌, ◌++◌, codes, refl}
use lib.Utf8.{encode}
use Rattle.hm_base.specs.Bytes.{is_letter, is_space, is_alnum, is_digit_of, lower}
use Rattle.hm_base.specs.Forms.{is_tag_name, is_small, is_tag_byte}
use Rattle.hm_base.specs.RawText.{begins_end_tag, is_name_end, mark_at}
use Rattle.hm_base.specs.Walks.{Event, doctype, start, text, comment, end}
use Rattle.hm_base.specs.declared.rules.Rule.TheVariants as rules
use Rattle.hm_elements.specs.Names.{is_among, html, head, body, p}
use Rattle.hm_elements.specs.Tables.{is_metadata, roots, refused_names, headings, sections, parts, blocks, paragraph_ends, boundaries, svg_boundaries, svg_names, unnested_names, voids, rcdata_names, raw_names, is_root, is_void, is_refused, is_rcdata, is_raw, holds_text, is_heading, is_section, is_unnested, closes_p, is_boundary, is_svg_name, holds_svg_text}
use Rattle.hm_elements.specs.Nesting.{children, noscript_children, own_parents, bound_names, may_stand, closed_by_start_rows, is_closed_by_start, end_rows, is_ended_by, made_under}
use Rattle.hm_elements.specs.Paths.{is_block_in_p, is_nested, is_deep, blank_parents, is_in_blank}
use Rattle.hm_refs.specs.Names.{found_here}
use Rattle.hm_refs.specs.Numbers.{point_of}
use Rattle.hm_refs.specs.References.{reference, value_of}
use Rattle.hm_open_elements.specs.Moves.{start_moves, end_moves}
use Rattle.hm_scan.specs.Reading.{read_tag, read_start, read_end, begins_tag, tag_fault, is_bad_byte}
use Rattle.hm_scan.specs.Tags.{is_name_byte, is_later_byte, is_unquoted_byte, is_inside, is_quote, is_tag_end, attribute_at}
use Rattle.hm_scan.specs.Values.{reference_at}
use Rattle.hm_scan.specs.Texts.{read_text, begins_markup, reference_in}
use Rattle.hm_scan.specs.Comments.{read_comment, begins_cdata, read_cdata}
use Rattle.hm_scan.specs.Doctypes.{read_doctype, doctype_form, begins_doctype}
use Rattle.hm_token_laws.specs.First.{first}
use Rattle.hm_construction_laws.specs.Steps.{step, step_byte, step_start, step_end, step_over, is_at_end}
use Rattle.hm_construction_laws.specs.Trees.{Outcome, built, refused_by, tree_of_text, tree_of_source}

abbrev pub d : List ℕ
d = codes "<!doctype html>"

abbrev pub opening : List Event
opening = doctype false ∷ start html false [] ∷ start head false [] ∷ end head false ∷ start body false [] ∷ []

abbrev pub ending : List Event
ending = end body false ∷ end html false ∷ []

-- the tree of a page without a table of names
abbrev pub tree : List ℕ → Outcome
tree s = tree_of_text [] (d ++ s)

abbrev in_body : List Event → Outcome
in_body w = built (opening ++ (w ++ ending))

abbrev tag : List ℕ → Event
tag n = start n false []

abbrev close : List ℕ → Event
close n = end n false

abbrev words : List ℕ → Event
words s = text s false

trees : (tree (codes "<p>a</p><p>b</p>") ≡ in_body (tag p ∷ words (codes "a") ∷ close p ∷ tag p ∷ words (codes "b") ∷ close p ∷ []))
    × (tree (codes "<p id=x>a<br>b") ≡ in_body (start p false (record { name = codes "id"; value = codes "x" } ∷ []) ∷ words (codes "a") ∷ tag (codes "br") ∷ close (codes "br") ∷ words (codes "b") ∷ close p ∷ []))
    × (tree (codes "<title>a</title>b") ≡ built (doctype false ∷ tag html ∷ tag head ∷ tag (codes "title") ∷ words (codes "a") ∷ close (codes "title") ∷ close head ∷ tag body ∷ words (codes "b") ∷ ending))
    × (tree (codes "<table><tr><td>x</table>") ≡ in_body (tag (codes "table") ∷ tag (codes "tbody") ∷ tag (codes "tr") ∷ tag (codes "td") ∷ words (codes "x") ∷ close (codes "td") ∷ close (codes "tr") ∷ close (codes "tbody") ∷ close (codes "table") ∷ []))
    × (tree (codes "<select><option>a<option>b</select>") ≡ in_body (tag (codes "select") ∷ tag (codes "option") ∷ words (codes "a") ∷ close (codes "option") ∷ tag (codes "option") ∷ words (codes "b") ∷ close (codes "option") ∷ close (codes "select") ∷ []))
    × (tree (codes "<pre>" ++ 10 ∷ 10 ∷ codes "x</pre>") ≡ in_body (tag (codes "pre") ∷ words (10 ∷ codes "x") ∷ close (codes "pre") ∷ []))
    × (tree (codes "<pre></>" ++ 10 ∷ codes "x</pre>") ≡ in_body (tag (codes "pre") ∷ words (codes "x") ∷ close (codes "pre") ∷ []))
    × (tree (codes "<svg><path d=\"M0\"></path></svg>") ≡ in_body (start (codes "svg") true [] ∷ start (codes "path") true (record { name = codes "d"; value = codes "M0" } ∷ []) ∷ end (codes "path") true ∷ end (codes "svg") true ∷ []))
    × (tree (codes "<p>x" ++ 10 ∷ codes "</body>" ++ 10 ∷ codes "</html>") ≡ in_body (tag p ∷ words (codes "x" ++ 10 ∷ 10 ∷ []) ∷ close p ∷ []))
    × (tree (codes "<p>a</body><!--c--></html><!--d-->") ≡ built (opening ++ tag p ∷ words (codes "a") ∷ close p ∷ close body ∷ comment (codes "c") ∷ close html ∷ comment (codes "d") ∷ []))
    × (tree (codes "</head> x") ≡ built (doctype false ∷ tag html ∷ tag head ∷ close head ∷ words (codes " ") ∷ tag body ∷ words (codes "x") ∷ ending))
    × (tree (codes "a" ++ 13 ∷ 10 ∷ codes "&#13;b") ≡ in_body (words (codes "a" ++ 10 ∷ 13 ∷ codes "b") ∷ []))
unfolding tree_of_source encode found_here point_of reference value_of first step step_byte step_start step_end step_over is_metadata is_at_end read_tag read_start read_end begins_tag tag_fault is_bad_byte is_name_byte is_later_byte is_unquoted_byte is_inside is_quote is_tag_end attribute_at reference_at read_text begins_markup reference_in read_comment begins_cdata read_cdata read_doctype doctype_form begins_doctype is_letter is_space is_alnum is_digit_of lower is_tag_name is_small is_tag_byte begins_end_tag is_name_end mark_at is_among roots refused_names headings sections parts blocks paragraph_ends boundaries svg_boundaries svg_names unnested_names voids rcdata_names raw_names is_root is_void is_refused is_rcdata is_raw holds_text is_heading is_section is_unnested closes_p is_boundary is_svg_name holds_svg_text children noscript_children own_parents bound_names may_stand closed_by_start_rows is_closed_by_start end_rows is_ended_by made_under is_block_in_p is_nested is_deep blank_parents is_in_blank start_moves end_moves
trees = (refl, refl, refl, refl, refl, refl, refl, refl, refl, refl, refl, refl)

refusals : (tree_of_text [] [] ≡ refused_by rules.NoDoctype 0)
    × (tree (codes "<p") ≡ refused_by rules.Cut 15)
    × (tree (codes "<title>x") ≡ refused_by rules.Cut 22)
    × (tree (codes "<title>x</title ") ≡ refused_by rules.Cut 23)
    × (tree (codes "<table>x</table>") ≡ refused_by rules.TextHere 22)
    × (tree (codes "<noscript>x") ≡ refused_by rules.TextHere 25)
    × (tree (codes "<li>x") ≡ refused_by rules.WrongParent 15)
    × (tree (codes "<tr>") ≡ refused_by rules.WrongParent 15)
    × (tree (codes "x</p>") ≡ refused_by rules.StrayEnd 16)
    × (tree (codes "</></b>") ≡ refused_by rules.StrayEnd 18)
    × (tree (codes "<div>x") ≡ refused_by rules.Unclosed 21)
    × (tree (codes "x</body>y") ≡ refused_by rules.AfterBody 23)
    × (tree (codes "<b><i>x</b></i>") ≡ refused_by rules.NotCurrent 22)
    × (tree (codes "<p><svg></p>") ≡ refused_by rules.NotCurrent 23)
    × (tree (codes "<svg><g></svg>") ≡ refused_by rules.NotCurrent 23)
    × (tree (codes "<noscript></head>") ≡ refused_by rules.NotCurrent 25)
    × (tree (codes "<noscript><body>") ≡ refused_by rules.SecondRoot 25)
    × (tree (codes "<p><span><div>") ≡ refused_by rules.BlockInParagraph 24)
    × (tree (codes "<a><a>") ≡ refused_by rules.Nested 18)
    × (tree (codes "<marquee>") ≡ refused_by rules.RefusedName 15)
    × (tree (codes "</head><meta>") ≡ refused_by rules.AfterHead 22)
    × (tree (codes "<svg><div>") ≡ refused_by rules.ForeignName 20)
    × (tree (codes "<svg><title><g>") ≡ refused_by rules.WrongParent 27)
    × (tree (codes "<svg><![CDATA[x") ≡ refused_by rules.Cut 20)
    × (tree (codes "<b></b \"x>") ≡ refused_by rules.BadName 18)
    × (tree (codes "<!doctype html>") ≡ refused_by rules.SecondDoctype 15)
unfolding tree_of_source first step step_byte step_start step_end step_over is_metadata is_at_end read_tag read_start read_end begins_tag tag_fault is_bad_byte is_name_byte is_later_byte is_unquoted_byte is_inside is_quote is_tag_end attribute_at reference_at read_text begins_markup reference_in read_comment begins_cdata read_cdata read_doctype doctype_form begins_doctype is_letter is_space is_alnum is_digit_of lower is_tag_name is_small is_tag_byte begins_end_tag is_name_end mark_at is_among roots refused_names headings sections parts blocks paragraph_ends boundaries svg_boundaries svg_names unnested_names voids rcdata_names raw_names is_root is_void is_refused is_rcdata is_raw holds_text is_heading is_section is_unnested closes_p is_boundary is_svg_name holds_svg_text children noscript_children own_parents bound_names may_stand closed_by_start_rows is_closed_by_start end_rows is_ended_by made_under is_block_in_p is_nested is_deep blank_parents is_in_blank start_moves end_moves
refusals = (refl, refl, refl, refl, refl, refl, refl, refl, refl, refl, refl, refl, refl, refl, refl, refl, refl, refl, refl, refl, refl, refl, refl, refl, refl, refl)
