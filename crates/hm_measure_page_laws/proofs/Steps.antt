-- What the tags of generated pages do where they stand.
use Rattle.std.proofs.Common.{◌≡◌, true, false, List, [], ◌∷◌, ◌++◌, refl}
use Rattle.hm_base.specs.Bytes.{is_letter, is_space, is_alnum, is_digit_of, lower}
use Rattle.hm_base.specs.Walks.{Attribute, Event, doctype, start, text, end}
use Rattle.hm_elements.specs.Names.{is_among, html, head, body, p}
use Rattle.hm_elements.specs.Tables.{is_metadata, roots, refused_names, headings, sections, parts, blocks, paragraph_ends, boundaries, svg_boundaries, svg_names, unnested_names, voids, rcdata_names, raw_names, is_root, is_void, is_refused, is_rcdata, is_raw, holds_text, is_heading, is_section, is_unnested, closes_p, is_boundary, is_svg_name, holds_svg_text}
use Rattle.hm_elements.specs.Nesting.{children, noscript_children, own_parents, bound_names, may_stand, closed_by_start_rows, is_closed_by_start, end_rows, is_ended_by, made_under}
use Rattle.hm_elements.specs.Paths.{is_in_text, is_block_in_p, is_nested, is_deep, blank_parents, is_in_blank}
use Rattle.hm_open_elements.specs.Moves.{start_moves, end_moves}
use Rattle.hm_tree.specs.Tokens as tokens
use Rattle.hm_token_laws.specs.First.{ordinary, rcdata}
use Rattle.hm_construction_laws.specs.Steps.{before_html, in_head, Construction, went, first_state, under_head, under_body, is_at_end, step, step_byte, step_start, step_end, step_over}
use Rattle.hm_construction_laws.specs.Trees.{mode_of}
use Rattle.hm_round_trip_laws.proofs.Frame.{here}
use Rattle.hm_round_trip_laws.proofs.Runs.{ran, run_bytes}
use Rattle.hm_measure_page_laws.proofs.Texts.{TakesTexts}
use Rattle.hm_measure_page_laws.proofs.Tags.{title, ul, li, table, tbody, tr, td, inside, in_table, at, at_head}

-- ---- Where a line begins

-- the blocks of a page may begin here
pub record BeginsLine (st : Construction) : Type 0 where
  pub mode_is : mode_of st.path ≡ ordinary
  pub before : List Event
  pub paragraph : (attributes : List Attribute) → step st (tokens.start_tag p attributes false) ≡ went (before ++ start p false attributes ∷ []) (at (inside p under_body))
  pub items : step st (tokens.start_tag ul [] false) ≡ went (before ++ start ul false [] ∷ []) (at (inside ul under_body))
  pub cells : step st (tokens.start_tag table [] false) ≡ went (before ++ start table false [] ∷ []) (at (inside table under_body))

pub in_body_begins : BeginsLine (at under_body)
unfolding step step_byte step_start step_end step_over is_metadata is_at_end is_letter is_space is_alnum is_digit_of lower is_among roots refused_names headings sections parts blocks paragraph_ends boundaries svg_boundaries svg_names unnested_names voids rcdata_names raw_names is_root is_void is_refused is_rcdata is_raw holds_text is_heading is_section is_unnested closes_p is_boundary is_svg_name holds_svg_text children noscript_children own_parents bound_names may_stand closed_by_start_rows is_closed_by_start end_rows is_ended_by made_under is_block_in_p is_nested is_deep blank_parents is_in_blank start_moves end_moves
in_body_begins = record { mode_is = refl; before = []; paragraph = λ attributes. refl; items = refl; cells = refl }

pub in_head_begins : BeginsLine at_head
unfolding step step_byte step_start step_end step_over is_metadata is_at_end is_letter is_space is_alnum is_digit_of lower is_among roots refused_names headings sections parts blocks paragraph_ends boundaries svg_boundaries svg_names unnested_names voids rcdata_names raw_names is_root is_void is_refused is_rcdata is_raw holds_text is_heading is_section is_unnested closes_p is_boundary is_svg_name holds_svg_text children noscript_children own_parents bound_names may_stand closed_by_start_rows is_closed_by_start end_rows is_ended_by made_under is_block_in_p is_nested is_deep blank_parents is_in_blank start_moves end_moves
in_head_begins = record { mode_is = refl; before = end head false ∷ start body false [] ∷ []; paragraph = λ attributes. refl; items = refl; cells = refl }

-- ---- In a block

pub paragraph_ends_here : step (at (inside p under_body)) (tokens.end_tag p) ≡ went (end p false ∷ []) (at under_body)
unfolding step step_byte step_start step_end step_over is_metadata is_at_end is_letter is_space is_alnum is_digit_of lower is_among roots refused_names headings sections parts blocks paragraph_ends boundaries svg_boundaries svg_names unnested_names voids rcdata_names raw_names is_root is_void is_refused is_rcdata is_raw holds_text is_heading is_section is_unnested closes_p is_boundary is_svg_name holds_svg_text children noscript_children own_parents bound_names may_stand closed_by_start_rows is_closed_by_start end_rows is_ended_by made_under is_block_in_p is_nested is_deep blank_parents is_in_blank start_moves end_moves
paragraph_ends_here = refl

-- an item, and the end of the list
pub record ItemSteps : Type 0 where
  pub opens : step (at (inside ul under_body)) (tokens.start_tag li [] false) ≡ went (start li false [] ∷ []) (at (inside li (inside ul under_body)))
  pub closes : step (at (inside li (inside ul under_body))) (tokens.end_tag li) ≡ went (end li false ∷ []) (at (inside ul under_body))
  pub ends : step (at (inside ul under_body)) (tokens.end_tag ul) ≡ went (end ul false ∷ []) (at under_body)

pub item_steps : ItemSteps
unfolding step step_byte step_start step_end step_over is_metadata is_at_end is_letter is_space is_alnum is_digit_of lower is_among roots refused_names headings sections parts blocks paragraph_ends boundaries svg_boundaries svg_names unnested_names voids rcdata_names raw_names is_root is_void is_refused is_rcdata is_raw holds_text is_heading is_section is_unnested closes_p is_boundary is_svg_name holds_svg_text children noscript_children own_parents bound_names may_stand closed_by_start_rows is_closed_by_start end_rows is_ended_by made_under is_block_in_p is_nested is_deep blank_parents is_in_blank start_moves end_moves
item_steps = record { opens = refl; closes = refl; ends = refl }

-- a row makes its section, and the end of the table closes that
pub record CellSteps : Type 0 where
  pub row_opens : step (at (inside table under_body)) (tokens.start_tag tr [] false) ≡ went (start tbody false [] ∷ start tr false [] ∷ []) (at (inside tr in_table))
  pub cell_opens : step (at (inside tr in_table)) (tokens.start_tag td [] false) ≡ went (start td false [] ∷ []) (at (inside td (inside tr in_table)))
  pub cell_closes : step (at (inside td (inside tr in_table))) (tokens.end_tag td) ≡ went (end td false ∷ []) (at (inside tr in_table))
  pub row_closes : step (at (inside tr in_table)) (tokens.end_tag tr) ≡ went (end tr false ∷ []) (at in_table)
  pub ends : step (at in_table) (tokens.end_tag table) ≡ went (end tbody false ∷ end table false ∷ []) (at under_body)

pub cell_steps : CellSteps
unfolding step step_byte step_start step_end step_over is_metadata is_at_end is_letter is_space is_alnum is_digit_of lower is_among roots refused_names headings sections parts blocks paragraph_ends boundaries svg_boundaries svg_names unnested_names voids rcdata_names raw_names is_root is_void is_refused is_rcdata is_raw holds_text is_heading is_section is_unnested closes_p is_boundary is_svg_name holds_svg_text children noscript_children own_parents bound_names may_stand closed_by_start_rows is_closed_by_start end_rows is_ended_by made_under is_block_in_p is_nested is_deep blank_parents is_in_blank start_moves end_moves
cell_steps = record { row_opens = refl; cell_opens = refl; cell_closes = refl; row_closes = refl; ends = refl }

-- how the text of each element is read
pub record BlockModes : Type 0 where
  pub list : mode_of (inside ul under_body) ≡ ordinary
  pub whole_table : mode_of (inside table under_body) ≡ ordinary
  pub section : mode_of in_table ≡ ordinary
  pub row : mode_of (inside tr in_table) ≡ ordinary
  pub in_title : mode_of (inside title under_head) ≡ rcdata title

pub block_modes : BlockModes
unfolding is_rcdata rcdata_names is_raw raw_names is_among
block_modes = record { list = refl; whole_table = refl; section = refl; row = refl; in_title = refl }

pub record TextPlaces : Type 0 where
  pub in_body : TakesTexts under_body
  pub in_paragraph : TakesTexts (inside p under_body)
  pub in_item : TakesTexts (inside li (inside ul under_body))
  pub in_cell : TakesTexts (inside td (inside tr in_table))

pub text_places : TextPlaces
unfolding is_rcdata rcdata_names is_raw raw_names is_among holds_text is_in_blank blank_parents
text_places = record {
  in_body = record { mode_is = refl; outside = refl; allowed = refl };
  in_paragraph = record { mode_is = refl; outside = refl; allowed = refl };
  in_item = record { mode_is = refl; outside = refl; allowed = refl };
  in_cell = record { mode_is = refl; outside = refl; allowed = refl };
}

-- ---- The heading

pub record HeadingSteps : Type 0 where
  pub doctype_first : step first_state (tokens.doctype false) ≡ went (doctype false ∷ []) (here before_html [] false)
  pub title_opens : step (here before_html [] false) (tokens.start_tag title [] false) ≡ went (start html false [] ∷ start head false [] ∷ start title false [] ∷ []) (here in_head (inside title under_head) false)
  pub title_closes : step (here in_head (inside title under_head) false) (tokens.end_tag title) ≡ went (end title false ∷ []) at_head
  pub line_feed : run_bytes (10 ∷ []) at_head ≡ ran (text (10 ∷ []) false ∷ []) at_head
  pub title_text : is_in_text (inside title under_head) ≡ true

pub heading_steps : HeadingSteps
unfolding step step_byte step_start step_end step_over is_metadata is_at_end is_letter is_space is_alnum is_digit_of lower is_among roots refused_names headings sections parts blocks paragraph_ends boundaries svg_boundaries svg_names unnested_names voids rcdata_names raw_names is_root is_void is_refused is_rcdata is_raw holds_text is_heading is_section is_unnested closes_p is_boundary is_svg_name holds_svg_text children noscript_children own_parents bound_names may_stand closed_by_start_rows is_closed_by_start end_rows is_ended_by made_under is_block_in_p is_nested is_deep blank_parents is_in_blank start_moves end_moves
heading_steps = record { doctype_first = refl; title_opens = refl; title_closes = refl; line_feed = refl; title_text = refl }
