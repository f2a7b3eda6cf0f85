-- Generated pages are read, and what is built of them is settled.
use Rattle.std.proofs.Common.{◌≡◌, ℕ, ◌^◌, ◌<◌, false, List, [], ◌∷◌, ◌++◌, codes, refl, ap, sym, subst, ◌∙◌, arith, append_assoc, append-nil}
use Rattle.std.specs.Fmt.{decimal}
use Rattle.hm_base.specs.Source.{source_of, place_in}
use Rattle.hm_base.specs.Walks.{Event, doctype, start, text, end}
use Rattle.hm_elements.specs.Names.{is_among, html, head, body}
use Rattle.hm_elements.specs.Tables.{is_raw, raw_names, is_rcdata, rcdata_names, holds_text}
use Rattle.hm_refs.specs.Names.{Entry}
use Rattle.hm_refs.specs.Tables.{IsTable}
use Rattle.hm_scan.specs.Texts.{begins_markup, reference_in}
use Rattle.hm_tree.specs.Tokens as tokens
use Rattle.hm_token_laws.specs.First.{ordinary, rcdata}
use Rattle.hm_token_laws.specs.Decided.{literal}
use Rattle.hm_token_laws.proofs.TextPieces.{names_of_table}
use Rattle.hm_construction_laws.specs.Steps.{before_html, in_head, first_state, under_head, under_body, is_at_end, step_over}
use Rattle.hm_construction_laws.specs.Trees.{built, tree_from, tree_of_source, tree_of_text, page_tree, unless_faulty}
use Rattle.hm_construction_laws.proofs.Pages.{pages_are_settled}
use Rattle.hm_round_trip_laws.proofs.Frame.{here, frame_modes}
use Rattle.hm_measure_page.specs.Pages.{heading, lines, page}
use Rattle.hm_measure_page.specs.Laws.{IsItsText}
use Rattle.hm_measure_page.proofs.Texts.{pages_are_texts}
use Rattle.hm_measure_page_laws.specs.Laws.{PagesAreBuilt}
use Rattle.hm_measure_page_laws.proofs.Pieces.{Ends, over, InPieces}
use Rattle.hm_measure_page_laws.proofs.Texts.{Grows, token_grows, text_grows, figures_grow, decimal_figures}
use Rattle.hm_measure_page_laws.proofs.Tags.{title, inside, at, at_head, names, start_next, doctype_next, title_ends, title_end_next}
use Rattle.hm_measure_page_laws.proofs.Steps.{in_head_begins, block_modes, heading_steps}
use Rattle.hm_measure_page_laws.proofs.Lines.{lines_begin, lines_grow}

-- ---- The end of the page

body_over : (t : List Entry) → Grows t (at under_body) []
unfolding step_over is_at_end holds_text is_raw raw_names is_rcdata rcdata_names is_among
body_over t = record { tree = end body false ∷ end html false ∷ []; builds = λ place i. refl }

head_over : (t : List Entry) → Grows t at_head []
unfolding step_over is_at_end holds_text is_raw raw_names is_rcdata rcdata_names is_among
head_over t = record { tree = end head false ∷ start body false [] ∷ end body false ∷ end html false ∷ []; builds = λ place i. refl }

-- ---- The heading

line_feed_piece : (t : List Entry) (rest : List ℕ) → InPieces t (10 ∷ []) rest
unfolding begins_markup reference_in
line_feed_piece t rest = record { pieces = literal 10 ∷ []; written = refl; good = (refl, tt) }

line_feed_grows : (t : List Entry) → IsTable t → (rest : List ℕ) → Ends rest → Grows t at_head rest → Grows t at_head (10 ∷ rest)
unfolding line_feed_piece
line_feed_grows t k rest e more = text_grows t k at_head at_head (text (10 ∷ []) false ∷ []) (10 ∷ []) rest (line_feed_piece t rest) in_head_begins.mode_is e heading_steps.line_feed more

-- after the number
title_closes : (t : List Entry) → IsTable t → (rest : List ℕ) → Ends rest → Grows t at_head rest → Grows t (here in_head (inside title under_head) false) (codes "</title>\n" ++ rest)
title_closes t k rest e more =
    token_grows t k (rcdata title) (here in_head (inside title under_head) false) at_head (end title false ∷ []) (codes "</title>\n" ++ rest) (tokens.end_tag title) (10 ∷ rest) names.heading.is_name block_modes.in_title
    (title_end_next t (10 ∷ rest)) heading_steps.title_closes (line_feed_grows t k rest e more)

heading_grows : (t : List Entry) → IsTable t → (number : ℕ) (rest : List ℕ) → number < 2 ^ 32 → Ends rest → Grows t at_head rest → Grows t first_state (heading number ++ rest)
heading_grows t k number rest h e more =
    let after : List ℕ = decimal number ++ (codes "</title>\n" ++ rest) in
    let digits : Grows t (here in_head (inside title under_head) false) after =
    figures_grow t k in_head (inside title under_head) title (decimal number) 60 (codes "/title>\n" ++ rest) names.heading.is_name block_modes.in_title heading_steps.title_text (decimal_figures number (omega arith)) (title_ends (10 ∷ rest)) (title_closes t k rest e more) in
    let opened : Grows t (here before_html [] false) (codes "<title>" ++ after) =
    token_grows t k ordinary (here before_html [] false) (here in_head (inside title under_head) false) _ (codes "<title>" ++ after) (tokens.start_tag title [] false) after tt frame_modes.0 (start_next t title after names.heading) heading_steps.title_opens digits in
    let whole : Grows t first_state (codes "<!doctype html><title>" ++ after) =
    token_grows t k ordinary first_state (here before_html [] false) (doctype false ∷ []) (codes "<!doctype html><title>" ++ after) (tokens.doctype false) (codes "<title>" ++ after) tt frame_modes.0 (doctype_next t (codes "<title>" ++ after)) heading_steps.doctype_first opened in
    let cut : heading number ++ rest ≡ codes "<!doctype html><title>" ++ after = ap (λ x. codes "<!doctype html><title>" ++ x) (append_assoc (decimal number) (codes "</title>\n") rest) in
    subst (Grows t first_state) (sym cut) whole

-- ---- The page

page_grows : (t : List Entry) → IsTable t → (number size : ℕ) → number < 2 ^ 32 → size < 2 ^ 32 → Grows t first_state (page number size)
unfolding page
page_grows t k number size h l =
    let e : Ends (lines number size) = subst Ends (append-nil (lines number size)) (lines_begin number size [] over) in
    let blocks : Grows t at_head (lines number size) = subst (Grows t at_head) (append-nil (lines number size)) (lines_grow t k at_head in_head_begins number size [] l over (head_over t) (body_over t)) in
    heading_grows t k number (lines number size) h e blocks

-- where a page is its own text, what is built from its bytes is built of its text
text_built : (t : List Entry) (s : List ℕ) (g : Grows t first_state s) → IsItsText s → tree_of_text t s ≡ built g.tree
unfolding tree_of_source
text_built t s g own =
    let source = source_of s in
    let place : ℕ → ℕ = place_in source.placed source.end in
    ap (λ x. tree_from t place 0 0 first_state x) own.bytes ∙ g.builds place 0

page_built : (t : List Entry) (s : List ℕ) (w : List Event) → IsItsText s → tree_of_text t s ≡ built w → page_tree t s ≡ built w
unfolding page_tree
page_built t s w own h = ap (λ fault. unless_faulty fault (tree_of_text t s)) own.sound ∙ h

pub pages_are_built : PagesAreBuilt
pages_are_built t number size k h l =
    let s : List ℕ = page number size in
    let own = pages_are_texts number size h l in
    let g = page_grows t k number size h l in
    let text = text_built t s g own in
    let whole = page_built t s g.tree own text in
    record { tree = g.tree; of_page = whole; of_text = text; settled = pages_are_settled t s g.tree (names_of_table t k) whole }
