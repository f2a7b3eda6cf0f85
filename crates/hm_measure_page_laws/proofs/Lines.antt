-- Each line of a generated page is read, whatever lines follow it.
use Rattle.std.proofs.Common.{◌≡◌, ℕ, zero, suc, ◌^◌, ◌<◌, false, List, [], ◌∷◌, ◌++◌, codes, refl, ap, sym, subst, ◌∙◌, arith, append_assoc}
use Rattle.std.specs.Fmt.{decimal}
use Rattle.hm_base.specs.Bytes.{is_letter}
use Rattle.hm_base.specs.Forms.{has_byte}
use Rattle.hm_base.specs.Walks.{Event, end}
use Rattle.hm_elements.specs.Names.{p}
use Rattle.hm_refs.specs.Names.{Entry}
use Rattle.hm_refs.specs.Tables.{IsTable}
use Rattle.hm_tree.specs.Tokens as tokens
use Rattle.hm_token_laws.specs.First.{ordinary}
use Rattle.hm_token_laws.proofs.References.{no_byte_both}
use Rattle.hm_construction_laws.specs.Steps.{Construction, went, under_body, step}
use Rattle.hm_construction_laws.specs.Trees.{mode_of}
use Rattle.hm_measure_page.specs.declared.block.Block.{Block}
use Rattle.hm_measure_page.specs.declared.block.Block.TheVariants.{Paragraph, Items, Table, Titled}
use Rattle.hm_measure_page.specs.Pages.{chance, chosen, line, lines}
use Rattle.hm_measure_page_laws.proofs.Pieces.{Ends, tag}
use Rattle.hm_measure_page_laws.proofs.Texts.{Grows, token_grows, body_text_grows, decimal_figures, figures_no_sign}
use Rattle.hm_measure_page_laws.proofs.Tags.{ul, li, table, tr, td, titled, inside, in_table, at, Named, names, start_next, end_next, titled_next, tag_begins, end_tag_begins}
use Rattle.hm_measure_page_laws.proofs.Steps.{BeginsLine, in_body_begins, paragraph_ends_here, item_steps, cell_steps, block_modes, text_places}

-- ---- Tags and digits

start_grows : (t : List Entry) → IsTable t → (st next : Construction) (es : List Event) (n rest : List ℕ) → Named n → mode_of st.path ≡ ordinary → step st (tokens.start_tag n [] false) ≡ went es next → Grows t next rest → Grows t st ((60 ∷ (n ++ 62 ∷ [])) ++ rest)
start_grows t k st next es n rest named m goes more = token_grows t k ordinary st next es ((60 ∷ (n ++ 62 ∷ [])) ++ rest) (tokens.start_tag n [] false) rest tt m (start_next t n rest named) goes more

end_grows : (t : List Entry) → IsTable t → (st next : Construction) (es : List Event) (n rest : List ℕ) → Named n → mode_of st.path ≡ ordinary → step st (tokens.end_tag n) ≡ went es next → Grows t next rest → Grows t st ((60 ∷ 47 ∷ (n ++ 62 ∷ [])) ++ rest)
end_grows t k st next es n rest named m goes more = token_grows t k ordinary st next es ((60 ∷ 47 ∷ (n ++ 62 ∷ [])) ++ rest) (tokens.end_tag n) rest tt m (end_next t n rest named) goes more

no_sign : (n : ℕ) → n < 2 ^ 32 → has_byte 60 (decimal n) ≡ false
no_sign n h = figures_no_sign (decimal n) (decimal_figures n (omega arith))

line_end : (t : List Entry) → IsTable t → (rest : List ℕ) → Ends rest → Grows t (at under_body) rest → Grows t (at under_body) (10 ∷ rest)
line_end t k rest e more = body_text_grows t k under_body (10 ∷ []) rest text_places.in_body refl e more

-- ---- Blocks

-- the end of a paragraph, and of its line
paragraph_closes : (t : List Entry) → IsTable t → (rest : List ℕ) → Ends rest → Grows t (at under_body) rest → Grows t (at (inside p under_body)) (codes "</p>\n" ++ rest)
paragraph_closes t k rest e more = end_grows t k (at (inside p under_body)) (at under_body) (end p false ∷ []) p (10 ∷ rest) names.paragraph text_places.in_paragraph.mode_is paragraph_ends_here (line_end t k rest e more)

paragraph_text : (t : List Entry) → IsTable t → (s rest : List ℕ) → has_byte 60 s ≡ false → Ends rest → Grows t (at under_body) rest → Grows t (at (inside p under_body)) (s ++ (codes "</p>\n" ++ rest))
paragraph_text t k s rest none e more =
    body_text_grows t k (inside p under_body) s (codes "</p>\n" ++ rest) text_places.in_paragraph none (tag (codes "/p>\n" ++ rest) (end_tag_begins 112 (codes ">\n" ++ rest))) (paragraph_closes t k rest e more)

paragraph_grows : (t : List Entry) → IsTable t → (st : Construction) → BeginsLine st → (n : ℕ) (rest : List ℕ) → n < 2 ^ 32 → Ends rest → Grows t (at under_body) rest → Grows t st (line Paragraph n ++ rest)
paragraph_grows t k st here n rest h e more =
    let s : List ℕ = codes "Item " ++ (decimal n ++ codes " &amp; more") in
    let none : has_byte 60 s ≡ false = no_byte_both 60 (decimal n) (codes " &amp; more") (no_sign n h) refl in
    let opened : Grows t st (codes "<p>" ++ (s ++ (codes "</p>\n" ++ rest))) = start_grows t k st (at (inside p under_body)) _ p (s ++ (codes "</p>\n" ++ rest)) names.paragraph here.mode_is (here.paragraph []) (paragraph_text t k s rest none e more) in
    let cut : line Paragraph n ++ rest ≡ codes "<p>" ++ (s ++ (codes "</p>\n" ++ rest)) =
    ap (λ x. codes "<p>Item " ++ x) (append_assoc (decimal n) (codes " &amp; more</p>\n") rest ∙ sym (append_assoc (decimal n) (codes " &amp; more") (codes "</p>\n" ++ rest))) in
    subst (Grows t st) (sym cut) opened

titled_grows : (t : List Entry) → IsTable t → (st : Construction) → BeginsLine st → (n : ℕ) (rest : List ℕ) → n < 2 ^ 32 → Ends rest → Grows t (at under_body) rest → Grows t st (line Titled n ++ rest)
titled_grows t k st here n rest h e more =
    let inner : List ℕ = decimal n ++ (codes "</p>\n" ++ rest) in
    let opened : Grows t st (codes "<p title=\"a b\">" ++ inner) = token_grows t k ordinary st (at (inside p under_body)) _ (codes "<p title=\"a b\">" ++ inner) (tokens.start_tag p titled false) inner tt here.mode_is (titled_next t inner) (here.paragraph titled) (paragraph_text t k (decimal n) rest (no_sign n h) e more) in
    let cut : line Titled n ++ rest ≡ codes "<p title=\"a b\">" ++ inner = ap (λ x. codes "<p title=\"a b\">" ++ x) (append_assoc (decimal n) (codes "</p>\n") rest) in
    subst (Grows t st) (sym cut) opened

-- an item with a text
item_grows : (t : List Entry) → IsTable t → (s rest : List ℕ) → has_byte 60 s ≡ false → Grows t (at (inside ul under_body)) rest → Grows t (at (inside ul under_body)) (codes "<li>" ++ (s ++ (codes "</li>" ++ rest)))
item_grows t k s rest none more =
    let closed : Grows t (at (inside li (inside ul under_body))) (codes "</li>" ++ rest) = end_grows t k (at (inside li (inside ul under_body))) (at (inside ul under_body)) _ li rest names.item text_places.in_item.mode_is item_steps.closes more in
    let words : Grows t (at (inside li (inside ul under_body))) (s ++ (codes "</li>" ++ rest)) = body_text_grows t k (inside li (inside ul under_body)) s (codes "</li>" ++ rest) text_places.in_item none (tag (codes "/li>" ++ rest) (end_tag_begins 108 (codes "i>" ++ rest))) closed in
    start_grows t k (at (inside ul under_body)) (at (inside li (inside ul under_body))) _ li (s ++ (codes "</li>" ++ rest)) names.item block_modes.list item_steps.opens words

items_grow : (t : List Entry) → IsTable t → (st : Construction) → BeginsLine st → (n : ℕ) (rest : List ℕ) → n < 2 ^ 32 → Ends rest → Grows t (at under_body) rest → Grows t st (line Items n ++ rest)
items_grow t k st here n rest h e more =
    let closed : Grows t (at (inside ul under_body)) (codes "</ul>\n" ++ rest) = end_grows t k (at (inside ul under_body)) (at under_body) _ ul (10 ∷ rest) names.list block_modes.list item_steps.ends (line_end t k rest e more) in
    let second : Grows t (at (inside ul under_body)) (codes "<li>two</li></ul>\n" ++ rest) = item_grows t k (codes "two") (codes "</ul>\n" ++ rest) refl closed in
    let both : Grows t (at (inside ul under_body)) (codes "<li>" ++ (decimal n ++ (codes "</li><li>two</li></ul>\n" ++ rest))) = item_grows t k (decimal n) (codes "<li>two</li></ul>\n" ++ rest) (no_sign n h) second in
    let opened : Grows t st (codes "<ul><li>" ++ (decimal n ++ (codes "</li><li>two</li></ul>\n" ++ rest))) = start_grows t k st (at (inside ul under_body)) _ ul (codes "<li>" ++ (decimal n ++ (codes "</li><li>two</li></ul>\n" ++ rest))) names.list here.mode_is here.items both in
    let cut : line Items n ++ rest ≡ codes "<ul><li>" ++ (decimal n ++ (codes "</li><li>two</li></ul>\n" ++ rest)) = ap (λ x. codes "<ul><li>" ++ x) (append_assoc (decimal n) (codes "</li><li>two</li></ul>\n") rest) in
    subst (Grows t st) (sym cut) opened

table_closes : (t : List Entry) → IsTable t → (rest : List ℕ) → Ends rest → Grows t (at under_body) rest → Grows t (at (inside td (inside tr in_table))) (codes "</td></tr></table>\n" ++ rest)
table_closes t k rest e more =
    let closed : Grows t (at in_table) (codes "</table>\n" ++ rest) = end_grows t k (at in_table) (at under_body) _ table (10 ∷ rest) names.whole_table block_modes.section cell_steps.ends (line_end t k rest e more) in
    let row : Grows t (at (inside tr in_table)) (codes "</tr></table>\n" ++ rest) = end_grows t k (at (inside tr in_table)) (at in_table) _ tr (codes "</table>\n" ++ rest) names.row block_modes.row cell_steps.row_closes closed in
    end_grows t k (at (inside td (inside tr in_table))) (at (inside tr in_table)) _ td (codes "</tr></table>\n" ++ rest) names.cell text_places.in_cell.mode_is cell_steps.cell_closes row

table_grows : (t : List Entry) → IsTable t → (st : Construction) → BeginsLine st → (n : ℕ) (rest : List ℕ) → n < 2 ^ 32 → Ends rest → Grows t (at under_body) rest → Grows t st (line Table n ++ rest)
table_grows t k st here n rest h e more =
    let after : List ℕ = codes "</td></tr></table>\n" ++ rest in
    let words : Grows t (at (inside td (inside tr in_table))) (decimal n ++ after) = body_text_grows t k (inside td (inside tr in_table)) (decimal n) after text_places.in_cell (no_sign n h) (tag (codes "/td></tr></table>\n" ++ rest) (end_tag_begins 116 (codes "d></tr></table>\n" ++ rest))) (table_closes t k rest e more) in
    let cell : Grows t (at (inside tr in_table)) (codes "<td>" ++ (decimal n ++ after)) = start_grows t k (at (inside tr in_table)) (at (inside td (inside tr in_table))) _ td (decimal n ++ after) names.cell block_modes.row cell_steps.cell_opens words in
    let row : Grows t (at (inside table under_body)) (codes "<tr><td>" ++ (decimal n ++ after)) = start_grows t k (at (inside table under_body)) (at (inside tr in_table)) _ tr (codes "<td>" ++ (decimal n ++ after)) names.row block_modes.whole_table cell_steps.row_opens cell in
    let opened : Grows t st (codes "<table><tr><td>" ++ (decimal n ++ after)) = start_grows t k st (at (inside table under_body)) _ table (codes "<tr><td>" ++ (decimal n ++ after)) names.whole_table here.mode_is here.cells row in
    let cut : line Table n ++ rest ≡ codes "<table><tr><td>" ++ (decimal n ++ after) = ap (λ x. codes "<table><tr><td>" ++ x) (append_assoc (decimal n) (codes "</td></tr></table>\n") rest) in
    subst (Grows t st) (sym cut) opened

-- ---- Lines

line_grows : (t : List Entry) → IsTable t → (st : Construction) → BeginsLine st → (b : Block) (n : ℕ) (rest : List ℕ) → n < 2 ^ 32 → Ends rest → Grows t (at under_body) rest → Grows t st (line b n ++ rest)
line_grows t k st here Paragraph n rest h e more = paragraph_grows t k st here n rest h e more
line_grows t k st here Items n rest h e more = items_grow t k st here n rest h e more
line_grows t k st here Table n rest h e more = table_grows t k st here n rest h e more
line_grows t k st here Titled n rest h e more = titled_grows t k st here n rest h e more

line_begins : (b : Block) (n : ℕ) (rest : List ℕ) → Ends (line b n ++ rest)
unfolding is_letter
line_begins Paragraph n rest = tag _ (tag_begins 112 _ refl)
line_begins Items n rest = tag _ (tag_begins 117 _ refl)
line_begins Table n rest = tag _ (tag_begins 116 _ refl)
line_begins Titled n rest = tag _ (tag_begins 112 _ refl)

pub lines_begin : (number size : ℕ) (rest : List ℕ) → Ends rest → Ends (lines number size ++ rest)
lines_begin number zero rest e = e
lines_begin number (suc k) rest e =
    let last : List ℕ = line (chosen (chance number (suc k))) (suc k) in
    subst Ends (sym (append_assoc (lines number k) last rest)) (lines_begin number k (last ++ rest) (line_begins (chosen (chance number (suc k))) (suc k) rest))

-- The lines of a page are read from a state in which blocks may begin, before what can be read from there and in body.
pub lines_grow : (t : List Entry) → IsTable t → (st : Construction) → BeginsLine st → (number size : ℕ) (rest : List ℕ) → size < 2 ^ 32 → Ends rest → Grows t st rest → Grows t (at under_body) rest → Grows t st (lines number size ++ rest)
lines_grow t k st here number zero rest h e first more = first
lines_grow t k st here number (suc j) rest h e first more =
    let b : Block = chosen (chance number (suc j)) in
    let last : List ℕ = line b (suc j) in
    subst (Grows t st) (sym (append_assoc (lines number j) last rest))
    (lines_grow t k st here number j (last ++ rest) (omega arith) (line_begins b (suc j) rest) (line_grows t k st here b (suc j) rest h e more) (line_grows t k (at under_body) in_body_begins b (suc j) rest h e more))
