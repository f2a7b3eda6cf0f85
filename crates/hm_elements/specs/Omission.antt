-- The tables of tags that may be left out. Those of html, head and body depend on no name.
use Rattle.std.specs.Prelude.{ℕ, Bool, true, not, ◌&&◌, ◌||◌, List, [], ◌∷◌, ◌++◌, if◌then◌else◌, codes, bytes_eq}
use Rattle.hm_elements.specs.Names.{words, is_among, PairRow, row, is_pair, p, option, colgroup, tbody, body}
use Rattle.hm_elements.specs.Tables.{sections, blocks, is_section}
use Rattle.hm_elements.specs.Nesting.{without}

unfoldable pub before_rows : List PairRow
before_rows =
    row "caption" (words "colgroup" ++ sections)
    ∷ row "thead tbody" (words "tbody tfoot")
    ∷ row "tr" (words "tr")
    ∷ row "td th" (words "td th")
    ∷ row "li" (words "li")
    ∷ row "dt dd" (words "dt dd")
    ∷ row "rt rp" (words "rt rp")
    ∷ row "optgroup" (words "optgroup")
    ∷ row "option" (words "option optgroup")
    ∷ row "p" blocks
    ∷ []

-- The end tag of this element may be left out before the start tag of that HTML element.
unfoldable pub end_tag_optional_before : List ℕ → List ℕ → Bool
end_tag_optional_before n next = if bytes_eq n colgroup then true else is_pair before_rows n next

-- elements whose end tag may be left out at the end of each parent
unfoldable pub up_names : List (List ℕ)
up_names = words "caption colgroup tbody tfoot tr td th li dd rt rp optgroup"

-- the parents at whose end the end tag of p may be left out
unfoldable pub up_of_p : List (List ℕ)
up_of_p = body ∷ without (words "hr p table") blocks ++ words "button li dd dt td th caption object"

-- The end tag of this element may be left out at the end of this parent.
unfoldable pub end_tag_optional_in : List ℕ → List ℕ → Bool
end_tag_optional_in n parent =
    if bytes_eq n p then is_among parent up_of_p
    else if bytes_eq n option then not (bytes_eq parent (codes "datalist"))
    else is_among n up_names

unfoldable pub start_rows : List PairRow
start_rows = row "colgroup" (words "col") ∷ row "tbody" (words "tr") ∷ []

-- The start tag of this element may be left out before the start tag of that child.
unfoldable pub start_tag_optional_before : List ℕ → List ℕ → Bool
start_tag_optional_before n child = is_pair start_rows n child

-- Where the end tag of this element was left out, the start tag of that one after it isn't left out.
unfoldable pub start_tag_required_after : List ℕ → List ℕ → Bool
start_tag_required_after before n = (bytes_eq n tbody && is_section before) || (bytes_eq n colgroup && bytes_eq before colgroup)

-- Elements that are taken into head where no start tag of body stands before them, so that tag isn't left out there.
abbrev pub head_takers : List (List ℕ)
head_takers = words "link meta noscript script style"
