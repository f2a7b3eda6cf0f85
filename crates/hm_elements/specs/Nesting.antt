-- Which element may stand in which, and which closes before which tag.
use Rattle.std.specs.Prelude.{ℕ, Bool, false, not, ◌&&◌, ◌||◌, List, [], ◌∷◌, ◌++◌, Option, Some, None, if◌then◌else◌, bytes_eq}
use Rattle.hm_elements.specs.Names.{words, is_among, PairRow, row, find, is_pair, head, noscript, div, dl, table, colgroup, col, tbody, tr}
use Rattle.hm_elements.specs.Tables.{voids, rcdata_names, raw_names, sections, cells, parts, blocks, paragraph_ends, is_section}

-- Parents with children of their own.
unfoldable pub children : List PairRow
children =
    row "head" (words "base link meta noscript script style title")
    ∷ row "table" (words "caption colgroup thead tbody tfoot script style")
    ∷ row "thead tbody tfoot" (words "tr script style")
    ∷ row "tr" (words "td th script style")
    ∷ row "colgroup" (words "col")
    ∷ row "select" (words "option optgroup")
    ∷ row "optgroup" (words "option")
    ∷ record { heads = words "option script" ++ rcdata_names ++ raw_names ++ voids; names = [] }
    ∷ []

-- The children of noscript in head.
unfoldable pub noscript_children : List (List ℕ)
noscript_children = words "link meta style"

-- Children with parents of their own, under parents without children of their own. dt and dd also stand under a div in dl.
unfoldable pub own_parents : List PairRow
own_parents =
    row "li" (words "ul ol menu dir")
    ∷ row "dt dd" (words "dl")
    ∷ row "rt rp" (words "ruby")
    ∷ row "option" (words "datalist")
    ∷ row "optgroup" []
    ∷ []

-- Names that stand only under parents with children of their own, and html and body.
unfoldable pub bound_names : List (List ℕ)
bound_names = words "html head body base title" ++ parts

abbrev pub is_name : List ℕ → Option (List ℕ) → Bool
is_name n None = false
is_name n (Some m) = bytes_eq m n

-- a child under a parent without children of its own, by the child's own parents
abbrev pub stands_by_parents : Option (List (List ℕ)) → List ℕ → List ℕ → Option (List ℕ) → Bool
stands_by_parents (Some ps) n parent grand = is_among parent ps || (is_among n (words "dt dd") && (bytes_eq parent div && is_name dl grand))
stands_by_parents None n parent grand = not (is_among n bound_names)

-- a child, by the children of its parent
abbrev pub stands_by_children : Option (List (List ℕ)) → List ℕ → List ℕ → Option (List ℕ) → Bool
stands_by_children (Some ns) n parent grand = is_among n ns
stands_by_children None n parent grand = stands_by_parents (find n own_parents) n parent grand

-- An HTML element of that name may stand under this parent, which itself stands under grand.
unfoldable pub may_stand : List ℕ → List ℕ → Option (List ℕ) → Bool
may_stand n parent grand =
    if bytes_eq parent noscript && is_name head grand then is_among n noscript_children
    else stands_by_children (find parent children) n parent grand

abbrev pub without : List (List ℕ) → List (List ℕ) → List (List ℕ)
without ms [] = []
without ms (n ∷ ns) = if is_among n ms then without ms ns else n ∷ without ms ns

unfoldable pub closed_by_start_rows : List PairRow
closed_by_start_rows =
    row "p" (paragraph_ends ++ words "rt rp" ++ parts)
    ∷ row "li" (words "li")
    ∷ row "dt dd" (words "dt dd")
    ∷ row "rt rp" (words "rt rp")
    ∷ row "option" (words "option optgroup")
    ∷ row "optgroup" (words "optgroup")
    ∷ row "td th caption" parts
    ∷ row "tr" (without (words "td th") parts)
    ∷ row "thead tbody tfoot" (without (words "td th tr") parts)
    ∷ []

-- The open element closes before a start tag of that name.
unfoldable pub is_closed_by_start : List ℕ → List ℕ → Bool
is_closed_by_start current next = if bytes_eq current colgroup then not (bytes_eq next col) else is_pair closed_by_start_rows current next

unfoldable pub end_rows : List PairRow
end_rows =
    row "p" (without (words "hr p") blocks ++ words "button li dd dt object td th caption tr" ++ sections)
    ∷ row "li" (words "ul ol menu dir")
    ∷ row "dt dd" (words "dl div")
    ∷ row "option" (words "optgroup select datalist")
    ∷ row "optgroup" (words "select")
    ∷ row "rt rp" (words "ruby")
    ∷ row "td th" (words "tr table" ++ sections)
    ∷ row "tr" (words "table" ++ sections)
    ∷ row "thead tbody tfoot caption colgroup" (words "table")
    ∷ []

-- The open element ends with an end tag of that name.
unfoldable pub is_ended_by : List ℕ → List ℕ → Bool
is_ended_by child ending = is_pair end_rows child ending

-- The elements that are made under this parent before one of that name opens, innermost first.
unfoldable pub made_under : List ℕ → List ℕ → List (List ℕ)
made_under parent n =
    if bytes_eq parent table then
    (if bytes_eq n tr then tbody ∷ []
    else if is_among n cells then tr ∷ tbody ∷ []
    else if bytes_eq n col then colgroup ∷ []
    else [])
    else if is_section parent && is_among n cells then tr ∷ []
    else []
