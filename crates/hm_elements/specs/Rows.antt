-- What is kept for each number.
use Rattle.std.specs.Prelude.{ℕ, Bool, ◌/◌, ◌^◌, ◌==◌, bit_and, List, [], ◌∷◌, ◌++◌, Option, Some, None, get_or}
use Rattle.hm_elements.specs.declared.name.Name.{Name}
use Rattle.hm_elements.specs.declared.rows.TheConstants.{FLAGS}
use Rattle.hm_elements.specs.Attributes.{nothing_blank}
use Rattle.hm_elements.specs.Names.{words, find, script, noscript, div}
use Rattle.hm_elements.specs.Nesting.{children, stands_by_children, noscript_children}
use Rattle.hm_elements.specs.Numbers.{text_of}
use Rattle.hm_elements.specs.Omission.{head_takers, up_of_p}
use Rattle.hm_elements.specs.Paths.{blank_parents}
use Rattle.hm_elements.specs.Tables.{roots, voids, rcdata_names, raw_names, refused_names, headings, sections, cells, metadata_names, unnested_names, blocks, paragraph_ends, boundaries, svg_boundaries, block_names, svg_names, preformatted, space_parents, boolean_attributes}

-- the text of a name that may be missing
abbrev pub optional_text : Option Name → Option (List ℕ)
optional_text None = None
optional_text (Some name) = Some (text_of name.number)

-- the lists of names for which a flag is kept
unfoldable pub flags : List (List (List ℕ))
flags =
    roots
    ∷ voids
    ∷ rcdata_names
    ∷ (raw_names ++ script ∷ [])
    ∷ refused_names
    ∷ headings
    ∷ sections
    ∷ cells
    ∷ metadata_names
    ∷ unnested_names
    ∷ paragraph_ends
    ∷ boundaries
    ∷ svg_boundaries
    ∷ block_names
    ∷ svg_names
    ∷ preformatted
    ∷ blank_parents
    ∷ space_parents
    ∷ boolean_attributes
    ∷ nothing_blank
    ∷ head_takers
    ∷ noscript_children
    ∷ (noscript ∷ [])
    ∷ (div ∷ [])
    ∷ words "dt dd"
    ∷ blocks
    ∷ up_of_p
    ∷ []

-- the list with this flag
unfoldable pub listed_at : ℕ → List (List ℕ)
listed_at k = get_or flags k []

-- the bit of a mask at a place
unfoldable pub bit_at : ℕ → ℕ → Bool
bit_at mask k = bit_and (mask / 2 ^ k) 1 == 1

-- the flags of a number
unfoldable pub flags_at : ℕ → ℕ
flags_at k = get_or FLAGS k 0

-- what a table says of a pair of numbers: the bit of the class of the first in the mask of the second
unfoldable pub is_told : List ℕ → List ℕ → ℕ → ℕ → Bool
is_told classes masks i j = bit_at (get_or masks j 0) (get_or classes i 0)

-- a child of that name stands in the parent, if what is around the parent says nothing more
unfoldable pub stands_in : List ℕ → List ℕ → Bool
stands_in parent n = stands_by_children (find parent children) n parent None
