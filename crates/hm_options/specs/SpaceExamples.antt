-- Whitespace collapsed, on examples.
use Rattle.std.specs.Prelude.{◌≡◌, ℕ, true, false, List, [], ◌∷◌, ◌++◌, codes, refl}
use Rattle.hm_base.specs.Bytes.{is_space}
use Rattle.hm_base.specs.Walks.{Event, start, text, end}
use Rattle.hm_elements.specs.Names.{is_among}
use Rattle.hm_elements.specs.Tables.{space_parents, is_block, block_names, blocks, headings}
use Rattle.hm_options.specs.Space.{collapsed, keeps_space, hides_space}

abbrev tag : List ℕ → Event
tag n = start n false []

abbrev close : List ℕ → Event
close n = end n false

abbrev words : List ℕ → Event
words s = text s false

-- `<ul> <li> a  b </li> </ul>` in a body
abbrev list : List Event → List Event
list w = tag (codes "body") ∷ tag (codes "ul") ∷ (w ++ close (codes "ul") ∷ close (codes "body") ∷ [])

abbrev in_list : List Event
in_list = list (words (codes " ") ∷ tag (codes "li") ∷ words (codes " a  b ") ∷ close (codes "li") ∷ words (codes " ") ∷ [])

all_collapsed : collapsed false in_list ≡ list (tag (codes "li") ∷ words (codes "a b") ∷ close (codes "li") ∷ [])
unfolding collapsed is_space keeps_space hides_space space_parents is_among is_block block_names blocks headings
all_collapsed = refl

conservatively : collapsed true in_list ≡ list (words (codes " ") ∷ tag (codes "li") ∷ words (codes " a b ") ∷ close (codes "li") ∷ words (codes " ") ∷ [])
unfolding collapsed is_space keeps_space is_among
conservatively = refl

kept : collapsed false (tag (codes "pre") ∷ words (codes " a  b ") ∷ close (codes "pre") ∷ []) ≡ tag (codes "pre") ∷ words (codes " a  b ") ∷ close (codes "pre") ∷ []
unfolding collapsed keeps_space is_among
kept = refl
