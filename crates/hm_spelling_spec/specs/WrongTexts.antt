-- What is no spelling, and why: texts that a reader may take, but not as the tree that is meant.
use Rattle.std.specs.Prelude.{◌≡◌, ◌==◌, Bool, true, false, [], ◌∷◌, Option, Some, None, codes, refl}
use mathlib.Core.Bool.{false≢true}
use mathlib.Core.Path.{ap}
use Rattle.hm_base.specs.Walks.{start, text, comment, end}
use Rattle.hm_base.specs.declared.plain.SpellRules.{SpellRules}
use Rattle.hm_elements.specs.Names.{html, head, body, p, option, tbody}
use Rattle.hm_elements.specs.Paths.{html_element}
use Rattle.hm_markup_spec.specs.Gaps.{is_gap}
use Rattle.hm_markup_spec.specs.Tags.{unquoted, parts_slash}
use Rattle.hm_refs.specs.Examples.{seven}
use Rattle.hm_refs.specs.References.{Reference, reference}
use Rattle.hm_spelling_spec.specs.Characters.{may_stand, is_section as is_cdata, reference_to, IsAllowed}
use Rattle.hm_spelling_spec.specs.Characters as spots
use Rattle.hm_spelling_spec.specs.Omission.{may_omit_start, may_omit_end}
use Rattle.hm_spelling_spec.specs.PageExamples.{on_literals}
use Rattle.hm_spelling_spec.specs.Spellings.{wants_line_feed, opening}

abbrev usual : SpellRules
usual = record { omit = true; unquote = true; tight = false; ascii = false; frame = false }

-- the rules for a text in which the start tag of body has to stand
abbrev framed : SpellRules
framed = record { omit = true; unquote = true; tight = false; ascii = false; frame = true }

-- the end tag of p before that of a span
p_in_span : may_omit_end usual p false (html_element (codes "span") ∷ []) (end (codes "span") false ∷ []) ≡ false
unfolding on_literals
p_in_span = refl

-- the end tag of option at the end of datalist: it would be read back
option_in_datalist : may_omit_end usual option false (html_element (codes "datalist") ∷ []) (end (codes "datalist") false ∷ []) ≡ false
unfolding on_literals
option_in_datalist = refl

-- the start tag of tbody after a section whose end tag was left out
two_sections : may_omit_start usual (Some (codes "thead")) tbody false [] (start (codes "tr") false [] ∷ []) ≡ false
unfolding on_literals
two_sections = refl

-- the start tag of body before whitespace
space_in_body : may_omit_start usual None body false [] (text (codes " x") false ∷ []) ≡ false
unfolding on_literals
space_in_body = refl

-- the start tag of body where it has to stand as a frame, whatever follows
framed_body : may_omit_start framed None body false [] [] ≡ false
unfolding on_literals
framed_body = refl

-- the start tag of head before a comment in it, which would be a child of html
comment_in_head : may_omit_start usual None head false [] (comment (codes "x") ∷ []) ≡ false
unfolding on_literals
comment_in_head = refl

-- the end tag of body before a comment after it, which would be a child of body
comment_after_body : may_omit_end usual body false (html_element html ∷ []) (comment (codes "x") ∷ []) ≡ false
unfolding on_literals
comment_after_body = refl

-- `&not` before `in;`, which is another character's name
longer_name : reference seven false (codes "&notin;") ≡ Some (record { points = 8713 ∷ []; len = 7 })
unfolding on_literals
longer_name = refl

abbrev has_four_bytes : Option Reference → Bool
has_four_bytes (Some r) = r.len == 4
has_four_bytes None = false

-- so `&not` isn't allowed there
shorter_name : IsAllowed seven (record { ascii = false; refers = λ c. true }) spots.text (reference_to (codes "&not") (172 ∷ [])) (codes "in;") → ⊥
unfolding on_literals
shorter_name (h, e) = false≢true (ap has_four_bytes e)

-- one line feed alone in pre before a line feed
first_line_feed : wants_line_feed opening (html_element (codes "pre") ∷ []) (10 ∷ 120 ∷ []) ≡ true
unfolding on_literals
first_line_feed = refl

-- a value without quotes that holds '='
equals_unquoted : may_stand false spots.unquoted 61 ≡ false
unfolding on_literals
equals_unquoted = refl

-- '/' directly after a value without quotes
slash_after_value : is_gap (parts_slash unquoted) [] ≡ false
unfolding on_literals
slash_after_value = refl

-- a section that holds `]]>`
split_section : is_cdata false (codes "a]]>b") ≡ false
unfolding on_literals
split_section = refl
