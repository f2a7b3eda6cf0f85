-- Which tags may be left out (after HTML Standard, #optional-tags). The rules look at the element, at what stands around
-- it, and at the event directly before it, where that is an end whose tag was left out.
use Rattle.std.specs.Prelude.{ℕ, Bool, true, false, not, ◌&&◌, ◌||◌, List, [], ◌∷◌, Option, Some, None, if◌then◌else◌, bytes_eq}
use Rattle.hm_base.specs.Bytes.{is_space, head_is}
use Rattle.hm_base.specs.Walks.{Attribute, Event, start, text, end, Element, begins_text, begins_comment, begins_start, begins_end_of}
use Rattle.hm_base.specs.declared.plain.SpellRules.{SpellRules}
use Rattle.hm_elements.specs.Names.{is_among, html, head, body}
use Rattle.hm_elements.specs.Paths.{current}
use Rattle.hm_elements.specs.Omission.{end_tag_optional_before, end_tag_optional_in, start_tag_optional_before, start_tag_required_after, head_takers}

-- the name of an element whose end tag was left out directly before, if one was
abbrev pub LeftOut : Type 0
LeftOut = Option (List ℕ)

abbrev pub bars : LeftOut → List ℕ → Bool
bars None n = false
bars (Some m) n = start_tag_required_after m n

-- a text that begins with whitespace
abbrev pub begins_space : List Event → Bool
begins_space (text s raw ∷ w) = head_is is_space s
begins_space w = false

-- it is taken into head where no start tag of body stands before it
unfoldable pub head_takes : List ℕ → Bool
head_takes n = is_among n head_takers

abbrev pub begins_for_head : List Event → Bool
begins_for_head (start n foreign attributes ∷ w) = not foreign && head_takes n
begins_for_head w = false

-- the start of a child of HTML before which the start tag of this element may be left out
abbrev pub begins_child_of : List ℕ → List Event → Bool
begins_child_of n (start m foreign attributes ∷ w) = not foreign && start_tag_optional_before n m
begins_child_of n w = false

-- The start tag of an HTML element without attributes may be left out, by what stands inside it.
unfoldable pub start_falls : Bool → List ℕ → List Event → Bool
start_falls frame n w =
    if bytes_eq n html then not (begins_comment w)
    else if bytes_eq n head then begins_end_of head w || begins_start w
    else if bytes_eq n body then not frame && (not (begins_comment w) && (not (begins_space w) && not (begins_for_head w)))
    else begins_child_of n w

abbrev pub has_none : List Attribute → Bool
has_none [] = true
has_none (a ∷ attributes) = false

-- The start tag of an element may be left out; w is what follows it.
unfoldable pub may_omit_start : SpellRules → LeftOut → List ℕ → Bool → List Attribute → List Event → Bool
may_omit_start r before n foreign attributes w = r.omit && (not foreign && (has_none attributes && (not (bars before n) && start_falls r.frame n w)))

-- What follows the end of an element in this parent allows its end tag to be left out: the start of one of certain HTML
-- elements, or the end of one of certain parents.
abbrev pub end_goes : List ℕ → List ℕ → List Event → Bool
end_goes n parent (start m foreign attributes ∷ w) = not foreign && end_tag_optional_before n m
end_goes n parent (end m foreign ∷ w) = end_tag_optional_in n parent
end_goes n parent w = false

-- The end tag of an HTML element may be left out, by its parent and by what follows it.
unfoldable pub end_falls : List ℕ → List ℕ → List Event → Bool
end_falls n parent w =
    if bytes_eq n html || bytes_eq n body then not (begins_comment w)
    else if bytes_eq n head then not (begins_text w) && not (begins_comment w)
    else end_goes n parent w

-- The end tag of an element may be left out; path is that of its parent, w is what follows it.
unfoldable pub may_omit_end : SpellRules → List ℕ → Bool → List Element → List Event → Bool
may_omit_end r n foreign path w = r.omit && (not foreign && end_falls n (current path) w)
