-- What comes next in a tag after its name.
use Rattle.std.specs.Prelude.{◌≡◌, ℕ, ◌≤◌, ◌<◌, Bool, List, [], drop, slice_range, Some, None, IsCharBoundary}
use Rattle.hm_base.specs.Walks as walks
use Rattle.hm_scan.specs.Tags.{with_attribute, cut_tag}
use Rattle.hm_scan.specs.TagPlaces.{IsAttributeAt}
use Rattle.hm_scan.specs.declared.attribute.WrittenAttribute.{WrittenAttribute}
use Rattle.hm_scan.specs.declared.tag_parts.TagPart.{TagPart}
use Rattle.hm_scan.specs.declared.tag_parts.TagPart.TheVariants.{Nothing, TagEnd, Pair}

-- an attribute of a text, name and value as they are written
abbrev pub written_in : List ℕ → ℕ → WrittenAttribute → walks.Attribute
written_in s at a = record { name = slice_range s at a.name_to; value = slice_range s a.value.from a.value.to }

pub record IsTagEnd (s : List ℕ) (from : ℕ) (slash : Bool) (after : ℕ) : Type 0 where
  pub cut : cut_tag (drop from s) ≡ Some (record { attributes = []; slash = slash; rest = drop after s })
  pub forward : from < after
  pub rest : IsCharBoundary s after

pub record IsPair (s : List ℕ) (from at : ℕ) (a : WrittenAttribute) : Type 0 where
  pub cut : cut_tag (drop from s) ≡ with_attribute (written_in s at a) (cut_tag (drop a.value.after s))
  pub forward : from ≤ at
  pub starts : IsCharBoundary s at
  pub is : IsAttributeAt s at a

-- the part of a tag that comes next from a place on
abbrev pub IsPart : List ℕ → ℕ → TagPart → Type 0
IsPart s from Nothing = cut_tag (drop from s) ≡ None
IsPart s from (TagEnd slash after) = IsTagEnd s from slash after
IsPart s from (Pair at a) = IsPair s from at a
