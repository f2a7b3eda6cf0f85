-- What is read of a tag after its name.
use Rattle.std.specs.Prelude.{◌≡◌, ℕ, ◌<◌, ◌≤◌, Bool, true, false, List, [], ◌∷◌, ◌++◌, if◌then◌else◌, drop, length, Some, None, IsCharBoundary}
use Rattle.hm_base.specs.Walks.{Attribute, has_name}
use Rattle.hm_refs.specs.Names.{Entry}
use Rattle.hm_tree.specs.declared.tokens.ScanFault.{ScanFault}
use Rattle.hm_tree.specs.declared.tokens.ScanFault.TheVariants as faults
use Rattle.hm_scan.specs.Tags.{CutTag, cut_tag}
use Rattle.hm_scan.specs.Reading.{attribute_limit, has_bad_name, read_attributes}
use Rattle.hm_scan.specs.declared.collected.Collected.{Collected}
use Rattle.hm_scan.specs.declared.tag_body.TagBody.{TagBody}

-- an attribute appended to those that are there, unless its name is there
abbrev pub added : List Attribute → Attribute → List Attribute
added attributes a = if has_name a.name attributes then attributes else attributes ++ a ∷ []

-- these attributes, as they are written, were taken, and of them the first of each name are kept
pub record IsCollected (t : List Entry) (written : List Attribute) (c : Collected) (attrs : List Attribute) : Type 0 where
  pub count : c.count ≡ length written
  pub bad : c.has_bad_name ≡ has_bad_name written
  pub few : length attrs ≤ c.count
  pub read : c.keeps ≡ true → has_bad_name written ≡ false → length written ≤ attribute_limit → attrs ≡ read_attributes t written

-- the tag whose name ends at a place, with the attributes that are kept
pub record IsTagBody (t : List Entry) (keeps : Bool) (s : List ℕ) (from : ℕ) (attrs : List Attribute) (b : TagBody) : Type 0 where
  pub tag : CutTag
  pub is : cut_tag (drop from s) ≡ Some tag
  pub slash : b.slash ≡ tag.slash
  pub rest : drop b.after s ≡ tag.rest
  pub kept : b.collected.keeps ≡ keeps
  pub collected : IsCollected t tag.attributes b.collected attrs
  pub forward : from < b.after
  pub boundary : IsCharBoundary s b.after

-- why there is none
abbrev pub HasNoBody : List ℕ → ℕ → ScanFault → Type 0
HasNoBody s from faults.Cut = cut_tag (drop from s) ≡ None
HasNoBody s from faults.OutOfMemory = Unit {0}
HasNoBody s from fault = ⊥
