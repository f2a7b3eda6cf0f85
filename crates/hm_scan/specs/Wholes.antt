-- A tag with its name.
use Rattle.std.specs.Prelude.{◌≡◌, ℕ, ◌<◌, Bool, true, List, drop, Option, Some, None, string_bytes, IsCharBoundary}
use Rattle.hm_base.specs.Bytes.{rest_after}
use Rattle.hm_refs.specs.Names.{Entry}
use Rattle.hm_tree.specs.declared.tokens.ScanFault.{ScanFault}
use Rattle.hm_tree.specs.declared.tokens.ScanFault.TheVariants as faults
use Rattle.hm_scan.specs.Tags.{CutTag, is_name_byte, cut_tag}
use Rattle.hm_scan.specs.Reading.{tag_name, tag_fault, read_attributes}
use Rattle.hm_tree.specs.declared.tokens.Tag as places
use Rattle.hm_scan.specs.declared.tag.Whole.{Whole}

abbrev pub fault_by : List ℕ → Option CutTag → Option ScanFault
fault_by name None = Some faults.Cut
fault_by name (Some g) = tag_fault name g.attributes

-- why the tag whose name begins here is refused, if it is
abbrev pub fault_at : List ℕ → Option ScanFault
fault_at s = fault_by (tag_name s) (cut_tag (rest_after is_name_byte s))

-- the tag whose name begins at a place, with its name and, where they are wanted, its attributes in a place of their own
pub record IsWhole (t : List Entry) (keeps : Bool) (s : List ℕ) (from : ℕ) (read : places.Tag) (w : Whole) : Type 0 where
  pub accepted : fault_at (drop from s) ≡ None
  pub name : string_bytes read.name ≡ tag_name (drop from s)
  pub tag : CutTag
  pub cut : cut_tag (rest_after is_name_byte (drop from s)) ≡ Some tag
  pub attrs : keeps ≡ true → read.attrs ≡ read_attributes t tag.attributes
  pub slash : w.slash ≡ tag.slash
  pub rest : drop w.after s ≡ tag.rest
  pub forward : from < w.after
  pub boundary : IsCharBoundary s w.after
