-- Places in a text at which parts of it end.
use Rattle.std.specs.Prelude.{◌≡◌, ℕ, ◌+◌, ◌≤◌, ◌<◌, Bool, ◌||◌, true, false, ◌==◌, List, map, drop, slice_index, slice_range, IsCharBoundary}
use Rattle.hm_base.specs.Bytes.{Cut, is_space, lower}
use Rattle.hm_base.specs.Forms.{is_small, is_tag_name}
use Rattle.hm_scan.specs.Tags.{is_name_byte, is_later_byte, is_unquoted_byte, attribute_at}
use Rattle.hm_refs.specs.Names.{Entry}
use Rattle.hm_scan.specs.Reading.{is_bad_name}
use Rattle.hm_scan.specs.Values.{read_value}
use Rattle.hm_scan.specs.declared.attribute.WrittenAttribute.{WrittenAttribute}
use Rattle.hm_scan.specs.declared.attribute.Value.{Value}
use Rattle.hm_scan.specs.declared.tag_runs.ByteRun.{ByteRun}
use Rattle.hm_scan.specs.declared.tag_runs.ByteRun.TheVariants.{Space, Gap, TagName, Letter, AttributeName, Unquoted}

-- whitespace or '/'
unfoldable pub is_gap_byte : ℕ → Bool
is_gap_byte c = is_space c || c == 47

-- the test that a run's bytes pass
abbrev pub test_of : ByteRun → ℕ → Bool
test_of Space = is_space
test_of Gap = is_gap_byte
test_of TagName = is_name_byte
test_of Letter = is_small
test_of AttributeName = is_later_byte
test_of Unquoted = is_unquoted_byte

-- the name of an element that is read, and as it is written
pub record IsPlainName (name : List ℕ) : Type 0 where
  pub is : is_tag_name name ≡ true
  pub lowered : map lower name ≡ name

-- a name of an attribute that isn't refused, and is read as it is written
pub record IsOrdinaryName (name : List ℕ) : Type 0 where
  pub good : is_bad_name name ≡ false
  pub lowered : map lower name ≡ name

-- a value that is read as it is written
abbrev pub IsPlainValue : List ℕ → Type 0
IsPlainValue value = (t : List Entry) → read_value t value ≡ value

-- a cut of the rest of the text: what is before it stands between two places, and what follows it begins at a third
pub record IsCutAt (k : Cut) (s : List ℕ) (v : Value) : Type 0 where
  pub before : k.before ≡ slice_range s v.from v.to
  pub after : k.after ≡ drop v.after s
  pub ordered : v.from ≤ v.to
  pub forward : v.to ≤ v.after
  pub starts : IsCharBoundary s v.from
  pub ends : IsCharBoundary s v.to
  pub rest : IsCharBoundary s v.after
  pub plain : v.plain ≡ true → IsPlainValue (slice_range s v.from v.to)

-- the attribute that begins at a place
pub record IsAttributeAt (s : List ℕ) (at : ℕ) (a : WrittenAttribute) : Type 0 where
  pub is : attribute_at (slice_index s at) (drop (at + 1) s) ≡ record { attribute = record { name = slice_range s at a.name_to; value = slice_range s a.value.from a.value.to }; rest = drop a.value.after s }
  pub plain : a.plain ≡ true → IsOrdinaryName (slice_range s at a.name_to)
  pub plain_value : a.value.plain ≡ true → IsPlainValue (slice_range s a.value.from a.value.to)
  pub forward : at < a.name_to
  pub after : a.name_to ≤ a.value.after
  pub ordered : a.value.from ≤ a.value.to
  pub name_ends : IsCharBoundary s a.name_to
  pub value_starts : IsCharBoundary s a.value.from
  pub value_ends : IsCharBoundary s a.value.to
  pub rest : IsCharBoundary s a.value.after
