-- The bytes that a reference takes.
use Rattle.std.specs.Prelude.{◌≡◌, ℕ, suc, Bool, true, ◌||◌, ◌==◌, List, ◌∷◌, ◌++◌, length, Some}
use Rattle.hm_base.specs.Bytes.{is_alnum, all_pass}
use Rattle.hm_refs.specs.Names.{Entry}
use Rattle.hm_refs.specs.References.{Reference, reference}
use Rattle.hm_refs.specs.Tables.{IsTable}

-- a byte of a reference after its '&': a letter, a digit, '#' or ';'
unfoldable pub is_reference_byte : ℕ → Bool
is_reference_byte c = is_alnum c || (c == 35 || c == 59)

-- the reference at the start of s has '&' and such bytes
pub record TakesFew (s : List ℕ) (r : Reference) : Type 0 where
  pub inner : List ℕ
  pub rest : List ℕ
  pub is : s ≡ 38 ∷ (inner ++ rest)
  pub len : r.len ≡ suc (length inner)
  pub few : all_pass is_reference_byte inner ≡ true

abbrev pub ReferencesTakeFewBytes : Type 0
ReferencesTakeFewBytes = (t : List Entry) (value : Bool) (s : List ℕ) (r : Reference) → IsTable t → reference t value s ≡ Some r → TakesFew s r
