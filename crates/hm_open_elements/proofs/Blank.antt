-- Where an element takes any children, a text in it isn't only whitespace.
use Rattle.std.proofs.Common.{◌≡◌, ℕ, Bool, true, false, List, refl}
use Rattle.std.specs.List.{list_all}
use Rattle.hm_elements.specs.Kinds.{kind, has_row}
use Rattle.hm_elements.specs.Names.{is_among}
use Rattle.hm_elements.specs.Nesting.{children}
use Rattle.hm_elements.specs.Paths.{blank_parents}
use Rattle.hm_elements.specs.Tables.{voids, rcdata_names, raw_names}
use Rattle.hm_elements.proofs.TableTools.{entry_passes}

all_have_children : list_all (has_row children) blank_parents ≡ true
unfolding children blank_parents is_among voids rcdata_names raw_names
all_have_children = refl

pub never_blank : (n : List ℕ) → (kind n).has_children ≡ false → is_among n blank_parents ≡ false
never_blank n h = by (is_among n blank_parents) refl
  where
    by : (b : Bool) → is_among n blank_parents ≡ b → b ≡ false
    by true e = absurd (let has : has_row children n ≡ true = entry_passes (has_row children) n blank_parents all_have_children e in cc)
    by false e = refl
