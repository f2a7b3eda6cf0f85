-- What holds of tags that are read.
use Rattle.std.specs.Prelude.{◌≡◌, ℕ, Bool, true, List, ◌++◌}
use Rattle.hm_base.specs.Forms.{is_tag_name}
use Rattle.hm_base.specs.Walks.{Attribute}
use Rattle.hm_refs.specs.Names.{Entry}
use Rattle.hm_markup_spec.specs.Tags.{WritesStart, WritesEnd}
use Rattle.hm_tree.specs.Tokens.{taken, start_tag, end_tag, Extends}
use Rattle.hm_scan.specs.Reading.{read_tag, begins_tag}
use Rattle.hm_scan.specs.ReadBack.{WritesValue, IsAttributes}

-- A tag that ends is the same, whatever follows it; so is its fault.
abbrev pub WhateverFollows : Type 0
WhateverFollows = (t : List Entry) (s y : List ℕ) → Extends y (read_tag t s) (read_tag t (s ++ y))

-- A written start tag begins a tag, and is read as its name, its attributes and its '/', whatever follows it.
abbrev pub WrittenStartsAreRead : Type 0
WrittenStartsAreRead = (t : List Entry) (name : List ℕ) (attributes : List Attribute) (slash : Bool) (b after : List ℕ)
    → is_tag_name name ≡ true → IsAttributes attributes → WritesStart (WritesValue t) true name attributes slash b after
    → (begins_tag (b ++ after) ≡ true) × (read_tag t (b ++ after) ≡ taken (start_tag name attributes slash) after)

-- A written end tag begins a tag, and is read as its name, whatever follows it.
abbrev pub WrittenEndsAreRead : Type 0
WrittenEndsAreRead = (t : List Entry) (name b after : List ℕ)
    → is_tag_name name ≡ true → WritesEnd name b
    → (begins_tag (b ++ after) ≡ true) × (read_tag t (b ++ after) ≡ taken (end_tag name) after)
