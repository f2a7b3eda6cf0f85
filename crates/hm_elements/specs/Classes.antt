-- What a class says of its elements.
use Rattle.std.specs.Prelude.{Bool, true, false}
use Rattle.hm_elements.specs.declared.class.Class.{Class}
use Rattle.hm_elements.specs.declared.class.Class.TheVariants.{Void, Rcdata, Raw, Script, Refused}

-- they hold nothing
abbrev pub holds_nothing : Class → Bool
holds_nothing Void = true
holds_nothing c = false

-- they hold one text, in which nothing is read
abbrev pub holds_raw_text : Class → Bool
holds_raw_text Raw = true
holds_raw_text Script = true
holds_raw_text c = false

-- they hold one text and nothing else
abbrev pub holds_one_text : Class → Bool
holds_one_text Rcdata = true
holds_one_text c = holds_raw_text c

-- a page with one is refused
abbrev pub is_not_read : Class → Bool
is_not_read Refused = true
is_not_read c = false
