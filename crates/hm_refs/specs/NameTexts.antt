-- The bytes of the text of a name.
use Rattle.std.specs.Prelude.{ℕ, List, string_bytes}
use Rattle.hm_refs.specs.declared.text.Held.{Held}
use Rattle.hm_refs.specs.declared.text.Held.TheVariants.{Read, Ready}

abbrev pub bytes_of : Held → List ℕ
bytes_of (Read text) = string_bytes text
bytes_of (Ready text) = text.now
