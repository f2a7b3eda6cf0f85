-- What is put to the sink.
use Rattle.std.specs.Prelude.{ℕ, List, string_bytes}
use Rattle.hm_minify.specs.declared.ended.Printed.{Printed}
use Rattle.hm_minify.specs.declared.ended.Printed.TheVariants.{Line, Lines, Tree, Json}

-- its bytes
abbrev pub bytes_said : Printed → List ℕ
bytes_said (Line line) = string_bytes line
bytes_said (Lines lines) = lines.items
bytes_said (Tree lines) = lines
bytes_said (Json lines) = lines
