-- The modes of the lexer, by the names of their elements.
use Rattle.std.specs.Prelude.{ℕ, List, codes}
use Rattle.hm_token_laws.specs.First as tokens
use Rattle.hm_token_laws.specs.First.{ordinary, in_svg, rcdata, raw, script}
use Rattle.hm_lexer.specs.declared.modes.Mode.{Mode}
use Rattle.hm_lexer.specs.declared.modes.Mode.TheVariants as modes
use Rattle.hm_lexer.specs.declared.modes.RcdataName.{RcdataName}
use Rattle.hm_lexer.specs.declared.modes.RcdataName.TheVariants.{Title, Textarea}
use Rattle.hm_lexer.specs.declared.modes.RawName.{RawName}
use Rattle.hm_lexer.specs.declared.modes.RawName.TheVariants.{Style, Iframe}

abbrev pub rcdata_name : RcdataName → List ℕ
rcdata_name Title = codes "title"
rcdata_name Textarea = codes "textarea"

abbrev pub raw_name : RawName → List ℕ
raw_name Style = codes "style"
raw_name Iframe = codes "iframe"

-- what kind of text a mode reads
abbrev pub mode_of : Mode → tokens.Mode
mode_of modes.Html = ordinary
mode_of modes.Foreign = in_svg
mode_of (modes.Rcdata name) = rcdata (rcdata_name name)
mode_of (modes.Raw name) = raw (raw_name name)
mode_of modes.Script = script
