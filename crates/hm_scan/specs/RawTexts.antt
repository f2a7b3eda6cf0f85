-- Raw text and the text of a script, up to the end tag.
use Rattle.std.specs.Prelude.{ℕ, List}
use Rattle.hm_base.specs.RawText.{raw_end, script_end}
use Rattle.hm_tree.specs.Tokens.{Scanned}
use Rattle.hm_scan.specs.Pieces.{slice_up_to}

-- the raw text of an element with this name, from here on
unfoldable pub read_raw : List ℕ → List ℕ → Scanned
read_raw name s = slice_up_to s (raw_end name s)

-- the text of a script, from here on
unfoldable pub read_script : List ℕ → Scanned
read_script s = slice_up_to s (script_end s)
