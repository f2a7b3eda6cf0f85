-- The names of the HTML Standard's character references (#named-character-references), as the constants hold them.
use Rattle.std.specs.Prelude.{List}
use Rattle.hm_refs.specs.Names.{Entry}
use Rattle.hm_refs.specs.Ready.{entries_from}
use Rattle.hm_html_names.specs.declared.names.TheConstants.{LENGTHS, TEXT}
use Rattle.hm_html_names.specs.declared.points.TheConstants.{FIRSTS, SECONDS}

-- the names in byte order, each with its code points
unfoldable pub html_entries : List Entry
html_entries = entries_from TEXT.now LENGTHS FIRSTS SECONDS
