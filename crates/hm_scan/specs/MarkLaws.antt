-- What is written is read as it was meant, whatever follows it.
use Rattle.std.specs.Prelude.{◌≡◌, ℕ, Bool, true, false, List, ◌++◌, length, Some, codes}
use Rattle.hm_base.specs.Forms.{is_comment_text}
use Rattle.hm_base.specs.RawText.{begins_end_tag, raw_end, script_end}
use Rattle.hm_markup_spec.specs.Doctypes.{WritesDoctype}
use Rattle.hm_tree.specs.Tokens.{taken, doctype, slice, comment, Extends}
use Rattle.hm_scan.specs.Comments.{read_comment, read_cdata}
use Rattle.hm_scan.specs.Doctypes.{read_doctype}
use Rattle.hm_scan.specs.RawTexts.{read_raw, read_script}

-- What ends by itself is the same in a longer text: comments, CDATA sections, doctypes, raw text and scripts with their
-- end tags.

abbrev pub CommentsExtend : Type 0
CommentsExtend = (s y : List ℕ) → Extends y (read_comment s) (read_comment (s ++ y))

abbrev pub CdataExtends : Type 0
CdataExtends = (s y : List ℕ) → Extends y (read_cdata s) (read_cdata (s ++ y))

abbrev pub DoctypesExtend : Type 0
DoctypesExtend = (s y : List ℕ) → Extends y (read_doctype s) (read_doctype (s ++ y))

abbrev pub RawTextExtends : Type 0
RawTextExtends = (name s y : List ℕ) → Extends y (read_raw name s) (read_raw name (s ++ y))

abbrev pub ScriptsExtend : Type 0
ScriptsExtend = (s y : List ℕ) → Extends y (read_script s) (read_script (s ++ y))

-- the text of a comment between `<!--` and `-->`
abbrev pub CommentsAreRead : Type 0
CommentsAreRead = (t rest : List ℕ) → is_comment_text t ≡ true → read_comment (codes "<!--" ++ (t ++ (codes "-->" ++ rest))) ≡ taken (comment t) rest

-- a written doctype
abbrev pub DoctypesAreRead : Type 0
DoctypesAreRead = (legacy : Bool) (b rest : List ℕ) → WritesDoctype false legacy b → read_doctype (b ++ rest) ≡ taken (doctype legacy) rest

-- Where some end tag of the element ends a raw text, each one does.
abbrev pub RawTextIsRead : Type 0
RawTextIsRead = (name t some each : List ℕ) → raw_end name (t ++ some) ≡ Some (length t) → begins_end_tag name each ≡ true → read_raw name (t ++ each) ≡ taken (slice t) each

abbrev pub ScriptsAreRead : Type 0
ScriptsAreRead = (t some each : List ℕ) → script_end (t ++ some) ≡ Some (length t) → begins_end_tag (codes "script") each ≡ true → read_script (t ++ each) ≡ taken (slice t) each
