-- The definitions on examples.
use Rattle.std.specs.Prelude.{◌≡◌, true, false, [], codes, refl}
use Rattle.hm_base.specs.Bytes.{is_letter, is_space, lower}
use Rattle.hm_base.specs.RawText.{begins_end_tag, is_name_end, mark_at}
use Rattle.hm_tree.specs.Tokens.{taken, refused, doctype, slice, comment}
use Rattle.hm_tree.specs.declared.tokens.ScanFault.TheVariants as faults
use Rattle.hm_scan.specs.Comments.{read_comment, begins_comment, read_cdata}
use Rattle.hm_scan.specs.Doctypes.{read_doctype, doctype_form, begins_doctype}
use Rattle.hm_scan.specs.RawTexts.{read_raw, read_script}

a_comment : read_comment (codes "<!--a-b--->c") ≡ taken (comment (codes "a-b-")) (codes "c")
unfolding read_comment
a_comment = refl

ended_at_once : read_comment (codes "<!--->-->") ≡ taken (comment []) (codes "-->")
unfolding read_comment
ended_at_once = refl

ended_by_a_bang : read_comment (codes "<!--a--!>b") ≡ taken (comment (codes "a")) (codes "b")
unfolding read_comment
ended_by_a_bang = refl

open_comment : read_comment (codes "<!--a--") ≡ refused faults.Cut
unfolding read_comment
open_comment = refl

a_question : read_comment (codes "<?x>y") ≡ taken (comment (codes "?x")) (codes "y")
unfolding read_comment
a_question = refl

no_end_tag : read_comment (codes "</ x>y") ≡ taken (comment (codes " x")) (codes "y")
unfolding read_comment
no_end_tag = refl

begins_none : begins_comment (codes "</>") ≡ false
unfolding begins_comment is_letter begins_doctype lower
begins_none = refl

a_section : read_cdata (codes "<![CDATA[a]]]>b") ≡ taken (slice (codes "a]")) (codes "b")
unfolding read_cdata
a_section = refl

a_doctype : read_doctype (codes "<!DOCTYPEhtml >a") ≡ taken (doctype false) (codes "a")
unfolding read_doctype doctype_form is_space lower
a_doctype = refl

a_legacy_doctype : read_doctype (codes "<!doctype html System'about:legacy-compat' >a") ≡ taken (doctype true) (codes "a")
unfolding read_doctype doctype_form is_space lower
a_legacy_doctype = refl

another_doctype : read_doctype (codes "<!doctype htmlSYSTEM\"about:legacy-compat\">") ≡ refused faults.BadDoctype
unfolding read_doctype doctype_form is_space lower
another_doctype = refl

a_raw_text : read_raw (codes "style") (codes "a</styles></STYLE >b") ≡ taken (slice (codes "a</styles>")) (codes "</STYLE >b")
unfolding read_raw begins_end_tag is_name_end is_space lower
a_raw_text = refl

a_script : read_script (codes "<!--<script></script>--></script>") ≡ taken (slice (codes "<!--<script></script>-->")) (codes "</script>")
unfolding read_script mark_at is_name_end is_space lower
a_script = refl
