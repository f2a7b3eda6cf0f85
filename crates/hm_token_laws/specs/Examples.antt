-- The next token, on examples.
use Rattle.std.specs.Prelude.{◌≡◌, false, [], ◌∷◌, codes, refl}
use Rattle.hm_base.specs.Bytes.{is_letter, is_space, lower}
use Rattle.hm_base.specs.RawText.{begins_end_tag, is_name_end, mark_at}
use Rattle.hm_base.specs.Forms.{is_tag_name, is_small, is_tag_byte}
use Rattle.hm_tree.specs.Tokens.{taken, refused, start_tag, end_tag, slice, comment}
use Rattle.hm_tree.specs.declared.tokens.ScanFault.TheVariants as faults
use Rattle.hm_scan.specs.Reading.{read_tag, read_start, read_end, begins_tag, tag_fault, is_bad_byte}
use Rattle.hm_scan.specs.Tags.{is_name_byte, is_later_byte, is_unquoted_byte, is_quote, is_tag_end, attribute_at}
use Rattle.hm_scan.specs.Values.{reference_at}
use Rattle.hm_scan.specs.Texts.{read_text, begins_markup, reference_in}
use Rattle.hm_scan.specs.Comments.{read_comment, begins_cdata, read_cdata}
use Rattle.hm_scan.specs.Doctypes.{begins_doctype}
use Rattle.hm_token_laws.specs.First.{ordinary, in_svg, rcdata, script, at_end, after_bytes, first}

empty_tags : first [] ordinary (codes "</></></b>x") ≡ after_bytes 6 (taken (end_tag (codes "b")) (codes "x"))
unfolding first begins_markup is_letter begins_tag read_tag read_end is_name_byte is_name_end is_space lower is_tag_end tag_fault is_tag_name is_small is_tag_byte
empty_tags = refl

only_empty_tags : first [] ordinary (codes "</></>") ≡ at_end
unfolding first
only_empty_tags = refl

a_tag : first [] ordinary (codes "<a/b=c//>x") ≡ after_bytes 0 (taken (start_tag (codes "a") (record { name = codes "b"; value = codes "c//" } ∷ []) false) (codes "x"))
unfolding first begins_markup is_letter begins_tag read_tag read_start is_name_byte is_name_end is_space lower is_tag_end is_later_byte is_unquoted_byte is_quote is_bad_byte attribute_at reference_at tag_fault is_tag_name is_small is_tag_byte
a_tag = refl

no_cdata : first [] ordinary (codes "<![CDATA[x]]>") ≡ after_bytes 0 (taken (comment (codes "[CDATA[x]]")) [])
unfolding first begins_markup is_letter begins_tag begins_doctype lower begins_cdata read_comment
no_cdata = refl

cdata : first [] in_svg (codes "<![CDATA[x]]>") ≡ after_bytes 0 (taken (slice (codes "x")) [])
unfolding first begins_markup is_letter begins_tag begins_doctype lower begins_cdata read_cdata
cdata = refl

a_title : first [] (rcdata (codes "title")) (codes "a<b></TITLE>") ≡ after_bytes 0 (taken (slice (codes "a<b>")) (codes "</TITLE>"))
unfolding first begins_end_tag is_name_end is_space lower read_text reference_in
a_title = refl

open_title : first [] (rcdata (codes "title")) (codes "a") ≡ after_bytes 0 (refused faults.Cut)
unfolding first begins_end_tag is_name_end is_space lower
open_title = refl

end_of_script : first [] script (codes "</script>x") ≡ after_bytes 0 (taken (end_tag (codes "script")) (codes "x"))
unfolding first mark_at is_letter begins_tag read_tag read_end is_name_byte is_name_end is_space lower is_tag_end tag_fault is_tag_name is_small is_tag_byte
end_of_script = refl
