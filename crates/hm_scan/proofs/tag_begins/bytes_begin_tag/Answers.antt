use Rattle.std.proofs.Common.{sym, ap, ◌∙◌}
use Rattle.std.proofs.lemmas.List.{take_rest}
use Rattle.hm_base.specs.Bytes.{head_is, is_letter}
use Rattle.hm_scan.proofs.TagStarts.{short_begins, other_begins, end_begins, start_begins}
use Rattle.hm_scan.proofs.tag_begins.bytes_begin_tag.Goals as goal

pub returns-then-bytes-lt2 : goal.returns-then-bytes-lt2
returns-then-bytes-lt2 c = sym (short_begins c.args.bytes.now c.if-bytes-lt2.true)

pub returns-then-bytes-ne60 : goal.returns-then-bytes-ne60
returns-then-bytes-ne60 c = sym (other_begins c.args.bytes.now c.if-bytes-ne60.true)

pub returns-then-bytes-eq47 : goal.returns-then-bytes-eq47
returns-then-bytes-eq47 c =
    c.begins_with_letter.ensures ∙ ap (head_is is_letter) (take_rest c.args.bytes.now 2) ∙ end_begins c.args.bytes.now c.if-bytes-lt2.false c.if-bytes-ne60.false c.if-bytes-eq47.true

pub returns : goal.returns
returns c =
    c.begins_with_letter-2.ensures ∙ ap (head_is is_letter) (take_rest c.args.bytes.now 1) ∙ start_begins c.args.bytes.now c.if-bytes-lt2.false c.if-bytes-ne60.false c.if-bytes-eq47.false
