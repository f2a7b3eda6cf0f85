-- Worked examples of the definitions.
use Rattle.std.specs.Prelude.{◌≡◌, Some, None, codes, refl}
use Rattle.hm_base.specs.Bytes.{is_space, lower}
use Rattle.hm_base.specs.RawText.{is_name_end, begins_end_tag, mark_at, raw_end, script_end}

raw_text_ends : raw_end (codes "style") (codes "a</styles></STYLE >b</style>") ≡ Some 10
unfolding begins_end_tag is_name_end is_space lower
raw_text_ends = refl

raw_text_is_open : raw_end (codes "title") (codes "a</title") ≡ None
unfolding begins_end_tag is_name_end is_space lower
raw_text_is_open = refl

script_in_a_comment : script_end (codes "<!--<script></script>--></script>") ≡ Some 24
unfolding mark_at is_name_end is_space lower
script_in_a_comment = refl

script_is_open : script_end (codes "<!--<script></script>-->") ≡ None
unfolding mark_at is_name_end is_space lower
script_is_open = refl

comment_in_a_script : script_end (codes "<!--</script>") ≡ Some 4
unfolding mark_at is_name_end is_space lower
comment_in_a_script = refl

shared_dashes : script_end (codes "<!--><script></script>") ≡ Some 13
unfolding mark_at is_name_end is_space lower
shared_dashes = refl
