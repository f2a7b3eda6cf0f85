use Rattle.std.proofs.Common.{map, ap, ◌∙◌}
use Rattle.hm_base.specs.Bytes.{lower}
use Rattle.hm_scan.proofs.BareTags.{bare_is}
use Rattle.hm_scan.proofs.tag.read_bare.Goals as goal

pub returns-clause-ok : goal.returns-clause-ok
returns-clause-ok c = λ t keeps.
    bare_is t keeps c.args.text.now c.args.from c.args.to (record { name = c.put_name.new.text; attrs = c.clear.new.attrs }) c.utf8.text c.requires.name c.requires.plain c.requires.inside c.requires.greater
    (c.in_ok-put_name.ensures ∙ ap (map lower) c.range.ensures.value) c.clear.ensures
