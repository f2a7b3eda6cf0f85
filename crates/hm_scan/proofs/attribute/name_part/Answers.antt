use Rattle.std.proofs.Common.{sym, ◌∙◌}
use Rattle.hm_scan.proofs.PlainNames.{later_plain_ends, ordinary_name}
use Rattle.hm_scan.proofs.attribute.name_part.Goals as goal

pub returns-then-ends_name-clause-end : goal.returns-then-ends_name-clause-end
returns-then-ends_name-clause-end c =
    later_plain_ends c.args.bytes.now _ c.plain_run_end-to.result c.plain_run_end-to.ensures (c.ends_name.ensures.inside c.if-ends_name.true) (c.ends_name.ensures.ends c.if-ends_name.true)

pub returns-then-ends_name-clause-plain : goal.returns-then-ends_name-clause-plain
returns-then-ends_name-clause-plain c = λ plain.
    ordinary_name c.args.bytes.now c.args.at c.plain_run_end-to.result c.requires (sym c.is_tag_byte.ensures ∙ c.if-is_tag_byte.true) c.plain_run_end-to.ensures
