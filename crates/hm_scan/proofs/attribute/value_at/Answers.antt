use Rattle.std.proofs.Common.{sym, ◌∙◌, arith, get_or}
use Rattle.std.proofs.lemmas.Str.{IsCharBoundary-after_ascii}
use Rattle.hm_scan.proofs.ValuePlaces.{quote_ascii, quoted_at, unquoted_at}
use Rattle.hm_scan.proofs.attribute.value_at.Goals as goal

pub quoted_value-requires-clause-boundary : goal.quoted_value-requires-clause-boundary
quoted_value-requires-clause-boundary c =
    IsCharBoundary-after_ascii c.args.bytes.now c.args.from c.requires.utf8 (omega (arith, c.requires.boundary.0)) (quote_ascii (get_or c.args.bytes.now c.args.from 0) (sym c.is_quote.ensures ∙ c.if-is_quote.true))

pub returns-then-is_quote-clause-cut : goal.returns-then-is_quote-clause-cut
returns-then-is_quote-clause-cut c =
    quoted_at c.args.bytes.now c.args.from c.quoted_value.result (omega (arith, c.requires.boundary.0)) (sym c.is_quote.ensures ∙ c.if-is_quote.true) c.quoted_value.ensures.cut

pub returns-clause-cut : goal.returns-clause-cut
returns-clause-cut c =
    unquoted_at c.args.bytes.now c.args.from c.run_end-to.result c.requires.boundary (omega (arith, c.requires.boundary.0)) (sym c.is_quote.ensures ∙ c.if-is_quote.false) c.run_end-to.ensures
