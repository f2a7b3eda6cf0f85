use Rattle.std.proofs.Common.{drop, Some, None}
use Rattle.memchr.specs.Find.{IsFirstByte, is_byte}
use Rattle.hm_scan.proofs.Firsts.{first_later, none_at_all}
use Rattle.hm_scan.proofs.ValuePlaces.{rest_all}
use Rattle.hm_scan.proofs.attribute.quote_from.Goals as goal

pub returns-in-Some : goal.returns-in-Some
returns-in-Some c =
    let s = c.args.bytes.now in
    let found : IsFirstByte (is_byte c.args.quote) (drop c.args.from s) (Some c.in-Some.len) = rw (rest_all s c.args.from, c.in-Some.is) at c.memchr.ensures in
    first_later (is_byte c.args.quote) s c.args.from c.in-Some.len c.requires.inside c.requires.none found

pub returns-in-None : goal.returns-in-None
returns-in-None c =
    let s = c.args.bytes.now in
    let found : IsFirstByte (is_byte c.args.quote) (drop c.args.from s) None = rw (rest_all s c.args.from, c.in-None.is) at c.memchr.ensures in
    none_at_all (is_byte c.args.quote) s c.args.from c.requires.inside c.requires.none found
