use Rattle.std.proofs.Common.{◌≡◌, true, drop, Some, None}
use Rattle.memchr.specs.Find.{IsFirstByte, Nowhere, Passes, is_byte}
use Rattle.hm_scan.proofs.ValuePlaces.{rest_all, quoted_found, quoted_missing}
use Rattle.hm_scan.proofs.attribute.quoted_value.Goals as goal

pub returns-in-Some-clause-cut : goal.returns-in-Some-clause-cut
returns-in-Some-clause-cut c =
    let s = c.args.bytes.now in
    let found : IsFirstByte (is_byte c.args.quote) (drop c.args.from s) (Some c.in-Some.len) = rw (rest_all s c.args.from, c.in-Some.is) at c.find_quote-found.ensures.found in
    let plain : c.find_quote-found.result.plain ≡ true → Nowhere (Passes (is_byte 38) (drop c.args.from s)) 0 c.in-Some.len = rw (rest_all s c.args.from, c.in-Some.is) at c.find_quote-found.ensures.plain in
    quoted_found s c.args.quote c.args.from c.in-Some.len c.find_quote-found.result.plain c.requires.utf8 c.requires.quote c.requires.boundary found plain

pub returns-in-None-clause-cut : goal.returns-in-None-clause-cut
returns-in-None-clause-cut c =
    let s = c.args.bytes.now in
    let found : IsFirstByte (is_byte c.args.quote) (drop c.args.from s) None = rw (rest_all s c.args.from, c.in-None.is) at c.find_quote-found.ensures.found in
    quoted_missing s c.args.quote c.args.from c.requires.boundary found
