use Rattle.std.proofs.Common.{◌≡◌, ◌∷◌, true, bytes_eq, Some, codes, arith, rules}
use Rattle.json.specs.Token.{Token}
use Rattle.json.specs.Json.{read_key}
use Rattle.hm_refs.specs.Ordered.{Closes}
use Rattle.hm_refs.proofs.ByTokens.{entry_read}
use Rattle.hm_refs.proofs.ordered.entry.Goals as goal

pub returns : goal.returns
returns c =
    let first : c.args.reader.now ≡ Token.begin_object ∷ c.next.new.self = grind arith in
    let named : read_key c.next.new.self ≡ Some (Some c.in_ok-key.key.now, c.next_key.new.self) = grind arith in
    let same : bytes_eq c.in_ok-key.key.now (codes "codepoints") ≡ true = grind arith in
    let closed : Closes (codes "codepoints") c.list.new.reader c.close.new.reader = search rules in
    entry_read _ _ _ _ _ _ _ first named same c.in_ok-points.ensures closed
