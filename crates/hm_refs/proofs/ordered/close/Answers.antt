use Rattle.std.proofs.Common.{◌≡◌, ◌∷◌, false, bytes_eq, Some, None, codes, arith}
use Rattle.json.specs.Token.{Token}
use Rattle.json.specs.Json.{read_key}
use Rattle.hm_refs.proofs.ByTokens.{closed_after_text, closed_at_once}
use Rattle.hm_refs.proofs.ordered.close.Goals as goal

pub returns-in_default : goal.returns-in_default
returns-in_default c =
    let last : read_key c.args.reader.now ≡ Some (None, c.next_key.new.self) = grind arith in
    closed_at_once (codes "codepoints") _ _ last

pub returns : goal.returns
returns c =
    let named : read_key c.args.reader.now ≡ Some (Some c.in-Some.key.now, c.next_key.new.self) = grind arith in
    let whole : c.next_key.new.self ≡ Token.string c.in-String.field-0.now ∷ Token.end_object ∷ c.next-2.new.self = grind arith in
    let other : bytes_eq c.in-Some.key.now (codes "codepoints") ≡ false = grind arith in
    closed_after_text (codes "codepoints") _ _ _ _ _ named other whole
