use Rattle.std.proofs.Common.{◌≡◌, ◌∷◌, [], ◌+◌, ◌*◌, ◌%◌, ◌/◌, ◌∙◌, arith}
use Rattle.hm_cert.proofs.hundreds.two_digits.Goals as goal

pub returns : goal.returns
returns c =
    let n = c.args.number in
    let last : (12336 + n + 246 * (n / 10)) % 256 ≡ 48 + n % 10 = omega (arith, c.requires) in
    let tens : (12336 + n + 246 * (n / 10)) / 256 % 256 ≡ 48 + n / 10 = omega (arith, c.requires) in
    c.to_le_bytes.ensures ∙ (λ i. last i ∷ tens i ∷ [])
