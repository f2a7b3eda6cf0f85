use Rattle.std.proofs.Common.{◌++◌, ◌+◌, ◌-◌, ◌%◌, ◌/◌, ◌≡◌, drop, get_or, length, length-take, set, subst, sym, ap, arith}
use Rattle.hm_cert.specs.Hundreds.{IsPut}
use Rattle.hm_cert.proofs.KeptDigits.{put_is}
use Rattle.hm_cert.proofs.hundreds.KeptDigits.put.Goals as goal

pub returns : goal.returns
returns c =
    let self = c.args.self.now in
    let last = c.args.price - self.base in
    let size : length self.text ≡ 16 = omega (arith, c.copy_from_slice.ensures.len, ap length c.copy_from_slice.ensures.after, length-take 16 c.args.line.now, c.requires.room) in
    let put = subst (λ text. IsPut (set (set (text ++ drop 16 c.args.line.now) 1 (48 + last % 10)) 2 (48 + last / 10)) c.args.price self.len) (sym c.copy_from_slice.ensures.after)
    (put_is self.base c.args.price self.len self.text c.args.line.now self.kept size c.requires.has c.requires.room) in
    subst (λ digits. IsPut (set (set (c.copy_from_slice.new.self ++ drop 16 c.args.line.now) 1 (get_or digits 0 0)) 2 (get_or digits 1 0)) c.args.price self.len) (sym c.two_digits-digits.ensures) put
