use Rattle.std.proofs.Common.{◌≡◌, ◌++◌, drop}
use Rattle.hm_cert.specs.Certificate.{certificate_text, row_lines}
use Rattle.hm_cert.proofs.text.write_certificate.Given as goal

abbrev pub invariant-loop-k : goal.invariant-loop-k
invariant-loop-k l = l.out.items ++ row_lines (drop l.k l.prices) ≡ certificate_text l.fn.format l.fn.rules l.prices
