-- Texts of certificates and what they are texts of are one to one.
use Rattle.std.specs.Prelude.{ℕ, ◌≡◌, List, Ok}
use Rattle.hm_base.specs.declared.plain.SpellRules.{SpellRules}
use Rattle.hm_base.specs.declared.plain.Format.{Format}
use Rattle.hm_cert.specs.declared.certificate.Certificate.{Certificate}
use Rattle.hm_cert.specs.Certificate.{Row, AreRows, certificate_text}
use Rattle.hm_cert.specs.Reading.{given}

-- what was written is read back
abbrev pub WrittenIsRead : Type 0
WrittenIsRead = (format : Format) (rules : SpellRules) (rows : List Row) → AreRows rows → given (certificate_text format rules rows) ≡ Ok (record { format = format; rules = rules; prices = rows })

-- what was read is what was written
abbrev pub ReadIsWritten : Type 0
ReadIsWritten = (text : List ℕ) (certificate : Certificate) → given text ≡ Ok certificate → (certificate_text certificate.format certificate.rules certificate.prices ≡ text) × AreRows certificate.prices
