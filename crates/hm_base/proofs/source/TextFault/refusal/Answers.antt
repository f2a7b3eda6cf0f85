use Rattle.std.proofs.Common.{subst}
use Rattle.hm_base.specs.Faults.{IsRefusedBy}
use Rattle.hm_base.proofs.Faults.{long_fault, first_fault}
use Rattle.hm_base.proofs.source.TextFault.refusal.Goals as goal

pub returns-in-TooLong : goal.returns-in-TooLong
returns-in-TooLong c = λ page h. long_fault c.args.limit page (subst (λ f. IsRefusedBy f c.args.limit page) c.in-TooLong.is h)

pub returns-in-NotUtf8 : goal.returns-in-NotUtf8
returns-in-NotUtf8 c = λ page h. let k = subst (λ f. IsRefusedBy f c.args.limit page) c.in-NotUtf8.is h in first_fault c.args.limit page _ k.0 k.1

pub returns-in-Nul : goal.returns-in-Nul
returns-in-Nul c = λ page h. let k = subst (λ f. IsRefusedBy f c.args.limit page) c.in-Nul.is h in first_fault c.args.limit page _ k.0 k.1
