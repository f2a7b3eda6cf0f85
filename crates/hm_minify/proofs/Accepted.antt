-- What was written of a settled tree is accepted.
use Rattle.std.proofs.Common.{◌≡◌, ◌∙◌, ℕ, ◌≤◌, List, length, Ok, Err, refl, sym, ap, subst}
use Rattle.hm_base.specs.Walks.{Event}
use Rattle.hm_base.specs.declared.limits.TheConstants.{OUTPUT_LIMIT}
use Rattle.hm_base.specs.declared.plain.SpellRules.{SpellRules}
use Rattle.hm_cert.proofs.Written.{written_is_read}
use Rattle.hm_cert.specs.Certificate.{AreRows}
use Rattle.hm_cert.specs.Reading.{ReadsAs, given}
use Rattle.hm_cert.specs.declared.lines.CertificateFault.{CertificateFault}
use Rattle.hm_cert.specs.declared.lines.CertificateFault.TheVariants.{BadLine}
use Rattle.hm_cert.specs.declared.certificate.Certificate.{Certificate}
use Rattle.hm_base.specs.declared.plain.Format.{Format}
use Rattle.hm_check.proofs.Shown.{minified_is_accepted}
use Rattle.hm_check.specs.Laws.{least_certificate}
use Rattle.hm_check.specs.Verdicts.{verdict}
use Rattle.hm_check.specs.declared.verdicts.Verdict.{Verdict}
use Rattle.hm_check.specs.declared.verdicts.Verdict.TheVariants.{Yes, No}
use Rattle.hm_check.specs.declared.verdicts.Why.{Why}
use Rattle.hm_elements.specs.Settled.{Settled}
use Rattle.hm_refs.specs.Names.{Entry}
use Rattle.hm_refs.specs.Tables.{IsTable}
use Rattle.hm_minify.specs.Endings.{format_of}
use Rattle.hm_minify.specs.Laws.{OwnIsAccepted, judged, own_verdict}
use Rattle.hm_words.specs.declared.writing.Writing.{Writing}
use Rattle.hm_order.specs.Shortest.{certificate_of, certified_rows, shortest_text}

-- the certificate is read
pub certificate_read : (t : List Entry) (r : SpellRules) (format : Format) (w : List Event) (cert : List ℕ) → cert ≡ certificate_of t r format w → AreRows (certified_rows t r format w) → given cert ≡ Ok (least_certificate t r format w)
unfolding certificate_of
certificate_read t r format w cert e h = ap given e ∙ written_is_read format r (certified_rows t r format w) h

-- and the check says yes
pub accepted : (t : List Entry) → IsTable t → (r : SpellRules) (format : Format) (w : List Event) → Settled w → (out : List ℕ) (c : Certificate) → out ≡ shortest_text t r w → c ≡ least_certificate t r format w → length out ≤ OUTPUT_LIMIT → verdict t r w out c ≡ Yes (length (shortest_text t r w))
unfolding shortest_text
accepted t k r format w s out c is e short =
    (λ i. verdict t r w (is i) (e i)) ∙ minified_is_accepted t k r format w s (subst (λ x. length x ≤ OUTPUT_LIMIT) is short)

-- it isn't refused at a line
pub no_bad_line : (bytes : List ℕ) (fault : CertificateFault) (line : ℕ) (c : Certificate) → given bytes ≡ Ok c → fault ≡ BadLine line → ReadsAs bytes (Err fault) → ⊥
no_bad_line bytes fault line c good is reads =
    let bad : given bytes ≡ Err line = (subst (λ f. ReadsAs bytes (Err f)) is reads).1 in
    let h : Ok c ≡ Err line = sym good ∙ bad in
    cc

-- what was read is that certificate, so what is found is a yes
pub found_yes : (t : List Entry) → IsTable t → (r : SpellRules) (format : Format) (w : List Event) → Settled w → (out bytes : List ℕ) (c : Certificate) (v : Verdict) → out ≡ shortest_text t r w → length out ≤ OUTPUT_LIMIT → given bytes ≡ Ok (least_certificate t r format w) → given bytes ≡ Ok c → v ≡ verdict t r w out c
    → v ≡ Yes (length (shortest_text t r w))
found_yes t k r format w s out bytes c v is short good read e =
    let h : Ok c ≡ Ok (least_certificate t r format w) = sym read ∙ good in
    let same : c ≡ least_certificate t r format w = cc in
    e ∙ accepted t k r format w s out c is same short

pub found_no : (v : Verdict) (n : ℕ) (why : Why) → v ≡ Yes n → v ≡ No why → ⊥
found_no v n why is other = let h : Yes n ≡ No why = sym is ∙ other in cc

-- what was found of equal bytes is what the check finds of what is written
pub found_own : (t : List Entry) (x : Writing) (w : List Event) (out bytes : List ℕ) (c : Certificate) (v : Verdict) (n : ℕ) → out ≡ shortest_text t x.rules w → bytes ≡ certificate_of t x.rules (format_of x.sparse) w → given bytes ≡ Ok c → v ≡ verdict t x.rules w out c → v ≡ Yes n
    → own_verdict x t w ≡ Ok (Yes n)
found_own t x w out bytes c v n is text read e found =
    ap (judged (verdict t x.rules w (shortest_text t x.rules w))) (ap given (sym text) ∙ read)
    ∙ ap (λ o. Ok (verdict t x.rules w o c)) (sym is) ∙ ap (λ f. Ok f) (sym e ∙ found)

-- so what the check finds of what is written is a yes
pub own_is_accepted : OwnIsAccepted
own_is_accepted t k x w s short rows =
    let out : List ℕ = shortest_text t x.rules w in
    let cert : List ℕ = certificate_of t x.rules (format_of x.sparse) w in
    let c : Certificate = least_certificate t x.rules (format_of x.sparse) w in
    found_own t x w out cert c (verdict t x.rules w out c) (length out) refl refl (certificate_read t x.rules (format_of x.sparse) w cert refl rows) refl
    (accepted t k x.rules (format_of x.sparse) w s out c refl refl short)
