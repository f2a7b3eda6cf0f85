-- The headline over trees, and what a certificate shows.
use Rattle.std.specs.Prelude.{ℕ, List}
use Rattle.hm_base.specs.Walks.{Event}
use Rattle.hm_base.specs.declared.plain.SpellRules.{SpellRules}
use Rattle.hm_base.specs.declared.plain.Format.{Format}
use Rattle.hm_cert.specs.Certificate.{AreRows}
use Rattle.hm_elements.specs.Settled.{Settled}
use Rattle.hm_refs.specs.Names.{Entry}
use Rattle.hm_refs.specs.Tables.{IsTable}
use Rattle.hm_shortest.specs.Shortest.{Certifies, IsShortest, certificate_of, certified_rows, shortest_text}
use Rattle.hm_spelling_spec.specs.Spellings.{Shortest}

-- For every table, all rules, each format and each settled tree whose least prices can be written.
abbrev pub ShortestIsCertified : Type 0
ShortestIsCertified = (t : List Entry) → IsTable t → (r : SpellRules) (format : Format) (w : List Event) → Settled w → AreRows (certified_rows t r format w)
    → IsShortest t r format w (shortest_text t r w) (certificate_of t r format w)

-- What any certificate shows, whatever made it: in each format, no spelling of the tree has fewer bytes.
abbrev pub CertificatesShow : Type 0
CertificatesShow = (t : List Entry) → IsTable t → (r : SpellRules) (format : Format) (w : List Event) → Settled w → (cert : List ℕ) (n : ℕ) → Certifies t r format w cert n → Shortest t r w n
