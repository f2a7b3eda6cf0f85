-- What the check finds of what is written.
use Rattle.std.specs.Prelude.{◌≡◌, ◌≤◌, ℕ, Bool, false, true, List, [], ◌∷◌, length, Some, Result, Ok, Err, bytes_eq, if◌then◌else◌}
use Rattle.hm_base.specs.Walks.{Event}
use Rattle.hm_base.specs.declared.limits.TheConstants.{CERTIFICATE_LIMIT, OUTPUT_LIMIT}
use Rattle.hm_cert.specs.Certificate.{AreRows}
use Rattle.hm_cert.specs.Reading.{given}
use Rattle.hm_cert.specs.declared.certificate.Certificate.{Certificate}
use Rattle.hm_check.specs.Verdicts.{verdict}
use Rattle.hm_check.specs.declared.verdicts.Verdict.{Verdict}
use Rattle.hm_check.specs.declared.verdicts.Verdict.TheVariants.{Yes}
use Rattle.hm_elements.specs.Settled.{Settled}
use Rattle.hm_refs.specs.Names.{Entry}
use Rattle.hm_refs.specs.Tables.{IsTable}
use Rattle.hm_input.specs.Frames.{unframed}
use Rattle.hm_order.specs.Shortest.{certificate_of, certified_rows, shortest_text}
use Rattle.hm_minify.specs.Endings.{IsReadableTree, asked_ending, format_of, minified_ending, says}
use Rattle.hm_minify.specs.Wanted.{input_of}
use Rattle.hm_input.specs.Inputs.{tree as tree_input}
use Rattle.hm_minify.specs.Lines.{yes_line}
use Rattle.hm_minify.specs.Writes.{Write}
use Rattle.hm_minify.specs.declared.status.Status.TheVariants as status
use Rattle.hm_store.specs.Contents.{Contents}
use Rattle.hm_base.specs.declared.plain.TreeOptions.{TreeOptions}
use Rattle.hm_words.specs.Words.{Asked, Origin, asked, asks, checks, is_fragment, minifies}
use Rattle.hm_words.specs.declared.writing.Writing.{Writing}

-- what is found of a certificate, or its first bad line
abbrev pub judged : (Certificate → Verdict) → Result Certificate ℕ → Result Verdict ℕ
judged find (Err line) = Err line
judged find (Ok c) = Ok (find c)

-- what the check finds of what is written of a tree
abbrev pub own_verdict : Writing → List Entry → List Event → Result Verdict ℕ
own_verdict x t w = judged (verdict t x.rules w (shortest_text t x.rules w)) (given (certificate_of t x.rules (format_of x.sparse) w))

-- the check says yes, with the bytes of the text, where the text is within its limit and the prices can be written
abbrev pub OwnIsAccepted : Type 0
OwnIsAccepted = (t : List Entry) → IsTable t → (x : Writing) (w : List Event) → Settled w → length (shortest_text t x.rules w) ≤ OUTPUT_LIMIT → AreRows (certified_rows t x.rules (format_of x.sparse) w)
    → own_verdict x t w ≡ Ok (Yes (length (shortest_text t x.rules w)))

-- ---- A check of what was minified

-- Whatever gives a settled tree, a check of its shortest text and a certificate of that, of any format that is written, ends with a
-- yes and the length of the text, where both are within the limits of a check and the prices can be written.
abbrev pub TreeIsChecked : Type 0
TreeIsChecked = (q : Asked) (out cert : List ℕ) → q.work ≡ checks out cert → q.writing.rules.frame ≡ false
    → (seen : Contents) (bytes : ℕ) (t : List Entry) (w : List Event) → input_of q seen ≡ tree_input bytes t w → Settled w
    → (sparse : Bool) → seen out ≡ Some (shortest_text t q.writing.rules w) → seen cert ≡ Some (certificate_of t q.writing.rules (format_of sparse) w)
    → AreRows (certified_rows t q.writing.rules (format_of sparse) w) → length (shortest_text t q.writing.rules w) ≤ OUTPUT_LIMIT → length (certificate_of t q.writing.rules (format_of sparse) w) ≤ CERTIFICATE_LIMIT
    → asked_ending q seen ≡ says status.Done (yes_line (length (shortest_text t q.writing.rules w)))

-- the contents after these writes
abbrev pub with_writes : Contents → List Write → Contents
with_writes seen [] = seen
with_writes seen (w ∷ ws) = with_writes (λ name. if bytes_eq name w.name then Some w.bytes else seen name) ws

-- Where words ask to minify, and that is done for a settled tree with a text and a certificate that can be read and are within the
-- limits of a check, the same request with the check on the contents afterwards ends with a yes, and the length of the text.
abbrev pub MinifiedIsChecked : Type 0
MinifiedIsChecked = (words : List (List ℕ)) (origin : Origin) (out cert : List ℕ) (options : TreeOptions) (x : Writing) → is_fragment origin ≡ false → asked words ≡ Some (asks origin (minifies out cert) options x)
    → (seen : Contents) (bytes : ℕ) (t : List Entry) (w : List Event) → input_of (asks origin (minifies out cert) options x) seen ≡ tree_input bytes t w
    → Settled w → IsReadableTree (minifies out cert) x t w → length (shortest_text t x.rules w) ≤ OUTPUT_LIMIT → length (certificate_of t x.rules (format_of x.sparse) w) ≤ CERTIFICATE_LIMIT
    → asked_ending (asks origin (checks out cert) options x) (with_writes seen (minified_ending x out cert t w).writes) ≡ says status.Done (yes_line (length (shortest_text t x.rules w)))

-- So does the same of a fragment, with the length of what stands after the front of the text.
abbrev pub FragmentIsChecked : Type 0
FragmentIsChecked = (words : List (List ℕ)) (origin : Origin) (out cert : List ℕ) (options : TreeOptions) (x : Writing) → is_fragment origin ≡ true → asked words ≡ Some (asks origin (minifies out cert) options x)
    → (seen : Contents) (bytes : ℕ) (t : List Entry) (w : List Event) → input_of (asks origin (minifies out cert) options x) seen ≡ tree_input bytes t w → Settled w
    → IsReadableTree (minifies out cert) x t w → length (shortest_text t x.rules w) ≤ OUTPUT_LIMIT → length (certificate_of t x.rules (format_of x.sparse) w) ≤ CERTIFICATE_LIMIT
    → asked_ending (asks origin (checks out cert) options x) (with_writes seen (minified_ending x out cert t w).writes) ≡ says status.Done (yes_line (length (unframed (shortest_text t x.rules w))))
