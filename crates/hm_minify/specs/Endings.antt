-- How a run ends, by its words and by what the files hold.
use Rattle.std.specs.Prelude.{ℕ, ◌-◌, ◌&&◌, Bool, true, false, List, [], ◌∷◌, ◌++◌, length, nat_lt, Option, Some, None, Result, Ok, Err, if◌then◌else◌}
use Rattle.std.specs.Option.{unwrap_or}
use Rattle.hm_base.specs.declared.plain.SpellRules.{SpellRules}
use Rattle.hm_base.specs.declared.limits.TheConstants.{CERTIFICATE_LIMIT, OUTPUT_LIMIT}
use Rattle.hm_base.specs.declared.rules.Rule.{Rule}
use Rattle.hm_base.specs.declared.rules.Rule.TheVariants as rules
use Rattle.hm_cert.specs.Certificate.{AreRows}
use Rattle.hm_cert.specs.Reading.{given}
use Rattle.hm_cert.specs.declared.certificate.Certificate.{Certificate}
use Rattle.hm_base.specs.declared.plain.Format.{Format}
use Rattle.hm_base.specs.declared.plain.Format.TheVariants.{Compact, Sparse}
use Rattle.hm_check.specs.Verdicts.{verdict}
use Rattle.hm_check.specs.declared.verdicts.Verdict.{Verdict}
use Rattle.hm_check.specs.declared.verdicts.Verdict.TheVariants.{Yes, No}
use Rattle.hm_check.specs.declared.verdicts.Why.TheVariants.{OutRefused, RulesDiffer}
use Rattle.hm_input.specs.Trees.{Outcome, built, refused_by}
use Rattle.hm_input.specs.Fragments.{fragment_tree}
use Rattle.hm_input.specs.Frames.{framed, front, unframed}
use Rattle.hm_store.specs.Contents.{Contents}
use Rattle.hm_base.specs.Walks.{Event}
use Rattle.hm_refs.specs.Names.{Entry}
use Rattle.hm_order.specs.Shortest.{certificate_of, certified_rows, layer_count, shortest_text}
use Rattle.hm_dump.specs.Dump.{dump_of}
use Rattle.hm_elements.specs.Settled.{Settled}
use Rattle.hm_json_tree.specs.Texts.{json_text}
use Rattle.hm_input.specs.Inputs.{Input, missing, bad_table, bad_page, bad_json, tree as tree_input}
use Rattle.hm_minify.specs.Wanted.{input_of}
use Rattle.hm_words.specs.Words.{Origin, Work, Asked, page_at, fragment_at, json_at, made, minifies, checks, shows, tells_json, explains, measures, asked, notice_in}
use Rattle.hm_words.specs.declared.notices.Notice.{Notice}
use Rattle.hm_words.specs.declared.writing.Writing.{Writing}
use Rattle.hm_location.specs.Explanations.{explained_page, settled_line}
use Rattle.hm_minify.specs.Lines.{length_line, refused_line, json_line, table_line, usage_line, store_line, notice_text, yes_line, too_long_line, bad_line_line, why_line, measured_line}
use Rattle.hm_minify.specs.Writes.{Write, write}
use Rattle.hm_minify.specs.declared.status.Status.{Status}
use Rattle.hm_minify.specs.declared.status.Status.TheVariants as status

-- a status, the line that is put to the sink, and the files that are written, in their order
pub record Ending : Type 0 where
  pub status : Status
  pub line : List ℕ
  pub writes : List Write

-- nothing is written
abbrev pub says : Status → List ℕ → Ending
says ended line = record { status = ended; line = line; writes = [] }

-- a file that is to be read isn't there
abbrev pub store_fault : Ending
store_fault = says status.StoreFault store_line

-- a status of a run that couldn't come to its ending, or that lacks a file; every other one is an answer
abbrev pub is_fault : Status → Bool
is_fault status.StoreFault = true
is_fault status.SinkFault = true
is_fault status.OutOfMemory = true
is_fault answer = false

-- ---- What an input gives

-- a tree is worked on with its table of names, and with how many bytes its page has; else the first reason why there is none is
-- printed, and for a refused page its line or its explanation
abbrev pub with_tree : Input → (Rule → ℕ → List ℕ) → (ℕ → List Entry → List Event → Ending) → Ending
with_tree missing told work = store_fault
with_tree (bad_table fault) told work = says status.TableRefused (table_line fault)
with_tree (bad_page rule at) told work = says status.PageRefused (told rule at)
with_tree (bad_json fault) told work = says status.JsonRefused (json_line fault)
with_tree (tree_input bytes t w) told work = work bytes t w

-- ---- What is printed of a refused page

-- the name of the file of a page; a page that is made has none
abbrev pub page_name : Origin → List ℕ
page_name (page_at table page) = page
page_name (fragment_at table page) = page
page_name (json_at table page) = page
page_name (made table number size) = []

abbrev pub is_page : Origin → Bool
is_page (page_at table page) = true
is_page (fragment_at table page) = false
is_page (json_at table page) = false
is_page (made table number size) = false

abbrev pub is_explaining : Work → Bool
is_explaining (minifies out cert) = false
is_explaining (checks out cert) = false
is_explaining shows = false
is_explaining tells_json = false
is_explaining explains = true
is_explaining measures = false

-- a page in a file is explained
abbrev pub is_explained : Origin → Work → Bool
is_explained origin work = is_page origin && is_explaining work

-- rule and place, or where a page is explained three lines, by what its file holds
abbrev pub refusal : Origin → Work → Contents → Rule → ℕ → List ℕ
refusal origin work seen rule at = if is_explained origin work then explained_page (page_name origin) (unwrap_or (seen (page_name origin)) []) rule at else refused_line rule at

-- the format of a certificate that is written
abbrev pub format_of : Bool → Format
format_of false = Compact
format_of true = Sparse

-- the part of a text that is written: all of it, or the rest after the front of a fragment
abbrev pub written_part : Bool → List ℕ → List ℕ
written_part false text = text
written_part true text = unframed text

-- a tree is written shortest, with its certificate
abbrev pub minified_ending : Writing → List ℕ → List ℕ → List Entry → List Event → Ending
minified_ending x out cert t w = record {
  status = status.Done;
  line = length_line (length (written_part x.rules.frame (shortest_text t x.rules w)));
  writes = write out (written_part x.rules.frame (shortest_text t x.rules w)) ∷ write cert (certificate_of t x.rules (format_of x.sparse) w) ∷ [];
}

-- what a check finds is said
abbrev pub verdict_ending : Verdict → Ending
verdict_ending (Yes n) = says status.Done (yes_line n)
verdict_ending (No why) = says status.No (why_line why)

-- the rules of a certificate are others
abbrev pub rules_differ : Verdict → Bool
rules_differ (No RulesDiffer) = true
rules_differ found = false

-- the most bytes of a fragment that is checked
abbrev pub fragment_limit : ℕ
fragment_limit = OUTPUT_LIMIT - length front

-- the tree of a fragment within that limit
unfoldable pub out_fragment : List Entry → List ℕ → Outcome
out_fragment t out = if nat_lt fragment_limit (length out) then refused_by rules.TooLong fragment_limit else fragment_tree t out

-- the verdict on a fragment after its front is printed in bytes of the fragment, if it is one
abbrev pub fragment_ending : Verdict → Outcome → Ending
fragment_ending found (refused_by rule at) = says status.No (why_line (OutRefused rule at))
fragment_ending (Yes n) (built v) = says status.Done (yes_line (n - length front))
fragment_ending (No why) (built v) = says status.No (why_line why)

-- where the rules differ, this is said first
abbrev pub framed_ending : Verdict → Outcome → Ending
framed_ending found outcome = if rules_differ found then verdict_ending found else fragment_ending found outcome

-- what a check finds of a text with a certificate, which is that of a page or of a fragment
abbrev pub found_ending : Bool → SpellRules → List Entry → List Event → List ℕ → Certificate → Ending
found_ending false r t w out c = verdict_ending (verdict t r w out c)
found_ending true r t w out c = framed_ending (verdict t r w (framed out) c) (out_fragment t out)

abbrev pub certificate_ending : (Certificate → Ending) → Result Certificate ℕ → Ending
certificate_ending find (Err line) = says status.No (bad_line_line line)
certificate_ending find (Ok c) = find c

-- a text and the bytes of a certificate are checked
abbrev pub checked_ending : SpellRules → List Entry → List Event → List ℕ → List ℕ → Ending
checked_ending r t w out cert = if nat_lt CERTIFICATE_LIMIT (length cert) then says status.No too_long_line else certificate_ending (found_ending r.frame r t w out) (given cert)

-- both are there, or one isn't
abbrev pub check_ending : SpellRules → List Entry → List Event → Option (List ℕ) → Option (List ℕ) → Ending
check_ending r t w None cert = store_fault
check_ending r t w (Some out) None = store_fault
check_ending r t w (Some out) (Some cert) = checked_ending r t w out cert

-- the tree of a page of `bytes` bytes is written shortest, and the check says yes to what was written
abbrev pub measured_ending : ℕ → Writing → List Entry → List Event → Ending
measured_ending bytes x t w = says status.Done (measured_line bytes (length (shortest_text t x.rules w)) (layer_count x.rules w))

-- a page of this name and of `bytes` bytes isn't refused, and its tree is written shortest
abbrev pub settled_ending : List ℕ → ℕ → Writing → List Entry → List Event → Ending
settled_ending name bytes x t w = says status.Done (settled_line name bytes (length (shortest_text t x.rules w)))

-- what is made of a tree of a page of this name, by what further files hold
abbrev pub tree_ending : List ℕ → Work → Writing → Contents → ℕ → List Entry → List Event → Ending
tree_ending name (minifies out cert) x seen bytes t w = minified_ending x out cert t w
tree_ending name (checks out cert) x seen bytes t w = check_ending x.rules t w (seen out) (seen cert)
tree_ending name shows x seen bytes t w = says status.Done (dump_of w)
tree_ending name tells_json x seen bytes t w = says status.Done (json_text w ++ 10 ∷ [])
tree_ending name explains x seen bytes t w = settled_ending name bytes x t w
tree_ending name measures x seen bytes t w = measured_ending bytes x t w

-- the certificate that is written of a tree can be read
abbrev pub IsReadableTree : Work → Writing → List Entry → List Event → Type 0
IsReadableTree (minifies out cert) x t w = AreRows (certified_rows t x.rules (format_of x.sparse) w)
IsReadableTree (checks out cert) x t w = Unit {0}
IsReadableTree shows x t w = Unit {0}
IsReadableTree tells_json x t w = Unit {0}
IsReadableTree explains x t w = AreRows (certified_rows t x.rules (format_of x.sparse) w)
IsReadableTree measures x t w = AreRows (certified_rows t x.rules (format_of x.sparse) w)

-- where there is a tree, it is settled, and what is written of it can be read
abbrev pub IsReadableBy : Work → Writing → Input → Type 0
IsReadableBy work x (tree_input bytes t w) = Settled w × IsReadableTree work x t w
IsReadableBy work x input = Unit {0}

abbrev pub IsReadable : Asked → Input → Type 0
IsReadable a input = IsReadableBy a.work a.writing input

-- what these words have written can be read
abbrev pub IsReadableAsked : Option Asked → Contents → Type 0
IsReadableAsked None seen = Unit {0}
IsReadableAsked (Some a) seen = IsReadable a (input_of a seen)

-- ---- All requests

abbrev pub asked_ending : Asked → Contents → Ending
asked_ending a seen = with_tree (input_of a seen) (refusal a.origin a.work seen) (tree_ending (page_name a.origin) a.work a.writing seen)

abbrev pub request_ending : Option Asked → Contents → Ending
request_ending None seen = says status.Usage usage_line
request_ending (Some a) seen = asked_ending a seen

-- a notice is put where the words ask for one
abbrev pub words_ending : Option Notice → Option Asked → Contents → Ending
words_ending (Some n) a seen = says status.Done (notice_text n)
words_ending None a seen = request_ending a seen

-- how a run on these words ends, where no call failed and no memory was refused
abbrev pub ending : List (List ℕ) → Contents → Ending
ending words seen = words_ending (notice_in words) (asked words) seen

-- the names of the files that are written
abbrev pub outputs : Work → List (List ℕ)
outputs (minifies out cert) = out ∷ cert ∷ []
outputs (checks out cert) = []
outputs shows = []
outputs tells_json = []
outputs explains = []
outputs measures = []

abbrev pub asked_outputs : Option Asked → List (List ℕ)
asked_outputs None = []
asked_outputs (Some a) = outputs a.work
