-- A check of what was minified says yes.
use Rattle.std.proofs.Common.{◌≡◌, ◌∙◌, ◌-◌, ap₂, length-append, ℕ, ◌≤◌, ◌||◌, ◌&&◌, Bool, true, false, cond, List, [], ◌∷◌, length, Option, Some, None, Result, Ok, Err, refl, sym, ap, subst, arith}
use Rattle.std.proofs.lemmas.Bool.Decides.{nat_tests}
use Rattle.std.specs.Bool.{nat_lt}
use Rattle.std.specs.Str.{bytes_eq}
use Rattle.hm_base.specs.Walks.{Event}
use Rattle.hm_base.specs.declared.limits.TheConstants.{CERTIFICATE_LIMIT, OUTPUT_LIMIT}
use Rattle.hm_base.specs.declared.plain.Format.TheVariants.{Sparse}
use Rattle.hm_base.specs.declared.plain.TreeOptions.{TreeOptions}
use Rattle.hm_cert.specs.Certificate.{AreRows}
use Rattle.hm_cert.specs.Reading.{given}
use Rattle.hm_cert.specs.declared.certificate.Certificate.{Certificate}
use Rattle.hm_check.specs.Verdicts.{verdict}
use Rattle.hm_check.specs.declared.verdicts.Verdict.{Verdict}
use Rattle.hm_check.specs.declared.verdicts.Verdict.TheVariants.{Yes}
use Rattle.hm_elements.specs.Settled.{Settled}
use Rattle.hm_input.specs.Trees.{built}
use Rattle.hm_input.specs.Frames.{framed, front, unframed}
use Rattle.hm_input.specs.Laws.{IsReadBack}
use Rattle.hm_base.specs.declared.plain.SpellRules.{SpellRules}
use Rattle.hm_order.specs.Shortest.{certificate_of, certified_rows, shortest_text}
use Rattle.hm_refs.proofs.Places.{same_bytes}
use Rattle.hm_refs.specs.Names.{Entry}
use Rattle.hm_refs.specs.Tables.{IsTable}
use Rattle.hm_store.specs.Contents.{Contents}
use Rattle.hm_words.specs.Words.{Asked, Command, Origin, Work, are_filled, are_files_apart, are_flags, asked, asks, checks, choices_of, command_in, fits, is_apart, minifies, names_in, with_flags, written_of}
use Rattle.hm_words.specs.declared.writing.Writing.{Writing}
use Rattle.hm_minify.specs.Endings.{asked_ending, certificate_ending, check_ending, checked_ending, format_of, found_ending, framed_ending, out_fragment, page_name, refusal, says, tree_ending, verdict_ending, with_tree, written_part}
use Rattle.hm_input.specs.Inputs.{Input, missing, bad_table, bad_page, bad_json, tree as tree_input, origin_input}
use Rattle.hm_minify.specs.Wanted.{input_of, wanted}
use Rattle.hm_minify.specs.Laws.{FragmentIsChecked, MinifiedIsChecked, TreeIsChecked, judged, own_verdict, with_writes}
use Rattle.hm_minify.specs.Lines.{yes_line}
use Rattle.hm_minify.specs.Writes.{write}
use Rattle.hm_minify.specs.declared.status.Status.TheVariants as status
use Rattle.hm_minify.proofs.Accepted.{own_is_accepted}
use Rattle.hm_minify.proofs.Answered.{away, files_apart, is_either, work_apart}
use Rattle.hm_minify.proofs.Found.{bytes_less, short_own}
use Rattle.hm_minify.proofs.Framing.{request_framed, ruled, text_read_back}
use Rattle.hm_minify.proofs.Headline.{request_table}
use Rattle.hm_input.proofs.Seen.{mixed, origin_stays}

-- ---- the names differ

some_is : {A : Type 0} (x y : A) → Some x ≡ Some y → x ≡ y
some_is x y e = let h : x ≡ y = cc in h

first : (a b : Bool) → (a && b) ≡ true → a ≡ true
first true b h = refl
first false b h = cc

flagged_apart : (ws : List (List ℕ)) (x : Option Command) (q : Asked) → with_flags ws x ≡ Some q → is_apart q.origin q.work ≡ true
flagged_apart ws None q e = cc
flagged_apart ws (Some command) q e = by_test (is_apart command.0 command.1 && fits command ws) refl e
  where
    by_test : (b : Bool) → (is_apart command.0 command.1 && fits command ws) ≡ b → cond b (Some (asks command.0 command.1 (choices_of ws).options (written_of command.0 (choices_of ws).writing))) None ≡ Some q → is_apart q.origin q.work ≡ true
    by_test true t h = ap (λ (z : Asked). is_apart z.origin z.work) (sym (some_is _ q h)) ∙ first (is_apart command.0 command.1) (fits command ws) t
    by_test false t h = cc

asked_apart : (ws : List (List ℕ)) (q : Asked) → asked ws ≡ Some q → is_apart q.origin q.work ≡ true
unfolding asked
asked_apart ws q e = by_test (are_filled ws && are_flags ws) e
  where
    by_test : (b : Bool) → cond b (with_flags ws (command_in (names_in ws))) None ≡ Some q → is_apart q.origin q.work ≡ true
    by_test true h = flagged_apart ws (command_in (names_in ws)) q h
    by_test false h = cc

-- ---- the contents afterwards

-- those of the two files
abbrev written_to : List ℕ → List ℕ → List ℕ → Contents
written_to cert o c name = cond (bytes_eq name cert) (Some c) (Some o)

mixed_at : (a b : Bool) (x y z : Option (List ℕ)) → cond b z (cond a y x) ≡ cond (a || b) (cond b z y) x
mixed_at true true x y z = refl
mixed_at true false x y z = refl
mixed_at false true x y z = refl
mixed_at false false x y z = refl

-- all others are as before
writes_mix : (seen : Contents) (out cert o c : List ℕ) → with_writes seen (write out o ∷ write cert c ∷ []) ≡ mixed (is_either out cert) seen (written_to cert o c)
writes_mix seen out cert o c = λ i name. mixed_at (bytes_eq name out) (bytes_eq name cert) (seen name) (Some o) (Some c) i

out_there : (seen : Contents) (out cert o c : List ℕ) → bytes_eq out cert ≡ false → with_writes seen (write out o ∷ write cert c ∷ []) out ≡ Some o
out_there seen out cert o c apart = rw (apart, same_bytes out) refl

cert_there : (seen : Contents) (out cert o c : List ℕ) → with_writes seen (write out o ∷ write cert c ∷ []) cert ≡ Some c
cert_there seen out cert o c = rw (same_bytes cert) refl

-- ---- the ending of the check

within : (n m : ℕ) → m ≤ n → nat_lt n m ≡ false
within n m h = grind (arith, nat_tests)

judged_ending : (find : Certificate → Verdict) (g : Result Certificate ℕ) (n : ℕ) → judged find g ≡ Ok (Yes n) → certificate_ending (λ c. verdict_ending (find c)) g ≡ says status.Done (yes_line n)
judged_ending find (Err line) n e = cc
judged_ending find (Ok c) n e = let is : find c ≡ Yes n = cc in ap verdict_ending is

own_ending : (t : List Entry) → IsTable t → (x : Writing) (w : List Event) → x.rules.frame ≡ false → Settled w → AreRows (certified_rows t x.rules (format_of x.sparse) w) → length (shortest_text t x.rules w) ≤ OUTPUT_LIMIT → length (certificate_of t x.rules (format_of x.sparse) w) ≤ CERTIFICATE_LIMIT
    → checked_ending x.rules t w (shortest_text t x.rules w) (certificate_of t x.rules (format_of x.sparse) w) ≡ says status.Done (yes_line (length (shortest_text t x.rules w)))
own_ending t k x w page s rows short few =
    let yes : own_verdict x t w ≡ Ok (Yes (length (shortest_text t x.rules w))) = own_is_accepted t k x w s short rows in
    rw (within CERTIFICATE_LIMIT (length (certificate_of t x.rules (format_of x.sparse) w)) few)
    (ap (λ f. certificate_ending (found_ending f x.rules t w (shortest_text t x.rules w)) (given (certificate_of t x.rules (format_of x.sparse) w))) page
    ∙ judged_ending (verdict t x.rules w (shortest_text t x.rules w)) (given (certificate_of t x.rules (format_of x.sparse) w)) (length (shortest_text t x.rules w)) yes)

-- what has the bytes of what is written sparsely gets its answer
pub written_is_checked : (t : List Entry) → IsTable t → (r : SpellRules) (w : List Event) (out cert o c : List ℕ) → r.frame ≡ false → Settled w → AreRows (certified_rows t r Sparse w) → o ≡ shortest_text t r w → c ≡ certificate_of t r Sparse w → o ≡ out → c ≡ cert
    → length out ≤ OUTPUT_LIMIT → length cert ≤ CERTIFICATE_LIMIT → checked_ending r t w out cert ≡ says status.Done (yes_line (length out))
written_is_checked t k r w out cert o c page settled rows is lines same_out same_cert short few =
    let x : Writing = record { rules = r; sparse = true; order = false } in
    let text : shortest_text t r w ≡ out = sym is ∙ same_out in
    let sparse : certificate_of t r Sparse w ≡ cert = sym lines ∙ same_cert in
    (λ i. checked_ending r t w (sym text i) (sym sparse i))
    ∙ own_ending t k x w page settled rows (subst (λ s. length s ≤ OUTPUT_LIMIT) (sym text) short) (subst (λ s. length s ≤ CERTIFICATE_LIMIT) (sym sparse) few)
    ∙ ap (λ s. says status.Done (yes_line (length s))) text

pub tree_is_checked : TreeIsChecked
tree_is_checked q out cert work page seen bytes t w reads settled sparse text lines rows short few =
    let x : Writing = record q.writing { sparse = sparse } in
    ap (λ y. with_tree y (refusal q.origin q.work seen) (tree_ending (page_name q.origin) q.work q.writing seen)) reads ∙ ap (λ k. tree_ending (page_name q.origin) k q.writing seen bytes t w) work
    ∙ ap (λ o. check_ending q.writing.rules t w o (seen cert)) text ∙ ap (check_ending q.writing.rules t w (Some (shortest_text t q.writing.rules w))) lines
    ∙ own_ending t (request_table q seen bytes t w reads) x w page settled rows short few

-- what is wanted doesn't depend on what is done with it
same_wanted : (origin : Origin) (a b : Work) (options : TreeOptions) (x : Writing) (i : Input) → wanted (asks origin b options x) i ≡ wanted (asks origin a options x) i
same_wanted origin a b options x missing = refl
same_wanted origin a b options x (bad_table fault) = refl
same_wanted origin a b options x (bad_page rule at) = refl
same_wanted origin a b options x (bad_json fault) = refl
same_wanted origin a b options x (tree_input n t w) = refl

-- the tree is the same after what was minified was written
input_after : (words : List (List ℕ)) (origin : Origin) (out cert o c : List ℕ) (options : TreeOptions) (x : Writing) (seen : Contents) (bytes : ℕ) (t : List Entry) (w : List Event) → are_files_apart origin out cert ≡ true
    → input_of (asks origin (minifies out cert) options x) seen ≡ tree_input bytes t w → input_of (asks origin (checks out cert) options x) (with_writes seen (write out o ∷ write cert c ∷ [])) ≡ tree_input bytes t w
input_after words origin out cert o c options x seen bytes t w apart reads =
    let now : Contents = with_writes seen (write out o ∷ write cert c ∷ []) in
    let same : origin_input origin options now ≡ origin_input origin options seen =
    ap (origin_input origin options) (writes_mix seen out cert o c) ∙ origin_stays (is_either out cert) origin options seen (written_to cert o c) (away origin out cert apart) in
    ap (wanted (asks origin (checks out cert) options x)) same ∙ same_wanted origin (minifies out cert) (checks out cert) options x (origin_input origin options seen) ∙ reads

pub minified_is_checked : MinifiedIsChecked
minified_is_checked words origin out cert options x page e seen bytes t w reads settled rows short few =
    let q : Asked = asks origin (minifies out cert) options x in
    let o : List ℕ = shortest_text t x.rules w in
    let c : List ℕ = certificate_of t x.rules (format_of x.sparse) w in
    let now : Contents = with_writes seen (write out o ∷ write cert c ∷ []) in
    let apart : are_files_apart origin out cert ≡ true = work_apart origin (minifies out cert) (asked_apart words q e) in
    let input : input_of (asks origin (checks out cert) options x) now ≡ tree_input bytes t w = input_after words origin out cert o c options x seen bytes t w apart reads in
    let frame : x.rules.frame ≡ false = (ruled words q e).frame ∙ page in
    ap (λ f. asked_ending (asks origin (checks out cert) options x) (with_writes seen (write out (written_part f o) ∷ write cert c ∷ []))) frame
    ∙ tree_is_checked (asks origin (checks out cert) options x) out cert refl frame now bytes t w input settled x.sparse (out_there seen out cert o c (files_apart origin out cert apart)) (cert_there seen out cert o c) rows short few

-- ---- A fragment

judged_fragment : (t : List Entry) (r : SpellRules) (w : List Event) (o text : List ℕ) (g : Result Certificate ℕ) → framed o ≡ text → out_fragment t o ≡ built w → judged (verdict t r w text) g ≡ Ok (Yes (length text))
    → certificate_ending (found_ending true r t w o) g ≡ says status.Done (yes_line (length o))
judged_fragment t r w o text (Err line) is reads e = cc
judged_fragment t r w o text (Ok c) is reads e =
    let found : verdict t r w text c ≡ Yes (length text) = cc in
    let less : length text - length front ≡ length o = bytes_less (length text) (length o) (ap length (sym is) ∙ length-append front o) in
    ap₂ framed_ending (ap (λ y. verdict t r w y c) is ∙ found) reads ∙ ap (λ n. says status.Done (yes_line n)) less

own_fragment : (t : List Entry) → IsTable t → (x : Writing) (w : List Event) → x.rules.frame ≡ true → Settled w → IsReadBack t w (shortest_text t x.rules w) → AreRows (certified_rows t x.rules (format_of x.sparse) w) → length (shortest_text t x.rules w) ≤ OUTPUT_LIMIT
    → length (certificate_of t x.rules (format_of x.sparse) w) ≤ CERTIFICATE_LIMIT
    → checked_ending x.rules t w (unframed (shortest_text t x.rules w)) (certificate_of t x.rules (format_of x.sparse) w) ≡ says status.Done (yes_line (length (unframed (shortest_text t x.rules w))))
own_fragment t k x w frame s back rows short few =
    let text : List ℕ = shortest_text t x.rules w in
    let o : List ℕ = unframed text in
    let c : List ℕ = certificate_of t x.rules (format_of x.sparse) w in
    let outcome : out_fragment t o ≡ built w = short_own t o text w back.framed_is short back.reads in
    rw (within CERTIFICATE_LIMIT (length c) few)
    (ap (λ f. certificate_ending (found_ending f x.rules t w o) (given c)) frame ∙ judged_fragment t x.rules w o text (given c) back.framed_is outcome (own_is_accepted t k x w s short rows))

pub fragment_is_checked : FragmentIsChecked
fragment_is_checked words origin out cert options x fragment e seen bytes t w reads settled rows short few =
    let q : Asked = asks origin (minifies out cert) options x in
    let text : List ℕ = shortest_text t x.rules w in
    let o : List ℕ = unframed text in
    let c : List ℕ = certificate_of t x.rules (format_of x.sparse) w in
    let now : Contents = with_writes seen (write out o ∷ write cert c ∷ []) in
    let apart : are_files_apart origin out cert ≡ true = work_apart origin (minifies out cert) (asked_apart words q e) in
    let ruled_so = ruled words q e in
    let frame : x.rules.frame ≡ true = ruled_so.frame ∙ fragment in
    let k : IsTable t = request_table q seen bytes t w reads in
    let back : IsReadBack t w text = text_read_back t k x.rules (ruled_so.omits fragment) frame w settled (request_framed q seen bytes t w fragment reads) in
    ap (λ f. asked_ending (asks origin (checks out cert) options x) (with_writes seen (write out (written_part f text) ∷ write cert c ∷ []))) frame
    ∙ ap (λ y. with_tree y (refusal origin (checks out cert) now) (tree_ending (page_name origin) (checks out cert) x now)) (input_after words origin out cert o c options x seen bytes t w apart reads)
    ∙ ap (λ y. check_ending x.rules t w y (now cert)) (out_there seen out cert o c (files_apart origin out cert apart))
    ∙ ap (check_ending x.rules t w (Some o)) (cert_there seen out cert o c)
    ∙ own_fragment t k x w frame settled back rows short few
