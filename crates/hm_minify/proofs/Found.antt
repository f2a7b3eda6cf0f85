-- What is said of a text and a certificate.
use Rattle.std.proofs.Common.{◌≡◌, ℕ, ◌+◌, ◌-◌, ◌≤◌, ◌<◌, Bool, true, false, cond, ◌||◌, List, [], length, take, Some, None, Ok, Err, refl, sym, ap, ap₂, ◌∙◌, subst, arith, length-append}
use Rattle.std.proofs.lemmas.Bool.Decides.{nat_tests}
use Rattle.std.proofs.lemmas.Grind.{common_steps}
use Rattle.std.proofs.lemmas.List.{take_all}
use Rattle.std.specs.Bool.{nat_lt}
use Rattle.std.specs.Io.{StartsWith}
use Rattle.std.specs.Str.{bytes_eq}
use Rattle.std.specs.declared.option.Option.{Option}
use Rattle.std.specs.declared.result.Result.{Result}
use Rattle.hm_base.specs.Walks.{Event}
use Rattle.hm_base.specs.declared.limits.TheConstants.{CERTIFICATE_LIMIT, OUTPUT_LIMIT}
use Rattle.hm_base.specs.declared.plain.SpellRules.{SpellRules}
use Rattle.hm_base.specs.declared.rules.Rule.{Rule}
use Rattle.hm_base.specs.declared.rules.Rule.TheVariants as rules
use Rattle.hm_cert.specs.Reading.{given}
use Rattle.hm_cert.specs.declared.certificate.Certificate.{Certificate}
use Rattle.hm_check.proofs.Shown.{yes_shows}
use Rattle.hm_check.specs.Laws.{IsShown}
use Rattle.hm_check.specs.Verdicts.{out_outcome, same_rules, verdict}
use Rattle.hm_check.specs.declared.verdicts.Verdict.{Verdict}
use Rattle.hm_check.specs.declared.verdicts.Verdict.TheVariants.{Yes, No}
use Rattle.hm_check.specs.declared.verdicts.Why.{Why}
use Rattle.hm_check.specs.declared.verdicts.Why.TheVariants.{OutRefused, RulesDiffer}
use Rattle.hm_input.specs.Trees.{Outcome, built, page_tree, refused_by}
use Rattle.hm_elements.specs.Settled.{Settled}
use Rattle.hm_input.proofs.Fragments.{bounds_are_of_fragments, of_fragment}
use Rattle.hm_input.specs.Fragments.{fragment_tree}
use Rattle.hm_input.specs.Frames.{framed, front, unframed}
use Rattle.hm_input.specs.Loads.{IsLoaded}
use Rattle.hm_refs.specs.Names.{Entry}
use Rattle.hm_refs.specs.Tables.{IsTable}
use Rattle.hm_order.specs.Spellings.{Shortest, Spells}
use Rattle.hm_store.specs.Contents.{Sees}
use Rattle.hm_store.specs.Files.{FileMap}
use Rattle.hm_minify.specs.Endings.{Ending, says, is_fault, verdict_ending, rules_differ, fragment_limit, out_fragment, fragment_ending, framed_ending, found_ending, certificate_ending, checked_ending, check_ending}
use Rattle.hm_minify.specs.Lines.{too_long_line, why_line, yes_line}
use Rattle.hm_minify.specs.declared.status.Status.{Status}
use Rattle.hm_minify.specs.declared.status.Status.TheVariants as status
use Rattle.hm_input.proofs.Loaded.{page_length}
use Rattle.hm_input.proofs.Seen.{files_seen}

-- ---- a file that is longer than its limit

still_long : (content : List ℕ) (n : ℕ) → n < length content → n < length (take (n + 1) content)
still_long content n h = grind (arith, common_steps)

long_by_test : (n m : ℕ) → nat_lt n m ≡ true → n < m
long_by_test n m e = grind (arith, nat_tests)

short_by_test : (n m : ℕ) → nat_lt n m ≡ false → m ≤ n + 1
short_by_test n m e = grind (arith, nat_tests)

long_test : (n m : ℕ) → n < m → nat_lt n m ≡ true
long_test n m h = grind (arith, nat_tests)

-- the prefix that is loaded is longer too
front_long : (n : ℕ) (content : List ℕ) → nat_lt n (length content) ≡ true → nat_lt n (length (take (n + 1) content)) ≡ true
front_long n content e = long_test n (length (take (n + 1) content)) (still_long content n (long_by_test n (length content) e))

-- else all is loaded
front_whole : (n : ℕ) (content : List ℕ) → nat_lt n (length content) ≡ false → take (n + 1) content ≡ content
front_whole n content e = take_all (n + 1) content (short_by_test n (length content) e)

-- what is found of a longer text doesn't depend on its bytes
long_found : (t : List Entry) (r : SpellRules) (w : List Event) (out : List ℕ) (c : Certificate) → nat_lt OUTPUT_LIMIT (length out) ≡ true → verdict t r w out c ≡ cond (same_rules c.rules r) (No (OutRefused rules.TooLong OUTPUT_LIMIT)) (No RulesDiffer)
unfolding verdict out_outcome
long_found t r w out c long = rw long refl

text_front : (t : List Entry) (r : SpellRules) (w : List Event) (out : List ℕ) (c : Certificate) → verdict t r w (take (OUTPUT_LIMIT + 1) out) c ≡ verdict t r w out c
text_front t r w out c = by_length (nat_lt OUTPUT_LIMIT (length out)) refl
  where
    by_length : (long : Bool) → nat_lt OUTPUT_LIMIT (length out) ≡ long → verdict t r w (take (OUTPUT_LIMIT + 1) out) c ≡ verdict t r w out c
    by_length true e = long_found t r w (take (OUTPUT_LIMIT + 1) out) c (front_long OUTPUT_LIMIT out e) ∙ sym (long_found t r w out c e)
    by_length false e = ap (λ x. verdict t r w x c) (front_whole OUTPUT_LIMIT out e)

-- ---- a fragment after its front

front_bytes : length front ≡ 21
front_bytes = refl

framed_length : (out : List ℕ) → length (framed out) ≡ 21 + length out
framed_length out = length-append front out

framed_long : (out : List ℕ) → nat_lt fragment_limit (length out) ≡ true → nat_lt OUTPUT_LIMIT (length (framed out)) ≡ true
framed_long out e = long_test OUTPUT_LIMIT (length (framed out)) (let h : fragment_limit < length out = long_by_test fragment_limit (length out) e in let l = framed_length out in omega (arith, h, l))

framed_front : (t : List Entry) (r : SpellRules) (w : List Event) (out : List ℕ) (c : Certificate) → verdict t r w (framed (take (fragment_limit + 1) out)) c ≡ verdict t r w (framed out) c
framed_front t r w out c = by_length (nat_lt fragment_limit (length out)) refl
  where
    by_length : (long : Bool) → nat_lt fragment_limit (length out) ≡ long → verdict t r w (framed (take (fragment_limit + 1) out)) c ≡ verdict t r w (framed out) c
    by_length true e =
        long_found t r w (framed (take (fragment_limit + 1) out)) c (framed_long (take (fragment_limit + 1) out) (front_long fragment_limit out e))
        ∙ sym (long_found t r w (framed out) c (framed_long out e))
    by_length false e = ap (λ x. verdict t r w (framed x) c) (front_whole fragment_limit out e)

long_fragment : (t : List Entry) (out : List ℕ) → nat_lt fragment_limit (length out) ≡ true → out_fragment t out ≡ refused_by rules.TooLong fragment_limit
unfolding out_fragment
long_fragment t out long = rw long refl

fragment_front : (t : List Entry) (out : List ℕ) → out_fragment t (take (fragment_limit + 1) out) ≡ out_fragment t out
fragment_front t out = by_length (nat_lt fragment_limit (length out)) refl
  where
    by_length : (long : Bool) → nat_lt fragment_limit (length out) ≡ long → out_fragment t (take (fragment_limit + 1) out) ≡ out_fragment t out
    by_length true e = long_fragment t (take (fragment_limit + 1) out) (front_long fragment_limit out e) ∙ sym (long_fragment t out e)
    by_length false e = ap (out_fragment t) (front_whole fragment_limit out e)

-- ---- what is said of either

-- the most bytes of a text, or of a fragment, that is checked
abbrev pub limit_of : Bool → ℕ
limit_of false = OUTPUT_LIMIT
limit_of true = fragment_limit

found_front : (frame : Bool) (r : SpellRules) (t : List Entry) (w : List Event) (out : List ℕ) (c : Certificate) → found_ending frame r t w (take (limit_of frame + 1) out) c ≡ found_ending frame r t w out c
found_front false r t w out c = ap verdict_ending (text_front t r w out c)
found_front true r t w out c = ap₂ framed_ending (framed_front t r w out c) (fragment_front t out)

given_front : (frame : Bool) (r : SpellRules) (t : List Entry) (w : List Event) (out : List ℕ) (g : Result Certificate ℕ) → certificate_ending (found_ending frame r t w (take (limit_of frame + 1) out)) g ≡ certificate_ending (found_ending frame r t w out) g
given_front frame r t w out (Err line) = refl
given_front frame r t w out (Ok c) = found_front frame r t w out c

-- what is said of the prefixes that are loaded is said of the files
checked_front : (r : SpellRules) (t : List Entry) (w : List Event) (out cert : List ℕ) → checked_ending r t w (take (limit_of r.frame + 1) out) (take (CERTIFICATE_LIMIT + 1) cert) ≡ checked_ending r t w out cert
checked_front r t w out cert = by_length (nat_lt CERTIFICATE_LIMIT (length cert)) refl
  where
    by_length : (long : Bool) → nat_lt CERTIFICATE_LIMIT (length cert) ≡ long → checked_ending r t w (take (limit_of r.frame + 1) out) (take (CERTIFICATE_LIMIT + 1) cert) ≡ checked_ending r t w out cert
    by_length true e =
        ap (λ b. cond b (says status.No too_long_line) (certificate_ending (found_ending r.frame r t w (take (limit_of r.frame + 1) out)) (given (take (CERTIFICATE_LIMIT + 1) cert)))) (front_long CERTIFICATE_LIMIT cert e)
        ∙ ap (λ b. cond b (says status.No too_long_line) (certificate_ending (found_ending r.frame r t w out) (given cert))) (sym e)
    by_length false e =
        ap (checked_ending r t w (take (limit_of r.frame + 1) out)) (front_whole CERTIFICATE_LIMIT cert e)
        ∙ ap (cond (nat_lt CERTIFICATE_LIMIT (length cert)) (says status.No too_long_line)) (given_front r.frame r t w out (given cert))

-- ---- both are loaded

pub checked_seen : (told : Option FileMap) (out cert text lines : List ℕ) (r : SpellRules) (t : List Entry) (w : List Event) (ended : Ending) → bytes_eq out cert ≡ false → IsLoaded told out (limit_of r.frame) text → IsLoaded told cert CERTIFICATE_LIMIT lines
    → ended ≡ checked_ending r t w text lines → Sees told (λ seen. ended ≡ check_ending r t w (seen out) (seen cert))
checked_seen told out cert text lines r t w ended apart a b e =
    let s = files_seen told out cert a.content b.content apart a.there b.there in
    record {
      seen = s.seen;
      are_told = s.are_told;
      holds = e ∙ ap (λ x. checked_ending r t w x lines) a.front ∙ ap (checked_ending r t w (take (limit_of r.frame + 1) a.content)) b.front ∙ checked_front r t w a.content b.content
          ∙ ap (λ x. check_ending r t w x (Some b.content)) (sym s.holds.0) ∙ ap (check_ending r t w (s.seen out)) (sym s.holds.1);
    }

-- ---- every answer

-- a check finds something, a yes or a no
abbrev pub is_found : Status → Bool
is_found status.Done = true
is_found status.No = true
is_found s = false

-- it is said, and nothing is written
pub record IsFound (e : Ending) : Type 0 where
  pub found : is_found e.status ≡ true
  pub writes : e.writes ≡ []

verdict_found : (v : Verdict) → IsFound (verdict_ending v)
verdict_found (Yes n) = record { found = refl; writes = refl }
verdict_found (No why) = record { found = refl; writes = refl }

fragment_found : (v : Verdict) (o : Outcome) → IsFound (fragment_ending v o)
fragment_found v (refused_by rule at) = record { found = refl; writes = refl }
fragment_found (Yes n) (built w) = record { found = refl; writes = refl }
fragment_found (No why) (built w) = record { found = refl; writes = refl }

framed_found : (v : Verdict) (o : Outcome) → IsFound (framed_ending v o)
framed_found v o = by_rules (rules_differ v)
  where
    by_rules : (differ : Bool) → IsFound (cond differ (verdict_ending v) (fragment_ending v o))
    by_rules true = verdict_found v
    by_rules false = fragment_found v o

either_found : (frame : Bool) (r : SpellRules) (t : List Entry) (w : List Event) (out : List ℕ) (c : Certificate) → IsFound (found_ending frame r t w out c)
either_found false r t w out c = verdict_found (verdict t r w out c)
either_found true r t w out c = framed_found (verdict t r w (framed out) c) (out_fragment t out)

certificate_found : (find : Certificate → Ending) (g : Result Certificate ℕ) → ((c : Certificate) → IsFound (find c)) → IsFound (certificate_ending find g)
certificate_found find (Err line) found = record { found = refl; writes = refl }
certificate_found find (Ok c) found = found c

pub checked_found : (r : SpellRules) (t : List Entry) (w : List Event) (out cert : List ℕ) → IsFound (checked_ending r t w out cert)
checked_found r t w out cert = by_length (nat_lt CERTIFICATE_LIMIT (length cert))
  where
    by_length : (long : Bool) → IsFound (cond long (says status.No too_long_line) (certificate_ending (found_ending r.frame r t w out) (given cert)))
    by_length true = record { found = refl; writes = refl }
    by_length false = certificate_found (found_ending r.frame r t w out) (given cert) (either_found r.frame r t w out)

found_answers : (s : Status) → is_found s ≡ true → is_fault s ≡ false
found_answers status.Done e = refl
found_answers status.No e = refl
found_answers status.Usage e = cc
found_answers status.PageRefused e = cc
found_answers status.TableRefused e = cc
found_answers status.StoreFault e = cc
found_answers status.SinkFault e = cc
found_answers status.OutOfMemory e = cc
found_answers status.JsonRefused e = cc

pub checked_answers : (r : SpellRules) (t : List Entry) (w : List Event) (out cert : List ℕ) (ended : Ending) → ended ≡ checked_ending r t w out cert → is_fault ended.status ≡ false
checked_answers r t w out cert ended e = ap (λ (x : Ending). is_fault x.status) e ∙ found_answers (checked_ending r t w out cert).status (checked_found r t w out cert).found

pub check_writes : (r : SpellRules) (t : List Entry) (w : List Event) (out cert : Option (List ℕ)) → (check_ending r t w out cert).writes ≡ []
check_writes r t w None cert = refl
check_writes r t w (Some out) None = refl
check_writes r t w (Some out) (Some cert) = (checked_found r t w out cert).writes

-- whatever is there, a check says what it finds, or that a file isn't there
pub check_other : (r : SpellRules) (t : List Entry) (w : List Event) (out cert : Option (List ℕ)) (s : Status) → (check_ending r t w out cert).status ≡ s → (is_found s || is_fault s) ≡ true
check_other r t w None cert s e = ap (λ x. is_found x || is_fault x) (sym e)
check_other r t w (Some out) None s e = ap (λ x. is_found x || is_fault x) (sym e)
check_other r t w (Some out) (Some cert) s e = ap (λ x. x || is_fault s) (ap is_found (sym e) ∙ (checked_found r t w out cert).found)

-- ---- a yes

pub record IsYes (t : List Entry) (r : SpellRules) (w : List Event) (out : List ℕ) (e : Ending) : Type 0 where
  pub parses : page_tree t out ≡ built w
  pub shortest : Shortest t r w (length out)
  pub line : e.line ≡ yes_line (length out)

verdict_yes : (t : List Entry) → IsTable t → (r : SpellRules) (w : List Event) → Settled w → (out : List ℕ) (c : Certificate) (v : Verdict) → verdict t r w out c ≡ v → (verdict_ending v).status ≡ status.Done → IsYes t r w out (verdict_ending v)
verdict_yes t k r w s out c (Yes n) is e =
    let shown : IsShown t r w out n = yes_shows t k r w s out c n is in
    record { parses = shown.parses; shortest = shown.shortest; line = ap yes_line shown.len }
verdict_yes t k r w s out c (No why) is e = cc

-- what is said of a text with a certificate, whether it is that of a page or of a fragment
abbrev said_of : Bool → SpellRules → List Entry → List Event → List ℕ → List ℕ → Ending
said_of frame r t w out cert = cond (nat_lt CERTIFICATE_LIMIT (length cert)) (says status.No too_long_line) (certificate_ending (found_ending frame r t w out) (given cert))

-- what holds where a check of the certificate says yes holds where the whole check does
yes_of : (Is : Ending → Type 0) (frame : Bool) (r : SpellRules) (t : List Entry) (w : List Event) (out cert : List ℕ) → ((c : Certificate) → (found_ending frame r t w out c).status ≡ status.Done → Is (found_ending frame r t w out c))
    → (said_of frame r t w out cert).status ≡ status.Done → Is (said_of frame r t w out cert)
yes_of Is frame r t w out cert says_yes e = by_length (nat_lt CERTIFICATE_LIMIT (length cert)) e
  where
    by_certificate : (g : Result Certificate ℕ) → (certificate_ending (found_ending frame r t w out) g).status ≡ status.Done → Is (certificate_ending (found_ending frame r t w out) g)
    by_certificate (Err line) h = cc
    by_certificate (Ok c) h = says_yes c h

    by_length : (long : Bool) → (cond long (says status.No too_long_line) (certificate_ending (found_ending frame r t w out) (given cert))).status ≡ status.Done → Is (cond long (says status.No too_long_line) (certificate_ending (found_ending frame r t w out) (given cert)))
    by_length true h = cc
    by_length false h = by_certificate (given cert) h

page_yes : (t : List Entry) → IsTable t → (r : SpellRules) (w : List Event) → Settled w → (out cert : List ℕ) → (said_of false r t w out cert).status ≡ status.Done → IsYes t r w out (said_of false r t w out cert)
page_yes t k r w s out cert e = yes_of (IsYes t r w out) false r t w out cert (λ c h. verdict_yes t k r w s out c (verdict t r w out c) refl h) e

pub checked_yes : (t : List Entry) → IsTable t → (r : SpellRules) (w : List Event) → Settled w → (out cert : List ℕ) → r.frame ≡ false → (checked_ending r t w out cert).status ≡ status.Done → IsYes t r w out (checked_ending r t w out cert)
checked_yes t k r w s out cert page e =
    subst (λ f. IsYes t r w out (said_of f r t w out cert)) (sym page) (page_yes t k r w s out cert (ap (λ f. (said_of f r t w out cert).status) (sym page) ∙ e))

-- ---- a yes to a fragment

pub record IsFragmentYes (t : List Entry) (r : SpellRules) (w : List Event) (out : List ℕ) (e : Ending) : Type 0 where
  pub reads_back : fragment_tree t out ≡ built w
  pub shortest : Shortest t r w (length (framed out))
  pub least : (fragment : List ℕ) → Spells t r w (framed fragment) → length out ≤ length fragment
  pub line : e.line ≡ yes_line (length out)

-- a fragment within the limit
in_limit : (t : List Entry) (out : List ℕ) (v : List Event) → out_fragment t out ≡ built v → fragment_tree t out ≡ built v
unfolding out_fragment
in_limit t out v e = by_length (nat_lt fragment_limit (length out)) e
  where
    by_length : (long : Bool) → cond long (refused_by rules.TooLong fragment_limit) (fragment_tree t out) ≡ built v → fragment_tree t out ≡ built v
    by_length true h = cc
    by_length false h = h

-- the fragment's tree is that of its page
same_tree : (t : List Entry) (out : List ℕ) (v w : List Event) → fragment_tree t out ≡ built v → page_tree t (framed out) ≡ built w → fragment_tree t out ≡ built w
same_tree t out v w fragment page =
    let h : built v ≡ built w = sym (of_fragment t out v fragment).reads ∙ page in
    fragment ∙ h

pub bytes_less : (n m : ℕ) → n ≡ 21 + m → n - length front ≡ m
bytes_less n m e = omega (arith, e)

framed_yes : (t : List Entry) → IsTable t → (r : SpellRules) (w : List Event) → Settled w → (out : List ℕ) (c : Certificate) (v : Verdict) (o : Outcome) → verdict t r w (framed out) c ≡ v → out_fragment t out ≡ o
    → (framed_ending v o).status ≡ status.Done → IsFragmentYes t r w out (framed_ending v o)
framed_yes t k r w s out c (Yes n) (refused_by rule at) is reads e = cc
framed_yes t k r w s out c (Yes n) (built u) is reads e =
    let shown : IsShown t r w (framed out) n = yes_shows t k r w s (framed out) c n is in
    record {
      reads_back = same_tree t out u w (in_limit t out u reads) shown.parses;
      shortest = shown.shortest;
      least = λ fragment spells. bounds_are_of_fragments t r w (length out) (subst (Shortest t r w) (framed_length out) shown.shortest) fragment spells;
      line = ap yes_line (bytes_less n (length out) (shown.len ∙ framed_length out));
    }
framed_yes t k r w s out c (No why) (refused_by rule at) is reads e = by_rules (rules_differ (No why)) e
  where
    by_rules : (differ : Bool) → (cond differ (verdict_ending (No why)) (fragment_ending (No why) (refused_by rule at))).status ≡ status.Done → IsFragmentYes t r w out (cond differ (verdict_ending (No why)) (fragment_ending (No why) (refused_by rule at)))
    by_rules true h = cc
    by_rules false h = cc
framed_yes t k r w s out c (No why) (built u) is reads e = by_rules (rules_differ (No why)) e
  where
    by_rules : (differ : Bool) → (cond differ (verdict_ending (No why)) (fragment_ending (No why) (built u))).status ≡ status.Done → IsFragmentYes t r w out (cond differ (verdict_ending (No why)) (fragment_ending (No why) (built u)))
    by_rules true h = cc
    by_rules false h = cc

fragment_yes : (t : List Entry) → IsTable t → (r : SpellRules) (w : List Event) → Settled w → (out cert : List ℕ) → (said_of true r t w out cert).status ≡ status.Done → IsFragmentYes t r w out (said_of true r t w out cert)
fragment_yes t k r w s out cert e = yes_of (IsFragmentYes t r w out) true r t w out cert (λ c h. framed_yes t k r w s out c (verdict t r w (framed out) c) (out_fragment t out) refl refl h) e

pub checked_fragment_yes : (t : List Entry) → IsTable t → (r : SpellRules) (w : List Event) → Settled w → (out cert : List ℕ) → r.frame ≡ true → (checked_ending r t w out cert).status ≡ status.Done → IsFragmentYes t r w out (checked_ending r t w out cert)
checked_fragment_yes t k r w s out cert fragment e =
    subst (λ f. IsFragmentYes t r w out (said_of f r t w out cert)) (sym fragment) (fragment_yes t k r w s out cert (ap (λ f. (said_of f r t w out cert).status) (sym fragment) ∙ e))

-- ---- the steps of a check of a fragment

pub long_said : (t : List Entry) (page : List ℕ) (found : Verdict) (ended : Ending) → StartsWith page front → OUTPUT_LIMIT < length page → ended ≡ says status.No (why_line (OutRefused rules.TooLong fragment_limit)) → ended ≡ fragment_ending found (out_fragment t (unframed page))
long_said t page found ended h long e =
    let l = page_length page h in
    let more : nat_lt fragment_limit (length (unframed page)) ≡ true = long_test fragment_limit (length (unframed page)) (omega (arith, l, long)) in
    e ∙ ap (fragment_ending found) (sym (long_fragment t (unframed page) more))

short_test : (n m : ℕ) → m ≤ n → nat_lt n m ≡ false
short_test n m h = grind (arith, nat_tests)

-- the tree of a fragment within the limit
pub short_fragment : (t : List Entry) (page : List ℕ) (o : Outcome) → StartsWith page front → length page ≤ OUTPUT_LIMIT → fragment_tree t (unframed page) ≡ o → out_fragment t (unframed page) ≡ o
unfolding out_fragment
short_fragment t page o h short e =
    let l = page_length page h in
    let less : nat_lt fragment_limit (length (unframed page)) ≡ false = short_test fragment_limit (length (unframed page)) (omega (arith, l, short)) in
    rw less e

pub yes_said : (found : Verdict) (o : Outcome) (w : List Event) (n k : ℕ) (ended : Ending) → found ≡ Yes n → o ≡ built w → k ≡ n - length front → ended ≡ verdict_ending (Yes k) → ended ≡ fragment_ending found o
yes_said found o w n k ended is reads less e = e ∙ ap (λ x. verdict_ending (Yes x)) less ∙ ap₂ fragment_ending (sym is) (sym reads)

pub no_said : (found : Verdict) (o : Outcome) (w : List Event) (why : Why) (ended : Ending) → found ≡ No why → o ≡ built w → ended ≡ verdict_ending (No why) → ended ≡ fragment_ending found o
no_said found o w why ended is reads e = e ∙ ap₂ fragment_ending (sym is) (sym reads)

pub refused_said : (found : Verdict) (o : Outcome) (rule : Rule) (at : ℕ) (ended : Ending) → o ≡ refused_by rule at → ended ≡ says status.No (why_line (OutRefused rule at)) → ended ≡ fragment_ending found o
refused_said found o rule at ended is e = e ∙ ap (fragment_ending found) (sym is)

-- what is said of rules that differ, or of a fragment
pub differ_said : (found v : Verdict) (o : Outcome) (ended : Ending) → found ≡ v → rules_differ found ≡ true → ended ≡ verdict_ending found → ended ≡ framed_ending v o
differ_said found v o ended is differ e = e ∙ ap (λ b. cond b (verdict_ending found) (fragment_ending found o)) (sym differ) ∙ ap (λ x. framed_ending x o) is

pub same_said : (found v : Verdict) (o : Outcome) (ended : Ending) → found ≡ v → rules_differ found ≡ false → ended ≡ fragment_ending found o → ended ≡ framed_ending v o
same_said found v o ended is same e = e ∙ ap (λ b. cond b (verdict_ending found) (fragment_ending found o)) (sym same) ∙ ap (λ x. framed_ending x o) is

-- so is the tree of a fragment that was written
pub short_own : (t : List Entry) (o text : List ℕ) (w : List Event) → framed o ≡ text → length text ≤ OUTPUT_LIMIT → fragment_tree t o ≡ built w → out_fragment t o ≡ built w
unfolding out_fragment
short_own t o text w is short e =
    let l : length text ≡ 21 + length o = ap length (sym is) ∙ framed_length o in
    let less : nat_lt fragment_limit (length o) ≡ false = short_test fragment_limit (length o) (omega (arith, l, short)) in
    rw less e
