-- What the ending of a run says of its request.
use Rattle.std.proofs.Common.{◌≡◌, ℕ, ◌⊎◌, inl, inr, Bool, true, false, ◌||◌, List, [], ◌∷◌, length, Some, None, refl, sym, ap, ◌∙◌, subst}
use Rattle.std.specs.declared.option.Option.{Option}
use Rattle.std.specs.Io.KnownBytes.{append_known}
use Rattle.hm_base.specs.Walks.{Event}
use Rattle.hm_base.specs.declared.rules.Rule.{Rule}
use Rattle.hm_words.specs.declared.notices.Notice.{Notice}
use Rattle.hm_words.specs.declared.writing.Writing.{Writing}
use Rattle.hm_refs.specs.Names.{Entry}
use Rattle.hm_store.specs.Contents.{AreTold, Contents, Sees}
use Rattle.hm_elements.specs.Settled.{Settled}
use Rattle.hm_input.specs.Inputs.{Input, missing, bad_table, bad_page, bad_json, tree as tree_input}
use Rattle.hm_minify.specs.Wanted.{input_of}
use Rattle.hm_order.specs.Shortest.{IsShortest, certificate_of, shortest_text}
use Rattle.hm_words.specs.Words.{Asked, Work, minifies, checks as checks_files, shows as shows_tree, tells_json, explains as explains_page, measures as measures_tree, Origin, asked, is_fragment, notice_in}
use Rattle.hm_minify.specs.Endings.{IsReadableAsked, IsReadableBy, written_part, format_of, is_explained, is_fault, page_name, refusal, with_tree, tree_ending, check_ending, asked_ending, Ending, words_ending, ending}
use Rattle.hm_input.specs.Frames.{framed, unframed}
use Rattle.hm_input.specs.Laws.{IsReadBack}
use Rattle.hm_minify.specs.Lines.{length_line, refused_line, usage_line}
use Rattle.hm_minify.specs.Outside.{Outside, Prints}
use Rattle.hm_minify.specs.Runs.{Ends, EndsAs, Puts, HasMinified, HasMinifiedFragment, HasChecked, HasCheckedFragment, HasDenied, HasShown, HasToldJson, HasMeasured, HasRefusedPage, HasRefusedJson, HasRefusedTable}
use Rattle.hm_minify.specs.Writes.{after_writes, write}
use Rattle.hm_minify.specs.declared.status.Status.{Status}
use Rattle.hm_minify.specs.declared.status.Status.TheVariants as status
use Rattle.hm_minify.proofs.Courses.{put_says}
use Rattle.hm_minify.proofs.Found.{check_other, check_writes, checked_fragment_yes, checked_yes, is_found}
use Rattle.hm_input.proofs.Measured.{IsGenerated, asked_limits}
use Rattle.hm_minify.proofs.Generated.{json_never_refused, page_never_refused}
use Rattle.hm_minify.proofs.Framing.{IsRuled, least_fragment, request_framed, ruled, text_read_back}
use Rattle.hm_minify.proofs.Headline.{request_table, input_is_shortest}
use Rattle.hm_minify.proofs.Ordered.{bounds_all}
use Rattle.hm_minify.proofs.Steps.{ending_of_asked, ending_of_none}

-- ---- statuses that no tree gives

-- a status that work on a tree can give
abbrev is_of_tree : Status → Bool
is_of_tree s = is_found s || is_fault s

tree_status : (page : List ℕ) (work : Work) (r : Writing) (seen : Contents) (n : ℕ) (t : List Entry) (w : List Event) → is_of_tree (tree_ending page work r seen n t w).status ≡ true
tree_status page (minifies out cert) r seen n t w = refl
tree_status page (checks_files out cert) r seen n t w = check_other r.rules t w (seen out) (seen cert) (check_ending r.rules t w (seen out) (seen cert)).status refl
tree_status page shows_tree r seen n t w = refl
tree_status page tells_json r seen n t w = refl
tree_status page explains_page r seen n t w = refl
tree_status page measures_tree r seen n t w = refl

-- another one is the ending of no work on a tree
other_status : (s : Status) → is_of_tree s ≡ false → (page : List ℕ) (work : Work) (r : Writing) (seen : Contents) (n : ℕ) (t : List Entry) (w : List Event) → (tree_ending page work r seen n t w).status ≡ s → ⊥
other_status s other page work r seen n t w e = let h : true ≡ false = sym (tree_status page work r seen n t w) ∙ ap is_of_tree e ∙ other in cc

-- ---- words without a meaning

input_is_asked : (origin : Origin) (work : Work) (r : Writing) (seen : Contents) (x : Input) → (with_tree x (refusal origin work seen) (tree_ending (page_name origin) work r seen)).status ≡ status.Usage → ⊥
input_is_asked origin work r seen missing e = cc
input_is_asked origin work r seen (bad_table fault) e = cc
input_is_asked origin work r seen (bad_page rule at) e = cc
input_is_asked origin work r seen (bad_json fault) e = cc
input_is_asked origin work r seen (tree_input n t w) e = other_status status.Usage refl (page_name origin) work r seen n t w e

unasked : (n : Option Notice) (a : Option Asked) (seen : Contents) → (words_ending n a seen).status ≡ status.Usage → (a ≡ None) × (n ≡ None)
unasked (Some n) a seen e = cc
unasked None None seen e = (refl, refl)
unasked None (Some a) seen e = absurd (input_is_asked a.origin a.work a.writing seen (input_of a seen) e)

pub usage_answers : (r : Status) → r ≡ status.Usage → is_fault r ≡ false
usage_answers r e = ap is_fault e

pub usage_unasked : (words : List (List ℕ)) (r : Status) (b a : Outside) → Ends words r b a → r ≡ status.Usage → (asked words ≡ None) × (notice_in words ≡ None) × Prints usage_line b a
usage_unasked words r b a w is =
    let none = unasked (notice_in words) (asked words) w.seen (sym w.holds.status ∙ is) in
    (none.0, none.1, w.holds.line ∙ ap (λ (x : Ending). append_known b.printed x.line) (ending_of_none words w.seen none.0 none.1))

usage_or_sink : (line : List ℕ) (r : Status) (b a : Outside) → Puts line status.Usage r b a → (r ≡ status.Usage) ⊎ ((r ≡ status.SinkFault) ⊎ (r ≡ status.OutOfMemory))
usage_or_sink line r b a (inl p) = inl p.0
usage_or_sink line r b a (inr p) = inr (inl p.0)

pub usage_or_fault : (line : List ℕ) (r : Status) (b a : Outside) → Puts line status.Usage r b a ⊎ (r ≡ status.OutOfMemory) → (r ≡ status.Usage) ⊎ ((r ≡ status.SinkFault) ⊎ (r ≡ status.OutOfMemory))
usage_or_fault line r b a (inl p) = usage_or_sink line r b a p
usage_or_fault line r b a (inr m) = inr (inr m)

-- a notice is put, or a put has failed
done_or_sink : (line : List ℕ) (r : Status) (b a : Outside) → Puts line status.Done r b a → (r ≡ status.Done) ⊎ (r ≡ status.SinkFault)
done_or_sink line r b a (inl p) = inl p.0
done_or_sink line r b a (inr p) = inr p.0

pub noticed : (line : List ℕ) (r : Status) (b a : Outside) → Puts line status.Done r b a → ((r ≡ status.Done) ⊎ (r ≡ status.SinkFault)) × (r ≡ status.Done → Prints line b a)
noticed line r b a p = (done_or_sink line r b a p, λ is. (put_says line status.Done r b a p (λ h. let x : status.Done ≡ status.SinkFault = sym is ∙ h in cc)).1)

-- ---- the ending of what was asked

-- the ending of a request, whose work is known
abbrev pub EndsBy : Asked → Work → Contents → Input → Status → Outside → Outside → Type 0
EndsBy q work seen x r b a = EndsAs (with_tree x (refusal q.origin work seen) (tree_ending (page_name q.origin) work q.writing seen)) r b a

of_asked : (words : List (List ℕ)) (q : Asked) (r : Status) (b a : Outside) (seen : Contents) → asked words ≡ Some q → EndsAs (ending words seen) r b a → EndsAs (asked_ending q seen) r b a
of_asked words q r b a seen e w = subst (λ (x : Ending). EndsAs x r b a) (ending_of_asked words q seen e) w

pub of_work : (words : List (List ℕ)) (q : Asked) (work : Work) (r : Status) (b a : Outside) (seen : Contents) → asked words ≡ Some q → q.work ≡ work → EndsAs (ending words seen) r b a → EndsBy q work seen (input_of q seen) r b a
of_work words q work r b a seen e is w = subst (λ x. EndsBy q x seen (input_of q seen) r b a) is (of_asked words q r b a seen e w)

-- ---- minify

minified_of : (q : Asked) (out cert : List ℕ) (r : Status) (b a : Outside) (seen : Contents) (x : Input) → q.writing.rules.frame ≡ false → AreTold b.files seen → input_of q seen ≡ x → EndsBy q (minifies out cert) seen x r b a → IsReadableBy (minifies out cert) q.writing x → r ≡ status.Done → HasMinified q out cert b a
minified_of q out cert r b a seen missing page told reads w h is = let e : status.StoreFault ≡ status.Done = sym w.status ∙ is in cc
minified_of q out cert r b a seen (bad_table fault) page told reads w h is = let e : status.TableRefused ≡ status.Done = sym w.status ∙ is in cc
minified_of q out cert r b a seen (bad_page rule at) page told reads w h is = let e : status.PageRefused ≡ status.Done = sym w.status ∙ is in cc
minified_of q out cert r b a seen (bad_json fault) page told reads w h is = let e : status.JsonRefused ≡ status.Done = sym w.status ∙ is in cc
minified_of q out cert r b a seen (tree_input n t v) page told reads w h is = record {
  seen = seen;
  are_told = told;
  bytes = n;
  table = t;
  tree = v;
  reads = reads;
  out = shortest_text t q.writing.rules v;
  cert = certificate_of t q.writing.rules (format_of q.writing.sparse) v;
  shortest = input_is_shortest q seen n t v reads h.0 h.1;
  any_order = bounds_all q seen n t v reads h.0 (length (shortest_text t q.writing.rules v)) (input_is_shortest q seen n t v reads h.0 h.1).shortest;
  files = w.files ∙ ap (λ f. after_writes b.files (write out (written_part f (shortest_text t q.writing.rules v)) ∷ write cert (certificate_of t q.writing.rules (format_of q.writing.sparse) v) ∷ [])) page;
  line = w.line ∙ ap (λ f. append_known b.printed (length_line (length (written_part f (shortest_text t q.writing.rules v))))) page;
}

pub minified : (words : List (List ℕ)) (q : Asked) (out cert : List ℕ) (r : Status) (b a : Outside) → asked words ≡ Some q → is_fragment q.origin ≡ false → q.work ≡ minifies out cert → Sees b.files (λ seen. EndsAs (ending words seen) r b a × IsReadableAsked (asked words) seen) → r ≡ status.Done → HasMinified q out cert b a
minified words q out cert r b a e page work w is = minified_of q out cert r b a w.seen (input_of q w.seen) ((ruled words q e).frame ∙ page) w.are_told refl (of_work words q (minifies out cert) r b a w.seen e work w.holds.0)
    (subst (λ k. IsReadableBy k q.writing (input_of q w.seen)) work (subst (λ x. IsReadableAsked x w.seen) e w.holds.1)) is

-- ---- fragment

fragment_of : (q : Asked) (out cert : List ℕ) (r : Status) (b a : Outside) (seen : Contents) (x : Input) → IsRuled q → is_fragment q.origin ≡ true → AreTold b.files seen → input_of q seen ≡ x → EndsBy q (minifies out cert) seen x r b a → IsReadableBy (minifies out cert) q.writing x → r ≡ status.Done → HasMinifiedFragment q out cert b a
fragment_of q out cert r b a seen missing rules fragment told reads w h is = let e : status.StoreFault ≡ status.Done = sym w.status ∙ is in cc
fragment_of q out cert r b a seen (bad_table fault) rules fragment told reads w h is = let e : status.TableRefused ≡ status.Done = sym w.status ∙ is in cc
fragment_of q out cert r b a seen (bad_page rule at) rules fragment told reads w h is = let e : status.PageRefused ≡ status.Done = sym w.status ∙ is in cc
fragment_of q out cert r b a seen (bad_json fault) rules fragment told reads w h is = let e : status.JsonRefused ≡ status.Done = sym w.status ∙ is in cc
fragment_of q out cert r b a seen (tree_input n t v) rules fragment told reads w h is =
    let text : List ℕ = shortest_text t q.writing.rules v in
    let certificate : List ℕ = certificate_of t q.writing.rules (format_of q.writing.sparse) v in
    let frame : q.writing.rules.frame ≡ true = rules.frame ∙ fragment in
    let back : IsReadBack t v text = text_read_back t (request_table q seen n t v reads) q.writing.rules (rules.omits fragment) frame v h.0 (request_framed q seen n t v fragment reads) in
    let shortest : IsShortest t q.writing.rules (format_of q.writing.sparse) v (framed (unframed text)) certificate =
    subst (λ o. IsShortest t q.writing.rules (format_of q.writing.sparse) v o certificate) (sym back.framed_is) (input_is_shortest q seen n t v reads h.0 h.1) in
    record {
      seen = seen;
      are_told = told;
      bytes = n;
      table = t;
      tree = v;
      reads = reads;
      out = unframed text;
      cert = certificate;
      shortest = shortest;
      reads_back = back.reads;
      least = least_fragment t q.writing.rules v (unframed text) shortest.shortest;
      any_order = bounds_all q seen n t v reads h.0 (length (framed (unframed text))) shortest.shortest;
      files = w.files ∙ ap (λ f. after_writes b.files (write out (written_part f text) ∷ write cert certificate ∷ [])) frame;
      line = w.line ∙ ap (λ f. append_known b.printed (length_line (length (written_part f text)))) frame;
    }

pub minified_fragment : (words : List (List ℕ)) (q : Asked) (out cert : List ℕ) (r : Status) (b a : Outside) → asked words ≡ Some q → is_fragment q.origin ≡ true → q.work ≡ minifies out cert → Sees b.files (λ seen. EndsAs (ending words seen) r b a × IsReadableAsked (asked words) seen) → r ≡ status.Done → HasMinifiedFragment q out cert b a
minified_fragment words q out cert r b a e fragment work w is = fragment_of q out cert r b a w.seen (input_of q w.seen) (ruled words q e) fragment w.are_told refl (of_work words q (minifies out cert) r b a w.seen e work w.holds.0)
    (subst (λ k. IsReadableBy k q.writing (input_of q w.seen)) work (subst (λ x. IsReadableAsked x w.seen) e w.holds.1)) is

-- ---- check

checked_of : (q : Asked) (name : List ℕ) (r : Status) (b a : Outside) (seen : Contents) (n : ℕ) (t : List Entry) (v : List Event) (out cert : Option (List ℕ)) → q.writing.rules.frame ≡ false → AreTold b.files seen → input_of q seen ≡ tree_input n t v → Settled v → seen name ≡ out
    → EndsAs (check_ending q.writing.rules t v out cert) r b a → r ≡ status.Done → HasChecked q name b a
checked_of q name r b a seen n t v None cert page told reads settled there w is = let e : status.StoreFault ≡ status.Done = sym w.status ∙ is in cc
checked_of q name r b a seen n t v (Some out) None page told reads settled there w is = let e : status.StoreFault ≡ status.Done = sym w.status ∙ is in cc
checked_of q name r b a seen n t v (Some out) (Some cert) page told reads settled there w is =
    let yes = checked_yes t (request_table q seen n t v reads) q.writing.rules v settled out cert page (sym w.status ∙ is) in
    record {
      seen = seen;
      are_told = told;
      bytes = n;
      table = t;
      tree = v;
      reads = reads;
      out = out;
      there = there;
      parses = yes.parses;
      shortest = yes.shortest;
      any_order = bounds_all q seen n t v reads settled (length out) yes.shortest;
      files = w.files ∙ ap (after_writes b.files) (check_writes q.writing.rules t v (Some out) (Some cert));
      line = w.line ∙ ap (append_known b.printed) yes.line;
    }

checked_input : (q : Asked) (out cert : List ℕ) (r : Status) (b a : Outside) (seen : Contents) (x : Input) → q.writing.rules.frame ≡ false → AreTold b.files seen → input_of q seen ≡ x → EndsBy q (checks_files out cert) seen x r b a → IsReadableBy (checks_files out cert) q.writing x → r ≡ status.Done → HasChecked q out b a
checked_input q out cert r b a seen missing page told reads w h is = let e : status.StoreFault ≡ status.Done = sym w.status ∙ is in cc
checked_input q out cert r b a seen (bad_table fault) page told reads w h is = let e : status.TableRefused ≡ status.Done = sym w.status ∙ is in cc
checked_input q out cert r b a seen (bad_page rule at) page told reads w h is = let e : status.PageRefused ≡ status.Done = sym w.status ∙ is in cc
checked_input q out cert r b a seen (bad_json fault) page told reads w h is = let e : status.JsonRefused ≡ status.Done = sym w.status ∙ is in cc
checked_input q out cert r b a seen (tree_input n t v) page told reads w h is = checked_of q out r b a seen n t v (seen out) (seen cert) page told reads h.0 refl w is

pub checks : (words : List (List ℕ)) (q : Asked) (out cert : List ℕ) (r : Status) (b a : Outside) → asked words ≡ Some q → is_fragment q.origin ≡ false → q.work ≡ checks_files out cert → Sees b.files (λ seen. EndsAs (ending words seen) r b a × IsReadableAsked (asked words) seen) → r ≡ status.Done → HasChecked q out b a
checks words q out cert r b a e page work w is = checked_input q out cert r b a w.seen (input_of q w.seen) ((ruled words q e).frame ∙ page) w.are_told refl (of_work words q (checks_files out cert) r b a w.seen e work w.holds.0)
    (subst (λ k. IsReadableBy k q.writing (input_of q w.seen)) work (subst (λ x. IsReadableAsked x w.seen) e w.holds.1)) is

fragment_checked_of : (q : Asked) (name : List ℕ) (r : Status) (b a : Outside) (seen : Contents) (n : ℕ) (t : List Entry) (v : List Event) (out cert : Option (List ℕ)) → q.writing.rules.frame ≡ true → AreTold b.files seen → input_of q seen ≡ tree_input n t v → Settled v → seen name ≡ out
    → EndsAs (check_ending q.writing.rules t v out cert) r b a → r ≡ status.Done → HasCheckedFragment q name b a
fragment_checked_of q name r b a seen n t v None cert frame told reads settled there w is = let e : status.StoreFault ≡ status.Done = sym w.status ∙ is in cc
fragment_checked_of q name r b a seen n t v (Some out) None frame told reads settled there w is = let e : status.StoreFault ≡ status.Done = sym w.status ∙ is in cc
fragment_checked_of q name r b a seen n t v (Some out) (Some cert) frame told reads settled there w is =
    let yes = checked_fragment_yes t (request_table q seen n t v reads) q.writing.rules v settled out cert frame (sym w.status ∙ is) in
    record {
      seen = seen;
      are_told = told;
      bytes = n;
      table = t;
      tree = v;
      reads = reads;
      out = out;
      there = there;
      reads_back = yes.reads_back;
      least = yes.least;
      any_order = bounds_all q seen n t v reads settled (length (framed out)) yes.shortest;
      files = w.files ∙ ap (after_writes b.files) (check_writes q.writing.rules t v (Some out) (Some cert));
      line = w.line ∙ ap (append_known b.printed) yes.line;
    }

fragment_checked_input : (q : Asked) (out cert : List ℕ) (r : Status) (b a : Outside) (seen : Contents) (x : Input) → q.writing.rules.frame ≡ true → AreTold b.files seen → input_of q seen ≡ x → EndsBy q (checks_files out cert) seen x r b a → IsReadableBy (checks_files out cert) q.writing x → r ≡ status.Done → HasCheckedFragment q out b a
fragment_checked_input q out cert r b a seen missing frame told reads w h is = let e : status.StoreFault ≡ status.Done = sym w.status ∙ is in cc
fragment_checked_input q out cert r b a seen (bad_table fault) frame told reads w h is = let e : status.TableRefused ≡ status.Done = sym w.status ∙ is in cc
fragment_checked_input q out cert r b a seen (bad_page rule at) frame told reads w h is = let e : status.PageRefused ≡ status.Done = sym w.status ∙ is in cc
fragment_checked_input q out cert r b a seen (bad_json fault) frame told reads w h is = let e : status.JsonRefused ≡ status.Done = sym w.status ∙ is in cc
fragment_checked_input q out cert r b a seen (tree_input n t v) frame told reads w h is = fragment_checked_of q out r b a seen n t v (seen out) (seen cert) frame told reads h.0 refl w is

pub checks_fragment : (words : List (List ℕ)) (q : Asked) (out cert : List ℕ) (r : Status) (b a : Outside) → asked words ≡ Some q → is_fragment q.origin ≡ true → q.work ≡ checks_files out cert → Sees b.files (λ seen. EndsAs (ending words seen) r b a × IsReadableAsked (asked words) seen) → r ≡ status.Done → HasCheckedFragment q out b a
checks_fragment words q out cert r b a e fragment work w is = fragment_checked_input q out cert r b a w.seen (input_of q w.seen) ((ruled words q e).frame ∙ fragment) w.are_told refl (of_work words q (checks_files out cert) r b a w.seen e work w.holds.0)
    (subst (λ k. IsReadableBy k q.writing (input_of q w.seen)) work (subst (λ x. IsReadableAsked x w.seen) e w.holds.1)) is

denied_of : (q : Asked) (name lines : List ℕ) (r : Status) (b a : Outside) (seen : Contents) (n : ℕ) (t : List Entry) (v : List Event) (out cert : Option (List ℕ)) → q.work ≡ checks_files name lines → AreTold b.files seen → input_of q seen ≡ tree_input n t v → seen name ≡ out → seen lines ≡ cert
    → EndsAs (check_ending q.writing.rules t v out cert) r b a → r ≡ status.No → HasDenied q b a
denied_of q name lines r b a seen n t v None cert work told reads out_there cert_there w is = let e : status.StoreFault ≡ status.No = sym w.status ∙ is in cc
denied_of q name lines r b a seen n t v (Some out) None work told reads out_there cert_there w is = let e : status.StoreFault ≡ status.No = sym w.status ∙ is in cc
denied_of q name lines r b a seen n t v (Some out) (Some cert) work told reads out_there cert_there w is = record {
  seen = seen;
  are_told = told;
  out_name = name;
  cert_name = lines;
  work = work;
  bytes = n;
  table = t;
  tree = v;
  reads = reads;
  out = out;
  out_there = out_there;
  cert = cert;
  cert_there = cert_there;
  denies = sym w.status ∙ is;
  files = w.files ∙ ap (after_writes b.files) (check_writes q.writing.rules t v (Some out) (Some cert));
  line = w.line;
}

-- only a check is denied
denied_tree : (q : Asked) (work : Work) (r : Status) (b a : Outside) (seen : Contents) (n : ℕ) (t : List Entry) (v : List Event) → q.work ≡ work → AreTold b.files seen → input_of q seen ≡ tree_input n t v
    → EndsAs (tree_ending (page_name q.origin) work q.writing seen n t v) r b a → r ≡ status.No → HasDenied q b a
denied_tree q (minifies out cert) r b a seen n t v work told reads w is = let e : status.Done ≡ status.No = sym w.status ∙ is in cc
denied_tree q (checks_files out cert) r b a seen n t v work told reads w is = denied_of q out cert r b a seen n t v (seen out) (seen cert) work told reads refl refl w is
denied_tree q shows_tree r b a seen n t v work told reads w is = let e : status.Done ≡ status.No = sym w.status ∙ is in cc
denied_tree q tells_json r b a seen n t v work told reads w is = let e : status.Done ≡ status.No = sym w.status ∙ is in cc
denied_tree q explains_page r b a seen n t v work told reads w is = let e : status.Done ≡ status.No = sym w.status ∙ is in cc
denied_tree q measures_tree r b a seen n t v work told reads w is = let e : status.Done ≡ status.No = sym w.status ∙ is in cc

denied_input : (q : Asked) (r : Status) (b a : Outside) (seen : Contents) (x : Input) → AreTold b.files seen → input_of q seen ≡ x → EndsBy q q.work seen x r b a → r ≡ status.No → HasDenied q b a
denied_input q r b a seen missing told reads w is = let e : status.StoreFault ≡ status.No = sym w.status ∙ is in cc
denied_input q r b a seen (bad_table fault) told reads w is = let e : status.TableRefused ≡ status.No = sym w.status ∙ is in cc
denied_input q r b a seen (bad_page rule at) told reads w is = let e : status.PageRefused ≡ status.No = sym w.status ∙ is in cc
denied_input q r b a seen (bad_json fault) told reads w is = let e : status.JsonRefused ≡ status.No = sym w.status ∙ is in cc
denied_input q r b a seen (tree_input n t v) told reads w is = denied_tree q q.work r b a seen n t v refl told reads w is

pub denies : (words : List (List ℕ)) (q : Asked) (r : Status) (b a : Outside) → asked words ≡ Some q → Ends words r b a → r ≡ status.No → HasDenied q b a
denies words q r b a e w is = denied_input q r b a w.seen (input_of q w.seen) w.are_told refl (of_asked words q r b a w.seen e w.holds) is

-- ---- tree

shown_of : (q : Asked) (r : Status) (b a : Outside) (seen : Contents) (x : Input) → AreTold b.files seen → input_of q seen ≡ x → EndsBy q shows_tree seen x r b a → r ≡ status.Done → HasShown q b a
shown_of q r b a seen missing told reads w is = let e : status.StoreFault ≡ status.Done = sym w.status ∙ is in cc
shown_of q r b a seen (bad_table fault) told reads w is = let e : status.TableRefused ≡ status.Done = sym w.status ∙ is in cc
shown_of q r b a seen (bad_page rule at) told reads w is = let e : status.PageRefused ≡ status.Done = sym w.status ∙ is in cc
shown_of q r b a seen (bad_json fault) told reads w is = let e : status.JsonRefused ≡ status.Done = sym w.status ∙ is in cc
shown_of q r b a seen (tree_input n t v) told reads w is = record { seen = seen; are_told = told; bytes = n; table = t; tree = v; reads = reads; files = w.files; lines = w.line }

pub shows : (words : List (List ℕ)) (q : Asked) (r : Status) (b a : Outside) → asked words ≡ Some q → q.work ≡ shows_tree → Ends words r b a → r ≡ status.Done → HasShown q b a
shows words q r b a e work w is = shown_of q r b a w.seen (input_of q w.seen) w.are_told refl (of_work words q shows_tree r b a w.seen e work w.holds) is

-- ---- json

told_of : (q : Asked) (r : Status) (b a : Outside) (seen : Contents) (x : Input) → AreTold b.files seen → input_of q seen ≡ x → EndsBy q tells_json seen x r b a → r ≡ status.Done → HasToldJson q b a
told_of q r b a seen missing told reads w is = let e : status.StoreFault ≡ status.Done = sym w.status ∙ is in cc
told_of q r b a seen (bad_table fault) told reads w is = let e : status.TableRefused ≡ status.Done = sym w.status ∙ is in cc
told_of q r b a seen (bad_page rule at) told reads w is = let e : status.PageRefused ≡ status.Done = sym w.status ∙ is in cc
told_of q r b a seen (bad_json fault) told reads w is = let e : status.JsonRefused ≡ status.Done = sym w.status ∙ is in cc
told_of q r b a seen (tree_input n t v) told reads w is = record { seen = seen; are_told = told; bytes = n; table = t; tree = v; reads = reads; files = w.files; lines = w.line }

pub tells : (words : List (List ℕ)) (q : Asked) (r : Status) (b a : Outside) → asked words ≡ Some q → q.work ≡ tells_json → Ends words r b a → r ≡ status.Done → HasToldJson q b a
tells words q r b a e work w is = told_of q r b a w.seen (input_of q w.seen) w.are_told refl (of_work words q tells_json r b a w.seen e work w.holds) is

-- ---- measure

measured_of : (q : Asked) (r : Status) (b a : Outside) (seen : Contents) (x : Input) → AreTold b.files seen → input_of q seen ≡ x → EndsBy q measures_tree seen x r b a → IsReadableBy measures_tree q.writing x → r ≡ status.Done → HasMeasured q b a
measured_of q r b a seen missing told reads w h is = let e : status.StoreFault ≡ status.Done = sym w.status ∙ is in cc
measured_of q r b a seen (bad_table fault) told reads w h is = let e : status.TableRefused ≡ status.Done = sym w.status ∙ is in cc
measured_of q r b a seen (bad_page rule at) told reads w h is = let e : status.PageRefused ≡ status.Done = sym w.status ∙ is in cc
measured_of q r b a seen (bad_json fault) told reads w h is = let e : status.JsonRefused ≡ status.Done = sym w.status ∙ is in cc
measured_of q r b a seen (tree_input n t v) told reads w h is = record {
  seen = seen;
  are_told = told;
  bytes = n;
  table = t;
  tree = v;
  reads = reads;
  out = shortest_text t q.writing.rules v;
  cert = certificate_of t q.writing.rules (format_of q.writing.sparse) v;
  shortest = input_is_shortest q seen n t v reads h.0 h.1;
  files = w.files;
  line = w.line;
}

pub measures : (words : List (List ℕ)) (q : Asked) (r : Status) (b a : Outside) → asked words ≡ Some q → q.work ≡ measures_tree → Sees b.files (λ seen. EndsAs (ending words seen) r b a × IsReadableAsked (asked words) seen) → r ≡ status.Done → HasMeasured q b a
measures words q r b a e work w is = measured_of q r b a w.seen (input_of q w.seen) w.are_told refl (of_work words q measures_tree r b a w.seen e work w.holds.0)
    (subst (λ k. IsReadableBy k q.writing (input_of q w.seen)) work (subst (λ x. IsReadableAsked x w.seen) e w.holds.1)) is

always_input : (q : Asked) (r : Status) (b a : Outside) (seen : Contents) (x : Input) → IsGenerated q.origin → input_of q seen ≡ x → EndsBy q measures_tree seen x r b a → is_fault r ≡ false → (r ≡ status.TableRefused) ⊎ (r ≡ status.Done)
always_input q r b a seen missing m reads w h = let k : is_fault r ≡ true = ap is_fault w.status in cc
always_input q r b a seen (bad_table fault) m reads w h = inl w.status
always_input q r b a seen (bad_page rule at) m reads w h = absurd (page_never_refused q seen m rule at reads)
always_input q r b a seen (bad_json fault) m reads w h = absurd (json_never_refused q seen m fault reads)
always_input q r b a seen (tree_input n t v) m reads w h = inr w.status

-- every answer to `measure` but a refused table is that it is done
pub always_measures : (words : List (List ℕ)) (q : Asked) (r : Status) (b a : Outside) → asked words ≡ Some q → q.work ≡ measures_tree → Ends words r b a → is_fault r ≡ false → (r ≡ status.TableRefused) ⊎ (r ≡ status.Done)
always_measures words q r b a e work w h = always_input q r b a w.seen (input_of q w.seen) (asked_limits words q e work) refl (of_work words q measures_tree r b a w.seen e work w.holds) h

-- ---- whatever is done

plain_refusal : (q : Asked) (seen : Contents) (rule : Rule) (at : ℕ) → is_explained q.origin q.work ≡ false → refusal q.origin q.work seen rule at ≡ refused_line rule at
plain_refusal q seen rule at plain = rw plain refl

page_of : (q : Asked) (r : Status) (b a : Outside) (seen : Contents) (x : Input) → is_explained q.origin q.work ≡ false → AreTold b.files seen → input_of q seen ≡ x → EndsBy q q.work seen x r b a → r ≡ status.PageRefused → HasRefusedPage q b a
page_of q r b a seen missing plain told reads w is = let e : status.StoreFault ≡ status.PageRefused = sym w.status ∙ is in cc
page_of q r b a seen (bad_table fault) plain told reads w is = let e : status.TableRefused ≡ status.PageRefused = sym w.status ∙ is in cc
page_of q r b a seen (bad_page rule at) plain told reads w is = record { seen = seen; are_told = told; rule = rule; at = at; reads = reads; files = w.files; line = w.line ∙ ap (append_known b.printed) (plain_refusal q seen rule at plain) }
page_of q r b a seen (bad_json fault) plain told reads w is = let e : status.JsonRefused ≡ status.PageRefused = sym w.status ∙ is in cc
page_of q r b a seen (tree_input n t v) plain told reads w is = absurd (other_status status.PageRefused refl (page_name q.origin) q.work q.writing seen n t v (sym w.status ∙ is))

pub refuses_page : (words : List (List ℕ)) (q : Asked) (r : Status) (b a : Outside) → asked words ≡ Some q → is_explained q.origin q.work ≡ false → Ends words r b a → r ≡ status.PageRefused → HasRefusedPage q b a
refuses_page words q r b a e plain w is = page_of q r b a w.seen (input_of q w.seen) plain w.are_told refl (of_asked words q r b a w.seen e w.holds) is

table_of : (q : Asked) (r : Status) (b a : Outside) (seen : Contents) (x : Input) → AreTold b.files seen → input_of q seen ≡ x → EndsBy q q.work seen x r b a → r ≡ status.TableRefused → HasRefusedTable q b a
table_of q r b a seen missing told reads w is = let e : status.StoreFault ≡ status.TableRefused = sym w.status ∙ is in cc
table_of q r b a seen (bad_table fault) told reads w is = record { seen = seen; are_told = told; fault = fault; reads = reads; files = w.files; line = w.line }
table_of q r b a seen (bad_page rule at) told reads w is = let e : status.PageRefused ≡ status.TableRefused = sym w.status ∙ is in cc
table_of q r b a seen (bad_json fault) told reads w is = let e : status.JsonRefused ≡ status.TableRefused = sym w.status ∙ is in cc
table_of q r b a seen (tree_input n t v) told reads w is = absurd (other_status status.TableRefused refl (page_name q.origin) q.work q.writing seen n t v (sym w.status ∙ is))

pub refuses_table : (words : List (List ℕ)) (q : Asked) (r : Status) (b a : Outside) → asked words ≡ Some q → Ends words r b a → r ≡ status.TableRefused → HasRefusedTable q b a
refuses_table words q r b a e w is = table_of q r b a w.seen (input_of q w.seen) w.are_told refl (of_asked words q r b a w.seen e w.holds) is

json_of : (q : Asked) (r : Status) (b a : Outside) (seen : Contents) (x : Input) → AreTold b.files seen → input_of q seen ≡ x → EndsBy q q.work seen x r b a → r ≡ status.JsonRefused → HasRefusedJson q b a
json_of q r b a seen missing told reads w is = let e : status.StoreFault ≡ status.JsonRefused = sym w.status ∙ is in cc
json_of q r b a seen (bad_table fault) told reads w is = let e : status.TableRefused ≡ status.JsonRefused = sym w.status ∙ is in cc
json_of q r b a seen (bad_page rule at) told reads w is = let e : status.PageRefused ≡ status.JsonRefused = sym w.status ∙ is in cc
json_of q r b a seen (bad_json fault) told reads w is = record { seen = seen; are_told = told; fault = fault; reads = reads; files = w.files; line = w.line }
json_of q r b a seen (tree_input n t v) told reads w is = absurd (other_status status.JsonRefused refl (page_name q.origin) q.work q.writing seen n t v (sym w.status ∙ is))

pub refuses_json : (words : List (List ℕ)) (q : Asked) (r : Status) (b a : Outside) → asked words ≡ Some q → Ends words r b a → r ≡ status.JsonRefused → HasRefusedJson q b a
refuses_json words q r b a e w is = json_of q r b a w.seen (input_of q w.seen) w.are_told refl (of_asked words q r b a w.seen e w.holds) is
