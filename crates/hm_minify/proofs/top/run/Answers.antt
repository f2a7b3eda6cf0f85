use Rattle.std.proofs.Common.{ap, subst}
use Rattle.hm_words.specs.Words.{asked, is_fragment}
use Rattle.hm_minify.specs.Endings.{IsReadableAsked, ending, is_fault}
use Rattle.hm_minify.specs.Lines.{notice_text, usage_line}
use Rattle.hm_minify.specs.Outside.{outside}
use Rattle.hm_minify.proofs.Courses.{answer, answered, complete, whole, left, store_cause, store_said, sink_cause, sink_front, memory}
use Rattle.hm_minify.proofs.JsonRead.{json_minified}
use Rattle.hm_minify.proofs.Meanings.{usage_answers, usage_unasked, usage_or_fault, minified, minified_fragment, checks, checks_fragment, denies, shows, measures, always_measures, noticed, refuses_json, refuses_page, refuses_table, tells}
use Rattle.hm_minify.proofs.Others.{others}
use Rattle.hm_minify.proofs.PagesTold.{explains_page, settles}
use Rattle.hm_minify.proofs.top.run.Goals as goal

pub returns-clause-notice : goal.returns-clause-notice
returns-clause-notice g c = λ n is.
    let p = c.perform.ensures.noticed n is in
    let q = noticed (notice_text n) c.perform.result (outside g.S.Store g.O.Sink c.args.store.now c.args.out.now) (outside g.S.Store g.O.Sink c.perform.new.store c.perform.new.out) p.1 in
    (p.0, q.0, q.1)

pub returns-clause-usage : goal.returns-clause-usage
returns-clause-usage g c = λ is.
    let u = usage_unasked c.args.words.now c.perform.result _ _ (answer (ending c.args.words.now) (IsReadableAsked (asked c.args.words.now)) c.perform.result _ _ c.perform.ensures.course (usage_answers c.perform.result is)) is in
    (u.0, u.1, (c.perform.ensures.unasked u.0 u.1).0, u.2)

pub returns-clause-no_meaning : goal.returns-clause-no_meaning
returns-clause-no_meaning g c = λ none silent.
    let p = c.perform.ensures.unasked none silent in
    (p.0, usage_or_fault usage_line c.perform.result (outside g.S.Store g.O.Sink c.args.store.now c.args.out.now) (outside g.S.Store g.O.Sink c.perform.new.store c.perform.new.out) p.1)

pub returns-clause-answer : goal.returns-clause-answer
returns-clause-answer g c = λ a. answer (ending c.args.words.now) (IsReadableAsked (asked c.args.words.now)) c.perform.result _ _ c.perform.ensures.course a

pub returns-clause-complete : goal.returns-clause-complete
returns-clause-complete g c = λ still quiet. complete (ending c.args.words.now) (IsReadableAsked (asked c.args.words.now)) c.perform.result _ _ c.perform.ensures.course still quiet

pub returns-clause-whole : goal.returns-clause-whole
returns-clause-whole g c = λ still ready. whole (ending c.args.words.now) (IsReadableAsked (asked c.args.words.now)) c.perform.result _ _ c.perform.ensures.course still ready

pub returns-clause-left : goal.returns-clause-left
returns-clause-left g c = left (ending c.args.words.now) (IsReadableAsked (asked c.args.words.now)) c.perform.result _ _ c.perform.ensures.course

pub returns-clause-others : goal.returns-clause-others
returns-clause-others g c = λ name h. others c.args.words.now _ _ name (left (ending c.args.words.now) (IsReadableAsked (asked c.args.words.now)) c.perform.result _ _ c.perform.ensures.course) h

pub returns-clause-store_cause : goal.returns-clause-store_cause
returns-clause-store_cause g c = λ is. store_cause (ending c.args.words.now) (IsReadableAsked (asked c.args.words.now)) c.perform.result _ _ c.perform.ensures.course is

pub returns-clause-store_line : goal.returns-clause-store_line
returns-clause-store_line g c = λ is. store_said (ending c.args.words.now) (IsReadableAsked (asked c.args.words.now)) c.perform.result _ _ c.perform.ensures.course is

pub returns-clause-sink_cause : goal.returns-clause-sink_cause
returns-clause-sink_cause g c = λ is. sink_cause (ending c.args.words.now) (IsReadableAsked (asked c.args.words.now)) c.perform.result _ _ c.perform.ensures.course is

pub returns-clause-sink_front : goal.returns-clause-sink_front
returns-clause-sink_front g c = λ is. sink_front (ending c.args.words.now) (IsReadableAsked (asked c.args.words.now)) c.perform.result _ _ c.perform.ensures.course is

pub returns-clause-memory : goal.returns-clause-memory
returns-clause-memory g c = λ is.
    let m = memory (ending c.args.words.now) (IsReadableAsked (asked c.args.words.now)) c.perform.result _ _ c.perform.ensures.course is in
    (m.0, m.1, c.perform.ensures.writing is)

pub returns-clause-minified : goal.returns-clause-minified
returns-clause-minified g c = λ request output cert e page work is. minified c.args.words.now request output cert c.perform.result _ _ e page work (answered (ending c.args.words.now) (IsReadableAsked (asked c.args.words.now)) c.perform.result _ _ c.perform.ensures.course (ap is_fault is)) is

pub returns-clause-fragment_minified : goal.returns-clause-fragment_minified
returns-clause-fragment_minified g c = λ request output cert e fragment work is. minified_fragment c.args.words.now request output cert c.perform.result _ _ e fragment work (answered (ending c.args.words.now) (IsReadableAsked (asked c.args.words.now)) c.perform.result _ _ c.perform.ensures.course (ap is_fault is)) is

pub returns-clause-fragment_checked : goal.returns-clause-fragment_checked
returns-clause-fragment_checked g c = λ request output cert e fragment work is. checks_fragment c.args.words.now request output cert c.perform.result _ _ e fragment work (answered (ending c.args.words.now) (IsReadableAsked (asked c.args.words.now)) c.perform.result _ _ c.perform.ensures.course (ap is_fault is)) is

pub returns-clause-json_minified : goal.returns-clause-json_minified
returns-clause-json_minified g c = λ request table json output cert e origin work is. json_minified request table json output cert _ _ origin (minified c.args.words.now request output cert c.perform.result _ _ e (ap is_fragment origin) work (answered (ending c.args.words.now) (IsReadableAsked (asked c.args.words.now)) c.perform.result _ _ c.perform.ensures.course (ap is_fault is)) is)

pub returns-clause-checked : goal.returns-clause-checked
returns-clause-checked g c = λ request output cert e page work is. checks c.args.words.now request output cert c.perform.result _ _ e page work (answered (ending c.args.words.now) (IsReadableAsked (asked c.args.words.now)) c.perform.result _ _ c.perform.ensures.course (ap is_fault is)) is

pub returns-clause-denied : goal.returns-clause-denied
returns-clause-denied g c = λ request e is. denies c.args.words.now request c.perform.result _ _ e (answer (ending c.args.words.now) (IsReadableAsked (asked c.args.words.now)) c.perform.result _ _ c.perform.ensures.course (ap is_fault is)) is

pub returns-clause-shown : goal.returns-clause-shown
returns-clause-shown g c = λ request e work is. shows c.args.words.now request c.perform.result _ _ e work (answer (ending c.args.words.now) (IsReadableAsked (asked c.args.words.now)) c.perform.result _ _ c.perform.ensures.course (ap is_fault is)) is

pub returns-clause-told_json : goal.returns-clause-told_json
returns-clause-told_json g c = λ request e work is. tells c.args.words.now request c.perform.result _ _ e work (answer (ending c.args.words.now) (IsReadableAsked (asked c.args.words.now)) c.perform.result _ _ c.perform.ensures.course (ap is_fault is)) is

pub returns-clause-measured : goal.returns-clause-measured
returns-clause-measured g c = λ request e work is. measures c.args.words.now request c.perform.result _ _ e work (answered (ending c.args.words.now) (IsReadableAsked (asked c.args.words.now)) c.perform.result _ _ c.perform.ensures.course (ap is_fault is)) is

pub returns-clause-always_measured : goal.returns-clause-always_measured
returns-clause-always_measured g c = λ request e work is. always_measures c.args.words.now request c.perform.result _ _ e work (answer (ending c.args.words.now) (IsReadableAsked (asked c.args.words.now)) c.perform.result _ _ c.perform.ensures.course is) is

pub returns-clause-refused_page : goal.returns-clause-refused_page
returns-clause-refused_page g c = λ request e plain is. refuses_page c.args.words.now request c.perform.result _ _ e plain (answer (ending c.args.words.now) (IsReadableAsked (asked c.args.words.now)) c.perform.result _ _ c.perform.ensures.course (ap is_fault is)) is

pub returns-clause-explained : goal.returns-clause-explained
returns-clause-explained g c = λ request table page e origin work is. explains_page c.args.words.now request table page c.perform.result _ _ e origin work (answer (ending c.args.words.now) (IsReadableAsked (asked c.args.words.now)) c.perform.result _ _ c.perform.ensures.course (ap is_fault is)) is

pub returns-clause-settled : goal.returns-clause-settled
returns-clause-settled g c = λ request table page e origin work is. settles c.args.words.now request table page c.perform.result _ _ e origin work (answered (ending c.args.words.now) (IsReadableAsked (asked c.args.words.now)) c.perform.result _ _ c.perform.ensures.course (ap is_fault is)) is

pub returns-clause-refused_json : goal.returns-clause-refused_json
returns-clause-refused_json g c = λ request e is. refuses_json c.args.words.now request c.perform.result _ _ e (answer (ending c.args.words.now) (IsReadableAsked (asked c.args.words.now)) c.perform.result _ _ c.perform.ensures.course (ap is_fault is)) is

pub returns-clause-refused_table : goal.returns-clause-refused_table
returns-clause-refused_table g c = λ request e is. refuses_table c.args.words.now request c.perform.result _ _ e (answer (ending c.args.words.now) (IsReadableAsked (asked c.args.words.now)) c.perform.result _ _ c.perform.ensures.course (ap is_fault is)) is

pub returns-clause-readable : goal.returns-clause-readable
returns-clause-readable g c = λ asked_is e is.
    let w = answered (ending c.args.words.now) (IsReadableAsked (asked c.args.words.now)) c.perform.result _ _ c.perform.ensures.course (ap is_fault is) in
    record { seen = w.seen; are_told = w.are_told; holds = subst (λ x. IsReadableAsked x w.seen) e w.holds.1 }
