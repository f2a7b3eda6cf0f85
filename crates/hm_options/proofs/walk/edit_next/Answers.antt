use Rattle.std.proofs.Common.{◌≡◌, ◌∷◌, [], ◌++◌, false, Option, sym, ap, ◌∙◌}
use Rattle.hm_base.specs.Walks.{Event, path_after}
use Rattle.hm_options.specs.Space.{collapsed_event, spaced}
use Rattle.hm_options.specs.Steps.{first_text}
use Rattle.hm_options.proofs.Steps.{first_is, kept_step, steady_same, text_some, text_step}
use Rattle.hm_options.proofs.Trims.{none_kept, some_kept, event_kept, event_raw, other_stays, spaced_short}
use Rattle.hm_tree.specs.Views.{event_of}
use Rattle.hm_options.proofs.walk.edit_next.Goals.{in-Text+else-not-raw, else-not-raw-via-then-not-raw+else-kept-eq0, else-not-raw-via-else-not-raw, in_default}
use Rattle.hm_options.proofs.walk.edit_next.Goals as goal

pub seen_of-seen-requires-clause-some : goal.seen_of-seen-requires-clause-some
seen_of-seen-requires-clause-some c = text_some c.args.editor.now.done c.args.editor.now.left c.in-Text.text.now c.in-Text.raw c.in-Text.ensures c.requires.walk

pub returns-then-spaced_front-text : goal.returns-then-spaced_front-text
returns-then-spaced_front-text c =
    let s = c.in-Text.text.now in
    let old = c.args.editor.now in
    let shown = none_kept (path_after [] old.done) (sym c.requires.kept ∙ c.if-kept-eq0.true) in
    let first : first_text old.left ≡ s = first_is c.args.conservative old c.keep_seen.new.editor s c.in-Text.raw c.in-Text.ensures c.if-not-raw.true shown in
    let same = steady_same s c.spaced_front.result (rw (c.as_bytes.ensures.value) at c.spaced_front.ensures) c.if-spaced_front-text.true in
    text_step c.args.conservative old c.keep_seen.new.editor s c.in-Text.raw c.in-Text.ensures c.if-not-raw.true shown s (sym same)
    (c.keep_seen.ensures.done ∙ ap (λ es. old.done ++ es) (rw first (sym c.seen_of-seen.ensures.same))) c.keep_seen.ensures.left

pub put_seen-requires-clause-shorter : goal.put_seen-requires-clause-shorter
put_seen-requires-clause-shorter c =
    let s = c.in-Text.text.now in
    let old = c.args.editor.now in
    let shown = none_kept (path_after [] old.done) (sym c.requires.kept ∙ c.if-kept-eq0.true) in
    let first : first_text old.left ≡ s = first_is c.args.conservative old old s c.in-Text.raw c.in-Text.ensures c.if-not-raw.true shown in
    let is : c.as_str.result.now ≡ spaced false s = c.as_str.ensures.value ∙ c.in_ok-push_spaced.ensures ∙ ap (λ t. t ++ spaced false s) c.clear.ensures.bytes in
    rw (first, is) (spaced_short false s)

pub returns-then-kept-eq0 : goal.returns-then-kept-eq0
returns-then-kept-eq0 c =
    let s = c.in-Text.text.now in
    let old = c.args.editor.now in
    let shown = none_kept (path_after [] old.done) (sym c.requires.kept ∙ c.if-kept-eq0.true) in
    let is : c.as_str.result.now ≡ spaced false s = c.as_str.ensures.value ∙ c.in_ok-push_spaced.ensures ∙ ap (λ t. t ++ spaced false s) c.clear.ensures.bytes in
    text_step c.args.conservative old c.put_seen.new.editor s c.in-Text.raw c.in-Text.ensures c.if-not-raw.true shown c.as_str.result.now is c.in_ok-put_seen.ensures.done c.in_ok-put_seen.ensures.left

pub returns : goal.returns
returns c =
    let old = c.args.editor.now in
    let path = path_after [] old.done in
    let stays : (before next : Option Event) → collapsed_event c.args.conservative path before (event_of c.next.result) next ≡ event_of c.next.result ∷ [] = λ before next. elim c.match-next.branch [
      | in-Text+else-not-raw w ↦ elim w.else-not-raw.branch [
        | else-not-raw-via-then-not-raw+else-kept-eq0 w' ↦ rw (w.in-Text.is) (event_kept c.args.conservative path before next w.in-Text.text.now w.in-Text.raw (some_kept path (λ e. w'.if-kept-eq0.false (c.requires.kept ∙ e))))
        | else-not-raw-via-else-not-raw w' ↦ rw (w.in-Text.is) (event_raw c.args.conservative path before next w.in-Text.text.now w.in-Text.raw w'.if-not-raw.false)
      ]
      | in_default w ↦ other_stays c.args.conservative path before next c.next.result w.in_default.not-Text
    ] in
    kept_step c.args.conservative old c.keep.new.self (event_of c.next.result) c.next.ensures c.keep.ensures stays
