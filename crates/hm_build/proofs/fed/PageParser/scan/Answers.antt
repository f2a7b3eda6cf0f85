use Rattle.std.proofs.Common.{◌≡◌, ◌+◌, ◌≤◌, length, drop, map, Option, Some, None, is_some, true, false, refl, sym, ap, subst, ◌∙◌, arith}
use Rattle.std.proofs.lemmas.List.{length-drop}
use Rattle.hm_base.specs.Source.{Source, byte_of}
use Rattle.hm_construction_laws.specs.Trees.{mode_of}
use Rattle.hm_decoder.specs.Pieces.{before_text}
use Rattle.hm_lexer.specs.Ready.{ready}
use Rattle.hm_build.specs.Feeding.{Comes, Feeding, HasCome, StopsAs}
use Rattle.hm_build.specs.Parsing.{IsWithin}
use Rattle.hm_build.proofs.Builders.{goes_read, reads_refused, stops_read}
use Rattle.hm_build.proofs.Room.{within_further}
use Rattle.hm_build.proofs.fed.PageParser.scan.Goals as goal
use Rattle.hm_build.proofs.fed.PageParser.scan.Goals.{then-is_some-via-then-is_some, then-is_some-via-else-is_some+then-is_some-2}

none_of : {A : Type 0} (o : Option A) → is_some o ≡ false → o ≡ None
none_of None h = refl
none_of (Some f) h = cc

not_none : {A : Type 0} (o : Option A) → is_some o ≡ true → o ≡ None → ⊥
not_none None h e = cc
not_none (Some f) h e = cc

pub returns-then-is_some-clause-read : goal.returns-then-is_some-clause-read
returns-then-is_some-clause-read c = λ fed h.
    reads_refused c.args.self.now fed h
    (λ none sound. elim c.then-is_some.branch [
      | then-is_some-via-then-is_some w ↦ not_none c.self.inside.refused (sym w.if-is_some.ensures) (ap (λ (f : Feeding). f.refused) c.self.view_is ∙ sound)
      | then-is_some-via-else-is_some+then-is_some-2 w ↦ not_none c.self.inside.text.fault (ap is_some (sym w.fault.ensures) ∙ sym w.if-is_some-2.ensures) (ap (λ (f : Feeding). f.pieces.fault) c.self.view_is ∙ none)
    ])

pub take_ready-requires : goal.take_ready-requires
take_ready-requires c =
    let sound = none_of c.self.inside.refused (sym c.if-is_some.ensures) in
    let within = c.self.invariant.within c.if-self.false sound in
    subst (λ (v : Source). IsWithin (before_text v) c.self.inside.tree.walk c.self.inside.tree.state) (sym c.source.ensures) within

pub invariant_of-self : goal.invariant_of-self
invariant_of-self c =
    let short = subst (λ (v : Source). length v.placed ≤ v.end) c.source.ensures c.in-Ok.ensures.short in
    let inside = subst (λ (v : Source). c.in-Ok.len ≤ length v.placed) c.source.ensures c.in-Ok.ensures.inside in
    let room : before_text c.self.inside.text.source + c.in-Ok.len ≤ before_text c.drop_front.new.self.source = omega (arith, short, inside, c.drop_front.ensures.end, ap length c.drop_front.ensures.placed, length-drop c.in-Ok.len c.self.inside.text.source.placed) in
    record {
      sound = λ e. c.drop_front.ensures.broken ∙ c.self.invariant.sound c.if-self.false;
      within = λ e sound. within_further (before_text c.self.inside.text.source + c.in-Ok.len) (before_text c.drop_front.new.self.source) c.take_ready.new.tree.walk c.take_ready.new.tree.state room
          (subst (λ (v : Source). IsWithin (before_text v + c.in-Ok.len) c.take_ready.new.tree.walk c.take_ready.new.tree.state) c.source.ensures c.in-Ok.ensures.within);
    }

pub returns-in-Ok-clause-read : goal.returns-in-Ok-clause-read
returns-in-Ok-clause-read c = λ fed h.
    let none = sym c.fault.ensures ∙ none_of c.fault.result (sym c.if-is_some-2.ensures) in
    let sound = none_of c.self.inside.refused (sym c.if-is_some.ensures) in
    let comes = subst (λ (v : Source). Comes c.self.inside.table.now.entries c.self.inside.tree v.placed c.take_ready.new.tree (drop c.in-Ok.len v.placed)) c.source.ensures c.in-Ok.ensures.comes in
    let waits = subst (λ (v : Source). ready c.self.inside.table.now.entries (mode_of c.take_ready.new.tree.state.path) (map byte_of (drop c.in-Ok.len v.placed)) ≡ false) c.source.ensures c.in-Ok.ensures.waits in
    goes_read _ _ c.in-Ok.len fed (subst (λ f. HasCome f fed) (sym c.self.view_is) h) c.drop_front.ensures.fed none c.drop_front.ensures.fault sound sound refl comes c.drop_front.ensures.placed waits

pub returns-in-Err-Page-clause-read : goal.returns-in-Err-Page-clause-read
returns-in-Err-Page-clause-read c = λ fed h.
    let none = sym c.fault.ensures ∙ none_of c.fault.result (sym c.if-is_some-2.ensures) in
    let sound = none_of c.self.inside.refused (sym c.if-is_some.ensures) in
    let stopped = subst (λ r. StopsAs c.self.inside.table.now.entries c.self.inside.tree c.self.inside.text.source.placed r) c.in-Err-Page.field-0-is
    (subst (λ (v : Source). StopsAs c.self.inside.table.now.entries c.self.inside.tree v.placed c.in-Err-Page.field-0) c.source.ensures c.in-Err-Page.ensures.err) in
    stops_read _ _ c.in-Err-Page.rule c.in-Err-Page.at fed (subst (λ f. HasCome f fed) (sym c.self.view_is) h) c.drop_all.ensures.fed none sound refl refl c.drop_all.ensures.empty stopped
