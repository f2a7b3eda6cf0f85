use Rattle.std.proofs.Common.{◌≡◌, ◌||◌, sym, ◌∙◌, refl}
use Rattle.hm_scan.specs.Reading as reading
use Rattle.hm_scan.proofs.Kept.{collected_more}
use Rattle.hm_scan.proofs.collected.Collected.take.Goals as goal
use Rattle.hm_scan.proofs.collected.Collected.take.Goals.{then-self, else-self}

pub returns-in_ok-keep-clause-taken : goal.returns-in_ok-keep-clause-taken
returns-in_ok-keep-clause-taken c =
    let bad : c.if-self.self ≡ c.args.self.now.has_bad_name || reading.is_bad_name c.args.name.now =
    elim c.if-self.branch [
      | then-self w ↦ rw w.if-self.true (w.self-is ∙ w.if-self.true)
      | else-self w ↦ rw w.if-self.false (w.self-is ∙ w.is_refused-self.ensures)
    ] in
    λ written old. collected_more c.args.table.now.entries written (record { name = c.args.name.now; value = c.args.value.now }) c.args.self.now c.args.attrs.now _ _ old (record {
      keeps = refl;
      count = refl;
      bad = bad;
      attrs = rw (sym c.wants.ensures ∙ c.if-wants.true) c.in_ok-keep.ensures;
    })

pub returns-else-wants-clause-taken : goal.returns-else-wants-clause-taken
returns-else-wants-clause-taken c =
    let bad : c.if-self.self ≡ c.args.self.now.has_bad_name || reading.is_bad_name c.args.name.now =
    elim c.if-self.branch [
      | then-self w ↦ rw w.if-self.true (w.self-is ∙ w.if-self.true)
      | else-self w ↦ rw w.if-self.false (w.self-is ∙ w.is_refused-self.ensures)
    ] in
    λ written old. collected_more c.args.table.now.entries written (record { name = c.args.name.now; value = c.args.value.now }) c.args.self.now c.args.attrs.now _ _ old (record {
      keeps = refl;
      count = refl;
      bad = bad;
      attrs = rw (sym c.wants.ensures ∙ c.if-wants.false) refl;
    })
