use Rattle.std.proofs.Common.{◌≡◌, ℕ, Bool, ◌||◌, get_or, sym, ap, ◌∙◌}
use Rattle.hm_base.specs.Bytes.{is_space}
use Rattle.hm_options.specs.Fronts.{changes}
use Rattle.hm_options.proofs.Fronts.{none_more}
use Rattle.hm_options.proofs.spaces.has_change.Goals as goal

pub loop-i-preserved : goal.loop-i-preserved
loop-i-preserved c none =
    let test : ℕ → Bool = λ k. changes (is_space (get_or c.args.earlier.now k 0)) (get_or c.args.here.now k 0) in
    let is : test c.loop-i.i ≡ c.changes_at-found.result = sym (c.changes_at-found.ensures ∙ ap (λ b. changes b (get_or c.args.here.now c.loop-i.i 0)) c.is_any_space.ensures) in
    none_more test c.loop-i.found c.loop-i.i c.loop-i.invariant (ap (λ b. c.loop-i.found || b) is ∙ none)
