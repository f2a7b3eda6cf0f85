use Rattle.std.proofs.Common.{◌≡◌, ◌∙◌, Some, None, sym, ap, subst}
use Rattle.hm_edges.specs.States.{state_of}
use Rattle.hm_graph.specs.Layers.{HaveNodes, states_of}
use Rattle.hm_graph.specs.Fits.{place_of}
use Rattle.hm_graph.proofs.Placed.{placed_there, placed_new}
use Rattle.hm_graph.proofs.layer.place.Goals as goal

pub returns-in-Some : goal.returns-in-Some
returns-in-Some c = λ v nodes own.
    let given : HaveNodes v c.as_slice.result.now = subst (HaveNodes v) (sym c.as_slice.ensures) nodes in
    let at : place_of (states_of v c.as_slice.result.now) (state_of v c.args.state.now) ≡ Some c.in-Some.place = sym (c.place_in.ensures v given own) ∙ c.in-Some.is in
    placed_there v c.args.state.now c.args.states.now.items c.in-Some.place nodes (ap (λ ss. place_of (states_of v ss) (state_of v c.args.state.now)) (sym c.as_slice.ensures) ∙ at)

pub returns : goal.returns
returns c = λ v nodes own.
    let given : HaveNodes v c.as_slice.result.now = subst (HaveNodes v) (sym c.as_slice.ensures) nodes in
    let at : place_of (states_of v c.as_slice.result.now) (state_of v c.args.state.now) ≡ None = sym (c.place_in.ensures v given own) ∙ c.in_default.is in
    placed_new v c.args.state.now c.args.states.now.items c.push.new.self.items c.len-place.result nodes own (ap (λ ss. place_of (states_of v ss) (state_of v c.args.state.now)) (sym c.as_slice.ensures) ∙ at)
    c.in_ok-push.ensures.ok c.len-place.ensures.value
