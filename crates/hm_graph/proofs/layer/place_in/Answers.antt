use Rattle.std.proofs.Common.{◌≡◌, true}
use Rattle.hm_edges.specs.States.{state_of}
use Rattle.hm_graph.specs.Layers.{states_of}
use Rattle.hm_graph.specs.Fits.{place_of}
use Rattle.hm_graph.proofs.Places.{not_moved, place_here, place_later, place_none}
use Rattle.hm_graph.proofs.layer.place_in.Goals as goal

pub loop-place-init : goal.loop-place-init
loop-place-init c = λ v nodes own. not_moved (place_of (states_of v c.args.states.now) (state_of v c.args.state.now))

pub returns-then-is_state : goal.returns-then-is_state
returns-then-is_state c = λ v nodes own.
    place_here v c.args.states.now c.args.state.now c.index-states-place.result c.loop-place.place c.loop-place-test.true c.index-states-place.is (c.is_state.ensures.0 c.if-is_state.true) (c.loop-place.invariant v nodes own)

pub loop-place-preserved : goal.loop-place-preserved
loop-place-preserved c = λ v nodes own.
    place_later v c.args.states.now c.args.state.now c.index-states-place.result c.loop-place.place nodes own c.loop-place-test.true c.index-states-place.is
    (λ same. let found : c.is_state.result ≡ true = c.is_state.ensures.1 same in cc) (c.loop-place.invariant v nodes own)

pub returns : goal.returns
returns c = λ v nodes own. place_none v c.args.states.now c.args.state.now c.loop-place.place c.loop-place-test.false (c.loop-place.invariant v nodes own)
