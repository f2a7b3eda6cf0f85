use Rattle.std.proofs.Common.{◌≡◌, ◌++◌, [], map, take, subst, arith}
use Rattle.hm_base.specs.Walks.{path_after}
use Rattle.hm_construction_laws.specs.Steps.{end_event}
use Rattle.hm_insertion.proofs.Ends.{no_end, one_end, some_open}
use Rattle.hm_insertion.proofs.moves.end_elements.Goals as goal

pub loop-init : goal.loop-init
loop-init c = no_end c.args.maker.now

pub end-requires : goal.end-requires
end-requires c = some_open c.args.maker.now c.loop.maker (path_after [] c.args.maker.now) c.loop.counter c.loop.invariant (omega (arith, c.requires))

pub loop-preserved : goal.loop-preserved
loop-preserved c = one_end c.args.maker.now c.loop.maker c.end.new.self (path_after [] c.args.maker.now) c.loop.counter c.loop.invariant (omega (arith, c.requires)) c.in_ok-end.ensures.ok

pub returns : goal.returns
returns c = let all : c.loop.counter ≡ c.args.count = omega arith in subst (λ n. c.loop.maker ≡ c.args.maker.now ++ map end_event (take n (path_after [] c.args.maker.now))) all c.loop.invariant.walk
