use Rattle.std.proofs.Common.{◌+◌, inl, inr, arith, sym, ◌∙◌}
use Rattle.std.specs.Io.KnownBytes.{prepend_known}
use Rattle.std.proofs.Transfers.{starts_with_trans}
use Rattle.hm_store.proofs.LoadLemmas.{taken_after}
use Rattle.hm_store.proofs.whole_files.pull_all.Goals as goal

pub loop-piece-preserved : goal.loop-piece-preserved
loop-piece-preserved g c =
    let held = c.loop-piece.invariant in
    let bytes = c.pull_more.new.bytes in
    let pulled = c.in_ok-pull_more.ensures in
    record {
      same = pulled.same ∙ held.same;
      reading = pulled.reading;
      writing = pulled.writing ∙ held.writing;
      target = pulled.target ∙ held.target;
      whole = sym {b = prepend_known bytes.items (g.S.Store.rest c.pull_more.new.store)} pulled.follows.whole ∙ held.whole;
      front = starts_with_trans bytes.items c.loop-piece.bytes.items c.args.front.now pulled.kept held.front;
      within = pulled.within;
      steady = pulled.steady ∙ held.steady;
      most = held.most;
      piece = c.pull_more.auto.piece ∙ held.piece;
    }

-- the end of the file is reached

pub returns-then-not-branch-clause-loaded : goal.returns-then-not-branch-clause-loaded
returns-then-not-branch-clause-loaded g c =
    let front = c.args.front.now in
    let held = c.loop-piece.invariant in
    let bytes = c.pull_more.new.bytes in
    let pulled = c.in_ok-pull_more.ensures in
    taken_after (g.S.Store.rest c.args.store.now) (g.S.Store.rest c.pull_more.new.store) front bytes.items (c.args.limit + 1) (sym {b = prepend_known bytes.items (g.S.Store.rest c.pull_more.new.store)} pulled.follows.whole ∙ held.whole)
    (starts_with_trans bytes.items c.loop-piece.bytes.items front pulled.kept held.front)
    (omega (arith, pulled.within)) (inl (pulled.follows.ended c.if-not-branch.true))

pub returns-then-not-branch-clause-same : goal.returns-then-not-branch-clause-same
returns-then-not-branch-clause-same g c = c.in_ok-pull_more.ensures.same ∙ c.loop-piece.invariant.same

pub returns-then-not-branch-clause-writing : goal.returns-then-not-branch-clause-writing
returns-then-not-branch-clause-writing g c = c.in_ok-pull_more.ensures.writing ∙ c.loop-piece.invariant.writing

pub returns-then-not-branch-clause-target : goal.returns-then-not-branch-clause-target
returns-then-not-branch-clause-target g c = c.in_ok-pull_more.ensures.target ∙ c.loop-piece.invariant.target

pub returns-then-not-branch-clause-front : goal.returns-then-not-branch-clause-front
returns-then-not-branch-clause-front g c = starts_with_trans c.pull_more.new.bytes.items c.loop-piece.bytes.items c.args.front.now c.in_ok-pull_more.ensures.kept c.loop-piece.invariant.front

pub returns-then-not-branch-clause-within : goal.returns-then-not-branch-clause-within
returns-then-not-branch-clause-within g c = omega (arith, c.in_ok-pull_more.ensures.within, c.loop-piece.invariant.most)

pub returns-then-not-branch-clause-later : goal.returns-then-not-branch-clause-later
returns-then-not-branch-clause-later g c = omega (arith, c.in_ok-pull_more.ensures.later, c.loop-piece.invariant.steady)

pub returns-then-not-branch-clause-steady : goal.returns-then-not-branch-clause-steady
returns-then-not-branch-clause-steady g c = c.in_ok-pull_more.ensures.steady ∙ c.loop-piece.invariant.steady

-- a call has failed, or memory was refused

pub returns-in_err-pull_more-clause-same : goal.returns-in_err-pull_more-clause-same
returns-in_err-pull_more-clause-same g c = c.in_err-pull_more.ensures.same ∙ c.loop-piece.invariant.same

pub returns-in_err-pull_more-clause-writing : goal.returns-in_err-pull_more-clause-writing
returns-in_err-pull_more-clause-writing g c = c.in_err-pull_more.ensures.writing ∙ c.loop-piece.invariant.writing

pub returns-in_err-pull_more-clause-target : goal.returns-in_err-pull_more-clause-target
returns-in_err-pull_more-clause-target g c = c.in_err-pull_more.ensures.target ∙ c.loop-piece.invariant.target

pub returns-in_err-pull_more-clause-later : goal.returns-in_err-pull_more-clause-later
returns-in_err-pull_more-clause-later g c = omega (arith, c.in_err-pull_more.ensures.later, c.loop-piece.invariant.steady)

-- one byte more than the limit is there

pub returns-clause-loaded : goal.returns-clause-loaded
returns-clause-loaded g c =
    let held = c.loop-piece.invariant in
    let bytes = c.loop-piece.bytes in
    taken_after (g.S.Store.rest c.args.store.now) (g.S.Store.rest c.loop-piece.store) c.args.front.now bytes.items (c.args.limit + 1) held.whole held.front
    (omega arith) (inr (omega (arith, bytes.ok.0, c.loop-piece-test.false)))
