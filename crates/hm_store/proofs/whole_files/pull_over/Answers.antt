use Rattle.std.proofs.Common.{◌≡◌, ◌∙◌, ◌+◌, ◌&&◌, ◌==◌, not, List, ℕ, Bool, true, false, [], length, take, Ok, inl, inr, refl, sym, ap, subst, arith, length-take}
use Rattle.std.proofs.lemmas.Bool.{and_parts}
use Rattle.std.specs.declared.result.Result.{Result}
use Rattle.std.specs.Io.KnownBytes.{prepend_known}
use Rattle.hm_store.specs.Files.{Takes}
use Rattle.hm_store.proofs.LoadLemmas.{taken_over}
use Rattle.hm_store.proofs.whole_files.pull_over.Goals as goal

ok_is : (E : Type 0) (a b : Bool) → ◌≡◌ {A = Result Bool E} (Ok a) (Ok b) → a ≡ b
ok_is E a b e = cc

pub loop-at-init : goal.loop-at-init
loop-at-init g c = record {
  same = refl;
  reading = c.requires.reading;
  writing = refl;
  target = refl;
  whole = refl;
  there = omega arith;
  most = omega arith;
  expected = λ _. refl;
  steady = refl;
  piece = refl;
}

pub pull_next_over-requires-clause-reading : goal.pull_next_over-requires-clause-reading
pull_next_over-requires-clause-reading g c = c.loop-at.invariant.reading

pub pull_next_over-requires-clause-within : goal.pull_next_over-requires-clause-within
pull_next_over-requires-clause-within g c = c.loop-at.invariant.there

-- a call has failed, or memory was refused

pub returns-in_err-count-clause-same : goal.returns-in_err-count-clause-same
returns-in_err-count-clause-same g c = c.pull_next_over.ensures.same ∙ c.loop-at.invariant.same

pub returns-in_err-count-clause-writing : goal.returns-in_err-count-clause-writing
returns-in_err-count-clause-writing g c = c.pull_next_over.ensures.writing ∙ c.loop-at.invariant.writing

pub returns-in_err-count-clause-target : goal.returns-in_err-count-clause-target
returns-in_err-count-clause-target g c = c.pull_next_over.ensures.target ∙ c.loop-at.invariant.target

pub returns-in_err-count-clause-later : goal.returns-in_err-count-clause-later
returns-in_err-count-clause-later g c = omega (arith, c.pull_next_over.ensures.later, c.loop-at.invariant.steady)

-- the end of the file is reached

pub returns-then-count-eq0-clause-expected : goal.returns-then-count-eq0-clause-expected
returns-then-count-eq0-clause-expected g c = λ e.
    let all = and_parts c.cut_at.result (c.loop-at.is_expected && c.in_ok-count.is_same) (ok_is _ _ _ e) in
    let each = and_parts c.loop-at.is_expected c.in_ok-count.is_same all.1 in
    ◌∙◌ {A = List ℕ} (c.cut_at.ensures.whole all.0) (◌∙◌ {A = List ℕ} (c.in_ok-count.ensures.expected each.1) (c.loop-at.invariant.expected each.0))

pub returns-then-count-eq0-clause-same : goal.returns-then-count-eq0-clause-same
returns-then-count-eq0-clause-same g c = c.in_ok-count.ensures.same ∙ c.loop-at.invariant.same

pub returns-then-count-eq0-clause-writing : goal.returns-then-count-eq0-clause-writing
returns-then-count-eq0-clause-writing g c = c.in_ok-count.ensures.writing ∙ c.loop-at.invariant.writing

pub returns-then-count-eq0-clause-target : goal.returns-then-count-eq0-clause-target
returns-then-count-eq0-clause-target g c = c.in_ok-count.ensures.target ∙ c.loop-at.invariant.target

pub returns-then-count-eq0-clause-loaded : goal.returns-then-count-eq0-clause-loaded
returns-then-count-eq0-clause-loaded g c =
    let file = g.S.Store.rest c.args.store.now in
    let rest = g.S.Store.rest c.pull_next_over.new.store in
    let bytes = c.pull_next_over.new.bytes.items in
    let at = c.loop-at.at in
    let count = c.in_ok-count.count in
    let pulled = c.in_ok-count.ensures in
    let whole : prepend_known (take (at + count) bytes) rest ≡ prepend_known [] file = sym {b = prepend_known (take (at + count) bytes) rest} pulled.follows.whole ∙ c.loop-at.invariant.whole in
    let none : at + count ≡ at = omega (arith, c.if-count-eq0.true) in
    subst (Takes file (c.args.limit + 1)) (ap (λ n. take n bytes) none ∙ sym c.cut_at.ensures.cut)
    (taken_over file rest bytes (at + count) (c.args.limit + 1) whole pulled.there pulled.most (inl (pulled.follows.ended (ap (λ n. not (n == 0)) c.if-count-eq0.true))))

pub returns-then-count-eq0-clause-later : goal.returns-then-count-eq0-clause-later
returns-then-count-eq0-clause-later g c = omega (arith, c.in_ok-count.ensures.later, c.loop-at.invariant.steady)

pub returns-then-count-eq0-clause-steady : goal.returns-then-count-eq0-clause-steady
returns-then-count-eq0-clause-steady g c = c.in_ok-count.ensures.steady ∙ c.loop-at.invariant.steady

pub loop-at-preserved : goal.loop-at-preserved
loop-at-preserved g c =
    let held = c.loop-at.invariant in
    let pulled = c.in_ok-count.ensures in
    record {
      same = pulled.same ∙ held.same;
      reading = pulled.reading;
      writing = pulled.writing ∙ held.writing;
      target = pulled.target ∙ held.target;
      whole = sym {b = prepend_known (take (c.loop-at.at + c.in_ok-count.count) c.pull_next_over.new.bytes.items) (g.S.Store.rest c.pull_next_over.new.store)} pulled.follows.whole ∙ held.whole;
      there = pulled.there;
      most = pulled.most;
      expected = λ h. ◌∙◌ {A = List ℕ} (pulled.expected (and_parts _ _ h).1) (held.expected (and_parts _ _ h).0);
      steady = pulled.steady ∙ held.steady;
      piece = ◌∙◌ {A = ℕ} c.pull_next_over.auto.piece held.piece;
    }

-- one byte more than the limit is there

pub returns-clause-expected : goal.returns-clause-expected
returns-clause-expected g c = λ e.
    let all = and_parts c.cut_at-2.result c.loop-at.is_expected (ok_is _ _ _ e) in
    ◌∙◌ {A = List ℕ} (c.cut_at-2.ensures.whole all.0) (c.loop-at.invariant.expected all.1)

pub returns-clause-same : goal.returns-clause-same
returns-clause-same g c = c.loop-at.invariant.same

pub returns-clause-writing : goal.returns-clause-writing
returns-clause-writing g c = c.loop-at.invariant.writing

pub returns-clause-target : goal.returns-clause-target
returns-clause-target g c = c.loop-at.invariant.target

pub returns-clause-loaded : goal.returns-clause-loaded
returns-clause-loaded g c =
    let file = g.S.Store.rest c.args.store.now in
    let held = c.loop-at.invariant in
    subst (Takes file (c.args.limit + 1)) (sym {A = List ℕ} c.cut_at-2.ensures.cut)
    (taken_over file (g.S.Store.rest c.loop-at.store) c.loop-at.bytes.items c.loop-at.at (c.args.limit + 1) held.whole held.there held.most (inr (omega (arith, held.most, c.loop-at-test.false))))

pub returns-clause-within : goal.returns-clause-within
returns-clause-within g c = omega (arith, ap length c.cut_at-2.ensures.cut, length-take c.loop-at.at c.loop-at.bytes.items, c.loop-at.invariant.most)

pub returns-clause-later : goal.returns-clause-later
returns-clause-later g c = omega (arith, c.loop-at.invariant.steady)

pub returns-clause-steady : goal.returns-clause-steady
returns-clause-steady g c = c.loop-at.invariant.steady
