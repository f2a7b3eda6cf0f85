use Rattle.std.proofs.Common.{◌≡◌, ◌+◌, ◌-◌, ◌<◌, drop, length, get_or, arith, Some, None, ◌∙◌, length-drop}
use Rattle.std.proofs.lemmas.List.{take_rest, get_or-drop}
use Rattle.hm_base.specs.RawText.{mark_at}
use Rattle.hm_scan.specs.Scripts.{state_of, next_state}
use Rattle.hm_scan.proofs.MarkPlaces.{ends_at, goes_past, never_ends, byte_is_ascii}
use Rattle.hm_scan.proofs.scripts.script_end.Goals as goal

pub returns-in_default-after : goal.returns-in_default-after
returns-in_default-after c =
    let s = c.args.bytes.now in
    let at = c.marks.at in
    let to = c.marks.at + c.in-Some.found in
    let h = rw (take_rest s at) at c.in-Some.ensures in
    let long : length (drop at s) ≡ length s - at = length-drop at s in
    let inside : to < length s = omega (arith, h.0.high) in
    let ended : None ≡ next_state (state_of c.marks.state) (mark_at (drop to s)) = rw (c.mark_at.ensures, take_rest s to) at c.in_default-after.ensures in
    record {
      ordered = omega arith;
      inside = inside;
      ascii = rw (get_or-drop at s c.in-Some.found 0) at (byte_is_ascii (get_or (drop at s) c.in-Some.found 0) h.1);
      is = c.marks.invariant.same ∙ ends_at s c.args.from at to (omega arith) (omega arith) (omega arith) (λ j l p. h.0.before j (omega arith) (omega arith) p) (state_of c.marks.state) inside ended;
    }

pub marks-preserved : goal.marks-preserved
marks-preserved c =
    let s = c.args.bytes.now in
    let at = c.marks.at in
    let to = c.marks.at + c.in-Some.found in
    let h = rw (take_rest s at) at c.in-Some.ensures in
    let long : length (drop at s) ≡ length s - at = length-drop at s in
    let inside : to < length s = omega (arith, h.0.high) in
    let further : Some (state_of c.in-Some-after.next) ≡ next_state (state_of c.marks.state) (mark_at (drop to s)) = rw (c.mark_at.ensures, take_rest s to) at c.in-Some-after.ensures in
    record {
      low = omega arith;
      high = omega arith;
      same = c.marks.invariant.same ∙ goes_past s c.args.from at to (omega arith) (omega arith) (omega arith) (λ j l p. h.0.before j (omega arith) (omega arith) p) (state_of c.marks.state) (state_of c.in-Some-after.next) inside further;
    }

pub returns : goal.returns
returns c =
    let s = c.args.bytes.now in
    let at = c.marks.at in
    let h = rw (take_rest s at) at c.in_default.ensures in
    let long : length (drop at s) ≡ length s - at = length-drop at s in
    c.marks.invariant.same ∙ never_ends (state_of c.marks.state) s c.args.from at (omega arith) (omega arith) (λ j l p. h j (omega arith) (omega arith) p)
