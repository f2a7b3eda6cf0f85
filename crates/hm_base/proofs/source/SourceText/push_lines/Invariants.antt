use denote.Shadow.{shadow}
use denote.Text.{Utf8}
use Rattle.std.proofs.Common.{◌≡◌, ◌+◌, ◌≤◌, true, length}
use Rattle.hm_base.specs.declared.limits.TheConstants.{OUTPUT_LIMIT}
use Rattle.hm_base.specs.Bytes.{all_pass}
use Rattle.hm_base.specs.Places.{is_nonzero, with_lines}
use Rattle.hm_base.proofs.source.SourceText.push_lines.Given as goal

-- what was added, and the rest to come, are the page
abbrev pub invariant-loop-line : goal.invariant-loop-line
invariant-loop-line l = record {
  same : with_lines l.self l.rest ≡ with_lines l.initial.self l.page;
  text : shadow (Utf8 l.rest);
  room : l.self.end + length l.rest ≤ OUTPUT_LIMIT;
  no_zero : all_pass is_nonzero l.rest ≡ true;
}

abbrev pub decreases-loop-line : goal.decreases-loop-line
decreases-loop-line l = length l.rest
