use denote.Text.{Utf8}
use denote.Shadow.{shadow}
use Rattle.hm_reading_tests.proofs.refs.is_plain.Given as goal

-- what is left is text
abbrev pub invariant-loop-c : goal.invariant-loop-c
invariant-loop-c l =
    (goal.iterator-loop-c).can_next l.c-iterator × (goal.iterator-loop-c).is_finite l.c-iterator × shadow (Utf8 l.rest)
