use Rattle.std.proofs.Common.{◌≡◌, ℕ, List, drop, fold, true}
use Rattle.std.specs.List.{list_all}
use Rattle.hm_words.specs.Words.{dashed, flags, has, no_choices}
use Rattle.hm_words.specs.Answers.{set_by}
use Rattle.hm_words.specs.Matches.{IsMatched}
use Rattle.hm_words.specs.declared.flags.Flag.{Flag}
use Rattle.hm_words.proofs.words.chosen.Given as goal

abbrev pub invariant-loop-row : goal.invariant-loop-row
invariant-loop-row l = record {
  known : list_all (λ (row : Flag). has flags (dashed row.name.now)) (drop l.row-index l.rows) ≡ true;
  chosen : (ws : List (List ℕ)) → IsMatched ws l.matches → fold (set_by ws) l.choices (drop l.row-index l.rows) ≡ fold (set_by ws) no_choices l.rows;
}
