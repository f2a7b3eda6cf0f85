use Rattle.std.proofs.Common.{◌≡◌, drop, fold}
use Rattle.clap.specs.Words.{app_of}
use Rattle.hm_words.specs.Matches.{with_flag}
use Rattle.hm_words.specs.declared.flags.Flag.{Flag}
use Rattle.hm_words.proofs.line.with_flags.Given as goal

abbrev pub invariant-loop-row : goal.invariant-loop-row
invariant-loop-row l = fold (λ app (row : Flag). with_flag app row.name.now) (app_of l.command) (drop l.row-index l.rows) ≡ fold (λ app (row : Flag). with_flag app row.name.now) (app_of l.initial.command) l.rows
