-- The command line that clap reads, and what its matches say of the words.
use Rattle.std.specs.Prelude.{◌≡◌, ℕ, true, List, [], Some, codes, fold, map, unwrap_or, option_map}
use Rattle.clap.specs.Words.{App, Rule, new_app, new_rule, with_rule, found_of, matched_of, one_text, raw_values}
use Rattle.clap.specs.Values.{bool_text}
use Rattle.clap.specs.declared.builder.action.ArgAction.TheVariants.{SetTrue, Append}
use Rattle.clap.specs.declared.parser.matches.ArgMatches.{ArgMatches}
use Rattle.hm_words.specs.Words.{Row, dashed, flags, has, names_in, rows}

abbrev pub flag_names : List (List ℕ)
flag_names = map (λ (r : Row). r.name) rows

abbrev pub flag_rule : List ℕ → Rule
flag_rule name = record (new_rule name) { long = Some name; action = Some SetTrue }

abbrev pub with_flag : App → List ℕ → App
with_flag app name = with_rule app (flag_rule name)

abbrev pub names_rule : Rule
names_rule = record (new_rule (codes "names")) { action = Some Append }

-- a command with no argument, where help and version are switched off and the first word is no program's name
abbrev pub bare_line : App
bare_line = record {
  top = record (new_app (codes "hminify")).top { no_binary_name = true; disable_help_flag = true; disable_version_flag = true };
  subs = [];
}

-- the command line: the flags, and then any number of names
abbrev pub line : App
line = with_rule (fold with_flag bare_line flag_names) names_rule

-- The matches have each flag that is among the words, and the words that are no flags, in their order.
pub record IsMatched (ws : List (List ℕ)) (m : ArgMatches) : Type 0 where
  pub flags : (name : List ℕ) → has flags (dashed name) ≡ true → one_text (found_of m) name ≡ Some (bool_text (has ws (dashed name)))
  pub names : unwrap_or (option_map raw_values (matched_of (found_of m) (codes "names"))) [] ≡ names_in ws
