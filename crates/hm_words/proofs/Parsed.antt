-- What the matches of words that may be read are.
use Rattle.std.proofs.Common.{◌≡◌, ◌∙◌, ◌||◌, not, Bool, cond, true, false, refl, ap, List, [], ◌∷◌, Option, Some, None, codes}
use Rattle.std.specs.List.{fold, list_all}
use Rattle.std.specs.Option.{unwrap_or, option_and_then}
use Rattle.std.specs.Str.{bytes_eq}
use Rattle.clap.specs.Values.{bool_text}
use Rattle.clap.specs.Matches.{found_of}
use Rattle.clap.specs.Walk.{Row, Text, one_of, all_of, row_text, rows_of, settled, finished, with_default, is_empty}
use Rattle.clap.specs.Simple.{matches_of}
use Rattle.clap.proofs.WalkLemmas.{one_text-rows, raw_values-rows}
use Rattle.clap.specs.declared.builder.value_parser.Reading.TheVariants.{AsWritten}
use Rattle.clap.specs.declared.parser.matches.ArgMatches.{ArgMatches}
use Rattle.hm_words.specs.Words.{dashed, flags, has, are_known, are_single, names_in}
use Rattle.hm_words.specs.Matches.{IsMatched, line}
use Rattle.hm_words.proofs.Rows.{row_at, values_at, values_in}
use Rattle.hm_words.proofs.Walks.{rules, stands, with_name, name_of, each_flag}
use Rattle.hm_words.proofs.Ends.{ends, end_rows, walk_ends, row_ends, names_end, flag_row, single_among}
use Rattle.hm_words.proofs.Defaults.{row_kept, no_default, default_of, row_by_default}

settled_is : (rows : List Row) (p : Option Text) → (settled rules (stands rows p).held).rows ≡ with_name p rows
settled_is rows None = refl
settled_is rows (Some v) = refl

-- the rows of the matches
pub matches_are : (ws : List Text) → are_known flags ws ≡ true → matches_of line ws ≡ fold with_default (end_rows ws [] None) rules
matches_are ws known =
    ap (λ w. finished rules w.held) (walk_ends ws [] None known) ∙ ap (λ rows. fold with_default rows rules) (settled_is (ends ws [] None).0 (ends ws [] None).1)

-- each flag has the default value `false`, and is no name
flag_default : (w : Text) → has flags w ≡ true → default_of (name_of w) rules ≡ Some (codes "false" ∷ [], AsWritten)
flag_default = each_flag (λ w. default_of (name_of w) rules ≡ Some (codes "false" ∷ [], AsWritten)) refl refl refl refl refl refl refl refl refl refl refl refl refl

pub flag_apart : (w : Text) → has flags w ≡ true → bytes_eq (codes "names") (name_of w) ≡ false
flag_apart = each_flag (λ w. bytes_eq (codes "names") (name_of w) ≡ false) refl refl refl refl refl refl refl refl refl refl refl refl refl

names_default : list_all (λ a. not (bytes_eq a.id (codes "names")) || is_empty a.defaults) rules ≡ true
names_default = refl

-- the text of a flag
flag_text : (ws : List Text) (name : Text) → are_known flags ws ≡ true → are_single flags ws ≡ true → has flags (dashed name) ≡ true
    → one_of name (matches_of line ws) ≡ Some (bool_text (has ws (dashed name)))
flag_text ws name known single flag =
    ap (one_of name) (matches_are ws known) ∙ by_test (has ws (dashed name)) refl
  where
    end : row_at name (end_rows ws [] None) ≡ cond (has ws (dashed name)) (Some (flag_row name)) None
    end = row_ends name ws [] None (flag_apart (dashed name) flag) known (single_among ws flags (dashed name) single flag) refl

    by_test : (b : Bool) → has ws (dashed name) ≡ b → option_and_then row_text (row_at name (fold with_default (end_rows ws [] None) rules)) ≡ Some (bool_text (has ws (dashed name)))
    by_test true t = rw t (ap (option_and_then row_text) (row_kept name rules (flag_row name) (end_rows ws [] None) (rw t at end)))
    by_test false t =
        rw t (ap (option_and_then row_text) (row_by_default name rules (codes "false") [] AsWritten (end_rows ws [] None) (flag_default (dashed name) flag) (rw t at end)))

-- the names
names_are : (ws : List Text) → are_known flags ws ≡ true → unwrap_or (all_of (codes "names") (matches_of line ws)) [] ≡ names_in ws
names_are ws known =
    ap (values_at (codes "names")) (matches_are ws known) ∙ ap values_in (no_default (codes "names") rules (end_rows ws [] None) names_default) ∙ names_end ws [] None known

-- the matches are those of the words
pub reads : (ws : List Text) (m : ArgMatches) → are_known flags ws ≡ true → are_single flags ws ≡ true → rows_of (found_of m) ≡ matches_of line ws → IsMatched ws m
reads ws m known single e = record {
  flags = λ name flag. one_text-rows (found_of m) name ∙ ap (one_of name) e ∙ flag_text ws name known single flag;
  names = ap (λ o. unwrap_or o []) (raw_values-rows (found_of m) (codes "names") ∙ ap (all_of (codes "names")) e) ∙ names_are ws known;
}
