-- A page that is made of a number is never refused.
use Rattle.std.proofs.Common.{◌≡◌, ◌∙◌, ◌≤◌, ◌<◌, ◌^◌, ◌&&◌, ◌||◌, not, ℕ, Bool, true, false, cond, List, [], ◌∷◌, length, Option, Some, None, Result, Ok, Err, refl, sym, ap, subst, arith}
use Rattle.std.specs.Bool.{nat_le, nat_lt}
use Rattle.std.specs.List.{list_all}
use Rattle.std.specs.Str.{bytes_eq}
use Rattle.std.specs.Str.Parse.{digits_value}
use Rattle.std.proofs.lemmas.Bool.Decides.{nat_tests}
use Rattle.hm_base.proofs.Bytes.{first_true, second_true}
use Rattle.hm_base.specs.declared.limits.TheConstants.{PAGE_LIMIT}
use Rattle.hm_base.specs.declared.plain.TreeOptions.{TreeOptions}
use Rattle.hm_base.specs.declared.rules.Rule.{Rule}
use Rattle.hm_fragment.specs.Trees.{Outcome, built, refused_by}
use Rattle.hm_measure_page.proofs.Lengths.{pages_are_within_limit}
use Rattle.hm_measure_page.specs.Pages.{page as made_page}
use Rattle.hm_measure_page_laws.proofs.Page.{pages_are_built}
use Rattle.hm_input.specs.Inputs.{bad_page, bad_json, input_from, is_html, is_none, names_of_table, origin_input, page_input, page_outcome, rewritten_input}
use Rattle.hm_json_tree.specs.declared.fault.JsonFault.{JsonFault}
use Rattle.hm_refs.specs.Names.{Entry}
use Rattle.hm_refs.specs.Tables.{IsTable}
use Rattle.hm_refs.specs.declared.fault.TableFault.{TableFault}
use Rattle.hm_store.specs.Contents.{Contents}
use Rattle.hm_words.specs.Words.{Command, CommandRow, Origin, Work, page_at, fragment_at, json_at, made, minifies, checks, shows, tells_json, explains, measures, Asked, asked, asks, are_filled, are_flags, choices_of, command_by, command_in, commands, fits, is_apart, is_number, made_of, names_in, number_in, origin_in, row_among, with_flags, with_origin, with_rest, with_work, work_in, written_of}
use Rattle.hm_words.specs.declared.commands.Action.{Action}
use Rattle.hm_words.specs.declared.commands.Action.TheVariants as deeds
use Rattle.hm_words.specs.declared.commands.Source.{Source}
use Rattle.hm_words.specs.declared.commands.Source.TheVariants as sources
use Rattle.hm_input.proofs.Tables.{table_is}

-- ---- The numbers of the words

number_limit : (least most n : ℕ) (word : List ℕ) → number_in least most word ≡ Some n → n ≤ most
number_limit least most n word e = by_test (is_number word) (nat_le least (digits_value 10 word)) (nat_le (digits_value 10 word) most) refl e
  where
    low : nat_le (digits_value 10 word) most ≡ true → digits_value 10 word ≤ most
    low h = grind (arith, nat_tests)

    by_test : (a b c : Bool) → nat_le (digits_value 10 word) most ≡ c → cond (a && (b && c)) (Some (digits_value 10 word)) None ≡ Some n → n ≤ most
    by_test true true true t h = let is : digits_value 10 word ≡ n = cc in omega (arith, low t, is)
    by_test true true false t h = cc
    by_test true false c t h = cc
    by_test false b c t h = cc

some_is : {A : Type 0} (x y : A) → Some x ≡ Some y → x ≡ y
some_is x y e = let h : x ≡ y = cc in h

-- a page of `size` blocks can be asked for
pub record IsMeasured (number size : ℕ) : Type 0 where
  pub fits : number < 2 ^ 32
  pub few : size ≤ 20000

-- such a page can be asked for
abbrev pub IsGenerated : Origin → Type 0
IsGenerated (page_at table page) = ⊥
IsGenerated (fragment_at table page) = ⊥
IsGenerated (json_at table page) = ⊥
IsGenerated (made table number size) = IsMeasured number size

made_limited : (table number size : List ℕ) (origin : Origin) → made_of table (number_in 0 4294967295 number) (number_in 1 20000 size) ≡ Some origin → IsGenerated origin
made_limited table number size origin e = by_numbers (number_in 0 4294967295 number) (number_in 1 20000 size) refl refl e
  where
    by_numbers : (a b : Option ℕ) → number_in 0 4294967295 number ≡ a → number_in 1 20000 size ≡ b → made_of table a b ≡ Some origin → IsGenerated origin
    by_numbers None b f g h = cc
    by_numbers (Some a) None f g h = cc
    by_numbers (Some a) (Some b) f g h = subst IsGenerated (some_is (made table a b) origin h) (record { fits = omega (arith, number_limit 0 4294967295 a number f); few = omega (arith, number_limit 1 20000 b size g) })

-- the words of a number give one
front_limited : (names : List (List ℕ)) (o : Origin × List (List ℕ)) → origin_in sources.Number names ≡ Some o → IsGenerated o.0
front_limited [] o e = cc
front_limited (t ∷ []) o e = cc
front_limited (t ∷ n ∷ []) o e = cc
front_limited (t ∷ n ∷ s ∷ rest) o e = by_origin (made_of t (number_in 0 4294967295 n) (number_in 1 20000 s)) refl e
  where
    by_origin : (x : Option Origin) → made_of t (number_in 0 4294967295 n) (number_in 1 20000 s) ≡ x → with_rest rest x ≡ Some o → IsGenerated o.0
    by_origin None is h = cc
    by_origin (Some origin) is h = subst IsGenerated (ap (λ (p : Origin × List (List ℕ)). p.0) (some_is (origin, rest) o h)) (made_limited t n s origin is)

-- ---- The table of commands

abbrev is_measure : Action → Bool
is_measure deeds.Measure = true
is_measure deed = false

abbrev is_number_source : Source → Bool
is_number_source sources.Number = true
is_number_source source = false

-- what is measured is made of a number
abbrev measures_made : Source × Action → Bool
measures_made row = not (is_measure row.1) || is_number_source row.0

rows_measure_made : list_all (λ (row : CommandRow). measures_made (row.source, row.deed)) commands ≡ true
rows_measure_made = refl

among_measures_made : (rows : List CommandRow) (name : List ℕ) (row : Source × Action) → list_all (λ (row : CommandRow). measures_made (row.source, row.deed)) rows ≡ true → row_among rows name ≡ Some row → measures_made row ≡ true
among_measures_made [] name row all e = cc
among_measures_made (first ∷ rows) name row all e = by_name (bytes_eq name first.name) (among_measures_made rows name row (second_true _ _ all)) e
  where
    by_name : (b : Bool) → (row_among rows name ≡ Some row → measures_made row ≡ true) → cond b (Some (first.source, first.deed)) (row_among rows name) ≡ Some row → measures_made row ≡ true
    by_name true more h = ap measures_made (sym (some_is (first.source, first.deed) row h)) ∙ first_true _ _ all
    by_name false more h = more h

-- the deed of a work is that of its words
abbrev deed_of : Work → Action
deed_of (minifies out cert) = deeds.Minify
deed_of (checks out cert) = deeds.Check
deed_of shows = deeds.Show
deed_of tells_json = deeds.TellJson
deed_of explains = deeds.Explain
deed_of measures = deeds.Measure

worded : (deed : Action) (names : List (List ℕ)) (work : Work) → work_in deed names ≡ Some work → deed_of work ≡ deed
worded deeds.Minify [] work e = cc
worded deeds.Minify (out ∷ []) work e = cc
worded deeds.Minify (out ∷ cert ∷ []) work e = ap deed_of (sym (some_is (minifies out cert) work e))
worded deeds.Minify (out ∷ cert ∷ more ∷ names) work e = cc
worded deeds.Check [] work e = cc
worded deeds.Check (out ∷ []) work e = cc
worded deeds.Check (out ∷ cert ∷ []) work e = ap deed_of (sym (some_is (checks out cert) work e))
worded deeds.Check (out ∷ cert ∷ more ∷ names) work e = cc
worded deeds.Show [] work e = ap deed_of (sym (some_is shows work e))
worded deeds.Show (name ∷ names) work e = cc
worded deeds.TellJson [] work e = ap deed_of (sym (some_is tells_json work e))
worded deeds.TellJson (name ∷ names) work e = cc
worded deeds.Explain [] work e = ap deed_of (sym (some_is explains work e))
worded deeds.Explain (name ∷ names) work e = cc
worded deeds.Measure [] work e = ap deed_of (sym (some_is measures work e))
worded deeds.Measure (name ∷ names) work e = cc

-- a command that measures has such a page
abbrev IsLimited : Command → Type 0
IsLimited command = command.1 ≡ measures → IsGenerated command.0

number_source : (source : Source) → is_number_source source ≡ true → source ≡ sources.Number
number_source sources.Page e = cc
number_source sources.Fragment e = cc
number_source sources.Json e = cc
number_source sources.Number e = refl

row_limited : (row : Source × Action) (names : List (List ℕ)) (command : Command) → measures_made row ≡ true → command_by (Some row) names ≡ Some command → IsLimited command
row_limited row names command made_only e is = by_origin (origin_in row.0 names) refl e
  where
    by_work : (o : Origin × List (List ℕ)) (x : Option Work) → origin_in row.0 names ≡ Some o → work_in row.1 o.1 ≡ x → with_work o.0 x ≡ Some command → IsGenerated command.0
    by_work o None here there h = cc
    by_work o (Some work) here there h =
        let same : (o.0, work) ≡ command = some_is (o.0, work) command h in
        let measure : row.1 ≡ deeds.Measure = sym (worded row.1 o.1 work there) ∙ ap deed_of (ap (λ (c : Command). c.1) same ∙ is) in
        let number : row.0 ≡ sources.Number = number_source row.0 (ap (λ d. not (is_measure d) || is_number_source row.0) (sym measure) ∙ made_only) in
        subst IsGenerated (ap (λ (c : Command). c.0) same) (front_limited names o (ap (λ s. origin_in s names) (sym number) ∙ here))

    by_origin : (x : Option (Origin × List (List ℕ))) → origin_in row.0 names ≡ x → with_origin row.1 x ≡ Some command → IsGenerated command.0
    by_origin None here h = cc
    by_origin (Some o) here h = by_work o (work_in row.1 o.1) here refl h

command_limited : (names : List (List ℕ)) (command : Command) → command_in names ≡ Some command → IsLimited command
command_limited [] command e = cc
command_limited (name ∷ names) command e = by_row (row_among commands name) refl e
  where
    by_row : (x : Option (Source × Action)) → row_among commands name ≡ x → command_by x names ≡ Some command → IsLimited command
    by_row None is h = cc
    by_row (Some row) is h = row_limited row names command (among_measures_made commands name row rows_measure_made is) h

asked_limited : (ws : List (List ℕ)) (x : Option Command) (q : Asked) → ((command : Command) → x ≡ Some command → IsLimited command) → with_flags ws x ≡ Some q → q.work ≡ measures → IsGenerated q.origin
asked_limited ws None q limited e work = cc
asked_limited ws (Some command) q limited e work = by_test (is_apart command.0 command.1 && fits command ws) e
  where
    by_test : (b : Bool) → cond b (Some (asks command.0 command.1 (choices_of ws).options (written_of command.0 (choices_of ws).writing))) None ≡ Some q → IsGenerated q.origin
    by_test true h =
        let is : asks command.0 command.1 (choices_of ws).options (written_of command.0 (choices_of ws).writing) ≡ q = some_is _ q h in
        subst IsGenerated (ap (λ (z : Asked). z.origin) is) (limited command refl (ap (λ (z : Asked). z.work) is ∙ work))
    by_test false h = cc

pub asked_limits : (ws : List (List ℕ)) (q : Asked) → asked ws ≡ Some q → q.work ≡ measures → IsGenerated q.origin
unfolding asked
asked_limits ws q e work = by_test (are_filled ws && are_flags ws) e
  where
    by_test : (b : Bool) → cond b (with_flags ws (command_in (names_in ws))) None ≡ Some q → IsGenerated q.origin
    by_test true h = asked_limited ws (command_in (names_in ws)) q (command_limited (names_in ws)) h work
    by_test false h = cc

-- ---- The page

within : (n m : ℕ) → m ≤ n → nat_lt n m ≡ false
within n m h = grind (arith, nat_tests)

outcome_is_built : (t : List Entry) → IsTable t → (number size : ℕ) → IsMeasured number size → (x : Outcome) → page_outcome t (made_page number size) ≡ x → (rule : Rule) (at : ℕ) → x ≡ refused_by rule at → ⊥
unfolding page_outcome
outcome_is_built t k number size m x e rule at refused =
    let b = pages_are_built t number size k m.fits (omega (arith, m.few)) in
    let short : nat_lt PAGE_LIMIT (length (made_page number size)) ≡ false = within PAGE_LIMIT (length (made_page number size)) (pages_are_within_limit number size m.fits m.few) in
    let read : page_outcome t (made_page number size) ≡ built b.tree = rw short b.of_page in
    let h : built b.tree ≡ refused_by rule at = sym read ∙ e ∙ refused in
    cc

never_refused : (t : List Entry) → IsTable t → (number size : ℕ) → IsMeasured number size → (o : TreeOptions) (n : ℕ) (x : Outcome) → page_outcome t (made_page number size) ≡ x → (rule : Rule) (at : ℕ) → rewritten_input o t n x ≡ bad_page rule at → ⊥
never_refused t k number size m o n (built w) is rule at e = cc
never_refused t k number size m o n (refused_by known place) is rule at e = outcome_is_built t k number size m (refused_by known place) is known place refl

made_never_refused : (o : TreeOptions) (seen : Contents) (table : List ℕ) (number size : ℕ) → IsMeasured number size → (rule : Rule) (at : ℕ) → origin_input (made table number size) o seen ≡ bad_page rule at → ⊥
made_never_refused o seen table number size m rule at e = by_names (names_of_table table (seen table)) refl e
  where
    by_names : (names : Option (Result (List Entry) TableFault)) → names_of_table table (seen table) ≡ names → input_from (page_input o) names (Some (made_page number size)) ≡ bad_page rule at → ⊥
    by_names None is h = cc
    by_names (Some (Err fault)) is h = cc
    by_names (Some (Ok t)) is h = never_refused t (table_is (is_none table) (is_html table) (seen table) t is) number size m o (length (made_page number size)) (page_outcome t (made_page number size)) refl rule at h

pub origin_never_refused : (origin : Origin) (o : TreeOptions) (seen : Contents) → IsGenerated origin → (rule : Rule) (at : ℕ) → origin_input origin o seen ≡ bad_page rule at → ⊥
origin_never_refused (page_at table page) o seen m rule at e = m
origin_never_refused (fragment_at table page) o seen m rule at e = m
origin_never_refused (json_at table page) o seen m rule at e = m
origin_never_refused (made table number size) o seen m rule at e = made_never_refused o seen table number size m rule at e

-- and no JSON is read for it
rewritten_never_json : (o : TreeOptions) (t : List Entry) (n : ℕ) (x : Outcome) (fault : JsonFault) → rewritten_input o t n x ≡ bad_json fault → ⊥
rewritten_never_json o t n (built w) fault e = cc
rewritten_never_json o t n (refused_by rule at) fault e = cc

names_never_json : (o : TreeOptions) (page : List ℕ) (names : Option (Result (List Entry) TableFault)) (fault : JsonFault) → input_from (page_input o) names (Some page) ≡ bad_json fault → ⊥
names_never_json o page None fault e = cc
names_never_json o page (Some (Err known)) fault e = cc
names_never_json o page (Some (Ok t)) fault e = rewritten_never_json o t (length page) (page_outcome t page) fault e

pub origin_never_json : (origin : Origin) (o : TreeOptions) (seen : Contents) → IsGenerated origin → (fault : JsonFault) → origin_input origin o seen ≡ bad_json fault → ⊥
origin_never_json (page_at table page) o seen m fault e = m
origin_never_json (fragment_at table page) o seen m fault e = m
origin_never_json (json_at table page) o seen m fault e = m
origin_never_json (made table number size) o seen m fault e = names_never_json o (made_page number size) (names_of_table table (seen table)) fault e
