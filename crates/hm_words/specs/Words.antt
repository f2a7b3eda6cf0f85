-- What the words of a call ask for.
use Rattle.std.specs.Prelude.{ℕ, Bool, true, false, not, ◌&&◌, ◌||◌, ◌==◌, List, [], ◌∷◌, Option, Some, None, if◌then◌else◌, codes, bytes_eq, nat_le, filter, count_by, fold, map}
use Rattle.std.specs.Char.{is_ascii_digit}
use Rattle.std.specs.List.{list_any, list_all}
use Rattle.std.specs.Str.Parse.{digits_value}
use Rattle.hm_base.specs.Bytes.{is_null}
use Rattle.hm_base.specs.declared.plain.TreeOptions.{TreeOptions}
use Rattle.hm_words.specs.declared.commands.Action.{Action}
use Rattle.hm_words.specs.declared.commands.Action.TheVariants as deeds
use Rattle.hm_words.specs.declared.commands.Source.{Source}
use Rattle.hm_words.specs.declared.commands.Source.TheVariants as sources
use Rattle.hm_words.specs.declared.flags.Choices.{Choices}
use Rattle.hm_words.specs.declared.flags.Setting.{Setting}
use Rattle.hm_words.specs.declared.flags.Setting.TheVariants.{Comments, Booleans, Empty, Redundant, Doctype, Space, Conservative, Omit, Unquote, Tight, Ascii, Sparse, Order}
use Rattle.hm_words.specs.declared.notices.Notice.{Notice}
use Rattle.hm_words.specs.declared.notices.Notice.TheVariants.{Help, Version}
use Rattle.hm_words.specs.declared.writing.Writing.{Writing}

-- where the tree of a request comes from, with the names of its files
pub data Origin : Type 0 where
  page_at : List ℕ → List ℕ → Origin  -- TABLE, PAGE
  fragment_at : List ℕ → List ℕ → Origin  -- TABLE, PAGE, which holds a fragment
  json_at : List ℕ → List ℕ → Origin  -- TABLE, PAGE, which holds a tree as JSON
  made : List ℕ → ℕ → ℕ → Origin  -- TABLE, NUMBER, SIZE: the page of so many blocks that is made of a number

-- what is done with the tree, with the names of its files
pub data Work : Type 0 where
  minifies : List ℕ → List ℕ → Work  -- OUT, CERT
  checks : List ℕ → List ℕ → Work  -- OUT, CERT
  shows : Work
  tells_json : Work
  explains : Work
  measures : Work

-- a command: where its tree comes from, and what is done with it
abbrev pub Command : Type 0
Command = Origin × Work

-- a request: a command, the rewrites of the tree, and how that is written
pub record Asked : Type 0 where
  pub origin : Origin
  pub work : Work
  pub options : TreeOptions
  pub writing : Writing

abbrev pub asks : Origin → Work → TreeOptions → Writing → Asked
asks origin work options writing = record { origin = origin; work = work; options = options; writing = writing }

-- the names of tables that are no files: `none` and `html`
abbrev pub is_table_word : List ℕ → Bool
is_table_word table = bytes_eq table (codes "none") || bytes_eq table (codes "html")

-- the names of table and page differ; `none` and `html` are no names of files
abbrev pub are_apart : List ℕ → List ℕ → Bool
are_apart table page = is_table_word table || not (bytes_eq table page)

-- ---- Flags, anywhere among the words

abbrev pub is_flag : List ℕ → Bool
is_flag [] = false
is_flag (c ∷ s) = c == 45

-- the words that are no flags, in their order
abbrev pub names_in : List (List ℕ) → List (List ℕ)
names_in ws = filter (λ w. not (is_flag w)) ws

-- the word of a flag: its name after two hyphens
abbrev pub dashed : List ℕ → List ℕ
dashed name = 45 ∷ 45 ∷ name

-- a flag: its name, and what it sets
pub record Row : Type 0 where
  pub name : List ℕ
  pub setting : Setting

abbrev row : List ℕ → Setting → Row
row name setting = record { name = name; setting = setting }

-- the table of flags
abbrev pub rows : List Row
rows =
    row (codes "comments") Comments
    ∷ row (codes "booleans") Booleans
    ∷ row (codes "empty") Empty
    ∷ row (codes "redundant") Redundant
    ∷ row (codes "doctype") Doctype
    ∷ row (codes "space") Space
    ∷ row (codes "conservative") Conservative
    ∷ row (codes "omit") Omit
    ∷ row (codes "unquote") Unquote
    ∷ row (codes "tight") Tight
    ∷ row (codes "ascii") Ascii
    ∷ row (codes "sparse") Sparse
    ∷ row (codes "order") Order
    ∷ []

-- the words of the flags
unfoldable pub flags : List (List ℕ)
flags = map (λ (r : Row). dashed r.name) rows

-- the word is one of these
abbrev pub has : List (List ℕ) → List ℕ → Bool
has ws word = list_any (λ w. bytes_eq w word) ws

-- each flag is one of these
abbrev pub are_known : List (List ℕ) → List (List ℕ) → Bool
are_known known ws = list_all (λ w. not (is_flag w) || has known w) ws

-- the word is given at most once
abbrev pub is_single : List (List ℕ) → List ℕ → Bool
is_single ws word = nat_le (count_by (λ w. bytes_eq w word) ws) 1

-- each of these is given at most once
abbrev pub are_single : List (List ℕ) → List (List ℕ) → Bool
are_single known ws = list_all (is_single ws) known

-- no word is empty
abbrev pub are_filled : List (List ℕ) → Bool
are_filled ws = list_all (λ w. not (is_null w)) ws

-- known flags, each at most once, and `--conservative` only beside `--space`
abbrev pub are_flags : List (List ℕ) → Bool
are_flags ws = are_known flags ws && (are_single flags ws && (not (has ws (codes "--conservative")) || has ws (codes "--space")))

-- the choices with one of them set if its flag is given, and unset if not
abbrev pub set : Setting → Bool → Choices → Choices
set Comments given c = record c { options = record c.options { comments = given } }
set Booleans given c = record c { options = record c.options { booleans = given } }
set Empty given c = record c { options = record c.options { empty = given } }
set Redundant given c = record c { options = record c.options { redundant = given } }
set Doctype given c = record c { options = record c.options { doctype = given } }
set Space given c = record c { options = record c.options { space = given } }
set Conservative given c = record c { options = record c.options { conservative = given } }
set Omit given c = record c { writing = record c.writing { rules = record c.writing.rules { omit = given } } }
set Unquote given c = record c { writing = record c.writing { rules = record c.writing.rules { unquote = given } } }
set Tight given c = record c { writing = record c.writing { rules = record c.writing.rules { tight = given } } }
set Ascii given c = record c { writing = record c.writing { rules = record c.writing.rules { ascii = given } } }
set Sparse given c = record c { writing = record c.writing { sparse = given } }
set Order given c = record c { writing = record c.writing { order = given } }

-- nothing is chosen
abbrev pub no_choices : Choices
no_choices = record {
  options = record { doctype = false; comments = false; booleans = false; empty = false; redundant = false; space = false; conservative = false };
  writing = record { rules = record { omit = false; unquote = false; tight = false; ascii = false; frame = false }; sparse = false; order = false };
}

-- what a flag sets, by the words
abbrev pub set_by : List (List ℕ) → Choices → Row → Choices
set_by ws c r = set r.setting (has ws (dashed r.name)) c

-- what the flags among the words set
unfoldable pub choices_of : List (List ℕ) → Choices
choices_of ws = fold (set_by ws) no_choices rows

-- ---- The names of a command's files

-- the names of the origin's files differ; `none` and `html` are no names of files
abbrev pub is_origin_apart : Origin → Bool
is_origin_apart (page_at table page) = are_apart table page
is_origin_apart (fragment_at table page) = are_apart table page
is_origin_apart (json_at table page) = are_apart table page
is_origin_apart (made table number size) = true

-- no file of the origin has this name
abbrev pub is_away : Origin → List ℕ → Bool
is_away (page_at table page) name = are_apart table name && not (bytes_eq page name)
is_away (fragment_at table page) name = are_apart table name && not (bytes_eq page name)
is_away (json_at table page) name = are_apart table name && not (bytes_eq page name)
is_away (made table number size) name = are_apart table name

-- OUT and CERT differ from each other and from the files of the origin
abbrev pub are_files_apart : Origin → List ℕ → List ℕ → Bool
are_files_apart origin out cert = is_away origin out && (is_away origin cert && not (bytes_eq out cert))

abbrev pub is_work_apart : Origin → Work → Bool
is_work_apart origin (minifies out cert) = are_files_apart origin out cert
is_work_apart origin (checks out cert) = are_files_apart origin out cert
is_work_apart origin shows = true
is_work_apart origin tells_json = true
is_work_apart origin explains = true
is_work_apart origin measures = true

-- all names differ
abbrev pub is_apart : Origin → Work → Bool
is_apart origin work = is_origin_apart origin && is_work_apart origin work

-- ---- Numbers

-- it isn't empty and has no leading zero; `0` itself has none
abbrev pub has_no_zero : List ℕ → Bool
has_no_zero [] = false
has_no_zero (c ∷ s) = not (c == 48) || is_null s

-- decimal digits without leading zeros; `0` itself is one
abbrev pub is_number : List ℕ → Bool
is_number word = list_all is_ascii_digit word && has_no_zero word

-- the number of a word, from the least to the most that it may be
abbrev pub number_in : ℕ → ℕ → List ℕ → Option ℕ
number_in least most word = if is_number word && (nat_le least (digits_value 10 word) && nat_le (digits_value 10 word) most) then Some (digits_value 10 word) else None

-- ---- Commands

-- a command by its name: where its tree comes from, and what is done with it
pub record CommandRow : Type 0 where
  pub name : List ℕ
  pub source : Source
  pub deed : Action

abbrev command_row : List ℕ → Source → Action → CommandRow
command_row name source deed = record { name = name; source = source; deed = deed }

-- the table of commands
abbrev pub commands : List CommandRow
commands =
    command_row (codes "minify") sources.Page deeds.Minify
    ∷ command_row (codes "check") sources.Page deeds.Check
    ∷ command_row (codes "fragment") sources.Fragment deeds.Minify
    ∷ command_row (codes "checkfragment") sources.Fragment deeds.Check
    ∷ command_row (codes "tree") sources.Page deeds.Show
    ∷ command_row (codes "json") sources.Page deeds.TellJson
    ∷ command_row (codes "explain") sources.Page deeds.Explain
    ∷ command_row (codes "minifyjson") sources.Json deeds.Minify
    ∷ command_row (codes "measure") sources.Number deeds.Measure
    ∷ []

-- the row of a name
abbrev pub row_among : List CommandRow → List ℕ → Option (Source × Action)
row_among [] name = None
row_among (row ∷ rows) name = if bytes_eq name row.name then Some (row.source, row.deed) else row_among rows name

abbrev pub row_of : List ℕ → Option (Source × Action)
row_of name = row_among commands name

-- an origin, and the words after its own
abbrev pub with_rest : List (List ℕ) → Option Origin → Option (Origin × List (List ℕ))
with_rest rest None = None
with_rest rest (Some origin) = Some (origin, rest)

abbrev pub made_of : List ℕ → Option ℕ → Option ℕ → Option Origin
made_of table (Some number) (Some size) = Some (made table number size)
made_of table number size = None

-- The words of an origin come first: TABLE PAGE, or TABLE NUMBER SIZE, a number of 32 bits and from 1 to 20,000 blocks.
abbrev pub origin_in : Source → List (List ℕ) → Option (Origin × List (List ℕ))
origin_in sources.Page (table ∷ page ∷ rest) = Some (page_at table page, rest)
origin_in sources.Fragment (table ∷ page ∷ rest) = Some (fragment_at table page, rest)
origin_in sources.Json (table ∷ page ∷ rest) = Some (json_at table page, rest)
origin_in sources.Number (table ∷ number ∷ size ∷ rest) = with_rest rest (made_of table (number_in 0 4294967295 number) (number_in 1 20000 size))
origin_in source names = None

-- those of the work are all that are left: OUT CERT, or none
abbrev pub work_in : Action → List (List ℕ) → Option Work
work_in deeds.Minify (out ∷ cert ∷ []) = Some (minifies out cert)
work_in deeds.Check (out ∷ cert ∷ []) = Some (checks out cert)
work_in deeds.Show [] = Some shows
work_in deeds.TellJson [] = Some tells_json
work_in deeds.Explain [] = Some explains
work_in deeds.Measure [] = Some measures
work_in deed names = None

abbrev pub with_work : Origin → Option Work → Option Command
with_work origin None = None
with_work origin (Some work) = Some (origin, work)

abbrev pub with_origin : Action → Option (Origin × List (List ℕ)) → Option Command
with_origin deed None = None
with_origin deed (Some o) = with_work o.0 (work_in deed o.1)

-- the command of a row, by the words after its name
abbrev pub command_by : Option (Source × Action) → List (List ℕ) → Option Command
command_by None names = None
command_by (Some row) names = with_origin row.1 (origin_in row.0 names)

-- the command of the words that are no flags
abbrev pub command_in : List (List ℕ) → Option Command
command_in [] = None
command_in (name ∷ names) = command_by (row_of name) names

-- the tree is that of a fragment
abbrev pub is_fragment : Origin → Bool
is_fragment (page_at table page) = false
is_fragment (fragment_at table page) = true
is_fragment (json_at table page) = false
is_fragment (made table number size) = false

-- the tree is that of a page that `measure` makes
abbrev pub is_made : Origin → Bool
is_made (page_at table page) = false
is_made (fragment_at table page) = false
is_made (json_at table page) = false
is_made (made table number size) = true

-- The flags are allowed with the command: any with each, except that a fragment needs `--omit`, and the page that `measure` makes
-- is not put into order.
abbrev pub fits : Command → List (List ℕ) → Bool
fits command ws = (not (is_fragment command.0) || has ws (codes "--omit")) && (not (is_made command.0) || not (has ws (codes "--order")))

-- how the tree of an origin is written: the start tag of body isn't omitted for a fragment
abbrev pub written_of : Origin → Writing → Writing
written_of origin x = record x { rules = record x.rules { frame = is_fragment origin } }

-- a command is asked for if the names of its files differ and its flags are allowed with it
abbrev pub with_flags : List (List ℕ) → Option Command → Option Asked
with_flags ws None = None
with_flags ws (Some command) = if is_apart command.0 command.1 && fits command ws then Some (asks command.0 command.1 (choices_of ws).options (written_of command.0 (choices_of ws).writing)) else None

-- what the words ask for, if they have a meaning
unfoldable pub asked : List (List ℕ) → Option Asked
asked ws = if are_filled ws && are_flags ws then with_flags ws (command_in (names_in ws)) else None

-- ---- Notices

-- a notice by a word that asks for it
pub record NoticeRow : Type 0 where
  pub name : List ℕ
  pub notice : Notice

abbrev notice_row : List ℕ → Notice → NoticeRow
notice_row name notice = record { name = name; notice = notice }

-- the table of notices
abbrev pub notices : List NoticeRow
notices =
    notice_row (codes "help") Help
    ∷ notice_row (codes "--help") Help
    ∷ notice_row (codes "-h") Help
    ∷ notice_row (codes "version") Version
    ∷ notice_row (codes "--version") Version
    ∷ notice_row (codes "-V") Version
    ∷ []

-- the notice of a word
abbrev pub notice_among : List NoticeRow → List ℕ → Option Notice
notice_among [] word = None
notice_among (row ∷ rows) word = if bytes_eq word row.name then Some row.notice else notice_among rows word

abbrev pub notice_of : List ℕ → Option Notice
notice_of word = notice_among notices word

-- A notice is asked for by a single word. Such a word has no other meaning.
abbrev pub notice_in : List (List ℕ) → Option Notice
notice_in [] = None
notice_in (word ∷ []) = notice_of word
notice_in (word ∷ more ∷ words) = None
