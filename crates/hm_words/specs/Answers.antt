-- A request of the program as one of the definition, and flags as the code has them.
use Rattle.std.specs.Prelude.{ℕ, Bool, not, ◌&&◌, ◌||◌, List, codes, bytes_eq}
use Rattle.std.specs.List.{list_any, list_all}
use Rattle.hm_words.specs.declared.flags.Choices.{Choices}
use Rattle.hm_words.specs.declared.flags.Flag.{Flag}
use Rattle.hm_words.specs.declared.words.Asked.{Asked}
use Rattle.hm_words.specs.declared.words.Origin.{Origin}
use Rattle.hm_words.specs.declared.words.Origin.TheVariants as origins
use Rattle.hm_words.specs.declared.words.Work.{Work}
use Rattle.hm_words.specs.declared.words.Work.TheVariants as works
use Rattle.hm_words.specs.Words as words

abbrev pub origin_of : Origin → words.Origin
origin_of (origins.PageAt table page) = words.page_at table.now page.now
origin_of (origins.FragmentAt table page) = words.fragment_at table.now page.now
origin_of (origins.JsonAt table page) = words.json_at table.now page.now
origin_of (origins.Made table number size) = words.made table.now number size

abbrev pub work_of : Work → words.Work
work_of (works.Minify out cert) = words.minifies out.now cert.now
work_of (works.Check out cert) = words.checks out.now cert.now
work_of works.Show = words.shows
work_of works.TellJson = words.tells_json
work_of works.Explain = words.explains
work_of works.Measure = words.measures

abbrev pub command_of : Origin × Work → words.Command
command_of c = (origin_of c.0, work_of c.1)

abbrev pub request_of : Asked → words.Asked
request_of asked = words.asks (origin_of asked.origin) (work_of asked.work) asked.options asked.writing

-- the word is that of one of these flags
abbrev pub is_one_of : List Flag → List ℕ → Bool
is_one_of flags word = list_any (λ f. bytes_eq (words.dashed f.name.now) word) flags

abbrev pub are_known : List Flag → List (List ℕ) → Bool
are_known flags ws = list_all (λ w. not (words.is_flag w) || is_one_of flags w) ws

abbrev pub are_single : List Flag → List (List ℕ) → Bool
are_single flags ws = list_all (λ f. words.is_single ws (words.dashed f.name.now)) flags

-- no word is empty, and each that begins with `-` is one of the flags, which stands at most once
abbrev pub are_readable : List (List ℕ) → Bool
are_readable ws = words.are_filled ws && (words.are_known words.flags ws && words.are_single words.flags ws)

-- `--conservative` stands only beside `--space`
abbrev pub is_guarded : List (List ℕ) → Bool
is_guarded ws = not (words.has ws (codes "--conservative")) || words.has ws (codes "--space")

-- what a flag sets, by the words
abbrev pub set_by : List (List ℕ) → Choices → Flag → Choices
set_by ws c f = words.set f.setting (words.has ws (words.dashed f.name.now)) c
