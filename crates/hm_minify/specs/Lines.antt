-- The line that a run puts to its sink.
use Rattle.std.specs.Prelude.{ℕ, List, [], ◌∷◌, ◌++◌, Option, Some, None, codes}
use Rattle.std.specs.Fmt.{decimal}
use Rattle.hm_base.specs.Rules.{name_of}
use Rattle.hm_base.specs.declared.rules.Rule.{Rule}
use Rattle.hm_check.specs.declared.verdicts.Why.{Why}
use Rattle.hm_check.specs.declared.verdicts.Why.TheVariants as whys
use Rattle.hm_json_tree.specs.declared.fault.JsonFault.{JsonFault}
use Rattle.hm_json_tree.specs.declared.fault.JsonFault.TheVariants as json_faults
use Rattle.hm_minify.specs.declared.notices.TheConstants.{HELP, VERSION}
use Rattle.hm_refs.specs.Faults.{fault_name}
use Rattle.hm_refs.specs.declared.fault.TableFault.{TableFault}
use Rattle.hm_refs.specs.declared.fault.TableFault.TheVariants as faults
use Rattle.hm_words.specs.declared.notices.Notice.{Notice}
use Rattle.hm_words.specs.declared.notices.Notice.TheVariants.{Help, Version}

-- a page was minified to `n` bytes
abbrev pub length_line : ℕ → List ℕ
length_line n = codes "length " ++ decimal n ++ 10 ∷ []

-- a page is refused by a rule, at a byte
abbrev pub refused_line : Rule → ℕ → List ℕ
refused_line rule at = codes "page refused: " ++ name_of rule ++ codes " at " ++ decimal at ++ 10 ∷ []

-- the JSON of a tree is refused by this fault, at an event, with so many open elements, or by a rule of settled trees
abbrev pub json_line : JsonFault → List ℕ
json_line json_faults.TooLong = codes "json refused: TooLong" ++ 10 ∷ []
json_line json_faults.NotJson = codes "json refused: NotJson" ++ 10 ∷ []
json_line json_faults.NotArray = codes "json refused: NotArray" ++ 10 ∷ []
json_line (json_faults.BadEvent event) = codes "json refused: BadEvent event " ++ decimal event ++ 10 ∷ []
json_line (json_faults.Open count) = codes "json refused: Open open " ++ decimal count ++ 10 ∷ []
json_line (json_faults.NotSettled event point) = codes "json refused: NotSettled event " ++ decimal event ++ codes " point " ++ decimal point ++ 10 ∷ []
json_line json_faults.OutOfMemory = codes "json refused: Memory" ++ 10 ∷ []

-- a key or a number after the name of a fault
abbrev pub fault_about : TableFault → List ℕ
fault_about (faults.BadName key) = 32 ∷ key
fault_about (faults.BadPoints key) = 32 ∷ key
fault_about (faults.TooManyFor point) = 32 ∷ decimal point
fault_about (faults.Lone key) = 32 ∷ key
fault_about fault = []

-- ---- check

-- the text is shown to be the shortest, with `n` bytes
abbrev pub yes_line : ℕ → List ℕ
yes_line n = codes "yes " ++ decimal n ++ 10 ∷ []

abbrev pub too_long_line : List ℕ
too_long_line = codes "no 0 certificate too long" ++ 10 ∷ []

-- a line of the certificate is bad
abbrev pub bad_line_line : ℕ → List ℕ
bad_line_line n = codes "no 0 certificate line " ++ decimal n ++ 10 ∷ []

-- a price or a bound; `-` where there is none
abbrev pub price_word : Option ℕ → List ℕ
price_word None = codes "-"
price_word (Some n) = decimal n

-- the first condition that fails
abbrev pub why_line : Why → List ℕ
why_line whys.RulesDiffer = codes "no 1 rules differ" ++ 10 ∷ []
why_line (whys.OutRefused rule at) = codes "no 2 output refused: " ++ name_of rule ++ codes " at " ++ decimal at ++ 10 ∷ []
why_line (whys.TreesDiffer event) = codes "no 3 trees differ at event " ++ decimal event ++ 10 ∷ []
why_line (whys.WrongLayers got want) = codes "no 4 layers " ++ decimal got ++ codes ", wanted " ++ decimal want ++ 10 ∷ []
why_line (whys.WrongWidth layer got want) = codes "no 5 layer " ++ decimal layer ++ codes ": prices " ++ decimal got ++ codes ", wanted " ++ decimal want ++ 10 ∷ []
why_line (whys.TooHigh layer state price bound) = codes "no 6 layer " ++ decimal layer ++ codes " state " ++ decimal state ++ codes ": price " ++ price_word price ++ codes " above " ++ price_word bound ++ 10 ∷ []
why_line (whys.TooLong length first) = codes "no 7 output " ++ decimal length ++ codes " bytes, first price " ++ decimal first ++ 10 ∷ []

-- ---- measure

-- a page of `page` bytes was written shortest in `out`, over `layers` layers, and the check said yes
abbrev pub measured_line : ℕ → ℕ → ℕ → List ℕ
measured_line page out layers = codes "page " ++ decimal page ++ codes " output " ++ decimal out ++ codes " layers " ++ decimal layers ++ codes " yes\n"

-- ---- notices

-- what the program says of itself
abbrev pub notice_text : Notice → List ℕ
notice_text Help = HELP.now
notice_text Version = VERSION.now

-- ---- tables and the rest

-- a table is refused for this fault
abbrev pub table_line : TableFault → List ℕ
table_line fault = codes "table refused: " ++ fault_name fault ++ fault_about fault ++ 10 ∷ []

abbrev pub usage_line : List ℕ
usage_line = codes "usage: hminify minify, check, fragment, checkfragment or minifyjson TABLE PAGE OUT CERT, tree, json or explain TABLE PAGE, measure TABLE NUMBER SIZE, help, version" ++ 10 ∷ []

abbrev pub store_line : List ℕ
store_line = codes "store fault" ++ 10 ∷ []
