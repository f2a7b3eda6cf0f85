-- The number and the printed name of each rule.
use Rattle.std.specs.Prelude.{ℕ, List, codes}
use Rattle.hm_base.specs.declared.rules.Rule.{Rule}
use Rattle.hm_base.specs.declared.rules.Rule.TheVariants.{TooLong, NotUtf8, Nul, Cut, BadName, TooManyAttributes, BadDoctype, NoDoctype, SecondDoctype, RefusedName, SecondRoot, StrayEnd, NotCurrent, BlockInParagraph, Nested, WrongParent, TextHere, AfterHead, AfterBody, Unclosed, TooDeep, ForeignName, FrameEnd}

abbrev pub number_of : Rule → ℕ
number_of TooLong = 1
number_of NotUtf8 = 2
number_of Nul = 3
number_of Cut = 4
number_of BadName = 5
number_of TooManyAttributes = 6
number_of BadDoctype = 7
number_of NoDoctype = 8
number_of SecondDoctype = 9
number_of RefusedName = 10
number_of SecondRoot = 11
number_of StrayEnd = 12
number_of NotCurrent = 13
number_of BlockInParagraph = 14
number_of Nested = 15
number_of WrongParent = 16
number_of TextHere = 17
number_of AfterHead = 18
number_of AfterBody = 19
number_of Unclosed = 20
number_of TooDeep = 21
number_of ForeignName = 22
number_of FrameEnd = 23

abbrev pub name_of : Rule → List ℕ
name_of TooLong = codes "TooLong"
name_of NotUtf8 = codes "NotUtf8"
name_of Nul = codes "Nul"
name_of Cut = codes "Cut"
name_of BadName = codes "BadName"
name_of TooManyAttributes = codes "TooManyAttributes"
name_of BadDoctype = codes "BadDoctype"
name_of NoDoctype = codes "NoDoctype"
name_of SecondDoctype = codes "SecondDoctype"
name_of RefusedName = codes "RefusedName"
name_of SecondRoot = codes "SecondRoot"
name_of StrayEnd = codes "StrayEnd"
name_of NotCurrent = codes "NotCurrent"
name_of BlockInParagraph = codes "BlockInParagraph"
name_of Nested = codes "Nested"
name_of WrongParent = codes "WrongParent"
name_of TextHere = codes "TextHere"
name_of AfterHead = codes "AfterHead"
name_of AfterBody = codes "AfterBody"
name_of Unclosed = codes "Unclosed"
name_of TooDeep = codes "TooDeep"
name_of ForeignName = codes "ForeignName"
name_of FrameEnd = codes "FrameEnd"
