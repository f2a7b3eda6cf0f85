-- The next token of the rest of a text (HTML Standard, #tokenization), by cuts of that rest.
use Rattle.std.specs.Prelude.{ℕ, zero, suc, ◌+◌, Bool, true, false, ◌&&◌, ◌==◌, List, ◌∷◌, ◌++◌, take, drop, Option, Some, None, if◌then◌else◌}
use Rattle.hm_base.specs.Bytes.{is_null}
use Rattle.hm_base.specs.RawText.{raw_end, script_end}
use Rattle.hm_base.specs.declared.rules.Rule.{Rule}
use Rattle.hm_base.specs.declared.rules.Rule.TheVariants as rules
use Rattle.hm_refs.specs.Names.{Entry}
use Rattle.hm_tree.specs.Tokens.{Scanned, taken, refused, slice}
use Rattle.hm_tree.specs.declared.tokens.ScanFault.{ScanFault}
use Rattle.hm_tree.specs.declared.tokens.ScanFault.TheVariants as faults
use Rattle.hm_scan.specs.Reading.{read_tag, begins_tag}
use Rattle.hm_scan.specs.Texts.{begins_markup, read_text}
use Rattle.hm_scan.specs.Comments.{read_comment, begins_cdata, read_cdata}
use Rattle.hm_scan.specs.Doctypes.{begins_doctype, read_doctype}

-- What kind of text is read: ordinary text, text in an element of SVG, or the text of one element. That element is title or
-- textarea, style or iframe, or script.
pub data Mode : Type 0 where
  ordinary : Mode
  in_svg : Mode
  rcdata : List ℕ → Mode  -- the element's name
  raw : List ℕ → Mode  -- the element's name
  script : Mode

-- the end, or a token or a fault after a number of bytes that stand for nothing
pub data Next : Type 0 where
  at_end : Next
  after_bytes : ℕ → Scanned → Next

-- ---- ordinary text

-- where markup begins, other than `</>`
abbrev pub read_markup : List Entry → Bool → List ℕ → Scanned
read_markup t foreign s =
    if begins_tag s then read_tag t s
    else if begins_doctype s then read_doctype s
    else if foreign && begins_cdata s then read_cdata s
    else read_comment s

abbrev pub read_here : List Entry → Bool → List ℕ → Scanned
read_here t foreign s = if begins_markup s then read_markup t foreign s else read_text t false s

-- what follows `</>`, once or repeated, at the start of a text; and how many bytes are skipped
pub record Remainder : Type 0 where
  pub count : ℕ
  pub rest : List ℕ

abbrev pub three_more : Remainder → Remainder
three_more k = record { count = 3 + k.count; rest = k.rest }

abbrev pub nothing_skipped : List ℕ → Remainder
nothing_skipped s = record { count = 0; rest = s }

-- `</>` stands for nothing
abbrev pub after_empty_tags : List ℕ → Remainder
after_empty_tags (a ∷ b ∷ c ∷ s) = if a == 60 && (b == 47 && c == 62) then three_more (after_empty_tags s) else nothing_skipped (a ∷ b ∷ c ∷ s)
after_empty_tags s = nothing_skipped s

abbrev pub next_here : List Entry → Bool → Remainder → Next
next_here t foreign k = if is_null k.rest then at_end else after_bytes k.count (read_here t foreign k.rest)

-- ---- the text of one element, up to its end tag

-- a piece of a text in which nothing but references is read, followed by what follows the whole text
abbrev pub before_rest : Scanned → List ℕ → Scanned
before_rest (taken token s) rest = taken token (s ++ rest)
before_rest (refused fault) rest = refused fault

-- the Option gives the number of bytes before the end tag, and more reads the text before it
abbrev pub read_inside : List Entry → List ℕ → Option ℕ → (List ℕ → List ℕ → Scanned) → Scanned
read_inside t s None more = refused faults.Cut
read_inside t s (Some zero) more = read_tag t s
read_inside t s (Some (suc n)) more = more (take (suc n) s) (drop (suc n) s)

abbrev pub read_references : List Entry → List ℕ → List ℕ → Scanned
read_references t s rest = before_rest (read_text t true s) rest

abbrev pub read_nothing : List ℕ → List ℕ → Scanned
read_nothing s rest = taken (slice s) rest

abbrev pub unless_end : List ℕ → Scanned → Next
unless_end s read = if is_null s then at_end else after_bytes 0 read

-- ---- the next token

unfoldable pub first : List Entry → Mode → List ℕ → Next
first t ordinary s = next_here t false (after_empty_tags s)
first t in_svg s = next_here t true (after_empty_tags s)
first t (rcdata name) s = unless_end s (read_inside t s (raw_end name s) (read_references t))
first t (raw name) s = unless_end s (read_inside t s (raw_end name s) read_nothing)
first t script s = unless_end s (read_inside t s (script_end s) read_nothing)

-- ---- The rule of a fault

-- the rule of a fault of a scan (too little memory is no fault of a text)
abbrev pub rule_of : ScanFault → Rule
rule_of faults.Cut = rules.Cut
rule_of faults.BadName = rules.BadName
rule_of faults.TooManyAttributes = rules.TooManyAttributes
rule_of faults.BadDoctype = rules.BadDoctype
rule_of faults.OutOfMemory = rules.Cut
