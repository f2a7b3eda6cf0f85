-- The steps by which the next token is found.
use Rattle.std.specs.Prelude.{◌≡◌, ℕ, ◌-◌, ◌≤◌, Bool, true, false, ◌&&◌, ◌==◌, List, ◌∷◌, drop, Option, Some, None, IfSome, MatchOption, Result, Ok, Err, IsCharBoundary, if◌then◌else◌}
use Rattle.hm_base.specs.Bytes.{is_null}
use Rattle.hm_base.specs.RawText.{raw_end, script_end}
use Rattle.hm_base.specs.declared.rules.Refused.{Refused}
use Rattle.hm_base.specs.declared.rules.Refused.TheVariants as answers
use Rattle.hm_refs.specs.Names.{Entry}
use Rattle.hm_scan.specs.Reading.{begins_tag}
use Rattle.hm_tree.specs.Lexemes.{token_of}
use Rattle.hm_tree.specs.Tokens.{Scanned}
use Rattle.hm_tree.specs.declared.tokens.Lexeme.{Lexeme}
use Rattle.hm_tree.specs.declared.tokens.ScanFault.{ScanFault}
use Rattle.hm_tree.specs.declared.tokens.ScanFault.TheVariants as faults
use Rattle.hm_tree.specs.declared.tokens.Tag.{Tag}
use Rattle.hm_tree.specs.declared.tokens.Token.{Token}
use Rattle.hm_token_laws.specs.First.{Mode, ordinary, in_svg, rcdata, raw, script, Next, at_end, after_bytes, Remainder, after_empty_tags, nothing_skipped, read_here, read_inside, read_references, read_nothing, rule_of}
use Rattle.hm_lexer.specs.Modes.{rcdata_name}
use Rattle.hm_lexer.specs.declared.lexer.TextEnd.{TextEnd}

-- ---- what stands for nothing before a token

-- `</>` stands first
abbrev pub begins_empty_tag : List ℕ → Bool
begins_empty_tag (a ∷ b ∷ c ∷ s) = a == 60 && (b == 47 && c == 62)
begins_empty_tag s = false

-- the bytes after what stands for nothing, and how many bytes that takes: only ordinary text has such bytes
abbrev pub after_nothing : Mode → List ℕ → Remainder
after_nothing ordinary s = after_empty_tags s
after_nothing in_svg s = after_empty_tags s
after_nothing (rcdata name) s = nothing_skipped s
after_nothing (raw name) s = nothing_skipped s
after_nothing script s = nothing_skipped s

-- start tags are read, and what stands for nothing may come first
abbrev pub has_markup : Mode → Bool
has_markup ordinary = true
has_markup in_svg = true
has_markup (rcdata name) = false
has_markup (raw name) = false
has_markup script = false

-- what stands for nothing comes first
abbrev pub begins_nothing : Mode → List ℕ → Bool
begins_nothing ordinary s = begins_empty_tag s
begins_nothing in_svg s = begins_empty_tag s
begins_nothing (rcdata name) s = false
begins_nothing (raw name) s = false
begins_nothing script s = false

-- after it another place of the text begins
pub record IsAfterNothing (mode : Mode) (s : List ℕ) (at to : ℕ) : Type 0 where
  pub is : after_nothing mode (drop at s) ≡ record { count = to - at; rest = drop to s }
  pub forward : at ≤ to
  pub boundary : IsCharBoundary s to
  pub real : begins_nothing mode (drop to s) ≡ false

-- ---- what is read there

-- what is read of a piece of an element's text: whether references are
abbrev pub read_piece : Bool → List Entry → List ℕ → List ℕ → Scanned
read_piece true t s rest = read_references t s rest
read_piece false t s rest = read_nothing s rest

-- what was read, with the name and the attributes of a tag from their place
abbrev pub read_with : Result (Lexeme × ℕ) ScanFault → Tag → Result (Token × ℕ) ScanFault
read_with (Ok r) tag = Ok (token_of r.0 tag, r.1)
read_with (Err fault) tag = Err fault

abbrev pub read_in : List Entry → Mode → List ℕ → Scanned
read_in t ordinary s = read_here t false s
read_in t in_svg s = read_here t true s
read_in t (rcdata name) s = read_inside t s (raw_end name s) (read_piece true t)
read_in t (raw name) s = read_inside t s (raw_end name s) (read_piece false t)
read_in t script s = read_inside t s (script_end s) (read_piece false t)

abbrev pub next_after : List Entry → Mode → Remainder → Next
next_after t mode k = if is_null k.rest then at_end else after_bytes k.count (read_in t mode k.rest)

-- ---- the end of an element's text

-- An element's text ends at a place of the text, where its end tag begins; it was found counted from another place on.
pub record IsEndAt (found : Option ℕ) (s : List ℕ) (at to : ℕ) : Type 0 where
  pub is : found ≡ Some (to - at)
  pub forward : at ≤ to
  pub boundary : IsCharBoundary s to
  pub tag : begins_tag (drop to s) ≡ true

abbrev pub Ends : Option ℕ → List ℕ → ℕ → Option ℕ → Type 0
Ends found s at place = MatchOption place (found ≡ None) (IsEndAt found s at)

-- ---- what a lexer keeps

-- A character begins at the place, and the end of the text of title or textarea that is kept is that from there on.
pub record IsLexer (s : List ℕ) (at : ℕ) (kept : Option TextEnd) : Type 0 where
  pub boundary : IsCharBoundary s at
  pub end : IfSome kept (λ e. IsEndAt (raw_end (rcdata_name e.name) (drop at s)) s at e.place)

-- ---- the refusal that a fault gives

abbrev pub refusal_of : ScanFault → ℕ → Refused
refusal_of faults.Cut place = answers.Page (rule_of faults.Cut) place
refusal_of faults.BadName place = answers.Page (rule_of faults.BadName) place
refusal_of faults.TooManyAttributes place = answers.Page (rule_of faults.TooManyAttributes) place
refusal_of faults.BadDoctype place = answers.Page (rule_of faults.BadDoctype) place
refusal_of faults.OutOfMemory place = answers.OutOfMemory
