-- Which token of a text that goes on is decided by the bytes that are there, and which piece of the text it is.
use Rattle.std.specs.Prelude.{ℕ, Bool, true, false, not, ◌&&◌, ◌||◌, ◌==◌, List, [], ◌∷◌, length, drop, Option, Some, None, if◌then◌else◌}
use Rattle.hm_base.specs.Bytes.{is_alnum, is_null, some_passes}
use Rattle.hm_refs.specs.Names.{Entry}
use Rattle.hm_refs.specs.References.{Reference}
use Rattle.hm_scan.specs.Texts.{begins_markup, reference_in, ends_plain}
use Rattle.hm_tree.specs.Tokens.{Scanned, taken, refused, slice, points}
use Rattle.hm_tree.specs.declared.tokens.ScanFault.TheVariants as faults
use Rattle.hm_token_laws.specs.First.{Mode, ordinary, in_svg, rcdata, raw, script, read_markup, read_here, Remainder, after_empty_tags, Next, at_end, after_bytes, first}

-- ---- what is ready

-- a byte after '&' at which a reference ends, or none is
abbrev pub ends_reference : ℕ → Bool
ends_reference c = not (is_alnum c || c == 35)

-- the token's end is missing
abbrev pub is_cut : Scanned → Bool
is_cut (taken token rest) = false
is_cut (refused faults.Cut) = true
is_cut (refused fault) = false

-- what stands after '<' tells whether markup begins: not where nothing does, or '/' alone
abbrev pub tells_markup : List ℕ → Bool
tells_markup [] = false
tells_markup (c ∷ []) = not (c == 47)
tells_markup (c ∷ d ∷ s) = true

-- what stands after this byte tells whether markup or a reference begins with it
abbrev pub is_told : ℕ → List ℕ → Bool
is_told c s = if c == 60 then tells_markup s else if c == 38 then some_passes ends_reference s else true

-- ordinary text, after `</>`
abbrev pub here_ready : List Entry → Bool → List ℕ → Bool
here_ready t foreign [] = false
here_ready t foreign (c ∷ s) = is_told c s && not (is_cut (read_here t foreign (c ∷ s)))

abbrev pub next_ready : Next → Bool
next_ready at_end = false
next_ready (after_bytes n read) = not (is_cut read)

-- The token at the front of these bytes is the same, whatever follows; of a text that may be longer, a piece is.
unfoldable pub ready : List Entry → Mode → List ℕ → Bool
ready t ordinary s = here_ready t false (after_empty_tags s).rest
ready t in_svg s = here_ready t true (after_empty_tags s).rest
ready t (rcdata name) s = next_ready (first t (rcdata name) s)
ready t (raw name) s = next_ready (first t (raw name) s)
ready t script s = next_ready (first t script s)

-- ---- the piece that is taken

-- the longest front whose bytes stand for themselves, whatever follows
abbrev pub plain_piece : List Entry → List ℕ → List ℕ
plain_piece t [] = []
plain_piece t (c ∷ s) = if is_told c s && not (ends_plain t false c s) then c ∷ plain_piece t s else []

-- a reference, or the text that begins with c
abbrev pub piece_by : Option Reference → List Entry → ℕ → List ℕ → Scanned
piece_by None t c s = taken (slice (c ∷ plain_piece t s)) (drop (length (plain_piece t s)) s)
piece_by (Some r) t c s = taken (points r.points) (drop r.len (c ∷ s))

abbrev pub text_part : List Entry → List ℕ → Scanned
text_part t [] = taken (slice []) []
text_part t (c ∷ s) = piece_by (reference_in t c s) t c s

abbrev pub here_part : List Entry → Bool → List ℕ → Scanned
here_part t foreign s = if begins_markup s then read_markup t foreign s else text_part t s

abbrev pub part_after : List Entry → Bool → Remainder → Next
part_after t foreign k = if is_null k.rest then at_end else after_bytes k.count (here_part t foreign k.rest)

-- The next token; of ordinary text as much of it as is decided.
unfoldable pub part : List Entry → Mode → List ℕ → Next
part t ordinary s = part_after t false (after_empty_tags s)
part t in_svg s = part_after t true (after_empty_tags s)
part t (rcdata name) s = first t (rcdata name) s
part t (raw name) s = first t (raw name) s
part t script s = first t script s
