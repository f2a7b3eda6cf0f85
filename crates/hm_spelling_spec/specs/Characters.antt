-- How the characters of a text or of an attribute's value may be spelled (HTML Standard, #attributes-2,
-- #cdata-rcdata-restrictions, #text-2 and #syntax-charref). Each stands as itself or is a character reference, and in an
-- element of SVG it may also stand in a CDATA section.
use Rattle.std.specs.Prelude.{◌≡◌, ℕ, Bool, true, false, not, ◌&&◌, ◌||◌, ◌==◌, nat_lt, List, [], ◌∷◌, ◌++◌, length, Some, is_none, if◌then◌else◌, codes, encode_utf8, encode_utf8_all, chars}
use Rattle.hm_base.specs.Bytes.{is_space, is_letter, head_is, all_pass, is_null}
use Rattle.hm_base.specs.Forms.{has_mark}
use Rattle.hm_refs.specs.Names.{Entry}
use Rattle.hm_refs.specs.Numbers.{best_number}
use Rattle.hm_refs.specs.References.{reference}

-- where characters are spelled: in ordinary text, in title or textarea, in an element of SVG, in a value without quotes,
-- in double or in single quotes
pub data Spot : Type 0 where
  text : Spot
  rcdata : Spot
  foreign : Spot
  unquoted : Spot
  double : Spot
  single : Spot

abbrev pub is_value : Spot → Bool
is_value text = false
is_value rcdata = false
is_value foreign = false
is_value unquoted = true
is_value double = true
is_value single = true

abbrev pub is_foreign : Spot → Bool
is_foreign foreign = true
is_foreign spot = false

-- ---- A character as itself

-- what may not follow a '<' that stands as itself in text
unfoldable pub opens_text : ℕ → Bool
opens_text c = is_letter c || (c == 33 || (c == 47 || c == 63))

abbrev pub opens : Spot → ℕ → Bool
opens text c = opens_text c
opens rcdata c = c == 47
opens foreign c = opens_text c
opens unquoted c = false
opens double c = false
opens single c = false

-- what may not stand in a value without quotes: whitespace, quotes, '=', '<', '>' and the grave accent
unfoldable pub is_barred : ℕ → Bool
is_barred c = is_space c || (c == 34 || (c == 39 || (c == 61 || (c == 60 || (c == 62 || c == 96)))))

abbrev pub may_stand_in : Spot → ℕ → Bool
may_stand_in text c = true
may_stand_in rcdata c = true
may_stand_in foreign c = true
may_stand_in unquoted c = not (is_barred c)
may_stand_in double c = not (c == 34)
may_stand_in single c = not (c == 39)

-- it is no CR, and under the rule `ascii` it is below U+0080 or has no numeric reference
unfoldable pub is_writable : Bool → ℕ → Bool
is_writable ascii c = not (c == 13) && (not ascii || (nat_lt c 128 || is_none (best_number c)))

-- whether c may stand as itself, as far as c alone decides
unfoldable pub may_stand : Bool → Spot → ℕ → Bool
may_stand ascii spot c = is_writable ascii c && may_stand_in spot c

-- whether c is read as itself before these bytes: '&' begins no reference there, and '<' no markup
unfoldable pub stays : List Entry → Spot → ℕ → List ℕ → Bool
stays t spot c s =
    if c == 38 then is_none (reference t (is_value spot) (38 ∷ s))
    else if c == 60 then not (head_is (opens spot) s)
    else true

-- ---- Pieces

-- A piece of a spelled text: a character as itself, a reference or a CDATA section. A reference has its bytes, and the one
-- or two code points that it gives; a section has its code points.
pub data Piece : Type 0 where
  itself : ℕ → Piece
  reference_to : List ℕ → List ℕ → Piece
  section : List ℕ → Piece

abbrev pub piece_bytes : Piece → List ℕ
piece_bytes (itself c) = encode_utf8 c
piece_bytes (reference_to b qs) = b
piece_bytes (section cs) = codes "<![CDATA[" ++ (encode_utf8_all cs ++ codes "]]>")

abbrev pub piece_points : Piece → List ℕ
piece_points (itself c) = c ∷ []
piece_points (reference_to b qs) = qs
piece_points (section cs) = cs

-- the bytes of pieces, and the code points that they stand for
abbrev pub spelled : List Piece → List ℕ
spelled [] = []
spelled (p ∷ ps) = piece_bytes p ++ spelled ps

abbrev pub meant : List Piece → List ℕ
meant [] = []
meant (p ∷ ps) = piece_points p ++ meant ps

-- code points that may stand in a section: at least one, each of them as itself, and no `]]>`
unfoldable pub is_section : Bool → List ℕ → Bool
is_section ascii cs = not (is_null cs) && (all_pass (is_writable ascii) cs && not (has_mark (codes "]]>") cs))

-- whether the rule `ascii` holds, and at which characters a reference may begin
pub record CharacterRules : Type 0 where
  pub ascii : Bool
  pub refers : ℕ → Bool

-- The piece is allowed before what follows it. A character is written as itself if it is read as itself; a reference is
-- allowed if it is read as these code points and has these bytes.
abbrev pub IsAllowed : List Entry → CharacterRules → Spot → Piece → List ℕ → Type 0
IsAllowed t rules spot (itself c) after = (may_stand rules.ascii spot c ≡ true) × (stays t spot c after ≡ true)
IsAllowed t rules spot (reference_to b qs) after =
    (head_is rules.refers qs ≡ true) × (reference t (is_value spot) (b ++ after) ≡ Some (record { points = qs; len = length b }))
IsAllowed t rules spot (section cs) after = (is_foreign spot ≡ true) × (is_section rules.ascii cs ≡ true)

-- each piece is allowed before the pieces after it and what follows them all
abbrev pub AreAllowed : List Entry → CharacterRules → Spot → List Piece → List ℕ → Type 0
AreAllowed t rules spot [] after = Unit {0}
AreAllowed t rules spot (p ∷ ps) after = IsAllowed t rules spot p (spelled ps ++ after) × AreAllowed t rules spot ps after

-- ---- Texts

-- b spells these code points, where `after` follows b
pub record SpellsPoints (t : List Entry) (rules : CharacterRules) (spot : Spot) (cs b after : List ℕ) : Type 0 where
  pub pieces : List Piece
  pub whole : spelled pieces ≡ b
  pub means : meant pieces ≡ cs
  pub allowed : AreAllowed t rules spot pieces after

-- b spells the characters of a text of the tree, which is UTF-8, where `after` follows b
abbrev pub SpellsText : List Entry → CharacterRules → Spot → List ℕ → List ℕ → List ℕ → Type 0
SpellsText t rules spot s b after = SpellsPoints t rules spot (chars s) b after
