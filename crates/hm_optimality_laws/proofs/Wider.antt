-- A spelling in which references begin at some characters alone is one in which they may begin everywhere.
use Rattle.std.proofs.Common.{◌≡◌, ℕ, Bool, true, false, List, [], ◌∷◌, ◌++◌, refl}
use Rattle.hm_base.specs.Bytes.{head_is}
use Rattle.hm_base.specs.Walks.{Attribute, Event, doctype, start, text, comment, end, Element}
use Rattle.hm_elements.specs.Paths.{outer}
use Rattle.hm_markup_spec.specs.Tags.{Quoting, bare, unquoted, double, single, WritesAttributes}
use Rattle.hm_refs.specs.Names.{Entry}
use Rattle.hm_spelling_spec.specs.Characters as spots
use Rattle.hm_spelling_spec.specs.Characters.{AreAllowed, CharacterRules, IsAllowed, itself, Piece, reference_to, section, spelled, SpellsPoints, Spot}
use Rattle.hm_spelling_spec.specs.Spellings as forms
use Rattle.hm_spelling_spec.specs.Spellings.{Before, after_end, after_start, EndForm, EndSp, everywhere, other, SpellsFrom, StartForm, StartSp, TextSp}
use Rattle.hm_spelling_spec.specs.Tags.{character_rules, Spelling, SpellsStart, SpellsValue}

-- the same with references everywhere
abbrev pub widened : Spelling → Spelling
widened g = record { table = g.table; rules = g.rules; refers = everywhere }

-- ---- characters

abbrev wide_rules : CharacterRules → CharacterRules
wide_rules rules = record { ascii = rules.ascii; refers = everywhere }

begins : (p : ℕ → Bool) (qs : List ℕ) → head_is p qs ≡ true → head_is everywhere qs ≡ true
begins p [] h = absurd (cc)
begins p (c ∷ qs) h = refl

piece_wider : (t : List Entry) (rules : CharacterRules) (spot : Spot) (q : Piece) (after : List ℕ) → IsAllowed t rules spot q after → IsAllowed t (wide_rules rules) spot q after
piece_wider t rules spot (itself c) after a = a
piece_wider t rules spot (reference_to b qs) after (h, read) = (begins rules.refers qs h, read)
piece_wider t rules spot (section cs) after a = a

pieces_wider : (t : List Entry) (rules : CharacterRules) (spot : Spot) (ps : List Piece) (after : List ℕ) → AreAllowed t rules spot ps after → AreAllowed t (wide_rules rules) spot ps after
pieces_wider t rules spot [] after a = tt
pieces_wider t rules spot (p ∷ ps) after (a, more) = (piece_wider t rules spot p (spelled ps ++ after) a, pieces_wider t rules spot ps after more)

points_wider : (t : List Entry) (rules : CharacterRules) (spot : Spot) (cs b after : List ℕ) → SpellsPoints t rules spot cs b after → SpellsPoints t (wide_rules rules) spot cs b after
points_wider t rules spot cs b after s = record { pieces = s.pieces; whole = s.whole; means = s.means; allowed = pieces_wider t rules spot s.pieces after s.allowed }

-- ---- tags

module _ (g : Spelling) where
  value_wider : (form : Quoting) (value b after : List ℕ) → SpellsValue g form value b after → SpellsValue (widened g) form value b after
  value_wider bare value b after v = v
  value_wider unquoted value b after v = record { written = v.written; is = v.is; allowed = v.allowed; some = v.some; spells = points_wider g.table (character_rules g) spots.unquoted _ v.written after v.spells }
  value_wider double value b after v = record { written = v.written; is = v.is; spells = points_wider g.table (character_rules g) spots.double _ v.written (34 ∷ after) v.spells }
  value_wider single value b after v = record { written = v.written; is = v.is; spells = points_wider g.table (character_rules g) spots.single _ v.written (39 ∷ after) v.spells }

  attributes_wider : (touching : Bool) (before last : Quoting) (attributes : List Attribute) (b after : List ℕ) → WritesAttributes (SpellsValue g) touching before last attributes b after → WritesAttributes (SpellsValue (widened g)) touching before last attributes b after
  attributes_wider touching before last [] b after w = w
  attributes_wider touching before last (a ∷ attributes) b after (form, piece, rest, is, one, more) =
      (form, piece, rest, is, record { gap = one.gap; name = one.name; value = one.value; is = one.is; apart = one.apart; lowered = one.lowered; assigned = value_wider form a.value one.value (rest ++ after) one.assigned }, attributes_wider touching form last attributes rest after more)

  tag_wider : (n : List ℕ) (attributes : List Attribute) (slash : Bool) (b after : List ℕ) → SpellsStart g n attributes slash b after → SpellsStart (widened g) n attributes slash b after
  tag_wider n attributes slash b after s = record {
    written = s.written;
    last = s.last;
    middle = s.middle;
    gap = s.gap;
    is = s.is;
    lowered = s.lowered;
    attributed = attributes_wider g.rules.tight bare s.last attributes s.middle _ s.attributed;
    apart = s.apart;
  }

  -- ---- events

  text_wider : (before : Before) (path : List Element) (s : List ℕ) (raw : Bool) (b after : List ℕ) → TextSp g before path s raw b after → TextSp (widened g) before path s raw b after
  text_wider before path s true b after t = t
  text_wider before path s false b after t = points_wider g.table (character_rules g) _ _ b after t

  start_wider : (before : Before) (n : List ℕ) (foreign : Bool) (attributes : List Attribute) (w : List Event) (form : StartForm) (b after : List ℕ) → StartSp g before n foreign attributes w form b after → StartSp (widened g) before n foreign attributes w form b after
  start_wider before n foreign attributes w forms.omitted b after s = s
  start_wider before n foreign attributes w forms.written b after s = tag_wider n attributes false b after s
  start_wider before n foreign attributes w forms.slashed b after (may, s) = (may, tag_wider n attributes true b after s)

  end_wider : (before : Before) (n : List ℕ) (foreign : Bool) (path : List Element) (w : List Event) (form : EndForm) (b : List ℕ) → EndSp g before n foreign path w form b → EndSp (widened g) before n foreign path w form b
  end_wider before n foreign path w forms.absent b e = e
  end_wider before n foreign path w forms.omitted b e = e
  end_wider before n foreign path w forms.written b e = e

  pub wider : (w : List Event) (before : Before) (path : List Element) (b : List ℕ) → SpellsFrom g before path w b → SpellsFrom (widened g) before path w b
  wider [] before path b is = is
  wider (doctype legacy ∷ w) before path b (piece, rest, is, d, more) = (piece, rest, is, d, wider w other path rest more)
  wider (comment s ∷ w) before path b (rest, is, more) = (rest, is, wider w other path rest more)
  wider (text s raw ∷ w) before path b (piece, rest, is, t, more) = (piece, rest, is, text_wider before path s raw piece rest t, wider w other path rest more)
  wider (start n foreign attributes ∷ w) before path b (form, piece, rest, is, s, more) =
      (form, piece, rest, is, start_wider before n foreign attributes w form piece rest s, wider w (after_start foreign form) (record { name = n; foreign = foreign } ∷ path) rest more)
  wider (end n foreign ∷ w) before path b (form, piece, rest, is, e, more) = (form, piece, rest, is, end_wider before n foreign (outer path) w form piece e, wider w (after_end n form) (outer path) rest more)
