-- A value that is spelled before the byte that ends it is read back.
use Rattle.std.proofs.Common.{◌≡◌, ℕ, Bool, true, List, ◌∷◌, ap, sym, subst, ◌∙◌, chars, encode_utf8_all}
use Rattle.std.specs.Str.{is_utf8}
use Rattle.std.proofs.lemmas.Str.{encodes-chars, IsUtf8-from_is_utf8}
use Rattle.hm_base.specs.Bytes.{all_pass}
use Rattle.hm_refs.specs.Names.{Entry}
use Rattle.hm_refs.specs.Tables.{IsTable}
use Rattle.hm_scan.specs.Tags.{is_inside}
use Rattle.hm_scan.specs.Values.{read_value}
use Rattle.hm_spelling_spec.specs.Characters.{Spot, text, rcdata, foreign, unquoted, double, single, CharacterRules, SpellsPoints, SpellsText}
use Rattle.hm_round_trip_laws.specs.Values.{closes, IsWithin, SpelledValuesAreRead}
use Rattle.hm_round_trip_laws.proofs.ValueReads.{pieces_read}
use Rattle.hm_round_trip_laws.proofs.ValueBytes.{is_bare, bare_allows, double_allows, single_allows, all_unquoted, closes_cuts, closes_value}
use Rattle.hm_round_trip_laws.proofs.Within.{Allows, all_within}

pub within_by : (t : List Entry) (rules : CharacterRules) (spot : Spot) (p : ℕ → Bool) (cs b after : List ℕ) → IsTable t → Allows p rules.ascii spot → SpellsPoints t rules spot cs b after → all_pass p b ≡ true
within_by t rules spot p cs b after k a s = subst (λ x. all_pass p x ≡ true) s.whole (all_within t rules spot p s.pieces after k a s.allowed)

pub bytes_back : (value : List ℕ) → is_utf8 value ≡ true → encode_utf8_all (chars value) ≡ value
bytes_back value u = encodes-chars value (IsUtf8-from_is_utf8 value u)

pub value_read : (t : List Entry) (rules : CharacterRules) (spot : Spot) (value b : List ℕ) (d : ℕ) (y : List ℕ) → IsTable t → is_utf8 value ≡ true → closes spot d ≡ true → SpellsText t rules spot value b (d ∷ y) → read_value t b ≡ value
value_read t rules spot value b d y k u h s =
    ap (read_value t) (sym s.whole) ∙ pieces_read t k rules spot (closes_value spot d h) d y (closes_cuts spot d h) s.pieces s.allowed ∙ ap encode_utf8_all s.means ∙ bytes_back value u

pub value_within : (t : List Entry) (rules : CharacterRules) (spot : Spot) (cs b after : List ℕ) → IsTable t → SpellsPoints t rules spot cs b after → IsWithin spot b
value_within t rules text cs b after k s = tt
value_within t rules rcdata cs b after k s = tt
value_within t rules foreign cs b after k s = tt
value_within t rules unquoted cs b after k s = all_unquoted b (within_by t rules unquoted is_bare cs b after k (bare_allows rules.ascii) s)
value_within t rules double cs b after k s = within_by t rules double (is_inside 34) cs b after k (double_allows rules.ascii) s
value_within t rules single cs b after k s = within_by t rules single (is_inside 39) cs b after k (single_allows rules.ascii) s

pub spelled_values_are_read : SpelledValuesAreRead
spelled_values_are_read t rules spot value b d y k u h s = (value_within t rules spot (chars value) b (d ∷ y) k s, value_read t rules spot value b d y k u h s)
