-- Spelled texts and values hold no CR, and values are spelled so with other line ends after them too.
use Rattle.std.proofs.Common.{◌≡◌, ℕ, Bool, true, false, not, ◌==◌, List, [], ◌∷◌, ◌++◌, refl, sym, subst, arith, chars}
use Rattle.std.specs.Str.{is_utf8}
use Rattle.std.proofs.lemmas.Bool.{and_parts, and_from}
use Rattle.hm_base.specs.Bytes.{all_pass, head_is, is_space, is_alnum, is_letter, is_digit_of, is_null}
use Rattle.hm_base.specs.Forms.{has_byte}
use Rattle.hm_base.specs.Walks.{Attribute}
use Rattle.hm_markup_spec.specs.Tags.{Quoting, bare, unquoted, double, single}
use Rattle.hm_markup_spec.proofs.LineEnds.{newlines, is_no_return, IsInLine}
use Rattle.hm_markup_spec.proofs.Readable.{ends_value, MayFollowValue}
use Rattle.hm_markup_spec.proofs.WrittenLines.{HasLines, assigned_lines, ValuesHaveLines}
use Rattle.hm_refs.specs.Names.{Entry}
use Rattle.hm_refs.specs.Tables.{IsTable}
use Rattle.hm_elements.specs.Settled.{all_utf8}
use Rattle.hm_scan.specs.Tags.{is_unquoted_byte, is_quote}
use Rattle.hm_scan.specs.Values.{read_value}
use Rattle.hm_token_laws.proofs.Bools.{or_parts}
use Rattle.hm_token_laws.proofs.Plain.{pass_both}
use Rattle.hm_spelling_spec.specs.Characters as spots
use Rattle.hm_spelling_spec.specs.Characters.{Spot, is_writable, is_foreign, CharacterRules, SpellsPoints, SpellsText}
use Rattle.hm_spelling_spec.specs.Tags.{Spelling, character_rules, IsBareValue, IsQuotedValue, SpellsValue}
use Rattle.hm_round_trip_laws.specs.References.{is_reference_byte}
use Rattle.hm_round_trip_laws.specs.Pages.{SpelledPointsHaveNoReturn}
use Rattle.hm_round_trip_laws.proofs.Clean.{has_no_byte}
use Rattle.hm_round_trip_laws.proofs.Decided.{points_lines}
use Rattle.hm_round_trip_laws.proofs.Encoded.{PassesHigh}
use Rattle.hm_round_trip_laws.proofs.Tags.{closed_by, values_utf8}
use Rattle.hm_round_trip_laws.proofs.ValueBytes.{is_bare, bare_allows}
use Rattle.hm_round_trip_laws.proofs.Values.{within_by, value_read}
use Rattle.hm_round_trip_laws.proofs.Within.{Allows, not_few, written_part, pass_more}

-- ---- no CR

no_return_high : PassesHigh is_no_return
no_return_high d h = grind arith

no_return_few : (c : ℕ) → is_reference_byte c ≡ true → is_no_return c ≡ true
unfolding is_reference_byte is_alnum is_letter is_digit_of
no_return_few c h = rw (not_few 13 c refl h) refl

no_return_written : (ascii : Bool) (c : ℕ) → is_writable ascii c ≡ true → is_no_return c ≡ true
unfolding is_writable
no_return_written ascii c h = (and_parts (not (c == 13)) _ h).0

no_return_allows : (ascii : Bool) (spot : Spot) → Allows is_no_return ascii spot
no_return_allows ascii spot = record {
  high = no_return_high;
  amp = refl;
  few = no_return_few;
  stands = λ c h. no_return_written ascii c (written_part ascii spot c h);
  sections = λ f. record { marks = (refl, refl); written = no_return_written ascii };
}

pub spelled_no_return : (t : List Entry) (rules : CharacterRules) (spot : Spot) (cs b after : List ℕ) → IsTable t → SpellsPoints t rules spot cs b after → all_pass is_no_return b ≡ true
spelled_no_return t rules spot cs b after k s = within_by t rules spot is_no_return cs b after k (no_return_allows rules.ascii spot) s

pub spelled_points_have_no_return : SpelledPointsHaveNoReturn
spelled_points_have_no_return t rules spot cs b after k s = has_no_byte is_no_return 13 b refl (spelled_no_return t rules spot cs b after k s)

pub no_return_of : (s : List ℕ) → has_byte 13 s ≡ false → all_pass is_no_return s ≡ true
no_return_of [] h = refl
no_return_of (c ∷ s) h = let both = or_parts (c == 13) (has_byte 13 s) h in rw (both.0, no_return_of s both.1) refl

-- ---- values

quote_in_line : (quote : ℕ) (s : List ℕ) → (quote == 10) ≡ false → is_no_return quote ≡ true → all_pass is_no_return s ≡ true → IsInLine (quote ∷ (s ++ quote ∷ []))
quote_in_line quote s feed return all =
    record { first = quote; more = s ++ quote ∷ []; is = refl; no_feed = feed; plain = and_from (is_no_return quote) _ return (pass_both is_no_return s (quote ∷ []) all (rw return refl)) }

bare_byte : (c : ℕ) → is_bare c ≡ true → ((c == 10) ≡ false) × (is_no_return c ≡ true)
unfolding is_bare is_unquoted_byte is_quote is_space
bare_byte c h = (grind arith, grind arith)

bare_in_line : (s : List ℕ) → is_null s ≡ false → all_pass is_bare s ≡ true → IsInLine s
bare_in_line [] some h = absurd (cc)
bare_in_line (c ∷ s) some h = record {
  first = c;
  more = s;
  is = refl;
  no_feed = (bare_byte c (and_parts (is_bare c) (all_pass is_bare s) h).0).0;
  plain = pass_more is_bare is_no_return (c ∷ s) (λ d i. (bare_byte d i).1) h;
}

-- without quotes: some byte is there, since the value isn't empty
some_written : (t : List Entry) (value b : List ℕ) → is_null value ≡ false → read_value t b ≡ value → is_null b ≡ false
some_written t value [] some read = subst (λ x. is_null x ≡ false) (sym read) some
some_written t value (c ∷ s) some read = refl

bare_value_lines : (g : Spelling) (value b after : List ℕ) → IsTable g.table → is_utf8 value ≡ true → head_is ends_value after ≡ true → IsBareValue g value b after → HasLines (IsBareValue g value) b after
bare_value_lines g value b after k u follows w =
    let c = closed_by after follows in
    let spells : SpellsText g.table (character_rules g) spots.unquoted value w.written (c.first ∷ c.more) = subst (SpellsText g.table (character_rules g) spots.unquoted value w.written) c.is w.spells in
    let read = value_read g.table (character_rules g) spots.unquoted value w.written c.first c.more k u c.ends spells in
    let bytes = within_by g.table (character_rules g) spots.unquoted is_bare (chars value) w.written after k (bare_allows g.rules.ascii) w.spells in
    let a = assigned_lines w.written b after (bare_in_line w.written (some_written g.table value w.written w.some read) bytes) w.is in
    record {
      other = a.other;
      written = record { written = w.written; is = a.written; allowed = w.allowed; some = w.some; spells = points_lines g.table (character_rules g) spots.unquoted (chars value) w.written after k w.spells };
      is = a.is;
    }

quoted_value_lines : (g : Spelling) (spot : Spot) (quote : ℕ) (value b after : List ℕ) → IsTable g.table → (quote == 10) ≡ false → (quote == 13) ≡ false → IsQuotedValue g spot quote value b after → HasLines (IsQuotedValue g spot quote value) b after
quoted_value_lines g spot quote value b after k feed return w =
    let all = spelled_no_return g.table (character_rules g) spot (chars value) w.written (quote ∷ after) k w.spells in
    let a = assigned_lines (quote ∷ (w.written ++ quote ∷ [])) b after (quote_in_line quote w.written feed (rw return refl) all) w.is in
    let same : newlines (quote ∷ after) ≡ quote ∷ newlines after = rw return refl in
    let spells = points_lines g.table (character_rules g) spot (chars value) w.written (quote ∷ after) k w.spells in
    record {
      other = a.other;
      written = record { written = w.written; is = a.written; spells = subst (SpellsPoints g.table (character_rules g) spot (chars value) w.written) same spells };
      is = a.is;
    }

value_lines : (g : Spelling) (form : Quoting) (value b after : List ℕ) → IsTable g.table → is_utf8 value ≡ true → MayFollowValue form after → SpellsValue g form value b after → HasLines (SpellsValue g form value) b after
value_lines g bare value b after k u follows w = record { other = []; written = (w.0, refl); is = rw w.1 refl }
value_lines g unquoted value b after k u follows w = bare_value_lines g value b after k u follows w
value_lines g double value b after k u follows w = quoted_value_lines g spots.double 34 value b after k refl refl w
value_lines g single value b after k u follows w = quoted_value_lines g spots.single 39 value b after k refl refl w

pub values_have_lines : (g : Spelling) (attributes : List Attribute) → IsTable g.table → all_utf8 attributes ≡ true → ValuesHaveLines (SpellsValue g) attributes
values_have_lines g attributes k u form a b after in_tag follows w = value_lines g form a.value b after k (values_utf8 attributes a u in_tag) follows w
