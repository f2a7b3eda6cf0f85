-- What spells a start tag is read as it: its values carry over to those that are read back.
use Rattle.std.proofs.Common.{◌≡◌, ℕ, zero, suc, ◌≤◌, true, false, not, ◌&&◌, nat_le, List, [], ◌∷◌, length, Contains, refl, sym, subst, arith}
use Rattle.std.specs.Str.{is_utf8}
use Rattle.std.proofs.lemmas.Bool.{and_parts, and_from}
use Rattle.hm_base.specs.Bytes.{all_pass, head_is, is_null}
use Rattle.hm_base.specs.Forms.{is_attribute_name}
use Rattle.hm_base.specs.Walks.{Attribute}
use Rattle.hm_elements.specs.Places.{AttributesAllowed}
use Rattle.hm_elements.specs.Settled.{all_names_in_form, all_utf8}
use Rattle.hm_markup_spec.specs.Tags.{Quoting, bare, unquoted, double, single}
use Rattle.hm_markup_spec.proofs.Readable.{ends_value, MayFollowValue, ValuesCarry, start_is_readable, doctype_is_readable}
use Rattle.hm_refs.specs.Names.{Entry}
use Rattle.hm_refs.specs.Tables.{IsTable}
use Rattle.hm_scan.specs.ReadBack.{is_unquoted, WritesValue, are_attribute_names, IsAttributes}
use Rattle.hm_scan.specs.Tags.{is_unquoted_byte, is_quote}
use Rattle.hm_scan.specs.Values.{read_value}
use Rattle.hm_token_laws.proofs.Written.{starts_are_next, doctypes_are_next}
use Rattle.hm_spelling_spec.specs.Characters as spots
use Rattle.hm_spelling_spec.specs.Characters.{SpellsText}
use Rattle.hm_spelling_spec.specs.Tags.{Spelling, character_rules, SpellsValue}
use Rattle.hm_round_trip_laws.specs.Tags.{SpelledStartsAreWritten, SpelledStartsAreNext, SpelledDoctypesAreNext}
use Rattle.hm_round_trip_laws.specs.Values.{closes}
use Rattle.hm_round_trip_laws.proofs.ValueBytes.{is_bare, bare_allows, bare_quote, all_unquoted}
use Rattle.hm_round_trip_laws.proofs.Values.{within_by, value_read, value_within}

-- ---- attributes

pub values_utf8 : (attributes : List Attribute) (a : Attribute) → all_utf8 attributes ≡ true → Contains attributes a → is_utf8 a.value ≡ true
values_utf8 [] a h (k, low, here) = absurd (omega arith)
values_utf8 (d ∷ attributes) a h (zero, low, here) = subst (λ (e : Attribute). is_utf8 e.value ≡ true) here (and_parts (is_utf8 d.name) (is_utf8 d.value) (and_parts (is_utf8 d.name && is_utf8 d.value) (all_utf8 attributes) h).0).1
values_utf8 (d ∷ attributes) a h (suc k, low, here) = values_utf8 attributes a (and_parts (is_utf8 d.name && is_utf8 d.value) (all_utf8 attributes) h).1 (k, omega arith, here)

names_same : (attributes : List Attribute) → all_names_in_form attributes ≡ true → are_attribute_names attributes ≡ true
names_same [] h = refl
names_same (a ∷ attributes) h = let both = and_parts (is_attribute_name a.name) (all_names_in_form attributes) h in and_from (is_attribute_name a.name) (are_attribute_names attributes) both.0 (names_same attributes both.1)

few_attributes : (attributes : List Attribute) → nat_le (length attributes) 256 ≡ true → length attributes ≤ 256
few_attributes attributes h = grind arith

pub attributes_read : (attributes : List Attribute) → AttributesAllowed attributes → IsAttributes attributes
attributes_read attributes a = record { names = names_same attributes a.names; distinct = a.distinct; few = few_attributes attributes a.few }

-- ---- values

-- the byte after a value without quotes
pub record Closed (after : List ℕ) : Type 0 where
  pub first : ℕ
  pub more : List ℕ
  pub is : after ≡ first ∷ more
  pub ends : closes spots.unquoted first ≡ true

pub closed_by : (after : List ℕ) → head_is ends_value after ≡ true → Closed after
closed_by [] h = absurd (cc)
closed_by (d ∷ y) h = record { first = d; more = y; is = refl; ends = h }

-- without quotes: some byte is there, since the value isn't empty
some_unquoted : (t : List Entry) (value b : List ℕ) → is_null value ≡ false → read_value t b ≡ value → all_pass is_bare b ≡ true → is_unquoted b ≡ true
unfolding is_unquoted
some_unquoted t value [] some read bytes = absurd (let none : is_null [] ≡ false = subst (λ x. is_null x ≡ false) (sym read) some in cc)
some_unquoted t value (c ∷ s) some read bytes = and_from (not (is_quote c)) (all_pass is_unquoted_byte (c ∷ s)) (bare_quote c (and_parts (is_bare c) (all_pass is_bare s) bytes).0) (all_unquoted (c ∷ s) bytes)

value_carries : (g : Spelling) → IsTable g.table → (form : Quoting) (value b after : List ℕ) → is_utf8 value ≡ true → MayFollowValue form after → SpellsValue g form value b after → WritesValue g.table form value b after
value_carries g k bare value b after u follows w = w
value_carries g k unquoted value b after u follows w =
    let c = closed_by after follows in
    let spells : SpellsText g.table (character_rules g) spots.unquoted value w.written (c.first ∷ c.more) = subst (SpellsText g.table (character_rules g) spots.unquoted value w.written) c.is w.spells in
    let read = value_read g.table (character_rules g) spots.unquoted value w.written c.first c.more k u c.ends spells in
    let bytes = within_by g.table (character_rules g) spots.unquoted is_bare _ w.written after k (bare_allows g.rules.ascii) w.spells in
    record { written = w.written; is = w.is; good = some_unquoted g.table value w.written w.some read bytes; read = read }
value_carries g k double value b after u follows w = record {
  written = w.written;
  is = w.is;
  inside = value_within g.table (character_rules g) spots.double _ w.written (34 ∷ after) k w.spells;
  read = value_read g.table (character_rules g) spots.double value w.written 34 after k u refl w.spells;
}
value_carries g k single value b after u follows w = record {
  written = w.written;
  is = w.is;
  inside = value_within g.table (character_rules g) spots.single _ w.written (39 ∷ after) k w.spells;
  read = value_read g.table (character_rules g) spots.single value w.written 39 after k u refl w.spells;
}

values_carry : (g : Spelling) (attributes : List Attribute) → IsTable g.table → all_utf8 attributes ≡ true → ValuesCarry (SpellsValue g) (WritesValue g.table) attributes
values_carry g attributes k u form a b after in_tag follows w = value_carries g k form a.value b after (values_utf8 attributes a u in_tag) follows w

-- ---- tags and doctypes

pub spelled_starts_are_written : SpelledStartsAreWritten
spelled_starts_are_written g name attributes slash b after k a w = start_is_readable (SpellsValue g) (WritesValue g.table) g.rules.tight name attributes slash b after (values_carry g attributes k a.utf8) w

pub spelled_starts_are_next : SpelledStartsAreNext
spelled_starts_are_next g mode name attributes slash b after k m n a w =
    starts_are_next g.table mode name attributes slash b after m n (attributes_read attributes a) (spelled_starts_are_written g name attributes slash b after k a w)

pub spelled_doctypes_are_next : SpelledDoctypesAreNext
spelled_doctypes_are_next g mode legacy b after m w = doctypes_are_next g.table mode legacy b after m (doctype_is_readable true legacy b w)
