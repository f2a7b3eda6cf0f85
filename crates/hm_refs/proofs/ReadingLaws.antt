-- What was read of a table, beside the definitions.
use Rattle.std.proofs.Common.{◌≡◌, ℕ, ◌<◌, ◌≤◌, ◌++◌, nat_lt, length, arith, Result, Err, Bool, true, false, cond, List, [], ◌∷◌, Option, Some, None, IsUtf8, is_some, refl, sym, ap, ◌∙◌, append_assoc, append-nil}
use Rattle.std.proofs.lemmas.Str.{IsUtf8-from_is_utf8, is_utf8-from_IsUtf8}
use Rattle.std.specs.Str.{is_utf8}
use Rattle.serde_json.specs.Data.{Data, Members, no_members, member}
use Rattle.serde_json.specs.Read.{read}
use Rattle.serde_json.specs.Find.{as_object}
use Rattle.serde_json.specs.View.{items_view}
use Rattle.serde_json.specs.declared.value.Value.{Value}
use Rattle.hm_base.specs.declared.limits.TheConstants.{TABLE_LIMIT}
use Rattle.hm_refs.specs.Names.{Entry}
use Rattle.hm_refs.specs.Json.{and_entry, codepoints, entries_in, first_bad_points, json, points_in, with_entry, names_of_members, names_of_object, names_of_data, names}
use Rattle.hm_refs.specs.declared.fault.TableFault.{TableFault}
use Rattle.hm_refs.specs.declared.fault.TableFault.TheVariants.{TooLong, NotJson, NotObject}

pub json_read : (bytes : List ℕ) (d : Data) → IsUtf8 bytes → read bytes ≡ Some d → json bytes ≡ Some d
unfolding json
json_read bytes d u h = rw (is_utf8-from_IsUtf8 bytes u) h

pub json_none : (bytes : List ℕ) → (IsUtf8 bytes → read bytes ≡ None) → json bytes ≡ None
unfolding json
json_none bytes h = by_test (is_utf8 bytes) refl
  where
    by_test : (b : Bool) → is_utf8 bytes ≡ b → cond b (read bytes) None ≡ None
    by_test true e = h (IsUtf8-from_is_utf8 bytes e)
    by_test false e = refl

pub many_points : (vs : List Value) → 3 ≤ length vs → None ≡ points_in (items_view vs)
many_points [] l = absurd (omega arith)
many_points (a ∷ []) l = absurd (omega arith)
many_points (a ∷ b ∷ []) l = absurd (omega arith)
many_points (a ∷ b ∷ c ∷ vs) l = refl

-- ---- the names of members with their code points, one after another

-- none of those before has a fault, and their names are there; the rest is judged
abbrev pub AreGathered : List Entry → Members → Members → Type 0
AreGathered t rest all = (first_bad_points rest ≡ first_bad_points all) × (t ++ entries_in rest ≡ entries_in all)

pub one_gathered : (now next : List Entry) (ms rest all : Members) (k ps : List ℕ) (d : Data) → ms ≡ member k d rest → Some ps ≡ codepoints d → next ≡ and_entry now k ps → AreGathered now ms all → AreGathered next rest all
one_gathered now next ms rest all k ps d m p n are = (
  (λ i. cond (is_some (p i)) (first_bad_points rest) (Some k)) ∙ sym (ap first_bad_points m) ∙ are.0,
  ap (λ t. t ++ entries_in rest) n ∙ append_assoc now (record { name = k; points = ps } ∷ []) (entries_in rest)
      ∙ ap (λ o. now ++ with_entry k o (entries_in rest)) p ∙ sym (ap (λ xs. now ++ entries_in xs) m) ∙ are.1,
)

pub none_left : (now : List Entry) (ms all : Members) → ms ≡ no_members → AreGathered now ms all → first_bad_points all ≡ None
none_left now ms all m are = sym are.0 ∙ ap first_bad_points m

pub all_gathered : (now : List Entry) (ms all : Members) → ms ≡ no_members → AreGathered now ms all → now ≡ entries_in all
all_gathered now ms all m are = sym (append-nil now) ∙ sym (ap (λ xs. now ++ entries_in xs) m) ∙ are.1

-- the first name without code points
pub first_without : (now : List Entry) (ms rest all : Members) (k n : List ℕ) (d : Data) → ms ≡ member k d rest → None ≡ codepoints d → n ≡ k → AreGathered now ms all → first_bad_points all ≡ Some n
first_without now ms rest all k n d m p e are = sym are.0 ∙ ap first_bad_points m ∙ (λ i. cond (is_some (sym p i)) (first_bad_points rest) (Some k)) ∙ ap Some (sym e)

-- ---- the faults of members

-- ---- the faults of bytes

pub too_long : (bytes : List ℕ) → TABLE_LIMIT < length bytes → names bytes ≡ Err TooLong
unfolding names
too_long bytes l = by_test (nat_lt TABLE_LIMIT (length bytes)) (grind arith)
  where
    by_test : (b : Bool) → b ≡ true → cond b (Err TooLong) (names_of_data (json bytes)) ≡ Err TooLong
    by_test true e = refl
    by_test false e = absurd (cc)

pub names_by_json : (bytes : List ℕ) (o : Option Data) (r : Result (List Entry) TableFault) → length bytes ≤ TABLE_LIMIT → json bytes ≡ o → names_of_data o ≡ r → names bytes ≡ r
unfolding names
names_by_json bytes o r l e h = by_test (nat_lt TABLE_LIMIT (length bytes)) (grind arith)
  where
    by_test : (b : Bool) → b ≡ false → cond b (Err TooLong) (names_of_data (json bytes)) ≡ r
    by_test true i = absurd (cc)
    by_test false i = ap names_of_data e ∙ h

pub names_by_members : (bytes : List ℕ) (d : Data) (ms : Members) (r : Result (List Entry) TableFault) → length bytes ≤ TABLE_LIMIT → json bytes ≡ Some d → Some ms ≡ as_object d → names_of_members ms ≡ r → names bytes ≡ r
names_by_members bytes d ms r l e o h = names_by_json bytes (Some d) r l e (ap names_of_object (sym o) ∙ h)

pub no_object : (bytes : List ℕ) (d : Data) → length bytes ≤ TABLE_LIMIT → json bytes ≡ Some d → None ≡ as_object d → names bytes ≡ Err NotObject
no_object bytes d l e o = names_by_json bytes (Some d) (Err NotObject) l e (ap names_of_object (sym o))

pub no_json : (bytes : List ℕ) (f : TableFault) → length bytes ≤ TABLE_LIMIT → f ≡ NotJson → json bytes ≡ None → names bytes ≡ Err f
no_json bytes f l i e = names_by_json bytes None (Err f) l e (ap Err (sym i))
