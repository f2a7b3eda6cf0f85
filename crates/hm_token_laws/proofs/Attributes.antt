-- The attributes of a tag that is read.
use Rattle.std.proofs.Common.{◌≡◌, ℕ, ◌+◌, ◌*◌, ◌<◌, ◌≤◌, ◌⊎◌, Bool, true, false, cond, not, ◌&&◌, ◌||◌, ◌==◌, nat_le, List, [], ◌∷◌, ◌++◌, map, length, bytes_eq, refl, inl, inr, sym, subst, arith, append_assoc}
use Rattle.std.specs.Str.{is_utf8}
use Rattle.std.proofs.lemmas.Bool.{and_parts, and_from, cond_both, not-true}
use Rattle.std.proofs.lemmas.List.{length-map}
use Rattle.hm_base.specs.Bytes.{all_pass, some_passes, is_space, lower}
use Rattle.hm_base.specs.Forms.{has_byte, is_attribute_byte, is_attribute_name}
use Rattle.hm_base.specs.RawText.{is_name_end}
use Rattle.hm_base.specs.Source.{is_text_byte}
use Rattle.hm_base.specs.Walks.{Attribute, has_name, has_distinct_names, attributes_size}
use Rattle.hm_elements.specs.Places.{AttributesAllowed}
use Rattle.hm_elements.specs.Settled.{all_names_in_form, no_zero_in_values, all_utf8}
use Rattle.hm_scan.proofs.Lowered.{lower_cases}
use Rattle.hm_refs.specs.Names.{Entry}
use Rattle.hm_scan.specs.Tags.{is_later_byte, is_tag_end}
use Rattle.hm_scan.specs.Reading.{attribute_limit, is_bad_byte, is_bad_name, has_bad_name, read_attribute, without_name, without_repeats, read_attributes}
use Rattle.hm_token_laws.specs.Laws.{IsPlain, SoundNames}
use Rattle.hm_token_laws.proofs.Bools.{or_parts}
use Rattle.hm_token_laws.proofs.Plain.{utf8_both, utf8_before, utf8_from, utf8_after, no_zero_byte}
use Rattle.hm_token_laws.proofs.References.{is_ascii, low_ascii}
use Rattle.hm_token_laws.proofs.TagParts.{GoodAttribute, AllGood}
use Rattle.hm_token_laws.proofs.Values.{ascii_utf8, read_value_utf8, read_value_no_zero, read_value_size}

-- ---- names in small letters

lower_utf8_after : (s p : List ℕ) → is_utf8 (p ++ s) ≡ true → is_utf8 (p ++ map lower s) ≡ true
lower_utf8_after [] p h = h
lower_utf8_after (c ∷ s) p h = by_case (lower_cases c) (λ q i. lower_utf8_after s q i)
  where
    by_case : ((65 ≤ c) × (c ≤ 90) × (lower c ≡ c + 32)) ⊎ (((c < 65) ⊎ (90 < c)) × (lower c ≡ c)) → ((q : List ℕ) → is_utf8 (q ++ s) ≡ true → is_utf8 (q ++ map lower s) ≡ true)
        → is_utf8 (p ++ lower c ∷ map lower s) ≡ true
    by_case (inl (low, high, e)) more =
        let front = utf8_before p s c (omega arith) h in
        let rest = more [] (utf8_after s c (omega arith) (utf8_from p s c (omega arith) h)) in
        let one : is_ascii (lower c) ≡ true = low_ascii (lower c) (omega arith) in
        utf8_both p _ front (utf8_both (lower c ∷ []) (map lower s) (ascii_utf8 (lower c ∷ []) (rw one refl)) rest)
    by_case (inr (apart, e)) more = rw e (
        subst (λ x. is_utf8 x ≡ true) (append_assoc p (c ∷ []) (map lower s)) (more (p ++ c ∷ []) (subst (λ x. is_utf8 x ≡ true) (sym (append_assoc p (c ∷ []) s)) h)))

pub lower_utf8 : (s : List ℕ) → is_utf8 s ≡ true → is_utf8 (map lower s) ≡ true
lower_utf8 s h = lower_utf8_after s [] h

small_byte : (d : ℕ) → 97 ≤ d → d ≤ 122 → is_attribute_byte d ≡ true
unfolding is_attribute_byte is_space
small_byte d low high = grind arith

-- a byte of a name as it is written
record NameByte (c : ℕ) : Type 0 where
  no_space : is_space c ≡ false
  no_slash : (c == 47) ≡ false
  no_end : (c == 62) ≡ false
  no_equals : (c == 61) ≡ false
  no_bad : is_bad_byte c ≡ false
  no_zero : (c == 0) ≡ false

other_byte : (c : ℕ) → (c < 65) ⊎ (90 < c) → NameByte c → is_attribute_byte c ≡ true
unfolding is_attribute_byte is_bad_byte
other_byte c apart n =
    let no_capital : (nat_le 65 c && nat_le c 90) ≡ false = capital apart in
    let bad = or_parts (c == 34) (c == 39 || c == 60) (right (c == 34) (c == 39) (c == 60) n.no_bad) in
    let more = or_parts (c == 39) (c == 60) bad.1 in
    rw (no_capital, n.no_space, n.no_slash, n.no_end, n.no_equals, bad.0, more.0, more.1, n.no_zero) refl
  where
    capital : (c < 65) ⊎ (90 < c) → (nat_le 65 c && nat_le c 90) ≡ false
    capital (inl l) = grind arith
    capital (inr l) = grind arith

    right : (a b d : Bool) → a || b || d ≡ false → a || (b || d) ≡ false
    right false false d h = h
    right false true d h = absurd (cc)
    right true b d h = absurd (cc)

name_byte : (c : ℕ) → NameByte c → is_attribute_byte (lower c) ≡ true
name_byte c n = elim (lower_cases c) [
  | inl w ↦ let low = w.0 in let high = w.1 in rw w.2 (small_byte (c + 32) (omega arith) (omega arith))
  | inr w ↦ rw w.1 (other_byte c w.0 n)
]

later_byte : (c : ℕ) → is_later_byte c ≡ true → is_bad_byte c ≡ false → is_text_byte c ≡ true → NameByte c
unfolding is_later_byte is_name_end
later_byte c h bad text =
    let one = or_parts (is_space c || c == 47 || c == 62) (c == 61) (not-true _ h) in
    let two = or_parts (is_space c || c == 47) (c == 62) one.0 in
    let three = or_parts (is_space c) (c == 47) two.0 in
    record { no_space = three.0; no_slash = three.1; no_end = two.1; no_equals = one.1; no_bad = bad; no_zero = not-true (c == 0) (and_parts (not (c == 0)) (not (c == 13)) text).0 }

later_bytes : (s : List ℕ) → all_pass is_later_byte s ≡ true → some_passes is_bad_byte s ≡ false → all_pass is_text_byte s ≡ true → all_pass is_attribute_byte (map lower s) ≡ true
later_bytes [] h bad text = refl
later_bytes (c ∷ s) h bad text =
    let l = and_parts (is_later_byte c) (all_pass is_later_byte s) h in
    let b = or_parts (is_bad_byte c) (some_passes is_bad_byte s) bad in
    let x = and_parts (is_text_byte c) (all_pass is_text_byte s) text in
    and_from (is_attribute_byte (lower c)) (all_pass is_attribute_byte (map lower s)) (name_byte c (later_byte c l.0 b.0 x.0)) (later_bytes s l.1 b.1 x.1)

named_so : (c : ℕ) (s : List ℕ) → is_tag_end c ≡ false → (c == 47) ≡ false → is_space c ≡ false → all_pass is_later_byte s ≡ true → IsPlain (c ∷ s) → is_bad_name (c ∷ s) ≡ false
    → is_attribute_name (map lower (c ∷ s)) ≡ true
unfolding is_attribute_name is_tag_end
named_so c s no_end no_slash no_space later plain good =
    let b = or_parts (c == 61) (is_bad_byte c || some_passes is_bad_byte s) good in
    let d = or_parts (is_bad_byte c) (some_passes is_bad_byte s) b.1 in
    let x = and_parts (is_text_byte c) (all_pass is_text_byte s) plain.bytes in
    let n : NameByte c = record { no_space = no_space; no_slash = no_slash; no_end = no_end; no_equals = b.0; no_bad = d.0; no_zero = not-true (c == 0) (and_parts (not (c == 0)) (not (c == 13)) x.0).0 } in
    and_from (is_attribute_byte (lower c)) (all_pass is_attribute_byte (map lower s)) (name_byte c n) (later_bytes s later d.1 x.1)

-- ---- an attribute as it is read

pub record SoundAttribute (a : Attribute) : Type 0 where
  pub name : is_attribute_name a.name ≡ true
  pub no_zero : has_byte 0 a.value ≡ false
  pub name_utf8 : is_utf8 a.name ≡ true
  pub value_utf8 : is_utf8 a.value ≡ true

attribute_sound : (t : List Entry) (a : Attribute) → SoundNames t → GoodAttribute a → is_bad_name a.name ≡ false → SoundAttribute (read_attribute t a)
attribute_sound t a names g good = record {
  name = rw g.name_is (named_so g.head g.more g.no_end g.no_slash g.no_space g.later (subst IsPlain g.name_is g.name_plain) (rw g.name_is at good));
  no_zero = read_value_no_zero t a.value names (no_zero_byte a.value g.value_plain);
  name_utf8 = lower_utf8 a.name g.name_plain.utf8;
  value_utf8 = read_value_utf8 t a.value names g.value_plain.utf8;
}

AllSound : List Attribute → Type 0
AllSound [] = Unit {0}
AllSound (a ∷ attributes) = SoundAttribute a × AllSound attributes

all_sound : (t : List Entry) (attributes : List Attribute) → SoundNames t → AllGood attributes → has_bad_name attributes ≡ false → AllSound (map (read_attribute t) attributes)
unfolding AllSound
all_sound t [] names g good = tt
all_sound t (a ∷ attributes) names g good =
    let b = or_parts (is_bad_name a.name) (has_bad_name attributes) good in
    (attribute_sound t a names g.0 b.0, all_sound t attributes names g.1 b.1)

without_sound : (n : List ℕ) (attributes : List Attribute) → AllSound attributes → AllSound (without_name n attributes)
unfolding AllSound
without_sound n [] h = tt
without_sound n (a ∷ attributes) h = cond_both (bytes_eq a.name n) _ _ AllSound (λ e. without_sound n attributes h.1) (λ e. (h.0, without_sound n attributes h.1))

repeats_sound : (attributes : List Attribute) → AllSound attributes → AllSound (without_repeats attributes)
unfolding AllSound
repeats_sound [] h = tt
repeats_sound (a ∷ attributes) h = (h.0, without_sound a.name (without_repeats attributes) (repeats_sound attributes h.1))

sound_names : (attributes : List Attribute) → AllSound attributes → all_names_in_form attributes ≡ true
unfolding AllSound
sound_names [] h = refl
sound_names (a ∷ attributes) h = and_from (is_attribute_name a.name) (all_names_in_form attributes) h.0.name (sound_names attributes h.1)

sound_no_zero : (attributes : List Attribute) → AllSound attributes → no_zero_in_values attributes ≡ true
unfolding AllSound
sound_no_zero [] h = refl
sound_no_zero (a ∷ attributes) h = rw (h.0.no_zero, sound_no_zero attributes h.1) refl

sound_utf8 : (attributes : List Attribute) → AllSound attributes → all_utf8 attributes ≡ true
unfolding AllSound
sound_utf8 [] h = refl
sound_utf8 (a ∷ attributes) h = rw (h.0.name_utf8, h.0.value_utf8, sound_utf8 attributes h.1) refl

-- ---- the first of the attributes with one name

without_itself : (n : List ℕ) (attributes : List Attribute) → has_name n (without_name n attributes) ≡ false
without_itself n [] = refl
without_itself n (a ∷ attributes) = by_test (bytes_eq a.name n) refl (without_itself n attributes)
  where
    by_test : (b : Bool) → bytes_eq a.name n ≡ b → has_name n (without_name n attributes) ≡ false → has_name n (cond b (without_name n attributes) (a ∷ without_name n attributes)) ≡ false
    by_test true e h = h
    by_test false e h = rw e h

without_other : (m n : List ℕ) (attributes : List Attribute) → has_name m attributes ≡ false → has_name m (without_name n attributes) ≡ false
without_other m n [] h = refl
without_other m n (a ∷ attributes) h = by_tests (bytes_eq a.name m) refl (bytes_eq a.name n) h (without_other m n attributes)
  where
    by_tests : (b : Bool) → bytes_eq a.name m ≡ b → (d : Bool) → cond b true (has_name m attributes) ≡ false → (has_name m attributes ≡ false → has_name m (without_name n attributes) ≡ false)
        → has_name m (cond d (without_name n attributes) (a ∷ without_name n attributes)) ≡ false
    by_tests true e d h more = absurd (cc)
    by_tests false e true h more = more h
    by_tests false e false h more = rw e (more h)

without_distinct : (n : List ℕ) (attributes : List Attribute) → has_distinct_names attributes ≡ true → has_distinct_names (without_name n attributes) ≡ true
without_distinct n [] h = refl
without_distinct n (a ∷ attributes) h =
    let both = and_parts (not (has_name a.name attributes)) (has_distinct_names attributes) h in
    let none = without_other a.name n attributes (not-true _ both.0) in
    cond_both (bytes_eq a.name n) _ _ (λ x. has_distinct_names x ≡ true) (λ e. without_distinct n attributes both.1) (λ e. rw (none, without_distinct n attributes both.1) refl)

repeats_distinct : (attributes : List Attribute) → has_distinct_names (without_repeats attributes) ≡ true
repeats_distinct [] = refl
repeats_distinct (a ∷ attributes) =
    rw (without_itself a.name (without_repeats attributes), without_distinct a.name (without_repeats attributes) (repeats_distinct attributes)) refl

without_few : (n : List ℕ) (attributes : List Attribute) → length (without_name n attributes) ≤ length attributes
without_few n [] = omega arith
without_few n (a ∷ attributes) = cond_both (bytes_eq a.name n) _ _ (λ x. length x ≤ length (a ∷ attributes)) (λ e. let h = without_few n attributes in omega arith) (λ e. let h = without_few n attributes in omega arith)

repeats_few : (attributes : List Attribute) → length (without_repeats attributes) ≤ length attributes
repeats_few [] = omega arith
repeats_few (a ∷ attributes) = let h = without_few a.name (without_repeats attributes) in let k = repeats_few attributes in omega arith

pub attributes_allowed : (t : List Entry) (attributes : List Attribute) → SoundNames t → AllGood attributes → has_bad_name attributes ≡ false → length attributes ≤ attribute_limit
    → AttributesAllowed (read_attributes t attributes)
attributes_allowed t attributes names g good few =
    let all = repeats_sound (map (read_attribute t) attributes) (all_sound t attributes names g good) in
    let long : length (map (read_attribute t) attributes) ≡ length attributes = length-map attributes (read_attribute t) in
    let less = repeats_few (map (read_attribute t) attributes) in
    record {
      few = le-leb' (length (read_attributes t attributes)) 256 (omega arith);
      distinct = repeats_distinct (map (read_attribute t) attributes);
      names = sound_names (read_attributes t attributes) all;
      no_zero = sound_no_zero (read_attributes t attributes) all;
      utf8 = sound_utf8 (read_attributes t attributes) all;
    }
  where
    le-leb' : (m n : ℕ) → m ≤ n → nat_le m n ≡ true
    le-leb' m n h = grind arith

-- ---- sizes

without_small : (n : List ℕ) (attributes : List Attribute) → attributes_size (without_name n attributes) ≤ attributes_size attributes
without_small n [] = omega arith
without_small n (a ∷ attributes) =
    cond_both (bytes_eq a.name n) _ _ (λ x. attributes_size x ≤ attributes_size (a ∷ attributes)) (λ e. let h = without_small n attributes in omega arith) (λ e. let h = without_small n attributes in omega arith)

repeats_small : (attributes : List Attribute) → attributes_size (without_repeats attributes) ≤ attributes_size attributes
repeats_small [] = omega arith
repeats_small (a ∷ attributes) = let h = without_small a.name (without_repeats attributes) in let k = repeats_small attributes in omega arith

map_small : (t : List Entry) (attributes : List Attribute) → SoundNames t → attributes_size (map (read_attribute t) attributes) ≤ 3 * attributes_size attributes
map_small t [] names = omega arith
map_small t (a ∷ attributes) names =
    let h = map_small t attributes names in
    let k = read_value_size t a.value names in
    let e : length (map lower a.name) ≡ length a.name = length-map a.name lower in
    omega arith

pub attributes_small : (t : List Entry) (attributes : List Attribute) → SoundNames t → attributes_size (read_attributes t attributes) ≤ 3 * attributes_size attributes
attributes_small t attributes names = let h = repeats_small (map (read_attribute t) attributes) in let k = map_small t attributes names in omega arith
