-- Names of elements are ASCII.
use Rattle.std.proofs.Common.{◌≡◌, ℕ, ◌≤◌, ◌<◌, zero, suc, Bool, true, false, ◌||◌, ◌&&◌, nat_le, List, [], ◌∷◌, eqb, refl, lit<, lit≤, arith}
use Rattle.std.proofs.lemmas.Bool.{and_parts, and_from, eqb-true, leb-true, or_from, ne_eqb}
use borrow.Author.Tests.{ltb-true}
use Rattle.std.proofs.lemmas.Str.{IsUtf8-from_ascii}
use Rattle.std.proofs.lemmas.Str.Parse.{digit_from_value}
use Rattle.std.specs.Char.{digit_value}
use Rattle.std.specs.Int.{IsInRange}
use Rattle.std.specs.List.{list_all}
use Rattle.std.specs.Str.{IsUtf8, IsAscii}
use Rattle.hm_base.specs.Bytes.{is_digit_of, all_pass}
use Rattle.hm_base.specs.Forms.{has_byte, is_small, is_tag_byte, is_tag_name}
use Rattle.hm_elements.specs.Tables.{svg_names, is_svg_name}
use Rattle.hm_elements.proofs.TableTools.{entry_passes}

svg_names_are_tag_names : list_all is_tag_name svg_names ≡ true
unfolding svg_names is_tag_name is_tag_byte is_small is_digit_of
svg_names_are_tag_names = refl

pub svg_name_is_tag_name : (n : List ℕ) → is_svg_name n ≡ true → is_tag_name n ≡ true
unfolding is_svg_name
svg_name_is_tag_name n h = entry_passes is_tag_name n svg_names svg_names_are_tag_names h

or_then : (a b : Bool) (P : Type 0) → (a ≡ true → P) → (b ≡ true → P) → a || b ≡ true → P
or_then true b P f g h = f refl
or_then false b P f g h = g h

abbrev IsPlainByte : ℕ → Type 0
IsPlainByte c = (1 ≤ c) × (c < 128)

in_range : (lo hi c : ℕ) → 1 ≤ lo → hi < 128 → nat_le lo c && nat_le c hi ≡ true → IsPlainByte c
in_range lo hi c l u h =
    let two = and_parts (nat_le lo c) (nat_le c hi) h in
    let low : lo ≤ c = leb-true lo c two.0 in
    let high : c ≤ hi = leb-true c hi two.1 in
    (omega arith, omega arith)

is_one : (d c : ℕ) → 1 ≤ d → d < 128 → eqb c d ≡ true → IsPlainByte c
is_one d c l u h = let e : c ≡ d = eqb-true c d h in (omega arith, omega arith)

digit_is_plain : (c : ℕ) → is_digit_of 10 c ≡ true → IsPlainByte c
unfolding is_digit_of
digit_is_plain c h =
    let range : IsInRange 48 57 c = digit_from_value c (ltb-true (digit_value c) 10 h) in
    (omega arith, omega arith)

-- a byte of a name is ASCII, and not zero
tag_byte_is_plain : (c : ℕ) → is_tag_byte c ≡ true → IsPlainByte c
unfolding is_tag_byte is_small
tag_byte_is_plain c h =
    or_then _ (eqb c 45) (IsPlainByte c)
    (or_then _ (eqb c 58) (IsPlainByte c)
    (or_then _ (eqb c 95) (IsPlainByte c)
    (or_then _ (eqb c 46) (IsPlainByte c)
    (or_then (nat_le 97 c && nat_le c 122) (is_digit_of 10 c) (IsPlainByte c) (in_range 97 122 c (lit≤ tt) (lit< tt)) (digit_is_plain c))
    (is_one 46 c (lit≤ tt) (lit< tt)))
    (is_one 95 c (lit≤ tt) (lit< tt)))
    (is_one 58 c (lit≤ tt) (lit< tt)))
    (is_one 45 c (lit≤ tt) (lit< tt))
    h

name_bytes : (n : List ℕ) → is_tag_name n ≡ true → all_pass is_tag_byte n ≡ true
unfolding is_tag_name is_tag_byte
name_bytes [] h = cc
name_bytes (c ∷ s) h = let two = and_parts (is_small c) (all_pass is_tag_byte s) h in and_from (is_tag_byte c) (all_pass is_tag_byte s) (rw two.0 refl) two.1

all_ascii : (n : List ℕ) → all_pass is_tag_byte n ≡ true → IsAscii n
all_ascii [] h i = lit< tt
all_ascii (c ∷ s) h zero = (tag_byte_is_plain c (and_parts (is_tag_byte c) (all_pass is_tag_byte s) h).0).1
all_ascii (c ∷ s) h (suc i) = all_ascii s (and_parts (is_tag_byte c) (all_pass is_tag_byte s) h).1 i

all_not_zero : (n : List ℕ) → all_pass is_tag_byte n ≡ true → has_byte 0 n ≡ false
all_not_zero [] h = refl
all_not_zero (c ∷ s) h =
    let two = and_parts (is_tag_byte c) (all_pass is_tag_byte s) h in
    or_from (eqb c 0) (has_byte 0 s) (ne_eqb c 0 (not_zero c (tag_byte_is_plain c two.0).0)) (all_not_zero s two.1)
  where
    not_zero : (c : ℕ) → 1 ≤ c → c ≡ 0 → ⊥
    not_zero c l e = omega arith

pub tag_name_is_utf8 : (n : List ℕ) → is_tag_name n ≡ true → IsUtf8 n
tag_name_is_utf8 n h = IsUtf8-from_ascii n (all_ascii n (name_bytes n h))

pub tag_name_has_no_zero : (n : List ℕ) → is_tag_name n ≡ true → has_byte 0 n ≡ false
tag_name_has_no_zero n h = all_not_zero n (name_bytes n h)
