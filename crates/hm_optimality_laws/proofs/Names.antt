-- Names are written as they stand in the tree: they have no capitals.
use Rattle.std.proofs.Common.{◌≡◌, ℕ, ◌≤◌, Bool, true, false, nat_le, ◌&&◌, ◌||◌, List, [], ◌∷◌, map, refl, ap, ◌∙◌, arith, eqb}
use Rattle.std.specs.Char.{digit_value}
use Rattle.std.specs.Int.{IsInRange}
use Rattle.std.proofs.lemmas.Bool.{and_parts, eqb-true, false_from_ne_true, leb-true, ltb-true, not-true, or_parts}
use Rattle.std.proofs.lemmas.Str.Parse.{digit_from_value}
use Rattle.hm_graph_laws.specs.AttributeLaws.{AreLow}
use Rattle.hm_base.specs.Bytes.{all_pass, is_digit_of, lower}
use Rattle.hm_base.specs.Forms.{is_attribute_byte, is_attribute_name, is_small, is_tag_byte, is_tag_name}
use Rattle.hm_base.specs.Walks.{Attribute}
use Rattle.hm_elements.specs.Settled.{all_names_in_form}

abbrev is_capital : ℕ → Bool
is_capital c = nat_le 65 c && nat_le c 90

low_kept : (c : ℕ) → is_capital c ≡ false → lower c ≡ c
unfolding lower
low_kept c h = rw h refl

all_low : (test : ℕ → Bool) → ((c : ℕ) → test c ≡ true → is_capital c ≡ false) → (s : List ℕ) → all_pass test s ≡ true → map lower s ≡ s
all_low test each [] h = refl
all_low test each (c ∷ s) h =
    let two = and_parts (test c) (all_pass test s) h in
    ap (λ x. x ∷ map lower s) (low_kept c (each c two.0)) ∙ ap (λ x. c ∷ x) (all_low test each s two.1)

-- ---- names of elements

abbrev NoCapital : ℕ → Type 0
NoCapital c = 65 ≤ c → c ≤ 90 → ⊥

or_then : (a b : Bool) (P : Type 0) → (a ≡ true → P) → (b ≡ true → P) → a || b ≡ true → P
or_then true b P f g h = f refl
or_then false b P f g h = g h

small_low : (c : ℕ) → nat_le 97 c && nat_le c 122 ≡ true → NoCapital c
small_low c h l u = let low : 97 ≤ c = leb-true 97 c (and_parts (nat_le 97 c) (nat_le c 122) h).0 in omega arith

digit_low : (c : ℕ) → is_digit_of 10 c ≡ true → NoCapital c
unfolding is_digit_of
digit_low c h l u = let range : IsInRange 48 57 c = digit_from_value c (ltb-true (digit_value c) 10 h) in omega arith

tag_byte_low : (c : ℕ) → is_tag_byte c ≡ true → NoCapital c
unfolding is_tag_byte is_small
tag_byte_low c h =
    or_then _ (eqb c 45) (NoCapital c)
    (or_then _ (eqb c 58) (NoCapital c)
    (or_then _ (eqb c 95) (NoCapital c)
    (or_then _ (eqb c 46) (NoCapital c)
    (or_then (nat_le 97 c && nat_le c 122) (is_digit_of 10 c) (NoCapital c) (small_low c) (digit_low c))
    (λ e l u. let i : c ≡ 46 = eqb-true c 46 e in omega arith))
    (λ e l u. let i : c ≡ 95 = eqb-true c 95 e in omega arith))
    (λ e l u. let i : c ≡ 58 = eqb-true c 58 e in omega arith))
    (λ e l u. let i : c ≡ 45 = eqb-true c 45 e in omega arith)
    h

not_capital : (c : ℕ) → NoCapital c → is_capital c ≡ false
not_capital c n = false_from_ne_true (is_capital c) (λ h. let two = and_parts (nat_le 65 c) (nat_le c 90) h in n (leb-true 65 c two.0) (leb-true c 90 two.1))

pub tag_name_low : (n : List ℕ) → is_tag_name n ≡ true → map lower n ≡ n
unfolding is_tag_name is_small
tag_name_low [] h = refl
tag_name_low (c ∷ s) h =
    let two = and_parts (nat_le 97 c && nat_le c 122) (all_pass is_tag_byte s) h in
    ap (λ x. x ∷ map lower s) (low_kept c (not_capital c (small_low c two.0))) ∙ ap (λ x. c ∷ x) (all_low is_tag_byte (λ d k. not_capital d (tag_byte_low d k)) s two.1)

-- ---- names of attributes

attribute_byte_low : (c : ℕ) → is_attribute_byte c ≡ true → is_capital c ≡ false
unfolding is_attribute_byte
attribute_byte_low c h = (or_parts _ _ (or_parts _ _ (or_parts _ _ (or_parts _ _ (or_parts _ _ (or_parts _ _ (or_parts _ _ (or_parts _ _ (not-true _ h)).0).0).0).0).0).0).0).0

attribute_name_low : (n : List ℕ) → is_attribute_name n ≡ true → map lower n ≡ n
unfolding is_attribute_name
attribute_name_low [] h = refl
attribute_name_low (c ∷ s) h = all_low is_attribute_byte attribute_byte_low (c ∷ s) h

pub names_low : (attributes : List Attribute) → all_names_in_form attributes ≡ true → AreLow attributes
names_low [] h = tt
names_low (a ∷ attributes) h =
    let two = and_parts (is_attribute_name a.name) (all_names_in_form attributes) h in
    (attribute_name_low a.name two.0, names_low attributes two.1)
