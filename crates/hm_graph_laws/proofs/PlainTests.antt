-- Plain characters need no reference.
use Rattle.std.proofs.Common.{◌≡◌, ℕ, ◌<◌, ◌≤◌, Bool, true, false, ◌&&◌, ◌||◌, ◌==◌, nat_le, nat_lt, not, List, [], ◌∷◌, length, Option, Some, None, refl, subst, inl, inr, ◌⊎◌, arith}
use Rattle.std.specs.Char.{digit_value}
use Rattle.std.specs.List.{list_all}
use Rattle.std.proofs.lemmas.Int.Digits.{digits_value-lt}
use Rattle.hm_base.specs.Bytes.{head_is, is_digit_of, is_space, some_passes}
use Rattle.hm_refs.specs.Laws.{Gives}
use Rattle.hm_refs.specs.Names.{Entry, points_of}
use Rattle.hm_refs.specs.Numbers.{best_number, look_up, or_number, point_of, replaced}
use Rattle.hm_refs.specs.Plain.{allows, is_plain, is_plain_byte, is_single, plain_bytes}
use Rattle.hm_refs.specs.References.{value_of}
use Rattle.hm_refs.specs.Tables.{IsIn, IsTable, first, later}
use Rattle.hm_refs.proofs.Bools.{and_left, and_right, eq_of, le_of}
use Rattle.hm_refs.proofs.Found.{entry_of}
use Rattle.hm_refs.proofs.NumberLaws.{gives_of, up_passes}
use Rattle.hm_spelling_spec.specs.Characters.{Spot, double, foreign, is_barred, is_writable, may_stand, rcdata, single, text, unquoted}
use Rattle.hm_graph_laws.proofs.Numbers.{hash_is, NumberAt, read_gives}
use Rattle.hm_graph_laws.proofs.Pieces.{Refers}
use Rattle.hm_graph_laws.proofs.CharacterReading.{IsName, IsNumber, reference_is}

-- a test for characters that need no reference
pub record IsPlainTest (t : List Entry) (plain : ℕ → Bool) : Type 0 where
  pub low : (c : ℕ) → plain c ≡ true → c < 128
  pub no_amp : (c : ℕ) → plain c ≡ true → (c == 38) ≡ false
  pub no_lt : (c : ℕ) → plain c ≡ true → (c == 60) ≡ false
  pub stands : (ascii : Bool) (spot : Spot) (c : ℕ) → plain c ≡ true → may_stand ascii spot c ≡ true
  pub long : (spot : Spot) (c : ℕ) (piece x : List ℕ) → plain c ≡ true → Refers t spot (c ∷ []) piece x → 4 ≤ length piece
  pub single_name : (c d : ℕ) (m : List ℕ) → plain c ≡ true → points_of t m ≡ Some (c ∷ d ∷ []) → ⊥

byte_passes : (test : ℕ → Bool) (c : ℕ) (ds : List ℕ) → list_all test ds ≡ true → some_passes (λ d. d == c) ds ≡ true → test c ≡ true
byte_passes test c [] h e = absurd (cc)
byte_passes test c (d ∷ ds) h e = by_test (d == c) refl e (byte_passes test c ds (and_right (test d) (list_all test ds) h))
  where
    by_test : (b : Bool) → (d == c) ≡ b → (b || some_passes (λ d. d == c) ds) ≡ true → (some_passes (λ d. d == c) ds ≡ true → test c ≡ true) → test c ≡ true
    by_test true g k more = subst (λ z. test z ≡ true) (eq_of d c g) (and_left (test d) (list_all test ds) h)
    by_test false g k more = more k

plain_passes : (test : ℕ → Bool) (c : ℕ) → list_all test plain_bytes ≡ true → is_plain_byte c ≡ true → test c ≡ true
unfolding is_plain_byte
plain_passes test c h e = byte_passes test c plain_bytes h e

abbrev fair : ℕ → Bool
fair c = nat_lt c 128 && (nat_le 33 c && (not (c == 38) && not (c == 60)))

all_fair : list_all fair plain_bytes ≡ true
all_fair = refl

abbrev stand : Bool → Spot → Bool
stand ascii spot = list_all (may_stand ascii spot) plain_bytes

all_stand : (ascii : Bool) (spot : Spot) → stand ascii spot ≡ true
unfolding may_stand is_writable is_barred is_space best_number point_of
all_stand true text = refl
all_stand true rcdata = refl
all_stand true foreign = refl
all_stand true unquoted = refl
all_stand true double = refl
all_stand true single = refl
all_stand false text = refl
all_stand false rcdata = refl
all_stand false foreign = refl
all_stand false unquoted = refl
all_stand false double = refl
all_stand false single = refl

not_true : (b : Bool) → not b ≡ true → b ≡ false
not_true true h = absurd (cc)
not_true false h = refl

lt_of : (m n : ℕ) → nat_lt m n ≡ true → m < n
lt_of m n h = grind arith

entry_passes : (test : Entry → Bool) (e : Entry) (t : List Entry) → list_all test t ≡ true → IsIn e t → test e ≡ true
entry_passes test e t h (first xs) = and_left (test e) (list_all test xs) h
entry_passes test e t h (later y xs i) = entry_passes test e xs (and_right (test y) (list_all test xs) h) i

-- a name that begins with a plain character
allowed : (t : List Entry) (c : ℕ) (m ps : List ℕ) → list_all (allows c) t ≡ true → points_of t m ≡ Some (c ∷ ps) → (is_single (c ∷ ps) ≡ true) × (4 ≤ length m)
unfolding allows
allowed t c m ps h e =
    let n = entry_of t m (c ∷ ps) e in
    let a = entry_passes (allows c) n.entry t h n.among in
    let a' = subst (λ q. (not (head_is (λ p. p == c) q) || (is_single q && nat_le 4 (length n.entry.name))) ≡ true) n.points_are a in
    let s : (c == c) ≡ true = grind arith in
    let b = rw s at a' in
    (and_left (is_single (c ∷ ps)) (nat_le 4 (length n.entry.name)) b, subst (λ q. 4 ≤ length q) n.name_is (le_of 4 (length n.entry.name) (and_right (is_single (c ∷ ps)) (nat_le 4 (length n.entry.name)) b)))

abbrev high : ℕ × ℕ → Bool
high p = nat_le 128 p.0

all_high : list_all high replaced ≡ true
all_high = refl

-- a number below ten gives nothing that is plain
not_short : (c v : ℕ) → point_of v ≡ c → 33 ≤ c → c < 128 → v < 10 → ⊥
not_short c v e low top s = by_up (look_up v replaced) refl (gives_of v c e not_high).is
  where
    not_high : (c == 0xFFFD) ≡ false
    not_high = grind arith

    by_up : (u : Option ℕ) → look_up v replaced ≡ u → or_number u v ≡ c → ⊥
    by_up None h i = let j : v ≡ c = i in omega arith
    by_up (Some d) h i = let k = le_of 128 v (up_passes high v d replaced all_high h) in omega arith

one_digit : (d : ℕ) → is_digit_of 10 d ≡ true → value_of 10 (d ∷ []) < 10
unfolding value_of is_digit_of
one_digit d h = let l = digits_value-lt 10 (d ∷ []) (lt_of (digit_value d) 10 h, tt) in omega (arith, l)

two_digits : (c : ℕ) (ds : List ℕ) → 33 ≤ c → c < 128 → Gives 10 ds c → 2 ≤ length ds
two_digits c [] low top g = absurd (let no = g.some in cc)
two_digits c (d ∷ []) low top g = absurd (not_short c (value_of 10 (d ∷ [])) g.value low top (one_digit d (and_left (is_digit_of 10 d) true g.digits)))
two_digits c (d ∷ e ∷ ds) low top g = omega arith

one_more : (c : ℕ) (ds : List ℕ) → Gives 16 ds c → 1 ≤ length ds
one_more c [] g = absurd (let no = g.some in cc)
one_more c (d ∷ ds) g = omega arith

long_number : (c : ℕ) (piece x : List ℕ) → 33 ≤ c → c < 128 → IsNumber (c ∷ []) piece x → 4 ≤ length piece
long_number c piece x low top n = by_kind (hash_is n.inner (record { points = c ∷ []; len = length piece }) n.read)
  where
    by_kind : NumberAt 2 10 [] n.inner (record { points = c ∷ []; len = length piece }) ⊎ ((d : ℕ) × NumberAt 3 16 (d ∷ []) n.inner (record { points = c ∷ []; len = length piece })) → 4 ≤ length piece
    by_kind (inl m) = let two = two_digits c m.digits_are low top (read_gives 2 10 c [] n.inner (length piece) m) in omega (arith, two, m.numeric_is.len)
    by_kind (inr (d, m)) = let one = one_more c m.digits_are (read_gives 3 16 c (d ∷ []) n.inner (length piece) m) in omega (arith, one, m.numeric_is.len)

pub plain_test : (t : List Entry) → IsTable t → IsPlainTest t (is_plain t)
plain_test t k = record {
  low = λ c h. lt_of c 128 (and_left (nat_lt c 128) (nat_le 33 c && (not (c == 38) && not (c == 60))) (fair_at c h));
  no_amp = λ c h. not_true (c == 38) (and_left (not (c == 38)) (not (c == 60)) (and_right (nat_le 33 c) (not (c == 38) && not (c == 60)) (and_right (nat_lt c 128) (nat_le 33 c && (not (c == 38) && not (c == 60))) (fair_at c h))));
  no_lt = λ c h. not_true (c == 60) (and_right (not (c == 38)) (not (c == 60)) (and_right (nat_le 33 c) (not (c == 38) && not (c == 60)) (and_right (nat_lt c 128) (nat_le 33 c && (not (c == 38) && not (c == 60))) (fair_at c h))));
  stands = λ ascii spot c h. plain_passes (may_stand ascii spot) c (all_stand ascii spot) (and_left (is_plain_byte c) (list_all (allows c) t) h);
  long = λ spot c piece x h r. by_kind spot c piece x h (reference_is t k spot (c ∷ []) piece x r);
  single_name = λ c d m h e. absurd (let a = allowed t c m (d ∷ []) (and_right (is_plain_byte c) (list_all (allows c) t) h) e in let b = a.0 in cc);
}
  where
    fair_at : (c : ℕ) → is_plain t c ≡ true → fair c ≡ true
    fair_at c h = plain_passes fair c all_fair (and_left (is_plain_byte c) (list_all (allows c) t) h)

    by_kind : (spot : Spot) (c : ℕ) (piece x : List ℕ) → is_plain t c ≡ true → IsName t spot (c ∷ []) piece x ⊎ IsNumber (c ∷ []) piece x → 4 ≤ length piece
    by_kind spot c piece x h (inl n) = (allowed t c piece [] (and_right (is_plain_byte c) (list_all (allows c) t) h) n.own).1
    by_kind spot c piece x h (inr n) =
        let f = fair_at c h in
        long_number c piece x (le_of 33 c (and_left (nat_le 33 c) (not (c == 38) && not (c == 60)) (and_right (nat_lt c 128) (nat_le 33 c && (not (c == 38) && not (c == 60))) f))) (lt_of c 128 (and_left (nat_lt c 128) (nat_le 33 c && (not (c == 38) && not (c == 60))) f)) n
