-- The flags of plain characters: those of the listed bytes, and of each name one after another.
use Rattle.std.proofs.Common.{◌≡◌, ℕ, zero, suc, ◌+◌, ◌<◌, ◌≤◌, ◌⊎◌, inl, inr, Bool, true, false, not, ◌&&◌, ◌||◌, ◌==◌, nat_lt, List, [], ◌∷◌, ◌++◌, length, get_or, set, take, replicate, refl, sym, ap, ◌∙◌, subst, arith}
use Rattle.std.proofs.Math.Bool.{and-false, and-true, or-false, or-true}
use Rattle.std.specs.List.{list_all}
use Rattle.std.proofs.lemmas.Bool.{cases_eq}
use Rattle.std.proofs.lemmas.List.{take_more, take_all, length-set, get_or-replicate, get_or-set_same, get_or-set_other, get_or-map, length-map}
use Rattle.std.proofs.lemmas.List.Folds.{list_all-append}
use Rattle.hm_base.specs.Bytes.{all_pass, some_passes}
use Rattle.hm_refs.specs.Names.{Entry}
use Rattle.hm_refs.specs.Plain.{plain_bytes, is_plain_byte, is_long, allows, is_plain}
use Rattle.hm_refs.specs.Nodes.{entry_of, entries_of}
use Rattle.hm_refs.specs.Flags.{IsFlagged}
use Rattle.hm_refs.specs.declared.nodes.ReferenceName.{ReferenceName}
use Rattle.hm_refs.proofs.Bools.{and_left, and_right, eq_of}

-- ---- the listed bytes

passes_push : (p : ℕ → Bool) (s : List ℕ) (c : ℕ) → some_passes p (s ++ c ∷ []) ≡ some_passes p s || p c
passes_push p [] c = by_test (p c)
  where
    by_test : (b : Bool) → b || false ≡ false || b
    by_test true = refl
    by_test false = refl
passes_push p (d ∷ s) c = by_test (p d) (passes_push p s c)
  where
    by_test : (b : Bool) → some_passes p (s ++ c ∷ []) ≡ some_passes p s || p c → b || some_passes p (s ++ c ∷ []) ≡ b || some_passes p s || p c
    by_test true h = refl
    by_test false h = h

passing : (p test : ℕ → Bool) (s : List ℕ) → all_pass test s ≡ true → some_passes p s ≡ true → (c : ℕ) × (p c ≡ true) × (test c ≡ true)
passing p test [] h e = absurd (cc)
passing p test (d ∷ s) h e = by_test (p d) refl e (passing p test s (and_right (test d) (all_pass test s) h))
  where
    by_test : (b : Bool) → p d ≡ b → b || some_passes p s ≡ true → (some_passes p s ≡ true → (c : ℕ) × (p c ≡ true) × (test c ≡ true)) → (c : ℕ) × (p c ≡ true) × (test c ≡ true)
    by_test true g k more = (d, g, and_left (test d) (all_pass test s) h)
    by_test false g k more = more k

-- a test that all plain bytes pass, at one
pub plain_passes : (test : ℕ → Bool) (c : ℕ) → all_pass test plain_bytes ≡ true → is_plain_byte c ≡ true → test c ≡ true
unfolding is_plain_byte
plain_passes test c h e = let p = passing (λ d. d == c) test plain_bytes h e in subst (λ d. test d ≡ true) (eq_of p.0 c p.1) p.2

pub all_ascii : all_pass (λ c. nat_lt c 128) plain_bytes ≡ true
all_ascii = refl

-- no other character is plain
pub not_plain : (t : List Entry) (c : ℕ) → 128 ≤ c → false ≡ is_plain t c
not_plain t c l = by_test (is_plain_byte c) refl
  where
    by_test : (b : Bool) → is_plain_byte c ≡ b → false ≡ b && list_all (allows c) t
    by_test true e = absurd (let h = plain_passes (λ d. nat_lt d 128) c all_ascii e in let k : c < 128 = grind arith in omega arith)
    by_test false e = refl

pub all_pass_at : (p : ℕ → Bool) (s : List ℕ) (i : ℕ) → all_pass p s ≡ true → i < length s → p (get_or s i 0) ≡ true
all_pass_at p [] i all h = absurd (omega arith)
all_pass_at p (c ∷ s) zero all h = and_left (p c) (all_pass p s) all
all_pass_at p (c ∷ s) (suc i) all h = all_pass_at p s i (and_right (p c) (all_pass p s) all) (omega arith)

pub plain_ascii : (i : ℕ) → i < length plain_bytes → get_or plain_bytes i 0 < 128
plain_ascii i l = let h = all_pass_at (λ c. nat_lt c 128) plain_bytes i all_ascii l in grind arith

-- the flags of the first bytes
pub record AreListed (i : ℕ) (flags : List Bool) : Type 0 where
  pub long : length flags ≡ 128
  pub each : (c : ℕ) → c < 128 → get_or flags c false ≡ some_passes (λ d. d == c) (take i plain_bytes)

in_more : (c i : ℕ) → i < length plain_bytes → some_passes (λ d. d == c) (take (i + 1) plain_bytes) ≡ some_passes (λ d. d == c) (take i plain_bytes) || (get_or plain_bytes i 0 == c)
in_more c i l = rw (take_more plain_bytes i 0 l) (passes_push (λ d. d == c) (take i plain_bytes) (get_or plain_bytes i 0))

same_eq : (c : ℕ) → (c == c) ≡ true
same_eq c = grind arith

other_eq : (c d : ℕ) → (c ≡ d → ⊥) → (d == c) ≡ false
other_eq c d h = by_test (d == c) refl
  where
    by_test : (b : Bool) → (d == c) ≡ b → b ≡ false
    by_test true e = absurd (h (sym (eq_of d c e)))
    by_test false e = refl

pub listed_more : (i byte : ℕ) (flags : List Bool) → i < length plain_bytes → byte ≡ get_or plain_bytes i 0 → AreListed i flags → AreListed (i + 1) (set flags byte true)
listed_more i byte flags l e a = record {
  long = length-set flags byte true ∙ a.long;
  each = λ c k. by_eq c k (cases_eq c byte);
}
  where
    by_eq : (c : ℕ) → c < 128 → (c ≡ byte) ⊎ (c ≡ byte → ⊥) → get_or (set flags byte true) c false ≡ some_passes (λ d. d == c) (take (i + 1) plain_bytes)
    by_eq c k (inl j) = rw (j, get_or-set_same flags byte true false (omega (arith, a.long)), in_more byte i l, sym e, same_eq byte) (sym (or-true (some_passes (λ d. d == byte) (take i plain_bytes))))
    by_eq c k (inr d) = rw (get_or-set_other flags byte c true false d, a.each c k, in_more c i l, sym e, other_eq c byte d) (sym (or-false (some_passes (λ d. d == c) (take i plain_bytes))))

pub listed_none : AreListed 0 (replicate 128 false)
listed_none = record { long = refl; each = λ c l. get_or-replicate 128 c false false l }

pub listed_all : (i : ℕ) (flags : List Bool) → length plain_bytes ≤ i → AreListed i flags → IsFlagged [] flags
unfolding is_plain_byte
listed_all i flags l a = record {
  all = a.long;
  each = λ c k. a.each c k ∙ ap (some_passes (λ d. d == c)) (take_all i plain_bytes l) ∙ sym (and-true (some_passes (λ d. d == c) plain_bytes));
}

-- ---- one name more

name_more : (c : ℕ) (ns : List ReferenceName) (i : ℕ) (x : ReferenceName) → i < length ns → x ≡ get_or ns i x → is_plain (take (i + 1) (entries_of ns)) c ≡ is_plain (take i (entries_of ns)) c && allows c (entry_of x)
name_more c ns i x l e =
    let m : i < length (entries_of ns) = omega (arith, length-map ns entry_of) in
    let g : get_or (entries_of ns) i (entry_of x) ≡ entry_of x = get_or-map entry_of ns i x (entry_of x) l ∙ ap entry_of (sym e) in
    rw (take_more (entries_of ns) i (entry_of x) m, g, list_all-append (allows c) (take i (entries_of ns)) (entry_of x ∷ [])) (by_tests (is_plain_byte c) (list_all (allows c) (take i (entries_of ns))) (allows c (entry_of x)))
  where
    by_tests : (a b d : Bool) → a && (b && (d && true)) ≡ a && b && d
    by_tests false b d = refl
    by_tests true false d = refl
    by_tests true true d = and-true d

-- a name that takes nothing from these characters
pub flag_stays : (ns : List ReferenceName) (i : ℕ) (x : ReferenceName) (flags : List Bool) → i < length ns → x ≡ get_or ns i x → (is_long (entry_of x) ≡ true) ⊎ (128 ≤ x.points.first) → IsFlagged (take i (entries_of ns)) flags → IsFlagged (take (i + 1) (entries_of ns)) flags
unfolding allows
flag_stays ns i x flags l e a f = record {
  all = f.all;
  each = λ c k. f.each c k ∙ sym (name_more c ns i x l e ∙ rw (allowed c k a) (and-true (is_plain (take i (entries_of ns)) c)));
}
  where
    allowed : (c : ℕ) → c < 128 → (is_long (entry_of x) ≡ true) ⊎ (128 ≤ x.points.first) → allows c (entry_of x) ≡ true
    allowed c k (inl h) = rw h (or-true (not (x.points.first == c)))
    allowed c k (inr h) = rw (other_eq c x.points.first (λ i. omega arith)) refl

-- a name that leaves its first code point no longer plain
pub flag_falls : (ns : List ReferenceName) (i : ℕ) (x : ReferenceName) (flags : List Bool) → i < length ns → x ≡ get_or ns i x → is_long (entry_of x) ≡ false → x.points.first < 128 → IsFlagged (take i (entries_of ns)) flags → IsFlagged (take (i + 1) (entries_of ns)) (set flags x.points.first false)
unfolding allows
flag_falls ns i x flags l e h s f = record {
  all = length-set flags x.points.first false ∙ f.all;
  each = λ c k. by_eq c k (cases_eq c x.points.first) ∙ sym (name_more c ns i x l e);
}
  where
    by_eq : (c : ℕ) → c < 128 → (c ≡ x.points.first) ⊎ (c ≡ x.points.first → ⊥) → get_or (set flags x.points.first false) c false ≡ is_plain (take i (entries_of ns)) c && (not (x.points.first == c) || is_long (entry_of x))
    by_eq c k (inl j) = rw (j, get_or-set_same flags x.points.first false false (omega (arith, f.all)), same_eq x.points.first, h) (sym (and-false (is_plain (take i (entries_of ns)) x.points.first)))
    by_eq c k (inr d) = rw (get_or-set_other flags x.points.first c false false d, f.each c k, other_eq c x.points.first d) (sym (and-true (is_plain (take i (entries_of ns)) c)))
