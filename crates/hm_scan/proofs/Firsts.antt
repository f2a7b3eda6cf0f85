-- The first byte that passes a test, sought in one part of the bytes after another.
use Rattle.std.proofs.Common.{◌≡◌, ℕ, ◌+◌, ◌-◌, ◌<◌, ◌≤◌, Bool, true, false, List, length, drop, get_or, Some, None, refl, ap, sym, subst, ◌∙◌, inl, inr, arith, length-drop}
use Rattle.std.proofs.lemmas.Bool.{cases_lt}
use Rattle.std.proofs.lemmas.List.{get_or-drop}
use Rattle.memchr.specs.Find.{IsFirstByte, Nowhere, Passes}

clash : (b : Bool) → b ≡ true → b ≡ false → ⊥
clash b e f = cc

-- one more byte that doesn't pass
pub none_more : (test : ℕ → Bool) (s : List ℕ) (i : ℕ) → Nowhere (Passes test s) 0 i → test (get_or s i 0) ≡ false → Nowhere (Passes test s) 0 (i + 1)
none_more test s i none here k low high = elim (cases_lt k i) [
  | inl h ↦ none k low h
  | inr h ↦ λ passes. let same : k ≡ i = omega arith in clash (test (get_or s i 0)) (subst (λ m. test (get_or s m 0) ≡ true) same passes) here
]

at_rest : (s : List ℕ) (near k : ℕ) → near ≤ k → get_or (drop near s) (k - near) 0 ≡ get_or s k 0
at_rest s near k h = get_or-drop near s (k - near) 0 ∙ ap (λ m. get_or s m 0) (omega arith)

-- none before a place, and none before another of the rest
none_later : (test : ℕ → Bool) (s : List ℕ) (near n to : ℕ) → to ≡ near + n → Nowhere (Passes test s) 0 near → Nowhere (Passes test (drop near s)) 0 n → Nowhere (Passes test s) 0 to
none_later test s near n to is none rest k low high = elim (cases_lt k near) [
  | inl h ↦ none k low h
  | inr h ↦ λ passes. rest (k - near) (omega arith) (omega arith) (ap test (at_rest s near k h) ∙ passes)
]

-- the first byte of the rest, where none before it passes
pub first_later : (test : ℕ → Bool) (s : List ℕ) (near n : ℕ) → near ≤ length s → Nowhere (Passes test s) 0 near → IsFirstByte test (drop near s) (Some n) → IsFirstByte test s (Some (near + n))
first_later test s near n inside none (first, here) =
    let long : length (drop near s) ≡ length s - near = length-drop near s in
    (record { low = omega arith; high = omega (arith, first.high, long); before = none_later test s near n (near + n) refl none first.before }, ap test (sym (get_or-drop near s n 0)) ∙ here)

pub none_at_all : (test : ℕ → Bool) (s : List ℕ) (near : ℕ) → near ≤ length s → Nowhere (Passes test s) 0 near → IsFirstByte test (drop near s) None → IsFirstByte test s None
none_at_all test s near inside none rest =
    let long : length (drop near s) ≡ length s - near = length-drop near s in
    none_later test s near (length (drop near s)) (length s) (omega arith) none rest
