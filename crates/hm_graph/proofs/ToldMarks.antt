-- Marks of characters, made name after name.
use Rattle.std.proofs.Common.{◌≡◌, ◌∙◌, ◌⊎◌, inl, inr, ℕ, ◌+◌, ◌<◌, ◌≤◌, Bool, true, false, ◌||◌, ◌==◌, List, [], ◌∷◌, ◌++◌, length, get_or, set, take, replicate, Option, Some, None, refl, sym, ap, arith}
use Rattle.std.specs.List.{list_any}
use Rattle.std.proofs.lemmas.Bool.{cases_eq}
use Rattle.std.proofs.lemmas.List.{take_more, take_all, get_or-replicate, get_or-set_same, get_or-set_other}
use Rattle.hm_refs.proofs.Bools.{eq_of}
use Rattle.hm_refs.specs.Names.{Entry}
use Rattle.hm_refs.specs.Tables.{entry_at, no_entry}
use Rattle.hm_graph.specs.Interned.{AreMarked}
use Rattle.hm_graph.specs.EntityFacts.{is_target}

-- ---- One mark

or_true : (b : Bool) → b || true ≡ true
or_true true = refl
or_true false = refl

or_false : (b : Bool) → b || false ≡ b
or_false true = refl
or_false false = refl

same_eq : (c : ℕ) → (c == c) ≡ true
same_eq c = grind arith

other_eq : (c d : ℕ) → (c ≡ d → ⊥) → (d == c) ≡ false
other_eq c d h = by_test (d == c) refl
  where
    by_test : (b : Bool) → (d == c) ≡ b → b ≡ false
    by_test true e = absurd (h (sym (eq_of d c e)))
    by_test false e = refl

pub mark_set : (marks : List Bool) (at : ℕ) → at < length marks → (c : ℕ) → get_or (set marks at true) c false ≡ (get_or marks c false || is_target c (Some at))
mark_set marks at within c = by_eq (cases_eq c at)
  where
    by_eq : (c ≡ at) ⊎ (c ≡ at → ⊥) → get_or (set marks at true) c false ≡ (get_or marks c false || is_target c (Some at))
    by_eq (inl e) = rw (e, get_or-set_same marks at true false within, same_eq at) (sym (or_true (get_or marks at false)))
    by_eq (inr d) = rw (get_or-set_other marks at c true false d, other_eq c at d) (sym (or_false (get_or marks c false)))

-- no character of ASCII is marked
pub mark_past : (marks : List Bool) (at c : ℕ) → 128 ≤ at → c < 128 → get_or marks c false ≡ (get_or marks c false || is_target c (Some at))
mark_past marks at c past low = rw (other_eq c at (λ e. omega arith)) (sym (or_false (get_or marks c false)))

pub mark_none : (marks : List Bool) (c : ℕ) → get_or marks c false ≡ (get_or marks c false || is_target c None)
mark_none marks c = sym (or_false (get_or marks c false))

-- ---- Name after name

-- those of the first names
abbrev pub MarkedTo : (ℕ → Entry → Bool) → List Entry → ℕ → List Bool → Type 0
MarkedTo test t place marks = AreMarked test (take place t) marks

any_append : (p : Entry → Bool) (xs ys : List Entry) → list_any p (xs ++ ys) ≡ (list_any p xs || list_any p ys)
any_append p [] ys = refl
any_append p (x ∷ xs) ys = rw (any_append p xs ys) (by (p x) (list_any p xs) (list_any p ys))
  where
    by : (a b c : Bool) → a || (b || c) ≡ (a || b) || c
    by true b c = refl
    by false b c = refl

any_more : (p : Entry → Bool) (t : List Entry) (place : ℕ) → place < length t → list_any p (take (place + 1) t) ≡ (list_any p (take place t) || p (entry_at t place))
any_more p t place within = rw (take_more t place no_entry within, any_append p (take place t) (get_or t place no_entry ∷ [])) (ap (λ x. list_any p (take place t) || x) (or_false (p (get_or t place no_entry))))

pub marked_none : (test : ℕ → Entry → Bool) (t : List Entry) → MarkedTo test t 0 (replicate 128 false)
marked_none test t c low = get_or-replicate 128 c false false low

pub marked_more : (test : ℕ → Entry → Bool) (t : List Entry) (place : ℕ) (marks new : List Bool) (target : Option ℕ) → place < length t → MarkedTo test t place marks
    → ((c : ℕ) → c < 128 → get_or new c false ≡ (get_or marks c false || is_target c target)) → ((c : ℕ) → is_target c target ≡ test c (entry_at t place)) → MarkedTo test t (place + 1) new
marked_more test t place marks new target within marked is same c low = is c low ∙ rw (marked c low, same c) (sym (any_more (test c) t place within))

pub marked_all : (test : ℕ → Entry → Bool) (t : List Entry) (place : ℕ) (marks : List Bool) → length t ≤ place → MarkedTo test t place marks → AreMarked test t marks
marked_all test t place marks past marked c low = marked c low ∙ ap (list_any (test c)) (take_all place t past)
