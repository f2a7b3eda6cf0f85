-- What a text becomes: it is no longer, and it is left out only where it is one space that isn't seen.
use Rattle.std.proofs.Common.{◌≡◌, ℕ, suc, ◌≤◌, Bool, true, false, ◌&&◌, ◌||◌, ◌==◌, List, [], ◌∷◌, length, Option, if◌then◌else◌, ap, refl, arith}
use Rattle.hm_base.specs.Bytes.{is_space, is_null}
use Rattle.hm_base.specs.Walks.{Event, text, Element}
use denote.Ref.{Bor}
use Rattle.hm_tree.specs.Views.{event_of}
use Rattle.hm_tree.specs.declared.events.EventView.{EventView}
use Rattle.hm_tree.specs.declared.events.EventView.TheVariants as views
use Rattle.hm_options.specs.Fronts.{spaced_text}
use Rattle.hm_options.specs.Marks.{kept_count}
use Rattle.hm_options.specs.Space.{spaced, keeps_space, is_kept, hides_space, is_edge, without_leading, without_trailing, is_one_space, text_of, trimmed, collapsed_text, collapsed_event}

module _ (c : ℕ) (s : List ℕ) (shorter : (after : Bool) → length (spaced after s) ≤ length s) where
  space_short : (after : Bool) → length (if after then spaced true s else 32 ∷ spaced true s) ≤ suc (length s)
  space_short true = omega (arith, shorter true)
  space_short false = omega (arith, shorter true)

  byte_short : (b after : Bool) → length (if b then (if after then spaced true s else 32 ∷ spaced true s) else c ∷ spaced false s) ≤ suc (length s)
  byte_short true after = space_short after
  byte_short false after = omega (arith, shorter false)

pub spaced_short : (after : Bool) (s : List ℕ) → length (spaced after s) ≤ length s
spaced_short after [] = omega arith
spaced_short after (c ∷ s) = byte_short c s (λ a. spaced_short a s) (is_space c) after

some_by : (b : Bool) (c : ℕ) (s : List ℕ) → is_null (if b then 32 ∷ spaced true s else c ∷ spaced false s) ≡ false
some_by true c s = refl
some_by false c s = refl

-- something is left of a text
pub spaced_some : (s : List ℕ) → is_null s ≡ false → is_null (spaced false s) ≡ false
spaced_some [] h = absurd (cc)
spaced_some (c ∷ s) h = some_by (is_space c) c s

lead_short : (b : Bool) (c : ℕ) (s : List ℕ) → length (if b then s else c ∷ s) ≤ suc (length s)
lead_short true c s = omega arith
lead_short false c s = omega arith

pub without_leading_short : (edge : Bool) (s : List ℕ) → length (without_leading edge s) ≤ length s
without_leading_short edge [] = omega arith
without_leading_short edge (c ∷ s) = lead_short (edge && c == 32) c s

end_short : (b : Bool) (c : ℕ) → length (if b then [] else c ∷ []) ≤ 1
end_short true c = omega arith
end_short false c = omega arith

pub without_trailing_short : (edge : Bool) (s : List ℕ) → length (without_trailing edge s) ≤ length s
without_trailing_short edge [] = omega arith
without_trailing_short edge (c ∷ []) = end_short (edge && c == 32) c
without_trailing_short edge (c ∷ d ∷ s) = omega (arith, without_trailing_short edge (d ∷ s))

pub both_short : (first second : Bool) (s t u : List ℕ) → t ≡ without_leading first s → u ≡ without_trailing second t → length u ≤ length s
both_short first second s t u a b = omega (arith, ap length a, ap length b, without_leading_short first s, without_trailing_short second t)

and_false : (b : Bool) → b && false ≡ false
and_false true = refl
and_false false = refl

pub seen_elsewhere : (one hides r : Bool) → r ≡ hides → r ≡ false → one && hides ≡ false
seen_elsewhere one hides r is off = rw (← is, off) (and_false one)

pub seen_otherwise : (one hides r : Bool) → r ≡ one → r ≡ false → one && hides ≡ false
seen_otherwise one hides r is off = rw (← is, off) refl

module _ (path : List Element) (before next : Option Event) (s : List ℕ) where
  pub trimmed_seen : (first second : Bool) (t u : List ℕ) → is_one_space s && hides_space path ≡ false → first ≡ is_edge before → second ≡ is_edge next → t ≡ without_leading first s → u ≡ without_trailing second t
      → trimmed path before next s ≡ text_of u
  trimmed_seen first second t u seen a b c d = rw (seen, d, c, a, b) refl

  pub text_kept : (conservative : Bool) → is_kept path ≡ true → collapsed_text conservative path before next s ≡ text s false ∷ []
  text_kept conservative kept = rw kept refl

  pub text_shown : (conservative : Bool) → is_kept path ≡ false → collapsed_text conservative path before next s ≡ spaced_text conservative path before next (spaced false s)
  text_shown conservative shown = rw shown refl

one_kept : (b : Bool) (n : ℕ) → (if b then suc n else n) ≡ 0 → (b ≡ false) × (n ≡ 0)
one_kept true n h = absurd (omega arith)
one_kept false n h = (refl, h)

pub none_kept : (path : List Element) → kept_count path ≡ 0 → is_kept path ≡ false
none_kept [] h = refl
none_kept (e ∷ path) h =
    let parts = one_kept (keeps_space e) (kept_count path) h in
    rw (parts.0) (none_kept path parts.1)

kept_by : (b q : Bool) (n : ℕ) → ((n ≡ 0 → ⊥) → q ≡ true) → ((if b then suc n else n) ≡ 0 → ⊥) → b || q ≡ true
kept_by true q n more h = refl
kept_by false q n more h = more h

pub some_kept : (path : List Element) → (kept_count path ≡ 0 → ⊥) → is_kept path ≡ true
some_kept [] h = absurd (h refl)
some_kept (e ∷ path) h = kept_by (keeps_space e) (is_kept path) (kept_count path) (some_kept path) h

module _ (conservative : Bool) (path : List Element) (before next : Option Event) (s : List ℕ) where
  pub event_raw : (raw : Bool) → raw ≡ true → collapsed_event conservative path before (text s raw) next ≡ text s raw ∷ []
  event_raw raw is = rw is refl

  -- a text that is kept stays, raw or not
  pub event_kept : (raw : Bool) → is_kept path ≡ true → collapsed_event conservative path before (text s raw) next ≡ text s raw ∷ []
  event_kept true kept = refl
  event_kept false kept = text_kept path before next s conservative kept

-- what is no text stays
pub other_stays : (conservative : Bool) (path : List Element) (before next : Option Event) (e : EventView) → ((s : Bor (List ℕ)) (raw : Bool) → e ≡ views.Text s raw → ⊥) → collapsed_event conservative path before (event_of e) next ≡ event_of e ∷ []
other_stays conservative path before next (views.Doctype legacy) other = refl
other_stays conservative path before next (views.Start name foreign attrs) other = refl
other_stays conservative path before next (views.Text s raw) other = absurd (other s raw refl)
other_stays conservative path before next (views.Comment s) other = refl
other_stays conservative path before next (views.End name foreign) other = refl
