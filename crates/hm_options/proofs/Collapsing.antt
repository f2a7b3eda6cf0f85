-- Whitespace collapsed event by event.
use Rattle.std.proofs.Common.{ℕ, suc, ◌≤◌, Bool, true, false, ◌&&◌, List, [], ◌∷◌, length, Option, if◌then◌else◌, refl, arith}
use Rattle.hm_base.specs.Walks.{Event, doctype, start, text, comment, end, Element}
use Rattle.hm_options.specs.Marks.{kept_count}
use Rattle.hm_options.specs.Space.{spaced, keeps_space, is_kept, hides_space, is_edge, without_leading, without_trailing, is_one_space, text_of, trimmed, collapsed_event}
use Rattle.hm_options.proofs.Rewriting.{NoLonger}
use Rattle.hm_options.proofs.Trims.{spaced_short, both_short}

pub stays_no_longer : (e : Event) → NoLonger e (e ∷ [])
stays_no_longer e = record { path = λ p. refl; count = omega arith; size = omega arith }

text_no_longer : (s t : List ℕ) (raw : Bool) → length t ≤ length s → NoLonger (text s raw) (text t raw ∷ [])
text_no_longer s t raw short = record { path = λ p. refl; count = omega arith; size = omega (arith, short) }

none_no_longer : (s : List ℕ) (raw : Bool) → NoLonger (text s raw) []
none_no_longer s raw = record { path = λ p. refl; count = omega arith; size = omega arith }

text_of_no_longer : (s t : List ℕ) → length t ≤ length s → NoLonger (text s false) (text_of t)
text_of_no_longer s [] short = none_no_longer s false
text_of_no_longer s (c ∷ t) short = text_no_longer s (c ∷ t) false short

one_of : (s : List ℕ) (b : Bool) (xs ys : List Event) → NoLonger (text s false) xs → NoLonger (text s false) ys → NoLonger (text s false) (if b then xs else ys)
one_of s true xs ys x y = x
one_of s false xs ys x y = y

module _ (conservative : Bool) (path : List Element) (before next : Option Event) where
  trimmed_no_longer : (s t : List ℕ) → length t ≤ length s → NoLonger (text s false) (trimmed path before next t)
  trimmed_no_longer s t short =
      let cut : length (without_trailing (is_edge next) (without_leading (is_edge before) t)) ≤ length s =
      omega (arith, short, both_short (is_edge before) (is_edge next) t (without_leading (is_edge before) t) (without_trailing (is_edge next) (without_leading (is_edge before) t)) refl refl) in
      one_of s (is_one_space t && hides_space path) [] (text_of (without_trailing (is_edge next) (without_leading (is_edge before) t))) (none_no_longer s false) (text_of_no_longer s _ cut)

  -- an event becomes nothing that is longer
  pub collapsed_no_longer : (e : Event) → NoLonger e (collapsed_event conservative path before e next)
  collapsed_no_longer (doctype legacy) = stays_no_longer (doctype legacy)
  collapsed_no_longer (start n foreign attributes) = stays_no_longer (start n foreign attributes)
  collapsed_no_longer (text s true) = stays_no_longer (text s true)
  collapsed_no_longer (text s false) =
      one_of s (is_kept path) (text s false ∷ []) (if conservative then text (spaced false s) false ∷ [] else trimmed path before next (spaced false s)) (stays_no_longer (text s false))
      (one_of s conservative (text (spaced false s) false ∷ []) (trimmed path before next (spaced false s)) (text_no_longer s (spaced false s) false (spaced_short false s)) (trimmed_no_longer s (spaced false s) (spaced_short false s)))
  collapsed_no_longer (comment s) = stays_no_longer (comment s)
  collapsed_no_longer (end n foreign) = stays_no_longer (end n foreign)

kept_one : (b : Bool) (n k : ℕ) → n ≤ k → (if b then suc n else n) ≤ suc k
kept_one true n k h = omega (arith, h)
kept_one false n k h = omega (arith, h)

pub kept_within : (path : List Element) → kept_count path ≤ length path
kept_within [] = omega arith
kept_within (e ∷ path) = kept_one (keeps_space e) (kept_count path) (length path) (kept_within path)
