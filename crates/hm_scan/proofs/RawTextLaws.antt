-- Where raw text ends, whatever follows its end tag.
use Rattle.std.proofs.Common.{◌≡◌, ℕ, suc, ◌+◌, ◌≤◌, ◌<◌, Bool, true, false, cond, List, [], ◌∷◌, ◌++◌, map, length, take, drop, Option, Some, None, refl, sym, ap, subst, ◌∙◌, arith, append_assoc, length-append}
use Rattle.std.proofs.lemmas.List.{length-take-le, take-append-drop, take_at, drop_at, length-map}
use Rattle.hm_base.specs.Bytes.{strip, strip_word, lower}
use Rattle.hm_base.specs.RawText.{is_found_whole, begins_end_tag, place_from, raw_end}
use Rattle.hm_tree.specs.Tokens.{taken, slice, Extends}
use Rattle.hm_scan.specs.Pieces.{slice_up_to}
use Rattle.hm_scan.specs.RawTexts.{read_raw}
use Rattle.hm_scan.proofs.Lowered.{whole_lower, whole_front, whole_word, whole_longer}

map-append : (xs ys : List ℕ) → map lower (xs ++ ys) ≡ map lower xs ++ map lower ys
map-append [] ys = refl
map-append (x ∷ xs) ys = ap (λ r. lower x ∷ r) (map-append xs ys)

-- before an end tag a text is seen up to the name of the tag
pub lowered_before : (w t e : List ℕ) → is_found_whole (strip_word w e) ≡ true → (r : List ℕ) × (map lower (t ++ e) ≡ (map lower t ++ w) ++ r)
lowered_before w t e h =
    let q = whole_word w e h in
    (q.0, map-append t e ∙ ap (λ x. map lower t ++ x) q.1 ∙ sym (append_assoc (map lower t) w q.0))

-- a word that is no longer than the tag's, at a byte before the tag
pub whole_before : (v w t e : List ℕ) (c : ℕ) → length v ≤ length w → is_found_whole (strip_word w e) ≡ true
    → is_found_whole (strip_word v (c ∷ (t ++ e))) ≡ is_found_whole (strip v (map lower (c ∷ t) ++ w))
whole_before v w t e c low h =
    let q = lowered_before w (c ∷ t) e h in
    let long : length v < length (map lower (c ∷ t) ++ w) = simp (length-append, length-map) (omega arith) in
    whole_lower v (c ∷ (t ++ e)) ∙ ap (λ x. is_found_whole (strip v x)) q.1 ∙ whole_front v (map lower (c ∷ t) ++ w) q.0 long

-- a text that begins with the end tag
pub place_first : (name s : List ℕ) (i : ℕ) → begins_end_tag name s ≡ true → place_from (begins_end_tag name) i s ≡ Some i
unfolding begins_end_tag
place_first name [] i h = cc
place_first name (c ∷ s) i h = rw h refl

-- where the end tag was found
pub place_found : (passes : List ℕ → Bool) (i : ℕ) (s : List ℕ) (n : ℕ) → place_from passes i s ≡ Some n → (k : ℕ) × (n ≡ i + k) × (k < length s) × (passes (drop k s) ≡ true)
place_found passes i [] n found = cc
place_found passes i (c ∷ s) n found = either (passes (c ∷ s)) refl found (place_found passes (suc i) s n)
  where
    either : (b : Bool) → passes (c ∷ s) ≡ b → cond b (Some i) (place_from passes (suc i) s) ≡ Some n
        → (place_from passes (suc i) s ≡ Some n → (k : ℕ) × (n ≡ suc i + k) × (k < length s) × (passes (drop k s) ≡ true))
        → (k : ℕ) × (n ≡ i + k) × (k < length (c ∷ s)) × (passes (drop k (c ∷ s)) ≡ true)
    either true e f more = let same : i ≡ n = cc in (0, omega arith, omega arith, e)
    either false e f more = let q = more f in (suc q.0, omega (arith, q.1), omega (arith, q.2), q.3)

-- another end tag of the same name ends the same text
module _ (name e e' : List ℕ) (ends : begins_end_tag name e ≡ true) (ends' : begins_end_tag name e' ≡ true) where
  begins_same : (t : List ℕ) (c : ℕ) → begins_end_tag name (c ∷ (t ++ e)) ≡ begins_end_tag name (c ∷ (t ++ e'))
  unfolding begins_end_tag
  begins_same t c = whole_before (60 ∷ 47 ∷ name) (60 ∷ 47 ∷ name) t e c (omega arith) ends ∙ sym (whole_before (60 ∷ 47 ∷ name) (60 ∷ 47 ∷ name) t e' c (omega arith) ends')

  pub place_same : (t : List ℕ) (i n : ℕ) → n ≡ i + length t → place_from (begins_end_tag name) i (t ++ e) ≡ Some n → place_from (begins_end_tag name) i (t ++ e') ≡ Some n
  place_same [] i n at found = let same : i ≡ n = omega arith in rw same (place_first name e' n ends')
  place_same (c ∷ t) i n at found =
      rw (sym (begins_same t c)) (
      elim (begins_end_tag name (c ∷ (t ++ e))) as (λ b. cond b (Some i) (place_from (begins_end_tag name) (suc i) (t ++ e)) ≡ Some n → cond b (Some i) (place_from (begins_end_tag name) (suc i) (t ++ e')) ≡ Some n)
      [ true ↦ λ f. f | false ↦ λ f. place_same t (suc i) n (omega arith) f ] found)

-- the text before the end tag is read
pub raw_read : (name t e e' : List ℕ) → begins_end_tag name e' ≡ true → raw_end name (t ++ e) ≡ Some (length t) → read_raw name (t ++ e') ≡ taken (slice t) e'
unfolding read_raw
raw_read name t e e' ends found =
    let q = place_found (begins_end_tag name) 0 (t ++ e) (length t) found in
    let at : q.0 ≡ length t = omega (arith, q.1) in
    let ends_first : begins_end_tag name e ≡ true = rw (drop_at t e (length t) refl) at (subst (λ k. begins_end_tag name (drop k (t ++ e)) ≡ true) at q.3) in
    rw (place_same name e e' ends_first ends t 0 (length t) (omega arith) found, take_at t e' (length t) refl, drop_at t e' (length t) refl) refl

-- a text is what stands before a place and what stands from there on
pub parted : (s y : List ℕ) (n : ℕ) → s ++ y ≡ take n s ++ (drop n s ++ y)
parted s y n = ap (λ x. x ++ y) (sym (take-append-drop n s)) ∙ append_assoc (take n s) (drop n s) y

pub begins_longer : (name s y : List ℕ) → begins_end_tag name s ≡ true → begins_end_tag name (s ++ y) ≡ true
unfolding begins_end_tag
begins_longer name s y h = whole_longer (60 ∷ 47 ∷ name) s y h

pub raw_extends : (name s y : List ℕ) → Extends y (read_raw name s) (read_raw name (s ++ y))
unfolding read_raw
raw_extends name s y = either (raw_end name s) refl
  where
    either : (o : Option ℕ) → raw_end name s ≡ o → Extends y (slice_up_to s o) (read_raw name (s ++ y))
    either None e = tt
    either (Some n) e =
        let q = place_found (begins_end_tag name) 0 s n e in
        let at : q.0 ≡ n = omega (arith, q.1) in
        let inside : n < length s = omega (arith, q.2) in
        let taken_all : length (take n s) ≡ n = length-take-le n s (omega arith) in
        let ends : begins_end_tag name (drop n s) ≡ true = subst (λ k. begins_end_tag name (drop k s) ≡ true) at q.3 in
        let found : raw_end name (take n s ++ drop n s) ≡ Some (length (take n s)) = rw (take-append-drop n s, taken_all) e in
        rw (parted s y n) (raw_read name (take n s) (drop n s) (drop n s ++ y) (begins_longer name (drop n s) y ends) found)
