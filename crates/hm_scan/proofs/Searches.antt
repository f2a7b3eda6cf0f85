-- From the first place that a search finds to the cut of a text.
use Rattle.std.proofs.Common.{◌≡◌, ℕ, zero, suc, ◌+◌, ◌-◌, ◌<◌, ◌≤◌, Bool, true, false, cond, ◌==◌, List, [], ◌∷◌, ◌++◌, length, drop, take, get_or, Option, Some, None, refl, ap, sym, subst, ◌∙◌, arith, add-zero, length-drop, length-append}
use Rattle.std.proofs.lemmas.List.{drop-drop, drop_at, get_or-drop}
use Rattle.std.proofs.lemmas.List.Prefix.{at_from_reads, at_reads, front_fits, front_reads}
use Rattle.std.proofs.lemmas.Bool.Decides.{Decides-eqb}
use Rattle.memchr.specs.Find.{IsFirstByte, OccursAt, Passes, is_byte}
use Rattle.hm_base.specs.Bytes.{cut_at, strip}
use Rattle.hm_base.specs.RawText.{is_found}
use Rattle.hm_scan.specs.Comments.{begins, cut_where}
use Rattle.hm_scan.specs.Found.{IsFound, IsMarkEnd}
use Rattle.hm_scan.proofs.Cuts.{cut_at_where}

-- the cut at the first place where ends finds something
pub cut_first : (ends : List ℕ → Option (List ℕ)) (s : List ℕ) (n : ℕ) (r : List ℕ) → n < length s → ((k : ℕ) → k < n → ends (drop k s) ≡ None) → ends (drop n s) ≡ Some r → cut_where ends s ≡ Some (record { before = take n s; after = r })
cut_first ends [] n r h none found = absurd (omega arith)
cut_first ends (c ∷ s) zero r h none found = rw found refl
cut_first ends (c ∷ s) (suc n) r h none found =
    let passed : ends (c ∷ s) ≡ None = none 0 (omega arith) in
    rw (passed, cut_first ends s n r (omega arith) (λ k l. none (suc k) (omega arith)) found) refl

pub cut_none : (ends : List ℕ → Option (List ℕ)) (s : List ℕ) → ((k : ℕ) → k < length s → ends (drop k s) ≡ None) → cut_where ends s ≡ None
cut_none ends [] none = refl
cut_none ends (c ∷ s) none =
    let passed : ends (c ∷ s) ≡ None = none 0 (omega arith) in
    rw (passed, cut_none ends s (λ k l. none (suc k) (omega arith))) refl

-- a mark at the start
pub strip_front : (mark r : List ℕ) → strip mark (mark ++ r) ≡ Some r
strip_front [] r = refl
strip_front (c ∷ mark) r = let same : (c == c) ≡ true = (Decides-eqb c c).1 refl in rw (same, strip_front mark r) refl

pub front_stripped : (mark s r : List ℕ) → strip mark s ≡ Some r → s ≡ mark ++ r
front_stripped [] s r e = cc
front_stripped (c ∷ mark) [] r e = cc
front_stripped (c ∷ mark) (d ∷ s) r e = either (c == d) refl e (front_stripped mark s r)
  where
    either : (b : Bool) → (c == d) ≡ b → cond b (strip mark s) None ≡ Some r → (strip mark s ≡ Some r → s ≡ mark ++ r) → d ∷ s ≡ (c ∷ mark) ++ r
    either true f g more = let same : c ≡ d = (Decides-eqb c d).0 f in rw (same, sym (more g)) refl
    either false f g more = cc

-- a mark at a place, as a search finds it
pub occurs_stripped : (mark s : List ℕ) (k : ℕ) → OccursAt s mark k → strip mark (drop k s) ≡ Some (drop (k + length mark) s)
occurs_stripped mark s k o = rw (at_from_reads 0 s mark k o.fits o.reads) (strip_front mark (drop (k + length mark) s))

pub not_stripped : (mark s : List ℕ) (k : ℕ) → k < length s → (OccursAt s mark k → ⊥) → strip mark (drop k s) ≡ None
not_stripped mark s k inside never = either (strip mark (drop k s)) refl
  where
    either : (o : Option (List ℕ)) → strip mark (drop k s) ≡ o → o ≡ None
    either None e = refl
    either (Some r) e =
        let front : drop k s ≡ mark ++ r = front_stripped mark (drop k s) r e in
        let long : length s - k ≡ length mark + length r = sym (length-drop k s) ∙ ap length front ∙ length-append mark r in
        absurd (never (record { fits = omega arith; reads = at_reads 0 s mark k r front }))

-- one byte as a mark
one_occurs : (s : List ℕ) (m k : ℕ) → k < length s → Passes (is_byte m) s k → OccursAt s (m ∷ []) k
one_occurs s m k inside passes = record { fits = omega arith; reads = reads }
  where
    reads : (j : ℕ) → j < 1 → get_or s (k + j) 0 ≡ get_or (m ∷ []) j 0
    reads zero h = rw add-zero ((Decides-eqb (get_or s k 0) m).0 passes)
    reads (suc j) h = absurd (omega arith)

one_passes : (s : List ℕ) (m k : ℕ) → OccursAt s (m ∷ []) k → Passes (is_byte m) s k
one_passes s m k o = (Decides-eqb (get_or s k 0) m).1 (rw add-zero at (o.reads 0 (omega arith)))

-- the piece up to the first end
pub found_end : (ends : List ℕ → Option (List ℕ)) (s : List ℕ) (from to n : ℕ) → from ≤ to → to ≤ length s → ((k : ℕ) → from ≤ k → k < to → ends (drop k s) ≡ None)
    → IsMarkEnd ends (drop to s) n → IsFound s from (cut_where ends (drop from s)) (record { from = from; to = to; after = to + n })
found_end ends s from to n low high none end =
    let long : length (drop to s) ≡ length s - to = length-drop to s in
    let fits : n ≤ length s - to = subst (λ m. n ≤ m) long end.inside in
    let some : 0 < n = end.some in
    let all : length (drop from s) ≡ length s - from = length-drop from s in
    let head : get_or (drop to s) 0 0 ≡ get_or s to 0 = get_or-drop to s 0 0 ∙ ap (λ m. get_or s m 0) (omega arith) in
    let last : get_or (drop to s) (n - 1) 0 ≡ get_or s (to + n - 1) 0 = get_or-drop to s (n - 1) 0 ∙ ap (λ m. get_or s m 0) (omega arith) in
    let there : drop (to - from) (drop from s) ≡ drop to s = drop-drop (to - from) from s ∙ ap (λ m. drop m s) (omega arith) in
    let passed : (k : ℕ) → k < to - from → ends (drop k (drop from s)) ≡ None = λ k h. rw (drop-drop k from s) (none (from + k) (omega arith) (omega arith)) in
    let found : ends (drop (to - from) (drop from s)) ≡ Some (drop n (drop to s)) = rw there end.is in
    record {
      starts = refl;
      ordered = low;
      ends = omega arith;
      inside = omega arith;
      first = rw head at end.first;
      last = rw last at end.last;
      is = cut_first ends (drop from s) (to - from) (drop n (drop to s)) (omega arith) passed found ∙ rw (drop-drop n to s) refl;
    }

pub no_end : (ends : List ℕ → Option (List ℕ)) (s : List ℕ) (from : ℕ) → ((k : ℕ) → from ≤ k → k < length s → ends (drop k s) ≡ None) → cut_where ends (drop from s) ≡ None
no_end ends s from none =
    let long : length (drop from s) ≡ length s - from = length-drop from s in
    cut_none ends (drop from s) (λ k h. rw (drop-drop k from s) (none (from + k) (omega arith) (omega arith)))

-- the piece up to a mark, by its first place after `from`
pub found_piece : (s mark : List ℕ) (from k : ℕ) → OccursAt (drop from s) mark k → ((j : ℕ) → j < k → OccursAt (drop from s) mark j → ⊥)
    → 0 < length mark → get_or mark 0 0 < 128 → get_or mark (length mark - 1) 0 < 128 → from ≤ length s
    → IsFound s from (cut_at mark (drop from s)) (record { from = from; to = from + k; after = from + k + length mark })
found_piece s mark from k o none some first last inside =
    let long : length (drop from s) ≡ length s - from = length-drop from s in
    let fits : k + length mark ≤ length s - from = subst (λ n. k + length mark ≤ n) long o.fits in
    let here : drop k (drop from s) ≡ drop (from + k) s = drop-drop k from s in
    let reads : (j : ℕ) → j < length mark → get_or (drop (from + k) s) j 0 ≡ get_or mark j 0 = λ j h. rw (sym here, get_or-drop k (drop from s) j 0) (o.reads j h) in
    let passed : (j : ℕ) → from ≤ j → j < from + k → strip mark (drop j s) ≡ None =
    λ j low high. let at : from + (j - from) ≡ j = omega arith in
    subst (λ m. strip mark (drop m s) ≡ None) at (rw drop-drop at (not_stripped mark (drop from s) (j - from) (omega arith) (none (j - from) (omega arith)))) in
    let rest : length (drop (from + k) s) ≡ length s - (from + k) = length-drop (from + k) s in
    let beyond : drop (k + length mark) (drop from s) ≡ drop (length mark) (drop (from + k) s) = drop-drop (k + length mark) from s ∙ ap (λ m. drop m s) (omega arith) ∙ sym (drop-drop (length mark) (from + k) s) in
    let end : IsMarkEnd (strip mark) (drop (from + k) s) (length mark) = record {
      some = some;
      inside = omega arith;
      first = rw (reads 0 some) first;
      last = rw (reads (length mark - 1) (omega arith)) last;
      is = rw (here, beyond) at (occurs_stripped mark (drop from s) k o);
    } in
    rw (cut_at_where mark (drop from s)) (found_end (strip mark) s from (from + k) (length mark) (omega arith) (omega arith) passed end)

pub found_none : (s mark : List ℕ) (from : ℕ) → ((j : ℕ) → j < length (drop from s) → OccursAt (drop from s) mark j → ⊥) → cut_at mark (drop from s) ≡ None
found_none s mark from none = cut_at_where mark (drop from s) ∙ cut_none (strip mark) (drop from s) (λ k h. not_stripped mark (drop from s) k h (none k h))

-- what a search for a byte finds
pub byte_piece : (s : List ℕ) (m from k : ℕ) → m < 128 → from ≤ length s → IsFirstByte (is_byte m) (drop from s) (Some k)
    → IsFound s from (cut_at (m ∷ []) (drop from s)) (record { from = from; to = from + k; after = from + k + 1 })
byte_piece s m from k ascii inside h =
    found_piece s (m ∷ []) from k (one_occurs (drop from s) m k h.0.high h.1) (λ j l o. h.0.before j (omega arith) l (one_passes (drop from s) m j o)) (omega arith) ascii ascii inside

pub byte_none : (s : List ℕ) (m from : ℕ) → IsFirstByte (is_byte m) (drop from s) None → cut_at (m ∷ []) (drop from s) ≡ None
byte_none s m from h = found_none s (m ∷ []) from (λ j l o. h j (omega arith) l (one_passes (drop from s) m j o))

-- a mark that the text begins with
pub begins_front : (mark s : List ℕ) → begins mark s ≡ true → strip mark s ≡ Some (drop (length mark) s)
begins_front mark s e = either (strip mark s) refl e
  where
    either : (o : Option (List ℕ)) → strip mark s ≡ o → is_found o ≡ true → strip mark s ≡ Some (drop (length mark) s)
    either None f g = cc
    either (Some r) f g = f ∙ ap Some (sym (ap (drop (length mark)) (front_stripped mark s r f) ∙ drop_at mark r (length mark) refl))

pub begins_not : (mark s : List ℕ) → begins mark s ≡ false → strip mark s ≡ None
begins_not mark s e = either (strip mark s) refl e
  where
    either : (o : Option (List ℕ)) → strip mark s ≡ o → is_found o ≡ false → o ≡ None
    either None f g = refl
    either (Some r) f g = cc

pub begins_long : (mark s : List ℕ) → begins mark s ≡ true → length mark ≤ length s
begins_long mark s e = front_fits s mark (drop (length mark) s) (front_stripped mark s (drop (length mark) s) (begins_front mark s e))

pub begins_reads : (mark s : List ℕ) → begins mark s ≡ true → (j : ℕ) → j < length mark → get_or s j 0 ≡ get_or mark j 0
begins_reads mark s e = front_reads 0 s mark (drop (length mark) s) (front_stripped mark s (drop (length mark) s) (begins_front mark s e))
