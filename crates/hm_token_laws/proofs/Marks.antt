-- Parts of a text that are cut at a mark.
use Rattle.std.proofs.Common.{◌≡◌, ℕ, ◌+◌, ◌<◌, ◌≤◌, Bool, true, false, cond, not, ◌&&◌, ◌||◌, ◌==◌, List, [], ◌∷◌, ◌++◌, length, Option, Some, None, refl, ap, sym, subst, ◌∙◌, arith, length-append}
use Rattle.std.proofs.lemmas.Bool.{and_parts, eqb-true, or_from}
use Rattle.hm_base.specs.Bytes.{Cut, cut_at, or_go_on, all_pass, is_null, is_letter}
use Rattle.hm_base.specs.Forms.{has_byte, has_mark}
use Rattle.hm_scan.specs.Comments.{begins, cut_where}
use Rattle.hm_scan.specs.Texts.{opens_markup, begins_markup}
use Rattle.hm_tree.specs.Tokens.{Seen}
use Rattle.hm_token_laws.specs.Laws.{IsPlain}
use Rattle.hm_token_laws.proofs.Plain.{plain_before, plain_from, plain_after_all}
use Rattle.hm_token_laws.proofs.References.{is_ascii, ascii_low}

-- ---- cuts

-- the text is cut where tail begins
pub record FoundAt (ends : List ℕ → Option (List ℕ)) (s : List ℕ) (k : Cut) : Type 0 where
  pub tail : List ℕ
  pub is : s ≡ k.before ++ tail
  pub found : ends tail ≡ Some k.after

pub found_at : (ends : List ℕ → Option (List ℕ)) (s : List ℕ) (k : Cut) → cut_where ends s ≡ Some k → FoundAt ends s k
found_at ends [] k h = absurd (cc)
found_at ends (c ∷ s) k h = by_end (ends (c ∷ s)) refl (cut_where ends s) refl h (λ j. found_at ends s j)
  where
    by_end : (o : Option (List ℕ)) → ends (c ∷ s) ≡ o → (p : Option Cut) → cut_where ends s ≡ p → or_go_on o c p ≡ Some k → ((j : Cut) → cut_where ends s ≡ Some j → FoundAt ends s j) → FoundAt ends (c ∷ s) k
    by_end (Some r) e p f h more = let is : record { before = []; after = r } ≡ k = cc in subst (FoundAt ends (c ∷ s)) is (record { tail = c ∷ s; is = refl; found = e })
    by_end None e None f h more = absurd (cc)
    by_end None e (Some j) f h more =
        let is : record { before = c ∷ j.before; after = j.after } ≡ k = cc in
        let m = more j f in
        subst (FoundAt ends (c ∷ s)) is (record { tail = m.tail; is = ap (λ x. c ∷ x) m.is; found = m.found })

-- a mark that ends the cut where it stands isn't before the cut
pub no_mark_before : (ends : List ℕ → Option (List ℕ)) (mark : List ℕ) → ((x y : List ℕ) → ends (x ++ y) ≡ None → begins mark x ≡ false)
    → (s : List ℕ) (k : Cut) → cut_where ends s ≡ Some k → has_mark mark k.before ≡ false
no_mark_before ends mark ended [] k h = absurd (cc)
no_mark_before ends mark ended (c ∷ s) k h = by_end (ends (c ∷ s)) refl (cut_where ends s) refl h (λ j. no_mark_before ends mark ended s j)
  where
    by_end : (o : Option (List ℕ)) → ends (c ∷ s) ≡ o → (p : Option Cut) → cut_where ends s ≡ p → or_go_on o c p ≡ Some k → ((j : Cut) → cut_where ends s ≡ Some j → has_mark mark j.before ≡ false) → has_mark mark k.before ≡ false
    by_end (Some r) e p f h more = let is : record { before = []; after = r } ≡ k = cc in subst (λ (j : Cut). has_mark mark j.before ≡ false) is refl
    by_end None e None f h more = absurd (cc)
    by_end None e (Some j) f h more =
        let is : record { before = c ∷ j.before; after = j.after } ≡ k = cc in
        let at = found_at ends s j f in
        let here : begins mark (c ∷ j.before) ≡ false = ended (c ∷ j.before) at.tail (subst (λ x. ends x ≡ None) (ap (λ x. c ∷ x) at.is) e) in
        subst (λ (j : Cut). has_mark mark j.before ≡ false) is (or_from (begins mark (c ∷ j.before)) (has_mark mark j.before) here (more j f))

-- up to the first of one byte
pub record ByteCut (d : ℕ) (s : List ℕ) (k : Cut) : Type 0 where
  pub is : s ≡ k.before ++ d ∷ k.after
  pub none : has_byte d k.before ≡ false

pub byte_cut : (d : ℕ) (s : List ℕ) (k : Cut) → cut_at (d ∷ []) s ≡ Some k → ByteCut d s k
byte_cut d [] k h = absurd (cc)
byte_cut d (c ∷ s) k h = by_test (d == c) refl (cut_at (d ∷ []) s) refl h (λ j. byte_cut d s j)
  where
    other : (d == c) ≡ false → (c == d) ≡ false
    other e = grind arith

    by_test : (b : Bool) → (d == c) ≡ b → (p : Option Cut) → cut_at (d ∷ []) s ≡ p → or_go_on (cond b (Some s) None) c p ≡ Some k → ((j : Cut) → cut_at (d ∷ []) s ≡ Some j → ByteCut d s j) → ByteCut d (c ∷ s) k
    by_test true e p f h more =
        let is : record { before = []; after = s } ≡ k = cc in
        let same : d ≡ c = eqb-true d c e in
        subst (ByteCut d (c ∷ s)) is (record { is = ap (λ x. x ∷ s) (sym same); none = refl })
    by_test false e None f h more = absurd (cc)
    by_test false e (Some j) f h more =
        let is : record { before = c ∷ j.before; after = j.after } ≡ k = cc in
        let m = more j f in
        subst (ByteCut d (c ∷ s)) is (record { is = ap (λ x. c ∷ x) m.is; none = or_from (c == d) (has_byte d j.before) (other e) m.none })

-- ---- a part of a text with ASCII bytes before and after it

pub record IsCut (s : List ℕ) (k : Cut) : Type 0 where
  pub mark : List ℕ
  pub before : List ℕ
  pub is : s ≡ before ++ (k.before ++ (mark ++ k.after))
  pub some : 1 ≤ length mark
  pub mark_low : all_pass is_ascii mark ≡ true
  pub before_low : all_pass is_ascii before ≡ true

pub record CutPlain (k : Cut) : Type 0 where
  pub before_plain : IsPlain k.before
  pub after_plain : IsPlain k.after

pub cut_plain : (s : List ℕ) (k : Cut) → IsCut s k → IsPlain s → CutPlain k
cut_plain s k c h = by_mark c.mark c.some c.mark_low (plain_after_all is_ascii c.before _ ascii_low c.before_low (subst IsPlain c.is h))
  where
    by_mark : (m : List ℕ) → 1 ≤ length m → all_pass is_ascii m ≡ true → IsPlain (k.before ++ (m ++ k.after)) → CutPlain k
    by_mark [] some low h = absurd (omega arith)
    by_mark (d ∷ m) some low h =
        let first = ascii_low d (and_parts (is_ascii d) (all_pass is_ascii m) low).0 in
        record { before_plain = plain_before k.before (m ++ k.after) d first h; after_plain = plain_after_all is_ascii (d ∷ m) k.after ascii_low low (plain_from k.before (m ++ k.after) d first h) }

pub record CutSize (s : List ℕ) (k : Cut) (before mark : ℕ) : Type 0 where
  pub whole : length s ≡ before + length k.before + mark + length k.after

pub cut_size : (s : List ℕ) (k : Cut) (c : IsCut s k) → CutSize s k (length c.before) (length c.mark)
cut_size s k c = record { whole = ap length c.is ∙ simp length-append (omega arith) }

-- ---- where markup begins

pub record MarkupShape (s : List ℕ) : Type 0 where
  pub second : ℕ
  pub more : List ℕ
  pub is : s ≡ 60 ∷ second ∷ more
  pub low : second < 128

second_low : (d : ℕ) (r : List ℕ) → is_letter d || (d == 33 || (d == 63 || (d == 47 && not (is_null r)))) ≡ true → d < 128
unfolding is_letter
second_low d r h = grind arith

pub markup_shape : (s : List ℕ) → begins_markup s ≡ true → MarkupShape s
unfolding begins_markup
markup_shape [] h = absurd (cc)
markup_shape (c ∷ []) h = let both = and_parts (c == 60) false h in absurd (cc)
markup_shape (c ∷ d ∷ r) h =
    let both = and_parts (c == 60) (opens_markup (d ∷ r)) h in
    let same : c ≡ 60 = eqb-true c 60 both.0 in
    record { second = d; more = r; is = ap (λ x. x ∷ d ∷ r) same; low = second_low d r both.1 }

-- ---- what a cut gives

-- the cut that gives a token
pub record IsTaken (o : Option Cut) (make : List ℕ → Seen) (token : Seen) (rest : List ℕ) : Type 0 where
  pub cut : Cut
  pub is : o ≡ Some cut
  pub token_is : make cut.before ≡ token
  pub rest_is : cut.after ≡ rest
