-- A cut of a text is the same cut of a longer text.
use Rattle.std.proofs.Common.{◌≡◌, ℕ, ◌≤◌, Bool, true, false, cond, ◌==◌, List, [], ◌∷◌, ◌++◌, length, Option, Some, None, option_map, refl, ap, ◌∙◌, arith}
use Rattle.hm_base.specs.Bytes.{Cut, cut_at, strip, with_first, or_go_on}
use Rattle.hm_scan.specs.Comments.{cut_where}

-- one test, taken on both sides
pub cond_both : {A B : Type 0} (R : A → B → Type 0) (b : Bool) {x y : A} {u v : B} → R x u → R y v → R (cond b x y) (cond b u v)
cond_both R true p q = p
cond_both R false p q = q

-- what was found is found in the longer text, with more after it
abbrev pub RestExtends : List ℕ → Option (List ℕ) → Option (List ℕ) → Type 0
RestExtends y None b = Unit {0}
RestExtends y (Some r) b = b ≡ Some (r ++ y)

abbrev pub CutExtends : List ℕ → Option Cut → Option Cut → Type 0
CutExtends y None b = Unit {0}
CutExtends y (Some k) b = b ≡ Some (record k { after = k.after ++ y })

-- what is found takes at least n bytes of s
abbrev pub Takes : ℕ → List ℕ → Option (List ℕ) → Type 0
Takes n s None = Unit {0}
Takes n s (Some r) = n ≤ length s

-- What ends finds is found in a longer text too. Where it finds nothing in n bytes or more, it finds nothing in
-- a longer text, and what it finds takes at least n bytes but one.
pub record Looks (ends : List ℕ → Option (List ℕ)) (n : ℕ) : Type 0 where
  pub extends : (s y : List ℕ) → RestExtends y (ends s) (ends (s ++ y))
  pub whole : (s y : List ℕ) → n ≤ length s → ends s ≡ None → ends (s ++ y) ≡ None
  pub long : (s : List ℕ) → Takes n (0 ∷ s) (ends s)

pub strip_takes : (mark s : List ℕ) → Takes (length mark) s (strip mark s)
strip_takes [] s = omega arith
strip_takes (c ∷ p) [] = tt
strip_takes (c ∷ p) (d ∷ s) = elim (c == d) as (λ b. Takes (length (c ∷ p)) (d ∷ s) (cond b (strip p s) None)) [ true ↦ longer (strip p s) (strip_takes p s) | false ↦ tt ]
  where
    longer : (o : Option (List ℕ)) → Takes (length p) s o → Takes (length (c ∷ p)) (d ∷ s) o
    longer None h = tt
    longer (Some r) h = omega arith

pub strip_extends : (mark s y : List ℕ) → RestExtends y (strip mark s) (strip mark (s ++ y))
strip_extends [] s y = refl
strip_extends (c ∷ p) [] y = tt
strip_extends (c ∷ p) (d ∷ s) y = cond_both (RestExtends y) (c == d) (strip_extends p s y) tt

pub strip_whole : (mark s y : List ℕ) → length mark ≤ length s → strip mark (s ++ y) ≡ option_map (λ r. r ++ y) (strip mark s)
strip_whole [] s y h = refl
strip_whole (c ∷ p) [] y h = absurd (omega arith)
strip_whole (c ∷ p) (d ∷ s) y h = elim (c == d) as (λ b. cond b (strip p (s ++ y)) None ≡ option_map (λ r. r ++ y) (cond b (strip p s) None))
    [ true ↦ strip_whole p s y (omega arith) | false ↦ refl ]

pub strip_looks : (mark : List ℕ) → Looks (strip mark) (length mark)
strip_looks mark = record {
  extends = strip_extends mark;
  whole = λ s y h e. strip_whole mark s y h ∙ ap (option_map (λ r. r ++ y)) e;
  long = λ s. longer s (strip mark s) (strip_takes mark s);
}
  where
    longer : (s : List ℕ) (o : Option (List ℕ)) → Takes (length mark) s o → Takes (length mark) (0 ∷ s) o
    longer s None h = tt
    longer s (Some r) h = omega arith

abbrev pub CutTakes : ℕ → List ℕ → Option Cut → Type 0
CutTakes n s None = Unit {0}
CutTakes n s (Some k) = n ≤ length s

pub cut_takes : (ends : List ℕ → Option (List ℕ)) (n : ℕ) → Looks ends n → (s : List ℕ) → CutTakes n (0 ∷ s) (cut_where ends s)
cut_takes ends n looks [] = tt
cut_takes ends n looks (d ∷ s) = either (ends (d ∷ s)) (cut_where ends s) (looks.long (d ∷ s)) (cut_takes ends n looks s)
  where
    either : (o : Option (List ℕ)) (k : Option Cut) → Takes n (0 ∷ d ∷ s) o → CutTakes n (0 ∷ s) k → CutTakes n (0 ∷ d ∷ s) (or_go_on o d k)
    either (Some r) k h i = h
    either None None h i = tt
    either None (Some k) h i = omega arith

with_first_extends : (d : ℕ) (y : List ℕ) (a b : Option Cut) → CutExtends y a b → CutExtends y (with_first d a) (with_first d b)
with_first_extends d y None b h = tt
with_first_extends d y (Some k) b h = rw h refl

pub cut_extends : (ends : List ℕ → Option (List ℕ)) (n : ℕ) → Looks ends n → (s y : List ℕ) → CutExtends y (cut_where ends s) (cut_where ends (s ++ y))
cut_extends ends n looks [] y = tt
cut_extends ends n looks (d ∷ s) y = either (ends (d ∷ s)) (cut_where ends s) refl (looks.extends (d ∷ s) y) (cut_takes ends n looks s) (cut_extends ends n looks s y)
  where
    either : (o : Option (List ℕ)) (k : Option Cut) → ends (d ∷ s) ≡ o → RestExtends y o (ends (d ∷ (s ++ y))) → CutTakes n (0 ∷ s) k → CutExtends y k (cut_where ends (s ++ y)) → CutExtends y (or_go_on o d k) (cut_where ends ((d ∷ s) ++ y))
    either (Some r) k e x h i = rw x refl
    either None None e x h i = tt
    either None (Some k) e x h i =
        let none : ends (d ∷ (s ++ y)) ≡ None = looks.whole (d ∷ s) y h e in
        rw none (with_first_extends d y (Some k) (cut_where ends (s ++ y)) i)

-- a cut at a mark
pub cut_at_where : (mark s : List ℕ) → cut_at mark s ≡ cut_where (strip mark) s
cut_at_where mark [] = refl
cut_at_where mark (c ∷ s) = ap (or_go_on (strip mark (c ∷ s)) c) (cut_at_where mark s)

pub cut_at_extends : (mark s y : List ℕ) → CutExtends y (cut_at mark s) (cut_at mark (s ++ y))
cut_at_extends mark s y = rw (cut_at_where mark s, cut_at_where mark (s ++ y)) (cut_extends (strip mark) (length mark) (strip_looks mark) s y)
