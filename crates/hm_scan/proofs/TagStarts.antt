-- Where a tag begins.
use Rattle.std.proofs.Common.{◌≡◌, ℕ, ◌+◌, ◌-◌, ◌<◌, ◌≤◌, Bool, true, false, cond, ◌||◌, ◌==◌, List, [], ◌∷◌, length, drop, get_or, Some, None, refl, ap, sym, ◌∙◌, arith, length-drop}
use Rattle.std.specs.Char.{is_ascii_alphabetic}
use Rattle.std.proofs.lemmas.List.{get_or-drop, drop-drop}
use Rattle.std.proofs.lemmas.Bool.Decides.{Decides-eqb}
use Rattle.hm_base.specs.Bytes.{head_is, is_letter}
use Rattle.hm_refs.specs.Names.{Entry}
use Rattle.hm_scan.specs.Reading.{read_start, read_end, read_tag, followed_by_letter, begins_tag}

-- where a tag begins

record Beginning (r : List ℕ) : Type 0 where
  second : ℕ
  more : List ℕ
  is : r ≡ 60 ∷ second ∷ more
  some : second ≡ 47 → 0 < length more

beginning : (r : List ℕ) → begins_tag r ≡ true → Beginning r
unfolding begins_tag
beginning [] h = absurd (cc)
beginning (c ∷ []) h = by_test (60 == c) h
  where
    by_test : (b : Bool) → followed_by_letter (cond b (Some []) None) || followed_by_letter (cond b None None) ≡ true → Beginning (c ∷ [])
    by_test true h = absurd (cc)
    by_test false h = absurd (cc)
beginning (c ∷ d ∷ r) h = by_test (60 == c) refl h
  where
    some_of : (q : List ℕ) → head_is is_letter q ≡ true → 0 < length q
    some_of [] h = absurd (cc)
    some_of (e ∷ q) h = omega arith

    slash : is_letter 47 ≡ false
    slash = unfold is_letter in refl

    last : is_letter d || followed_by_letter (cond (47 == d) (Some r) None) ≡ true → d ≡ 47 → 0 < length r
    last h e =
        let none : is_letter d ≡ false = ap is_letter e ∙ slash in
        let same : (47 == d) ≡ true = (Decides-eqb 47 d).1 (sym e) in
        some_of r (rw (none, same) at h)

    by_test : (b : Bool) → (60 == c) ≡ b → followed_by_letter (cond b (Some (d ∷ r)) None) || followed_by_letter (cond b (cond (47 == d) (Some r) None) None) ≡ true → Beginning (c ∷ d ∷ r)
    by_test true e h = record { second = d; more = r; is = ap (λ x. x ∷ d ∷ r) (sym ((Decides-eqb 60 c).0 e)); some = last h }
    by_test false e h = absurd (cc)

-- the bytes that a tag begins with
pub record Begins (s : List ℕ) (at : ℕ) : Type 0 where
  pub inside : at + 1 < length s
  pub first : get_or s at 0 ≡ 60
  pub some : get_or s (at + 1) 0 ≡ 47 → at + 2 < length s

second_is : (s : List ℕ) (at : ℕ) (b : Beginning (drop at s)) → get_or s (at + 1) 0 ≡ b.second
second_is s at b = sym (get_or-drop at s 1 0) ∙ ap (λ r. get_or r 1 0) b.is

pub tag_begins : (s : List ℕ) (at : ℕ) → begins_tag (drop at s) ≡ true → Begins s at
tag_begins s at h =
    let b : Beginning (drop at s) = beginning (drop at s) h in
    let long : length (drop at s) ≡ length s - at = length-drop at s in
    let count : length (drop at s) ≡ length b.more + 2 = ap length b.is ∙ omega arith in
    let here : at + 0 ≡ at = omega arith in
    record {
      inside = omega arith;
      first = ap (λ n. get_or s n 0) (sym here) ∙ sym (get_or-drop at s 0 0) ∙ ap (λ r. get_or r 0 0) b.is;
      some = λ e. let some : 0 < length b.more = b.some (sym (second_is s at b) ∙ e) in omega arith;
    }

after_first_byte : (s r : List ℕ) (at c : ℕ) → drop at s ≡ c ∷ r → drop (at + 1) s ≡ r
after_first_byte s r at c e = sym (drop-drop 1 at s) ∙ ap (drop 1) e

pub end_reads : (t : List Entry) (s : List ℕ) (at : ℕ) → begins_tag (drop at s) ≡ true → get_or s (at + 1) 0 ≡ 47 → read_tag t (drop at s) ≡ read_end (drop (at + 2) s)
unfolding read_tag
end_reads t s at h e =
    let b : Beginning (drop at s) = beginning (drop at s) h in
    let slash : b.second ≡ 47 = sym (second_is s at b) ∙ e in
    let rest : drop (at + 2) s ≡ b.more = sym (drop-drop 2 at s) ∙ ap (drop 2) b.is in
    ap (read_tag t) (b.is ∙ ap (λ d. 60 ∷ d ∷ b.more) slash) ∙ ap read_end (sym rest)

pub start_reads : (t : List Entry) (s : List ℕ) (at : ℕ) → begins_tag (drop at s) ≡ true → (get_or s (at + 1) 0 ≡ 47 → ⊥) → read_tag t (drop at s) ≡ read_start t (drop (at + 1) s)
unfolding read_tag
start_reads t s at h never =
    let b : Beginning (drop at s) = beginning (drop at s) h in
    let rest : drop (at + 1) s ≡ b.second ∷ b.more = after_first_byte s (b.second ∷ b.more) at 60 b.is in
    let other : (47 == b.second) ≡ false = elim (47 == b.second) as (λ x. (47 == b.second) ≡ x → x ≡ false) [ true ↦ λ e. absurd (never (second_is s at b ∙ sym ((Decides-eqb 47 b.second).0 e))) | false ↦ λ e. refl ] refl in
    ap (read_tag t) b.is ∙ rw other refl ∙ ap (read_start t) (sym rest)

pub alphabetic_is : (c : ℕ) → is_ascii_alphabetic c ≡ is_letter c
unfolding is_letter
alphabetic_is c = grind arith

pub short_begins : (s : List ℕ) → length s < 2 → begins_tag s ≡ false
unfolding begins_tag
short_begins [] h = refl
short_begins (c ∷ []) h = elim (60 == c) as (λ b. followed_by_letter (cond b (Some []) None) || followed_by_letter (cond b None None) ≡ false) [ true ↦ refl | false ↦ refl ]
short_begins (c ∷ d ∷ s) h = absurd (omega arith)

pub other_begins : (s : List ℕ) → (get_or s 0 0 ≡ 60 → ⊥) → begins_tag s ≡ false
unfolding begins_tag
other_begins [] never = refl
other_begins (c ∷ s) never = by_test (60 == c) refl
  where
    by_test : (b : Bool) → (60 == c) ≡ b → begins_tag (c ∷ s) ≡ false
    by_test true e = absurd (never (sym ((Decides-eqb 60 c).0 e)))
    by_test false e = rw e refl

pub end_begins : (s : List ℕ) → 2 ≤ length s → get_or s 0 0 ≡ 60 → get_or s 1 0 ≡ 47 → head_is is_letter (drop 2 s) ≡ begins_tag s
unfolding begins_tag is_letter
end_begins [] h e f = absurd (omega arith)
end_begins (c ∷ []) h e f = absurd (omega arith)
end_begins (c ∷ d ∷ s) h e f = rw (e, f) refl

pub start_begins : (s : List ℕ) → 2 ≤ length s → get_or s 0 0 ≡ 60 → (get_or s 1 0 ≡ 47 → ⊥) → head_is is_letter (drop 1 s) ≡ begins_tag s
unfolding begins_tag
start_begins [] h e never = absurd (omega arith)
start_begins (c ∷ []) h e never = absurd (omega arith)
start_begins (c ∷ d ∷ s) h e never =
    let other : (47 == d) ≡ false = elim (47 == d) as (λ x. (47 == d) ≡ x → x ≡ false) [ true ↦ λ e. absurd (never (sym ((Decides-eqb 47 d).0 e))) | false ↦ λ e. refl ] refl in
    rw (e, other) (sym (or_false (is_letter d)))
  where
    or_false : (a : Bool) → a || false ≡ a
    or_false true = refl
    or_false false = refl
