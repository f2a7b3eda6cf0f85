-- Line ends of a text that goes on, and a page that goes on.
use Rattle.std.proofs.Common.{◌≡◌, ℕ, suc, ◌+◌, ◌<◌, Bool, true, false, cond, ◌&&◌, ◌==◌, List, [], ◌∷◌, ◌++◌, length, refl, sym, ap, subst, ◌∙◌, arith, length-append, add-zero}
use Rattle.std.specs.Str.{IsUtf8, is_utf8, chars}
use Rattle.std.proofs.lemmas.Bool.{eqb-true}
use Rattle.std.proofs.lemmas.Str.{is_utf8-from_IsUtf8}
use Rattle.hm_base.specs.Bytes.{head_is}
use Rattle.hm_base.specs.Places.{start_of, mark_of, with_lines}
use Rattle.hm_base.specs.Source.{PlacedByte, numbered, pairs_joined, returns_replaced, without_mark, source_of}
use Rattle.hm_base.proofs.Mark.{mark_missing}
use Rattle.hm_base.proofs.Places.{same_source}
use Rattle.hm_decoder.specs.Fed.{ends_with_return}

abbrev pub is_feed : ℕ → Bool
is_feed c = c == 10

-- the cut between the two isn't one between CR and LF
abbrev pub CutsFine : List ℕ → List ℕ → Type 0
CutsFine p q = ends_with_return p ≡ true → head_is is_feed q ≡ false

abbrev pub lines : ℕ → List ℕ → List PlacedByte
lines n s = returns_replaced (pairs_joined (numbered n s))

-- a byte that is no CR before LF stands by itself
abbrev one_line : ℕ → ℕ → PlacedByte
one_line c n = record { byte = cond (c == 13) 10 c; place = n }

by_itself : (c d n : ℕ) (s : List ℕ) → (c == 13) && (d == 10) ≡ false → lines n (c ∷ d ∷ s) ≡ one_line c n ∷ lines (n + 1) (d ∷ s)
by_itself c d n s h = rw h refl

no_pair : (a b : Bool) → (a ≡ true → b ≡ false) → a && b ≡ false
no_pair true b h = h refl
no_pair false b h = refl

pub lines_more : (n : ℕ) (p q : List ℕ) → CutsFine p q → lines n (p ++ q) ≡ lines n p ++ lines (n + length p) q
lines_more n [] q h = ap (λ m. lines m q) (sym (add-zero n))
lines_more n (c ∷ []) [] h = refl
lines_more n (c ∷ []) (d ∷ q) h = by_itself c d n q (no_pair (c == 13) (d == 10) h)
lines_more n (c ∷ d ∷ p) q h = by ((c == 13) && (d == 10)) refl (lines_more (n + 1) (d ∷ p) q h) (lines_more (n + 1 + 1) p q (later p h))
  where
    later : (p : List ℕ) → (ends_with_return (c ∷ d ∷ p) ≡ true → head_is is_feed q ≡ false) → CutsFine p q
    later [] h = λ e. absurd (no e)
      where
        no : false ≡ true → ⊥
        no e = cc
    later (e ∷ p) h = h

    one : n + 1 + suc (length p) ≡ n + suc (suc (length p))
    one = omega arith

    two : n + 1 + 1 + length p ≡ n + suc (suc (length p))
    two = omega arith

    by : (b : Bool) → (c == 13) && (d == 10) ≡ b → lines (n + 1) (d ∷ (p ++ q)) ≡ lines (n + 1) (d ∷ p) ++ lines (n + 1 + suc (length p)) q → lines (n + 1 + 1) (p ++ q) ≡ lines (n + 1 + 1) p ++ lines (n + 1 + 1 + length p) q
        → lines n (c ∷ d ∷ (p ++ q)) ≡ lines n (c ∷ d ∷ p) ++ lines (n + suc (suc (length p))) q
    by true e k m = rw e (ap (λ r. record { byte = 10; place = n } ∷ r) m ∙ ap (λ i. (record { byte = 10; place = n } ∷ lines (n + 1 + 1) p) ++ lines i q) two)
    by false e k m = by_itself c d n (p ++ q) e ∙ ap (λ r. one_line c n ∷ r) (k ∙ ap (λ i. lines (n + 1) (d ∷ p) ++ lines i q) one) ∙ ap (λ r. r ++ lines (n + suc (suc (length p))) q) (sym (by_itself c d n p e))

-- ---- the mark

-- what begins a page, with the mark or without it
pub record Marked (s : List ℕ) : Type 0 where
  pub has_mark : Bool
  pub rest : List ℕ
  pub is : s ≡ mark_of has_mark ++ rest
  pub longer : (q : List ℕ) → without_mark (numbered 0 (s ++ q)) ≡ numbered (start_of has_mark) (rest ++ q)

alone : is_utf8 (0xEF ∷ []) ≡ false
unfolding is_utf8 chars
alone = refl

two_alone : is_utf8 (0xEF ∷ 0xBB ∷ []) ≡ false
unfolding is_utf8 chars
two_alone = refl

no : {b : Bool} → b ≡ true → b ≡ false → ⊥
no e f = cc

pub marked : (s : List ℕ) → IsUtf8 s → 0 < length s → Marked s
marked [] u h = absurd (omega arith)
marked (a ∷ []) u h = record { has_mark = false; rest = a ∷ []; is = refl; longer = λ q. mark_missing (a ∷ q) (λ rest e. absurd (differs (a ∷ []) a u refl (cc))) }
  where
    differs : (s : List ℕ) (a : ℕ) → IsUtf8 s → s ≡ a ∷ [] → a ≡ 0xEF → ⊥
    differs s a u e f = no (is_utf8-from_IsUtf8 s u) (rw (e, f) alone)
marked (a ∷ b ∷ []) u h = record { has_mark = false; rest = a ∷ b ∷ []; is = refl; longer = λ q. mark_missing (a ∷ b ∷ q) (λ rest e. absurd (differs (a ∷ b ∷ []) a b u refl (cc) (cc))) }
  where
    differs : (s : List ℕ) (a b : ℕ) → IsUtf8 s → s ≡ a ∷ b ∷ [] → a ≡ 0xEF → b ≡ 0xBB → ⊥
    differs s a b u e f g = no (is_utf8-from_IsUtf8 s u) (rw (e, f, g) two_alone)
marked (a ∷ b ∷ c ∷ s) u h = by ((a == 0xEF) && ((b == 0xBB) && (c == 0xBF))) refl
  where
    by : (m : Bool) → (a == 0xEF) && ((b == 0xBB) && (c == 0xBF)) ≡ m → Marked (a ∷ b ∷ c ∷ s)
    by true e = record { has_mark = true; rest = s; is = whole_mark (a == 0xEF) refl (b == 0xBB) refl (c == 0xBF) refl e; longer = λ q. rw e refl }
      where
        whole_mark : (x : Bool) → (a == 0xEF) ≡ x → (y : Bool) → (b == 0xBB) ≡ y → (z : Bool) → (c == 0xBF) ≡ z → x && (y && z) ≡ true → a ∷ b ∷ c ∷ s ≡ 0xEF ∷ 0xBB ∷ 0xBF ∷ s
        whole_mark true e true f true g h = let p = eqb-true a 0xEF e in let q = eqb-true b 0xBB f in let r = eqb-true c 0xBF g in rw (p, q, r) refl
        whole_mark true e true f false g h = cc
        whole_mark true e false f z g h = cc
        whole_mark false e y f z g h = cc
    by false e = record { has_mark = false; rest = a ∷ b ∷ c ∷ s; is = refl; longer = λ q. rw e refl }

-- ---- a page that goes on

length-mark_of : (b : Bool) → length (mark_of b) ≡ start_of b
length-mark_of true = refl
length-mark_of false = refl

-- After a text that has begun, more of the page adds its lines.
pub source_more : (p q : List ℕ) → IsUtf8 p → 0 < length p → CutsFine p q → source_of (p ++ q) ≡ with_lines (source_of p) q
source_more p q u some fine =
    let m = marked p u some in
    let start = start_of m.has_mark in
    let here : without_mark (numbered 0 p) ≡ numbered start m.rest = ap (λ s. without_mark (numbered 0 s)) (sym (nothing p)) ∙ m.longer [] ∙ ap (numbered start) (nothing m.rest) in
    let size : length p ≡ start + length m.rest = ap length m.is ∙ length-append (mark_of m.has_mark) m.rest ∙ ap (λ n. n + length m.rest) (length-mark_of m.has_mark) in
    let cut : lines start (m.rest ++ q) ≡ lines start m.rest ++ lines (start + length m.rest) q = lines_more start m.rest q (rest_fine m.has_mark m.rest p q m.is fine) in
    same_source _ _ _ _
    (ap (λ (s : List PlacedByte). returns_replaced (pairs_joined s)) (m.longer q) ∙ cut ∙ ap (λ (s : List PlacedByte). returns_replaced (pairs_joined s) ++ lines (start + length m.rest) q) (sym here)
    ∙ ap (λ n. returns_replaced (pairs_joined (without_mark (numbered 0 p))) ++ lines n q) (sym size))
    (length-append p q)
  where
    nothing : (s : List ℕ) → s ++ [] ≡ s
    nothing [] = refl
    nothing (c ∷ s) = ap (λ l. c ∷ l) (nothing s)

    -- a mark ends with no CR
    rest_fine : (b : Bool) (rest p q : List ℕ) → p ≡ mark_of b ++ rest → CutsFine p q → CutsFine rest q
    rest_fine false rest p q e h = subst (λ s. CutsFine s q) e h
    rest_fine true [] p q e h = λ k. cc
    rest_fine true (c ∷ rest) p q e h = subst (λ s. CutsFine s q) e h
