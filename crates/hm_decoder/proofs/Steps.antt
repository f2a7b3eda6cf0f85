-- A text that is fed: what one more piece of the page makes of it.
use Rattle.std.proofs.Common.{◌≡◌, ℕ, zero, suc, pred, ◌+◌, ◌<◌, ◌≤◌, Bool, true, false, cond, ◌&&◌, ◌==◌, nat_lt, List, [], ◌∷◌, ◌++◌, length, take, drop, Option, Some, None, is_some, refl, sym, ap, ap₂, subst, ◌∙◌, arith, length-append, append_assoc, append-nil, add-zero, zero-add, nat_eq, ⊎_elim}
use Rattle.std.specs.Str.{IsUtf8}
use Rattle.std.specs.Str.Lossy.{utf8_valid_len, utf8_error_len}
use Rattle.std.proofs.lemmas.Bool.{cases_lt, eq-eqb}
use Rattle.std.proofs.lemmas.Bool.Decides.{nat_tests}
use Rattle.std.proofs.lemmas.List.{take-append-drop}
use Rattle.std.proofs.lemmas.Str.{utf8_valid_len_le}
use Rattle.hm_base.specs.declared.rules.Rule.{Rule}
use Rattle.hm_base.specs.declared.rules.Rule.TheVariants as rules
use Rattle.hm_base.specs.Source.{earlier, refusal_at, zero_from, source_of}
use Rattle.hm_decoder.specs.Fed.{lasting_bad, lasting_fault, ends_with_return, decided_len, decided}
use Rattle.hm_decoder.specs.Pieces.{grown, told_at}
use Rattle.hm_decoder.proofs.Ends.{front_after, drop_past_front, valid_len_after}
use Rattle.hm_decoder.proofs.Faults.{zero_after, zero_front}
use Rattle.hm_decoder.proofs.Growing.{source_grows}
use Rattle.hm_decoder.proofs.Texts.{Cut, Left, cut, cuts_fine, len_whole, no_bad_there, text_is}
use Rattle.hm_decoder.proofs.Texts.Left.{nothing, return, front}

-- ---- faults after a text

abbrev moved : ℕ → Option ℕ → Option ℕ
moved n None = None
moved n (Some x) = Some (n + x)

lt_moved : (n z v : ℕ) → nat_lt (n + z) (n + v) ≡ nat_lt z v
lt_moved n z v = ⊎_elim
    (λ (h : z < v). let a : nat_lt (n + z) (n + v) ≡ true = grind (arith, nat_tests) in let b : nat_lt z v ≡ true = grind (arith, nat_tests) in a ∙ sym b)
    (λ (h : v ≤ z). let a : nat_lt (n + z) (n + v) ≡ false = grind (arith, nat_tests) in let b : nat_lt z v ≡ false = grind (arith, nat_tests) in a ∙ sym b)
    (cases_lt z v)

told_one : (n x : ℕ) (rule : Rule) → told_at 0 (Some (refusal_at rule (n + x))) ≡ told_at n (Some (refusal_at rule x))
told_one n x rule = ap (λ m. Some (rule, m)) (zero-add (n + x))

told_moved : (n : ℕ) (bad nul : Option ℕ) → told_at 0 (earlier (moved n bad) (moved n nul)) ≡ told_at n (earlier bad nul)
told_moved n None None = refl
told_moved n (Some v) None = told_one n v rules.NotUtf8
told_moved n None (Some z) = told_one n z rules.Nul
told_moved n (Some v) (Some z) = ap (λ b. told_at 0 (cond b (Some (refusal_at rules.Nul (n + z))) (Some (refusal_at rules.NotUtf8 (n + v))))) (lt_moved n z v) ∙ by (nat_lt z v)
  where
    by : (b : Bool) → told_at 0 (cond b (Some (refusal_at rules.Nul (n + z))) (Some (refusal_at rules.NotUtf8 (n + v)))) ≡ told_at n (cond b (Some (refusal_at rules.Nul z)) (Some (refusal_at rules.NotUtf8 v)))
    by true = told_one n z rules.Nul
    by false = told_one n v rules.NotUtf8

zero_moved : (s : List ℕ) (n m : ℕ) → zero_from (n + m) s ≡ moved n (zero_from m s)
zero_moved [] n m = refl
zero_moved (c ∷ s) n m = by (c == 0) (zero_moved s n (m + 1))
  where
    by : (b : Bool) → zero_from (n + (m + 1)) s ≡ moved n (zero_from (m + 1) s) → cond b (Some (n + m)) (zero_from (n + m + 1) s) ≡ moved n (cond b (Some m) (zero_from (m + 1) s))
    by true h = refl
    by false h = let next : n + m + 1 ≡ n + (m + 1) = omega arith in ap (λ k. zero_from k s) next ∙ h

bad_moved : (p b : List ℕ) → IsUtf8 p → lasting_bad (p ++ b) ≡ moved (length p) (lasting_bad b)
bad_moved p b u =
    let v = valid_len_after p b u in
    let rest : drop (utf8_valid_len (p ++ b)) (p ++ b) ≡ drop (utf8_valid_len b) b = ap (λ n. drop n (p ++ b)) v ∙ drop_past_front p b (utf8_valid_len b) in
    ap₂ (λ (x : Bool) (n : ℕ). cond x (Some n) None) (ap (λ l. is_some (utf8_error_len l)) rest) v ∙ by (is_some (utf8_error_len (drop (utf8_valid_len b) b)))
  where
    by : (x : Bool) → cond x (Some (length p + utf8_valid_len b)) None ≡ moved (length p) (cond x (Some (utf8_valid_len b)) None)
    by true = refl
    by false = refl

pub fault_after : (p b : List ℕ) → IsUtf8 p → zero_from 0 p ≡ None → told_at 0 (lasting_fault (p ++ b)) ≡ told_at (length p) (lasting_fault b)
fault_after p b u none =
    let zeros : zero_from 0 (p ++ b) ≡ moved (length p) (zero_from 0 b) = zero_after p b 0 none ∙ ap (λ n. zero_from n b) (let e : 0 + length p ≡ length p + 0 = omega arith in e) ∙ zero_moved b (length p) 0 in
    ap (told_at 0) (ap₂ earlier (bad_moved p b u) zeros) ∙ told_moved (length p) (lasting_bad b) (zero_from 0 b)

-- ---- the decided front after a text

ends_after : (p : List ℕ) (c : ℕ) (b : List ℕ) → ends_with_return (p ++ c ∷ b) ≡ ends_with_return (c ∷ b)
ends_after [] c b = refl
ends_after (d ∷ []) c b = refl
ends_after (d ∷ e ∷ p) c b = ends_after (e ∷ p) c b

same_moved : (n a b : ℕ) → (n + a == n + b) ≡ (a == b)
same_moved n a b = ⊎_elim
    (λ (h : a < b). let x : nat_eq (n + a) (n + b) ≡ false = grind (arith, nat_tests) in let y : nat_eq a b ≡ false = grind (arith, nat_tests) in x ∙ sym y)
    (λ (h : b ≤ a). ⊎_elim
    (λ (k : b < a). let x : nat_eq (n + a) (n + b) ≡ false = grind (arith, nat_tests) in let y : nat_eq a b ≡ false = grind (arith, nat_tests) in x ∙ sym y)
    (λ (k : a ≤ b). let e : a ≡ b = omega arith in ap (λ m. (n + m == n + b)) e ∙ eq-eqb (n + b) (n + b) refl ∙ sym (ap (λ m. (m == b)) e ∙ eq-eqb b b refl))
    (cases_lt b a))
    (cases_lt a b)

pub len_after : (p b : List ℕ) → IsUtf8 p → (b ≡ [] → ends_with_return p ≡ false) → decided_len (p ++ b) ≡ length p + decided_len b
unfolding decided_len utf8_valid_len
len_after p [] u h = ap decided_len (append-nil p) ∙ len_whole p u (h refl) ∙ sym (add-zero (length p))
len_after p (c ∷ b) u h =
    let v = valid_len_after p (c ∷ b) u in
    let size = length-append p (c ∷ b) in
    let test : (utf8_valid_len (p ++ c ∷ b) == length (p ++ c ∷ b)) ≡ (utf8_valid_len (c ∷ b) == length (c ∷ b)) = ap₂ (λ (x y : ℕ). (x == y)) v size ∙ same_moved (length p) (utf8_valid_len (c ∷ b)) (length (c ∷ b)) in
    let both = ap₂ (λ (x y : Bool). x && y) test (ends_after p c b) in
    let last : pred (length (p ++ c ∷ b)) ≡ length p + length b = (let next : length p + suc (length b) ≡ suc (length p + length b) = omega arith in ap pred (size ∙ next)) in
    ap (λ x. cond x (pred (length (p ++ c ∷ b))) (utf8_valid_len (p ++ c ∷ b))) both ∙ by ((utf8_valid_len (c ∷ b) == length (c ∷ b)) && ends_with_return (c ∷ b)) last v
  where
    by : (x : Bool) → pred (length (p ++ c ∷ b)) ≡ length p + length b → utf8_valid_len (p ++ c ∷ b) ≡ length p + utf8_valid_len (c ∷ b) → cond x (pred (length (p ++ c ∷ b))) (utf8_valid_len (p ++ c ∷ b)) ≡ length p + cond x (length b) (utf8_valid_len (c ∷ b))
    by true e f = e
    by false e f = f

pub decided_len_le : (s : List ℕ) → decided_len s ≤ length s
unfolding decided_len
decided_len_le s = by ((utf8_valid_len s == length s) && ends_with_return s) (length s) (utf8_valid_len_le s)
  where
    by : (x : Bool) (n : ℕ) → utf8_valid_len s ≤ n → cond x (pred n) (utf8_valid_len s) ≤ n
    by true zero l = omega arith
    by true (suc n) l = omega arith
    by false n l = l

-- ---- one more piece

nothing_left : (p rest x : List ℕ) → Left p rest → rest ++ x ≡ [] → ends_with_return p ≡ false
nothing_left p rest x (nothing h) e = h
nothing_left p rest x return e = cc
nothing_left p rest x (front c y h) e = cc

no_zero_in : (p rest : List ℕ) → zero_from 0 (p ++ rest) ≡ None → zero_from 0 p ≡ None
no_zero_in p rest h = by (zero_from 0 p) refl
  where
    by : (o : Option ℕ) → zero_from 0 p ≡ o → o ≡ None
    by None e = refl
    by (Some z) e = let f = zero_front p rest 0 z e in cc

pub record Step (fed x : List ℕ) (rest : List ℕ) : Type 0 where
  pub fault : told_at 0 (lasting_fault (fed ++ x)) ≡ told_at (decided_len fed) (lasting_fault (rest ++ x))
  pub len : decided_len (fed ++ x) ≡ decided_len fed + decided_len (rest ++ x)
  pub source : decided (fed ++ x) ≡ grown (decided fed) (take (decided_len (rest ++ x)) (rest ++ x))
  pub undecided : drop (decided_len (fed ++ x)) (fed ++ x) ≡ drop (decided_len (rest ++ x)) (rest ++ x)

pub step : (fed x : List ℕ) → lasting_fault fed ≡ None → Step fed x (drop (decided_len fed) fed)
step fed x none = subst (Step fed x) (sym rest_is) so
  where
    k : Cut fed
    k = cut fed none

    p : List ℕ
    p = k.text

    b : List ℕ
    b = k.rest ++ x

    rest_is : drop (decided_len fed) fed ≡ k.rest
    rest_is = ap (λ n. drop n fed) k.len ∙ ap (drop (length k.text)) k.is ∙ (let e : drop (length k.text + 0) (k.text ++ k.rest) ≡ drop 0 k.rest = drop_past_front k.text k.rest 0 in ap (λ n. drop n (k.text ++ k.rest)) (sym (add-zero (length k.text))) ∙ e)

    whole_is : fed ++ x ≡ k.text ++ (k.rest ++ x)
    whole_is = ap (λ l. l ++ x) k.is ∙ append_assoc k.text k.rest x

    len_is : decided_len (fed ++ x) ≡ length k.text + decided_len (k.rest ++ x)
    len_is = ap decided_len whole_is ∙ len_after k.text (k.rest ++ x) k.utf8 (λ e. nothing_left k.text k.rest x k.left e)

    so : Step fed x k.rest
    so =
        let none_there : zero_from 0 k.text ≡ None = no_zero_in k.text k.rest (ap (zero_from 0) (sym k.is) ∙ (no_bad_there (lasting_bad fed) (zero_from 0 fed) none).1) in
        let d = take (decided_len (k.rest ++ x)) (k.rest ++ x) in
        let z = drop (decided_len (k.rest ++ x)) (k.rest ++ x) in
        let fine = cuts_fine k.text k.rest x d z k.left (sym (take-append-drop (decided_len (k.rest ++ x)) (k.rest ++ x))) in
        let text : take (decided_len (fed ++ x)) (fed ++ x) ≡ k.text ++ d = ap₂ take len_is whole_is ∙ front_after k.text (k.rest ++ x) (decided_len (k.rest ++ x)) in
        record {
          fault = ap (λ l. told_at 0 (lasting_fault l)) whole_is ∙ fault_after k.text (k.rest ++ x) k.utf8 none_there ∙ ap (λ n. told_at n (lasting_fault (k.rest ++ x))) (sym k.len);
          len = len_is ∙ ap (λ n. n + decided_len (k.rest ++ x)) (sym k.len);
          source = ap source_of text ∙ source_grows k.text d k.utf8 fine ∙ ap (λ l. grown (source_of l) d) (sym (text_is fed k));
          undecided = ap₂ drop len_is whole_is ∙ drop_past_front k.text (k.rest ++ x) (decided_len (k.rest ++ x));
        }
