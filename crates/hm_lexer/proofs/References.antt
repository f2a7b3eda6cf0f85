-- A reference that has ended is the same, whatever follows it.
use Rattle.std.proofs.Common.{◌≡◌, ℕ, ◌+◌, Bool, true, false, cond, not, ◌||◌, ◌==◌, List, [], ◌∷◌, ◌++◌, length, Option, Some, None, option_map, refl, sym, ap, ap₂, ◌∙◌, append_assoc}
use Rattle.std.proofs.lemmas.Bool.{eqb-true}
use Rattle.hm_base.specs.Bytes.{front, rest_after, head_is, is_null, is_alnum, is_digit_of, some_passes}
use Rattle.hm_refs.specs.Names.{Entry, points_of, Found, or_else, found_by, found_here, found, longest}
use Rattle.hm_refs.specs.Numbers.{point_of}
use Rattle.hm_refs.specs.References.{value_of, is_semicolon, numeric, hash, is_blocked, named, reference_by, reference}
use Rattle.hm_refs.specs.Tables.{IsTable}
use Rattle.hm_refs.proofs.Found.{here_none, no_empty_name, null_append, found_over, semicolon_longer}
use Rattle.hm_token_laws.specs.Decided.{goes_on}
use Rattle.hm_token_laws.proofs.Decided.{references_are_decided}
use Rattle.hm_lexer.specs.Ready.{ends_reference}
use Rattle.hm_lexer.specs.PartLaws.{ReferencesLast}

-- ---- up to a ';'

front_ends : (p : ℕ → Bool) (s y : List ℕ) → p 59 ≡ false → front p (s ++ 59 ∷ y) ≡ front p s
front_ends p [] y h = rw h refl
front_ends p (c ∷ s) y h = ap (λ x. cond (p c) (c ∷ x) []) (front_ends p s y h)

after_ends : (p : ℕ → Bool) (s y : List ℕ) → p 59 ≡ false → rest_after p (s ++ 59 ∷ y) ≡ rest_after p s ++ 59 ∷ y
after_ends p [] y h = rw h refl
after_ends p (c ∷ s) y h = elim (p c) as (λ b. cond b (rest_after p (s ++ 59 ∷ y)) (c ∷ (s ++ 59 ∷ y)) ≡ cond b (rest_after p s) (c ∷ s) ++ 59 ∷ y) [ true ↦ after_ends p s y h | false ↦ refl ]

head_same : (s x y : List ℕ) → head_is is_semicolon (s ++ 59 ∷ x) ≡ head_is is_semicolon (s ++ 59 ∷ y)
head_same [] x y = refl
head_same (c ∷ s) x y = refl

numeric_same : (before base : ℕ) (ds r x y : List ℕ) → numeric before base ds (r ++ 59 ∷ x) ≡ numeric before base ds (r ++ 59 ∷ y)
numeric_same before base [] r x y = refl
numeric_same before base (c ∷ ds) r x y = ap (λ b. Some (record { points = point_of (value_of base (c ∷ ds)) ∷ []; len = before + length (c ∷ ds) + cond b 1 0 })) (head_same r x y)

digits_same : (before base : ℕ) (s x y : List ℕ) → is_digit_of base 59 ≡ false
    → numeric before base (front (is_digit_of base) (s ++ 59 ∷ x)) (rest_after (is_digit_of base) (s ++ 59 ∷ x)) ≡ numeric before base (front (is_digit_of base) (s ++ 59 ∷ y)) (rest_after (is_digit_of base) (s ++ 59 ∷ y))
digits_same before base s x y h =
    rw (front_ends (is_digit_of base) s x h, front_ends (is_digit_of base) s y h, after_ends (is_digit_of base) s x h, after_ends (is_digit_of base) s y h)
    (numeric_same before base (front (is_digit_of base) s) (rest_after (is_digit_of base) s) x y)

no_decimal : is_digit_of 10 59 ≡ false
unfolding is_digit_of
no_decimal = refl

no_hexadecimal : is_digit_of 16 59 ≡ false
unfolding is_digit_of
no_hexadecimal = refl

hash_same : (s x y : List ℕ) → hash (s ++ 59 ∷ x) ≡ hash (s ++ 59 ∷ y)
hash_same [] x y = digits_same 2 10 [] x y no_decimal
hash_same (c ∷ s) x y = ap₂ (λ a b. cond (120 == c || 88 == c) a b) (digits_same 3 16 s x y no_hexadecimal) (digits_same 2 10 (c ∷ s) x y no_decimal)

with_more : List ℕ → Found → Found
with_more y f = record { name = f.name; points = f.points; rest = f.rest ++ y }

here_more : (t : List Entry) (q s y : List ℕ) → found_here t q (s ++ y) ≡ option_map (with_more y) (found_here t q s)
unfolding found_here with_more
here_more t q s y = by (points_of t q)
  where
    by : (o : Option (List ℕ)) → found_by q (s ++ y) o ≡ option_map (with_more y) (found_by q s o)
    by None = refl
    by (Some ps) = refl

or_else_more : (y : List ℕ) (a b : Option Found) → or_else (option_map (with_more y) a) (option_map (with_more y) b) ≡ option_map (with_more y) (or_else a b)
or_else_more y None b = refl
or_else_more y (Some f) b = refl

-- after a ';' no name goes on
found_closed : (t : List Entry) → IsTable t → (q y : List ℕ) → is_null q ≡ false → found t (q ++ 59 ∷ []) y ≡ found_here t (q ++ 59 ∷ []) y
found_closed t k q y some = found_over t (q ++ 59 ∷ []) y ∙ ap (λ o. or_else o (found_here t (q ++ 59 ∷ []) y)) (semicolon_longer t k q y some)

found_more : (t : List Entry) → IsTable t → (q s y : List ℕ) → is_null q ≡ false → found t q (s ++ 59 ∷ y) ≡ option_map (with_more y) (found t q (s ++ 59 ∷ []))
found_more t k q [] y some =
    let one : found t (q ++ 59 ∷ []) y ≡ option_map (with_more y) (found t (q ++ 59 ∷ []) []) = found_closed t k q y some ∙ here_more t (q ++ 59 ∷ []) [] y ∙ ap (option_map (with_more y)) (sym (found_closed t k q [] some)) in
    ap₂ or_else one (here_more t q (59 ∷ []) y) ∙ or_else_more y (found t (q ++ 59 ∷ []) []) (found_here t q (59 ∷ []))
found_more t k q (c ∷ s) y some =
    let here : found_here t q (c ∷ (s ++ 59 ∷ y)) ≡ option_map (with_more y) (found_here t q (c ∷ (s ++ 59 ∷ []))) = ap (λ x. found_here t q (c ∷ x)) (sym (append_assoc s (59 ∷ []) y)) ∙ here_more t q (c ∷ (s ++ 59 ∷ [])) y in
    ap₂ or_else (found_more t k (q ++ c ∷ []) s y (null_append q c)) here ∙ or_else_more y (found t (q ++ c ∷ []) (s ++ 59 ∷ [])) (found_here t q (c ∷ (s ++ 59 ∷ [])))

longest_more : (t : List Entry) → IsTable t → (s y : List ℕ) → longest t (38 ∷ (s ++ 59 ∷ y)) ≡ option_map (with_more y) (longest t (38 ∷ (s ++ 59 ∷ [])))
longest_more t k s y =
    rw (here_none t [] (38 ∷ (s ++ 59 ∷ y)) (no_empty_name t k), here_none t [] (38 ∷ (s ++ 59 ∷ [])) (no_empty_name t k), found_more t k (38 ∷ []) s y refl) (or_else_more y (found t (38 ∷ []) (s ++ 59 ∷ [])) None)

-- in text what stands after a name doesn't matter
named_more : (o : Option Found) (y : List ℕ) → named false (option_map (with_more y) o) ≡ named false o
unfolding with_more is_blocked
named_more None y = refl
named_more (Some f) y = refl

semicolon_same : (t : List Entry) → IsTable t → (s x y : List ℕ) → reference t false (38 ∷ (s ++ 59 ∷ x)) ≡ reference t false (38 ∷ (s ++ 59 ∷ y))
unfolding reference
semicolon_same t k [] x y = names []
  where
    names : (s : List ℕ) → named false (longest t (38 ∷ (s ++ 59 ∷ x))) ≡ named false (longest t (38 ∷ (s ++ 59 ∷ y)))
    names s = ap (named false) (longest_more t k s x) ∙ named_more (longest t (38 ∷ (s ++ 59 ∷ []))) x ∙ sym (ap (named false) (longest_more t k s y) ∙ named_more (longest t (38 ∷ (s ++ 59 ∷ []))) y)
semicolon_same t k (c ∷ s) x y = by (35 == c)
  where
    names : (s : List ℕ) → named false (longest t (38 ∷ (s ++ 59 ∷ x))) ≡ named false (longest t (38 ∷ (s ++ 59 ∷ y)))
    names s = ap (named false) (longest_more t k s x) ∙ named_more (longest t (38 ∷ (s ++ 59 ∷ []))) x ∙ sym (ap (named false) (longest_more t k s y) ∙ named_more (longest t (38 ∷ (s ++ 59 ∷ []))) y)

    by : (b : Bool) → reference_by t false (cond b (Some (s ++ 59 ∷ x)) None) (38 ∷ c ∷ (s ++ 59 ∷ x)) ≡ reference_by t false (cond b (Some (s ++ 59 ∷ y)) None) (38 ∷ c ∷ (s ++ 59 ∷ y))
    by true = hash_same s x y
    by false = names (c ∷ s)

-- ---- up to the first byte that ends it

record Ended (s : List ℕ) : Type 0 where
  before : List ℕ
  stop : ℕ
  rest : List ℕ
  is : s ≡ before ++ stop ∷ rest
  ends : ends_reference stop ≡ true

ended : (s : List ℕ) → some_passes ends_reference s ≡ true → Ended s
ended [] h = cc
ended (c ∷ s) h = by (ends_reference c) refl h (ended s)
  where
    by : (b : Bool) → ends_reference c ≡ b → b || some_passes ends_reference s ≡ true → (some_passes ends_reference s ≡ true → Ended s) → Ended (c ∷ s)
    by true e h more = record { before = []; stop = c; rest = s; is = refl; ends = e }
    by false e h more = let k = more h in record { before = c ∷ k.before; stop = k.stop; rest = k.rest; is = ap (λ l. c ∷ l) k.is; ends = k.ends }

stops_here : (c : ℕ) → ends_reference c ≡ true → (c == 59) ≡ false → goes_on false c ≡ false
unfolding goes_on
stops_here c h e = by (is_alnum c) (c == 35) h (c == 59) e
  where
    by : (a b : Bool) → not (a || b) ≡ true → (d : Bool) → d ≡ false → a || (d || (b || false)) ≡ false
    by true b h d e = cc
    by false true h d e = cc
    by false false h d e = rw e refl

at_stop : (t : List Entry) → IsTable t → (s : List ℕ) (c : ℕ) (x y : List ℕ) → ends_reference c ≡ true → (b : Bool) → (c == 59) ≡ b → reference t false (38 ∷ (s ++ c ∷ x)) ≡ reference t false (38 ∷ (s ++ c ∷ y))
at_stop t k s c x y h true e = let same : c ≡ 59 = eqb-true c 59 e in rw same (semicolon_same t k s x y)
at_stop t k s c x y h false e = references_are_decided t false s c x k (stops_here c h e) ∙ sym (references_are_decided t false s c y k (stops_here c h e))

pub references_last : ReferencesLast
references_last t s y k h =
    let e = ended s h in
    let longer : s ++ y ≡ e.before ++ e.stop ∷ (e.rest ++ y) = ap (λ l. l ++ y) e.is ∙ append_assoc e.before (e.stop ∷ e.rest) y in
    ap (λ l. reference t false (38 ∷ l)) longer ∙ at_stop t k e.before e.stop (e.rest ++ y) e.rest e.ends (e.stop == 59) refl ∙ ap (λ l. reference t false (38 ∷ l)) (sym e.is)
