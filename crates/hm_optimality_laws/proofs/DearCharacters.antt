-- A dear character as itself breaks nothing that the '&' of a reference wouldn't break, and each reference to it has at least
-- three bytes more.
use Rattle.std.proofs.Common.{◌≡◌, ◌≤◌, ◌<◌, ℕ, Bool, true, false, cond, not, ◌&&◌, ◌||◌, ◌==◌, nat_lt, nat_le, bytes_eq, List, [], ◌∷◌, ◌++◌, length, Option, Some, None, is_some, encode_utf8, refl, sym, ap, ◌∙◌, subst, inl, inr, ◌⊎◌, arith, length-append}
use Rattle.std.specs.Fmt as fmt
use Rattle.std.specs.Fmt.{digits}
use Rattle.std.specs.List.{list_any}
use Rattle.std.specs.Prelude.{is_none}
use Rattle.std.proofs.lemmas.Slice.Eq.{bytes_eq-Decides}
use Rattle.std.proofs.lemmas.Str.{encode_ascii}
use Rattle.hm_base.specs.Bytes.{is_alnum, is_digit, is_digit_of, is_hex, is_letter, is_null}
use Rattle.hm_graph_laws.proofs.ChoiceLaws.{IsNamedChoice, named_is}
use Rattle.hm_graph_laws.proofs.In.{in_append}
use Rattle.hm_graph_laws.proofs.Numbers.{two_in}
use Rattle.hm_graph_laws.proofs.Runs.{Special, no_child, onto_none}
use Rattle.hm_graph_laws.specs.CharacterEdges.{Choice, as_itself, after_name, after_pair, by_decimal, by_hexadecimal, by_names, by_pairs, by_references, choice, half_of, itself_by, itself_to}
use Rattle.hm_graph_laws.specs.States.{Where, Pending, nothing, less_than, hash, hash_x, decimal, hexadecimal, ampersand, named, half, one_bracket, two_brackets, value_spot}
use Rattle.hm_graph_laws.specs.Steps.{ampersand_in_text, ampersand_in_value, is_root, named_in_value, onto, run, step}
use Rattle.hm_optimality_laws.proofs.FormChoices.{opens_none, value_is}
use Rattle.hm_graph_laws.specs.Forms.{gives_both, is_second, makes_cheap, may_be_costly, stands}
use Rattle.hm_refs.proofs.Bools.{eq_of}
use Rattle.hm_refs.specs.Names.{Entry, is_closed, is_name}
use Rattle.hm_refs.specs.Numbers.{best_number, point_of}
use Rattle.hm_refs.specs.References.{blocks, is_semicolon}
use Rattle.hm_refs.specs.Tables.{IsIn, IsTable, first, later}
use Rattle.hm_spelling_spec.specs.Characters.{CharacterRules, Spot, is_value, is_writable, may_stand, may_stand_in}

-- ---- Lists

pub any_in : {A : Type 0} (p : A → Bool) (x : A) (xs : List A) → IsIn x xs → p x ≡ true → list_any p xs ≡ true
any_in p x xs (first zs) h = rw h refl
any_in p x xs (later y zs i) h = by_test (p y) (any_in p x zs i h)
  where
    by_test : (b : Bool) → list_any p zs ≡ true → (b || list_any p zs) ≡ true
    by_test true k = refl
    by_test false k = k

none_in : {A : Type 0} (p : A → Bool) (x : A) (xs : List A) → IsIn x xs → list_any p xs ≡ false → p x ≡ false
none_in p x xs i h = by_test (p x) refl
  where
    by_test : (b : Bool) → p x ≡ b → b ≡ false
    by_test false e = refl
    by_test true e = let k = any_in p x xs i e in absurd (cc)

-- ---- The bytes that may be dear

-- A byte that goes on with nothing, and whose number has two digits
pub record Inert (c : ℕ) : Type 0 where
  pub special : Special c
  pub no_digit : is_digit c ≡ false
  pub no_hex : is_hex c ≡ false
  pub no_amp : (c == 38) ≡ false
  pub no_return : (c == 13) ≡ false
  pub blocks_is : blocks c ≡ (c == 61)
  pub low : nat_lt c 128 ≡ true
  pub number : best_number c ≡ Some c
  pub two_digits : length (fmt.decimal c) ≡ 2
  pub decimals : (nat_le 1000000 c && nat_le c 1048575) ≡ false

at_line_feed : Inert 10
unfolding is_alnum is_letter is_digit_of best_number point_of digits
at_line_feed = record { special = record { no_alnum = refl; no_semicolon = refl; no_hash = refl; no_x = refl }; no_digit = refl; no_hex = refl; no_amp = refl; no_return = refl; blocks_is = refl; low = refl; number = refl; two_digits = refl; decimals = refl }

at_form_feed : Inert 12
unfolding is_alnum is_letter is_digit_of best_number point_of digits
at_form_feed = record { special = record { no_alnum = refl; no_semicolon = refl; no_hash = refl; no_x = refl }; no_digit = refl; no_hex = refl; no_amp = refl; no_return = refl; blocks_is = refl; low = refl; number = refl; two_digits = refl; decimals = refl }

at_space : Inert 32
unfolding is_alnum is_letter is_digit_of best_number point_of digits
at_space = record { special = record { no_alnum = refl; no_semicolon = refl; no_hash = refl; no_x = refl }; no_digit = refl; no_hex = refl; no_amp = refl; no_return = refl; blocks_is = refl; low = refl; number = refl; two_digits = refl; decimals = refl }

at_double : Inert 34
unfolding is_alnum is_letter is_digit_of best_number point_of digits
at_double = record { special = record { no_alnum = refl; no_semicolon = refl; no_hash = refl; no_x = refl }; no_digit = refl; no_hex = refl; no_amp = refl; no_return = refl; blocks_is = refl; low = refl; number = refl; two_digits = refl; decimals = refl }

at_single : Inert 39
unfolding is_alnum is_letter is_digit_of best_number point_of digits
at_single = record { special = record { no_alnum = refl; no_semicolon = refl; no_hash = refl; no_x = refl }; no_digit = refl; no_hex = refl; no_amp = refl; no_return = refl; blocks_is = refl; low = refl; number = refl; two_digits = refl; decimals = refl }

at_less_than : Inert 60
unfolding is_alnum is_letter is_digit_of best_number point_of digits
at_less_than = record { special = record { no_alnum = refl; no_semicolon = refl; no_hash = refl; no_x = refl }; no_digit = refl; no_hex = refl; no_amp = refl; no_return = refl; blocks_is = refl; low = refl; number = refl; two_digits = refl; decimals = refl }

at_equals : Inert 61
unfolding is_alnum is_letter is_digit_of best_number point_of digits
at_equals = record { special = record { no_alnum = refl; no_semicolon = refl; no_hash = refl; no_x = refl }; no_digit = refl; no_hex = refl; no_amp = refl; no_return = refl; blocks_is = refl; low = refl; number = refl; two_digits = refl; decimals = refl }

at_greater_than : Inert 62
unfolding is_alnum is_letter is_digit_of best_number point_of digits
at_greater_than = record { special = record { no_alnum = refl; no_semicolon = refl; no_hash = refl; no_x = refl }; no_digit = refl; no_hex = refl; no_amp = refl; no_return = refl; blocks_is = refl; low = refl; number = refl; two_digits = refl; decimals = refl }

at_grave : Inert 96
unfolding is_alnum is_letter is_digit_of best_number point_of digits
at_grave = record { special = record { no_alnum = refl; no_semicolon = refl; no_hash = refl; no_x = refl }; no_digit = refl; no_hex = refl; no_amp = refl; no_return = refl; blocks_is = refl; low = refl; number = refl; two_digits = refl; decimals = refl }

one_of : (c n : ℕ) (b : Bool) → Inert n → (b ≡ true → Inert c) → (c == n || b) ≡ true → Inert c
one_of c n b i more h = by_test (c == n) refl h
  where
    by_test : (a : Bool) → (c == n) ≡ a → (a || b) ≡ true → Inert c
    by_test true e k = subst Inert (sym (eq_of c n e)) i
    by_test false e k = more k

pub inert : (c : ℕ) → may_be_costly c ≡ true → Inert c
inert c =
    one_of c 10 _ at_line_feed (one_of c 12 _ at_form_feed (one_of c 32 _ at_space (one_of c 34 _ at_double (one_of c 39 _ at_single
    (one_of c 60 _ at_less_than (one_of c 61 _ at_equals (one_of c 62 _ at_greater_than (λ h. subst Inert (sym (eq_of c 96 h)) at_grave))))))))

-- ---- Its references

-- a reference of four bytes or more, after which no code point is due
pub record IsLong (k : Choice) : Type 0 where
  pub four : 4 ≤ length k.bytes
  pub free : half_of k.to ≡ None

number_long : (c : ℕ) → Inert c → (k : Choice) → IsIn k (by_decimal (best_number c) ++ by_hexadecimal c) → IsLong k
number_long c i k j = by_two (two_in k _ _ here)
  where
    here : IsIn k (choice (38 ∷ 35 ∷ fmt.decimal c) decimal ∷ choice (38 ∷ 35 ∷ (fmt.decimal c ++ 59 ∷ [])) nothing ∷ [])
    here = rw (i.number, i.decimals) at j

    by_two : (k ≡ choice (38 ∷ 35 ∷ fmt.decimal c) decimal) ⊎ (k ≡ choice (38 ∷ 35 ∷ (fmt.decimal c ++ 59 ∷ [])) nothing) → IsLong k
    by_two (inl e) = subst IsLong (sym e) (record { four = let d = i.two_digits in omega (arith, d); free = refl })
    by_two (inr e) = subst IsLong (sym e) (record { four = let d = i.two_digits in omega (arith, d, length-append (fmt.decimal c) (59 ∷ [])); free = refl })

name_free : (m : List ℕ) → half_of (after_name m) ≡ None
unfolding after_name
name_free m = by_test (is_closed m)
  where
    by_test : (b : Bool) → half_of (cond b nothing (named m)) ≡ None
    by_test true = refl
    by_test false = refl

-- what no name of the table makes cheap has no short name, and no name that gives it and the next
abbrev pub IsDearIn : List Entry → ℕ → Option ℕ → Type 0
IsDearIn t c next = list_any (makes_cheap c next) t ≡ false

bytes_self : (s r : List ℕ) → s ≡ r → bytes_eq s r ≡ true
bytes_self s r e = (bytes_eq-Decides s r).1 e

names_long : (t : List Entry) (c : ℕ) (next : Option ℕ) → IsDearIn t c next → (k : Choice) → IsNamedChoice t after_name (c ∷ []) k → IsLong k
names_long t c next h k n = subst IsLong (sym n.choice_is) (record {
  four = by_tests (bytes_eq n.entry.points (c ∷ [])) (nat_lt (length n.entry.name) 4) _ refl (bytes_self n.entry.points (c ∷ []) n.points_are) (none_in (makes_cheap c next) n.entry t n.among h);
  free = name_free n.entry.name;
})
  where
    by_tests : (a b d : Bool) → nat_lt (length n.entry.name) 4 ≡ b → a ≡ true → ((a && b) || d) ≡ false → 4 ≤ length n.entry.name
    by_tests true true d e s m = absurd (cc)
    by_tests true false d e s m = grind (arith)
    by_tests false b d e s m = absurd (cc)

no_pairs : (t : List Entry) (c : ℕ) (next : Option ℕ) → IsDearIn t c next → (k : Choice) → IsIn k (by_pairs t c next) → ⊥
no_pairs t c None h k i = elim i [ ]
no_pairs t c (Some d) h k i =
    let n = named_is t after_pair (c ∷ d ∷ []) k i in
    by_tests (bytes_eq n.entry.points (c ∷ []) && nat_lt (length n.entry.name) 4) (is_second c n.entry.points) (gives_both c (Some d) n.entry.points) (bytes_self n.entry.points (c ∷ d ∷ []) n.points_are) (none_in (makes_cheap c (Some d)) n.entry t n.among h)
  where
    by_tests : (a b e : Bool) → e ≡ true → (a || (b || e)) ≡ false → ⊥
    by_tests true b e s m = cc
    by_tests false true e s m = cc
    by_tests false false e s m = cc

pub references_long : (t : List Entry) (c : ℕ) (next : Option ℕ) → Inert c → IsDearIn t c next → (k : Choice) → IsIn k (by_references t c next) → IsLong k
references_long t c next i h k j = by_first (in_append k (by_names after_name (c ∷ []) t) (by_pairs t c next ++ (by_decimal (best_number c) ++ by_hexadecimal c)) j)
  where
    by_second : IsIn k (by_pairs t c next) ⊎ IsIn k (by_decimal (best_number c) ++ by_hexadecimal c) → IsLong k
    by_second (inl l) = absurd (no_pairs t c next h k l)
    by_second (inr l) = number_long c i k l

    by_first : IsIn k (by_names after_name (c ∷ []) t) ⊎ IsIn k (by_pairs t c next ++ (by_decimal (best_number c) ++ by_hexadecimal c)) → IsLong k
    by_first (inl l) = names_long t c next h k (named_is t after_name (c ∷ []) k l)
    by_first (inr l) = by_second (in_append k (by_pairs t c next) (by_decimal (best_number c) ++ by_hexadecimal c) l)

-- ---- As itself

-- what is asked of what is pending: '=' stands after no name without ';'
abbrev pub Ready : ℕ → Pending → Type 0
Ready c (ampersand q) = is_null q ≡ false
Ready c (named q) = (c == 61) ≡ false
Ready c p = Prim.Unit {0}

and_false : (b : Bool) → b && false ≡ false
and_false true = refl
and_false false = refl

blocks_amp : blocks 38 ≡ false
unfolding is_alnum is_letter is_digit_of
blocks_amp = refl

amp_literal : (t : List Entry) → IsTable t → (q : List ℕ) (c : ℕ) → Inert c → is_null q ≡ false → is_some (ampersand_in_value t q 38) ≡ true → ampersand_in_value t q c ≡ Some nothing
unfolding ampersand_in_value
amp_literal t k q c i s h = by_tests (is_root q) (is_name t q) h
  where
    none : onto ampersand t q c ≡ Some nothing
    none = onto_none ampersand t q c (no_child t k q c s i.special.no_alnum i.special.no_semicolon)

    no_some : is_some (cond (blocks 38) (onto ampersand t q 38) None) ≡ true → ⊥
    no_some e = let b = blocks_amp in let f : is_some (cond (blocks 38) (onto ampersand t q 38) None) ≡ false = rw b refl in cc

    by_tests : (r n : Bool) → is_some (cond (r && false) (Some hash) (cond n (cond (blocks 38) (onto ampersand t q 38) None) (cond (is_name t (q ++ 38 ∷ []) && false) None (onto ampersand t q 38)))) ≡ true
        → cond (r && (35 == c)) (Some hash) (cond n (cond (blocks c) (onto ampersand t q c) None) (cond (is_name t (q ++ c ∷ []) && is_semicolon c) None (onto ampersand t q c))) ≡ Some nothing
    by_tests true true h = absurd (no_some h)
    by_tests false true h = absurd (no_some h)
    by_tests true false h = rw (i.special.no_hash, i.special.no_semicolon, and_false (is_name t (q ++ c ∷ [])), none) refl
    by_tests false false h = rw (i.special.no_semicolon, and_false (is_name t (q ++ c ∷ [])), none) refl

named_literal : (t : List Entry) (q : List ℕ) (c : ℕ) → Inert c → (c == 61) ≡ false → named_in_value t q c ≡ Some nothing
unfolding named_in_value
named_literal t q c i h = rw (i.blocks_is ∙ h, i.special.no_semicolon) refl

-- where '&' breaks nothing, the byte itself breaks nothing and leaves nothing pending
pub takes_itself : (t : List Entry) → IsTable t → (x : Spot) → is_value x ≡ true → (c : ℕ) → Inert c → (p : Pending) → Ready c p → is_some (step t x p 38) ≡ true → step t x p c ≡ Some nothing
takes_itself t k x v c i nothing r h = refl
takes_itself t k x v c i less_than r h = rw (opens_none x c v) refl
takes_itself t k x v c i decimal r h = rw (i.no_digit, i.special.no_semicolon) refl
takes_itself t k x v c i hexadecimal r h = rw (i.no_hex, i.special.no_semicolon) refl
takes_itself t k x v c i hash r h = rw (i.special.no_x, i.no_digit) refl
takes_itself t k x v c i hash_x r h = rw i.no_hex refl
takes_itself t k x v c i (ampersand q) r h =
    rw v (amp_literal t k q c i r (subst (λ b. is_some (cond b (ampersand_in_value t q 38) (ampersand_in_text t q 38)) ≡ true) v h))
takes_itself t k x v c i (named q) r h = rw v (named_literal t q c i r)
takes_itself t k x v c i (half left) r h = absurd (cc)
takes_itself t k x v c i one_bracket r h = absurd (cc)
takes_itself t k x v c i two_brackets r h = absurd (cc)

to_nothing : (x : Spot) (c : ℕ) → is_value x ≡ true → (c == 38) ≡ false → itself_to x c nothing ≡ nothing
to_nothing x c v h = rw (h, v, and_false (c == 60)) refl

costly_stands : (ascii : Bool) (at : Where) (c : ℕ) → Inert c → stands at c ≡ true → may_stand ascii (value_spot at) c ≡ true
unfolding may_stand is_writable
costly_stands ascii at c i h = by_tests ascii (c == 13) (may_stand_in (value_spot at) c) h
  where
    by_tests : (a r m : Bool) → (not r && m) ≡ true → (not r && (not a || (nat_lt c 128 || is_none (best_number c))) && m) ≡ true
    by_tests a true m k = absurd (cc)
    by_tests true false m k = rw i.low k
    by_tests false false m k = k

pub itself_is : (t : List Entry) (rules : CharacterRules) (at : Where) (c : ℕ) (p : Pending) → Inert c → stands at c ≡ true → step t (value_spot at) p c ≡ Some nothing → as_itself t rules (value_spot at) c p ≡ choice (c ∷ []) nothing ∷ []
unfolding as_itself
itself_is t rules at c p i h s =
    let low : c < 128 = let l = i.low in grind (arith) in
    let ran : run t (value_spot at) (Some p) (encode_utf8 c) ≡ Some nothing = ap (λ w. run t (value_spot at) (Some p) w) (encode_ascii c low) ∙ ap (λ o. run t (value_spot at) o []) s in
    rw (costly_stands rules.ascii at c i h, ran) (rw (encode_ascii c low, to_nothing (value_spot at) c (value_is at) i.no_amp) refl)

-- where it may not stand as itself
pub no_itself : (t : List Entry) (rules : CharacterRules) (at : Where) (c : ℕ) (p : Pending) → Inert c → stands at c ≡ false → as_itself t rules (value_spot at) c p ≡ []
unfolding as_itself may_stand
no_itself t rules at c p i h = by_test (may_stand_in (value_spot at) c) (rw i.no_return at h)
  where
    by_test : (m : Bool) → m ≡ false → cond (is_writable rules.ascii c && m) (itself_by (value_spot at) c (run t (value_spot at) (Some p) (encode_utf8 c))) [] ≡ []
    by_test true e = absurd (cc)
    by_test false e = rw (and_false (is_writable rules.ascii c)) refl
