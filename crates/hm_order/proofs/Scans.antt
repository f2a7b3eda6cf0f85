-- Easy characters, one after the other.
use Rattle.std.proofs.Common.{Option, Some, ◌&&◌, ◌≡◌, ◌<◌, ◌+◌, ◌≤◌, ℕ, Bool, true, false, not, ◌||◌, ◌==◌, nat_lt, List, [], ◌∷◌, ◌++◌, length, slice_index_or, take, refl, sym, ap, ◌∙◌, subst, inl, inr, ◌⊎◌, append_assoc, append-nil, chars, encode_utf8, arith}
use Rattle.std.proofs.lemmas.Bool.Decides.{nat_tests}
use Rattle.std.proofs.lemmas.List.{nil_from_length, take_more}
use Rattle.std.proofs.lemmas.Str.{chars_from_encodes, encodes-append}
use Rattle.std.specs.Prelude.{encode_utf8_all}
use Rattle.std.specs.List.{list_all}
use Rattle.std.specs.Str.{IsUtf8}
use Rattle.hm_refs.specs.Names.{Entry}
use Rattle.hm_refs.specs.Plain.{is_plain, is_plain_byte, plain_bytes, allows}
use Rattle.hm_base.specs.Bytes.{all_pass, is_space}
use Rattle.hm_refs.proofs.Bools.{and_left}
use Rattle.hm_refs.proofs.FlagLaws.{plain_passes}
use Rattle.hm_refs.specs.Tables.{entry_at}
use Rattle.hm_graph_laws.specs.States.{nothing, Pending}
use Rattle.hm_spelling_spec.specs.Characters.{double, is_barred, is_writable}
use Rattle.hm_order.proofs.Easy.{run_nothing}
use Rattle.hm_order.specs.Weights.{AreEasy, AreHeavy, IsEasy, IsHeavy, literal, literals, some_barred, total, weight}

heavy_push : (t : List Entry) (low : Bool) (is : List ℕ) (i : ℕ) → AreHeavy (weight low) t is → total (weight low) (entry_at t i).points ≤ length (entry_at t i).name → AreHeavy (weight low) t (is ++ i ∷ [])
heavy_push t low [] i h k = (k, tt)
heavy_push t low (x ∷ is) i h k = (h.0, heavy_push t low is i h.1 k)

pub heavy_more : (t : List Entry) (low : Bool) (is : List ℕ) (n i : ℕ) → n < length is → i ≡ slice_index_or is n i → AreHeavy (weight low) t (take n is) → total (weight low) (entry_at t i).points ≤ length (entry_at t i).name → AreHeavy (weight low) t (take (n + 1) is)
heavy_more t low is n i inside at h k = subst (AreHeavy (weight low) t) (sym (take_more is n i inside ∙ ap (λ y. take n is ++ y ∷ []) (sym at))) (heavy_push t low (take n is) i h k)

pub easy_push : (t : List Entry) (ascii low : Bool) (cs : List ℕ) (c : ℕ) → AreEasy t ascii low cs → IsEasy t ascii low c → AreEasy t ascii low (cs ++ c ∷ [])
easy_push t ascii low [] c h k = (k, tt)
easy_push t ascii low (x ∷ cs) c h k = (h.0, easy_push t ascii low cs c h.1 k)

pub or_false : (x : Bool) → (x || false) ≡ x
or_false true = refl
or_false false = refl

or_assoc : (x y z : Bool) → ((x || y) || z) ≡ (x || (y || z))
or_assoc true y z = refl
or_assoc false y z = refl

pub barred_push : (cs : List ℕ) (c : ℕ) → some_barred (cs ++ c ∷ []) ≡ (some_barred cs || is_barred c)
barred_push [] c = or_false (is_barred c)
barred_push (x ∷ cs) c = ap (λ b. is_barred x || b) (barred_push cs c) ∙ sym (or_assoc (is_barred x) (some_barred cs) (is_barred c))

unequal : (c d : ℕ) → (c ≡ d → ⊥) → (c == d) ≡ false
unequal c d h = grind (arith, nat_tests, h)

below : (c : ℕ) → c < 128 → nat_lt c 128 ≡ true
below c h = grind (arith, nat_tests, h)

pub easy_from : (t : List Entry) (ascii low : Bool) (c : ℕ) → ((low ≡ true) × (c < 128)) ⊎ (low ≡ false) → (c ≡ 34 → ⊥) → (c ≡ 13 → ⊥) → ((ascii ≡ true) × (c < 128)) ⊎ (ascii ≡ false) → (is_plain t c ≡ false → IsHeavy t low c) → IsEasy t ascii low c
unfolding is_writable
easy_from t ascii low c below_low no_quote no_return below_limit heavy = record { within = within_by below_low; writable = writes below_limit; no_quote = unequal c 34 no_quote; heavy = heavy }
  where
    writes : ((ascii ≡ true) × (c < 128)) ⊎ (ascii ≡ false) → is_writable ascii c ≡ true
    writes (inl (on, less)) = rw (unequal c 13 no_return, on, below c less) refl
    writes (inr off) = rw (unequal c 13 no_return, off) refl

    within_by : ((low ≡ true) × (c < 128)) ⊎ (low ≡ false) → low ≡ true → c < 128
    within_by (inl (on, less)) k = less
    within_by (inr off) k = absurd (let both = sym off ∙ k in cc)

-- a text of which all characters are given
pub all_given : (cs rest value : List ℕ) → IsUtf8 value → encode_utf8_all cs ++ rest ≡ value → length rest ≡ 0 → cs ≡ chars value
all_given cs rest value utf8 is none = chars_from_encodes cs value utf8 (sym (append-nil (encode_utf8_all cs)) ∙ ap (λ s. encode_utf8_all cs ++ s) (sym (nil_from_length rest none)) ∙ is)

pub given_more : (cs rest new value : List ℕ) (c : ℕ) → encode_utf8_all cs ++ rest ≡ value → rest ≡ encode_utf8 c ++ new → encode_utf8_all (cs ++ c ∷ []) ++ new ≡ value
given_more cs rest new value c is more =
    ap (λ s. s ++ new) (encodes-append cs (c ∷ [])) ∙ append_assoc (encode_utf8_all cs) (encode_utf8 c ++ []) new ∙ ap (λ s. encode_utf8_all cs ++ (s ++ new)) (append-nil (encode_utf8 c))
    ∙ ap (λ s. encode_utf8_all cs ++ s) (sym more) ∙ is

pub barred_stays : (b : Bool) (cs : List ℕ) (c : ℕ) → b ≡ some_barred cs → b ≡ true → b ≡ some_barred (cs ++ c ∷ [])
barred_stays b cs c h on = on ∙ sym (barred_push cs c ∙ ap (λ x. x || is_barred c) (sym h ∙ on))

pub barred_by : (b : Bool) (cs : List ℕ) (c : ℕ) (x : Bool) → b ≡ some_barred cs → b ≡ false → x ≡ is_barred c → x ≡ some_barred (cs ++ c ∷ [])
barred_by b cs c x h off is = is ∙ sym (barred_push cs c ∙ ap (λ y. y || is_barred c) (sym h ∙ off))

pub literals_push : (t : List Entry) (p : Option Pending) (cs : List ℕ) (c : ℕ) → literals t double p (cs ++ c ∷ []) ≡ literal t double (literals t double p cs) c
literals_push t p [] c = refl
literals_push t p (x ∷ cs) c = literals_push t (literal t double p x) cs c

and_false : (x : Bool) → (x && false) ≡ false
and_false true = refl
and_false false = refl

pub nothing_stays : (t : List Entry) (c : ℕ) → (c ≡ 38 → ⊥) → literal t double (Some nothing) c ≡ Some nothing
nothing_stays t c other = rw (run_nothing t double (encode_utf8 c), unequal c 38 other, and_false (c == 60)) refl

all_ascii : all_pass (λ d. nat_lt d 128) plain_bytes ≡ true
all_ascii = refl

no_quotes : all_pass (λ d. not (d == 34)) plain_bytes ≡ true
no_quotes = refl

no_returns : all_pass (λ d. not (d == 13)) plain_bytes ≡ true
no_returns = refl

no_ampersands : all_pass (λ d. not (d == 38)) plain_bytes ≡ true
no_ampersands = refl

none_barred : all_pass (λ d. not (is_barred d)) plain_bytes ≡ true
unfolding is_barred is_space
none_barred = refl

is_off : (b : Bool) → not b ≡ true → b ≡ false
is_off true h = absurd (cc)
is_off false h = refl

-- a plain character is one of ASCII that can stand everywhere
pub record IsClear (c : ℕ) : Type 0 where
  pub low : c < 128
  pub no_quote : c ≡ 34 → ⊥
  pub no_return : c ≡ 13 → ⊥
  pub no_ampersand : c ≡ 38 → ⊥
  pub stands : is_barred c ≡ false

other : (d : ℕ) → all_pass (λ x. not (x == d)) plain_bytes ≡ true → (d == d) ≡ true → (c : ℕ) → is_plain_byte c ≡ true → c ≡ d → ⊥
other d all same c plain is = absurd (let h = subst (λ x. not (x == d) ≡ true) is (plain_passes (λ x. not (x == d)) c all plain) in let k = is_off (d == d) h in let both = sym same ∙ k in cc)

pub clear : (t : List Entry) (c : ℕ) → is_plain t c ≡ true → IsClear c
clear t c h =
    let plain = and_left (is_plain_byte c) (list_all (allows c) t) h in
    let few = plain_passes (λ d. nat_lt d 128) c all_ascii plain in
    record {
      low = grind (arith, nat_tests, few);
      no_quote = other 34 no_quotes refl c plain;
      no_return = other 13 no_returns refl c plain;
      no_ampersand = other 38 no_ampersands refl c plain;
      stands = is_off (is_barred c) (plain_passes (λ d. not (is_barred d)) c none_barred plain);
    }

pub plain_is_easy : (t : List Entry) (ascii low : Bool) (c : ℕ) → is_plain t c ≡ true → IsEasy t ascii low c
plain_is_easy t ascii low c h =
    let k = clear t c h in
    easy_from t ascii low c (either low k.low) k.no_quote k.no_return (either ascii k.low) (λ off. absurd (let both = sym h ∙ off in cc))
  where
    either : (b : Bool) → c < 128 → ((b ≡ true) × (c < 128)) ⊎ (b ≡ false)
    either true less = inl (refl, less)
    either false less = inr refl
