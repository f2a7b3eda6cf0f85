-- What a value needs, as far as its bytes tell.
use Rattle.std.proofs.Common.{◌≡◌, ◌∙◌, ℕ, suc, ◌<◌, length, Bool, true, false, not, ◌||◌, ◌==◌, List, [], ◌∷◌, chars, Option, Some, None, refl, sym, ap, subst, arith}
use Rattle.std.specs.List.{list_any}
use Rattle.std.specs.Prelude.{encode_utf8, encode_utf8_all, is_some}
use Rattle.std.specs.Str.{IsUtf8}
use Rattle.std.proofs.lemmas.Bool.{and_parts}
use Rattle.std.proofs.lemmas.Bool.Decides.{nat_tests}
use Rattle.std.proofs.lemmas.List.Folds.{list_any-append}
use Rattle.std.proofs.lemmas.Str.{encode_ascii, encodes-chars}
use Rattle.hm_base.specs.Bytes.{is_space}
use Rattle.hm_edges.specs.Units.{need_for, needs_of, needs_quotes, some_costly}
use Rattle.hm_edges.specs.declared.units.Need.TheVariants as need
use Rattle.hm_refs.proofs.Bools.{eq_of}
use Rattle.hm_refs.specs.Names.{Entry}
use Rattle.hm_spelling_spec.specs.Characters.{is_barred}
use Rattle.hm_edges.specs.declared.units.Need.{Need}
use Rattle.hm_edges.specs.declared.units.Needs.{Needs}
use Rattle.hm_graph.specs.Values.{is_quote, need_with, needs_with}
use Rattle.memchr.specs.Find.{IsFirstByte, Nowhere, Passes, is_byte2}
use Rattle.hm_graph.proofs.ValueNeeds.{no_needs}

-- ---- Barred characters are bytes of their own

barred_low : (c : ℕ) → is_barred c ≡ true → c < 128
unfolding is_barred is_space
barred_low c h = grind (arith, nat_tests)

both_false : (a b : Bool) → a || b ≡ false → (a ≡ false) × (b ≡ false)
both_false false b h = (refl, h)
both_false true b h = absurd (cc)

no_true : (b : Bool) → b ≡ false → b ≡ true → ⊥
no_true b h k = let e : true ≡ false = sym k ∙ h in cc

-- where no byte passes a test of ASCII characters, no character does
none_passes : (test : ℕ → Bool) → ((c : ℕ) → test c ≡ true → c < 128) → (cs : List ℕ) → list_any test (encode_utf8_all cs) ≡ false → list_any test cs ≡ false
none_passes test low [] h = refl
none_passes test low (c ∷ cs) h =
    let parts = both_false (list_any test (encode_utf8 c)) (list_any test (encode_utf8_all cs)) (sym (list_any-append test (encode_utf8 c) (encode_utf8_all cs)) ∙ h) in
    by_test (test c) refl parts.0 (none_passes test low cs parts.1)
  where
    by_test : (b : Bool) → test c ≡ b → list_any test (encode_utf8 c) ≡ false → list_any test cs ≡ false → b || list_any test cs ≡ false
    by_test true e none later = absurd (no_true (list_any test (encode_utf8 c)) none (ap (list_any test) (encode_ascii c (low c e)) ∙ ap (λ b. b || false) e))
    by_test false e none later = later

none_in : (test : ℕ → Bool) → ((c : ℕ) → test c ≡ true → c < 128) → (text : List ℕ) → IsUtf8 text → list_any test text ≡ false → list_any test (chars text) ≡ false
none_in test low text utf8 h = none_passes test low (chars text) (ap (list_any test) (encodes-chars text utf8) ∙ h)

-- ---- Nothing is needed

-- each character of a kind passes a test
abbrev AreAmong : (ℕ → Bool) → (ℕ → Bool) → Type 0
AreAmong test kind = (c : ℕ) → kind c ≡ true → test c ≡ true

barred_at : (c a : ℕ) → is_barred a ≡ true → (c == a) ≡ true → is_barred c ≡ true
barred_at c a h e = subst (λ d. is_barred d ≡ true) (sym (eq_of c a e)) h

double_barred : AreAmong is_barred (λ c. c == 34)
unfolding is_barred is_space
double_barred c e = barred_at c 34 refl e

single_barred : AreAmong is_barred (λ c. c == 39)
unfolding is_barred is_space
single_barred c e = barred_at c 39 refl e

quotes_barred : AreAmong is_barred needs_quotes
quotes_barred c h = (and_parts (is_barred c) (not (c == 13 || (c == 34 || c == 39))) h).0

none_of : (test kind : ℕ → Bool) → AreAmong test kind → (c : ℕ) → test c ≡ false → kind c ≡ false
none_of test kind are c n = by_test (kind c) refl
  where
    by_test : (b : Bool) → kind c ≡ b → b ≡ false
    by_test true e = absurd (no_true (test c) n (are c e))
    by_test false e = refl

need_kept : (t : List Entry) (kind : ℕ → Bool) → AreAmong is_barred kind → (n : Need) (previous : Option ℕ) (c : ℕ) (next : Option ℕ) → is_barred c ≡ false → n ≡ need_with t kind n previous c next
need_kept t kind are n previous c next none = rw (none_of is_barred kind are c none) refl

-- a character that isn't barred needs nothing
pub needs_kept : (t : List Entry) (n : Needs) (previous : Option ℕ) (c : ℕ) (next : Option ℕ) → is_barred c ≡ false → n ≡ needs_with t n previous c next
needs_kept t n previous c next none = λ i. record {
  double = need_kept t (λ d. d == 34) double_barred n.double previous c next none i;
  single = need_kept t (λ d. d == 39) single_barred n.single previous c next none i;
  other = need_kept t needs_quotes quotes_barred n.other previous c next none i;
}

-- nor does one that needs no quotes need them
pub need_same : (t : List Entry) (n : Need) (previous : Option ℕ) (c : ℕ) (next : Option ℕ) → needs_quotes c ≡ false → n ≡ need_with t needs_quotes n previous c next
need_same t n previous c next none = rw none refl

no_need : (t : List Entry) (test kind : ℕ → Bool) → AreAmong test kind → (previous : Option ℕ) (cs : List ℕ) → list_any test cs ≡ false → (list_any kind cs ≡ false) × (some_costly t kind previous cs ≡ false)
no_need t test kind are previous [] h = (refl, refl)
no_need t test kind are previous (c ∷ cs) h =
    let parts = both_false (test c) (list_any test cs) h in
    let later = no_need t test kind are (Some c) cs parts.1 in
    let none = none_of test kind are c parts.0 in
    (rw none later.0, rw none later.1)

absent : (t : List Entry) (test kind : ℕ → Bool) → AreAmong test kind → (cs : List ℕ) → list_any test cs ≡ false → need.Absent ≡ need_for t kind cs
absent t test kind are cs h = let n = no_need t test kind are None cs h in rw (n.0, n.1) refl

-- where no byte of a text is that of a barred character, its characters need nothing
pub needs_none : (t : List Entry) (text : List ℕ) → IsUtf8 text → list_any is_barred text ≡ false → no_needs ≡ needs_of t (chars text)
needs_none t text utf8 h =
    let none : list_any is_barred (chars text) ≡ false = none_in is_barred barred_low text utf8 h in
    λ i. record {
      double = absent t is_barred (λ c. c == 34) double_barred (chars text) none i;
      single = absent t is_barred (λ c. c == 39) single_barred (chars text) none i;
      other = absent t is_barred needs_quotes quotes_barred (chars text) none i;
    }

-- ---- No quotes

quote_low : (c : ℕ) → is_quote c ≡ true → c < 128
quote_low c h = grind (arith, nat_tests)

quote_at : (c a : ℕ) → is_quote a ≡ true → (c == a) ≡ true → is_quote c ≡ true
quote_at c a h e = subst (λ d. is_quote d ≡ true) (sym (eq_of c a e)) h

double_quote : AreAmong is_quote (λ c. c == 34)
double_quote c e = quote_at c 34 refl e

single_quote : AreAmong is_quote (λ c. c == 39)
single_quote c e = quote_at c 39 refl e

-- where no byte of a text is a quote, its characters need no quote of one kind
pub needs_unquoted : (t : List Entry) (text : List ℕ) (other : Need) → IsUtf8 text → list_any is_quote text ≡ false → other ≡ need_for t needs_quotes (chars text)
    → record { double = need.Absent; single = need.Absent; other = other } ≡ needs_of t (chars text)
needs_unquoted t text other utf8 h is =
    let none : list_any is_quote (chars text) ≡ false = none_in is_quote quote_low text utf8 h in
    λ i. record {
      double = absent t is_quote (λ c. c == 34) double_quote (chars text) none i;
      single = absent t is_quote (λ c. c == 39) single_quote (chars text) none i;
      other = is i;
    }

none_any : (test : ℕ → Bool) (bytes : List ℕ) → Nowhere (Passes test bytes) 0 (length bytes) → list_any test bytes ≡ false
none_any test [] nowhere = refl
none_any test (a ∷ bytes) nowhere = by_test (test a) refl (none_any test bytes (λ k low within. nowhere (suc k) (omega arith) (omega (arith, within))))
  where
    by_test : (b : Bool) → test a ≡ b → list_any test bytes ≡ false → b || list_any test bytes ≡ false
    by_test true e later = absurd (nowhere 0 (omega arith) (omega arith) e)
    by_test false e later = later

-- where no quote is found, there is none
pub no_quotes : (bytes : List ℕ) (found : Option ℕ) → IsFirstByte (is_byte2 34 39) bytes found → is_some found ≡ false → list_any is_quote bytes ≡ false
no_quotes bytes None first none = none_any is_quote bytes first
no_quotes bytes (Some k) first none = absurd (cc)
