-- No byte of a spelled value ends it, and the byte that does can't go on in a reference.
use Rattle.std.proofs.Common.{◌≡◌, ℕ, ◌<◌, Bool, true, false, not, ◌&&◌, ◌||◌, ◌==◌, List, [], ◌∷◌, refl, sym, subst, arith}
use Rattle.std.proofs.lemmas.Bool.{and_parts, and_from, eqb-true}
use Rattle.hm_base.specs.Bytes.{all_pass, is_space, is_alnum, is_letter, is_digit_of}
use Rattle.hm_scan.specs.Tags.{is_inside, is_unquoted_byte, is_quote}
use Rattle.hm_token_laws.specs.Decided.{goes_on}
use Rattle.hm_spelling_spec.specs.Characters.{Spot, text, rcdata, foreign, unquoted, double, single, is_value, is_barred}
use Rattle.hm_round_trip_laws.specs.References.{is_reference_byte}
use Rattle.hm_round_trip_laws.specs.Values.{closes}
use Rattle.hm_round_trip_laws.proofs.Encoded.{PassesHigh}
use Rattle.hm_round_trip_laws.proofs.Within.{Allows, not_few, spot_part}

-- a byte of a value without quotes
unfoldable pub is_bare : ℕ → Bool
is_bare c = is_unquoted_byte c && not (is_quote c)

bare_high : PassesHigh is_bare
unfolding is_bare is_unquoted_byte is_quote is_space
bare_high d h = grind arith

bare_few : (c : ℕ) → is_reference_byte c ≡ true → is_bare c ≡ true
unfolding is_bare is_unquoted_byte is_quote is_space is_reference_byte is_alnum is_letter is_digit_of
bare_few c h = rw (not_few 9 c refl h, not_few 10 c refl h, not_few 12 c refl h, not_few 13 c refl h, not_few 32 c refl h, not_few 62 c refl h, not_few 34 c refl h, not_few 39 c refl h) refl

not_barred : (c : ℕ) → not (is_barred c) ≡ true → is_bare c ≡ true
unfolding is_barred is_bare is_unquoted_byte is_quote is_space
not_barred c h = grind arith

pub bare_allows : (ascii : Bool) → Allows is_bare ascii unquoted
unfolding is_bare is_unquoted_byte is_quote is_space
bare_allows ascii = record { high = bare_high; amp = refl; few = bare_few; stands = λ c h. not_barred c (spot_part ascii unquoted c h); sections = λ f. absurd (cc) }

inside_high : (q : ℕ) → q < 128 → PassesHigh (is_inside q)
unfolding is_inside
inside_high q l d h = grind arith

inside_few : (q : ℕ) → is_reference_byte q ≡ false → (c : ℕ) → is_reference_byte c ≡ true → is_inside q c ≡ true
unfolding is_inside
inside_few q never c h = rw (not_few q c never h) refl

pub double_allows : (ascii : Bool) → Allows (is_inside 34) ascii double
unfolding is_inside is_reference_byte is_alnum is_letter is_digit_of
double_allows ascii = record { high = inside_high 34 (omega arith); amp = refl; few = inside_few 34 refl; stands = λ c h. spot_part ascii double c h; sections = λ f. absurd (cc) }

pub single_allows : (ascii : Bool) → Allows (is_inside 39) ascii single
unfolding is_inside is_reference_byte is_alnum is_letter is_digit_of
single_allows ascii = record { high = inside_high 39 (omega arith); amp = refl; few = inside_few 39 refl; stands = λ c h. spot_part ascii single c h; sections = λ f. absurd (cc) }

bare_unquoted : (c : ℕ) → is_bare c ≡ true → is_unquoted_byte c ≡ true
unfolding is_bare
bare_unquoted c h = (and_parts (is_unquoted_byte c) (not (is_quote c)) h).0

pub bare_quote : (c : ℕ) → is_bare c ≡ true → not (is_quote c) ≡ true
unfolding is_bare
bare_quote c h = (and_parts (is_unquoted_byte c) (not (is_quote c)) h).1

pub all_unquoted : (s : List ℕ) → all_pass is_bare s ≡ true → all_pass is_unquoted_byte s ≡ true
all_unquoted [] h = refl
all_unquoted (c ∷ s) h = let both = and_parts (is_bare c) (all_pass is_bare s) h in and_from (is_unquoted_byte c) (all_pass is_unquoted_byte s) (bare_unquoted c both.0) (all_unquoted s both.1)

-- ---- the byte after a value

cut_by : (x d : ℕ) → goes_on true x ≡ false → (d == x) ≡ true → goes_on true d ≡ false
cut_by x d never e = subst (λ c. goes_on true c ≡ false) (sym (eqb-true d x e)) never

either : (P : Type 0) (a b : Bool) → (a ≡ true → P) → (b ≡ true → P) → a || b ≡ true → P
either P true b f g h = f refl
either P false b f g h = g h

pub closes_cuts : (spot : Spot) (d : ℕ) → closes spot d ≡ true → goes_on true d ≡ false
unfolding goes_on is_alnum is_letter is_digit_of is_space
closes_cuts text d h = absurd (cc)
closes_cuts rcdata d h = absurd (cc)
closes_cuts foreign d h = absurd (cc)
closes_cuts double d h = cut_by 34 d refl h
closes_cuts single d h = cut_by 39 d refl h
closes_cuts unquoted d h =
    let P = goes_on true d ≡ false in
    either P (d == 9 || d == 10 || d == 12 || d == 13 || d == 32) (d == 62)
    (either P (d == 9 || d == 10 || d == 12 || d == 13) (d == 32)
    (either P (d == 9 || d == 10 || d == 12) (d == 13)
    (either P (d == 9 || d == 10) (d == 12) (either P (d == 9) (d == 10) (cut_by 9 d refl) (cut_by 10 d refl)) (cut_by 12 d refl))
    (cut_by 13 d refl)) (cut_by 32 d refl))
    (cut_by 62 d refl) h

pub closes_value : (spot : Spot) (d : ℕ) → closes spot d ≡ true → is_value spot ≡ true
closes_value text d h = absurd (cc)
closes_value rcdata d h = absurd (cc)
closes_value foreign d h = absurd (cc)
closes_value unquoted d h = refl
closes_value double d h = refl
closes_value single d h = refl
