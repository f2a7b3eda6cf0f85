-- Doctypes that are read.
use Rattle.std.proofs.Common.{◌≡◌, ℕ, ◌+◌, Bool, true, List, [], ◌∷◌, ◌++◌, map, length, drop, Option, Some, None, refl, inl, inr, ap, sym, subst, ◌∙◌, arith, codes}
use Rattle.std.proofs.lemmas.Bool.{and_parts}
use Rattle.std.proofs.lemmas.List.{length-map, drop_at}
use Rattle.hm_base.specs.Bytes.{Cut, cut_at, strip_word, all_pass, lower}
use Rattle.hm_base.specs.RawText.{is_found}
use Rattle.hm_scan.specs.Doctypes.{begins_doctype, doctype_form, by_form, as_doctype, read_doctype}
use Rattle.hm_scan.proofs.Lowered.{lower_cases}
use Rattle.hm_tree.specs.Tokens.{Seen, doctype, taken}
use Rattle.hm_token_laws.specs.First.{Mode}
use Rattle.hm_token_laws.specs.Laws.{IsPlain, reads_markup, SoundToken, TakesBytes}
use Rattle.hm_token_laws.proofs.References.{is_ascii, low_ascii}
use Rattle.hm_token_laws.proofs.Tags.{word_cut}
use Rattle.hm_token_laws.proofs.Marks.{byte_cut, IsCut, cut_plain, cut_size}

lower_low : (c : ℕ) → is_ascii (lower c) ≡ true → is_ascii c ≡ true
lower_low c h = elim (lower_cases c) [
  | inl w ↦ let low = w.0 in let high = w.1 in low_ascii c (omega arith)
  | inr w ↦ rw w.1 at h
]

all_lower_low : (s : List ℕ) → all_pass is_ascii (map lower s) ≡ true → all_pass is_ascii s ≡ true
all_lower_low [] h = refl
all_lower_low (c ∷ s) h =
    let both = and_parts (is_ascii (lower c)) (all_pass is_ascii (map lower s)) h in
    rw (lower_low c both.0, all_lower_low s both.1) refl

-- the doctype that gives a token
record DoctypeTaken (o : Option Cut) (token : Seen) (rest : List ℕ) : Type 0 where
  cut : Cut
  legacy : Bool
  is : o ≡ Some cut
  token_is : doctype legacy ≡ token
  rest_is : cut.after ≡ rest

doctype_taken : (o : Option Cut) (token : Seen) (rest : List ℕ) → as_doctype o ≡ taken token rest → DoctypeTaken o token rest
doctype_taken None token rest h = absurd (cc)
doctype_taken (Some k) token rest h = by_form_of (doctype_form k.before) h
  where
    by_form_of : (f : Option Bool) → by_form f k.after ≡ taken token rest → DoctypeTaken (Some k) token rest
    by_form_of None h = absurd (cc)
    by_form_of (Some legacy) h = record { cut = k; legacy = legacy; is = refl; token_is = cc; rest_is = cc }

word_found : (o : Option (List ℕ)) → is_found o ≡ true → (r : List ℕ) × (o ≡ Some r)
word_found None h = absurd (cc)
word_found (Some r) h = (r, refl)

record DoctypeCut (s : List ℕ) (k : Cut) : Type 0 where
  cut : IsCut s k
  long : length cut.before ≡ 9

doctype_cut : (s : List ℕ) (k : Cut) → begins_doctype s ≡ true → cut_at (codes ">") (drop 9 s) ≡ Some k → DoctypeCut s k
unfolding begins_doctype is_ascii
doctype_cut s k begun h =
    let f = word_found (strip_word (codes "<!doctype") s) begun in
    let w = word_cut (codes "<!doctype") s f.0 f.1 in
    let nine : length w.written ≡ 9 = sym (length-map w.written lower) ∙ ap length w.lowered in
    let rest : drop 9 s ≡ f.0 = ap (drop 9) w.is ∙ drop_at w.written f.0 9 nine in
    let b = byte_cut 62 f.0 k (rw rest at h) in
    record {
      cut = record { mark = codes ">"; before = w.written; is = w.is ∙ ap (λ y. w.written ++ y) b.is; some = omega arith; mark_low = refl; before_low = all_lower_low w.written (rw w.lowered refl) };
      long = nine;
    }

pub doctype_sound : (mode : Mode) (s : List ℕ) (token : Seen) (rest : List ℕ) → reads_markup mode ≡ true → begins_doctype s ≡ true → IsPlain s → read_doctype s ≡ taken token rest → SoundToken mode token × IsPlain rest
unfolding read_doctype
doctype_sound mode s token rest reads begun plain h =
    let k = doctype_taken (cut_at (codes ">") (drop 9 s)) token rest h in
    let parts = cut_plain s k.cut (doctype_cut s k.cut begun k.is).cut plain in
    (subst (SoundToken mode) k.token_is reads, subst IsPlain k.rest_is parts.after_plain)

pub doctype_takes : (s : List ℕ) (token : Seen) (rest : List ℕ) → begins_doctype s ≡ true → read_doctype s ≡ taken token rest → TakesBytes s 0 token rest
unfolding read_doctype
doctype_takes s token rest begun h =
    let k = doctype_taken (cut_at (codes ">") (drop 9 s)) token rest h in
    let c = doctype_cut s k.cut begun k.is in
    let size = (cut_size s k.cut c.cut).whole in
    let some = c.cut.some in
    let nine = c.long in
    let there : TakesBytes s 0 (doctype k.legacy) k.cut.after = record { count = length c.cut.before + length k.cut.before + length c.cut.mark; whole = omega arith; size = omega arith; least = omega arith } in
    subst (λ x. TakesBytes s 0 x rest) k.token_is (subst (λ x. TakesBytes s 0 (doctype k.legacy) x) k.rest_is there)
