-- Pieces of text are decided by the first byte after them.
use Rattle.std.proofs.Common.{◌≡◌, ℕ, ◌≤◌, Bool, true, false, cond, not, ◌&&◌, ◌||◌, ◌==◌, List, [], ◌∷◌, ◌++◌, length, Some, None, is_some, refl, ap, ap₂, sym, ◌∙◌, arith, append_assoc, append-nil}
use Rattle.std.proofs.lemmas.Bool.{eqb-true, not-true}
use Rattle.hm_base.specs.Bytes.{is_null, is_letter, is_alnum}
use Rattle.hm_refs.specs.Names.{Entry}
use Rattle.hm_refs.specs.References.{Reference, reference}
use Rattle.hm_refs.specs.Tables.{IsTable}
use Rattle.hm_scan.specs.TextPlaces.{reference_here}
use Rattle.hm_scan.specs.Texts.{opens_markup, begins_markup, reference_in, ends_plain}
use Rattle.hm_token_laws.specs.Laws.{SoundNames}
use Rattle.hm_token_laws.specs.Decided.{goes_on, TextPiece, literal, referred, written_so, ArePieces, cuts_text, TextsAreDecided, EndsAreDecided}
use Rattle.hm_token_laws.proofs.Bools.{or_parts}
use Rattle.hm_token_laws.proofs.Decided.{references_are_decided}
use Rattle.hm_token_laws.proofs.Values.{at_amp}

pub names_of_table : (t : List Entry) → IsTable t → SoundNames t
names_of_table t k = record { good = k.good; pointed = k.pointed }

-- the first byte of what cuts a text
record Cuts (x : List ℕ) : Type 0 where
  head : ℕ
  more : List ℕ
  is : x ≡ head ∷ more
  stops : goes_on false head ≡ false
  no_bang : (head == 33) ≡ false
  no_slash : (head == 47) ≡ false
  no_question : (head == 63) ≡ false

cuts : (x : List ℕ) → cuts_text x ≡ true → Cuts x
cuts [] h = absurd (cc)
cuts (d ∷ y) h =
    let one = or_parts (goes_on false d) (d == 33 || (d == 47 || d == 63)) (not-true _ h) in
    let two = or_parts (d == 33) (d == 47 || d == 63) one.1 in
    let three = or_parts (d == 47) (d == 63) two.1 in
    record { head = d; more = y; is = refl; stops = one.0; no_bang = two.0; no_slash = three.0; no_question = three.1 }

-- ---- references

reference_cut : (t : List Entry) → IsTable t → (s x : List ℕ) → Cuts x → reference t false (38 ∷ (s ++ x)) ≡ reference t false (38 ∷ s)
reference_cut t k s x c = rw c.is (references_are_decided t false s c.head c.more k c.stops)

-- the reference that begins with c
in_cut : (t : List Entry) → IsTable t → (c : ℕ) (s x : List ℕ) → Cuts x → reference_in t c (s ++ x) ≡ reference_in t c s
unfolding reference_in
in_cut t k c s x cut = by_test (c == 38) refl
  where
    by_test : (b : Bool) → (c == 38) ≡ b → cond b (reference t false (c ∷ (s ++ x))) None ≡ cond b (reference t false (c ∷ s)) None
    by_test true e = let same : c ≡ 38 = eqb-true c 38 e in rw same (reference_cut t k s x cut)
    by_test false e = refl

in_end : (t : List Entry) (c : ℕ) (s : List ℕ) → reference_in t c (s ++ []) ≡ reference_in t c s
in_end t c s = ap (reference_in t c) (append-nil s)

-- the bytes of a reference
record AmpBytes (b : List ℕ) : Type 0 where
  head : ℕ
  more : List ℕ
  is : b ≡ head ∷ more

pub here_long : (t : List Entry) → IsTable t → (s : List ℕ) (r : Reference) → reference_here t s ≡ Some r → 3 ≤ r.len
unfolding reference_in
here_long t k [] r h = absurd (cc)
here_long t k (c ∷ s) r h = let g = (at_amp t false c s r (names_of_table t k) h).good in let long = g.long in let len = g.len in omega arith

amp_bytes : (b : List ℕ) → 3 ≤ length b → AmpBytes b
amp_bytes [] h = absurd (omega arith)
amp_bytes (c ∷ b) h = record { head = c; more = b; is = refl }

-- of a text that isn't empty
here_cut : (t : List Entry) → IsTable t → (b w x y : List ℕ) → 3 ≤ length b → Cuts x → Cuts y → reference_here t (b ++ (w ++ x)) ≡ reference_here t (b ++ (w ++ y))
here_cut t k b w x y long c d =
    let a = amp_bytes b long in
    let there : (z : List ℕ) → Cuts z → reference_here t (b ++ (w ++ z)) ≡ reference_in t a.head (a.more ++ w) = λ z cut.
    ap (λ v. reference_here t (v ++ (w ++ z))) a.is ∙ ap (reference_in t a.head) (sym (append_assoc a.more w z)) ∙ in_cut t k a.head (a.more ++ w) z cut in
    there x c ∙ sym (there y d)

here_end : (t : List Entry) → IsTable t → (b w x : List ℕ) → 3 ≤ length b → Cuts x → reference_here t (b ++ (w ++ x)) ≡ reference_here t (b ++ (w ++ []))
here_end t k b w x long c =
    let a = amp_bytes b long in
    let one : reference_here t (b ++ (w ++ x)) ≡ reference_in t a.head (a.more ++ w) =
    ap (λ v. reference_here t (v ++ (w ++ x))) a.is ∙ ap (reference_in t a.head) (sym (append_assoc a.more w x)) ∙ in_cut t k a.head (a.more ++ w) x c in
    let two : reference_here t (b ++ (w ++ [])) ≡ reference_in t a.head (a.more ++ w) =
    ap (λ v. reference_here t (v ++ (w ++ []))) a.is ∙ ap (λ v. reference_in t a.head (a.more ++ v)) (append-nil w) in
    one ∙ sym two

-- ---- markup

no_opening : (d : ℕ) → goes_on false d ≡ false → is_letter d ≡ false
unfolding goes_on is_alnum
no_opening d h = (or_parts (is_letter d) _ (or_parts _ _ h).0).0

opens_none : (x : List ℕ) → Cuts x → opens_markup x ≡ false
opens_none x c = rw (c.is, no_opening c.head c.stops, c.no_bang, c.no_slash, c.no_question) refl

some_left : (x : List ℕ) → Cuts x → is_null x ≡ false
some_left x c = rw c.is refl

opens_alike : (w x y : List ℕ) → Cuts x → Cuts y → opens_markup (w ++ x) ≡ opens_markup (w ++ y)
opens_alike [] x y c d = opens_none x c ∙ sym (opens_none y d)
opens_alike (e ∷ []) x y c d = rw (some_left x c, some_left y d) refl
opens_alike (e ∷ f ∷ w) x y c d = refl

opens_end : (w x : List ℕ) → Cuts x → opens_markup (w ++ x) ≡ false → opens_markup (w ++ []) ≡ false
opens_end [] x c h = refl
opens_end (e ∷ []) x c h = by_tests (is_letter e) (e == 33) (e == 63) (e == 47) (rw (some_left x c) at h)
  where
    by_tests : (a b f g : Bool) → a || (b || (f || (g && true))) ≡ false → a || (b || (f || (g && false))) ≡ false
    by_tests false false false false h = refl
    by_tests false false false true h = absurd (cc)
    by_tests false false true g h = absurd (cc)
    by_tests false true f g h = absurd (cc)
    by_tests true b f g h = absurd (cc)
opens_end (e ∷ f ∷ w) x c h = h

plain_alike : (t : List Entry) → IsTable t → (closed : Bool) (c : ℕ) (w x y : List ℕ) → Cuts x → Cuts y → ends_plain t closed c (w ++ x) ≡ ends_plain t closed c (w ++ y)
unfolding begins_markup
plain_alike t k closed c w x y cx cy =
    ap₂ (λ m o. (not closed && (c == 60 && m)) || is_some o) (opens_alike w x y cx cy) (in_cut t k c w x cx ∙ sym (in_cut t k c w y cy))

plain_end : (t : List Entry) → IsTable t → (closed : Bool) (c : ℕ) (w x : List ℕ) → Cuts x → ends_plain t closed c (w ++ x) ≡ false → ends_plain t closed c (w ++ []) ≡ false
unfolding begins_markup
plain_end t k closed c w x cut h = by_tests (not closed) (c == 60) (opens_markup (w ++ x)) (opens_markup (w ++ [])) (opens_end w x cut)
    (is_some (reference_in t c (w ++ x))) (is_some (reference_in t c (w ++ []))) (ap is_some (in_cut t k c w x cut ∙ sym (in_end t c w))) h
  where
    by_tests : (a b m n : Bool) → (m ≡ false → n ≡ false) → (o p : Bool) → o ≡ p → (a && (b && m)) || o ≡ false → (a && (b && n)) || p ≡ false
    by_tests true true true n less o p e h = absurd (cc)
    by_tests true true false n less o p e h = rw (less refl, sym e) h
    by_tests true false m n less o p e h = rw (sym e) h
    by_tests false b m n less o p e h = rw (sym e) h

closed_alike : (t : List Entry) → IsTable t → (c : ℕ) (w y : List ℕ) → Cuts y → ends_plain t true c (w ++ []) ≡ ends_plain t true c (w ++ y)
closed_alike t k c w y cut = ap is_some (in_end t c w ∙ sym (in_cut t k c w y cut))

-- ---- pieces

pieces_alike : (t : List Entry) → IsTable t → (closed : Bool) (ps : List TextPiece) (x y : List ℕ) → Cuts x → Cuts y → ArePieces t closed ps x → ArePieces t closed ps y
pieces_alike t k closed [] x y c d h = tt
pieces_alike t k closed (literal b ∷ ps) x y c d h = (sym (plain_alike t k closed b (written_so ps) x y c d) ∙ h.0, pieces_alike t k closed ps x y c d h.1)
pieces_alike t k closed (referred b qs ∷ ps) x y c d h =
    (sym (here_cut t k b (written_so ps) x y (here_long t k _ _ h.0) c d) ∙ h.0, pieces_alike t k closed ps x y c d h.1)

pieces_end : (t : List Entry) → IsTable t → (closed : Bool) (ps : List TextPiece) (x : List ℕ) → Cuts x → ArePieces t closed ps x → ArePieces t closed ps []
pieces_end t k closed [] x c h = tt
pieces_end t k closed (literal b ∷ ps) x c h = (plain_end t k closed b (written_so ps) x c h.0, pieces_end t k closed ps x c h.1)
pieces_end t k closed (referred b qs ∷ ps) x c h = (sym (here_end t k b (written_so ps) x (here_long t k _ _ h.0) c) ∙ h.0, pieces_end t k closed ps x c h.1)

pub texts_are_decided : TextsAreDecided
texts_are_decided t closed ps x y k c d h = (pieces_alike t k closed ps x y (cuts x c) (cuts y d) h, pieces_end t k closed ps x (cuts x c) h)

ends_alike : (t : List Entry) → IsTable t → (ps : List TextPiece) (y : List ℕ) → Cuts y → ArePieces t true ps [] → ArePieces t true ps y
ends_alike t k [] y c h = tt
ends_alike t k (literal b ∷ ps) y c h = (sym (closed_alike t k b (written_so ps) y c) ∙ h.0, ends_alike t k ps y c h.1)
ends_alike t k (referred b qs ∷ ps) y c h = (here_end t k b (written_so ps) y (here_long t k _ _ h.0) c ∙ h.0, ends_alike t k ps y c h.1)

pub ends_are_decided : EndsAreDecided
ends_are_decided t ps y k c h = ends_alike t k ps y (cuts y c) h
