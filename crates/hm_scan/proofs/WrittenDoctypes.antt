-- A written doctype is read back.
use Rattle.std.proofs.Common.{◌≡◌, ◌⊎◌, inl, inr, ℕ, Bool, true, false, ◌&&◌, ◌||◌, ◌==◌, List, [], ◌∷◌, ◌++◌, map, length, Some, refl, sym, ap, ◌∙◌, codes, append_assoc, lit<}
use Rattle.std.proofs.lemmas.Bool.{and_parts, or_parts}
use Rattle.std.proofs.lemmas.List.{drop_at, length-map}
use Rattle.std.proofs.lemmas.Bool.Decides.{Decides-eqb}
use Rattle.hm_base.specs.Bytes.{cut_at, strip_word, lower, is_space, all_pass, head_is, is_null, rest_after}
use Rattle.hm_base.specs.Forms.{has_byte, is_blank}
use Rattle.hm_markup_spec.specs.Gaps.{is_gap, IsWord}
use Rattle.hm_markup_spec.specs.Doctypes.{IsPlainDoctype, IsLegacyDoctype, WritesDoctype}
use Rattle.hm_tree.specs.Tokens.{taken, doctype}
use Rattle.hm_scan.specs.Doctypes.{doctype_form, form_after_name, is_identifier, read_doctype}
use Rattle.hm_markup_spec.proofs.Gaps.{gap_blank, gap_front}
use Rattle.hm_scan.proofs.Lowered.{eqb_lower'}

-- a word at the start
word_front : (w xs s : List ℕ) → IsWord w xs → strip_word w (xs ++ s) ≡ Some s
word_front [] [] s e = refl
word_front [] (x ∷ xs) s e = cc
word_front (c ∷ w) [] s e = cc
word_front (c ∷ w) (x ∷ xs) s e =
    let first : c ≡ lower x = cc in
    let more : map lower xs ≡ w = cc in
    let same : (c == lower x) ≡ true = (Decides-eqb c (lower x)).1 first in
    rw (same, word_front w xs s more) refl

-- whitespace at the start
space_front : (xs s : List ℕ) → is_blank xs ≡ true → head_is is_space s ≡ false → rest_after is_space (xs ++ s) ≡ s
space_front [] [] all stop = refl
space_front [] (c ∷ s) all stop = rw stop refl
space_front (x ∷ xs) s all stop =
    let parts = and_parts (is_space x) (all_pass is_space xs) all in
    rw (parts.0, space_front xs s parts.1 stop) refl

blank_all : (xs : List ℕ) → is_blank xs ≡ true → rest_after is_space xs ≡ []
blank_all [] all = refl
blank_all (x ∷ xs) all =
    let parts = and_parts (is_space x) (all_pass is_space xs) all in
    rw (parts.0, blank_all xs parts.1) refl

-- a word of letters doesn't begin with whitespace
space_lower : (c : ℕ) → is_space (lower c) ≡ is_space c
unfolding is_space
space_lower c = rw (eqb_lower' 9 c (lit< tt), eqb_lower' 10 c (lit< tt), eqb_lower' 12 c (lit< tt), eqb_lower' 13 c (lit< tt), eqb_lower' 32 c (lit< tt)) refl

head_lower : (xs s : List ℕ) (c : ℕ) (w : List ℕ) → IsWord (c ∷ w) xs → is_space c ≡ false → head_is is_space (xs ++ s) ≡ false
head_lower [] s c w e f = cc
head_lower (x ∷ xs) s c w e f = let first : lower x ≡ c = cc in sym (space_lower x) ∙ ap is_space first ∙ f

-- what holds no `>`
joined : (m : ℕ) (xs ys : List ℕ) → has_byte m xs ≡ false → has_byte m ys ≡ false → has_byte m (xs ++ ys) ≡ false
joined m [] ys e f = f
joined m (x ∷ xs) ys e f = elim (x == m) as (λ b. b || has_byte m xs ≡ false → b || has_byte m (xs ++ ys) ≡ false) [ true ↦ λ g. cc | false ↦ λ g. joined m xs ys g f ] e

word_without : (xs : List ℕ) → has_byte 62 xs ≡ has_byte 62 (map lower xs)
word_without [] = refl
word_without (x ∷ xs) = rw (eqb_lower' 62 x (lit< tt), word_without xs) refl

greater_is_no_space : is_space 62 ≡ false
unfolding is_space
greater_is_no_space = refl

space_apart : (c : ℕ) → is_space c ≡ true → (c == 62) ≡ false
space_apart c e = either (c == 62) refl
  where
    either : (b : Bool) → (c == 62) ≡ b → b ≡ false
    either false f = refl
    either true f = sym e ∙ ap is_space ((Decides-eqb c 62).0 f) ∙ greater_is_no_space

space_without : (xs : List ℕ) → is_blank xs ≡ true → has_byte 62 xs ≡ false
space_without [] all = refl
space_without (x ∷ xs) all =
    let parts = and_parts (is_space x) (all_pass is_space xs) all in
    rw (space_apart x parts.0, space_without xs parts.1) refl

apart : (a b : ℕ) → (a == b) ≡ false → (b == a) ≡ false
apart a b e = either (b == a) refl
  where
    either : (v : Bool) → (b == a) ≡ v → v ≡ false
    either false f = refl
    either true f = sym ((Decides-eqb a b).1 (sym ((Decides-eqb b a).0 f))) ∙ e

-- the cut at a byte after what doesn't hold it
cut_byte : (m : ℕ) (xs rest : List ℕ) → has_byte m xs ≡ false → cut_at (m ∷ []) (xs ++ m ∷ rest) ≡ Some (record { before = xs; after = rest })
cut_byte m [] rest e = let same : (m == m) ≡ true = (Decides-eqb m m).1 refl in rw same refl
cut_byte m (x ∷ xs) rest e =
    let parts = or_parts (x == m) (has_byte m xs) e in
    rw (apart x m parts.0, cut_byte m xs rest parts.1) refl

-- a text that is read up to its `>`
read_whole : (word x rest : List ℕ) (legacy : Bool) → IsWord (codes "<!doctype") word → has_byte 62 x ≡ false → doctype_form x ≡ Some legacy → read_doctype (word ++ (x ++ 62 ∷ rest)) ≡ taken (doctype legacy) rest
unfolding read_doctype
read_whole word x rest legacy is_word without form =
    let long : length word ≡ 9 = sym (length-map word lower) ∙ ap length is_word in
    rw (drop_at word (x ++ 62 ∷ rest) 9 long, cut_byte 62 x rest without, form) refl

letter_h : is_space 104 ≡ false
unfolding is_space
letter_h = refl

letter_s : is_space 115 ≡ false
unfolding is_space
letter_s = refl

plain_form : (gap name tail : List ℕ) → is_blank gap ≡ true → IsWord (codes "html") name → is_blank tail ≡ true → doctype_form (gap ++ (name ++ tail)) ≡ Some false
unfolding doctype_form
plain_form gap name tail g n t =
    rw (space_front gap (name ++ tail) g (head_lower name tail 104 (codes "tml") n letter_h), word_front (codes "html") name tail n, blank_all tail t) refl

identified : (identifier tail : List ℕ) → (identifier ≡ codes "\"about:legacy-compat\"") ⊎ (identifier ≡ codes "'about:legacy-compat'") → is_blank tail ≡ true → is_identifier (identifier ++ tail) ≡ true
identified identifier tail (inl e) t = rw e (rw (blank_all tail t) refl)
identified identifier tail (inr e) t = rw e (rw (blank_all tail t) refl)

quotes_are_no_space : (is_space 34 ≡ false) × (is_space 39 ≡ false)
unfolding is_space
quotes_are_no_space = (refl, refl)

identifier_front : (identifier tail : List ℕ) → (identifier ≡ codes "\"about:legacy-compat\"") ⊎ (identifier ≡ codes "'about:legacy-compat'") → head_is is_space (identifier ++ tail) ≡ false
identifier_front identifier tail (inl e) = rw e quotes_are_no_space.0
identifier_front identifier tail (inr e) = rw e quotes_are_no_space.1

word_there : (xs s : List ℕ) (c : ℕ) (w : List ℕ) → IsWord (c ∷ w) xs → is_null (xs ++ s) ≡ false
word_there [] s c w e = cc
word_there (x ∷ xs) s c w e = refl

legacy_by : (z q r : List ℕ) → rest_after is_space z ≡ q → is_null q ≡ false → head_is is_space z ≡ true → strip_word (codes "system") q ≡ Some r → is_identifier (rest_after is_space r) ≡ true → form_after_name (Some z) ≡ Some true
legacy_by z q r rest some spaced found named = rw (rest, some, spaced, found, named) refl

legacy_form : (gap name space keyword between identifier tail : List ℕ) → is_blank gap ≡ true → IsWord (codes "html") name → is_gap true space ≡ true → IsWord (codes "system") keyword → is_blank between ≡ true
    → (identifier ≡ codes "\"about:legacy-compat\"") ⊎ (identifier ≡ codes "'about:legacy-compat'") → is_blank tail ≡ true
    → doctype_form (gap ++ (name ++ (space ++ (keyword ++ (between ++ (identifier ++ tail)))))) ≡ Some true
unfolding doctype_form
legacy_form gap name space keyword between identifier tail g n s k b i t =
    let r = between ++ (identifier ++ tail) in
    let q = keyword ++ r in
    let z = space ++ q in
    let named : is_identifier (rest_after is_space r) ≡ true = rw (space_front between (identifier ++ tail) b (identifier_front identifier tail i)) (identified identifier tail i t) in
    let found : strip_word (codes "system") q ≡ Some r = word_front (codes "system") keyword r k in
    let rest : rest_after is_space z ≡ q = space_front space q (gap_blank true space s) (head_lower keyword r 115 (codes "ystem") k letter_s) in
    let spaced : head_is is_space z ≡ true = gap_front space q s in
    rw (space_front gap (name ++ z) g (head_lower name z 104 (codes "tml") n letter_h), word_front (codes "html") name z n)
    (legacy_by z q r rest (word_there keyword r 115 (codes "ystem") k) spaced found named)

html_without : (name : List ℕ) → IsWord (codes "html") name → has_byte 62 name ≡ false
html_without name n = word_without name ∙ ap (has_byte 62) n

system_without : (keyword : List ℕ) → IsWord (codes "system") keyword → has_byte 62 keyword ≡ false
system_without keyword k = word_without keyword ∙ ap (has_byte 62) k

identifier_without : (identifier : List ℕ) → (identifier ≡ codes "\"about:legacy-compat\"") ⊎ (identifier ≡ codes "'about:legacy-compat'") → has_byte 62 identifier ≡ false
identifier_without identifier (inl e) = rw e refl
identifier_without identifier (inr e) = rw e refl

plain_read : (b rest : List ℕ) → IsPlainDoctype false b → read_doctype (b ++ rest) ≡ taken (doctype false) rest
plain_read b rest p =
    let x = p.gap ++ (p.name ++ p.tail) in
    let cut : b ++ rest ≡ p.word ++ (x ++ 62 ∷ rest) = rw p.whole (simp append_assoc) in
    let without : has_byte 62 x ≡ false = joined 62 p.gap (p.name ++ p.tail) (space_without p.gap (gap_blank false p.gap p.gap_is)) (joined 62 p.name p.tail (html_without p.name p.name_is) (space_without p.tail p.tail_is)) in
    rw cut (read_whole p.word x rest false p.word_is without (plain_form p.gap p.name p.tail (gap_blank false p.gap p.gap_is) p.name_is p.tail_is))

legacy_read : (b rest : List ℕ) → IsLegacyDoctype false b → read_doctype (b ++ rest) ≡ taken (doctype true) rest
legacy_read b rest p =
    let r = p.between ++ (p.identifier ++ p.tail) in
    let z = p.space ++ (p.keyword ++ r) in
    let x = p.gap ++ (p.name ++ z) in
    let cut : b ++ rest ≡ p.word ++ (x ++ 62 ∷ rest) = rw p.whole (simp append_assoc) in
    let in_r : has_byte 62 r ≡ false = joined 62 p.between (p.identifier ++ p.tail) (space_without p.between (gap_blank false p.between p.between_is)) (joined 62 p.identifier p.tail (identifier_without p.identifier p.identifier_is) (space_without p.tail p.tail_is)) in
    let in_z : has_byte 62 z ≡ false = joined 62 p.space (p.keyword ++ r) (space_without p.space (gap_blank true p.space p.space_is)) (joined 62 p.keyword r (system_without p.keyword p.keyword_is) in_r) in
    let without : has_byte 62 x ≡ false = joined 62 p.gap (p.name ++ z) (space_without p.gap (gap_blank false p.gap p.gap_is)) (joined 62 p.name z (html_without p.name p.name_is) in_z) in
    rw cut (read_whole p.word x rest true p.word_is without (legacy_form p.gap p.name p.space p.keyword p.between p.identifier p.tail (gap_blank false p.gap p.gap_is) p.name_is p.space_is p.keyword_is (gap_blank false p.between p.between_is) p.identifier_is p.tail_is))

pub doctype_is_read : (legacy : Bool) (b rest : List ℕ) → WritesDoctype false legacy b → read_doctype (b ++ rest) ≡ taken (doctype legacy) rest
doctype_is_read false b rest p = plain_read b rest p
doctype_is_read true b rest p = legacy_read b rest p
