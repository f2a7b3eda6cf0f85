-- Which bytes may stand in a spelling: those that pass a test, where references, bytes above ASCII, sections and what may
-- stand as itself all pass it.
use Rattle.std.proofs.Common.{◌≡◌, ℕ, Bool, true, false, not, ◌&&◌, ◌==◌, List, [], ◌∷◌, ◌++◌, codes, encode_utf8_all, refl, sym, subst}
use Rattle.std.proofs.lemmas.Bool.{and_parts, and_from, eqb-true}
use lib.Utf8.{encode}
use Rattle.hm_base.specs.Bytes.{all_pass, is_null}
use Rattle.hm_base.specs.Forms.{has_mark}
use Rattle.hm_refs.specs.Names.{Entry}
use Rattle.hm_refs.specs.Tables.{IsTable}
use Rattle.hm_token_laws.proofs.Plain.{pass_both}
use Rattle.hm_spelling_spec.specs.Characters.{Spot, is_foreign, is_writable, may_stand_in, may_stand, is_section, CharacterRules, Piece, itself, reference_to, section, spelled, AreAllowed}
use Rattle.hm_round_trip_laws.specs.References.{is_reference_byte}
use Rattle.hm_round_trip_laws.proofs.Encoded.{PassesHigh, encode_passes}
use Rattle.hm_round_trip_laws.proofs.ReferencePieces.{Refers, amp_piece}

-- the marks of a section pass, and what may stand in one
pub record AllowsSections (p : ℕ → Bool) (ascii : Bool) : Type 0 where
  pub marks : (all_pass p (codes "<![CDATA[") ≡ true) × (all_pass p (codes "]]>") ≡ true)
  pub written : (c : ℕ) → is_writable ascii c ≡ true → p c ≡ true

pub record Allows (p : ℕ → Bool) (ascii : Bool) (spot : Spot) : Type 0 where
  pub high : PassesHigh p
  pub amp : p 38 ≡ true
  pub few : (c : ℕ) → is_reference_byte c ≡ true → p c ≡ true
  pub stands : (c : ℕ) → may_stand ascii spot c ≡ true → p c ≡ true
  pub sections : is_foreign spot ≡ true → AllowsSections p ascii

pub few_pass : (p : ℕ → Bool) (s : List ℕ) → ((c : ℕ) → is_reference_byte c ≡ true → p c ≡ true) → all_pass is_reference_byte s ≡ true → all_pass p s ≡ true
few_pass p [] f h = refl
few_pass p (c ∷ s) f h = let both = and_parts (is_reference_byte c) (all_pass is_reference_byte s) h in and_from (p c) (all_pass p s) (f c both.0) (few_pass p s f both.1)

-- the bytes of a reference pass
pub reference_pass : (t : List Entry) (spot : Spot) (p : ℕ → Bool) (qs b after : List ℕ) → IsTable t → p 38 ≡ true → ((c : ℕ) → is_reference_byte c ≡ true → p c ≡ true) → Refers t spot qs b after → all_pass p b ≡ true
reference_pass t spot p qs b after k amp few r =
    let m = amp_piece t spot qs b after k r in
    subst (λ x. all_pass p x ≡ true) (sym m.is) (and_from (p 38) (all_pass p m.inner) amp (few_pass p m.inner few m.few))

-- the bytes of characters that pass themselves pass
pub encodes_pass : (p : ℕ → Bool) (cs : List ℕ) → PassesHigh p → all_pass p cs ≡ true → all_pass p (encode_utf8_all cs) ≡ true
encodes_pass p [] high h = refl
encodes_pass p (c ∷ cs) high h = let both = and_parts (p c) (all_pass p cs) h in pass_both p (encode c) (encode_utf8_all cs) (encode_passes p c high both.0) (encodes_pass p cs high both.1)

pub pass_more : (p q : ℕ → Bool) (s : List ℕ) → ((c : ℕ) → p c ≡ true → q c ≡ true) → all_pass p s ≡ true → all_pass q s ≡ true
pass_more p q [] f h = refl
pass_more p q (c ∷ s) f h = let both = and_parts (p c) (all_pass p s) h in and_from (q c) (all_pass q s) (f c both.0) (pass_more p q s f both.1)

-- ---- sections

-- the code points of a section
pub record Sectioned (ascii : Bool) (cs : List ℕ) : Type 0 where
  pub some : not (is_null cs) ≡ true
  pub written : all_pass (is_writable ascii) cs ≡ true
  pub unended : not (has_mark (codes "]]>") cs) ≡ true

pub sectioned : (ascii : Bool) (cs : List ℕ) → is_section ascii cs ≡ true → Sectioned ascii cs
unfolding is_section
sectioned ascii cs h =
    let one = and_parts (not (is_null cs)) (all_pass (is_writable ascii) cs && not (has_mark (codes "]]>") cs)) h in
    let two = and_parts (all_pass (is_writable ascii) cs) (not (has_mark (codes "]]>") cs)) one.1 in
    record { some = one.0; written = two.0; unended = two.1 }

pub section_pass : (p : ℕ → Bool) (cs : List ℕ) → PassesHigh p → all_pass p (codes "<![CDATA[") ≡ true → all_pass p (codes "]]>") ≡ true → all_pass p cs ≡ true
    → all_pass p (codes "<![CDATA[" ++ (encode_utf8_all cs ++ codes "]]>")) ≡ true
section_pass p cs high h i all = pass_both p (codes "<![CDATA[") (encode_utf8_all cs ++ codes "]]>") h (pass_both p (encode_utf8_all cs) (codes "]]>") (encodes_pass p cs high all) i)

-- ---- pieces

pub all_within : (t : List Entry) (rules : CharacterRules) (spot : Spot) (p : ℕ → Bool) (ps : List Piece) (after : List ℕ) → IsTable t → Allows p rules.ascii spot → AreAllowed t rules spot ps after → all_pass p (spelled ps) ≡ true
all_within t rules spot p [] after k a g = refl
all_within t rules spot p (itself c ∷ ps) after k a ((stands, kept), g) = pass_both p (encode c) (spelled ps) (encode_passes p c a.high (a.stands c stands)) (all_within t rules spot p ps after k a g)
all_within t rules spot p (reference_to b qs ∷ ps) after k a ((begins, r), g) =
    pass_both p b (spelled ps) (reference_pass t spot p qs b (spelled ps ++ after) k a.amp a.few r) (all_within t rules spot p ps after k a g)
all_within t rules spot p (section cs ∷ ps) after k a ((here, good), g) =
    let s = a.sections here in
    let all = pass_more (is_writable rules.ascii) p cs s.written (sectioned rules.ascii cs good).written in
    pass_both p (codes "<![CDATA[" ++ (encode_utf8_all cs ++ codes "]]>")) (spelled ps) (section_pass p cs a.high s.marks.0 s.marks.1 all) (all_within t rules spot p ps after k a g)

-- ---- single bytes

-- no reference has this byte
pub not_few : (x c : ℕ) → is_reference_byte x ≡ false → is_reference_byte c ≡ true → (c == x) ≡ false
not_few x c never h = by_test (c == x) refl
  where
    by_test : (b : Bool) → (c == x) ≡ b → b ≡ false
    by_test true e = let same : c ≡ x = eqb-true c x e in absurd (let yes : is_reference_byte x ≡ true = subst (λ d. is_reference_byte d ≡ true) same h in cc)
    by_test false e = refl

pub written_part : (ascii : Bool) (spot : Spot) (c : ℕ) → may_stand ascii spot c ≡ true → is_writable ascii c ≡ true
unfolding may_stand
written_part ascii spot c h = (and_parts (is_writable ascii c) (may_stand_in spot c) h).0

pub spot_part : (ascii : Bool) (spot : Spot) (c : ℕ) → may_stand ascii spot c ≡ true → may_stand_in spot c ≡ true
unfolding may_stand
spot_part ascii spot c h = (and_parts (is_writable ascii c) (may_stand_in spot c) h).1
