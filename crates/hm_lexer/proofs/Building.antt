-- What is ready is stepped as part of any longer text.
use Rattle.std.proofs.Common.{◌≡◌, ℕ, suc, ◌+◌, ◌-◌, ◌≤◌, Bool, true, false, cond, not, ◌&&◌, ◌||◌, ◌==◌, List, [], ◌∷◌, ◌++◌, length, drop, Option, Some, None, is_some, refl, sym, ap, ap₂, subst, ◌∙◌, arith, length-append, append_assoc}
use Rattle.std.proofs.lemmas.List.{length-drop, drop-append-le}
use Rattle.std.proofs.lemmas.Bool.{eqb-true, and_parts}
use Rattle.hm_base.specs.Bytes.{is_null, is_letter, some_passes}
use Rattle.hm_refs.specs.Names.{Entry}
use Rattle.hm_refs.specs.References.{Reference, reference}
use Rattle.hm_refs.specs.Tables.{IsTable}
use Rattle.hm_tree.specs.Tokens.{Seen, Scanned, taken, refused, slice, points, Extends}
use Rattle.hm_tree.specs.declared.tokens.ScanFault.{ScanFault}
use Rattle.hm_tree.specs.declared.tokens.ScanFault.TheVariants as faults
use Rattle.hm_scan.specs.Texts.{opens_markup, begins_markup, reference_in, ends_plain, read_text}
use Rattle.hm_token_laws.specs.First.{Mode, ordinary, in_svg, rcdata, raw, script, read_markup, read_here, three_more, nothing_skipped, after_empty_tags, next_here, Next, at_end, after_bytes, first, rule_of}
use Rattle.hm_token_laws.specs.Laws.{SoundNames, reads_markup}
use Rattle.hm_token_laws.specs.Readings.{ends_itself, NextExtends}
use Rattle.hm_token_laws.proofs.Longer.{next_tokens_extend}
use Rattle.hm_token_laws.proofs.References.{reference_good}
use Rattle.hm_token_laws.proofs.TextPieces.{names_of_table}
use Rattle.hm_construction_laws.specs.Steps.{Construction, step}
use Rattle.hm_construction_laws.specs.Trees.{refused_by, mode_of, stepped, over, tree_from}
use Rattle.hm_construction_laws.proofs.Modes.{is_mode}
use Rattle.hm_construction_laws.proofs.Rests.{shorter}
use Rattle.hm_lexer.specs.Ready.{ends_reference, is_cut, tells_markup, is_told, here_ready, next_ready, ready, plain_piece, piece_by, part_after, part}
use Rattle.hm_lexer.specs.PartLaws.{GoesOn, PartsBuild}
use Rattle.hm_lexer.proofs.References.{references_last}
use Rattle.hm_lexer.proofs.Trees.{token_on, fault_on, end_on, is_foreign, first_here, no_empty_tag, step_text, ArePlain, text_builds}

-- ---- `</>` is passed over

-- the tree after it is that of what follows
empty_step : (t : List Entry) (place : ℕ → ℕ) (at : ℕ) (st : Construction) (s : List ℕ) → SoundNames t → reads_markup (mode_of st.path) ≡ true → tree_from t place 0 at st (60 ∷ 47 ∷ 62 ∷ s) ≡ tree_from t place 0 (at + 3) st s
empty_step t place at st s names m = by (is_null (after_empty_tags s).rest) refl
  where
    mode : Mode
    mode = mode_of st.path

    more : first t mode (60 ∷ 47 ∷ 62 ∷ s) ≡ next_here t (is_foreign mode) (three_more (after_empty_tags s))
    more = first_here t mode (60 ∷ 47 ∷ 62 ∷ s) m

    less : first t mode s ≡ next_here t (is_foreign mode) (after_empty_tags s)
    less = first_here t mode s m

    on : (x : Scanned) → first t mode (60 ∷ 47 ∷ 62 ∷ s) ≡ after_bytes (3 + (after_empty_tags s).count) x → first t mode s ≡ after_bytes (after_empty_tags s).count x → tree_from t place 0 at st (60 ∷ 47 ∷ 62 ∷ s) ≡ tree_from t place 0 (at + 3) st s
    on (taken token rest) e f =
        let n : ℕ = (after_empty_tags s).count in
        let short = shorter t mode s n token rest names (is_mode st.path) f in
        let one : at + (3 + n) ≡ at + 3 + n = omega arith in
        let two : at + (length (60 ∷ 47 ∷ 62 ∷ s) - length rest) ≡ at + 3 + (length s - length rest) = omega arith in
        token_on t place at st (60 ∷ 47 ∷ 62 ∷ s) (3 + n) token rest names e
        ∙ ap₂ (λ i j. stepped place i (step st token) (λ next. tree_from t place 0 j next rest)) one two
        ∙ sym (token_on t place (at + 3) st s n token rest names f)
    on (refused fault) e f =
        let n : ℕ = (after_empty_tags s).count in
        let one : at + (3 + n) ≡ at + 3 + n = omega arith in
        fault_on t place at (3 + n) st fault (60 ∷ 47 ∷ 62 ∷ s) e ∙ ap (λ i. refused_by (rule_of fault) (place i)) one ∙ sym (fault_on t place (at + 3) n st fault s f)

    by : (b : Bool) → is_null (after_empty_tags s).rest ≡ b → tree_from t place 0 at st (60 ∷ 47 ∷ 62 ∷ s) ≡ tree_from t place 0 (at + 3) st s
    by true e =
        let one : at + length (60 ∷ 47 ∷ 62 ∷ s) ≡ at + 3 + length s = omega arith in
        end_on t place at st (60 ∷ 47 ∷ 62 ∷ s) (more ∙ rw e refl) ∙ ap (λ i. over place i st) one ∙ sym (end_on t place (at + 3) st s (less ∙ rw e refl))
    by false e = on (read_here t (is_foreign mode) (after_empty_tags s).rest) (more ∙ rw e refl) (less ∙ rw e refl)

pub empty_bytes : (a b c : ℕ) → a == 60 && (b == 47 && c == 62) ≡ true → (s : List ℕ) → a ∷ b ∷ c ∷ s ≡ 60 ∷ 47 ∷ 62 ∷ s
empty_bytes a b c h s =
    let one = and_parts (a == 60) (b == 47 && c == 62) h in
    let two = and_parts (b == 47) (c == 62) one.1 in
    let p = eqb-true a 60 one.0 in
    let q = eqb-true b 47 two.0 in
    let r = eqb-true c 62 two.1 in
    rw (p, q, r) refl

empties_on : (t : List Entry) (place : ℕ → ℕ) (at : ℕ) (st : Construction) (s y : List ℕ) → SoundNames t → reads_markup (mode_of st.path) ≡ true
    → tree_from t place 0 at st (s ++ y) ≡ tree_from t place 0 (at + (after_empty_tags s).count) st ((after_empty_tags s).rest ++ y)
empties_on t place at st [] y names m = ap (λ i. tree_from t place 0 i st y) (omega arith)
empties_on t place at st (a ∷ []) y names m = ap (λ i. tree_from t place 0 i st (a ∷ y)) (omega arith)
empties_on t place at st (a ∷ b ∷ []) y names m = ap (λ i. tree_from t place 0 i st (a ∷ b ∷ y)) (omega arith)
empties_on t place at st (a ∷ b ∷ c ∷ s) y names m = by (a == 60 && (b == 47 && c == 62)) refl (empties_on t place (at + 3) st s y names m)
  where
    here : at ≡ at + 0
    here = omega arith

    far : at + 3 + (after_empty_tags s).count ≡ at + (3 + (after_empty_tags s).count)
    far = omega arith

    by : (x : Bool) → (a == 60 && (b == 47 && c == 62)) ≡ x → tree_from t place 0 (at + 3) st (s ++ y) ≡ tree_from t place 0 (at + 3 + (after_empty_tags s).count) st ((after_empty_tags s).rest ++ y)
        → tree_from t place 0 at st (a ∷ b ∷ c ∷ (s ++ y)) ≡ tree_from t place 0 (at + (cond x (three_more (after_empty_tags s)) (nothing_skipped (a ∷ b ∷ c ∷ s))).count) st ((cond x (three_more (after_empty_tags s)) (nothing_skipped (a ∷ b ∷ c ∷ s))).rest ++ y)
    by true e more = ap (tree_from t place 0 at st) (empty_bytes a b c e (s ++ y)) ∙ empty_step t place at st (s ++ y) names m ∙ more ∙ ap (λ i. tree_from t place 0 i st ((after_empty_tags s).rest ++ y)) far
    by false e more = ap (λ i. tree_from t place 0 i st (a ∷ b ∷ c ∷ (s ++ y))) here

pub tags_counted : (s : List ℕ) → length s ≡ (after_empty_tags s).count + length (after_empty_tags s).rest
tags_counted [] = refl
tags_counted (a ∷ []) = refl
tags_counted (a ∷ b ∷ []) = refl
tags_counted (a ∷ b ∷ c ∷ s) = by (a == 60 && (b == 47 && c == 62)) (tags_counted s)
  where
    by : (x : Bool) → length s ≡ (after_empty_tags s).count + length (after_empty_tags s).rest → suc (suc (suc (length s))) ≡ (cond x (three_more (after_empty_tags s)) (nothing_skipped (a ∷ b ∷ c ∷ s))).count + length (cond x (three_more (after_empty_tags s)) (nothing_skipped (a ∷ b ∷ c ∷ s))).rest
    by true h = omega arith
    by false h = omega arith

-- ---- what ends by itself

pub not_cut : (fault : ScanFault) (y : List ℕ) (longer : Scanned) → not (is_cut (refused fault)) ≡ true → Extends y (refused fault) longer → longer ≡ refused fault
not_cut faults.Cut y longer h e = cc
not_cut faults.BadName y longer h e = e
not_cut faults.TooManyAttributes y longer h e = e
not_cut faults.BadDoctype y longer h e = e
not_cut faults.OutOfMemory y longer h e = e

extends_on : (t : List Entry) (place : ℕ → ℕ) (at : ℕ) (st : Construction) (s y : List ℕ) (x : Next) → SoundNames t → next_ready x ≡ true → NextExtends y x (first t (mode_of st.path) (s ++ y)) → GoesOn t place at st s y x
extends_on t place at st s y at_end names h e = cc
extends_on t place at st s y (after_bytes n (refused fault)) names h (longer, is, more) = fault_on t place at n st fault (s ++ y) (is ∙ ap (after_bytes n) (not_cut fault y longer h more))
extends_on t place at st s y (after_bytes n (taken token rest)) names h (longer, is, more) =
    let size : length (s ++ y) - length (rest ++ y) ≡ length s - length rest = let a = length-append s y in let b = length-append rest y in omega arith in
    token_on t place at st (s ++ y) n token (rest ++ y) names (is ∙ ap (after_bytes n) more)
    ∙ ap (λ k. stepped place (at + n) (step st token) (λ next. tree_from t place 0 (at + k) next (rest ++ y))) size

-- ---- ordinary text

-- what stands after '<' tells it already
pub opens_same : (r y : List ℕ) → tells_markup r ≡ true → opens_markup (r ++ y) ≡ opens_markup r
opens_same [] y h = cc
opens_same (d ∷ []) y h = by (d == 47) h
  where
    by : (b : Bool) → not b ≡ true → is_letter d || (d == 33 || (d == 63 || (b && not (is_null y)))) ≡ is_letter d || (d == 33 || (d == 63 || (b && false)))
    by true h = cc
    by false h = refl
opens_same (d ∷ e ∷ r) y h = refl

pub markup_same : (c : ℕ) (r y : List ℕ) → is_told c r ≡ true → begins_markup (c ∷ (r ++ y)) ≡ begins_markup (c ∷ r)
unfolding begins_markup
markup_same c r y h = by (c == 60) h
  where
    by : (b : Bool) → cond b (tells_markup r) (cond (c == 38) (some_passes ends_reference r) true) ≡ true → b && opens_markup (r ++ y) ≡ b && opens_markup r
    by true h = opens_same r y h
    by false h = refl

no_both : (c : ℕ) → (c == 60) ≡ true → (c == 38) ≡ false
no_both c h = let e = eqb-true c 60 h in rw e refl

pub reference_same : (t : List Entry) (c : ℕ) (r y : List ℕ) → IsTable t → is_told c r ≡ true → reference_in t c (r ++ y) ≡ reference_in t c r
unfolding reference_in
reference_same t c r y k h = by (c == 60) refl (c == 38) refl h
  where
    by : (a : Bool) → (c == 60) ≡ a → (b : Bool) → (c == 38) ≡ b → cond a (tells_markup r) (cond b (some_passes ends_reference r) true) ≡ true
        → cond b (reference t false (c ∷ (r ++ y))) None ≡ cond b (reference t false (c ∷ r)) None
    by true e true f h = absurd (clash (no_both c e) f)
      where
        clash : (c == 38) ≡ false → (c == 38) ≡ true → ⊥
        clash p q = cc
    by true e false f h = refl
    by false e true f h = let same : c ≡ 38 = eqb-true c 38 f in rw same (references_last t r y k h)
    by false e false f h = refl

pub plain_same : (t : List Entry) (c : ℕ) (r y : List ℕ) → IsTable t → is_told c r ≡ true → ends_plain t false c (r ++ y) ≡ ends_plain t false c r
plain_same t c r y k h = ap₂ (λ a o. a || is_some o) (markup_same c r y h) (reference_same t c r y k h)

-- a piece of text is a front of it, and its bytes stand for themselves in any longer text
pub piece_front : (t : List Entry) (r : List ℕ) → r ≡ plain_piece t r ++ drop (length (plain_piece t r)) r
piece_front t [] = refl
piece_front t (c ∷ r) = by (is_told c r && not (ends_plain t false c r)) (piece_front t r)
  where
    by : (b : Bool) → r ≡ plain_piece t r ++ drop (length (plain_piece t r)) r → c ∷ r ≡ cond b (c ∷ plain_piece t r) [] ++ drop (length (cond b (c ∷ plain_piece t r) [])) (c ∷ r)
    by true h = ap (λ l. c ∷ l) h
    by false h = refl

pub piece_plain : (t : List Entry) (r y : List ℕ) → IsTable t → ArePlain t (plain_piece t r) (drop (length (plain_piece t r)) r ++ y)
piece_plain t [] y k = tt
piece_plain t (c ∷ r) y k = by (is_told c r) refl (ends_plain t false c r) refl (piece_plain t r y k)
  where
    whole : plain_piece t r ++ (drop (length (plain_piece t r)) r ++ y) ≡ r ++ y
    whole = sym (append_assoc (plain_piece t r) (drop (length (plain_piece t r)) r) y) ∙ ap (λ l. l ++ y) (sym (piece_front t r))

    by : (a : Bool) → is_told c r ≡ a → (b : Bool) → ends_plain t false c r ≡ b → ArePlain t (plain_piece t r) (drop (length (plain_piece t r)) r ++ y)
        → ArePlain t (cond (a && not b) (c ∷ plain_piece t r) []) (drop (length (cond (a && not b) (c ∷ plain_piece t r) [])) (c ∷ r) ++ y)
    by true e false f more = (ap (ends_plain t false c) whole ∙ plain_same t c r y k e ∙ f, more)
    by true e true f more = tt
    by false e b f more = tt

pub reference_short : (t : List Entry) (c : ℕ) (r : List ℕ) (ref : Reference) → SoundNames t → reference_in t c r ≡ Some ref → ref.len ≤ length (c ∷ r)
unfolding reference_in
reference_short t c r ref names h = by (c == 38) refl h
  where
    by : (b : Bool) → (c == 38) ≡ b → cond b (reference t false (c ∷ r)) None ≡ Some ref → ref.len ≤ length (c ∷ r)
    by true e h =
        let same : c ≡ 38 = eqb-true c 38 e in
        let good = reference_good t false r ref names (subst (λ n. reference t false (n ∷ r) ≡ Some ref) same h) in
        let size : suc (length r) ≡ length good.written + length good.rest = ap length good.is ∙ length-append good.written good.rest in
        let len = good.len in
        omega arith
    by false e h = cc

-- a reference where text is read
pub reference_token : (t : List Entry) (mode : Mode) (c : ℕ) (s : List ℕ) (ref : Reference) → reads_markup mode ≡ true → begins_markup (c ∷ s) ≡ false → reference_in t c s ≡ Some ref → first t mode (c ∷ s) ≡ after_bytes 0 (taken (points ref.points) (drop ref.len (c ∷ s)))
unfolding read_text
reference_token t mode c s ref m none h =
    first_here t mode (c ∷ s) m ∙ ap (next_here t (is_foreign mode)) (no_empty_tag (c ∷ s) none) ∙ rw none (ap (after_bytes 0) (rw h refl))

text_on : (t : List Entry) (place : ℕ → ℕ) (at : ℕ) (st : Construction) (c : ℕ) (r y : List ℕ) → IsTable t → reads_markup (mode_of st.path) ≡ true → is_told c r ≡ true → begins_markup (c ∷ r) ≡ false
    → GoesOn t place at st (c ∷ r) y (after_bytes 0 (piece_by (reference_in t c r) t c r))
text_on t place at st c r y k m told none = by (reference_in t c r) refl
  where
    here : at ≡ at + 0
    here = omega arith

    no_markup : begins_markup (c ∷ (r ++ y)) ≡ false
    no_markup = markup_same c r y told ∙ none

    same : reference_in t c (r ++ y) ≡ reference_in t c r
    same = reference_same t c r y k told

    by : (o : Option Reference) → reference_in t c r ≡ o → GoesOn t place at st (c ∷ r) y (after_bytes 0 (piece_by o t c r))
    by (Some ref) e =
        let short = reference_short t c r ref (names_of_table t k) e in
        let cut : drop ref.len (c ∷ (r ++ y)) ≡ drop ref.len (c ∷ r) ++ y = drop-append-le ref.len (c ∷ r) y short in
        let token : first t (mode_of st.path) (c ∷ (r ++ y)) ≡ after_bytes 0 (taken (points ref.points) (drop ref.len (c ∷ r) ++ y)) = reference_token t (mode_of st.path) c (r ++ y) ref m no_markup (same ∙ e) ∙ ap (λ l. after_bytes 0 (taken (points ref.points) l)) cut in
        let size : length (c ∷ (r ++ y)) - length (drop ref.len (c ∷ r) ++ y) ≡ length (c ∷ r) - length (drop ref.len (c ∷ r)) = let a = length-append (c ∷ r) y in let b = length-append (drop ref.len (c ∷ r)) y in omega arith in
        token_on t place at st (c ∷ (r ++ y)) 0 (points ref.points) (drop ref.len (c ∷ r) ++ y) (names_of_table t k) token
        ∙ ap (λ n. stepped place (at + 0) (step st (points ref.points)) (λ next. tree_from t place 0 (at + n) next (drop ref.len (c ∷ r) ++ y))) size
    by None e =
        let f : List ℕ = plain_piece t r in
        let b : List ℕ = drop (length f) r in
        let whole : r ++ y ≡ f ++ (b ++ y) = ap (λ l. l ++ y) (piece_front t r) ∙ append_assoc f b y in
        let plain : ends_plain t false c (f ++ (b ++ y)) ≡ false = ap (ends_plain t false c) (sym whole) ∙ ap₂ (λ p o. p || is_some o) no_markup (same ∙ e) in
        let size : suc (length f) ≡ length (c ∷ r) - length b = let n : length r ≡ length f + length b = ap length (piece_front t r) ∙ length-append f b in omega arith in
        ap (λ l. tree_from t place 0 at st (c ∷ l)) whole
        ∙ text_builds t place at st c f (b ++ y) m (plain, piece_plain t r y k)
        ∙ ap₂ (λ o n. stepped place at o (λ next. tree_from t place 0 (at + n) next (b ++ y))) (sym (step_text st (c ∷ f))) size
        ∙ ap (λ i. stepped place i (step st (slice (c ∷ f))) (λ next. tree_from t place 0 (at + (length (c ∷ r) - length b)) next (b ++ y))) here

-- after `</>`
later_on : (t : List Entry) (place : ℕ → ℕ) (at n : ℕ) (st : Construction) (s r y : List ℕ) (x : Scanned) → length s ≡ n + length r → tree_from t place 0 at st (s ++ y) ≡ tree_from t place 0 (at + n) st (r ++ y) → (rest_short : (token : Seen) (rest : List ℕ) → x ≡ taken token rest → length rest ≤ length r)
    → GoesOn t place (at + n) st r y (after_bytes 0 x) → GoesOn t place at st s y (after_bytes n x)
later_on t place at n st s r y (refused fault) size e short h = let one : at + n + 0 ≡ at + n = omega arith in e ∙ h ∙ ap (λ i. refused_by (rule_of fault) (place i)) one
later_on t place at n st s r y (taken token rest) size e short h =
    let one : at + n + 0 ≡ at + n = omega arith in
    let less = short token rest refl in
    let two : at + n + (length r - length rest) ≡ at + (length s - length rest) = omega arith in
    e ∙ h ∙ ap₂ (λ i j. stepped place i (step st token) (λ next. tree_from t place 0 j next (rest ++ y))) one two

part_short : (t : List Entry) (c : ℕ) (r : List ℕ) (o : Option Reference) → (token : Seen) (rest : List ℕ) → piece_by o t c r ≡ taken token rest → length rest ≤ length (c ∷ r)
part_short t c r (Some ref) token rest e =
    let same : drop ref.len (c ∷ r) ≡ rest = cc in
    let size : length (drop ref.len (c ∷ r)) ≡ length (c ∷ r) - ref.len = length-drop ref.len (c ∷ r) in
    let equal : length (drop ref.len (c ∷ r)) ≡ length rest = ap length same in
    omega arith
part_short t c r None token rest e =
    let same : drop (length (plain_piece t r)) r ≡ rest = cc in
    let n : length (drop (length (plain_piece t r)) r) ≡ length r - length (plain_piece t r) = length-drop (length (plain_piece t r)) r in
    let equal : length (drop (length (plain_piece t r)) r) ≡ length rest = ap length same in
    omega arith

here_on : (t : List Entry) (place : ℕ → ℕ) (at : ℕ) (st : Construction) (s y : List ℕ) → IsTable t → (m : reads_markup (mode_of st.path) ≡ true) → ends_itself (mode_of st.path) s ≡ begins_markup (after_empty_tags s).rest
    → here_ready t (is_foreign (mode_of st.path)) (after_empty_tags s).rest ≡ true → GoesOn t place at st s y (part_after t (is_foreign (mode_of st.path)) (after_empty_tags s))
here_on t place at st s y k m ends h = by (after_empty_tags s).rest refl h
  where
    names : SoundNames t
    names = names_of_table t k

    mode : Mode
    mode = mode_of st.path

    foreign : Bool
    foreign = is_foreign mode

    n : ℕ
    n = (after_empty_tags s).count

    -- markup is the next token
    markup : (c : ℕ) (r : List ℕ) → (after_empty_tags s).rest ≡ c ∷ r → begins_markup (c ∷ r) ≡ true → here_ready t foreign (c ∷ r) ≡ true → GoesOn t place at st s y (after_bytes n (read_markup t foreign (c ∷ r)))
    markup c r e b h =
        let next : first t mode s ≡ after_bytes n (read_markup t foreign (c ∷ r)) = first_here t mode s m ∙ rw (e, b) refl in
        let whole : not (is_cut (read_markup t foreign (c ∷ r))) ≡ true = subst (λ x. not (is_cut (cond x (read_markup t foreign (c ∷ r)) (read_text t false (c ∷ r)))) ≡ true) b (and_parts (is_told c r) (not (is_cut (read_here t foreign (c ∷ r)))) h).1 in
        let itself : ends_itself mode s ≡ true = ends ∙ ap begins_markup e ∙ b in
        extends_on t place at st s y (after_bytes n (read_markup t foreign (c ∷ r))) names whole (subst (λ x. NextExtends y x (first t mode (s ++ y))) next (next_tokens_extend t mode s y itself))

    text : (c : ℕ) (r : List ℕ) → (after_empty_tags s).rest ≡ c ∷ r → begins_markup (c ∷ r) ≡ false → here_ready t foreign (c ∷ r) ≡ true → GoesOn t place at st s y (after_bytes n (piece_by (reference_in t c r) t c r))
    text c r e b h =
        later_on t place at n st s (c ∷ r) y (piece_by (reference_in t c r) t c r) (tags_counted s ∙ ap (λ l. n + length l) e) (empties_on t place at st s y names m ∙ ap (λ l. tree_from t place 0 (at + n) st (l ++ y)) e) (part_short t c r (reference_in t c r))
        (text_on t place (at + n) st c r y k m (and_parts (is_told c r) (not (is_cut (read_here t foreign (c ∷ r)))) h).0 b)

    by : (rest : List ℕ) → (after_empty_tags s).rest ≡ rest → here_ready t foreign rest ≡ true → GoesOn t place at st s y (part_after t foreign (record { count = n; rest = rest }))
    by [] e h = cc
    by (c ∷ r) e h = choose (begins_markup (c ∷ r)) refl
      where
        choose : (b : Bool) → begins_markup (c ∷ r) ≡ b → GoesOn t place at st s y (after_bytes n (cond b (read_markup t foreign (c ∷ r)) (piece_by (reference_in t c r) t c r)))
        choose true b = markup c r e b h
        choose false b = text c r e b h

-- ---- the law

pub parts_build : PartsBuild
unfolding ready part
parts_build t place at st s y k h = by (mode_of st.path) refl h
  where
    names : SoundNames t
    names = names_of_table t k

    by : (m : Mode) → mode_of st.path ≡ m → ready t m s ≡ true → GoesOn t place at st s y (part t m s)
    by ordinary e h = subst (λ m. GoesOn t place at st s y (part_after t (is_foreign m) (after_empty_tags s))) e (here_on t place at st s y k (ap reads_markup e) (ap (λ m. ends_itself m s) e) (subst (λ m. here_ready t (is_foreign m) (after_empty_tags s).rest ≡ true) (sym e) h))
    by in_svg e h = subst (λ m. GoesOn t place at st s y (part_after t (is_foreign m) (after_empty_tags s))) e (here_on t place at st s y k (ap reads_markup e) (ap (λ m. ends_itself m s) e) (subst (λ m. here_ready t (is_foreign m) (after_empty_tags s).rest ≡ true) (sym e) h))
    by (rcdata name) e h = extends_on t place at st s y (first t (rcdata name) s) names h (subst (λ m. NextExtends y (first t (rcdata name) s) (first t m (s ++ y))) (sym e) (next_tokens_extend t (rcdata name) s y refl))
    by (raw name) e h = extends_on t place at st s y (first t (raw name) s) names h (subst (λ m. NextExtends y (first t (raw name) s) (first t m (s ++ y))) (sym e) (next_tokens_extend t (raw name) s y refl))
    by script e h = extends_on t place at st s y (first t script s) names h (subst (λ m. NextExtends y (first t script s) (first t m (s ++ y))) (sym e) (next_tokens_extend t script s y refl))
