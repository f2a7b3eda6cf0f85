-- Where the text of a script ends, whatever follows its end tag.
use Rattle.std.proofs.Common.{◌≡◌, ℕ, suc, ◌+◌, ◌≤◌, ◌<◌, Bool, true, false, cond, List, [], ◌∷◌, ◌++◌, map, length, take, drop, Option, Some, None, refl, sym, ap, subst, ◌∙◌, arith, codes, length-append, lit<}
use Rattle.std.proofs.lemmas.List.{length-take-le, take-append-drop, take_at, drop_at, length-map}
use Rattle.hm_base.specs.Bytes.{strip, strip_word, lower}
use Rattle.hm_base.specs.RawText.{is_found, is_found_whole, begins_end_tag, mark_at, Mark, opens_comment, closes_comment, opens_script, closes_script, with_mark, marks_from, ScriptState, unescaped, escaped, double_escaped, state_after, ends_script, first_end, script_end}
use Rattle.hm_tree.specs.Tokens.{taken, slice, Extends}
use Rattle.hm_scan.specs.Pieces.{slice_up_to}
use Rattle.hm_scan.specs.RawTexts.{read_script}
use Rattle.hm_scan.proofs.Lowered.{AreSigns, found_lower, found_front, whole_lower}
use Rattle.hm_scan.proofs.RawTextLaws.{lowered_before, whole_before, parted, begins_longer}

-- the mark by what is found at its place
abbrev pub mark_by : Bool → Bool → Bool → Bool → Option Mark
mark_by a b c d = cond a (Some opens_comment) (cond b (Some closes_comment) (cond c (Some opens_script) (cond d (Some closes_script) None)))

abbrev pub ends : List ℕ → Bool
ends s = begins_end_tag (codes "script") s

-- a mark without letters, at a byte before the end tag
found_before : (m t e : List ℕ) (c : ℕ) → AreSigns m → length m ≤ 9 → ends e ≡ true
    → is_found (strip m (c ∷ (t ++ e))) ≡ is_found (strip m (map lower (c ∷ t) ++ codes "</script"))
unfolding begins_end_tag
found_before m t e c signs low h =
    let q = lowered_before (codes "</script") (c ∷ t) e h in
    let long : length m ≤ length (map lower (c ∷ t) ++ codes "</script") = simp (length-append, length-map) (omega arith) in
    found_lower m (c ∷ (t ++ e)) signs ∙ ap (λ x. is_found (strip m x)) q.1 ∙ found_front m (map lower (c ∷ t) ++ codes "</script") q.0 long

opens_signs : AreSigns (codes "<!--")
opens_signs = (lit< tt, (lit< tt, (lit< tt, (lit< tt, tt))))

closes_signs : AreSigns (codes "-->")
closes_signs = (lit< tt, (lit< tt, (lit< tt, tt)))

-- at an end tag of the script stands its mark
pub mark_of_end : (e : List ℕ) → ends e ≡ true → mark_at e ≡ Some closes_script
unfolding mark_at begins_end_tag
mark_of_end e h =
    let q = lowered_before (codes "</script") [] e h in
    let no_comment : is_found (strip (codes "<!--") e) ≡ false = found_lower (codes "<!--") e opens_signs ∙ ap (λ x. is_found (strip (codes "<!--") x)) q.1 in
    let no_end : is_found (strip (codes "-->") e) ≡ false = found_lower (codes "-->") e closes_signs ∙ ap (λ x. is_found (strip (codes "-->") x)) q.1 in
    let no_script : is_found_whole (strip_word (codes "<script") e) ≡ false = whole_lower (codes "<script") e ∙ ap (λ x. is_found_whole (strip (codes "<script") x)) q.1 in
    rw (no_comment, no_end, no_script, h) refl

mark_alike : {a a' b b' c c' d d' : Bool} → a ≡ a' → b ≡ b' → c ≡ c' → d ≡ d' → mark_by a b c d ≡ mark_by a' b' c' d'
mark_alike a b c d = rw (a, b, c, d) refl

-- the first end isn't before the first mark
first_bound : (st : ScriptState) (i n : ℕ) (s : List ℕ) → first_end st (marks_from i s) ≡ Some n → i ≤ n
first_bound st i n [] found = cc
first_bound st i n (c ∷ s) found = either (mark_at (c ∷ s)) found (λ next. first_bound next (suc i) n s)
  where
    either : (m : Option Mark) → first_end st (with_mark m i (marks_from (suc i) s)) ≡ Some n → ((next : ScriptState) → first_end next (marks_from (suc i) s) ≡ Some n → suc i ≤ n) → i ≤ n
    either None f more = omega (arith, more st f)
    either (Some k) f more = ended (ends_script st k) f
      where
        ended : (b : Bool) → cond b (Some i) (first_end (state_after st k) (marks_from (suc i) s)) ≡ Some n → i ≤ n
        ended true g = let same : i ≡ n = cc in omega arith
        ended false g = omega (arith, more (state_after st k) g)

-- the end of a script is an end tag
closes : (st : ScriptState) (k : Mark) → ends_script st k ≡ true → k ≡ closes_script
closes unescaped closes_script e = refl
closes escaped closes_script e = refl
closes unescaped opens_comment e = cc
closes unescaped closes_comment e = cc
closes unescaped opens_script e = cc
closes escaped opens_comment e = cc
closes escaped closes_comment e = cc
closes escaped opens_script e = cc
closes double_escaped opens_comment e = cc
closes double_escaped closes_comment e = cc
closes double_escaped opens_script e = cc
closes double_escaped closes_script e = cc

marks_end : (a b c d : Bool) → mark_by a b c d ≡ Some closes_script → d ≡ true
marks_end true b c d e = cc
marks_end false true c d e = cc
marks_end false false true d e = cc
marks_end false false false true e = refl
marks_end false false false false e = cc

mark_ends : (s : List ℕ) → mark_at s ≡ Some closes_script → ends s ≡ true
unfolding mark_at begins_end_tag
mark_ends s e = marks_end (is_found (strip (codes "<!--") s)) (is_found (strip (codes "-->") s)) (is_found_whole (strip_word (codes "<script") s)) (is_found_whole (strip_word (codes "</script") s)) e

-- where the end tag was found
pub first_found : (st : ScriptState) (i n : ℕ) (s : List ℕ) → first_end st (marks_from i s) ≡ Some n → (k : ℕ) × (n ≡ i + k) × (k < length s) × (ends (drop k s) ≡ true)
first_found st i n [] found = cc
first_found st i n (c ∷ s) found = either (mark_at (c ∷ s)) refl found (λ next. first_found next (suc i) n s)
  where
    after_first_byte : ((k : ℕ) × (n ≡ suc i + k) × (k < length s) × (ends (drop k s) ≡ true)) → (k : ℕ) × (n ≡ i + k) × (k < length (c ∷ s)) × (ends (drop k (c ∷ s)) ≡ true)
    after_first_byte q = (suc q.0, omega (arith, q.1), omega (arith, q.2), q.3)

    either : (m : Option Mark) → mark_at (c ∷ s) ≡ m → first_end st (with_mark m i (marks_from (suc i) s)) ≡ Some n
        → ((next : ScriptState) → first_end next (marks_from (suc i) s) ≡ Some n → (k : ℕ) × (n ≡ suc i + k) × (k < length s) × (ends (drop k s) ≡ true))
        → (k : ℕ) × (n ≡ i + k) × (k < length (c ∷ s)) × (ends (drop k (c ∷ s)) ≡ true)
    either None e f more = after_first_byte (more st f)
    either (Some k) e f more = ended (ends_script st k) refl f
      where
        ended : (b : Bool) → ends_script st k ≡ b → cond b (Some i) (first_end (state_after st k) (marks_from (suc i) s)) ≡ Some n → (j : ℕ) × (n ≡ i + j) × (j < length (c ∷ s)) × (ends (drop j (c ∷ s)) ≡ true)
        ended true g h = let same : i ≡ n = cc in (0, omega arith, omega arith, mark_ends (c ∷ s) (e ∙ ap Some (closes st k g)))
        ended false g h = after_first_byte (more (state_after st k) h)

-- at an end tag a script ends now or further on
ends_now : (st : ScriptState) (i : ℕ) (s : List ℕ) → ends s ≡ true → ends_script st closes_script ≡ true → first_end st (marks_from i s) ≡ Some i
unfolding begins_end_tag
ends_now st i [] h e = cc
ends_now st i (c ∷ s) h e = rw (mark_of_end (c ∷ s) h, e) refl

state_at_end : (st : ScriptState) (i : ℕ) (s : List ℕ) → ends s ≡ true → first_end st (marks_from i s) ≡ Some i → ends_script st closes_script ≡ true
state_at_end st i [] h found = cc
state_at_end st i (c ∷ s) h found = by_state st (rw (mark_of_end (c ∷ s) h) at found)
  where
    by_state : (st : ScriptState) → cond (ends_script st closes_script) (Some i) (first_end (state_after st closes_script) (marks_from (suc i) s)) ≡ Some i → ends_script st closes_script ≡ true
    by_state unescaped f = refl
    by_state escaped f = refl
    by_state double_escaped f = let late : suc i ≤ i = first_bound escaped (suc i) i s f in absurd (omega arith)

-- another end tag ends the same text
module _ (e e' : List ℕ) (ends_e : ends e ≡ true) (ends_e' : ends e' ≡ true) where
  mark_same : (t : List ℕ) (c : ℕ) → mark_at (c ∷ (t ++ e)) ≡ mark_at (c ∷ (t ++ e'))
  unfolding mark_at begins_end_tag
  mark_same t c = mark_alike
      (found_before (codes "<!--") t e c opens_signs (omega arith) ends_e ∙ sym (found_before (codes "<!--") t e' c opens_signs (omega arith) ends_e'))
      (found_before (codes "-->") t e c closes_signs (omega arith) ends_e ∙ sym (found_before (codes "-->") t e' c closes_signs (omega arith) ends_e'))
      (whole_before (codes "<script") (codes "</script") t e c (omega arith) ends_e ∙ sym (whole_before (codes "<script") (codes "</script") t e' c (omega arith) ends_e'))
      (whole_before (codes "</script") (codes "</script") t e c (omega arith) ends_e ∙ sym (whole_before (codes "</script") (codes "</script") t e' c (omega arith) ends_e'))

  pub first_same : (st : ScriptState) (t : List ℕ) (i n : ℕ) → n ≡ i + length t → first_end st (marks_from i (t ++ e)) ≡ Some n → first_end st (marks_from i (t ++ e')) ≡ Some n
  first_same st [] i n at found =
      let same : n ≡ i = omega arith in
      let here : first_end st (marks_from i e) ≡ Some i = rw same at found in
      rw same (ends_now st i e' ends_e' (state_at_end st i e ends_e here))
  first_same st (c ∷ t) i n at found = rw (sym (mark_same t c)) (either (mark_at (c ∷ (t ++ e))) found (λ next. first_same next t (suc i) n (omega arith)))
    where
      either : (m : Option Mark) → first_end st (with_mark m i (marks_from (suc i) (t ++ e))) ≡ Some n
          → ((next : ScriptState) → first_end next (marks_from (suc i) (t ++ e)) ≡ Some n → first_end next (marks_from (suc i) (t ++ e')) ≡ Some n)
          → first_end st (with_mark m i (marks_from (suc i) (t ++ e'))) ≡ Some n
      either None f more = more st f
      either (Some k) f more =
          elim (ends_script st k) as (λ b. cond b (Some i) (first_end (state_after st k) (marks_from (suc i) (t ++ e))) ≡ Some n → cond b (Some i) (first_end (state_after st k) (marks_from (suc i) (t ++ e'))) ≡ Some n)
          [ true ↦ λ g. g | false ↦ λ g. more (state_after st k) g ] f

-- the text before the end tag is read
pub script_read : (t e e' : List ℕ) → ends e' ≡ true → script_end (t ++ e) ≡ Some (length t) → read_script (t ++ e') ≡ taken (slice t) e'
unfolding read_script
script_read t e e' ends_e' found =
    let q = first_found unescaped 0 (length t) (t ++ e) found in
    let at : q.0 ≡ length t = omega (arith, q.1) in
    let ends_e : ends e ≡ true = rw (drop_at t e (length t) refl) at (subst (λ k. ends (drop k (t ++ e)) ≡ true) at q.3) in
    rw (first_same e e' ends_e ends_e' unescaped t 0 (length t) (omega arith) found, take_at t e' (length t) refl, drop_at t e' (length t) refl) refl

pub script_extends : (s y : List ℕ) → Extends y (read_script s) (read_script (s ++ y))
unfolding read_script
script_extends s y = either (script_end s) refl
  where
    either : (o : Option ℕ) → script_end s ≡ o → Extends y (slice_up_to s o) (read_script (s ++ y))
    either None e = tt
    either (Some n) e =
        let q = first_found unescaped 0 n s e in
        let at : q.0 ≡ n = omega (arith, q.1) in
        let inside : n < length s = omega (arith, q.2) in
        let taken_all : length (take n s) ≡ n = length-take-le n s (omega arith) in
        let ends_s : ends (drop n s) ≡ true = subst (λ k. ends (drop k s) ≡ true) at q.3 in
        let found : script_end (take n s ++ drop n s) ≡ Some (length (take n s)) = rw (take-append-drop n s, taken_all) e in
        rw (parted s y n) (script_read (take n s) (drop n s) (drop n s ++ y) (begins_longer (codes "script") (drop n s) y ends_s) found)
