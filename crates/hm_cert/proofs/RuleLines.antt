-- The line of rules, read word by word.
use Rattle.std.proofs.Common.{◌≡◌, ℕ, Bool, true, false, cond, ◌&&◌, ◌==◌, nat_eq, List, [], ◌∷◌, ◌++◌, length, drop, refl, sym, ap, ◌∙◌, arith}
use Rattle.std.specs.Prelude.{Option, Some, None, codes, bytes_eq, is_some, unwrap_or}
use Rattle.std.specs.List.{starts_with}
use Rattle.std.proofs.lemmas.Bool.{eqb-true}
use Rattle.std.proofs.lemmas.List.{append-nil}
use Rattle.std.proofs.lemmas.Slice.Eq.{bytes_eq-Decides}
use Rattle.hm_base.specs.Bytes.{strip}
use Rattle.hm_base.specs.declared.plain.SpellRules.{SpellRules}
use Rattle.hm_cert.specs.Certificate.{flag_text, rules_text}
use Rattle.hm_cert.specs.Reading.{pieces, line_rules, words_rules}

-- what the library's test of a prefix says
pub strip_is : (word text : List ℕ) → strip word text ≡ cond (starts_with nat_eq text word) (Some (drop (length word) text)) None
strip_is [] text = refl
strip_is (c ∷ word) [] = refl
strip_is (c ∷ word) (d ∷ text) = elim (c == d) as (λ b. cond b (strip word text) None ≡ cond (b && starts_with nat_eq text word) (Some (drop (length word) text)) None) [ true ↦ strip_is word text | false ↦ refl ]

-- whether a text begins with a word, and what is left of it then
abbrev pub is_there : List ℕ → List ℕ → Bool
is_there word text = is_some (strip word text)

abbrev pub left : List ℕ → List ℕ → List ℕ
left word text = unwrap_or (strip word text) text

stripped : (word text rest : List ℕ) → strip word text ≡ Some rest → word ++ rest ≡ text
stripped [] text rest h = cc
stripped (c ∷ word) [] rest h = cc
stripped (c ∷ word) (d ∷ text) rest h = by_test (c == d) refl (stripped word text rest) h
  where
    by_test : (b : Bool) → (c == d) ≡ b → (strip word text ≡ Some rest → word ++ rest ≡ text) → cond b (strip word text) None ≡ Some rest → c ∷ (word ++ rest) ≡ d ∷ text
    by_test true e g f = let is : c ≡ d = eqb-true c d e in (λ i. is i ∷ g f i)
    by_test false e g f = absurd (cc)

-- a flag's text and what is left
pub flag_back : (word text : List ℕ) → flag_text (is_there (32 ∷ word) text) word ++ left (32 ∷ word) text ≡ text
flag_back word text = by_case (strip (32 ∷ word) text) refl
  where
    by_case : (o : Option (List ℕ)) → strip (32 ∷ word) text ≡ o → flag_text (is_some o) word ++ unwrap_or o text ≡ text
    by_case None e = refl
    by_case (Some rest) e = stripped (32 ∷ word) text rest e

-- what is left of a text after `rules`, flag by flag
abbrev pub left1 : List ℕ → List ℕ
left1 text = left (codes " omit") text

abbrev pub left2 : List ℕ → List ℕ
left2 text = left (codes " unquote") (left1 text)

abbrev pub left3 : List ℕ → List ℕ
left3 text = left (codes " tight") (left2 text)

abbrev pub left4 : List ℕ → List ℕ
left4 text = left (codes " ascii") (left3 text)

abbrev pub left5 : List ℕ → List ℕ
left5 text = left (codes " frame") (left4 text)

abbrev pub flags_of : List ℕ → SpellRules
flags_of text = record { omit = is_there (codes " omit") text; unquote = is_there (codes " unquote") (left1 text); tight = is_there (codes " tight") (left2 text); ascii = is_there (codes " ascii") (left3 text); frame = is_there (codes " frame") (left4 text) }

-- where nothing is left, the line is the text of the rules whose flags are there
pub flags_back : (line text : List ℕ) → strip (codes "rules") line ≡ Some text → left5 text ≡ [] → rules_text (flags_of text) ≡ line
flags_back line text h e =
    let frame : flag_text (flags_of text).frame (codes "frame") ≡ left4 text = sym (append-nil (flag_text (flags_of text).frame (codes "frame"))) ∙ ap (λ x. flag_text (flags_of text).frame (codes "frame") ++ x) (sym e) ∙ flag_back (codes "frame") (left4 text) in
    let ascii : flag_text (flags_of text).ascii (codes "ascii") ++ flag_text (flags_of text).frame (codes "frame") ≡ left3 text = ap (λ x. flag_text (flags_of text).ascii (codes "ascii") ++ x) frame ∙ flag_back (codes "ascii") (left3 text) in
    let tight : flag_text (flags_of text).tight (codes "tight") ++ (flag_text (flags_of text).ascii (codes "ascii") ++ flag_text (flags_of text).frame (codes "frame")) ≡ left2 text = ap (λ x. flag_text (flags_of text).tight (codes "tight") ++ x) ascii ∙ flag_back (codes "tight") (left2 text) in
    let unquote : flag_text (flags_of text).unquote (codes "unquote") ++ (flag_text (flags_of text).tight (codes "tight") ++ (flag_text (flags_of text).ascii (codes "ascii") ++ flag_text (flags_of text).frame (codes "frame"))) ≡ left1 text = ap (λ x. flag_text (flags_of text).unquote (codes "unquote") ++ x) tight ∙ flag_back (codes "unquote") (left1 text) in
    ap (λ x. codes "rules" ++ (flag_text (flags_of text).omit (codes "omit") ++ x)) unquote
    ∙ ap (λ x. codes "rules" ++ x) (flag_back (codes "omit") text)
    ∙ stripped (codes "rules") line text h

-- what each reading of a text of rules gives
pub record IsBack (rules : SpellRules) : Type 0 where
  pub line : line_rules (rules_text rules) ≡ Some rules
  pub text : List ℕ
  pub front : strip (codes "rules") (rules_text rules) ≡ Some text
  pub flags : left5 text ≡ []

abbrev rules_of : Bool → Bool → Bool → Bool → Bool → SpellRules
rules_of omit unquote tight ascii frame = record { omit = omit; unquote = unquote; tight = tight; ascii = ascii; frame = frame }

each_back : (omit unquote tight ascii frame : Bool) → IsBack (rules_of omit unquote tight ascii frame)
each_back true true true true true = record { line = refl; text = _; front = refl; flags = refl }
each_back true true true true false = record { line = refl; text = _; front = refl; flags = refl }
each_back true true true false true = record { line = refl; text = _; front = refl; flags = refl }
each_back true true true false false = record { line = refl; text = _; front = refl; flags = refl }
each_back true true false true true = record { line = refl; text = _; front = refl; flags = refl }
each_back true true false true false = record { line = refl; text = _; front = refl; flags = refl }
each_back true true false false true = record { line = refl; text = _; front = refl; flags = refl }
each_back true true false false false = record { line = refl; text = _; front = refl; flags = refl }
each_back true false true true true = record { line = refl; text = _; front = refl; flags = refl }
each_back true false true true false = record { line = refl; text = _; front = refl; flags = refl }
each_back true false true false true = record { line = refl; text = _; front = refl; flags = refl }
each_back true false true false false = record { line = refl; text = _; front = refl; flags = refl }
each_back true false false true true = record { line = refl; text = _; front = refl; flags = refl }
each_back true false false true false = record { line = refl; text = _; front = refl; flags = refl }
each_back true false false false true = record { line = refl; text = _; front = refl; flags = refl }
each_back true false false false false = record { line = refl; text = _; front = refl; flags = refl }
each_back false true true true true = record { line = refl; text = _; front = refl; flags = refl }
each_back false true true true false = record { line = refl; text = _; front = refl; flags = refl }
each_back false true true false true = record { line = refl; text = _; front = refl; flags = refl }
each_back false true true false false = record { line = refl; text = _; front = refl; flags = refl }
each_back false true false true true = record { line = refl; text = _; front = refl; flags = refl }
each_back false true false true false = record { line = refl; text = _; front = refl; flags = refl }
each_back false true false false true = record { line = refl; text = _; front = refl; flags = refl }
each_back false true false false false = record { line = refl; text = _; front = refl; flags = refl }
each_back false false true true true = record { line = refl; text = _; front = refl; flags = refl }
each_back false false true true false = record { line = refl; text = _; front = refl; flags = refl }
each_back false false true false true = record { line = refl; text = _; front = refl; flags = refl }
each_back false false true false false = record { line = refl; text = _; front = refl; flags = refl }
each_back false false false true true = record { line = refl; text = _; front = refl; flags = refl }
each_back false false false true false = record { line = refl; text = _; front = refl; flags = refl }
each_back false false false false true = record { line = refl; text = _; front = refl; flags = refl }
each_back false false false false false = record { line = refl; text = _; front = refl; flags = refl }

pub rules_back : (rules : SpellRules) → IsBack rules
rules_back rules = each_back rules.omit rules.unquote rules.tight rules.ascii rules.frame

-- what is read as rules is their text
pub line_back : (line : List ℕ) (rules : SpellRules) → line_rules line ≡ Some rules → line ≡ rules_text rules
line_back line rules h = by_test (bytes_eq line (rules_text (words_rules (pieces 32 line)))) refl h
  where
    by_test : (b : Bool) → bytes_eq line (rules_text (words_rules (pieces 32 line))) ≡ b → cond b (Some (words_rules (pieces 32 line))) None ≡ Some rules → line ≡ rules_text rules
    by_test true e f = let same : words_rules (pieces 32 line) ≡ rules = cc in (bytes_eq-Decides line (rules_text (words_rules (pieces 32 line)))).0 e ∙ ap rules_text same
    by_test false e f = cc

-- the rules of a line all whose bytes are taken
pub flags_read : (line text : List ℕ) → strip (codes "rules") line ≡ Some text → left5 text ≡ [] → line_rules line ≡ Some (flags_of text)
flags_read line text h e = ap line_rules (sym (flags_back line text h e)) ∙ (rules_back (flags_of text)).line

-- a line that doesn't begin with `rules`, or of which something is left
pub no_front : (line : List ℕ) → strip (codes "rules") line ≡ None → line_rules line ≡ None
no_front line h = by_case (line_rules line) refl
  where
    by_case : (o : Option SpellRules) → line_rules line ≡ o → o ≡ None
    by_case None e = refl
    by_case (Some rules) e = let front = (rules_back rules).front in let is = line_back line rules e in cc (ap (strip (codes "rules")) is)

pub flags_left : (line text : List ℕ) → strip (codes "rules") line ≡ Some text → (left5 text ≡ [] → ⊥) → line_rules line ≡ None
flags_left line text h left = by_case (line_rules line) refl
  where
    by_case : (o : Option SpellRules) → line_rules line ≡ o → o ≡ None
    by_case None e = refl
    by_case (Some rules) e =
        let is : strip (codes "rules") line ≡ Some (rules_back rules).text = ap (strip (codes "rules")) (line_back line rules e) ∙ (rules_back rules).front in
        let same : text ≡ (rules_back rules).text = cc in
        absurd (left (ap left5 same ∙ (rules_back rules).flags))

-- what the reader has taken of a line: the flags in turn, and what is left after each
pub record Taken (line text : List ℕ) (rules : SpellRules) (rest1 rest2 rest3 rest4 rest5 : List ℕ) : Type 0 where
  pub front : Some text ≡ strip (codes "rules") line
  pub omit : rules.omit ≡ is_there (codes " omit") text
  pub rest_after_omit : rest1 ≡ left (codes " omit") text
  pub unquote : rules.unquote ≡ is_there (codes " unquote") rest1
  pub rest_after_unquote : rest2 ≡ left (codes " unquote") rest1
  pub tight : rules.tight ≡ is_there (codes " tight") rest2
  pub rest_after_tight : rest3 ≡ left (codes " tight") rest2
  pub ascii : rules.ascii ≡ is_there (codes " ascii") rest3
  pub rest_after_ascii : rest4 ≡ left (codes " ascii") rest3
  pub frame : rules.frame ≡ is_there (codes " frame") rest4
  pub rest_after_frame : rest5 ≡ left (codes " frame") rest4

taken_rest : (line text : List ℕ) (rules : SpellRules) (rest1 rest2 rest3 rest4 rest5 : List ℕ) → Taken line text rules rest1 rest2 rest3 rest4 rest5 → rest5 ≡ left5 text
taken_rest line text rules rest1 rest2 rest3 rest4 rest5 t =
    let two : rest2 ≡ left2 text = t.rest_after_unquote ∙ ap (left (codes " unquote")) t.rest_after_omit in
    let three : rest3 ≡ left3 text = t.rest_after_tight ∙ ap (left (codes " tight")) two in
    let four : rest4 ≡ left4 text = t.rest_after_ascii ∙ ap (left (codes " ascii")) three in
    t.rest_after_frame ∙ ap (left (codes " frame")) four

taken_rules : (line text : List ℕ) (rules : SpellRules) (rest1 rest2 rest3 rest4 rest5 : List ℕ) → Taken line text rules rest1 rest2 rest3 rest4 rest5 → flags_of text ≡ rules
taken_rules line text rules rest1 rest2 rest3 rest4 rest5 t =
    let two : rest2 ≡ left2 text = t.rest_after_unquote ∙ ap (left (codes " unquote")) t.rest_after_omit in
    let three : rest3 ≡ left3 text = t.rest_after_tight ∙ ap (left (codes " tight")) two in
    let four : rest4 ≡ left4 text = t.rest_after_ascii ∙ ap (left (codes " ascii")) three in
    let omit : is_there (codes " omit") text ≡ rules.omit = sym t.omit in
    let unquote : is_there (codes " unquote") (left1 text) ≡ rules.unquote = sym (t.unquote ∙ ap (is_there (codes " unquote")) t.rest_after_omit) in
    let tight : is_there (codes " tight") (left2 text) ≡ rules.tight = sym (t.tight ∙ ap (is_there (codes " tight")) two) in
    let ascii : is_there (codes " ascii") (left3 text) ≡ rules.ascii = sym (t.ascii ∙ ap (is_there (codes " ascii")) three) in
    let frame : is_there (codes " frame") (left4 text) ≡ rules.frame = sym (t.frame ∙ ap (is_there (codes " frame")) four) in
    λ i. record { omit = omit i; unquote = unquote i; tight = tight i; ascii = ascii i; frame = frame i }

-- what the reader answers where nothing is left, and where something is
pub taken_all : (line text : List ℕ) (rules : SpellRules) (rest1 rest2 rest3 rest4 rest5 : List ℕ) → Taken line text rules rest1 rest2 rest3 rest4 rest5 → true ≡ (length rest5 == 0) → Some rules ≡ line_rules line
taken_all line text rules rest1 rest2 rest3 rest4 [] t e =
    sym (flags_read line text (sym t.front) (sym (taken_rest line text rules rest1 rest2 rest3 rest4 [] t)) ∙ ap Some (taken_rules line text rules rest1 rest2 rest3 rest4 [] t))
taken_all line text rules rest1 rest2 rest3 rest4 (b ∷ rest5) t e = absurd (omega (arith, eqb-true (length (b ∷ rest5)) 0 (sym e)))

pub taken_part : (line text : List ℕ) (rules : SpellRules) (rest1 rest2 rest3 rest4 rest5 : List ℕ) → Taken line text rules rest1 rest2 rest3 rest4 rest5 → false ≡ (length rest5 == 0) → None ≡ line_rules line
taken_part line text rules rest1 rest2 rest3 rest4 [] t e = absurd (cc)
taken_part line text rules rest1 rest2 rest3 rest4 (b ∷ rest5) t e =
    let rest : b ∷ rest5 ≡ left5 text = taken_rest line text rules rest1 rest2 rest3 rest4 (b ∷ rest5) t in
    sym (flags_left line text (sym t.front) (λ none. let is : b ∷ rest5 ≡ [] = rest ∙ none in cc))
