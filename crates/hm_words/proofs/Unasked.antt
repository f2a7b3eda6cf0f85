-- A word that asks for a notice asks for nothing else.
use Rattle.std.proofs.Common.{◌≡◌, ◌∙◌, Bool, cond, true, false, refl, sym, ap, List, [], ◌∷◌, Option, Some, None, IfSome, ℕ}
use Rattle.std.specs.Str.{bytes_eq}
use Rattle.hm_elements.proofs.TableTools.{same_bytes}
use Rattle.hm_words.specs.Words.{Asked, NoticeRow, asked, choices_of, flags, notice_among, notice_in, notices}
use Rattle.hm_words.specs.declared.notices.Notice.{Notice}

-- no word of the table has a meaning
abbrev AskNothing : List NoticeRow → Type 0
AskNothing [] = Unit {0}
AskNothing (row ∷ rows) = (asked (row.name ∷ []) ≡ None) × AskNothing rows

all_ask_nothing : AskNothing notices
unfolding asked flags choices_of
all_ask_nothing = (refl, (refl, (refl, (refl, (refl, (refl, tt))))))

among_asks_nothing : (rows : List NoticeRow) (word : List ℕ) (n : Notice) → AskNothing rows → notice_among rows word ≡ Some n → asked (word ∷ []) ≡ None
among_asks_nothing [] word n all e = cc
among_asks_nothing (row ∷ rows) word n all e = by_name (bytes_eq word row.name) refl (among_asks_nothing rows word n all.1) e
  where
    by_name : (b : Bool) → bytes_eq word row.name ≡ b → (notice_among rows word ≡ Some n → asked (word ∷ []) ≡ None) → cond b (Some row.notice) (notice_among rows word) ≡ Some n → asked (word ∷ []) ≡ None
    by_name true t more h = ap (λ x. asked (x ∷ [])) (same_bytes word row.name t) ∙ all.0
    by_name false t more h = more h

pub notice_asks_nothing : (ws : List (List ℕ)) (n : Notice) → notice_in ws ≡ Some n → asked ws ≡ None
notice_asks_nothing [] n e = cc
notice_asks_nothing (word ∷ []) n e = among_asks_nothing notices word n all_ask_nothing e
notice_asks_nothing (word ∷ more ∷ ws) n e = cc

-- words that ask for something ask for no notice
pub asked_is_no_notice : (ws : List (List ℕ)) (q : Asked) → asked ws ≡ Some q → notice_in ws ≡ None
asked_is_no_notice ws q e = by_notice (notice_in ws) refl
  where
    by_notice : (n : Option Notice) → notice_in ws ≡ n → n ≡ None
    by_notice None is = refl
    by_notice (Some n) is = let h : Some q ≡ None = sym e ∙ notice_asks_nothing ws n is in cc

pub asks_nothing : (ws : List (List ℕ)) (o : Option Notice) → o ≡ notice_in ws → IfSome o (λ _. asked ws ≡ None)
asks_nothing ws None e = tt
asks_nothing ws (Some n) e = notice_asks_nothing ws n (sym e)
