-- The text of a page that spells a settled tree.
use Rattle.std.proofs.Common.{◌≡◌, ◌≤◌, ℕ, true, false, ◌==◌, List, [], ◌∷◌, length, refl, sym, subst, ◌∙◌}
use Rattle.std.proofs.lemmas.Bool.{and_parts}
use Rattle.std.proofs.lemmas.Str.{is_utf8-from_IsUtf8}
use Rattle.hm_base.specs.Bytes.{all_pass}
use Rattle.hm_base.specs.Forms.{has_byte}
use Rattle.hm_base.specs.Source.{text_of, is_text_byte}
use Rattle.hm_markup_spec.proofs.LineEnds.{newlines, is_no_return, text_is_newlines}
use Rattle.hm_token_laws.proofs.Bools.{or_parts}
use Rattle.hm_round_trip_laws.proofs.Pages.{settled_spellings_are_clean, settled_spellings_have_text}
use Rattle.hm_round_trip_laws.specs.PageTexts.{SpelledPagesHaveSpelledTexts}
use Rattle.hm_round_trip_laws.proofs.Beginnings.{spelled_pages_begin_with_markup, begun_unmarked}
use Rattle.hm_round_trip_laws.proofs.Newlines.{none_left, no_more, unchanged}

text_bytes : (s : List ℕ) → has_byte 0 s ≡ false → all_pass is_no_return s ≡ true → all_pass is_text_byte s ≡ true
text_bytes [] zero return = refl
text_bytes (c ∷ s) zero return =
    let zeros = or_parts (c == 0) (has_byte 0 s) zero in
    let returns = and_parts (is_no_return c) (all_pass is_no_return s) return in
    rw (zeros.0, returns.0, text_bytes s zeros.1 returns.1) refl

pub spelled_pages_have_spelled_texts : SpelledPagesHaveSpelledTexts
spelled_pages_have_spelled_texts g w page k h sp =
    let spelled = settled_spellings_have_text g w page k h sp in
    let no_mark = begun_unmarked page (spelled_pages_begin_with_markup g w page h sp) in
    let is : text_of page ≡ newlines page = text_is_newlines page no_mark in
    let no_mark' = begun_unmarked (text_of page) (spelled_pages_begin_with_markup g w (text_of page) h spelled.1) in
    let clean = settled_spellings_are_clean g w (text_of page) k h spelled.1 in
    let no_return : all_pass is_no_return (text_of page) ≡ true = subst (λ s. all_pass is_no_return s ≡ true) (sym is) (none_left false page) in
    record {
      sound = spelled.0;
      no_mark = no_mark;
      plain = record { bytes = text_bytes (text_of page) clean.no_zero no_return; utf8 = is_utf8-from_IsUtf8 (text_of page) clean.utf8 };
      spells = spelled.1;
      no_longer = subst (λ s. length s ≤ length page) (sym is) (no_more false page);
      own = text_is_newlines (text_of page) no_mark' ∙ unchanged (text_of page) no_return;
    }
