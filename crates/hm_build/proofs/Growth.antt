-- The text of a page that comes grows at its end.
use Rattle.std.proofs.Common.{◌≡◌, ℕ, ◌<◌, ◌≤◌, List, [], ◌∷◌, ◌++◌, length, Option, Some, None, refl, sym, ap, ◌∙◌, append_assoc, ◌⊎◌, inl, inr}
use Rattle.std.proofs.lemmas.Bool.{cases_lt}
use Rattle.hm_base.specs.Source.{PlacedByte, source_of, text_fault}
use Rattle.hm_decoder.specs.Fed.{decided}
use Rattle.hm_decoder.specs.Pieces.{HasFed, HasPage, Pieces, fault_of_page, told_at}
use Rattle.hm_decoder.proofs.Feeding.{page_over, page_within, sound_so_far}
use Rattle.hm_decoder.proofs.Texts.{decided_texts_last, whole_texts_follow}
use Rattle.hm_base.specs.Source.{Refusal}

cancel : (gone a b : List PlacedByte) → gone ++ a ≡ gone ++ b → a ≡ b
cancel [] a b e = e
cancel (c ∷ gone) a b e = cancel gone a b (cc)

-- the same bytes after the text and after what is kept of it
pub record Grows (text kept all left : List PlacedByte) : Type 0 where
  pub new : List PlacedByte
  pub text_is : all ≡ text ++ new
  pub kept_is : left ≡ kept ++ new

grows : (gone text kept all left : List PlacedByte) (new : List PlacedByte) → text ≡ gone ++ kept → all ≡ gone ++ left → all ≡ text ++ new → Grows text kept all left
grows gone text kept all left new e f g = record {
  new = new;
  text_is = g;
  kept_is = cancel gone left (kept ++ new) (sym f ∙ g ∙ ap (λ l. l ++ new) e ∙ append_assoc gone kept new);
}

pub feeding_grows : (p q : Pieces) (gone : List PlacedByte) (fed piece : List ℕ) → HasFed p gone fed → HasFed q gone (fed ++ piece) → p.fault ≡ None → q.fault ≡ None
    → Grows (decided fed).placed p.source.placed (decided (fed ++ piece)).placed q.source.placed
feeding_grows p q gone fed piece h k e f =
    let sound = sound_so_far q.limit (fed ++ piece) (sym k.fault ∙ f) in
    let front = decided_texts_last fed piece sound.1 in
    grows gone (decided fed).placed p.source.placed (decided (fed ++ piece)).placed q.source.placed front.more (h.text e).placed (k.text f).placed front.placed

no_some : {A : Type 0} {x : A} → Some x ≡ None → ⊥
no_some e = cc

not_told : (n : ℕ) (o : Option Refusal) → told_at n o ≡ None → o ≡ None
not_told n None e = refl
not_told n (Some r) e = absurd (no_some e)

pub sound_page : (limit : ℕ) (page : List ℕ) → fault_of_page limit page ≡ None → (length page ≤ limit) × (text_fault page ≡ None)
sound_page limit page e = by (cases_lt limit (length page))
  where
    by : (limit < length page) ⊎ (length page ≤ limit) → (length page ≤ limit) × (text_fault page ≡ None)
    by (inl h) = absurd (no_some (sym (page_over limit page h) ∙ e))
    by (inr h) = (h, not_told 0 (text_fault page) (sym (page_within limit page h) ∙ e))

pub page_grows : (p q : Pieces) (gone : List PlacedByte) (page : List ℕ) → HasFed p gone page → HasPage q gone page → p.fault ≡ None → q.fault ≡ None
    → Grows (decided page).placed p.source.placed (source_of page).placed q.source.placed
page_grows p q gone page h k e f =
    let sound = sound_page q.limit page (sym k.fault ∙ f) in
    let front = (whole_texts_follow page sound.1).1 in
    grows gone (decided page).placed p.source.placed (source_of page).placed q.source.placed front.more (h.text e).placed (k.placed f) front.placed
