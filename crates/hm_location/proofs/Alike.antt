-- What is explained of a place of a page, where the code takes the end of the page for a place beyond it.
use Rattle.std.proofs.Common.{◌≡◌, ◌∙◌, ℕ, ◌≤◌, ⊎_elim, List, ◌++◌, length, refl, sym, ap, ap₂, subst}
use Rattle.std.proofs.lemmas.List.{append_assoc}
use Rattle.hm_base.specs.declared.rules.Rule.{Rule}
use Rattle.hm_location.proofs.Beyond.{IsAlike, beyond}
use Rattle.hm_location.specs.Lines.{column_of, line_of}
use Rattle.hm_location.specs.Shown.{front_shown, rest_shown}
use Rattle.hm_location.specs.Explanations.{IsPlaceIn}
use Rattle.hm_location.specs.Explanations.{caret_line, explained, page_line, place_line}

itself : (s : List ℕ) (n : ℕ) → IsAlike s n n
itself s n = record { line = refl; column = refl; front = refl; rest = refl }

pub alike : (s : List ℕ) (at place : ℕ) → IsPlaceIn s at place → IsAlike s place at
alike s at place p = ⊎_elim
    (λ (e : place ≡ at). subst (λ n. IsAlike s place n) e (itself s place))
    (λ (h : (place ≡ length s) × (length s ≤ at)). subst (λ n. IsAlike s n at) (sym h.0) (beyond s at h.1))
    p

pub explained_at : (name s : List ℕ) (rule : Rule) (at place line column : ℕ) (lines all : List ℕ) → IsPlaceIn s at place → line ≡ line_of s place → column ≡ column_of s place → lines ≡ place_line name line column rule
    → all ≡ lines ++ (page_line (front_shown s place) (rest_shown s place) ++ caret_line (front_shown s place)) → all ≡ explained name s rule at
explained_at name s rule at place line column lines all p l c first e =
    let a = alike s at place p in
    let front = first ∙ ap₂ (λ m n. place_line name m n rule) (l ∙ a.line) (c ∙ a.column) in
    e ∙ ap (λ x. x ++ (page_line (front_shown s place) (rest_shown s place) ++ caret_line (front_shown s place))) front
    ∙ ap₂ (λ f r. place_line name (line_of s at) (column_of s at) rule ++ (page_line f r ++ caret_line f)) a.front a.rest
    ∙ sym (append_assoc (place_line name (line_of s at) (column_of s at) rule) (page_line (front_shown s at) (rest_shown s at)) (caret_line (front_shown s at)))
