-- What a load has taken of a file, after the bytes that it began with.
use Rattle.std.proofs.Common.{◌≡◌, ℕ, ◌+◌, ◌≤◌, ◌⊎◌, inl, inr, List, [], ◌++◌, length, take, drop, Some, None, refl, sym, ap, ◌∙◌, arith, append-nil, length-drop, take_at, take_all, drop_at}
use Rattle.std.proofs.lemmas.Option.{same_Some}
use Rattle.std.specs.declared.option.Option.{Option}
use Rattle.std.specs.Io.{StartsWith}
use Rattle.std.specs.Io.KnownBytes.{prepend_known, IsAtEnd}
use Rattle.std.proofs.lemmas.List.{drop-append-le, length-take-le}
use Rattle.std.proofs.Transfers.{starts_with_length}
use Rattle.hm_store.specs.Files.{Takes}

-- what stands after the front, with what is left to read, is the file
after_front : (file rest front bytes : List ℕ) → bytes ++ rest ≡ front ++ file → StartsWith bytes front → drop (length front) bytes ++ rest ≡ file
after_front file rest front bytes e h =
    sym (drop-append-le (length front) bytes rest (starts_with_length bytes front h)) ∙ ap (drop (length front)) e ∙ drop_at front file (length front) refl

takes : (file rest taken : List ℕ) (most : ℕ) → taken ++ rest ≡ file → length taken ≤ most → (rest ≡ []) ⊎ (length taken ≡ most) → taken ≡ take most file
takes file rest taken most e h (inl none) =
    let all : taken ≡ file = sym (append-nil taken) ∙ ap (λ r. taken ++ r) (sym none) ∙ e in
    sym (take_all most taken h) ∙ ap (take most) all
takes file rest taken most e h (inr full) = sym (take_at taken rest most full) ∙ ap (take most) e

-- a load that is at the end, or that has taken enough
pub taken_after : (file rest : Option (List ℕ)) (front bytes : List ℕ) (most : ℕ) → prepend_known bytes rest ≡ prepend_known front file → StartsWith bytes front
    → length bytes ≤ length front + most → IsAtEnd rest ⊎ (length bytes ≡ length front + most) → Takes file most (drop (length front) bytes)
taken_after None rest front bytes most e h within end = tt
taken_after (Some file) None front bytes most e h within end = absurd (cc)
taken_after (Some file) (Some rest) front bytes most e h within end =
    let long = length-drop (length front) bytes in
    let whole : bytes ++ rest ≡ front ++ file = same_Some _ _ e in
    let ends : (rest ≡ []) ⊎ (length (drop (length front) bytes) ≡ most) = elim end [ inl none ↦ inl none | inr full ↦ inr (omega arith) ] in
    takes file rest (drop (length front) bytes) most (after_front file rest front bytes whole h) (omega arith) ends

-- the same of a load that began with none
pub taken_over : (file rest : Option (List ℕ)) (bytes : List ℕ) (at most : ℕ) → prepend_known (take at bytes) rest ≡ prepend_known [] file
    → at ≤ length bytes → at ≤ most → IsAtEnd rest ⊎ (at ≡ most) → Takes file most (take at bytes)
taken_over file rest bytes at most e there within end =
    let long = length-take-le at bytes there in
    taken_after file rest [] (take at bytes) most e refl (omega (arith, long)) (elim end [ inl none ↦ inl none | inr full ↦ inr (omega (arith, long)) ])
