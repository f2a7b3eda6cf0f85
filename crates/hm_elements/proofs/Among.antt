-- How a look through a list of names goes on.
use Rattle.std.proofs.Common.{◌≡◌, ℕ, ◌+◌, ◌<◌, ◌≤◌, true, false, ◌||◌, List, length, drop, get_or, bytes_eq, refl}
use Rattle.std.proofs.lemmas.List.{at_drop_more, at_drop_all}
use denote.Ref.{Bor}
use Rattle.hm_elements.specs.Names.{is_among}
use Rattle.hm_elements.specs.Texts.{texts}

-- one list of names
pub among_more : (name : List ℕ) (rs : List (Bor (List ℕ))) (i : ℕ) (d : Bor (List ℕ)) → i < length rs → is_among name (texts (drop i rs)) ≡ bytes_eq (get_or rs i d).now name || is_among name (texts (drop (i + 1) rs))
unfolding is_among
among_more name rs i d h = at_drop_more (λ x. is_among name (texts x)) rs i d h

pub among_end : (name : List ℕ) (rs : List (Bor (List ℕ))) (i : ℕ) → length rs ≤ i → is_among name (texts (drop i rs)) ≡ false
unfolding is_among
among_end name rs i h = at_drop_all (λ x. is_among name (texts x)) rs i h

pub among_found : (name : List ℕ) (rs : List (Bor (List ℕ))) (i : ℕ) (d : Bor (List ℕ)) → i < length rs → bytes_eq (get_or rs i d).now name ≡ true → is_among name (texts (drop i rs)) ≡ true
among_found name rs i d h e = rw (among_more name rs i d h, e) refl

pub among_passed : (name : List ℕ) (rs : List (Bor (List ℕ))) (i : ℕ) (d : Bor (List ℕ)) → i < length rs → bytes_eq (get_or rs i d).now name ≡ false → is_among name (texts (drop i rs)) ≡ is_among name (texts (drop (i + 1) rs))
among_passed name rs i d h e = rw (among_more name rs i d h, e) refl
