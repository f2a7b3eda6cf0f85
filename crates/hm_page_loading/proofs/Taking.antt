-- The bytes that a spaced builder has taken.
use Rattle.std.proofs.Common.{◌≡◌, ℕ, ◌+◌, ◌≤◌, ◌<◌, ◌*◌, List, [], ◌++◌, length, take, sym, ap, ap₂, subst, ◌∙◌, refl, append-nil, length-append}
use Rattle.std.specs.declared.option.Option.{Option}
use Rattle.std.proofs.lemmas.List.{append_assoc, length-take-le, take-append-le}
use Rattle.hm_store.specs.Files.{Pulls}
use Rattle.hm_build.specs.Feeding.{HasCome, HasRead, kept}
use Rattle.hm_page_loading.specs.Spacing.{Spaced, HasTaken, IsSpaced, IsSpacedWithin}
use Rattle.hm_page_loading.specs.Loading.{TakesNext}

-- a piece has come, and nothing was taken into the tree
pub gathered : (old new : Spaced) (piece : List ℕ) → ((fed : List ℕ) → HasCome old.feeding fed → HasCome new.feeding (fed ++ piece)) → new.feeding.building ≡ old.feeding.building → new.feeding.refused ≡ old.feeding.refused → new.feeding.names ≡ old.feeding.names
    → new.feeding.pieces.limit ≡ old.feeding.pieces.limit → new.kept ≡ old.kept → new.since ≡ old.since + length piece → (taken : List ℕ) → HasTaken old taken → HasTaken new (taken ++ piece)
gathered old new piece comes building refused names limit same more taken h = record {
  come = comes taken h.come;
  scanned = h.scanned;
  read = h.read;
  has_read = h.has_read;
  later = h.later ++ piece;
  is = ap (λ x. x ++ piece) h.is ∙ append_assoc h.read h.later piece;
  count = more ∙ ap (λ n. n + length piece) h.count ∙ sym (length-append h.later piece);
  building = building ∙ h.building;
  refused = refused ∙ h.refused;
  keeps = same ∙ h.keeps ∙ ap₂ (λ t n. kept t n h.read) (sym names) (sym limit);
}

-- all that is ready was taken
pub scanned_all : (new : Spaced) (taken : List ℕ) → HasRead new.feeding taken → new.since ≡ 0 → new.kept ≡ kept new.feeding.names new.feeding.pieces.limit taken → HasTaken new taken
scanned_all new taken h none keeps = record {
  come = h.come;
  scanned = new.feeding;
  read = taken;
  has_read = h;
  later = [];
  is = sym (append-nil taken);
  count = none;
  building = refl;
  refused = refl;
  keeps = keeps;
}

pub spaced_within : (s : Spaced) → IsSpacedWithin s → IsSpaced s
spaced_within s within taken h = subst (λ n. length h.later ≤ 3 * n) h.keeps (subst (λ n. n ≤ 3 * s.kept) h.count within)

-- what is pulled is taken; after it stands what the piece had
pub pulled : (old new : Spaced) (rest_old rest_new : Option (List ℕ)) (n : ℕ) (into after : List ℕ) → n ≤ length into → Pulls rest_old rest_new n into → 0 < length into
    → ((taken : List ℕ) → HasTaken old taken → HasTaken new (taken ++ take n (into ++ after))) → TakesNext old rest_old n new rest_new
pulled old new rest_old rest_new n into after inside p room takes = record {
  next = take n into;
  count = length-take-le n into inside;
  front = p.front;
  taken = λ taken h. subst (λ next. HasTaken new (taken ++ next)) (take-append-le n into after inside) (takes taken h);
  ended = λ none. p.ended none room;
}
