-- A reference written again before other bytes.
use Rattle.std.proofs.Common.{◌≡◌, ℕ, ◌+◌, ◌≤◌, Bool, true, false, List, [], ◌∷◌, ◌++◌, length, Some, refl, sym, ap, ◌∙◌, subst, inl, inr, ◌⊎◌, arith, length-append}
use Rattle.hm_refs.specs.Names.{Entry, last_is, points_of}
use Rattle.hm_refs.specs.Tables.{IsTable}
use Rattle.hm_refs.proofs.Found.{entry_of, good_of, last_append}
use Rattle.hm_spelling_spec.specs.Characters.{Spot, is_value}
use Rattle.hm_graph_laws.specs.CharacterEdges.{after_name}
use Rattle.hm_graph_laws.proofs.ChoiceLaws.{name_fits}
use Rattle.hm_graph_laws.proofs.Numbers.{decimal_closed, hash_is, hex_closed, number_fits, number_for, number_reads, NumberAt, read_gives}
use Rattle.hm_graph_laws.proofs.Pieces.{Refers}
use Rattle.hm_graph_laws.proofs.CharacterReading.{name_read, IsName, IsNumber, reference_is}
use Rattle.hm_graph_laws.specs.States.{nothing}
use Rattle.hm_graph_laws.specs.Steps.{keeps}
use Rattle.hm_graph_laws.proofs.Gives.{Keeps}

-- a reference read before other bytes, with at most as many bytes
pub record Again (t : List Entry) (spot : Spot) (points : List ℕ) (n : ℕ) (y : List ℕ) : Type 0 where
  pub piece : List ℕ
  pub refers : Refers t spot points piece y
  pub short : length piece ≤ n

pub name_again : (t : List Entry) → IsTable t → (spot : Spot) (points piece x y : List ℕ) → Keeps t (is_value spot) x y → IsName t spot points piece x → Again t spot points (length piece) y
name_again t k spot points piece x y g n = record {
  piece = piece;
  refers = name_read t k spot piece points y n.own (g spot (after_name piece) refl (name_fits t spot piece (good_of t k piece points n.own)) n.kept);
  short = omega arith;
}

pub again_one : (t : List Entry) → IsTable t → (spot : Spot) (c : ℕ) (piece x y : List ℕ) → Keeps t (is_value spot) x y → Refers t spot (c ∷ []) piece x → Again t spot (c ∷ []) (length piece) y
again_one t k spot c piece x y g r = by_kind (reference_is t k spot (c ∷ []) piece x r)
  where
    by_kind : IsName t spot (c ∷ []) piece x ⊎ IsNumber (c ∷ []) piece x → Again t spot (c ∷ []) (length piece) y
    by_kind (inl n) = name_again t k spot (c ∷ []) piece x y g n
    by_kind (inr n) = let m = number_for t spot c piece x n in record {
      piece = m.choice_for.bytes;
      refers = number_reads t k spot c m.choice_for m.among y (g spot m.choice_for.to refl (number_fits t spot c m.choice_for m.among) m.kept);
      short = m.short;
    }

name_to_closed : (m : List ℕ) → last_is 59 m ≡ true → after_name m ≡ nothing
unfolding after_name
name_to_closed m h = rw h refl

-- a name without ';' has its form with ';'
closed_name : (t : List Entry) → IsTable t → (m ps : List ℕ) → points_of t m ≡ Some ps → last_is 59 m ≡ false → points_of t (m ++ 59 ∷ []) ≡ Some ps
closed_name t k m ps h e =
    let n = entry_of t m ps h in
    subst (λ q. points_of t (q ++ 59 ∷ []) ≡ Some ps) n.name_is (k.paired n.entry n.among (subst (λ q. last_is 59 q ≡ false) (sym n.name_is) e) ∙ ap Some n.points_are)

-- with its ';' a reference is read before all bytes
pub close_name : (t : List Entry) → IsTable t → (spot : Spot) (points piece x y : List ℕ) → IsName t spot points piece x → Again t spot points (length piece + 1) y
close_name t k spot points piece x y n = by_last (last_is 59 piece) refl
  where
    by_last : (b : Bool) → last_is 59 piece ≡ b → Again t spot points (length piece + 1) y
    by_last true e = record { piece = piece; refers = name_read t k spot piece points y n.own (subst (λ p. keeps t spot p y ≡ true) (sym (name_to_closed piece e)) refl); short = omega arith }
    by_last false e = record {
      piece = piece ++ 59 ∷ [];
      refers = name_read t k spot (piece ++ 59 ∷ []) points y (closed_name t k piece points n.own e) (subst (λ p. keeps t spot p y ≡ true) (sym (name_to_closed (piece ++ 59 ∷ []) (last_append piece 59))) refl);
      short = omega (arith, length-append piece (59 ∷ []));
    }

close_number : (t : List Entry) (spot : Spot) (c : ℕ) (piece x y : List ℕ) → IsNumber (c ∷ []) piece x → Again t spot (c ∷ []) (length piece + 1) y
close_number t spot c piece x y n = by_kind (hash_is n.inner (record { points = c ∷ []; len = length piece }) n.read)
  where
    by_kind : NumberAt 2 10 [] n.inner (record { points = c ∷ []; len = length piece }) ⊎ ((d : ℕ) × NumberAt 3 16 (d ∷ []) n.inner (record { points = c ∷ []; len = length piece })) → Again t spot (c ∷ []) (length piece + 1) y
    by_kind (inl m) = record {
      piece = 38 ∷ 35 ∷ (m.digits_are ++ 59 ∷ []);
      refers = decimal_closed t spot c m.digits_are y (read_gives 2 10 c [] n.inner (length piece) m);
      short = omega (arith, length-append m.digits_are (59 ∷ []), m.numeric_is.len);
    }
    by_kind (inr (d, m)) = record {
      piece = 38 ∷ 35 ∷ 120 ∷ (m.digits_are ++ 59 ∷ []);
      refers = hex_closed t spot c m.digits_are y (read_gives 3 16 c (d ∷ []) n.inner (length piece) m);
      short = omega (arith, length-append m.digits_are (59 ∷ []), m.numeric_is.len);
    }

pub close_one : (t : List Entry) → IsTable t → (spot : Spot) (c : ℕ) (piece x y : List ℕ) → Refers t spot (c ∷ []) piece x → Again t spot (c ∷ []) (length piece + 1) y
close_one t k spot c piece x y r = by_kind (reference_is t k spot (c ∷ []) piece x r)
  where
    by_kind : IsName t spot (c ∷ []) piece x ⊎ IsNumber (c ∷ []) piece x → Again t spot (c ∷ []) (length piece + 1) y
    by_kind (inl n) = close_name t k spot (c ∷ []) piece x y n
    by_kind (inr n) = close_number t spot c piece x y n
