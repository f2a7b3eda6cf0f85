-- A reference that is a piece of a spelling: its bytes, whatever follows them.
use Rattle.std.proofs.Common.{◌≡◌, ℕ, true, List, [], ◌∷◌, ◌++◌, length, Some, refl, arith}
use Rattle.hm_base.specs.Bytes.{all_pass}
use Rattle.hm_refs.specs.Names.{Entry}
use Rattle.hm_refs.specs.References.{reference}
use Rattle.hm_refs.specs.Tables.{IsTable}
use Rattle.hm_spelling_spec.specs.Characters.{Spot, is_value}
use Rattle.hm_round_trip_laws.specs.References.{is_reference_byte, TakesFew}
use Rattle.hm_round_trip_laws.proofs.ReferenceBytes.{references_take_few_bytes}

-- b is a reference that gives these code points, before what follows
abbrev pub Refers : List Entry → Spot → List ℕ → List ℕ → List ℕ → Type 0
Refers t spot qs b after = reference t (is_value spot) (b ++ after) ≡ Some (record { points = qs; len = length b })

pub record AmpPiece (b : List ℕ) : Type 0 where
  pub inner : List ℕ
  pub is : b ≡ 38 ∷ inner
  pub few : all_pass is_reference_byte inner ≡ true

-- a prefix that is as long as another one is that one
same_front : (b x inner rest : List ℕ) → b ++ x ≡ inner ++ rest → length b ≡ length inner → b ≡ inner
same_front [] x [] rest e l = refl
same_front [] x (i ∷ inner) rest e l = absurd (omega arith)
same_front (c ∷ b) x [] rest e l = absurd (omega arith)
same_front (c ∷ b) x (i ∷ inner) rest e l = let first : c ≡ i = cc in let more : b ++ x ≡ inner ++ rest = cc in rw (first, same_front b x inner rest more (omega arith)) refl

pub amp_piece : (t : List Entry) (spot : Spot) (qs b after : List ℕ) → IsTable t → Refers t spot qs b after → AmpPiece b
amp_piece t spot qs b after k r =
    let f : TakesFew (b ++ after) (record { points = qs; len = length b }) = references_take_few_bytes t (is_value spot) (b ++ after) (record { points = qs; len = length b }) k r in
    record { inner = f.inner; is = same_front b after (38 ∷ f.inner) f.rest f.is f.len; few = f.few }
