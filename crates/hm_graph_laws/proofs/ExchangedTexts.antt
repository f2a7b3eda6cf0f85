-- Texts and values that are respelled.
use Rattle.std.proofs.Common.{ℕ, List, ◌++◌, refl, ◌∙◌, subst, arith, length-append}
use Rattle.hm_refs.specs.Names.{Entry}
use Rattle.hm_refs.specs.Plain.{is_plain}
use Rattle.hm_refs.specs.Tables.{IsTable}
use Rattle.hm_spelling_spec.specs.Characters.{CharacterRules, is_value, spelled, SpellsPoints, Spot}
use Rattle.hm_graph_laws.specs.ExchangeLaws.{sparing, TextsSparePlain}
use Rattle.hm_graph_laws.proofs.Exchange.{exchange}
use Rattle.hm_graph_laws.proofs.Gives.{Gives, gives_itself}
use Rattle.hm_graph_laws.proofs.PlainTests.{plain_test}

-- the code points, respelled before y
pub record TextNew (t : List Entry) (rules : CharacterRules) (spot : Spot) (cs b x y : List ℕ) : Type 0 where
  pub bytes : List ℕ
  pub spells : SpellsPoints t (sparing rules (is_plain t)) spot cs bytes y
  pub gives : Gives t (is_value spot) (b ++ x) (bytes ++ y)

pub text_new : (t : List Entry) → IsTable t → (rules : CharacterRules) (spot : Spot) (cs b x y : List ℕ) → SpellsPoints t rules spot cs b x → Gives t (is_value spot) x y → TextNew t rules spot cs b x y
text_new t k rules spot cs b x y s g =
    let e = exchange t k rules (is_plain t) (plain_test t k) spot s.pieces x y s.allowed g in
    record {
      bytes = spelled e.pieces;
      spells = record { pieces = e.pieces; whole = refl; means = e.means ∙ s.means; allowed = e.allowed };
      gives = subst (λ w. Gives t (is_value spot) (w ++ x) (spelled e.pieces ++ y)) s.whole e.gives;
    }

pub texts_spare_plain : TextsSparePlain
texts_spare_plain t k rules spot cs b after s =
    let n = text_new t k rules spot cs b after after s (gives_itself t (is_value spot) after) in
    record { bytes = n.bytes; spells = n.spells; short = omega (arith, n.gives.le, length-append b after, length-append n.bytes after) }
