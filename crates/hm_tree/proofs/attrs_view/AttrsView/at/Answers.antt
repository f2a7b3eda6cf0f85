use Rattle.std.proofs.Common.{◌≡◌, ℕ, ◌<◌, List, length, get_or, slice_get, Some, refl, ap, ◌∙◌, arith}
use Rattle.std.proofs.lemmas.List.{length-map}
use Rattle.std.proofs.lemmas.Option.{slice_get-get_or, slice_get-map}
use Rattle.hm_tree.specs.Pieces.{HasPieces, attribute_in, attributes_in}
use Rattle.hm_tree.specs.declared.pieces.AttributePieces.{AttributePieces}
use Rattle.hm_tree.proofs.attrs_view.AttrsView.at.Goals as goal

abbrev none : AttributePieces
none = record { from = 0; middle = 0; to = 0 }

within : (s : List ℕ) (pieces : List AttributePieces) (i : ℕ) → i < length (attributes_in s pieces) → i < length pieces
within s pieces i inside = omega (arith, inside, length-map pieces (attribute_in s))

-- the attribute that stands at an index
attribute_at : (s : List ℕ) (pieces : List AttributePieces) (i : ℕ) → i < length (attributes_in s pieces) → slice_get (attributes_in s pieces) i ≡ Some (attribute_in s (get_or pieces i none))
attribute_at s pieces i inside = slice_get-map (attribute_in s) pieces i ∙ rw (slice_get-get_or pieces i none (within s pieces i inside)) refl

pub cut-requires : goal.cut-requires
cut-requires c = let view = c.args.self.now in rw c.name.ensures (view.is_shown.inside c.args.i none (within view.text.now view.pieces.now c.args.i c.requires)).0

pub cut-requires-2 : goal.cut-requires-2
cut-requires-2 c = let view = c.args.self.now in rw c.value.ensures (view.is_shown.inside c.args.i none (within view.text.now view.pieces.now c.args.i c.requires)).1

pub returns : goal.returns
returns c = let view = c.args.self.now in rw (c.cut.ensures, c.cut-2.ensures, c.name.ensures, c.value.ensures) (attribute_at view.text.now view.pieces.now c.args.i c.requires)
