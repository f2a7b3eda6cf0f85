-- The attributes that items or texts stand for.
use Rattle.std.specs.Prelude.{ℕ, List, [], map, unwrap_or}
use denote.Ref.{Bor}
use Rattle.serde_json.specs.View.{view}
use Rattle.serde_json.specs.declared.value.Value.{Value}
use Rattle.hm_base.specs.Walks.{Attribute}
use Rattle.hm_json_tree.specs.Reading.{attribute_in}
use Rattle.hm_json_tree.specs.declared.pairs.Source.{Source}
use Rattle.hm_json_tree.specs.declared.pairs.Source.TheVariants.{Items, Texts}

-- the attribute that an item stands for, and one of no bytes where it stands for none
abbrev pub attribute_at : Value → Attribute
attribute_at v = unwrap_or (attribute_in (view v)) (record { name = []; value = [] })

abbrev pub attributes_at : List Value → List Attribute
attributes_at vs = map attribute_at vs

-- a name and a value
abbrev pub text_attribute : Bor (List ℕ) × Bor (List ℕ) → Attribute
text_attribute p = record { name = p.0.now; value = p.1.now }

abbrev pub attributes_from : Source → List Attribute
attributes_from (Items vs) = attributes_at vs.now
attributes_from (Texts ps) = map text_attribute ps.items
