-- The attributes that a start is made of.
use Rattle.std.specs.Prelude.{List}
use Rattle.hm_base.specs.Walks.{Attribute}
use Rattle.hm_tree.specs.Views.{attributes_shown}
use Rattle.hm_tree.specs.declared.sources.AttributeSource.{AttributeSource}
use Rattle.hm_tree.specs.declared.sources.AttributeSource.TheVariants.{Tag, Element}

-- names and values in order
abbrev pub listed : AttributeSource → List Attribute
listed (Tag attrs) = attrs.now
listed (Element attrs) = attributes_shown attrs
