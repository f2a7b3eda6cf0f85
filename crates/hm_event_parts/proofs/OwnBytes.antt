-- Units of the code with bytes of their own.
use Rattle.std.proofs.Common.{◌≡◌, ℕ, List, sym, refl}
use Rattle.hm_edges.specs.Pieces.{own_bytes}
use Rattle.hm_edges.specs.Units as units
use Rattle.hm_edges.specs.Units.{StandsFor}
use Rattle.hm_edges.specs.declared.units.Unit.{Unit}
use Rattle.hm_edges.specs.declared.units.Unit.TheVariants as code
use Rattle.hm_refs.specs.Names.{Entry}
use Rattle.hm_event_parts.specs.Parts.{HasOwn, unit_with}

pub stands_for : (t : List Entry) (unit : Unit) (b : List ℕ) → HasOwn unit b → StandsFor t unit (unit_with unit b)
stands_for t (code.Fixed len) b has = units.fixed b len has
stands_for t (code.StartTag len omits required_after_omission closes) b has = units.start_tag b len omits required_after_omission closes has
stands_for t (code.TagName len) b has = units.tag_name b len has
stands_for t (code.BareAttribute len) b has = units.bare_attribute b len has
stands_for t (code.AttributeName len needs) b has = absurd has
stands_for t (code.Character kind c pair more) b has = absurd has
stands_for t code.AttributeEnd b has = units.attribute_end
stands_for t (code.TagClose closes) b has = units.tag_close closes
stands_for t (code.EndTag len omits notes_omission) b has = units.end_tag b len omits notes_omission has

pub own_bytes_kept : (unit : Unit) (b : List ℕ) → HasOwn unit b → own_bytes (unit_with unit b) ≡ b
own_bytes_kept (code.Fixed len) b has = refl
own_bytes_kept (code.StartTag len omits required_after_omission closes) b has = refl
own_bytes_kept (code.TagName len) b has = refl
own_bytes_kept (code.BareAttribute len) b has = refl
own_bytes_kept (code.AttributeName len needs) b has = absurd has
own_bytes_kept (code.Character kind c pair more) b has = absurd has
own_bytes_kept code.AttributeEnd b has = sym has
own_bytes_kept (code.TagClose closes) b has = sym has
own_bytes_kept (code.EndTag len omits notes_omission) b has = refl
