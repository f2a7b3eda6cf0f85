-- Laws of settled walks whose whitespace is collapsed.
use Rattle.std.specs.Prelude.{Bool, List}
use Rattle.hm_base.specs.Walks.{Event}
use Rattle.hm_elements.specs.Settled.{Settled}
use Rattle.hm_options.specs.Space.{collapsed}

-- A settled walk stays settled where its whitespace is collapsed.
abbrev pub CollapsedIsSettled : Type 0
CollapsedIsSettled = (conservative : Bool) (w : List Event) → Settled w → Settled (collapsed conservative w)
