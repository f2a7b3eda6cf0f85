-- The tree of a fragment, or its first refusal with its rule and the byte of the fragment where it comes.
use Rattle.std.specs.Prelude.{ℕ, ◌-◌, List, length, Option, Some, None}
use Rattle.hm_base.specs.Walks.{Event}
use Rattle.hm_base.specs.declared.rules.Refused.{Refused}
use Rattle.hm_base.specs.declared.rules.Refused.TheVariants as answers
use Rattle.hm_base.specs.declared.rules.Rule.TheVariants.{FrameEnd}
use Rattle.hm_refs.specs.Names.{Entry}
use Rattle.hm_construction_laws.specs.Closing.{closed_at}
use Rattle.hm_construction_laws.specs.Trees.{Outcome, built, refused_by, page_tree}
use Rattle.hm_fragment.specs.Frames.{front, framed}

-- a byte of the framed fragment as one of the fragment
abbrev pub unframed_at : ℕ → ℕ
unframed_at at = at - length front

-- a fragment doesn't close the body that it stands in
abbrev pub unless_closed : Option ℕ → List Event → Outcome
unless_closed None w = built w
unless_closed (Some at) w = refused_by FrameEnd (unframed_at at)

-- a refusal of the framed fragment comes before that of its end of body
abbrev pub fragment_of : Option ℕ → Outcome → Outcome
fragment_of closed (built w) = unless_closed closed w
fragment_of closed (refused_by rule at) = refused_by rule (unframed_at at)

-- The tree of a fragment, whatever its length.
unfoldable pub fragment_tree : List Entry → List ℕ → Outcome
fragment_tree t fragment = fragment_of (closed_at t (framed fragment)) (page_tree t (framed fragment))

-- a refusal of the page as one of the fragment
abbrev pub refusal_of : Refused → Refused
refusal_of (answers.Page rule at) = answers.Page rule (unframed_at at)
refusal_of answers.OutOfMemory = answers.OutOfMemory
