-- The line feed before a text.
use Rattle.std.proofs.Common.{◌≡◌, ℕ, Bool, true, false, ◌&&◌, List, chars, refl, if◌then◌else◌}
use Rattle.hm_base.specs.Bytes.{head_is}
use Rattle.hm_base.specs.Walks.{Element}
use Rattle.hm_spelling_spec.specs.Spellings.{opening, other, drops_first_line_feed, is_line_feed, wants_line_feed}
use Rattle.hm_graph_laws.specs.Units.{Previous, is_after_start}

by_flags : (after drops begins : Bool) → begins && (drops && after) ≡ after && (drops && begins)
by_flags true true true = refl
by_flags true true false = refl
by_flags true false true = refl
by_flags true false false = refl
by_flags false true true = refl
by_flags false true false = refl
by_flags false false true = refl
by_flags false false false = refl

by_opening : (after : Bool) (path : List Element) (cs : List ℕ) → head_is is_line_feed cs && (drops_first_line_feed path && after) ≡ wants_line_feed (if after then opening else other) path cs
by_opening true path cs = by_flags true (drops_first_line_feed path) (head_is is_line_feed cs)
by_opening false path cs = by_flags false (drops_first_line_feed path) (head_is is_line_feed cs)

-- one is due after a start in an element that drops the first one, where the text begins with one
pub due : (previous : Previous) (path : List Element) (s : List ℕ) → head_is is_line_feed (chars s) && (drops_first_line_feed path && is_after_start previous) ≡ wants_line_feed (if is_after_start previous then opening else other) path (chars s)
due previous path s = by_opening (is_after_start previous) path (chars s)
