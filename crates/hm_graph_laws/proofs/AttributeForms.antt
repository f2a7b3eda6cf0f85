-- The places after the forms of attributes.
use Rattle.std.proofs.Common.{◌≡◌, ℕ, Bool, true, false, cond, List, [], ◌∷◌, ◌++◌, codes, refl}
use Rattle.hm_base.specs.Bytes.{is_space}
use Rattle.hm_markup_spec.specs.Gaps.{is_gap}
use Rattle.hm_markup_spec.specs.Tags.{bare, double, Quoting, parts_attributes, parts_slash, single, tag_end, unquoted}
use Rattle.hm_graph_laws.specs.AttributeEdges.{gap_at, is_after_unquoted}
use Rattle.hm_refs.specs.Tables.{first, later}
use Rattle.hm_spelling_spec.specs.Characters.{is_value}
use Rattle.hm_graph_laws.proofs.ValueEnds.{Closes}
use Rattle.hm_graph_laws.specs.States.{Where, outside, after_omitted_end, self_closed, after_name, after_quoted, after_unquoted, in_unquoted, in_double, in_single, in_section, value_spot}

-- the place after an attribute of this form
abbrev pub after_form : Quoting → Where
after_form bare = after_name
after_form unquoted = after_unquoted
after_form double = after_quoted
after_form single = after_quoted

-- the byte before an attribute is a gap
pub gap_parts : (tight : Bool) (before : Quoting) → is_gap (parts_attributes tight before) (gap_at tight (after_form before)) ≡ true
unfolding is_gap is_space
gap_parts true bare = refl
gap_parts true unquoted = refl
gap_parts true double = refl
gap_parts true single = refl
gap_parts false bare = refl
gap_parts false unquoted = refl
gap_parts false double = refl
gap_parts false single = refl

-- a place has the spot of a value
pub spot_value : (at : Where) → is_value (value_spot at) ≡ true
spot_value outside = refl
spot_value after_omitted_end = refl
spot_value self_closed = refl
spot_value after_name = refl
spot_value after_unquoted = refl
spot_value after_quoted = refl
spot_value in_unquoted = refl
spot_value in_double = refl
spot_value in_single = refl
spot_value in_section = refl

-- what stands before the '/' after an attribute of this form
abbrev pub slash_gap : Quoting → List ℕ
slash_gap bare = []
slash_gap unquoted = 32 ∷ []
slash_gap double = []
slash_gap single = []

pub slash_parts : (last : Quoting) → is_gap (parts_slash last) (slash_gap last) ≡ true
unfolding is_gap is_space
slash_parts bare = refl
slash_parts unquoted = refl
slash_parts double = refl
slash_parts single = refl

pub slash_bytes : (last : Quoting) → cond (is_after_unquoted (after_form last)) (codes " />") (codes "/>") ≡ slash_gap last ++ tag_end true
slash_bytes bare = refl
slash_bytes unquoted = refl
slash_bytes double = refl
slash_bytes single = refl

pub no_gap : is_gap false [] ≡ true
unfolding is_gap
no_gap = refl

-- the tag's '>' closes a value
pub bracket_closes : (x : List ℕ) → Closes (62 ∷ x)
bracket_closes x = record { byte = 62; rest = x; is = refl; among = later 34 _ (later 39 _ (first _)) }
