-- Which form of a value covers another one, and where a costly character gains, on examples.
use Rattle.std.specs.Prelude.{◌≡◌, true, false, List, [], ◌∷◌, codes, refl}
use Rattle.hm_base.specs.Bytes.{is_space}
use Rattle.hm_graph_laws.specs.States.{in_unquoted, in_double, in_single}
use Rattle.hm_graph_laws.specs.Forms.{covers, gains}
use Rattle.hm_refs.specs.Examples.{seven}
use Rattle.hm_refs.specs.Names.{Entry}
use Rattle.hm_spelling_spec.specs.Characters.{is_barred}

-- a value that may stand bare: each form covers each, and none gains
pub bare_covers_double : covers in_unquoted in_double (codes "xyz") ≡ true
unfolding is_barred is_space
bare_covers_double = refl

pub bare_gains_none : gains [] in_double in_unquoted (codes "xyz") ≡ false
unfolding is_barred is_space
bare_gains_none = refl

-- one with a space: quotes cover no quotes, and gain
pub space_covered : covers in_double in_unquoted (codes "x y") ≡ true
unfolding is_barred is_space
space_covered = refl

pub space_uncovered : covers in_unquoted in_double (codes "x y") ≡ false
unfolding is_barred is_space
space_uncovered = refl

pub space_gains : gains [] in_double in_unquoted (codes "x y") ≡ true
unfolding is_barred is_space
space_gains = refl

-- one with a double quote, or with both
pub quote_gains : gains [] in_single in_double (codes "x\"y") ≡ true
unfolding is_barred is_space
quote_gains = refl

pub quote_covered : covers in_single in_double (codes "x\"y") ≡ true
quote_covered = refl

pub both_uncovered : covers in_single in_double (codes "it's \"x\"") ≡ false
both_uncovered = refl

-- TAB has a reference of three bytes, two more than itself
pub tab_is_cheap : gains [] in_double in_unquoted (120 ∷ 9 ∷ 121 ∷ []) ≡ false
unfolding is_barred is_space
tab_is_cheap = refl

-- '<' has one too where a name says so
pub less_than_gains : gains [] in_double in_unquoted (codes "x<y") ≡ true
unfolding is_barred is_space
less_than_gains = refl

pub less_than_is_cheap : gains seven in_double in_unquoted (codes "x<y") ≡ false
unfolding is_barred is_space
less_than_is_cheap = refl

-- '=' would end no name without ';' that gives the character before it
pub equals_gains : gains seven in_double in_unquoted (codes "x=y") ≡ true
unfolding is_barred is_space
equals_gains = refl

pub equals_is_cheap : gains seven in_double in_unquoted (codes "<=y") ≡ false
unfolding is_barred is_space
equals_is_cheap = refl

-- a name that gives x and a space
abbrev spaced : List Entry
spaced = record { name = codes "&xs;"; points = 120 ∷ 32 ∷ [] } ∷ []

-- a name that gives a space and x
abbrev led : List Entry
led = record { name = codes "&sx;"; points = 32 ∷ 120 ∷ [] } ∷ []

pub second_is_cheap : gains spaced in_double in_unquoted (codes "x y") ≡ false
unfolding is_barred is_space
second_is_cheap = refl

pub pair_is_cheap : gains led in_double in_unquoted (codes "y x") ≡ false
unfolding is_barred is_space
pair_is_cheap = refl

pub no_pair_gains : gains led in_double in_unquoted (codes "x y") ≡ true
unfolding is_barred is_space
no_pair_gains = refl
