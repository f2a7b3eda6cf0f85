-- What JSON gives, on examples.
use Rattle.std.specs.Prelude.{◌≡◌, [], ◌∷◌, Ok, Err, codes, refl}
use Rattle.std.specs.Str.{is_utf8, chars}
use lib.Utf8.{encode}
use Rattle.serde_json.proofs.OnLiterals.{serde_json_on_literals}
use Rattle.hm_base.specs.Bytes.{is_digit_of, is_letter, is_alnum}
use Rattle.hm_refs.specs.Json.{json, codepoints, names}
use Rattle.hm_refs.specs.declared.fault.TableFault.TheVariants.{NotJson, NotObject, BadName, BadPoints, Lone}

pub no_ampersand : names (codes "{\"amp;\":{\"codepoints\":[38]}}") ≡ Err (BadName (codes "amp;"))
unfolding names json codepoints is_utf8 chars encode serde_json_on_literals is_alnum is_letter is_digit_of
no_ampersand = refl

pub no_object : names (codes "[]") ≡ Err NotObject
unfolding names json codepoints is_utf8 chars encode serde_json_on_literals
no_object = refl

pub no_json : names (codes "{") ≡ Err NotJson
unfolding names json codepoints is_utf8 chars encode serde_json_on_literals
no_json = refl

pub no_other_form : names (codes "{\"&xy\":{\"codepoints\":[33]}}") ≡ Err (Lone (codes "&xy"))
unfolding names json codepoints is_utf8 chars encode serde_json_on_literals is_alnum is_letter is_digit_of
no_other_form = refl

pub zero_point : names (codes "{\"&ab;\":{\"codepoints\":[0]}}") ≡ Err (BadPoints (codes "&ab;"))
unfolding names json codepoints is_utf8 chars encode serde_json_on_literals is_alnum is_letter is_digit_of
zero_point = refl

pub two_points : names (codes "{\"&ab;\":{\"codepoints\":[120,824]}}") ≡ Ok (record { name = codes "&ab;"; points = 120 ∷ 824 ∷ [] } ∷ [])
unfolding names json codepoints is_utf8 chars encode serde_json_on_literals is_alnum is_letter is_digit_of
two_points = refl
