-- What is pending, on examples: what the bytes that follow break and keep; and which start tags may close themselves or be left out.
use Rattle.std.specs.Prelude.{◌≡◌, Bool, true, false, Some, None, [], ◌∷◌, codes, refl}
use Rattle.hm_base.specs.Bytes.{is_alnum, is_digit_of, is_letter}
use Rattle.hm_base.specs.Walks.{end}
use Rattle.hm_base.specs.declared.plain.SpellRules.{SpellRules}
use Rattle.hm_elements.specs.Names.{body}
use Rattle.hm_refs.specs.Examples.{seven}
use Rattle.hm_refs.specs.Names.{is_name}
use Rattle.hm_spelling_spec.specs.Characters.{opens_text, text, double}
use Rattle.hm_graph_laws.specs.States.{ampersand, decimal, less_than, named}
use Rattle.hm_graph_laws.specs.Steps.{ampersand_in_value, is_root, named_in_text, onto, passes}
use Rattle.hm_graph_laws.specs.Units.{may_close_itself, start_tag, start_units}
use Rattle.hm_spelling_spec.specs.PageExamples.{on_literals}

-- `&not` is broken by `in;`, since `&notin;` is a longer name, and kept by `in,`
pub broken_by_longer : passes seven text (Some (named (codes "&not"))) (codes "in;") ≡ false
unfolding named_in_text onto is_name
broken_by_longer = refl

pub kept_by_comma : passes seven text (Some (named (codes "&not"))) (codes "in,") ≡ true
unfolding named_in_text onto is_name
kept_by_comma = refl

-- in a value a '&' stands as itself before `noti"`, and not before `not"`
pub stands_before_letters : passes seven double (Some (ampersand (codes "&"))) (codes "noti\"") ≡ true
unfolding ampersand_in_value onto is_name is_root is_alnum is_letter is_digit_of
stands_before_letters = refl

pub falls_before_name : passes seven double (Some (ampersand (codes "&"))) (codes "not\"") ≡ false
unfolding ampersand_in_value onto is_name is_root is_alnum is_letter is_digit_of
falls_before_name = refl

-- `&#38` is broken by a digit and by ';'
pub broken_by_digit : passes seven text (Some decimal) (codes "1") ≡ false
unfolding is_digit_of
broken_by_digit = refl

pub broken_by_semicolon : passes seven text (Some decimal) (codes ";") ≡ false
unfolding is_digit_of
broken_by_semicolon = refl

-- a '<' in text is broken by a letter, and kept by a space
pub broken_by_letter : passes seven text (Some less_than) (codes "a") ≡ false
unfolding opens_text is_letter
broken_by_letter = refl

pub kept_by_space : passes seven text (Some less_than) (codes " ") ≡ true
unfolding opens_text is_letter
kept_by_space = refl

-- an element of SVG may end at its '/', an element of HTML may not
pub svg_closes_itself : may_close_itself true (end (codes "g") true ∷ []) ≡ true
svg_closes_itself = refl

pub html_never_closes_itself : may_close_itself false (end (codes "b") false ∷ []) ≡ false
html_never_closes_itself = refl

-- with a frame or without
abbrev omitting : Bool → SpellRules
omitting frame = record { omit = true; unquote = true; tight = false; ascii = false; frame = frame }

-- the start tag of an empty body may be left out, and not where it has to stand as a frame
pub body_left_out : start_units (omitting false) None body false [] (end body false ∷ []) ≡ start_tag body true false false ∷ []
unfolding on_literals
body_left_out = refl

pub framed_body_stands : start_units (omitting true) None body false [] (end body false ∷ []) ≡ start_tag body false false false ∷ []
unfolding on_literals
framed_body_stands = refl
