-- The definitions on small certificates, by computing.
use Rattle.std.specs.Prelude.{◌≡◌, ℕ, true, false, List, [], ◌∷◌, ◌++◌, Some, None, Ok, Err, codes, length, refl}
use Rattle.std.specs.Fmt.{digits}
use Rattle.hm_base.specs.declared.plain.SpellRules.{SpellRules}
use Rattle.hm_base.specs.declared.plain.Format.TheVariants.{Full, Compact, Sparse}
use Rattle.hm_cert.specs.Certificate.{Row, certificate_text}
use Rattle.hm_cert.specs.Reading.{given}

-- a line with its line feed, before further lines
abbrev pub line : List ℕ → List ℕ → List ℕ
line text more = text ++ 10 ∷ more

abbrev pub omit_unquote : SpellRules
omit_unquote = record { omit = true; unquote = true; tight = false; ascii = false; frame = false }

abbrev pub all_rules : SpellRules
all_rules = record { omit = true; unquote = true; tight = true; ascii = true; frame = true }

-- a row of one price
abbrev pub one : ℕ → Row
one price = Some price ∷ []

-- the certificate of `<!doctype html><p>a</p><p>b</p>` with every layer, of 60 bytes
abbrev pub every_layer : List Row
every_layer = one 23 ∷ one 8 ∷ one 8 ∷ one 8 ∷ one 8 ∷ one 8 ∷ one 5 ∷ one 4 ∷ one 4 ∷ one 1 ∷ one 0 ∷ one 0 ∷ one 0 ∷ one 0 ∷ []

abbrev pub every_layer_text : List ℕ
every_layer_text = line (codes "html-cert 1") (line (codes "rules omit unquote") (line (codes "23") (line (codes "8") (line (codes "8") (line (codes "8") (line (codes "8") (line (codes "8") (line (codes "5") (line (codes "4") (line (codes "4") (line (codes "1") (line (codes "0") (line (codes "0") (line (codes "0") (line (codes "0") [])))))))))))))))

pub every_layer_written : certificate_text Full omit_unquote every_layer ≡ every_layer_text
unfolding digits
every_layer_written = refl

pub every_layer_length : length every_layer_text ≡ 60
every_layer_length = refl

pub every_layer_read : given every_layer_text ≡ Ok (record { format = Full; rules = omit_unquote; prices = every_layer })
unfolding digits
every_layer_read = refl

-- the certificate of the same page with the layers that have a choice, of 52 bytes
abbrev pub choices : List Row
choices = one 23 ∷ one 8 ∷ one 8 ∷ one 8 ∷ one 8 ∷ one 4 ∷ one 0 ∷ one 0 ∷ one 0 ∷ one 0 ∷ []

abbrev pub choices_text : List ℕ
choices_text = line (codes "html-cert 2") (line (codes "rules omit unquote") (line (codes "23") (line (codes "8") (line (codes "8") (line (codes "8") (line (codes "8") (line (codes "4") (line (codes "0") (line (codes "0") (line (codes "0") (line (codes "0") [])))))))))))

pub choices_written : certificate_text Compact omit_unquote choices ≡ choices_text
unfolding digits
choices_written = refl

pub choices_length : length choices_text ≡ 52
choices_length = refl

pub choices_read : given choices_text ≡ Ok (record { format = Compact; rules = omit_unquote; prices = choices })
unfolding digits
choices_read = refl

-- the sparse certificate of the same page, of 36 bytes
abbrev pub sparse : List Row
sparse = one 23 ∷ one 0 ∷ []

abbrev pub sparse_text : List ℕ
sparse_text = line (codes "html-cert 3") (line (codes "rules omit unquote") (line (codes "23") (line (codes "0") [])))

pub sparse_written : certificate_text Sparse omit_unquote sparse ≡ sparse_text
unfolding digits
sparse_written = refl

pub sparse_length : length sparse_text ≡ 36
sparse_length = refl

pub sparse_read : given sparse_text ≡ Ok (record { format = Sparse; rules = omit_unquote; prices = sparse })
unfolding digits
sparse_read = refl

-- rows of several prices, some closed, the greatest of them 2^63 - 1
abbrev pub wide : List Row
wide = (Some 10 ∷ None ∷ Some 9223372036854775807 ∷ []) ∷ (None ∷ None ∷ []) ∷ []

abbrev pub wide_text : List ℕ
wide_text = line (codes "html-cert 2") (line (codes "rules omit unquote tight ascii frame") (line (codes "10 - 9223372036854775807") (line (codes "- -") [])))

pub wide_written : certificate_text Compact all_rules wide ≡ wide_text
unfolding digits
wide_written = refl

pub wide_read : given wide_text ≡ Ok (record { format = Compact; rules = all_rules; prices = wide })
unfolding digits
wide_read = refl

-- a certificate of two lines is the text of no layers
pub no_layers : given (line (codes "html-cert 1") (line (codes "rules") [])) ≡ Ok (record { format = Full; rules = record { omit = false; unquote = false; tight = false; ascii = false; frame = false }; prices = [] })
unfolding digits
no_layers = refl

-- bad lines
pub empty_file : given [] ≡ Err 1
empty_file = refl

pub other_format : given (line (codes "html-cert 4") (line (codes "rules") [])) ≡ Err 1
other_format = refl

pub unterminated_first : given (codes "html-cert 1") ≡ Err 1
unterminated_first = refl

pub one_line : given (line (codes "html-cert 1") []) ≡ Err 2
one_line = refl

pub unterminated_second : given (line (codes "html-cert 1") (codes "rules")) ≡ Err 2
unterminated_second = refl

pub rules_out_of_order : given (line (codes "html-cert 1") (line (codes "rules unquote omit") [])) ≡ Err 2
rules_out_of_order = refl

pub space_after : given (line (codes "html-cert 1") (line (codes "rules ") [])) ≡ Err 2
space_after = refl

-- what lines after a head without rules give
abbrev pub after_head_lines : List ℕ → List ℕ
after_head_lines more = line (codes "html-cert 2") (line (codes "rules") more)

pub empty_line : given (after_head_lines (line (codes "0") (line [] []))) ≡ Err 4
unfolding digits
empty_line = refl

pub unterminated_last : given (after_head_lines (line (codes "0") (codes "0"))) ≡ Err 4
unfolding digits
unterminated_last = refl

pub leading_zero : given (after_head_lines (line (codes "07") [])) ≡ Err 3
unfolding digits
leading_zero = refl

pub two_spaces : given (after_head_lines (line (codes "7  7") [])) ≡ Err 3
unfolding digits
two_spaces = refl

pub too_great : given (after_head_lines (line (codes "9223372036854775808") [])) ≡ Err 3
unfolding digits
too_great = refl

pub other_byte : given (after_head_lines (line (codes "7x") [])) ≡ Err 3
unfolding digits
other_byte = refl
