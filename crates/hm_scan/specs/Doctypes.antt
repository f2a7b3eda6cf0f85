-- Doctypes (HTML Standard, #doctype-state to #bogus-doctype-state), of the two forms that are read.
use Rattle.std.specs.Prelude.{ℕ, Bool, true, false, ◌&&◌, List, Option, Some, None, if◌then◌else◌, codes, drop}
use Rattle.std.specs.Option.{option_or}
use Rattle.hm_base.specs.Bytes.{Cut, cut_at, strip, strip_word, head_is, is_null, is_space, rest_after}
use Rattle.hm_base.specs.RawText.{is_found}
use Rattle.hm_tree.specs.Tokens.{Scanned, taken, refused, doctype}
use Rattle.hm_tree.specs.declared.tokens.ScanFault.TheVariants as faults

-- a doctype begins here: `<!doctype` in any ASCII case
unfoldable pub begins_doctype : List ℕ → Bool
begins_doctype s = is_found (strip_word (codes "<!doctype") s)

-- nothing but whitespace after the identifier
abbrev pub is_legacy_end : Option (List ℕ) → Bool
is_legacy_end None = false
is_legacy_end (Some s) = is_null (rest_after is_space s)

-- `about:legacy-compat` in double or single quotes, and whitespace
abbrev pub is_identifier : List ℕ → Bool
is_identifier s = is_legacy_end (option_or (strip (codes "\"about:legacy-compat\"") s) (strip (codes "'about:legacy-compat'") s))

-- after `system`
abbrev pub is_legacy : Option (List ℕ) → Bool
is_legacy None = false
is_legacy (Some s) = is_identifier (rest_after is_space s)

-- After `html`: nothing but whitespace is the plain form; whitespace, `system` in any case and the identifier are the
-- legacy one.
abbrev pub form_after_name : Option (List ℕ) → Option Bool
form_after_name None = None
form_after_name (Some s) =
    if is_null (rest_after is_space s) then Some false
    else if head_is is_space s && is_legacy (strip_word (codes "system") (rest_after is_space s)) then Some true
    else None

-- the form of a doctype whose bytes between `<!doctype` and the first `>` are s: whether it is the legacy one
unfoldable pub doctype_form : List ℕ → Option Bool
doctype_form s = form_after_name (strip_word (codes "html") (rest_after is_space s))

abbrev pub by_form : Option Bool → List ℕ → Scanned
by_form None rest = refused faults.BadDoctype
by_form (Some legacy) rest = taken (doctype legacy) rest

abbrev pub as_doctype : Option Cut → Scanned
as_doctype None = refused faults.Cut
as_doctype (Some k) = by_form (doctype_form k.before) k.after

-- the doctype that begins here
unfoldable pub read_doctype : List ℕ → Scanned
read_doctype s = as_doctype (cut_at (codes ">") (drop 9 s))
