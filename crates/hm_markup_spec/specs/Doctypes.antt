-- How a doctype may be written (HTML Standard, #the-doctype).
--
-- A parameter says whether whitespace has to stand between its words: a reader takes `<!doctypehtml>` too, a writer keeps
-- words apart.
use Rattle.std.specs.Prelude.{◌≡◌, ◌⊎◌, ℕ, Bool, true, false, List, ◌++◌, codes}
use Rattle.hm_base.specs.Forms.{is_blank}
use Rattle.hm_markup_spec.specs.Gaps.{is_gap, IsWord}

-- `<!doctype`, a gap, `html`, whitespace or none, `>`
pub record IsPlainDoctype (apart : Bool) (b : List ℕ) : Type 0 where
  pub word : List ℕ
  pub gap : List ℕ
  pub name : List ℕ
  pub tail : List ℕ
  pub whole : b ≡ word ++ (gap ++ (name ++ (tail ++ codes ">")))
  pub word_is : IsWord (codes "<!doctype") word
  pub gap_is : is_gap apart gap ≡ true
  pub name_is : IsWord (codes "html") name
  pub tail_is : is_blank tail ≡ true

-- after `html` whitespace, `system`, a gap, the identifier in quotes, whitespace or none, `>`
pub record IsLegacyDoctype (apart : Bool) (b : List ℕ) : Type 0 where
  pub word : List ℕ
  pub gap : List ℕ
  pub name : List ℕ
  pub space : List ℕ
  pub keyword : List ℕ
  pub between : List ℕ
  pub identifier : List ℕ
  pub tail : List ℕ
  pub whole : b ≡ word ++ (gap ++ (name ++ (space ++ (keyword ++ (between ++ (identifier ++ (tail ++ codes ">")))))))
  pub word_is : IsWord (codes "<!doctype") word
  pub gap_is : is_gap apart gap ≡ true
  pub name_is : IsWord (codes "html") name
  pub space_is : is_gap true space ≡ true
  pub keyword_is : IsWord (codes "system") keyword
  pub between_is : is_gap apart between ≡ true
  pub identifier_is : (identifier ≡ codes "\"about:legacy-compat\"") ⊎ (identifier ≡ codes "'about:legacy-compat'")
  pub tail_is : is_blank tail ≡ true

-- b writes the plain doctype, or the legacy one
abbrev pub WritesDoctype : Bool → Bool → List ℕ → Type 0
WritesDoctype apart false b = IsPlainDoctype apart b
WritesDoctype apart true b = IsLegacyDoctype apart b
