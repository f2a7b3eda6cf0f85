-- Values of attributes (HTML Standard, #attribute-value-(double-quoted)-state to #attribute-value-(unquoted)-state and
-- #character-reference-state): the character references in them are read.
use Rattle.std.specs.Prelude.{ℕ, zero, suc, pred, ◌==◌, true, List, [], ◌∷◌, ◌++◌, Option, Some, None, if◌then◌else◌, encode_utf8_all}
use Rattle.hm_refs.specs.Names.{Entry}
use Rattle.hm_refs.specs.References.{Reference, reference}

-- the reference of a value that begins with the byte c
unfoldable pub reference_at : List Entry → ℕ → List ℕ → Option Reference
reference_at t c s = if c == 38 then reference t true (c ∷ s) else None

-- the code points of a reference in UTF-8, or else the byte itself, and what `more` gives after that
abbrev pub read_on : Option Reference → ℕ → (ℕ → List ℕ) → List ℕ
read_on None c more = c ∷ more 0
read_on (Some r) c more = encode_utf8_all r.points ++ more (pred r.len)

-- the bytes that the written ones stand for; the first `skip` bytes are skipped
abbrev pub value_from : List Entry → ℕ → List ℕ → List ℕ
value_from t skip [] = []
value_from t (suc skip) (c ∷ s) = value_from t skip s
value_from t zero (c ∷ s) = read_on (reference_at t c s) c (λ k. value_from t k s)

-- the value that is written so
abbrev pub read_value : List Entry → List ℕ → List ℕ
read_value t s = value_from t 0 s
