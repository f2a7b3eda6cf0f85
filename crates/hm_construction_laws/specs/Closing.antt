-- Where a page closes its body: the first token after which only whitespace, comments and `</html>` may stand.
use Rattle.std.specs.Prelude.{ℕ, zero, suc, pred, ◌+◌, ◌-◌, Bool, true, false, List, [], ◌∷◌, length, map, Option, Some, None, if◌then◌else◌}
use Rattle.hm_base.specs.Source.{Source, byte_of, place_in, source_of}
use Rattle.hm_refs.specs.Names.{Entry}
use Rattle.hm_tree.specs.Tokens.{taken, refused}
use Rattle.hm_token_laws.specs.First.{Next, at_end, after_bytes, first}
use Rattle.hm_construction_laws.specs.Steps.{InsertionMode, after_body, after_html, Construction, Stepped, went, stops, step, first_state}
use Rattle.hm_construction_laws.specs.Trees.{mode_of}

-- after the end tag of body or of html
abbrev pub is_after_body : InsertionMode → Bool
is_after_body after_body = true
is_after_body after_html = true
is_after_body insertion_mode = false

-- a step of a token that begins at an index of the text
abbrev pub closed_step : (ℕ → ℕ) → ℕ → Stepped → (Construction → Option ℕ) → Option ℕ
closed_step place at (went es next) more = if is_after_body next.insertion_mode then Some (place at) else more next
closed_step place at (stops rule n) more = None

-- the next token is stepped, and more reads on after it
abbrev pub closed_next : (ℕ → ℕ) → ℕ → Construction → List ℕ → Next → (ℕ → Construction → Option ℕ) → Option ℕ
closed_next place at st s at_end more = None
closed_next place at st s (after_bytes n (refused fault)) more = None
closed_next place at st s (after_bytes n (taken token rest)) more = closed_step place (at + n) (step st token) (more (pred (length s - length rest)))

-- the place of that token in what is left of a text from an index on; the first `skip` bytes are skipped
abbrev pub closed_from : List Entry → (ℕ → ℕ) → ℕ → ℕ → Construction → List ℕ → Option ℕ
closed_from t place skip at st [] = None
closed_from t place (suc skip) at st (c ∷ s) = closed_from t place skip (at + 1) st s
closed_from t place zero at st (c ∷ s) = closed_next place at st (c ∷ s) (first t (mode_of st.path) (c ∷ s)) (λ skip next. closed_from t place skip (at + 1) next s)

-- the byte of the page where the token stands that closes its body, in a text with its places
unfoldable pub closed_of_source : List Entry → Source → Option ℕ
closed_of_source t page = closed_from t (place_in page.placed page.end) 0 0 first_state (map byte_of page.placed)

-- the same of the text of a page
abbrev pub closed_at : List Entry → List ℕ → Option ℕ
closed_at t page = closed_of_source t (source_of page)
