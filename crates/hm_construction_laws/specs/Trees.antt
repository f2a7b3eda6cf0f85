-- The tree of a page, or its first refusal with its rule and the byte of the page where it comes.
use Rattle.std.specs.Prelude.{ℕ, zero, suc, pred, ◌+◌, ◌-◌, List, [], ◌∷◌, length, map, Option, Some, None, if◌then◌else◌, bytes_eq}
use Rattle.hm_base.specs.Source.{Source, Refusal, text_fault, byte_of, source_of, place_in}
use Rattle.hm_base.specs.Walks.{Event, Element, pushes}
use Rattle.hm_base.specs.declared.rules.Rule.{Rule}
use Rattle.hm_elements.specs.Names.{script as script_name}
use Rattle.hm_elements.specs.Tables.{is_rcdata, is_raw}
use Rattle.hm_elements.specs.Paths.{current, is_in_svg}
use Rattle.hm_refs.specs.Names.{Entry}
use Rattle.hm_tree.specs.Tokens.{taken, refused}
use Rattle.hm_token_laws.specs.First.{Mode, ordinary, in_svg, rcdata, raw, script, Next, at_end, after_bytes, first, rule_of}
use Rattle.hm_construction_laws.specs.Steps.{Construction, Stepped, went, stops, step, step_over, first_state}

-- a walk, or the rule that refuses the page and the byte of the page where it does
pub data Outcome : Type 0 where
  built : List Event → Outcome
  refused_by : Rule → ℕ → Outcome

-- events before what follows; texts that touch are joined
abbrev pub after_events : List Event → Outcome → Outcome
after_events es (built w) = built (pushes es w)
after_events es (refused_by rule at) = refused_by rule at

abbrev pub mode_of_name : List ℕ → Mode
mode_of_name n = if is_rcdata n then rcdata n else if bytes_eq n script_name then script else if is_raw n then raw n else ordinary

-- how the text under the innermost element is read
abbrev pub mode_of : List Element → Mode
mode_of path = if is_in_svg path then in_svg else mode_of_name (current path)

-- a step of a token that begins at an index of the text
abbrev pub stepped : (ℕ → ℕ) → ℕ → Stepped → (Construction → Outcome) → Outcome
stepped place at (went es st) more = after_events es (more st)
stepped place at (stops rule n) more = refused_by rule (place (at + n))

abbrev pub over : (ℕ → ℕ) → ℕ → Construction → Outcome
over place at st = stepped place at (step_over st) (λ next. built [])

-- the next token is stepped, and more reads on after it
abbrev pub next_step : (ℕ → ℕ) → ℕ → Construction → List ℕ → Next → (ℕ → Construction → Outcome) → Outcome
next_step place at st s at_end more = over place (at + length s) st
next_step place at st s (after_bytes n (refused fault)) more = refused_by (rule_of fault) (place (at + n))
next_step place at st s (after_bytes n (taken token rest)) more = stepped place (at + n) (step st token) (more (pred (length s - length rest)))

-- the tree of what is left of a text from an index on; the first `skip` bytes are skipped
abbrev pub tree_from : List Entry → (ℕ → ℕ) → ℕ → ℕ → Construction → List ℕ → Outcome
tree_from t place skip at st [] = over place at st
tree_from t place (suc skip) at st (c ∷ s) = tree_from t place skip (at + 1) st s
tree_from t place zero at st (c ∷ s) = next_step place at st (c ∷ s) (first t (mode_of st.path) (c ∷ s)) (λ skip next. tree_from t place skip (at + 1) next s)

-- the tree of a text with its places
unfoldable pub tree_of_source : List Entry → Source → Outcome
tree_of_source t page = tree_from t (place_in page.placed page.end) 0 0 first_state (map byte_of page.placed)

-- the tree of the text of a page
abbrev pub tree_of_text : List Entry → List ℕ → Outcome
tree_of_text t page = tree_of_source t (source_of page)

abbrev pub unless_faulty : Option Refusal → Outcome → Outcome
unless_faulty None o = o
unless_faulty (Some r) o = refused_by r.rule r.at

-- The tree of a page, whatever its length.
unfoldable pub page_tree : List Entry → List ℕ → Outcome
page_tree t page = unless_faulty (text_fault page) (tree_of_text t page)
