-- One event more, where the whitespace of a tree is collapsed in place.
use Rattle.std.specs.Prelude.{◌≡◌, ℕ, ◌≤◌, Bool, true, false, List, [], ◌∷◌, ◌++◌, IsCharBoundary}
use Rattle.hm_base.specs.Walks.{Event, text, path_after}
use Rattle.hm_tree.specs.Edits.{Edited, last_event}
use Rattle.hm_options.specs.Rewritten.{first_event}
use Rattle.hm_options.specs.Space.{collapsed_event}
use Rattle.hm_options.specs.declared.walk.Seen.{Seen}

-- the first event that was left became what it becomes
abbrev pub IsStep : Bool → Edited → Edited → Type 0
IsStep conservative before after = (e : Event) (l : List Event) → before.left ≡ e ∷ l
    → (after.left ≡ l) × (after.done ≡ before.done ++ collapsed_event conservative (path_after [] before.done) (last_event before.done) e (first_event l))

-- a text that isn't raw comes first
abbrev pub plain_text_first : List Event → Bool
plain_text_first (text s false ∷ w) = true
plain_text_first w = false

-- the bytes of the text that comes first
abbrev pub first_text : List Event → List ℕ
first_text (text s raw ∷ w) = s
first_text w = []

-- the bytes from one place up to another are a part of the text s
pub record IsSeen (s : List ℕ) (seen : Seen) : Type 0 where
  pub ordered : seen.from ≤ seen.to
  pub from_boundary : IsCharBoundary s seen.from
  pub to_boundary : IsCharBoundary s seen.to
