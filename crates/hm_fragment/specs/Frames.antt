-- Trees of fragments: all of their content is in body, and no tag but those of the frame has to be written around it.
use Rattle.std.specs.Prelude.{◌≡◌, ℕ, false, List, [], ◌∷◌, ◌++◌, length, drop, codes}
use Rattle.hm_base.specs.Walks.{Event, doctype, start, end}
use Rattle.hm_elements.specs.Names.{html, head, body}

-- the text that makes a page of a fragment after it
abbrev pub front : List ℕ
front = codes "<!doctype html><body>"

abbrev pub framed : List ℕ → List ℕ
framed fragment = front ++ fragment

-- the rest of a text after its front
abbrev pub unframed : List ℕ → List ℕ
unframed page = drop (length front) page

-- the events of the front
abbrev pub frame_start : List Event
frame_start = doctype false ∷ start html false [] ∷ start head false [] ∷ end head false ∷ start body false [] ∷ []

-- the events after the content of body
abbrev pub frame_end : List Event
frame_end = end body false ∷ end html false ∷ []

-- nothing stands in head, and nothing but body and what is in it after head
pub record IsFramed (w : List Event) : Type 0 where
  pub inside : List Event
  pub is : w ≡ frame_start ++ (inside ++ frame_end)
