-- The first event at which a walk can't become a settled one, and the first rule that it breaks. An event is judged by the
-- open elements and the events before it. The rules have the numbers that they have in `hm_elements/specs/Settled.antt`.
use Rattle.std.specs.Prelude.{ℕ, ◌+◌, Bool, true, false, not, ◌&&◌, ◌||◌, List, [], ◌∷◌, Option, Some, None, is_some, unwrap_or, if◌then◌else◌}
use Rattle.hm_base.specs.Walks.{Event, start, text, end, Element, path_after_event}
use Rattle.hm_elements.specs.Tables.{is_void}
use Rattle.hm_elements.specs.Settled.{Top, no_doctype, next_top, is_doctype, is_all_there, Frame, no_head, next_frame, starts_root, starts_inner_root, nests, is_svg_in_place, is_text_in_place, is_raw_text, is_comment_in_form, has_attributes_in_form, is_not_deep}

-- an event by its number, and a rule by its number
pub record Break : Type 0 where
  pub event : ℕ
  pub point : ℕ

-- what has stood at the top after an event, where it may stand
abbrev pub top_after : Top → List Element → Event → Option Top
top_after top [] e = next_top top e
top_after top (m ∷ path) e = if is_doctype e then None else Some top

-- what has stood under html after an event, where it may stand
abbrev pub frame_after : Frame → List Element → Event → Option Frame
frame_after frame [] e = if starts_inner_root e then None else Some no_head
frame_after frame (m ∷ []) e = next_frame frame e
frame_after frame (m ∷ k ∷ path) e = if starts_root e then None else Some frame

abbrev pub is_end : Event → Bool
is_end (end n foreign) = true
is_end e = false

abbrev pub is_text : Event → Bool
is_text (text s raw) = true
is_text e = false

-- the start of a void element is directly before
abbrev pub is_after_void : Option Event → Bool
is_after_void (Some (start n foreign attributes)) = not (foreign || not (is_void n))
is_after_void before = false

abbrev pub is_after_text : Option Event → Bool
is_after_text (Some (text s raw)) = true
is_after_text before = false

-- what is known of the events before one
pub record Past : Type 0 where
  pub top : Top
  pub frame : Frame
  pub path : List Element
  pub before : Option Event

abbrev pub first_past : Past
first_past = record { top = no_doctype; frame = no_head; path = []; before = None }

abbrev pub past_after : Past → Event → Past
past_after p e = record {
  top = unwrap_or (top_after p.top p.path e) p.top;
  frame = unwrap_or (frame_after p.frame p.path e) p.frame;
  path = path_after_event p.path e;
  before = Some e;
}

abbrev pub unless : Bool → ℕ → Option ℕ → Option ℕ
unless holds n more = if holds then more else Some n

-- the least rule that an event breaks
abbrev pub point_at : Past → Event → Option ℕ
point_at p e =
    unless (is_some (top_after p.top p.path e)) 1
    (unless (is_some (frame_after p.frame p.path e)) 2
    (unless (nests p.path e []) 3
    (unless (is_svg_in_place p.path e []) 4
    (unless (not (is_after_void p.before) || is_end e) 5
    (unless (is_text_in_place p.path e [] && not (is_after_text p.before && is_text e)) 6
    (unless (is_raw_text p.path e []) 7
    (unless (is_comment_in_form p.path e []) 8
    (unless (has_attributes_in_form p.path e []) 9
    (unless (is_not_deep p.path e []) 10 None)))))))))

abbrev pub at_event : ℕ → Option ℕ → Option Break → Option Break
at_event i None more = more
at_event i (Some point) more = Some (record { event = i; point = point })

-- The first break of the events that are left, the first of which has the number i. After the last one something may be
-- missing at the top.
abbrev pub first_break_from : ℕ → Past → List Event → Option Break
first_break_from i p [] = if is_all_there p.top then None else Some (record { event = i; point = 1 })
first_break_from i p (e ∷ w) = at_event i (point_at p e) (first_break_from (i + 1) (past_after p e) w)

-- the first break of a walk
unfoldable pub first_break : List Event → Option Break
first_break w = first_break_from 0 first_past w
