-- What a reader keeps of the events before one.
use Rattle.std.specs.Prelude.{◌≡◌}
use Rattle.hm_elements.specs.Settled as settled
use Rattle.hm_json_tree.specs.Breaks.{Past, is_after_void, is_after_text}
use Rattle.hm_json_tree.specs.declared.seen.Top.{Top}
use Rattle.hm_json_tree.specs.declared.seen.Top.TheVariants.{NoDoctype, NoHtml, AllThere}
use Rattle.hm_json_tree.specs.declared.seen.Frame.{Frame}
use Rattle.hm_json_tree.specs.declared.seen.Frame.TheVariants.{NoHead, NoBody, HasBody}
use Rattle.hm_json_tree.specs.declared.seen.Seen.{Seen}

-- what has stood at the top
abbrev pub top_of : Top → settled.Top
top_of NoDoctype = settled.no_doctype
top_of NoHtml = settled.no_html
top_of AllThere = settled.all_there

-- what has stood under html
abbrev pub frame_of : Frame → settled.Frame
frame_of NoHead = settled.no_head
frame_of NoBody = settled.no_body
frame_of HasBody = settled.has_body

-- what is kept of the past, beside the open elements
pub record IsSeen (seen : Seen) (past : Past) : Type 0 where
  pub top : top_of seen.top ≡ past.top
  pub frame : frame_of seen.frame ≡ past.frame
  pub void : seen.void ≡ is_after_void past.before
  pub text : seen.text ≡ is_after_text past.before
