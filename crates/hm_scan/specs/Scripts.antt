-- How the text of a script is read, mark by mark.
use Rattle.std.specs.Prelude.{Option, Some, None, if◌then◌else◌}
use Rattle.hm_base.specs.RawText.{Mark, opens_comment, closes_comment, opens_script, closes_script, ScriptState, unescaped, escaped, double_escaped, state_after, ends_script}
use Rattle.hm_scan.specs.declared.scripts.Escaping.{Escaping}
use Rattle.hm_scan.specs.declared.scripts.Escaping.TheVariants as states
use Rattle.hm_scan.specs.declared.scripts.ScriptMark.{ScriptMark}
use Rattle.hm_scan.specs.declared.scripts.ScriptMark.TheVariants as marks

abbrev pub state_of : Escaping → ScriptState
state_of states.Unescaped = unescaped
state_of states.Escaped = escaped
state_of states.DoubleEscaped = double_escaped

abbrev pub mark_of : ScriptMark → Mark
mark_of marks.OpensComment = opens_comment
mark_of marks.ClosesComment = closes_comment
mark_of marks.OpensScript = opens_script
mark_of marks.ClosesScript = closes_script

-- the state after a place, with its mark if there is one; none where the script ends there
abbrev pub next_state : ScriptState → Option Mark → Option ScriptState
next_state state None = Some state
next_state state (Some k) = if ends_script state k then None else Some (state_after state k)
