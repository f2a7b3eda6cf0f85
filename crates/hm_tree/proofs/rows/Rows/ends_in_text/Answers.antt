use Rattle.std.proofs.Common.{◌≡◌, ◌+◌, ◌-◌, length, slice_get, Some, string_bytes, sym, arith}
use Rattle.std.proofs.lemmas.Option.{slice_get_within, get_or_from_slice_get}
use Rattle.hm_tree.proofs.LastLemmas.{last_is_text, last_is_other}
use Rattle.hm_tree.proofs.rows.Rows.ends_in_text.Goals.{In-Some}
use Rattle.hm_tree.proofs.rows.Rows.ends_in_text.Goals as goal

pub returns-in-Text : goal.returns-in-Text
returns-in-Text c =
    let rows = c.self.inside.rows.items in
    let n = length rows - 1 in
    let at : slice_get rows n ≡ Some c.in-Some.row.now = rw c.deref.ensures.value at (sym c.in-Some.ensures.value) in
    let within = slice_get_within rows n c.in-Some.row.now at in
    let last : n + 1 ≡ length rows = omega (arith, within) in
    sym (last_is_text (string_bytes c.self.inside.text) c.self.inside.attributes.items rows c.args.self.now c.self.view_is n c.in-Some.row.now last
    (sym (get_or_from_slice_get rows n c.in-Some.row.now c.in-Some.row.now at)) c.in-Text.text c.in-Text.raw c.in-Text.is)

pub returns-in_default : goal.returns-in_default
returns-in_default c =
    let rows = c.self.inside.rows.items in
    let n = length rows - 1 in
    let at : slice_get rows n ≡ Some c.in-Some.row.now = rw c.deref.ensures.value at (sym c.in-Some.ensures.value) in
    let within = slice_get_within rows n c.in-Some.row.now at in
    let last : n + 1 ≡ length rows = omega (arith, within) in
    sym (last_is_other (string_bytes c.self.inside.text) c.self.inside.attributes.items rows c.args.self.now c.self.view_is n c.in-Some.row.now last
    (sym (get_or_from_slice_get rows n c.in-Some.row.now c.in-Some.row.now at)) c.in_default.not-Text)
