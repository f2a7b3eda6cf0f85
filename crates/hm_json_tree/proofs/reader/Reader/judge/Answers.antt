use Rattle.std.proofs.Common.{◌≡◌, None, sym, ◌∙◌}
use Rattle.hm_json_tree.specs.Breaks.{point_at}
use Rattle.hm_json_tree.specs.Forms.{told}
use Rattle.hm_json_tree.proofs.Taken.{in_form, is_none}
use Rattle.hm_json_tree.proofs.reader.Reader.judge.Goals as goal

pub unwrap-requires : goal.unwrap-requires
unwrap-requires c =
    let old = c.args.self.now in
    let at = c.requires.at in
    let e = told old.path c.args.form.now in
    let sound : point_at at.past e ≡ None = sym (c.point_of-point.ensures at.past at.seen at.path_is) ∙ is_none c.point_of-point.result (sym c.if-is_some.ensures) in
    c.as_ref.ensures.variant ∙ c.requires.form ∙ in_form at.past old.path e at.path_is sound
