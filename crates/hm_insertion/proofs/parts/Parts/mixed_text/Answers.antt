use Rattle.std.proofs.Common.{refl, ◌∙◌}
use Rattle.hm_insertion.proofs.TextWalks.{mixed_walk, fresh_path, fresh_body}
use Rattle.hm_insertion.proofs.parts.Parts.mixed_text.Goals as goal

pub keep_blank-requires-clause-room : goal.keep_blank-requires-clause-room
keep_blank-requires-clause-room c =
    let p = c.args.self.now in
    let m = mixed_walk p.insertion_mode p.path p.maker c.args.blank.now c.args.rest.now c.requires.not_text c.requires.stands c.requires.kept.walk c.requires.room in
    m.blank_room

pub keep_blank-requires-clause-same_raw : goal.keep_blank-requires-clause-same_raw
keep_blank-requires-clause-same_raw c =
    let p = c.args.self.now in
    let m = mixed_walk p.insertion_mode p.path p.maker c.args.blank.now c.args.rest.now c.requires.not_text c.requires.stands c.requires.kept.walk c.requires.room in
    m.same_raw

pub make_missing-requires-clause-room : goal.make_missing-requires-clause-room
make_missing-requires-clause-room c =
    let p = c.args.self.now in
    let m = mixed_walk p.insertion_mode p.path p.maker c.args.blank.now c.args.rest.now c.requires.not_text c.requires.stands c.requires.kept.walk c.requires.room in
    rw c.in_ok-keep_blank.ensures m.made_room

pub make_missing-requires-clause-open_there : goal.make_missing-requires-clause-open_there
make_missing-requires-clause-open_there c =
    let p = c.args.self.now in
    let m = mixed_walk p.insertion_mode p.path p.maker c.args.blank.now c.args.rest.now c.requires.not_text c.requires.stands c.requires.kept.walk c.requires.room in
    rw c.in_ok-keep_blank.ensures m.open_there

pub text-requires-clause-room : goal.text-requires-clause-room
text-requires-clause-room c =
    let p = c.args.self.now in
    let m = mixed_walk p.insertion_mode p.path p.maker c.args.blank.now c.args.rest.now c.requires.not_text c.requires.stands c.requires.kept.walk c.requires.room in
    rw (c.in_ok-make_missing.ensures, c.in_ok-keep_blank.ensures) m.text_room

pub text-requires-clause-same_raw : goal.text-requires-clause-same_raw
text-requires-clause-same_raw c =
    let p = c.args.self.now in
    let m = mixed_walk p.insertion_mode p.path p.maker c.args.blank.now c.args.rest.now c.requires.not_text c.requires.stands c.requires.kept.walk c.requires.room in
    rw (c.in_ok-make_missing.ensures, c.in_ok-keep_blank.ensures) m.text_same_raw

pub returns : goal.returns
returns c =
    let p = c.args.self.now in
    let m = mixed_walk p.insertion_mode p.path p.maker c.args.blank.now c.args.rest.now c.requires.not_text c.requires.stands c.requires.kept.walk c.requires.room in
    let fresh = fresh_path p.insertion_mode p.path c.requires.stands c.requires.kept.fresh in
    let is = rw (c.in_ok-make_missing.ensures, c.in_ok-keep_blank.ensures) at c.in_ok-text.ensures.ok in
    record {
      kept = record { walk = rw (is, fresh) m.walk; fresh = rw fresh (fresh_body p.insertion_mode p.path c.requires.stands c.requires.kept.fresh) };
      walk = is ∙ m.grows;
      insertion_mode = refl;
      path = fresh;
      drops = refl;
      inner = refl;
      last = refl;
    }
