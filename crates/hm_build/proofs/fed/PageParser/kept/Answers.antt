use Rattle.std.proofs.Common.{length, ap, ◌∙◌}
use Rattle.hm_base.specs.Source.{Source}
use Rattle.hm_build.specs.Feeding.{Feeding}
use Rattle.hm_build.proofs.Builders.{kept_is}
use Rattle.hm_build.proofs.fed.PageParser.kept.Goals as goal

pub returns : goal.returns
returns c = λ fed h. c.text.ensures.len ∙ ap (λ (v : Source). length v.placed) c.source.ensures ∙ ap (λ (f : Feeding). length f.pieces.source.placed) c.self.view_is ∙ kept_is c.args.self.now fed h
