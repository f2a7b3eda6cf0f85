use Rattle.std.proofs.Common.{◌∙◌, ap, sym}
use Rattle.hm_graph_laws.specs.States.{nothing}
use Rattle.hm_graph_laws.specs.Steps.{unless}
use Rattle.hm_edges.proofs.steps.after_hash.Goals as goal

pub returns : goal.returns
returns c = λ v. (rw (sym c.is_x.ensures ∙ c.if-is_x.false) ((c.unless.ensures v).0 ∙ ap (λ b. unless b nothing) c.is_digit.ensures), (c.unless.ensures v).1)
