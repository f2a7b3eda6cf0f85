use Rattle.hm_edges.proofs.Adding.{adds_one}
use Rattle.hm_edges.proofs.edges.add_closed.Goals as goal

pub returns-in-InUnquoted : goal.returns-in-InUnquoted
returns-in-InUnquoted c = λ v. rw c.in-InUnquoted.is (adds_one _ _ _ _ _ _ c.add.ensures (record { name = tt; nodes = tt }))

pub returns-in-InDouble : goal.returns-in-InDouble
returns-in-InDouble c = λ v. rw c.in-InDouble.is (adds_one _ _ _ _ _ _ c.add-in-InDouble.ensures (record { name = tt; nodes = tt }))

pub returns-in-InSingle : goal.returns-in-InSingle
returns-in-InSingle c = λ v. rw c.in-InSingle.is (adds_one _ _ _ _ _ _ c.add-in-InSingle.ensures (record { name = tt; nodes = tt }))
