use Rattle.hm_edges.proofs.characters.add_pairs.Goals as goal

pub returns-in-Some : goal.returns-in-Some
returns-in-Some c = λ u. rw c.in-Some.is (c.add_names.ensures u)
