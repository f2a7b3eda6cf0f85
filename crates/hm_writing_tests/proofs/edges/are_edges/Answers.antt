use Rattle.hm_writing_tests.proofs.edges.are_edges.Goals as goal

pub has_edges-requires : goal.has_edges-requires
has_edges-requires c = c.requires _
