use Rattle.hm_graph.proofs.Layers.{hop_made}
use Rattle.hm_graph.proofs.layer.hop_of.Goals as goal

pub returns : goal.returns
returns c =
    hop_made c.args.table.now c.args.unit c.args.edge.now c.args.after.now.items c.place.new.states.items c.piece_len-len.result c.in_ok-to.to c.requires.edge c.piece_len-len.ensures.value c.piece_len-len.ensures.few (c.in_ok-to.ensures c.args.table.now c.requires.nodes c.requires.edge.nodes)
