use Rattle.std.proofs.Common.{◌<◌, ap, arith, length, subst}
use Rattle.hm_edges.specs.Pieces.{HasName}
use Rattle.hm_edges.proofs.NameLengths.{name_short}
use Rattle.hm_edges.proofs.lengths.piece_len.Goals as goal

pub returns-in-Name-clause-few : goal.returns-in-Name-clause-few
returns-in-Name-clause-few c =
    let inside : c.in-Name.id < length c.args.table.now.entries = subst (HasName c.args.table.now.entries) c.in-Name.is c.requires in
    omega (arith, name_short c.args.table.now.entries c.every_table.ensures.names c.in-Name.id inside, ap length c.name.ensures)
