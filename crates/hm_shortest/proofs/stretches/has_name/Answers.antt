use Rattle.std.proofs.Common.{length, refl, subst, sym}
use Rattle.hm_edges.specs.Pieces.{HasName}
use Rattle.hm_refs.proofs.FirstsLaws.{places_are_inside}
use Rattle.hm_shortest.proofs.stretches.has_name.Goals as goal

pub returns-in-Some : goal.returns-in-Some
returns-in-Some c = λ among.
    let t = c.args.table.now.entries in
    subst (HasName t) (sym c.in-Name.is) (c.is_among.ensures (length t) among (places_are_inside c.in-Some.c t (length t) c.names_for.result.now refl c.names_for.ensures))
