use Rattle.std.proofs.Common.{length, sym}
use Rattle.std.proofs.lemmas.Bool.Decides.{Decides-eqb}
use Rattle.std.proofs.lemmas.List.{nil_from_length}
use Rattle.hm_check.proofs.followed.graph_followed.Goals as goal

pub returns-then-is_empty-clause-way : goal.returns-then-is_empty-clause-way
returns-then-is_empty-clause-way c =
    let rest = c.in-Ok.way.rest.now in
    c.in-Ok.ensures.goes_on c.in-Ok.way (nil_from_length rest ((Decides-eqb (length rest) 0).0 (sym c.if-is_empty.ensures)))
