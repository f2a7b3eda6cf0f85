use Rattle.std.proofs.Common.{[], ◌∷◌, ◌++◌, map, ap, ◌∙◌, arith}
use Rattle.hm_cert.specs.Layout.{told}
use Rattle.hm_cert.proofs.Rows.{pushed}
use Rattle.hm_cert.proofs.prices.Prices.push_row.Goals as goal

pub invariant_of-self-in-Ok : goal.invariant_of-self-in-Ok
invariant_of-self-in-Ok c =
    (pushed c.self.inside.numbers.items c.args.row.now c.extend_from_slice.new.self.items c.self.inside.ends.items c.push.new.self.items c.len.result c.self.invariant c.in_ok-extend_from_slice.ensures.items (omega (arith, c.len.ensures, c.extend_from_slice.new.self.ok.0)) c.in-Ok.ensures.items).0

pub returns-in-Ok-clause-ok : goal.returns-in-Ok-clause-ok
returns-in-Ok-clause-ok c =
    (pushed c.self.inside.numbers.items c.args.row.now c.extend_from_slice.new.self.items c.self.inside.ends.items c.push.new.self.items c.len.result c.self.invariant c.in_ok-extend_from_slice.ensures.items (omega (arith, c.len.ensures, c.extend_from_slice.new.self.ok.0)) c.in-Ok.ensures.items).1
    ∙ ap (λ rows. rows ++ map told c.args.row.now ∷ []) c.self.view_is
