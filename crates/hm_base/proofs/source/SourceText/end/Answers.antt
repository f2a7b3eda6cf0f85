use Rattle.std.proofs.Common.{arith, ap}
use Rattle.std.specs.String.{string_bytes}
use Rattle.hm_base.specs.Source.{Source}
use Rattle.hm_base.proofs.Places.{source_from-end}
use Rattle.hm_base.proofs.source.SourceText.end.Goals as goal

pub returns : goal.returns
returns c =
    let s = c.self.inside in
    omega (arith, source_from-end s.start s.pairs.items (string_bytes s.text), ap (λ (v : Source). v.end) c.self.view_is, c.len.ensures, c.len-2.ensures)
