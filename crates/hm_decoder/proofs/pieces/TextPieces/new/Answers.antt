use Rattle.std.proofs.Common.{[], refl, ap, ◌∙◌, arith}
use Rattle.hm_base.specs.Source.{Source}
use Rattle.hm_base.proofs.Page.{source_from_start}
use Rattle.hm_decoder.proofs.Feeding.{begins}
use Rattle.hm_decoder.proofs.pieces.TextPieces.new.Goals as goal

pub invariant_of-result : goal.invariant_of-result
invariant_of-result c =
    let first = c.empty.ensures ∙ source_from_start 0 [] [] refl refl in
    record {
      within = λ e f. omega (arith, ap (λ (v : Source). v.end) first, c.new.ensures.len);
      counted = omega arith;
      short = c.requires;
    }

pub returns-clause-fed : goal.returns-clause-fed
returns-clause-fed c = begins _ (c.empty.ensures ∙ source_from_start 0 [] [] refl refl) c.new.ensures.items refl refl
