use Rattle.std.proofs.Common.{arith, ◌∙◌, ap}
use Rattle.std.specs.String.{string_bytes}
use Rattle.hm_base.specs.Source.{Source}
use Rattle.hm_base.specs.Places.{with_bytes}
use Rattle.hm_base.proofs.Places.{source_from-append, IsSourceText-append}
use Rattle.hm_base.proofs.source.SourceText.push_bytes.Goals as goal

pub invariant_of-self-2 : goal.invariant_of-self-2
invariant_of-self-2 c =
    let s = c.self.inside in
    rw c.in_ok-push_str.ensures.bytes (IsSourceText-append s.start s.pairs.items (string_bytes s.text) c.args.bytes.now c.self.invariant c.requires.plain (omega (arith, ap (λ (v : Source). v.end) c.self.view_is)))

pub returns : goal.returns
returns c =
    let s = c.self.inside in
    rw c.in_ok-push_str.ensures.bytes (source_from-append s.start s.pairs.items (string_bytes s.text) c.args.bytes.now c.self.invariant.inside ∙ ap (λ v. with_bytes v c.args.bytes.now) c.self.view_is)
