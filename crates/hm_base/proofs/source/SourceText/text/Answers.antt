use Rattle.std.proofs.Common.{length, map, sym, arith, ◌∙◌, ap}
use Rattle.std.specs.String.{string_bytes}
use Rattle.hm_base.specs.Source.{Source, byte_of}
use Rattle.hm_base.proofs.Places.{source_from-bytes, source_from-length, source_from-end}
use Rattle.hm_base.proofs.source.SourceText.text.Goals as goal

pub returns-clause-bytes : goal.returns-clause-bytes
returns-clause-bytes c =
    let s = c.self.inside in
    c.as_str.ensures.value ∙ sym (source_from-bytes s.start s.pairs.items (string_bytes s.text)) ∙ ap (λ (v : Source). map byte_of v.placed) c.self.view_is

pub returns-clause-len : goal.returns-clause-len
returns-clause-len c =
    let s = c.self.inside in
    ap length c.as_str.ensures.value ∙ sym (source_from-length s.start s.pairs.items (string_bytes s.text)) ∙ ap (λ (v : Source). length v.placed) c.self.view_is

pub returns-clause-within : goal.returns-clause-within
returns-clause-within c =
    let s = c.self.inside in
    omega (arith, ap length c.as_str.ensures.value, source_from-end s.start s.pairs.items (string_bytes s.text), ap (λ (v : Source). v.end) c.self.view_is)

pub returns-clause-short : goal.returns-clause-short
returns-clause-short c =
    let s = c.self.inside in
    omega (arith, c.self.invariant.short, source_from-end s.start s.pairs.items (string_bytes s.text), ap (λ (v : Source). v.end) c.self.view_is)
