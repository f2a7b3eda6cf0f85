use Rattle.std.proofs.Common.{ap, refl, ◌∙◌}
use Rattle.hm_open_elements.specs.declared.element.ScopeFlags.{ScopeFlags}
use Rattle.hm_open_elements.proofs.Nested.{last_name}
use Rattle.hm_open_elements.proofs.element.ScopeFlags.is_unnested_open.Goals as goal

pub returns-in_default : goal.returns-in_default
returns-in_default c = λ path h. ap (λ (k : ScopeFlags). k.nobr) h ∙ rw (last_name c.args.name.now c.requires c.in_default.not-a c.in_default.not-button c.in_default.not-form) refl
