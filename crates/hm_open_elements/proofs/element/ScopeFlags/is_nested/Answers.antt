use Rattle.std.proofs.Common.{◌≡◌, ◌∙◌, sym, ap, true, false}
use Rattle.hm_elements.specs.declared.kind.Kind.{Kind}
use Rattle.hm_elements.specs.Tables.{is_unnested}
use Rattle.hm_open_elements.proofs.Nested.{nested_in_own_name, nested_heading}
use Rattle.hm_open_elements.proofs.element.ScopeFlags.is_nested.Goals as goal

pub returns-then-kind : goal.returns-then-kind
returns-then-kind c =
    let n = c.args.name.name.now in
    let unnested : is_unnested n ≡ true = sym (ap (λ (k : Kind). k.unnested) c.kind-kind.ensures) ∙ c.if-kind.true in
    λ path h. rw c.name.ensures at (c.is_unnested_open.ensures path h) ∙ nested_in_own_name n path unnested

pub returns-then-self : goal.returns-then-self
returns-then-self c =
    let n = c.args.name.name.now in
    let other : is_unnested n ≡ false = sym (ap (λ (k : Kind). k.unnested) c.kind-kind.ensures) ∙ c.if-kind.false in
    λ path h. ap (λ (k : Kind). k.heading) c.kind-kind.ensures ∙ rw c.if-self.true at (nested_heading n c.args.self.now path other h)

pub returns-else-self : goal.returns-else-self
returns-else-self c =
    let n = c.args.name.name.now in
    let other : is_unnested n ≡ false = sym (ap (λ (k : Kind). k.unnested) c.kind-kind.ensures) ∙ c.if-kind.false in
    λ path h. c.if-self.false ∙ rw c.if-self.false at (nested_heading n c.args.self.now path other h)
