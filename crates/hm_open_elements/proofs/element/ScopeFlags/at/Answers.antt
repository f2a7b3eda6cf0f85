use Rattle.std.proofs.Common.{◌≡◌, ◌||◌, ◌∙◌, refl, sym, ap}
use Rattle.hm_elements.specs.declared.kind.Kind.{Kind}
use Rattle.hm_elements.specs.Tables.{is_heading}
use Rattle.hm_open_elements.proofs.element.ScopeFlags.at.Goals as goal
use Rattle.hm_open_elements.proofs.element.ScopeFlags.at.Goals.{then-kind, else-kind}

pub returns : goal.returns
returns c =
    let known : c.kind-kind.result.now.heading ≡ is_heading c.args.name.name.now = ap (λ (k : Kind). k.heading) c.kind-kind.ensures in
    let heading : c.if-kind.result ≡ is_heading c.args.name.name.now || c.args.self.now.heading =
    elim c.if-kind.branch [
      | then-kind w ↦ w.result-is ∙ w.if-kind.true ∙ rw (sym known ∙ w.if-kind.true) refl
      | else-kind w ↦ w.result-is ∙ rw (sym known ∙ w.if-kind.false) refl
    ] in
    λ path h. rw (c.is_paragraph_open.ensures, heading, c.is_open.ensures, c.is_open-2.ensures, c.is_open-3.ensures, c.is_open-4.ensures, c.kind-kind.ensures, c.holds_text.ensures, h) refl
