use Rattle.std.proofs.Common.{◌+◌, ◌≤◌, length, chars, take, drop, true, arith, sym, ap, subst}
use Rattle.std.proofs.Math.ListN.{replicate}
use Rattle.std.specs.List.{All}
use Rattle.hm_edges.specs.Units.{kind_of}
use Rattle.hm_graph.specs.Building.{AddsFront, IsBuilding, building}
use Rattle.hm_graph.specs.Interned.{Leads, made_at}
use Rattle.hm_graph.proofs.Built.{recorded_few}
use Rattle.hm_graph.proofs.Characters.{alike_made, lead_ascii, text_added}
use Rattle.hm_graph.proofs.building.GraphBuilder.add_alike.Goals as goal

pub keep_number-requires : goal.keep_number-requires
keep_number-requires c =
    recorded_few c.self.inside.interned c.self.inside.numbers c.self.inside.len c.self.inside.last c.alike-alike.result.count c.self.invariant (omega (arith, c.if-count-ge-LIMIT.false, c.if-self-count.false))

pub invariant_of-self-2 : goal.invariant_of-self-2
invariant_of-self-2 c =
    let own = c.self.inside in
    let text = c.args.text.now in
    let count = c.alike-alike.result.count in
    let to = c.alike-alike.result.to in
    let leads : All (Leads own.interned own.last c.args.kind true to) (take count text) = subst (λ b. All (Leads own.interned own.last c.args.kind true to) (take count b)) c.as_bytes.ensures.value c.alike-alike.ensures.leads in
    let added = text_added own.interned own.numbers own.len own.last c.args.kind to text count c.utf8.text (omega (arith, c.if-count-eq0.false)) (omega (arith, c.if-count-eq0.false, c.alike-alike.ensures.short (omega (arith, c.if-count-eq0.false)), ap length c.as_bytes.ensures.value)) c.alike-alike.ensures.back
    c.self.invariant leads (omega (arith, c.if-count-ge-LIMIT.false, c.if-self-count.false)) in
    subst (λ ns. IsBuilding own.interned ns (own.len + count) to.after) (sym c.in_ok-keep_number.ensures.ok) added.is

pub returns-clause-adds : goal.returns-clause-adds
returns-clause-adds c = λ some.
    let own = c.self.inside in
    let text = c.args.text.now in
    let count = c.alike-alike.result.count in
    let to = c.alike-alike.result.to in
    let leads : All (Leads own.interned own.last c.args.kind true to) (take count text) = subst (λ b. All (Leads own.interned own.last c.args.kind true to) (take count b)) c.as_bytes.ensures.value c.alike-alike.ensures.leads in
    let added = text_added own.interned own.numbers own.len own.last c.args.kind to text count c.utf8.text (omega (arith, c.if-count-eq0.false)) (omega (arith, c.if-count-eq0.false, c.alike-alike.ensures.short (omega (arith, c.if-count-eq0.false)), ap length c.as_bytes.ensures.value)) c.alike-alike.ensures.back
    c.self.invariant leads (omega (arith, c.if-count-ge-LIMIT.false, c.if-self-count.false)) in
    let kind = kind_of c.args.kind in
    let steps = replicate count (made_at own.interned to.number).step in
    subst (λ old. AddsFront old (building own.interned c.keep_number.new.numbers (own.len + count) to.after) kind (chars text) (chars (drop count text)) steps) c.self.view_is
    (subst (λ ns. AddsFront (building own.interned own.numbers own.len own.last) (building own.interned ns (own.len + count) to.after) kind (chars text) (chars (drop count text)) steps) (sym c.in_ok-keep_number.ensures.ok) added.front)

pub returns-clause-step : goal.returns-clause-step
returns-clause-step c = λ some.
    let own = c.self.inside in
    let text = c.args.text.now in
    let count = c.alike-alike.result.count in
    let to = c.alike-alike.result.to in
    let leads : All (Leads own.interned own.last c.args.kind true to) (take count text) = subst (λ b. All (Leads own.interned own.last c.args.kind true to) (take count b)) c.as_bytes.ensures.value c.alike-alike.ensures.leads in
    let inside : count ≤ length text = omega (arith, c.alike-alike.ensures.within, ap length c.as_bytes.ensures.value) in
    alike_made own.interned c.keep_number.new.numbers (own.len + count) own.last to.after c.args.kind to text count some inside leads

pub returns-clause-none : goal.returns-clause-none
returns-clause-none c = λ none. absurd (c.if-count-eq0.false none)

pub returns-clause-within : goal.returns-clause-within
returns-clause-within c = omega (arith, c.alike-alike.ensures.within, ap length c.as_bytes.ensures.value)

pub returns-clause-ascii : goal.returns-clause-ascii
returns-clause-ascii c =
    let own = c.self.inside in
    let front = take c.alike-alike.result.count c.args.text.now in
    lead_ascii own.interned own.last c.args.kind c.alike-alike.result.to front (subst (λ b. All (Leads own.interned own.last c.args.kind true c.alike-alike.result.to) (take c.alike-alike.result.count b)) c.as_bytes.ensures.value c.alike-alike.ensures.leads)
