use Rattle.std.proofs.Common.{◌≡◌, ◌∙◌, arith, sym}
use Rattle.std.proofs.lemmas.Bool.Decides.{Decides-eqb}
use Rattle.std.proofs.lemmas.List.{nil_from_length}
use Rattle.std.specs.Vec.{vec_len}
use Rattle.hm_event_parts.specs.UnitText.{own_text}
use Rattle.hm_shortest.proofs.Directly.{put_on}
use Rattle.hm_shortest.proofs.direct.DirectWay.put_or_keep.Goals as goal

pub returns-then-hop-eq0-clause-goes : goal.returns-then-hop-eq0-clause-goes
returns-then-hop-eq0-clause-goes c =
    let kept = c.args.self.now.stretch.items in
    let none : vec_len c.args.self.now.stretch ≡ 0 = (Decides-eqb (vec_len c.args.self.now.stretch) 0).0 (sym c.if-is_empty.ensures) in
    put_on c.args.table.now.entries c.args.step.now (own_text c.args.own) c.in-Some.hop c.args.self.now c.put.new.self (nil_from_length kept (omega (arith, none, c.args.self.now.stretch.ok.0))) c.in_ok-put.ensures.stretch (sym c.only.ensures ∙ c.in-Some.is)
    c.if-hop-eq0.true c.in_ok-put.ensures.place
