use Rattle.hm_refs.proofs.Growing.{length_entries}
use Rattle.std.proofs.Common.{◌<◌, length, ap, arith}
use Rattle.hm_refs.proofs.LoneLaws.{lone_end, lone_here, lone_later}
use Rattle.hm_refs.proofs.trie.Trie.first_lone.Goals as goal

pub returns-then-is_lone-clause-found : goal.returns-then-is_lone-clause-found
returns-then-is_lone-clause-found c =
    let t = c.args.self.now.entries in
    let inside : c.loop-number.number < length t = omega (arith, c.loop-number-test.true, c.len-number-end.ensures, c.self.inside.names.ok.0, length_entries c.self.inside.names.items, ap (λ v. length v.entries) c.self.view_is) in
    lone_here t c.loop-number.number c.new-id.result inside c.new-id.ensures c.if-is_lone.ensures c.loop-number.invariant

pub loop-number-preserved : goal.loop-number-preserved
loop-number-preserved c =
    let t = c.args.self.now.entries in
    let inside : c.loop-number.number < length t = omega (arith, c.loop-number-test.true, c.len-number-end.ensures, c.self.inside.names.ok.0, length_entries c.self.inside.names.items, ap (λ v. length v.entries) c.self.view_is) in
    lone_later t c.loop-number.number c.new-id.result inside c.new-id.ensures c.if-is_lone.ensures c.loop-number.invariant

pub returns-clause-found : goal.returns-clause-found
returns-clause-found c =
    lone_end c.args.self.now.entries c.loop-number.number
    (omega (arith, c.loop-number-test.false, c.len-number-end.ensures, c.self.inside.names.ok.0, length_entries c.self.inside.names.items, ap (λ v. length v.entries) c.self.view_is)) c.loop-number.invariant
