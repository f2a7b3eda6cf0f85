use Rattle.std.proofs.Common.{◌≡◌, ◌+◌, ◌-◌, length, set, string_bytes, sym, ap, ◌∙◌, refl, arith, rules}
use Rattle.std.proofs.lemmas.Bool.{false≢true}
use Rattle.std.proofs.lemmas.List.{length-map}
use Rattle.hm_tree.specs.Rows.{event_at, extended}
use Rattle.hm_tree.proofs.LastLemmas.{some_last, last_is_other, IsTableOf-extended}
use Rattle.hm_tree.proofs.TableLemmas.{IsTableOf, longer}
use Rattle.hm_tree.proofs.rows.Rows.extend_text.Goals as goal

pub unreachable-requires : goal.unreachable-requires
unreachable-requires c =
    let rows = c.self.inside.rows.items in
    let some = some_last c.args.self.now c.requires.ends in
    let last : (c.len-last.result - 1) + 1 ≡ length rows =
    omega (arith, some, ap length c.self.view_is, length-map rows (λ r. event_at (string_bytes c.self.inside.text) c.self.inside.attributes.items r.part), c.len-last.ensures, c.self.inside.rows.ok.0) in
    let other = last_is_other (string_bytes c.self.inside.text) c.self.inside.attributes.items rows c.args.self.now c.self.view_is (c.len-last.result - 1) c.index-row.result.now last c.index-row.ensures c.in_default.not-Text in
    false≢true (sym other ∙ c.requires.ends)

extends : (c : goal.After-self-1)
    → IsTableOf (string_bytes c.push_str.new.self) c.self.inside.attributes.items
    (set c.self.inside.rows.items (c.len-last.result - 1) (longer c.index-row.result.now (record { from = c.in-Text.text.from; to = c.len.result }) c.in-Text.raw)) (extended c.args.self.now c.args.more.now)
extends c =
    let rows = c.self.inside.rows.items in
    let some = some_last c.args.self.now c.requires.ends in
    let last : (c.len-last.result - 1) + 1 ≡ length rows =
    omega (arith, some, ap length c.self.view_is, length-map rows (λ r. event_at (string_bytes c.self.inside.text) c.self.inside.attributes.items r.part), c.len-last.ensures, c.self.inside.rows.ok.0) in
    let to : c.len.result ≡ length (string_bytes c.push_str.new.self) = search rules in
    IsTableOf-extended (string_bytes c.self.inside.text) c.self.inside.attributes.items rows c.args.self.now c.self.view_is (c.len-last.result - 1) c.index-row.result.now last c.index-row.ensures
    c.args.more.now (string_bytes c.push_str.new.self) c.in-Text.text (record { from = c.in-Text.text.from; to = c.len.result }) c.in-Text.raw
    (sym c.in_ok-push_str.ensures.bytes) c.self.invariant c.in-Text.is c.utf8.more c.requires.bytes refl to

pub invariant_of-self-2 : goal.invariant_of-self-2
invariant_of-self-2 c = (extends c).0

pub returns-clause-ok : goal.returns-clause-ok
returns-clause-ok c = (extends c).1
