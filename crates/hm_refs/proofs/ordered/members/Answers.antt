use Rattle.std.proofs.Common.{◌≡◌, ◌-◌, ◌∷◌, length, true, Some, None, sym, arith, rules}
use Rattle.json.specs.Token.{Token}
use Rattle.json.specs.Json.{read_key}
use Rattle.json.proofs.Grammar.{read_key-shorter}
use Rattle.serde_json.specs.Data.{no_members, put}
use Rattle.hm_refs.specs.Names.{is_good_name}
use Rattle.hm_refs.specs.Tables.{points_list}
use Rattle.hm_refs.specs.Json.{and_entry}
use Rattle.hm_refs.specs.Nodes.{entries_of}
use Rattle.hm_refs.specs.Ordered.{IsBefore}
use Rattle.hm_refs.proofs.ByTokens.{begins_shorter, entries_and_one, no_entries, no_more, object_begins, one_more, under_and_one}
use Rattle.hm_refs.proofs.ordered.members.Goals as goal

pub loop-names-init : goal.loop-names-init
loop-names-init c = (length c.next.new.self, no_members, omega arith, λ all new a. a, rw c.new-names.ensures.items no_entries, λ k h. tt)

pub loop-names-smaller : goal.loop-names-smaller
loop-names-smaller c =
    let named : read_key c.loop-names.reader ≡ Some (Some c.in-Some.key.now, c.next_key.new.self) = grind arith in
    let e = c.in_ok-points.ensures in
    omega (arith, read_key-shorter _ _ _ named, begins_shorter 126 _ _ e.0 e.1)

pub loop-names-preserved : goal.loop-names-preserved
loop-names-preserved c =
    let i = c.loop-names.invariant in
    let key = c.in-Some.key.now in
    let named : read_key c.loop-names.reader ≡ Some (Some key, c.next_key.new.self) = grind arith in
    let e = c.in_ok-points.ensures in
    let less = read_key-shorter _ _ _ named in
    let lesser = begins_shorter 126 _ _ e.0 e.1 in
    let before : IsBefore c.loop-names.previous.now key = search rules in
    let good : is_good_name key ≡ true = search rules in
    let pushed : entries_of c.add_name.new.names.items ≡ and_entry (entries_of c.loop-names.names.items) key (points_list c.in_ok-points.points) = search rules in
    let under = i.5 key before in (
      i.0 - 1,
      put key e.0 i.1,
      omega (arith, less, lesser, i.2),
      λ all new a. i.3 all new (one_more 126 i.0 i.1 key e.0 _ _ _ all new (omega (arith, less, i.2)) named e.1 a),
      rw pushed (entries_and_one key _ e.0 i.1 _ i.4 under good e.2),
      λ k h. under_and_one key k e.0 i.1 under (rw (sym c.as_bytes-name.ensures.value) h),
    )

pub returns : goal.returns
returns c =
    let first : c.args.reader.now ≡ Token.begin_object ∷ c.next.new.self = grind arith in
    let last : read_key c.loop-names.reader ≡ Some (None, c.next_key.new.self) = grind arith in
    let i = c.loop-names.invariant in
    let all = i.3 i.1 _ (no_more 126 i.0 i.1 _ _ i.2 last) in
    (i.1, object_begins 127 _ _ _ i.1 first (omega arith) all, i.4)
