use Rattle.std.proofs.Common.{◌∙◌, ap, option_map}
use Rattle.serde_json.specs.View.{members_view, view}
use Rattle.hm_refs.specs.Json.{and_entry}
use Rattle.hm_refs.specs.Nodes.{entries_of}
use Rattle.hm_refs.specs.Tables.{points_list}
use Rattle.hm_refs.specs.declared.fault.TableFault.TheVariants.{BadPoints}
use Rattle.hm_refs.proofs.ReadingLaws.{all_gathered, first_without, none_left, one_gathered}
use Rattle.hm_refs.proofs.reading.gather.Goals as goal

pub loop-key-preserved : goal.loop-key-preserved
loop-key-preserved c =
    let l = c.loop-key in
    one_gathered (entries_of l.names.items) (entries_of c.add_name.new.names.items) (members_view l.key-iterator) (members_view c.next.new.self) (members_view c.args.members.now.entries)
    _ (points_list c.in-Some-points_of.points) (view c.in-Some.value.now) (ap members_view c.in-Some.ensures.steps) c.in-Some-points_of.ensures
    (c.in_ok-add_name.ensures ∙ ap (λ k. and_entry (entries_of l.names.items) k (points_list c.in-Some-points_of.points)) c.as_str-in-loop-key.ensures.value) l.invariant

pub returns-clause-passed : goal.returns-clause-passed
returns-clause-passed c = none_left (entries_of c.loop-key.names.items) (members_view c.loop-key.key-iterator) (members_view c.args.members.now.entries) (ap members_view c.in-None.ensures.steps.0) c.loop-key.invariant

pub returns-clause-names : goal.returns-clause-names
returns-clause-names c = all_gathered (entries_of c.loop-key.names.items) (members_view c.loop-key.key-iterator) (members_view c.args.members.now.entries) (ap members_view c.in-None.ensures.steps.0) c.loop-key.invariant

pub returns-in_default-clause-fault : goal.returns-in_default-clause-fault
returns-in_default-clause-fault c = λ other.
    ap (option_map (λ k. BadPoints k))
    (first_without (entries_of c.loop-key.names.items) (members_view c.loop-key.key-iterator) (members_view c.next.new.self) (members_view c.args.members.now.entries) _ c.in_ok-key.key (view c.in-Some.value.now)
    (ap members_view c.in-Some.ensures.steps) c.in_default.ensures (c.in_ok-key.ensures ∙ c.as_str.ensures.value) c.loop-key.invariant)
