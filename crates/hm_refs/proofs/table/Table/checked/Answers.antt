use Rattle.std.proofs.Common.{◌≡◌, ◌≤◌, List, length, None, sym, subst, arith}
use Rattle.hm_refs.specs.declared.limits.TheConstants.{NAMES_LIMIT}
use Rattle.hm_refs.specs.Json.{least_crowded, first_lone}
use Rattle.hm_refs.specs.Nodes.{entries_of}
use Rattle.hm_refs.specs.Firsts.{IsIndex}
use Rattle.hm_refs.specs.Flags.{IsFlagged}
use Rattle.hm_refs.specs.declared.nodes.ReferenceName.{ReferenceName}
use Rattle.hm_refs.proofs.Gathered.{gathered_names, table_of}
use Rattle.hm_refs.proofs.Growing.{length_entries}
use Rattle.hm_refs.proofs.table.Table.checked.Goals as goal

pub new-requires : goal.new-requires
new-requires c = gathered_names (entries_of c.args.names.items) c.requires (omega (arith, length_entries c.args.names.items))

pub invariant_of-result : goal.invariant_of-result
invariant_of-result c =
    let l : length (entries_of c.args.names.items) ≤ NAMES_LIMIT = omega (arith, length_entries c.args.names.items) in
    let crowded : least_crowded (entries_of c.args.names.items) (entries_of c.args.names.items) ≡ None = subst (λ (ns : List ReferenceName). least_crowded (entries_of ns) (entries_of ns) ≡ None) c.deref-2.ensures.value (sym c.in_default.ensures) in
    let lone : first_lone (entries_of c.args.names.items) (entries_of c.args.names.items) ≡ None = subst (λ t. first_lone t t ≡ None) c.in_ok-trie.ensures (sym c.in_default-first_lone.ensures.found) in
    let index : IsIndex (entries_of c.args.names.items) c.in_ok-firsts.firsts = subst (λ (ns : List ReferenceName). IsIndex (entries_of ns) c.in_ok-firsts.firsts) c.deref.ensures.value c.in_ok-firsts.ensures in
    let flags : IsFlagged (entries_of c.args.names.items) c.plain_flags-plain.result = subst (λ (ns : List ReferenceName). IsFlagged (entries_of ns) c.plain_flags-plain.result) c.deref-3.ensures.value c.plain_flags-plain.ensures in
    rw c.in_ok-trie.ensures (table_of (entries_of c.args.names.items) c.requires l crowded lone, index, flags)
