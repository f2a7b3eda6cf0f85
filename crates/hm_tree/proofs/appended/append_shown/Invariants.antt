use Rattle.std.proofs.Common.{◌+◌, ◌-◌, ◌^◌, ◌<◌, ◌≤◌, take, drop, length, string_bytes, string_len, string_capacity, vec_len, vec_capacity}
use Rattle.hm_base.specs.Walks.{attributes_size}
use Rattle.hm_tree.specs.Views.{attributes_shown}
use Rattle.hm_tree.specs.Pieces.{IsAppended}
use Rattle.hm_tree.proofs.appended.append_shown.Given as goal

abbrev pub invariant-loop-i : goal.invariant-loop-i
invariant-loop-i l =
    (string_len l.text + attributes_size (drop l.i (attributes_shown l.attrs)) ≤ string_capacity l.text) × (length (string_bytes l.text) + attributes_size (drop l.i (attributes_shown l.attrs)) < 2 ^ 32)
    × (vec_len l.attributes + (length (attributes_shown l.attrs) - l.i) ≤ vec_capacity l.attributes) × (length l.attributes.items + (length (attributes_shown l.attrs) - l.i) < 2 ^ 32)
    × IsAppended (string_bytes l.initial.text) l.initial.attributes.items (take l.i (attributes_shown l.attrs)) (string_bytes l.text) l.attributes.items
