use Rattle.std.proofs.Common.{◌+◌, ◌-◌, ◌^◌, ◌<◌, ◌≤◌, length, vec_len, vec_capacity, string_bytes}
use Rattle.hm_tree.specs.Pieces.{texts_of}
use Rattle.hm_tree.proofs.PairLemmas.{AreAppended}
use Rattle.hm_tree.proofs.appended.append_pairs.Given as goal

abbrev pub invariant-loop-pair : goal.invariant-loop-pair
invariant-loop-pair l =
    (vec_len l.attributes + (length l.pair-items - l.pair-index) ≤ vec_capacity l.attributes) × (length l.attributes.items + (length l.pair-items - l.pair-index) < 2 ^ 32)
    × AreAppended (string_bytes l.fn.text) (texts_of l.attrs) l.fn.attributes.items l.attributes.items l.pair-items l.pair-index
