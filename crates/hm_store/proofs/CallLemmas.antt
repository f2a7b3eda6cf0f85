-- The set of listed calls, by the keys of the tree that holds them.
use Rattle.std.proofs.Common.{◌≡◌, ℕ, Bool, true, false, cond, ◌||◌, refl, sym, ap, ◌∙◌}
use Rattle.std.specs.Ordering.{nat_cmp, eq_by_cmp}
use Rattle.std.specs.Cmp.{nat_cmp_total, eq_by_cmp_equiv}
use Rattle.std.specs.BTreeSet as tree
use Rattle.std.specs.BTreeSet.{BTreeSet}
use Rattle.std.specs.FinSet as set
use Rattle.hm_store.specs.Calls.{CallLog, with_listed, fails_next}
use Rattle.hm_store.specs.Causes.{one_more}
use Rattle.std.specs.FinSet.{same_set, contains-from_list, contains-insert, nat_cmp-IsAntisymmetric}

pub contains-keys : (s : BTreeSet ℕ) (q : ℕ) → set.contains (set.from_list {R = nat_cmp} s.keys) q ≡ tree.contains nat_cmp s q
contains-keys s q = contains-from_list nat_cmp_total s.keys q

or_by_cond : (b c : Bool) → cond b true c ≡ (b || c)
or_by_cond true c = refl
or_by_cond false c = refl

pub from_list-inserted : (s n : BTreeSet ℕ) (k : ℕ) → tree.Updates nat_cmp s n k true → set.from_list {R = nat_cmp} n.keys ≡ set.insert (set.from_list s.keys) k
from_list-inserted s n k u = same_set nat_cmp_total nat_cmp-IsAntisymmetric _ _ (λ q.
    contains-keys n q
    ∙ u.0 q
    ∙ or_by_cond (eq_by_cmp nat_cmp k q) (tree.contains nat_cmp s q)
    ∙ ap (λ b. b || tree.contains nat_cmp s q) ((eq_by_cmp_equiv nat_cmp_total).symm k q)
    ∙ ap (λ b. eq_by_cmp nat_cmp q k || b) (sym (contains-keys s q))
    ∙ sym (contains-insert nat_cmp_total (set.from_list s.keys) k q))

abbrev pub log_of : BTreeSet ℕ → ℕ → ℕ → CallLog
log_of s made faults = record { listed = set.from_list s.keys; made = made; faults = faults }

pub log-inserted : (s n : BTreeSet ℕ) (made faults k : ℕ) (log : CallLog) → log_of s made faults ≡ log → tree.Updates nat_cmp s n k true → log_of n made faults ≡ with_listed log k
log-inserted s n made faults k log is u =
    let P : set.FinSet nat_cmp → CallLog = λ l. record { listed = l; made = made; faults = faults } in
    ap P (from_list-inserted s n k u) ∙ ap (λ l. with_listed l k) is

pub fails_next-by_keys : (s : BTreeSet ℕ) (made faults number : ℕ) (log : CallLog) → log_of s made faults ≡ log → number ≡ one_more made → tree.contains nat_cmp s number ≡ fails_next log
fails_next-by_keys s made faults number log is n = sym (contains-keys s number) ∙ ap (set.contains (set.from_list s.keys)) n ∙ ap fails_next is
