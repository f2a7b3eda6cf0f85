-- What the checker computes of the table of numbers.
use Rattle.std.proofs.Common.{◌≡◌, ℕ, ◌<◌, get_or, nat_lt, true, List, drop, refl, lit<}
use Rattle.std.specs.List.{list_all}
use Rattle.hm_elements.specs.declared.names.TheConstants.{NAME_COUNT}
use Rattle.hm_elements.specs.declared.slots.TheConstants.{SLOTS}
use Rattle.hm_elements.specs.Numbers.{names, slot, number_at}
use Rattle.hm_elements.proofs.Places.{all_below, are_placed}

slots_below : list_all (λ x. nat_lt x NAME_COUNT) SLOTS ≡ true
slots_below = refl

pub number_at_below : (k : ℕ) → number_at k < NAME_COUNT
unfolding number_at
number_at_below k = all_below NAME_COUNT SLOTS k (lit< tt) slots_below

pub number_at_is : (xs : List ℕ) (k : ℕ) → xs ≡ SLOTS → get_or xs k 0 ≡ number_at k
unfolding number_at
number_at_is xs k e = rw e refl

abbrev pub number_by : List ℕ → ℕ
number_by n = number_at (slot n)

-- each name but the empty one stands at its hash
pub all_placed : are_placed number_by 1 (drop 1 names) ≡ true
unfolding names slot number_at
all_placed = refl
