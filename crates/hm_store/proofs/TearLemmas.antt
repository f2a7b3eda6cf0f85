-- The table of torn puts, by the entries of the tree that holds them, and what a torn put appends.
use Rattle.std.proofs.Common.{◌≡◌, ℕ, ◌⊎◌, inl, inr, List, ◌++◌, length, take, Some, None, cond, refl, sym, ap, ◌∙◌, arith, append-nil}
use Rattle.std.proofs.lemmas.List.{take_all}
use Rattle.std.specs.declared.option.Option.{Option}
use Rattle.std.specs.declared.result.Result.{Result}
use Rattle.std.specs.declared.result.Result.TheVariants.{Ok, Err}
use Rattle.std.specs.Result.{OnErr}
use Rattle.std.specs.Ordering.{nat_cmp, eq_by_cmp}
use Rattle.std.specs.Cmp.{nat_cmp_total, eq_by_cmp_equiv}
use Rattle.std.specs.BTreeMap as tree
use Rattle.std.specs.BTreeMap.{BTreeMap}
use Rattle.std.specs.FinMap as finmap
use Rattle.std.specs.FinMap.{find, same_map, get-insert, get-from_entries, nat_cmp-IsAntisymmetric}
use Rattle.hm_store.specs.Files.{FileMap, content, PutsFront, AppendsFront}
use Rattle.hm_store.specs.Tears.{TearLog, with_tear, tear_next, front_of}
use Rattle.hm_store.specs.Causes.{one_more}

found : (q : ℕ) (m : BTreeMap ℕ ℕ) → find nat_cmp q m.entries ≡ tree.get nat_cmp m q
found q m = refl

get-listed : (m : BTreeMap ℕ ℕ) (q : ℕ) → finmap.get (finmap.from_entries {R = nat_cmp} m.entries) q ≡ tree.get nat_cmp m q
get-listed m q = get-from_entries nat_cmp_total m.entries q ∙ found q m

pub from_entries-inserted : (m n : BTreeMap ℕ ℕ) (k v : ℕ) → tree.Updates nat_cmp m n k (Some v) → finmap.from_entries {R = nat_cmp} n.entries ≡ finmap.insert (finmap.from_entries m.entries) k v
from_entries-inserted m n k v u = same_map nat_cmp_total nat_cmp-IsAntisymmetric _ _ (λ q.
    get-listed n q
    ∙ u.0 q
    ∙ ap (λ b. cond b (Some v) (tree.get nat_cmp m q)) ((eq_by_cmp_equiv nat_cmp_total).symm k q)
    ∙ ap (cond (eq_by_cmp nat_cmp q k) (Some v)) (sym (get-listed m q))
    ∙ sym (get-insert nat_cmp_total (finmap.from_entries m.entries) k v q))

abbrev log_of : BTreeMap ℕ ℕ → ℕ → TearLog
log_of m puts = record { listed = finmap.from_entries m.entries; puts = puts }

pub log-inserted : (m n : BTreeMap ℕ ℕ) (puts k v : ℕ) (log : TearLog) → log_of m puts ≡ log → tree.Updates nat_cmp m n k (Some v) → log_of n puts ≡ with_tear log k v
log-inserted m n puts k v log is u =
    ap (λ l. record { listed = l; puts = puts }) (from_entries-inserted m n k v u) ∙ ap (λ l. with_tear l k v) is

pub tear_next-by_entries : (m : BTreeMap ℕ ℕ) (puts number : ℕ) (log : TearLog) → log_of m puts ≡ log → number ≡ one_more puts → tree.get nat_cmp m number ≡ tear_next log
tear_next-by_entries m puts number log is n = sym (get-listed m number) ∙ ap (finmap.get (finmap.from_entries m.entries)) n ∙ ap tear_next is

-- what a torn put appends is a prefix of its bytes
front_taken : (torn : Option ℕ) (bytes : List ℕ) → (taken : ℕ) × (front_of torn bytes ≡ take taken bytes)
front_taken (Some count) bytes = (count, refl)
front_taken None bytes = (length bytes, sym (take_all (length bytes) bytes (omega arith)))

pub puts_torn : {T E : Type 0} (result : Result T E) (files new : FileMap) (target bytes : List ℕ) (torn : Option ℕ)
    → OnErr result ((new ≡ files) ⊎ (new ≡ finmap.insert files target (content files target ++ front_of torn bytes)))
    → OnErr result ((Some new ≡ Some files) ⊎ PutsFront (Some files) (Some new) target bytes)
puts_torn (Ok x) files new target bytes torn is = tt
puts_torn (Err x) files new target bytes torn (inl same) = inl (ap Some same)
puts_torn (Err x) files new target bytes torn (inr more) =
    let front = front_taken torn bytes in
    inr (record { taken = front.0; files = ap Some (more ∙ ap (λ b. finmap.insert files target (content files target ++ b)) front.1) })

pub appends_torn : {T E : Type 0} (result : Result T E) (old new bytes : List ℕ) (torn : Option ℕ)
    → OnErr result ((new ≡ old) ⊎ (new ≡ old ++ front_of torn bytes)) → OnErr result (AppendsFront (Some old) (Some new) bytes)
appends_torn (Ok x) old new bytes torn is = tt
appends_torn (Err x) old new bytes torn (inl same) = record { taken = 0; bytes_are = ap Some (same ∙ sym (append-nil old)) }
appends_torn (Err x) old new bytes torn (inr more) =
    let front = front_taken torn bytes in
    record { taken = front.0; bytes_are = ap Some (more ∙ ap (λ b. old ++ b) front.1) }
