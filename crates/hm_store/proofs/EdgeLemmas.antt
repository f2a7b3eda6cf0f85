-- What the edge to the system says of its calls, where no content is known.
use Rattle.std.proofs.Common.{◌≡◌, ◌↔◌, ℕ, List, Bool, true, false, None, refl, IsTrue, IfOk, is_ok}
use Rattle.std.specs.declared.option.Option.{Option}
use Rattle.std.specs.declared.result.Result.{Result}
use Rattle.std.specs.declared.result.Result.TheVariants.{Ok, Err}
use Rattle.std.specs.Result.{OnOk, OnErr}
use Rattle.hm_store.specs.Files.{Opens, Pulls}

pub opened : {E : Type 0} (r : Result Bool E) (reading : Bool) → reading ≡ is_ok r → IfOk r (λ found. IsTrue found) → (reading ≡ true) ↔ (r ≡ Ok true)
opened (Ok true) reading e found = (λ _. refl, λ _. e)
opened (Ok false) reading e found = absurd (cc)
opened (Err x) reading e found = (λ t. absurd (cc), λ o. absurd (cc))

pub never_absent : {E : Type 0} (r : Result Bool E) {P : Type 0} → IfOk r (λ found. IsTrue found) → r ≡ Ok false → P
never_absent (Ok true) found e = absurd (cc)
never_absent (Ok false) found e = absurd (cc)
never_absent (Err x) found e = absurd (cc)

pub none_opens : {E : Type 0} (name : List ℕ) (r : Result Bool E) → Opens None name r None
none_opens name (Ok found) = λ _. (refl, λ told. told)
none_opens name (Err x) = tt

abbrev pub untold : Option (List ℕ)
untold = None

pub none_pulls : {E : Type 0} (r : Result ℕ E) (into : List ℕ) → IfOk r (λ n. Pulls untold untold n into)
none_pulls (Ok n) into = record { front = refl; ended = λ _ _. tt }
none_pulls (Err x) into = tt

pub at_ok : {T E : Type 0} (r : Result T E) (b : Bool) → b ≡ is_ok r → OnOk r (b ≡ true)
at_ok (Ok x) b e = e
at_ok (Err x) b e = tt

pub at_err : {T E : Type 0} (r : Result T E) (b : Bool) → b ≡ is_ok r → OnErr r (b ≡ false)
at_err (Ok x) b e = tt
at_err (Err x) b e = e
