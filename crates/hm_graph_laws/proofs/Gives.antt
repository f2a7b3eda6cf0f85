-- When other bytes may follow in place of these.
use Rattle.std.proofs.Common.{◌≡◌, ℕ, ◌+◌, ◌≤◌, Bool, true, List, ◌∷◌, ◌++◌, length, Option, Some, None, is_some, refl, sym, ◌∙◌, inl, inr, ◌⊎◌, arith, length-append}
use Rattle.hm_refs.specs.Names.{Entry}
use Rattle.hm_refs.specs.Tables.{IsTable}
use Rattle.hm_spelling_spec.specs.Characters.{Spot, is_value}
use Rattle.hm_graph_laws.specs.States.{Pending}
use Rattle.hm_graph_laws.specs.Steps.{Fits, FitsAfter, keeps, keeps_after, run, step}
use Rattle.hm_graph_laws.proofs.Runs.{run_fits, run_law}
use Rattle.hm_graph_laws.proofs.Steps.{step_law}
use Rattle.hm_graph_laws.proofs.ChoiceLaws.{takes}

-- y keeps all that x keeps, in values or in texts
abbrev pub Keeps : List Entry → Bool → List ℕ → List ℕ → Type 0
Keeps t value x y = (spot : Spot) (p : Pending) → is_value spot ≡ value → Fits t spot p → keeps t spot p x ≡ true → keeps t spot p y ≡ true

-- y is no longer than x, and it keeps what x keeps or is three bytes shorter
pub record Gives (t : List Entry) (value : Bool) (x y : List ℕ) : Type 0 where
  pub le : length y ≤ length x
  pub good : Keeps t value x y ⊎ (length y + 3 ≤ length x)

pub gives_itself : (t : List Entry) (value : Bool) (x : List ℕ) → Gives t value x x
gives_itself t value x = record { le = omega arith; good = inl (λ spot p v f h. h) }

-- the same bytes before both
pub same_keeps : (t : List Entry) → IsTable t → (value : Bool) (s x y : List ℕ) → Keeps t value x y → Keeps t value (s ++ x) (s ++ y)
same_keeps t k value s x y g spot p v f h = run_law t k spot s y p f ∙ by_run (run t spot (Some p) s) (run_fits t spot s (Some p) f) (sym (run_law t k spot s x p f) ∙ h)
  where
    by_run : (n : Option Pending) → FitsAfter t spot n → keeps_after t spot n x ≡ true → keeps_after t spot n y ≡ true
    by_run None f' e = e
    by_run (Some q) f' e = g spot q v f' e

pub same_front : (t : List Entry) → IsTable t → (value : Bool) (s x y : List ℕ) → Gives t value x y → Gives t value (s ++ x) (s ++ y)
same_front t k value s x y g = record { le = omega (arith, length-append s x, length-append s y, g.le); good = by_good g.good }
  where
    by_good : Keeps t value x y ⊎ (length y + 3 ≤ length x) → Keeps t value (s ++ x) (s ++ y) ⊎ (length (s ++ y) + 3 ≤ length (s ++ x))
    by_good (inl h) = inl (same_keeps t k value s x y h)
    by_good (inr h) = inr (omega (arith, length-append s x, length-append s y))

-- the first byte breaks nothing
pub first_step : (t : List Entry) → IsTable t → (spot : Spot) (p : Pending) (d : ℕ) (s : List ℕ) → Fits t spot p → keeps t spot p (d ∷ s) ≡ true → is_some (step t spot p d) ≡ true
first_step t k spot p d s f h = by_step (step t spot p d) (sym (step_law t k spot p d s f) ∙ h)
  where
    by_step : (o : Option Pending) → keeps_after t spot o s ≡ true → is_some o ≡ true
    by_step None g = absurd (cc)
    by_step (Some q) g = refl

-- all that begins with '&' keeps the same
pub amp_keeps : (t : List Entry) → IsTable t → (value : Bool) (x y : List ℕ) → Keeps t value (38 ∷ x) (38 ∷ y)
amp_keeps t k value x y spot p v f h = takes t k spot p f (first_step t k spot p 38 x f h) y
