-- What the place of a state says about a row.
use Rattle.std.proofs.Common.{◌≡◌, ℕ, suc, Bool, List, [], ◌∷◌, map, Option, Some, None, true, false, cond, refl, ap, subst, slice_index_or, ◌⊎◌, inl, inr}
use Rattle.std.specs.Option.{option_map}
use Rattle.hm_graph_laws.specs.States.{State, same_state}
use Rattle.hm_graph_laws.specs.Prices.{Row, price_at}
use Rattle.hm_graph_laws.proofs.States.{same_is}
use Rattle.hm_graph.specs.Fits.{place_of}

-- a row gives at the place of a state what f gives for the state
abbrev pub Tells : List State → Row → (State → Option ℕ) → Type 0
Tells states row f = (s : State) (n : ℕ) → place_of states s ≡ Some n → slice_index_or row n None ≡ f s

-- where a state is: it is the first one, or it has its place among the others
pub record IsFirst (t s : State) (n : ℕ) : Type 0 where
  pub same : same_state t s ≡ true
  pub place : 0 ≡ n

pub record IsLater (t s : State) (states : List State) (n : ℕ) : Type 0 where
  pub differs : same_state t s ≡ false
  pub before : ℕ
  pub found : place_of states s ≡ Some before
  pub place : suc before ≡ n

pub place_cases : (t s : State) (states : List State) (n : ℕ) → place_of (t ∷ states) s ≡ Some n → IsFirst t s n ⊎ IsLater t s states n
place_cases t s states n e = by_test (same_state t s) refl e
  where
    by_rest : (p : Option ℕ) → place_of states s ≡ p → same_state t s ≡ false → option_map (λ m. suc m) p ≡ Some n → IsFirst t s n ⊎ IsLater t s states n
    by_rest None found differs h = absurd (cc)
    by_rest (Some m) found differs h = inr (record { differs = differs; before = m; found = found; place = cc })

    by_test : (b : Bool) → same_state t s ≡ b → cond b (Some 0) (option_map (λ m. suc m) (place_of states s)) ≡ Some n → IsFirst t s n ⊎ IsLater t s states n
    by_test true same h = inl (record { same = same; place = cc })
    by_test false differs h = by_rest (place_of states s) refl differs h

-- each row gives the prices at its states
pub tells_price : (states : List State) (row : Row) → Tells states row (price_at states row)
tells_price [] row s n e = absurd (cc)
tells_price (t ∷ states) [] s n e = refl
tells_price (t ∷ states) (q ∷ row) s n e = by_case (place_cases t s states n e) (λ m h. tells_price states row s m h)
  where
    by_case : IsFirst t s n ⊎ IsLater t s states n → ((m : ℕ) → place_of states s ≡ Some m → slice_index_or row m None ≡ price_at states row s)
        → slice_index_or (q ∷ row) n None ≡ price_at (t ∷ states) (q ∷ row) s
    by_case (inl first) more = rw first.same (subst (λ k. slice_index_or (q ∷ row) k None ≡ q) first.place refl)
    by_case (inr later) more = rw later.differs (subst (λ k. slice_index_or (q ∷ row) k None ≡ price_at states row s) later.place (more later.before later.found))

-- a row made by a function of the states gives the values of that function
pub tells_map : (f : State → Option ℕ) (states : List State) → Tells states (map f states) f
tells_map f [] s n e = absurd (cc)
tells_map f (t ∷ states) s n e = by_case (place_cases t s states n e) (λ m h. tells_map f states s m h)
  where
    by_case : IsFirst t s n ⊎ IsLater t s states n → ((m : ℕ) → place_of states s ≡ Some m → slice_index_or (map f states) m None ≡ f s) → slice_index_or (f t ∷ map f states) n None ≡ f s
    by_case (inl first) more = subst (λ k. slice_index_or (f t ∷ map f states) k None ≡ f s) first.place (ap f (same_is t s first.same))
    by_case (inr later) more = subst (λ k. slice_index_or (f t ∷ map f states) k None ≡ f s) later.place (more later.before later.found)
