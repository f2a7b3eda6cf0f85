-- What is pending after a character as itself.
use Rattle.std.proofs.Common.{◌≡◌, ℕ, ◌<◌, Bool, true, false, cond, ◌&&◌, ◌==◌, not, List, [], ◌∷◌, Option, Some, None, refl, sym, ap, ◌∙◌, subst, arith, is_none, encode_utf8}
use Rattle.std.proofs.lemmas.Str.{encode_ascii}
use Rattle.hm_base.specs.Bytes.{head_is}
use Rattle.hm_refs.specs.Names.{Entry}
use Rattle.hm_refs.specs.References.{reference}
use Rattle.hm_refs.specs.Tables.{IsTable}
use Rattle.hm_refs.proofs.Bools.{eq_of}
use Rattle.hm_spelling_spec.specs.Characters.{Spot, double, foreign, is_value, opens, rcdata, single, stays, text, unquoted}
use Rattle.hm_graph_laws.specs.CharacterEdges.{itself_to}
use Rattle.hm_graph_laws.specs.States.{Pending, ampersand, less_than, nothing}
use Rattle.hm_graph_laws.specs.Steps.{Fits, keeps, run, step}
use Rattle.hm_graph_laws.proofs.PendingReading.{reference_amp}
use Rattle.hm_graph_laws.proofs.Runs.{amp_special, lt_special, step_special}

one_byte : (t : List Entry) (spot : Spot) (p : Pending) (c d : ℕ) → (c == d) ≡ true → d < 128 → run t spot (Some p) (encode_utf8 c) ≡ step t spot p d
one_byte t spot p c d e l = let i = sym (eq_of c d e) in
    subst (λ z. run t spot (Some p) (encode_utf8 z) ≡ step t spot p d) i (ap (λ w. run t spot (Some p) w) (encode_ascii d l) ∙ run_none (step t spot p d))
  where
    run_none : (n : Option Pending) → run t spot n [] ≡ n
    run_none None = refl
    run_none (Some q) = refl

keeps_nothing : (t : List Entry) (spot : Spot) (q : Pending) (x : List ℕ) → q ≡ nothing → keeps t spot q x ≡ true
keeps_nothing t spot q x e = rw e refl

and_true : (b : Bool) → b && true ≡ b
and_true true = refl
and_true false = refl

opens_value : (spot : Spot) (x : List ℕ) → is_value spot ≡ true → head_is (opens spot) x ≡ false
opens_value text x h = absurd (cc)
opens_value rcdata x h = absurd (cc)
opens_value foreign x h = absurd (cc)
opens_value unquoted [] h = refl
opens_value unquoted (c ∷ x) h = refl
opens_value double [] h = refl
opens_value double (c ∷ x) h = refl
opens_value single [] h = refl
opens_value single (c ∷ x) h = refl

-- what is pending after a literal is kept exactly where the literal stays and what its bytes left pending is kept
pub literal_law : (t : List Entry) → IsTable t → (spot : Spot) (p : Pending) (c : ℕ) → Fits t spot p → (q : Pending) → run t spot (Some p) (encode_utf8 c) ≡ Some q
    → (x : List ℕ) → (stays t spot c x && keeps t spot q x) ≡ keeps t spot (itself_to spot c q) x
unfolding stays
literal_law t k spot p c f q e x = by_tests (c == 38) (c == 60) (is_value spot) refl refl refl
  where
    by_tests : (a l v : Bool) → (c == 38) ≡ a → (c == 60) ≡ l → is_value spot ≡ v
        → (cond a (is_none (reference t (is_value spot) (38 ∷ x))) (cond l (not (head_is (opens spot) x)) true) && keeps t spot q x) ≡ keeps t spot (cond a (ampersand (38 ∷ [])) (cond (l && not v) less_than q)) x
    by_tests true l v ha hl hv =
        rw (keeps_nothing t spot q x (step_special t k spot p 38 amp_special f q (sym (one_byte t spot p c 38 ha (omega arith)) ∙ e)), reference_amp t k (is_value spot) x) (and_true _)
    by_tests false true true ha hl hv = rw (opens_value spot x hv) refl
    by_tests false true false ha hl hv =
        rw (keeps_nothing t spot q x (step_special t k spot p 60 lt_special f q (sym (one_byte t spot p c 60 hl (omega arith)) ∙ e))) (and_true _)
    by_tests false false v ha hl hv = refl
