-- What words that may be read ask for.
use Rattle.std.proofs.Common.{◌≡◌, ◌&&◌, Bool, cond, true, false, true≢false, refl, List, None, ℕ}
use Rattle.hm_base.proofs.Bytes.{first_true, second_true}
use Rattle.hm_words.specs.Words.{asked, flags, names_in, are_filled, are_known, are_single, command_in, with_flags}
use Rattle.hm_words.specs.Answers.{are_readable, is_guarded}

-- what words that may be read ask for
pub asked_is : (ws : List (List ℕ)) → are_readable ws ≡ true → asked ws ≡ cond (is_guarded ws) (with_flags ws (command_in (names_in ws))) None
unfolding asked
asked_is ws e =
    let filled : are_filled ws ≡ true = first_true _ _ e in
    let known : are_known flags ws ≡ true = first_true _ _ (second_true _ _ e) in
    let single : are_single flags ws ≡ true = second_true _ _ (second_true _ _ e) in
    rw (filled, known, single) refl

-- words that may not be read have no meaning
pub not_asked : (ws : List (List ℕ)) → are_readable ws ≡ false → asked ws ≡ None
unfolding asked
not_asked ws e = by_test (are_filled ws) (are_known flags ws) (are_single flags ws) refl refl refl
  where
    by_test : (filled known single : Bool) → are_filled ws ≡ filled → are_known flags ws ≡ known → are_single flags ws ≡ single
        → cond (are_filled ws && (are_known flags ws && (are_single flags ws && is_guarded ws))) (with_flags ws (command_in (names_in ws))) None ≡ None
    by_test false k s fe ke se = rw fe refl
    by_test true false s fe ke se = rw (fe, ke) refl
    by_test true true false fe ke se = rw (fe, ke, se) refl
    by_test true true true fe ke se = let h : true ≡ false = rw (fe, ke, se) at e in absurd (true≢false h)
