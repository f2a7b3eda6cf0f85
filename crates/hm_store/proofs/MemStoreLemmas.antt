-- What a pull from a store in memory takes.
use Rattle.std.proofs.Common.{◌≡◌, ℕ, ◌+◌, ◌≤◌, min, true, List, [], ◌∷◌, ◌++◌, length, take, drop, Some, None, refl, sym, ap, ◌∙◌, arith, subst, is_some, IfOk}
use Rattle.std.specs.declared.option.Option.{Option}
use Rattle.std.specs.declared.result.Result.{Result}
use Rattle.std.specs.declared.result.Result.TheVariants.{Ok, Err}
use Rattle.std.specs.Result.{OnErr, result_unwrap_or}
use Rattle.std.specs.Option.{unwrap_or}
use Rattle.std.proofs.lemmas.Grind.{common_steps}
use Rattle.std.proofs.lemmas.List.{take-append-drop}
use Rattle.hm_store.specs.Calls.{CallLog}
use Rattle.hm_store.specs.Tears.{TearLog}
use Rattle.hm_store.specs.Files.{FileMap, content, Pulls}
use Rattle.hm_store.specs.MemStore.{FileReading, StoredFiles, rest_of, advanced}

drop_more : (n t : ℕ) (c : List ℕ) → drop n (drop t c) ≡ drop (t + n) c
drop_more n t c = grind (arith, common_steps)

take_front : (n : ℕ) (xs ys : List ℕ) → n ≤ length xs → take n (take n xs ++ ys) ≡ take n xs
take_front n xs ys h = grind (arith, common_steps)

no_length : (xs : List ℕ) → length xs ≡ 0 → xs ≡ []
no_length [] h = refl
no_length (x ∷ xs) h = absurd (omega arith)

nothing_taken : (n : ℕ) (xs ys : List ℕ) → n ≡ 0 → take n xs ++ drop n ys ≡ ys
nothing_taken n xs ys h = ap (λ k. take k xs ++ drop k ys) h

pulls_left : (c into was : List ℕ) (t n : ℕ) → n ≡ min (length (drop t c)) (length was) → into ≡ take n (drop t c) ++ drop n was → Pulls (Some (drop t c)) (Some (drop (t + n) c)) n into
pulls_left c into was t n count copied = record {
  front = ap Some (sym (ap (λ xs. take n xs ++ drop (t + n) c) copied
      ∙ ap (λ xs. xs ++ drop (t + n) c) (take_front n (drop t c) (drop n was) (omega arith))
      ∙ ap (λ xs. take n (drop t c) ++ xs) (sym (drop_more n t c))
      ∙ take-append-drop n (drop t c)));
  ended = λ none room.
      let same : length into ≡ length was = ap length (copied ∙ nothing_taken n (drop t c) was none) in
      let left : drop t c ≡ [] = no_length (drop t c) (omega arith) in
      sym (drop_more n t c) ∙ ap (drop n) left ∙ ap (λ k. drop k []) none;
}

stays : (t : ℕ) (c : List ℕ) → drop (t + 0) c ≡ drop t c
stays t c = ap (λ k. drop k c) (omega arith)

pulls_by : {E : Type 0} (files : FileMap) (reading : Option FileReading) (result : Result ℕ E) (into was : List ℕ) → is_some reading ≡ true
    → IfOk result (λ n. n ≡ min (length (unwrap_or (rest_of files reading) [])) (length was)) → IfOk result (λ n. into ≡ take n (unwrap_or (rest_of files reading) []) ++ drop n was)
    → IfOk result (λ n. Pulls (rest_of files reading) (rest_of files (advanced reading (result_unwrap_or result 0))) n into)
pulls_by files None result into was there count copied = absurd (cc)
pulls_by files (Some r) (Ok n) into was there count copied = pulls_left (content files r.name) into was r.taken n count copied
pulls_by files (Some r) (Err e) into was there count copied = tt

stays_by : {E : Type 0} (files : FileMap) (reading : Option FileReading) (result : Result ℕ E) → OnErr result (rest_of files (advanced reading (result_unwrap_or result 0)) ≡ rest_of files reading)
stays_by files reading (Ok n) = tt
stays_by files None (Err e) = refl
stays_by files (Some r) (Err e) = ap Some (stays r.taken (content files r.name))

module _ {E : Type 0} (files : FileMap) (reading : Option FileReading) (result : Result ℕ E) (new : StoredFiles) (writing : Option (List ℕ)) (calls : CallLog) (tears : TearLog)
    (is : new ≡ record { files = files; reading = advanced reading (result_unwrap_or result 0); writing = writing; calls = calls; tears = tears }) where
  pub pulls : (into was : List ℕ) → is_some reading ≡ true
      → IfOk result (λ n. n ≡ min (length (unwrap_or (rest_of files reading) [])) (length was)) → IfOk result (λ n. into ≡ take n (unwrap_or (rest_of files reading) []) ++ drop n was)
      → IfOk result (λ n. Pulls (rest_of files reading) (rest_of new.files new.reading) n into)
  pulls into was there count copied =
      let P : StoredFiles → Type 0 = λ s. IfOk result (λ n. Pulls (rest_of files reading) (rest_of s.files s.reading) n into) in
      subst P (sym is) (pulls_by files reading result into was there count copied)

  pub stays_in_place : OnErr result (rest_of new.files new.reading ≡ rest_of files reading)
  stays_in_place =
      let P : StoredFiles → Type 0 = λ s. OnErr result (rest_of s.files s.reading ≡ rest_of files reading) in
      subst P (sym is) (stays_by files reading result)
