-- What a text that is fed knows of the bytes that came, before and after one more piece, and at the end of the page.
use Rattle.std.proofs.Common.{◌≡◌, ℕ, suc, pred, ◌+◌, ◌-◌, ◌<◌, ◌≤◌, Bool, true, false, ◌==◌, nat_lt, List, [], ◌∷◌, ◌++◌, length, take, drop, Option, Some, None, refl, sym, ap, ap₂, subst, ◌∙◌, arith, length-append, append_assoc, append-nil, ⊎_elim}
use Rattle.std.specs.Str.{IsUtf8}
use Rattle.std.specs.Str.Lossy.{utf8_valid_len, utf8_error_len}
use Rattle.std.proofs.lemmas.Bool.{cases_lt}
use Rattle.std.proofs.lemmas.Bool.Decides.{nat_tests}
use Rattle.std.proofs.lemmas.List.{drop_at, length-drop, length-take-le, take_at}
use Rattle.hm_base.specs.declared.rules.Rule.{Rule}
use Rattle.hm_base.specs.declared.rules.Rule.TheVariants as rules
use Rattle.hm_base.specs.Places.{with_lines}
use Rattle.hm_base.specs.Source.{PlacedByte, Source, Refusal, bad_sequence, earlier, refusal_at, text_fault, source_of, zero_from}
use Rattle.hm_base.proofs.Places.{source_at}
use Rattle.hm_decoder.specs.Fed.{lasting_bad, lasting_fault, ends_with_return, decided_len, decided}
use Rattle.hm_decoder.specs.Pieces.{HasFed, HasPage, HasText, Pieces, fault_of_page, fault_so_far, grown, told_at}
use Rattle.hm_decoder.proofs.Decisions.{lasting_of_text}
use Rattle.hm_decoder.proofs.Ends as ends
use Rattle.hm_decoder.proofs.Ends.{Ends, how_it_ends, take_whole}
use Rattle.hm_decoder.proofs.Faults.{faults_last, some_bad}
use Rattle.hm_decoder.proofs.Growing.{source_grows}
use Rattle.hm_decoder.proofs.Steps.{Step, decided_len_le, step}
use Rattle.hm_decoder.proofs.Texts.{before_return, cut, front_byte, last_return, len_return, len_unfinished, len_whole, no_bad_there, text_is}

-- ---- the fault so far

within_test : (limit n : ℕ) → n ≤ limit → nat_lt limit n ≡ false
within_test limit n l = grind (arith, nat_tests)

over_test : (limit n : ℕ) → limit < n → nat_lt limit n ≡ true
over_test limit n l = grind (arith, nat_tests)

pub fault_within : (limit : ℕ) (s : List ℕ) → length s ≤ limit → fault_so_far limit s ≡ told_at 0 (lasting_fault s)
fault_within limit s l = rw (within_test limit (length s) l) refl

pub fault_over : (limit : ℕ) (s : List ℕ) → limit < length s → fault_so_far limit s ≡ Some (rules.TooLong, limit)
fault_over limit s l = rw (over_test limit (length s) l) refl

no_some : {A : Type 0} {x : A} → Some x ≡ None → ⊥
no_some e = cc

not_told : (n : ℕ) (o : Option Refusal) → told_at n o ≡ None → o ≡ None
not_told n None e = refl
not_told n (Some r) e = absurd (no_some e)

pub sound_so_far : (limit : ℕ) (s : List ℕ) → fault_so_far limit s ≡ None → (length s ≤ limit) × (lasting_fault s ≡ None)
sound_so_far limit s e = ⊎_elim
    (λ (h : limit < length s). absurd (no_some (sym (fault_over limit s h) ∙ e)))
    (λ (h : length s ≤ limit). (h, not_told 0 (lasting_fault s) (sym (fault_within limit s h) ∙ e)))
    (cases_lt limit (length s))

-- a fault that is there stays
told_stays : (s y : List ℕ) (f : Rule × ℕ) → told_at 0 (lasting_fault s) ≡ Some f → told_at 0 (lasting_fault (s ++ y)) ≡ told_at 0 (lasting_fault s)
told_stays s y f e = by (lasting_fault s) refl e
  where
    by : (o : Option Refusal) → lasting_fault s ≡ o → told_at 0 o ≡ Some f → told_at 0 (lasting_fault (s ++ y)) ≡ told_at 0 (lasting_fault s)
    by None g h = absurd (no_some (sym h))
    by (Some r) g h = ap (told_at 0) ((faults_last s y r g).0 ∙ sym g)

abbrev pub fed_on : Pieces → Source → List ℕ → Option (Rule × ℕ) → ℕ → Pieces
fed_on p source undecided fault n = record { source = source; undecided = undecided; count = p.count + n; limit = p.limit; fault = fault; is_broken = false }

-- nothing is done where the page is refused already
pub stays_refused : (p q : Pieces) (gone : List PlacedByte) (fed piece : List ℕ) (f : Rule × ℕ) → HasFed p gone fed → p.fault ≡ Some f → length piece ≤ p.limit - p.count → p.count ≤ p.limit
    → q.fault ≡ p.fault → q.limit ≡ p.limit → q.count ≡ p.count + length piece → HasFed q gone (fed ++ piece)
stays_refused p q gone fed piece f h e l m g i j = ⊎_elim
    (λ (over : p.limit < length fed).
    let full = h.over over in
    let size = length-append fed piece in record {
      fault = g ∙ h.fault ∙ fault_over p.limit fed over ∙ sym (ap (λ n. fault_so_far n (fed ++ piece)) i ∙ fault_over p.limit (fed ++ piece) (omega arith));
      count = λ w. absurd (omega arith);
      over = λ w. omega arith;
      text = λ none. absurd (no_some (sym e ∙ sym g ∙ none));
    })
    (λ (within : length fed ≤ p.limit).
    let count = h.count within in
    let size = length-append fed piece in
    let there : told_at 0 (lasting_fault fed) ≡ Some f = sym (fault_within p.limit fed within) ∙ sym h.fault ∙ e in record {
      fault = g ∙ e ∙ sym there ∙ sym (ap (λ n. fault_so_far n (fed ++ piece)) i ∙ fault_within p.limit (fed ++ piece) (omega arith) ∙ told_stays fed piece f there);
      count = λ w. omega arith;
      over = λ w. absurd (omega arith);
      text = λ none. absurd (no_some (sym e ∙ sym g ∙ none));
    })
    (cases_lt p.limit (length fed))

-- ---- one more piece of a page that isn't refused

no_more : (a b : List PlacedByte) → [] ≡ a ++ b → (a ≡ []) × (b ≡ [])
no_more [] b e = (refl, sym e)
no_more (c ∷ a) b e = cc

-- what is kept grows as the whole text does
grows_kept : (text : List ℕ) (w : Source) (gone : List PlacedByte) (d : List ℕ) → (source_of text).placed ≡ gone ++ w.placed → length text ≡ w.end → (grown (source_of text) d).placed ≡ gone ++ (grown w d).placed
grows_kept [] w gone d e f =
    let none = no_more gone w.placed e in
    let at_first : (w.end == 0) ≡ true = ap (λ n. n == 0) (sym f) in
    rw (none.0, at_first) refl
grows_kept (c ∷ text) w gone d e f =
    let later : (suc (length text) == 0) ≡ false = grind (arith, nat_tests) in
    let on : (w.end == 0) ≡ false = ap (λ n. n == 0) (sym f) ∙ later in
    let left : grown (source_of (c ∷ text)) d ≡ with_lines (source_of (c ∷ text)) d = rw later refl in
    let right : grown w d ≡ with_lines w d = rw on refl in
    ap (λ (v : Source). v.placed) left ∙ both (source_of (c ∷ text)) w e f ∙ ap (λ (v : Source). gone ++ v.placed) (sym right)
  where
    both : (v w : Source) → v.placed ≡ gone ++ w.placed → v.end ≡ w.end → (with_lines v d).placed ≡ gone ++ (with_lines w d).placed
    both v w e f = rw (e, f) (append_assoc gone w.placed _)

pub grown_end : (w : Source) (d : List ℕ) → (grown w d).end ≡ w.end + length d
grown_end w d = by (w.end == 0) refl
  where
    by : (b : Bool) → (w.end == 0) ≡ b → (grown w d).end ≡ w.end + length d
    by true e = rw e (let z : w.end ≡ 0 = grind (arith, nat_tests) in omega arith)
    by false e = rw e refl

pub feeds_on : (p q : Pieces) (gone : List PlacedByte) (fed piece : List ℕ) → HasFed p gone fed → p.fault ≡ None → length piece ≤ p.limit - p.count → p.count ≤ p.limit
    → q.limit ≡ p.limit → q.count ≡ p.count + length piece
    → told_at p.source.end (lasting_fault (p.undecided ++ piece)) ≡ q.fault
    → (q.fault ≡ None → q.source ≡ grown p.source (take (decided_len (p.undecided ++ piece)) (p.undecided ++ piece)))
    → (q.fault ≡ None → q.undecided ≡ drop (decided_len (p.undecided ++ piece)) (p.undecided ++ piece))
    → HasFed q gone (fed ++ piece)
feeds_on p q gone fed piece h none l m i j fault source undecided =
    let sound = sound_so_far p.limit fed (sym h.fault ∙ none) in
    let count = h.count sound.0 in
    let size = length-append fed piece in
    let t = h.text none in
    let b = p.undecided ++ piece in
    let s : Step fed piece p.undecided = subst (Step fed piece) (sym t.undecided) (step fed piece sound.1) in
    let fault_is : told_at 0 (lasting_fault (fed ++ piece)) ≡ q.fault = s.fault ∙ ap (λ n. told_at n (lasting_fault (p.undecided ++ piece))) (sym t.end) ∙ fault in
    let k = cut fed sound.1 in
    let text_is_so : decided fed ≡ source_of k.text = ap source_of (text_is fed k) in
    let d = take (decided_len (p.undecided ++ piece)) (p.undecided ++ piece) in
    record {
      fault = sym fault_is ∙ sym (ap (λ n. fault_so_far n (fed ++ piece)) i ∙ fault_within p.limit (fed ++ piece) (omega arith));
      count = λ w. omega arith;
      over = λ w. absurd (omega arith);
      text = λ e. record {
        placed = ap (λ (v : Source). v.placed) (s.source ∙ ap (λ (v : Source). grown v d) text_is_so) ∙ grows_kept k.text p.source gone d (ap (λ (v : Source). v.placed) (sym text_is_so) ∙ t.placed) (sym k.len ∙ sym t.end) ∙ ap (λ (v : Source). gone ++ v.placed) (sym (source e));
        end = ap (λ (v : Source). v.end) (source e) ∙ grown_end p.source d ∙ ap₂ (λ x y. x + y) t.end (taken b) ∙ sym s.len;
        undecided = undecided e ∙ sym s.undecided;
      };
    }
  where
    taken : (b : List ℕ) → length (take (decided_len b) b) ≡ decided_len b
    taken b = length-take-le (decided_len b) b (decided_len_le b)

-- ---- the end of the page

pub page_within : (limit : ℕ) (s : List ℕ) → length s ≤ limit → fault_of_page limit s ≡ told_at 0 (text_fault s)
page_within limit s l = rw (within_test limit (length s) l) refl

pub page_over : (limit : ℕ) (s : List ℕ) → limit < length s → fault_of_page limit s ≡ Some (rules.TooLong, limit)
page_over limit s l = rw (over_test limit (length s) l) refl

told_of_page : (s : List ℕ) (f : Rule × ℕ) → told_at 0 (lasting_fault s) ≡ Some f → told_at 0 (lasting_fault s) ≡ told_at 0 (text_fault s)
told_of_page s f e = by (lasting_fault s) refl e
  where
    by : (o : Option Refusal) → lasting_fault s ≡ o → told_at 0 o ≡ Some f → told_at 0 (lasting_fault s) ≡ told_at 0 (text_fault s)
    by None g h = absurd (no_some (sym h))
    by (Some r) g h = ap (told_at 0) (g ∙ sym (ap text_fault (sym (append-nil s)) ∙ (faults_last s [] r g).1))

-- a page that is refused already
pub ends_refused : (p : Pieces) (gone : List PlacedByte) (page : List ℕ) (f : Rule × ℕ) → HasFed p gone page → p.fault ≡ Some f → HasPage p gone page
ends_refused p gone page f h e = record {
  fault = ⊎_elim
      (λ (over : p.limit < length page). h.fault ∙ fault_over p.limit page over ∙ sym (page_over p.limit page over))
      (λ (within : length page ≤ p.limit). h.fault ∙ fault_within p.limit page within ∙ told_of_page page f (sym (fault_within p.limit page within) ∙ sym h.fault ∙ e) ∙ sym (page_within p.limit page within))
      (cases_lt p.limit (length page));
  placed = λ none. absurd (no_some (sym e ∙ none));
  end = λ none. absurd (no_some (sym e ∙ none));
}

-- what is left undecided of a page that isn't refused
pub data LeftOver (page : List ℕ) : Type 0 where
  whole : IsUtf8 page → decided_len page ≡ length page → LeftOver page
  return : (p : List ℕ) → IsUtf8 page → IsUtf8 p → page ≡ p ++ 13 ∷ [] → decided_len page ≡ length p → LeftOver page
  unfinished : (c : ℕ) (x : List ℕ) → utf8_valid_len page < length page → decided_len page ≡ utf8_valid_len page → drop (decided_len page) page ≡ c ∷ x → 128 ≤ c → LeftOver page

pub left_over : (page : List ℕ) → lasting_fault page ≡ None → LeftOver page
left_over page none = by (how_it_ends page)
  where
    by_return : IsUtf8 page → (b : Bool) → ends_with_return page ≡ b → LeftOver page
    by_return u false e = whole u (len_whole page u e)
    by_return u true e =
        let k = last_return page e in
        let size : length page ≡ suc (length k.0) = (let f = length-append k.0 (13 ∷ []) in let g = ap length k.1 in omega arith) in
        return k.0 u (before_return k.0 (subst IsUtf8 k.1 u)) k.1 (len_return page u e ∙ ap pred size)

    by : Ends page → LeftOver page
    by (ends.whole u) = by_return u (ends_with_return page) refl
    by (ends.bad v e) = absurd (no_some (sym (some_bad page e) ∙ (no_bad_there (lasting_bad page) (zero_from 0 page) none).0))
    by (ends.unfinished v e) =
        let short = v.short in
        let k = front_byte (drop (utf8_valid_len page) page) (omega (arith, length-drop (utf8_valid_len page) page)) e in
        let len = len_unfinished page short in
        unfinished k.0 k.1 short len (ap (λ n. drop n page) len ∙ k.2) k.3

-- a page that is all decided
pub ends_whole : (p : Pieces) (gone : List PlacedByte) (page : List ℕ) → HasFed p gone page → p.fault ≡ None → p.undecided ≡ [] → HasPage p gone page
ends_whole p gone page h none empty =
    let sound = sound_so_far p.limit page (sym h.fault ∙ none) in
    by (left_over page sound.1) sound.0 sound.1 (h.text none)
  where
    nothing : drop (decided_len page) page ≡ [] → length page ≤ decided_len page
    nothing e = omega (arith, ap length e, length-drop (decided_len page) page)

    by : LeftOver page → length page ≤ p.limit → lasting_fault page ≡ None → HasText p gone page → HasPage p gone page
    by (whole u len) l sound t =
        let text : decided page ≡ source_of page = ap source_of (ap (λ n. take n page) len ∙ take_whole page) in record {
          fault = none ∙ sym (page_within p.limit page l ∙ ap (told_at 0) (sym (lasting_of_text page u) ∙ sound));
          placed = λ e. ap (λ (v : Source). v.placed) (sym text) ∙ t.placed;
          end = λ e. t.end ∙ len;
        }
    by (return q u v is len) l sound t = absurd (let n = nothing (sym t.undecided ∙ empty) in omega (arith, ap length is, length-append q (13 ∷ [])))
    by (unfinished c x short len is low) l sound t = absurd (let n = nothing (sym t.undecided ∙ empty) in omega arith)

-- a CR at the end of a page is a line end
pub ends_with : (p q : Pieces) (gone : List PlacedByte) (page : List ℕ) (c : ℕ) (x : List ℕ) → HasFed p gone page → p.fault ≡ None → p.undecided ≡ c ∷ x → c ≡ 13
    → q.limit ≡ p.limit → q.fault ≡ p.fault → q.source ≡ grown p.source (13 ∷ []) → HasPage q gone page
ends_with p q gone page c x h none is at i j source =
    let sound = sound_so_far p.limit page (sym h.fault ∙ none) in
    by (left_over page sound.1) sound.0 sound.1 (h.text none)
  where
    by : LeftOver page → length page ≤ p.limit → lasting_fault page ≡ None → HasText p gone page → HasPage q gone page
    by (whole u len) l sound t = absurd (let e = ap length (sym is ∙ t.undecided) in omega (arith, length-drop (decided_len page) page))
    by (unfinished d y short len e low) l sound t = absurd (let same : d ∷ y ≡ c ∷ x = sym e ∙ sym t.undecided ∙ is in let f : d ≡ c = cc in omega arith)
    by (return r u v e len) l sound t =
        let text : decided page ≡ source_of r = ap source_of (ap (λ n. take n page) len ∙ ap (take (length r)) e ∙ take_at r (13 ∷ []) (length r) refl) in
        let more : source_of page ≡ grown (source_of r) (13 ∷ []) = ap source_of e ∙ source_grows r (13 ∷ []) v (λ k. refl) in
        record {
          fault = j ∙ none ∙ sym (ap (λ n. fault_of_page n page) i ∙ page_within p.limit page l ∙ ap (told_at 0) (sym (lasting_of_text page u) ∙ sound));
          placed = λ f. ap (λ (v : Source). v.placed) more ∙ grows_kept r p.source gone (13 ∷ []) (ap (λ (v : Source). v.placed) (sym text) ∙ t.placed) (sym len ∙ sym t.end) ∙ ap (λ (v : Source). gone ++ v.placed) (sym source);
          end = λ f. ap (λ (v : Source). v.end) source ∙ grown_end p.source (13 ∷ []) ∙ ap (λ n. n + 1) (t.end ∙ len) ∙ sym (ap length e ∙ length-append r (13 ∷ []));
        }

-- the front of a character at the end of a page is no character
pub ends_unfinished : (p q : Pieces) (gone : List PlacedByte) (page : List ℕ) (c : ℕ) (x : List ℕ) → HasFed p gone page → p.fault ≡ None → p.undecided ≡ c ∷ x → (c ≡ 13 → ⊥)
    → q.limit ≡ p.limit → q.fault ≡ Some (rules.NotUtf8, p.source.end) → HasPage q gone page
ends_unfinished p q gone page c x h none is other i j =
    let sound = sound_so_far p.limit page (sym h.fault ∙ none) in
    by (left_over page sound.1) sound.0 sound.1 (h.text none)
  where
    by : LeftOver page → length page ≤ p.limit → lasting_fault page ≡ None → HasText p gone page → HasPage q gone page
    by (whole u len) l sound t = absurd (let e = ap length (sym is ∙ t.undecided) in omega (arith, length-drop (decided_len page) page))
    by (return r u v e len) l sound t =
        let rest : drop (decided_len page) page ≡ 13 ∷ [] = ap₂ drop len e ∙ drop_at r (13 ∷ []) (length r) refl in
        let same : c ∷ x ≡ 13 ∷ [] = sym is ∙ t.undecided ∙ rest in absurd (other (cc))
    by (unfinished d y short len e low) l sound t =
        let differs : (utf8_valid_len page == length page) ≡ false = grind (arith, nat_tests) in
        let bad : bad_sequence page ≡ Some (utf8_valid_len page) = rw differs refl in
        let fault : text_fault page ≡ Some (refusal_at rules.NotUtf8 (utf8_valid_len page)) = ap₂ earlier bad (no_bad_there (lasting_bad page) (zero_from 0 page) sound).1 in
        let place : utf8_valid_len page ≡ 0 + utf8_valid_len page = omega arith in
        record {
          fault = j ∙ ap (λ n. Some (rules.NotUtf8, n)) (t.end ∙ len ∙ place) ∙ sym (ap (λ n. fault_of_page n page) i ∙ page_within p.limit page l ∙ ap (told_at 0) fault);
          placed = λ f. absurd (no_some (sym j ∙ f));
          end = λ f. absurd (no_some (sym j ∙ f));
        }

-- ---- the first moment

nothing_lasts : lasting_fault [] ≡ None
unfolding utf8_valid_len utf8_error_len
nothing_lasts = refl

pub nothing_decided : decided_len [] ≡ 0
unfolding decided_len utf8_valid_len
nothing_decided = refl

pub begins : (p : Pieces) → p.source ≡ source_at [] 0 → p.undecided ≡ [] → p.count ≡ 0 → p.fault ≡ None → HasFed p [] []
unfolding decided_len utf8_valid_len
begins p source undecided count fault = record {
  fault = fault ∙ sym (fault_within p.limit [] (omega arith) ∙ ap (told_at 0) nothing_lasts);
  count = λ l. count;
  over = λ l. absurd (omega arith);
  text = λ e. record {
    placed = sym (ap (λ (v : Source). v.placed) source);
    end = ap (λ (v : Source). v.end) source ∙ sym nothing_decided;
    undecided = undecided ∙ ap (λ n. drop n []) (sym nothing_decided);
  };
}
