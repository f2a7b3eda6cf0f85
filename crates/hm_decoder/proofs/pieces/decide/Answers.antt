use Rattle.std.proofs.Common.{◌≡◌, drop, sym, ap, ◌∙◌, ℕ, false, refl, Some, None, Option, is_some}
use Rattle.std.specs.Str.{IsValidUpTo}
use Rattle.std.specs.Str.Lossy.{utf8_error_len}
use Rattle.hm_decoder.proofs.Decisions.{bytes_are_bad, bytes_have_none, bytes_have_nul, front_of_bytes, text_has_none, text_has_nul}
use Rattle.hm_decoder.proofs.pieces.decide.Goals as goal

pub returns-in-Some-memchr-clause-err : goal.returns-in-Some-memchr-clause-err
returns-in-Some-memchr-clause-err c =
    let bad = c.valid_up_to-valid.result in
    let stops : IsValidUpTo c.args.bytes.now bad = rw c.valid_up_to-valid.ensures c.in-Err.ensures.cases.1 in
    bytes_have_nul c.args.bytes.now bad c.args.place c.in-Some-memchr.at stops (c.valid_up_to-valid.ensures ∙ c.in-Err.ensures.valid_len) c.in-Some-memchr.ensures

pub returns-then-is_some-clause-err : goal.returns-then-is_some-clause-err
returns-then-is_some-clause-err c =
    let bad = c.valid_up_to-valid.result in
    let bytes = c.args.bytes.now in
    let stops : IsValidUpTo bytes bad = rw c.valid_up_to-valid.ensures c.in-Err.ensures.cases.1 in
    let error : utf8_error_len (drop bad bytes) ≡ c.error_len.result = ap (λ n. utf8_error_len (drop n bytes)) c.valid_up_to-valid.ensures ∙ sym c.in-Err.ensures.fault ∙ sym c.error_len.ensures in
    bytes_are_bad bytes bad c.args.place stops (c.valid_up_to-valid.ensures ∙ c.in-Err.ensures.valid_len) (ap is_some error ∙ sym c.if-is_some.ensures) c.in_default.ensures

pub returns-in-None-clause-sound : goal.returns-in-None-clause-sound
returns-in-None-clause-sound c = text_has_none c.args.bytes.now c.in-Ok.ensures.cases.1 c.in-None.ensures

pub returns-in-Some-clause-err : goal.returns-in-Some-clause-err
returns-in-Some-clause-err c = text_has_nul c.args.bytes.now c.args.place c.in-Some.at c.in-Ok.ensures.cases.1 c.in-Some.ensures

pub returns-in-Ok-from_utf8-clause-ok : goal.returns-in-Ok-from_utf8-clause-ok
returns-in-Ok-from_utf8-clause-ok c =
    let bad = c.valid_up_to-valid.result in
    let bytes = c.args.bytes.now in
    let stops : IsValidUpTo bytes bad = rw c.valid_up_to-valid.ensures c.in-Err.ensures.cases.1 in
    c.in-Ok-from_utf8.ensures.cases.0 ∙ front_of_bytes bytes bad stops (c.valid_up_to-valid.ensures ∙ c.in-Err.ensures.valid_len)

is_none : (o : Option ℕ) → is_some o ≡ false → o ≡ None
is_none None h = refl
is_none (Some k) h = cc

pub returns-in-Ok-from_utf8-clause-sound : goal.returns-in-Ok-from_utf8-clause-sound
returns-in-Ok-from_utf8-clause-sound c =
    let bad = c.valid_up_to-valid.result in
    let bytes = c.args.bytes.now in
    let stops : IsValidUpTo bytes bad = rw c.valid_up_to-valid.ensures c.in-Err.ensures.cases.1 in
    let error : utf8_error_len (drop bad bytes) ≡ c.error_len.result = ap (λ n. utf8_error_len (drop n bytes)) c.valid_up_to-valid.ensures ∙ sym c.in-Err.ensures.fault ∙ sym c.error_len.ensures in
    bytes_have_none bytes bad stops (c.valid_up_to-valid.ensures ∙ c.in-Err.ensures.valid_len) (is_none (utf8_error_len (drop bad bytes)) (ap is_some error ∙ sym c.if-is_some.ensures)) c.in_default.ensures
