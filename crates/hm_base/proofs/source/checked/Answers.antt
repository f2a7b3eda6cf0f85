use Rattle.std.proofs.Common.{◌≡◌, None, Some, arith, ◌∙◌}
use Rattle.std.specs.Str.{IsValidUpTo}
use Rattle.std.specs.Str.Lossy.{utf8_valid_len}
use Rattle.hm_base.proofs.Faults.{fault_of_text, fault_of_bytes, zero_first}
use Rattle.hm_base.proofs.source.checked.Goals as goal

pub returns-in-None-clause-sound : goal.returns-in-None-clause-sound
returns-in-None-clause-sound c = record {
  short = omega arith;
  sound = fault_of_text c.args.bytes.now None c.in-Ok.ensures.cases.1 c.in-None.ensures;
}

pub returns-in-Some-clause-refused : goal.returns-in-Some-clause-refused
returns-in-Some-clause-refused c = (omega arith, fault_of_text c.args.bytes.now (Some c.in-Some.at) c.in-Ok.ensures.cases.1 c.in-Some.ensures)

pub returns-in-None-memchr-clause-refused : goal.returns-in-None-memchr-clause-refused
returns-in-None-memchr-clause-refused c =
    let bad = c.valid_up_to-bad.result in
    let page = c.args.bytes.now in
    let stops : IsValidUpTo page bad = rw c.valid_up_to-bad.ensures c.in-Err.ensures.cases.1 in
    let valid : bad ≡ utf8_valid_len page = c.valid_up_to-bad.ensures ∙ c.in-Err.ensures.valid_len in
    (omega arith, fault_of_bytes page bad None stops valid c.in-None-memchr.ensures)

pub returns-in-Some-memchr-clause-refused : goal.returns-in-Some-memchr-clause-refused
returns-in-Some-memchr-clause-refused c =
    let bad = c.valid_up_to-bad.result in
    let at = c.in-Some-memchr.at in
    let page = c.args.bytes.now in
    let stops : IsValidUpTo page bad = rw c.valid_up_to-bad.ensures c.in-Err.ensures.cases.1 in
    let valid : bad ≡ utf8_valid_len page = c.valid_up_to-bad.ensures ∙ c.in-Err.ensures.valid_len in
    (omega arith, zero_first page bad at stops valid c.in-Some-memchr.ensures)
