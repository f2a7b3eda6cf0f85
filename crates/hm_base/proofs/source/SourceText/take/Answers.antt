use Rattle.std.proofs.Common.{◌≡◌, true, None, length, arith, refl, ap}
use Rattle.hm_base.specs.Bytes.{all_pass}
use Rattle.hm_base.specs.Source.{is_text_byte, text_fault}
use Rattle.hm_base.proofs.Faults.{no_zero}
use Rattle.hm_base.proofs.Page.{source_of_own}
use Rattle.hm_base.proofs.source.SourceText.take.Goals as goal

pub invariant_of-result : goal.invariant_of-result
invariant_of-result c =
    let page = c.args.bytes.items in
    let sound : text_fault page ≡ None = rw c.as_slice.ensures.value at c.in_ok-checked.ensures.sound.sound in
    let plain : all_pass is_text_byte page ≡ true = (rw c.as_slice-2.ensures.value at c.if-not-is_own_text.ensures.plain) refl (no_zero page sound) in
    rw (c.new.ensures.items, c.in-Ok.ensures.ok) record {
      rising = λ j k d l m. absurd (omega arith);
      inside = λ k d l. absurd (omega arith);
      short = omega (arith, c.in_ok-checked.ensures.sound.short, c.requires, ap length c.as_slice.ensures.value);
      plain = plain;
    }

pub returns-in-Ok-clause-read : goal.returns-in-Ok-clause-read
returns-in-Ok-clause-read c =
    let page = c.args.bytes.items in
    let sound : text_fault page ≡ None = rw c.as_slice.ensures.value at c.in_ok-checked.ensures.sound.sound in
    let plain : all_pass is_text_byte page ≡ true = (rw c.as_slice-2.ensures.value at c.if-not-is_own_text.ensures.plain) refl (no_zero page sound) in
    rw c.in-Ok.ensures.ok (source_of_own page c.new.result.items c.new.ensures.items ((rw c.as_slice-2.ensures.value at c.if-not-is_own_text.ensures.unmarked) refl) plain)
