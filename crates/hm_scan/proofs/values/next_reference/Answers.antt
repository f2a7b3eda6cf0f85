use Rattle.std.proofs.Common.{◌≡◌, ◌+◌, drop, Some, None, true}
use Rattle.std.proofs.lemmas.List.{take_rest}
use Rattle.memchr.specs.Find.{IsFirstByte, is_byte}
use Rattle.hm_refs.specs.References.{reference}
use Rattle.hm_refs.specs.Reads.{IsReadReference}
use Rattle.hm_scan.proofs.ValueReads.{amp_byte, amp_inside, passed_amp, passed_more, passed_all, next_is}
use Rattle.hm_scan.proofs.values.next_reference.Goals as goal

pub returns-in-Some-read_reference : goal.returns-in-Some-read_reference
returns-in-Some-read_reference c =
    let t = c.args.table.now.entries in let s = c.args.bytes.now in let at = c.loop-len.at in let len = c.in-Some.len in
    let found : IsFirstByte (is_byte 38) (drop at s) (Some len) = rw (take_rest s at, c.in-Some.is) at c.memchr.ensures in
    let read : IsReadReference (reference t true (drop (at + len) s)) (drop (at + len) s) c.in-Some-read_reference.reference = rw (take_rest s (at + len)) at c.in-Some-read_reference.ensures in
    next_is t s c.args.from (at + len) c.in-Some-read_reference.reference c.requires.utf8 (passed_amp t s c.args.from at len c.loop-len.invariant found) (amp_inside s at len found) (amp_byte s at len found) read

pub loop-len-preserved : goal.loop-len-preserved
loop-len-preserved c =
    let t = c.args.table.now.entries in let s = c.args.bytes.now in let at = c.loop-len.at in let len = c.in-Some.len in
    let found : IsFirstByte (is_byte 38) (drop at s) (Some len) = rw (take_rest s at, c.in-Some.is) at c.memchr.ensures in
    let none : reference t true (drop (at + len) s) ≡ None = rw (take_rest s (at + len)) at c.in_default-read_reference.ensures in
    passed_more t s c.args.from (at + len) (passed_amp t s c.args.from at len c.loop-len.invariant found) (amp_inside s at len found) (amp_byte s at len found) none

pub returns : goal.returns
returns c =
    let t = c.args.table.now.entries in let s = c.args.bytes.now in let at = c.loop-len.at in
    let found : IsFirstByte (is_byte 38) (drop at s) None = rw (take_rest s at, c.in_default.is) at c.memchr.ensures in
    passed_all t s c.args.from at c.loop-len.invariant found
