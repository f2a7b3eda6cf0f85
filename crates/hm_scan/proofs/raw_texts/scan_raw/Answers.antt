use Rattle.std.proofs.Common.{drop, ap}
use Rattle.hm_base.specs.RawText.{raw_end}
use Rattle.hm_scan.specs.RawTexts.{read_raw}
use Rattle.hm_scan.specs.Pieces.{slice_up_to}
use Rattle.hm_scan.proofs.TagPlaces.{slice_to}
use Rattle.hm_scan.proofs.raw_texts.scan_raw.Goals as goal

pub returns-in-Some-clause-ok : goal.returns-in-Some-clause-ok
unfolding read_raw
returns-in-Some-clause-ok c =
    slice_to c.args.text.now c.args.at c.in-Some.to (raw_end c.args.name.now (drop c.args.at c.args.text.now)) c.requires.boundary
    (rw (c.as_bytes.ensures.value, c.as_bytes-2.ensures.value) at c.in-Some.ensures)

pub returns-in-None-clause-err : goal.returns-in-None-clause-err
unfolding read_raw
returns-in-None-clause-err c = ap (slice_up_to (drop c.args.at c.args.text.now)) (rw (c.as_bytes.ensures.value, c.as_bytes-2.ensures.value) at c.in-None.ensures)
