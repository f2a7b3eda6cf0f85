use Rattle.hm_options.proofs.Runs.{some_bytes, no_bytes, trailing_goes, trailing_kept, trailing_none, trailing_unasked}
use Rattle.hm_options.proofs.spaces.without_trailing.Goals.{else-edge-via-then-edge+then-not-is_empty+else-bytes-eq32, else-edge-via-then-edge+else-not-is_empty, else-edge-via-else-edge}
use Rattle.hm_options.proofs.spaces.without_trailing.Goals as goal

pub returns-then-bytes-eq32 : goal.returns-then-bytes-eq32
returns-then-bytes-eq32 c =
    trailing_goes c.args.text.now c.as_bytes-bytes.result.now c.range.result.now c.args.edge c.as_bytes-bytes.ensures.value c.if-edge.true
    (some_bytes c.as_bytes-bytes.result.now c.is_empty.result c.is_empty.ensures c.if-not-is_empty.true) c.if-bytes-eq32.true c.range.ensures.value

pub returns : goal.returns
returns c = elim c.else-edge.branch [
  | else-edge-via-then-edge+then-not-is_empty+else-bytes-eq32 w ↦
      trailing_kept c.args.text.now c.as_bytes-bytes.result.now c.args.edge c.as_bytes-bytes.ensures.value
      (some_bytes c.as_bytes-bytes.result.now w.is_empty.result w.is_empty.ensures w.if-not-is_empty.true) w.if-bytes-eq32.false
  | else-edge-via-then-edge+else-not-is_empty w ↦
      trailing_none c.args.edge c.args.text.now (rw (← c.as_bytes-bytes.ensures.value) (no_bytes c.as_bytes-bytes.result.now w.is_empty.result w.is_empty.ensures w.if-not-is_empty.false))
  | else-edge-via-else-edge w ↦ rw (w.if-edge.false) (trailing_unasked c.args.text.now)
]
