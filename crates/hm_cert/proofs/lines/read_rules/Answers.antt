use Rattle.hm_base.specs.declared.plain.SpellRules.{SpellRules}
use Rattle.hm_cert.proofs.RuleLines.{Taken, taken_all, taken_part}
use Rattle.hm_cert.proofs.lines.read_rules.Goals as goal

pub returns-then-not-is_empty : goal.returns-then-not-is_empty
returns-then-not-is_empty c =
    let rules : SpellRules = record { omit = c.take_flag-omit.result.0; unquote = c.take_flag-unquote.result.0; tight = c.take_flag-tight.result.0; ascii = c.take_flag-ascii.result.0; frame = c.take_flag-frame.result.0 } in
    let t : Taken c.args.line.now c.in_ok-rest.rest.now rules c.take_flag-omit.result.1.now c.take_flag-unquote.result.1.now c.take_flag-tight.result.1.now c.take_flag-ascii.result.1.now c.take_flag-frame.result.1.now = record {
      front = c.in_ok-rest.ensures;
      omit = c.take_flag-omit.ensures.flag;
      rest_after_omit = c.take_flag-omit.ensures.rest;
      unquote = c.take_flag-unquote.ensures.flag;
      rest_after_unquote = c.take_flag-unquote.ensures.rest;
      tight = c.take_flag-tight.ensures.flag;
      rest_after_tight = c.take_flag-tight.ensures.rest;
      ascii = c.take_flag-ascii.ensures.flag;
      rest_after_ascii = c.take_flag-ascii.ensures.rest;
      frame = c.take_flag-frame.ensures.flag;
      rest_after_frame = c.take_flag-frame.ensures.rest;
    } in
    taken_part _ _ _ _ _ _ _ _ t c.if-not-is_empty.ensures

pub returns : goal.returns
returns c =
    let rules : SpellRules = record { omit = c.take_flag-omit.result.0; unquote = c.take_flag-unquote.result.0; tight = c.take_flag-tight.result.0; ascii = c.take_flag-ascii.result.0; frame = c.take_flag-frame.result.0 } in
    let t : Taken c.args.line.now c.in_ok-rest.rest.now rules c.take_flag-omit.result.1.now c.take_flag-unquote.result.1.now c.take_flag-tight.result.1.now c.take_flag-ascii.result.1.now c.take_flag-frame.result.1.now = record {
      front = c.in_ok-rest.ensures;
      omit = c.take_flag-omit.ensures.flag;
      rest_after_omit = c.take_flag-omit.ensures.rest;
      unquote = c.take_flag-unquote.ensures.flag;
      rest_after_unquote = c.take_flag-unquote.ensures.rest;
      tight = c.take_flag-tight.ensures.flag;
      rest_after_tight = c.take_flag-tight.ensures.rest;
      ascii = c.take_flag-ascii.ensures.flag;
      rest_after_ascii = c.take_flag-ascii.ensures.rest;
      frame = c.take_flag-frame.ensures.flag;
      rest_after_frame = c.take_flag-frame.ensures.rest;
    } in
    taken_all _ _ _ _ _ _ _ _ t c.if-not-is_empty.ensures
