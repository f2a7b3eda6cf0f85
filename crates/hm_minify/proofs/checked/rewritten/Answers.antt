use Rattle.std.proofs.Common.{◌∙◌, ◌≤◌, length, arith, refl}
use Rattle.std.proofs.lemmas.Bool.{and_parts, leb-true}
use Rattle.hm_base.specs.declared.limits.TheConstants.{CERTIFICATE_LIMIT, OUTPUT_LIMIT}
use Rattle.hm_minify.proofs.Afterwards.{written_is_checked}
use Rattle.hm_minify.proofs.checked.rewritten.Goals as goal

pub returns-in-Ok : goal.returns-in-Ok
returns-in-Ok c = λ is.
    let within : c.len.result ≤ OUTPUT_LIMIT = leb-true c.len.result OUTPUT_LIMIT (and_parts _ _ is).0 in
    let short : length c.in-Ok.minified.out.items ≤ OUTPUT_LIMIT = omega (arith, within, c.len.ensures) in
    let few : length c.args.cert.now ≤ CERTIFICATE_LIMIT = omega (arith, c.if-cert.false) in
    written_is_checked c.args.input.now.table.entries c.every_table.ensures.names c.args.rules c.args.input.now.tree c.in-Ok.minified.out.items c.args.cert.now c.in-Ok.minified.out.items c.as_slice.result.now c.requires.page c.requires.settled (c.in-Ok.ensures.readable c.requires.settled)
    c.in-Ok.ensures.made.out (c.as_slice.ensures.value ∙ c.in-Ok.ensures.made.certificate) refl (c.same_bytes-is_same.ensures (and_parts _ _ is).1) short few
