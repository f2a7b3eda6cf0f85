use Rattle.std.proofs.Common.{[], refl}
use Rattle.hm_page_loading.proofs.Taking.{scanned_all}
use Rattle.hm_page_loading.proofs.spaced.SpacedBuilder.new.Goals as goal

pub returns-clause-taken : goal.returns-clause-taken
returns-clause-taken c = scanned_all _ [] c.in_ok-builder.ensures.read refl (c.kept-kept.ensures [] c.in_ok-builder.ensures.read)
