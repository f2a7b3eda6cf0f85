use Rattle.std.proofs.Common.{◌∙◌, sym, append-nil, refl}
use Rattle.hm_measure_page.specs.Pages.{heading}
use Rattle.hm_measure_page.proofs.pages.page_of.Goals as goal

pub loop-k-init : goal.loop-k-init
loop-k-init c = record { sequence = refl; text = c.in_ok-text.ensures.ok ∙ sym (append-nil (heading c.args.number)) }
