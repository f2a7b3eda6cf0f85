use Rattle.hm_insertion.proofs.BeforeBody.{html_done}
use Rattle.hm_insertion.proofs.parts.Parts.open_html.Goals as goal

pub returns-in_ok-start_from-in-BeforeHtml : goal.returns-in_ok-start_from-in-BeforeHtml
returns-in_ok-start_from-in-BeforeHtml c =
    html_done c.args.self.now c.args.attrs.now c.start_from.new.self c.requires.kept c.in-BeforeHtml.is c.in_ok-start_from-in-BeforeHtml.ensures.ok
