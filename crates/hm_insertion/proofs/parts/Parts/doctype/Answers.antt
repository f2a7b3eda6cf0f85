use Rattle.std.proofs.Common.{[], ◌∷◌}
use Rattle.hm_base.specs.Walks.{doctype}
use Rattle.hm_insertion.proofs.PlainTexts.{fits_by}
use Rattle.hm_insertion.proofs.Others.{doctype_went, doctype_done, doctype_stops}
use Rattle.hm_insertion.proofs.parts.Parts.doctype.Goals as goal

pub doctype-requires : goal.doctype-requires
doctype-requires c = fits_by _ (doctype c.args.legacy ∷ []) _ c.args.self.now.maker (doctype_went c.args.self.now c.args.legacy c.in-Initial.is) c.requires.room

pub returns-in_ok-doctype-in-Initial : goal.returns-in_ok-doctype-in-Initial
returns-in_ok-doctype-in-Initial c = doctype_done c.args.self.now c.args.legacy c.doctype.new.self c.in-Initial.is c.requires.kept c.in_ok-doctype-in-Initial.ensures.ok

pub returns-in_default : goal.returns-in_default
returns-in_default c = doctype_stops c.args.self.now c.args.legacy c.in_default.not-Initial
