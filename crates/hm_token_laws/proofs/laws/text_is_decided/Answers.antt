use Rattle.hm_token_laws.proofs.Decided.{references_are_decided}
use Rattle.hm_token_laws.proofs.TextPieces.{texts_are_decided, ends_are_decided}
use Rattle.hm_token_laws.proofs.TextReads.{markup_ends_texts}
use Rattle.hm_token_laws.proofs.laws.text_is_decided.Goals as goal

pub returns-clause-references : goal.returns-clause-references
returns-clause-references c = references_are_decided

pub returns-clause-texts : goal.returns-clause-texts
returns-clause-texts c = texts_are_decided

pub returns-clause-ends : goal.returns-clause-ends
returns-clause-ends c = ends_are_decided

pub returns-clause-markup : goal.returns-clause-markup
returns-clause-markup c = markup_ends_texts
