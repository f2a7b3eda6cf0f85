use Rattle.hm_token_laws.proofs.Written.{starts_are_next, ends_are_next, comments_are_next, doctypes_are_next}
use Rattle.hm_token_laws.proofs.laws.written_markup_is_next.Goals as goal

pub returns-clause-starts : goal.returns-clause-starts
returns-clause-starts c = starts_are_next

pub returns-clause-ends : goal.returns-clause-ends
returns-clause-ends c = ends_are_next

pub returns-clause-comments : goal.returns-clause-comments
returns-clause-comments c = comments_are_next

pub returns-clause-doctypes : goal.returns-clause-doctypes
returns-clause-doctypes c = doctypes_are_next
