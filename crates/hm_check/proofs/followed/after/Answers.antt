use Rattle.std.proofs.Common.{Option, Some, None}
use Rattle.std.specs.Option.{IfSome, MatchOption}
use Rattle.std.proofs.lemmas.Bool.Decides.{Decides-eqb}
use Rattle.std.proofs.lemmas.Slice.Eq.{strip_prefix_is}
use Rattle.hm_check.proofs.followed.after.Goals as goal

if_some : {A : Type 0} (P : Type 0) (Q : A → Type 0) (r : Option A) → MatchOption r P Q → IfSome r Q
if_some P Q None h = tt
if_some P Q (Some x) h = h

pub returns-then-bytes-gt12 : goal.returns-then-bytes-gt12
returns-then-bytes-gt12 c = if_some _ _ c.strip_prefix.result (strip_prefix_is Decides-eqb c.args.text.now c.args.bytes.now c.strip_prefix.result c.strip_prefix.ensures.cases)
