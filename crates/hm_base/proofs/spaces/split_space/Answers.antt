use Rattle.std.proofs.Common.{IsCharBoundary, subst}
use Rattle.hm_base.proofs.LeadingSpace.{space_boundary}
use Rattle.hm_base.proofs.spaces.split_space.Goals as goal

pub split_at-requires : goal.split_at-requires
split_at-requires c =
    let n = c.leading_space.result in
    subst (λ s. IsCharBoundary s n) c.as_bytes.ensures.value (space_boundary c.as_bytes.result.now n c.as_bytes.ensures.utf8 c.leading_space.ensures.inside c.leading_space.ensures.space)
