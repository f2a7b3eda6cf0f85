use Rattle.hm_build.proofs.Names.{is_ordinary}
use Rattle.hm_build.proofs.tokens.mode_of_name.Goals as goal

pub returns-in_default : goal.returns-in_default
returns-in_default c = is_ordinary c.args.name.now c.in_default.not-title c.in_default.not-textarea c.in_default.not-style c.in_default.not-iframe c.in_default.not-script
