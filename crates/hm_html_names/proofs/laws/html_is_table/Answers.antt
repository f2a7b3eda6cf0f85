use Rattle.std.proofs.Common.{subst}
use Rattle.hm_refs.specs.Tables.{IsTable}
use Rattle.hm_html_names.proofs.Alike.{html_is}
use Rattle.hm_html_names.proofs.Computing.{is_ready}
use Rattle.hm_html_names.proofs.laws.html_is_table.Goals as goal

pub returns : goal.returns
returns c = subst IsTable html_is is_ready.table
