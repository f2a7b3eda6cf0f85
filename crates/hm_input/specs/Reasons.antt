-- Why there is no tree, by what has failed.
use Rattle.hm_base.specs.declared.rules.Refused.{Refused}
use Rattle.hm_base.specs.declared.rules.Refused.TheVariants as refusals
use Rattle.hm_input.specs.declared.unread.InputFault.{InputFault}
use Rattle.hm_input.specs.declared.unread.InputFault.TheVariants as reasons
use Rattle.hm_page_loading.specs.declared.fault.PageLoadFault.{PageLoadFault}
use Rattle.hm_page_loading.specs.declared.fault.PageLoadFault.TheVariants as page_faults
use Rattle.hm_store.specs.declared.whole_files.LoadFault.{LoadFault}
use Rattle.hm_store.specs.declared.whole_files.LoadFault.TheVariants as faults

-- a file that can't be loaded gives no tree
abbrev pub unread_of : LoadFault → InputFault
unread_of faults.Store = reasons.Store
unread_of faults.OutOfMemory = reasons.OutOfMemory

-- neither does a page that is refused
abbrev pub refused_as : Refused → InputFault
refused_as (refusals.Page rule at) = reasons.Page rule at
refused_as refusals.OutOfMemory = reasons.OutOfMemory

-- why a page in a file has no tree
abbrev pub page_unread : PageLoadFault → InputFault
page_unread (page_faults.Page rule at) = reasons.Page rule at
page_unread page_faults.Store = reasons.Store
page_unread page_faults.OutOfMemory = reasons.OutOfMemory
