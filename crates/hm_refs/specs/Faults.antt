-- The printed name of each fault.
use Rattle.std.specs.Prelude.{ℕ, List, codes}
use Rattle.hm_refs.specs.declared.fault.TableFault.{TableFault}
use Rattle.hm_refs.specs.declared.fault.TableFault.TheVariants.{TooLong, NotJson, NotObject, BadName, BadPoints, TooMany, TooManyFor, Lone, OutOfMemory}

abbrev pub fault_name : TableFault → List ℕ
fault_name TooLong = codes "TooLong"
fault_name NotJson = codes "NotJson"
fault_name NotObject = codes "NotObject"
fault_name (BadName key) = codes "BadName"
fault_name (BadPoints key) = codes "BadPoints"
fault_name TooMany = codes "TooMany"
fault_name (TooManyFor point) = codes "TooManyFor"
fault_name (Lone key) = codes "Lone"
fault_name OutOfMemory = codes "Memory"
