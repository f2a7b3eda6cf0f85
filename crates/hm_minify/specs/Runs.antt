-- What a run has done: the files and the output after it, and why.
use Rattle.std.specs.Prelude.{ℕ, ◌≡◌, ◌≤◌, ◌⊎◌, true, false, List, length, [], ◌∷◌, ◌++◌, Option, Some}
use Rattle.std.specs.Io.KnownBytes.{append_known}
use Rattle.hm_base.specs.Walks.{Event}
use Rattle.hm_base.specs.declared.rules.Rule.{Rule}
use Rattle.hm_store.specs.Causes.{Rose}
use Rattle.hm_store.specs.Contents.{AreTold, Contents, Sees, Tells}
use Rattle.hm_store.specs.Files.{AppendsFront}
use Rattle.hm_refs.specs.Names.{Entry}
use Rattle.hm_refs.specs.declared.fault.TableFault.{TableFault}
use Rattle.hm_input.specs.Trees.{built, page_tree}
use Rattle.hm_input.specs.Rewrites.{rewrite}
use Rattle.hm_order.specs.Laws.{ShortestAny}
use Rattle.hm_order.specs.Shortest.{IsShortest, layer_count}
use Rattle.hm_input.specs.Fragments.{fragment_tree}
use Rattle.hm_input.specs.Frames.{framed}
use Rattle.hm_order.specs.Spellings.{Shortest, Spells}
use Rattle.hm_dump.specs.Dump.{dump_of}
use Rattle.hm_json_tree.specs.Reading.{json_walk, walk}
use Rattle.hm_json_tree.specs.Texts.{json_text}
use Rattle.hm_json_tree.specs.declared.fault.JsonFault.{JsonFault}
use Rattle.hm_input.specs.Inputs.{bad_table, bad_page, bad_json, tree as tree_input}
use Rattle.hm_minify.specs.Wanted.{input_of, rewritten_of, wanted_tree}
use Rattle.hm_words.specs.Words.{Asked, checks}
use Rattle.hm_minify.specs.Endings.{format_of, Ending, store_fault, is_fault, checked_ending, ending}
use Rattle.hm_location.specs.Explanations.{explained_page, settled_line}
use Rattle.hm_minify.specs.Lines.{length_line, yes_line, measured_line, refused_line, json_line, table_line, store_line}
use Rattle.hm_minify.specs.Outside.{Outside, Prints, StoreFails}
use Rattle.hm_minify.specs.Writes.{write, after_writes, IsLeft}
use Rattle.hm_minify.specs.declared.status.Status.{Status}
use Rattle.hm_minify.specs.declared.status.Status.TheVariants as status

-- status, files and sink are those of an ending
pub record EndsAs (e : Ending) (ended : Status) (before after : Outside) : Type 0 where
  pub status : ended ≡ e.status
  pub files : after.files ≡ after_writes before.files e.writes
  pub line : Prints e.line before after

-- they are those of the ending of these words, by contents that the files can have
abbrev pub Ends : List (List ℕ) → Status → Outside → Outside → Type 0
Ends words ended before after = Sees before.files (λ seen. EndsAs (ending words seen) ended before after)

-- a line is printed, and the status is the one that goes with it; or a put has failed, and a prefix of the line is printed
abbrev pub PutsBytes : (faults faults_after : ℕ) (printed printed_after : Option (List ℕ)) (line : List ℕ) (said ended : Status) → Type 0
PutsBytes faults faults_after printed printed_after line said ended =
    ((ended ≡ said) × (printed_after ≡ append_known printed line))
    ⊎ ((ended ≡ status.SinkFault) × AppendsFront printed printed_after line × Rose faults faults_after)

abbrev pub Puts : (line : List ℕ) (said ended : Status) (before after : Outside) → Type 0
Puts line said ended before after = PutsBytes before.print_faults after.print_faults before.printed after.printed line said ended

-- all files of an ending are written and its line is put, or a call on the store has failed and that is said
abbrev pub Finishes : (e : Ending) (ended : Status) (before after : Outside) → Type 0
Finishes e ended before after =
    ((after.files ≡ after_writes before.files e.writes) × Puts e.line e.status ended before after)
    ⊎ (IsLeft before.files e.writes after.files × StoreFails before after × Puts store_line status.StoreFault ended before after)

-- how a run goes that is to end so; of the contents that were seen R holds
pub data Course (e : Contents → Ending) (R : Contents → Type 0) (ended : Status) (before after : Outside) : Type 0 where
  -- all files are written, and the line is put
  written : Sees before.files (λ seen. (is_fault (e seen).status ≡ false) × (after.files ≡ after_writes before.files (e seen).writes) × Puts (e seen).line (e seen).status ended before after × R seen) → Course e R ended before after
  -- a file isn't there
  missing : Tells before.files (λ seen. e seen ≡ store_fault) → after.files ≡ before.files → Puts store_line status.StoreFault ended before after → Course e R ended before after
  -- a call on the store has failed
  stopped : Sees before.files (λ seen. IsLeft before.files (e seen).writes after.files) → StoreFails before after → Puts store_line status.StoreFault ended before after → Course e R ended before after
  -- memory was refused
  unready : ended ≡ status.OutOfMemory → after.files ≡ before.files → after.printed ≡ before.printed → Course e R ended before after

-- ---- By what is done. `seen` are contents that the files can have; where the files are known, their contents.

-- The files give a table and a tree; OUT and CERT hold it shortest and certified, and the line says the length. With the flag for
-- the order, OUT is as short as any spelling of the rewritten tree with the attributes of its tags in any order.
pub record HasMinified (request : Asked) (out_name cert_name : List ℕ) (before after : Outside) : Type 0 where
  pub seen : Contents
  pub are_told : AreTold before.files seen
  pub bytes : ℕ
  pub table : List Entry
  pub tree : List Event
  pub reads : input_of request seen ≡ tree_input bytes table tree
  pub out : List ℕ
  pub cert : List ℕ
  pub shortest : IsShortest table request.writing.rules (format_of request.writing.sparse) tree out cert
  pub any_order : request.writing.order ≡ true → (w : List Event) → rewritten_of request seen ≡ tree_input bytes table w → ShortestAny table request.writing.rules w (length out)
  pub files : after.files ≡ after_writes before.files (write out_name out ∷ write cert_name cert ∷ [])
  pub line : Prints (length_line (length out)) before after

-- The files give a table and the tree of a fragment. OUT after the front of fragments is that tree shortest, which CERT certifies; OUT
-- itself is a fragment with that tree, and the line says its length. With the flag for the order, OUT after its front is as short as
-- any spelling with the attributes in any order.
pub record HasMinifiedFragment (request : Asked) (out_name cert_name : List ℕ) (before after : Outside) : Type 0 where
  pub seen : Contents
  pub are_told : AreTold before.files seen
  pub bytes : ℕ
  pub table : List Entry
  pub tree : List Event
  pub reads : input_of request seen ≡ tree_input bytes table tree
  pub out : List ℕ
  pub cert : List ℕ
  pub shortest : IsShortest table request.writing.rules (format_of request.writing.sparse) tree (framed out) cert
  pub reads_back : fragment_tree table out ≡ built tree
  pub least : (fragment : List ℕ) → Spells table request.writing.rules tree (framed fragment) → length out ≤ length fragment
  pub any_order : request.writing.order ≡ true → (w : List Event) → rewritten_of request seen ≡ tree_input bytes table w → ShortestAny table request.writing.rules w (length (framed out))
  pub files : after.files ≡ after_writes before.files (write out_name out ∷ write cert_name cert ∷ [])
  pub line : Prints (length_line (length out)) before after

-- The files give a table, the tree of a fragment, and a fragment with that tree; no fragment that spells it is shorter, and the line
-- says the length. With the flag for the order, the fragment after its front is as short as any spelling with the attributes in any
-- order.
pub record HasCheckedFragment (request : Asked) (out_name : List ℕ) (before after : Outside) : Type 0 where
  pub seen : Contents
  pub are_told : AreTold before.files seen
  pub bytes : ℕ
  pub table : List Entry
  pub tree : List Event
  pub reads : input_of request seen ≡ tree_input bytes table tree
  pub out : List ℕ
  pub there : seen out_name ≡ Some out
  pub reads_back : fragment_tree table out ≡ built tree
  pub least : (fragment : List ℕ) → Spells table request.writing.rules tree (framed fragment) → length out ≤ length fragment
  pub any_order : request.writing.order ≡ true → (w : List Event) → rewritten_of request seen ≡ tree_input bytes table w → ShortestAny table request.writing.rules w (length (framed out))
  pub files : after.files ≡ before.files
  pub line : Prints (yes_line (length out)) before after

-- The JSON in a file stands for a walk. OUT and CERT hold the tree that is wanted of the rewritten walk shortest and certified, and
-- the line says the length. With the flag for the order, OUT is as short as any spelling with the attributes in any order.
pub record HasMinifiedJson (request : Asked) (json_name out_name cert_name : List ℕ) (before after : Outside) : Type 0 where
  pub seen : Contents
  pub are_told : AreTold before.files seen
  pub table : List Entry
  pub json : List ℕ
  pub there : seen json_name ≡ Some json
  pub read : List Event
  pub reads : json_walk json ≡ walk read
  pub out : List ℕ
  pub cert : List ℕ
  pub shortest : IsShortest table request.writing.rules (format_of request.writing.sparse) (wanted_tree request table (rewrite request.options read)) out cert
  pub any_order : request.writing.order ≡ true → ShortestAny table request.writing.rules (rewrite request.options read) (length out)
  pub files : after.files ≡ after_writes before.files (write out_name out ∷ write cert_name cert ∷ [])
  pub line : Prints (length_line (length out)) before after

-- The files give a table, a tree and a text that parses to it, no spelling is shorter, and the line says the length. With the flag for
-- the order, the text is as short as any spelling with the attributes in any order.
pub record HasChecked (request : Asked) (out_name : List ℕ) (before after : Outside) : Type 0 where
  pub seen : Contents
  pub are_told : AreTold before.files seen
  pub bytes : ℕ
  pub table : List Entry
  pub tree : List Event
  pub reads : input_of request seen ≡ tree_input bytes table tree
  pub out : List ℕ
  pub there : seen out_name ≡ Some out
  pub parses : page_tree table out ≡ built tree
  pub shortest : Shortest table request.writing.rules tree (length out)
  pub any_order : request.writing.order ≡ true → (w : List Event) → rewritten_of request seen ≡ tree_input bytes table w → ShortestAny table request.writing.rules w (length out)
  pub files : after.files ≡ before.files
  pub line : Prints (yes_line (length out)) before after

-- It is a check. The files give a table, a tree, a text and the bytes of a certificate, and the line says the first condition that fails.
pub record HasDenied (request : Asked) (before after : Outside) : Type 0 where
  pub seen : Contents
  pub are_told : AreTold before.files seen
  pub out_name : List ℕ
  pub cert_name : List ℕ
  pub work : request.work ≡ checks out_name cert_name
  pub bytes : ℕ
  pub table : List Entry
  pub tree : List Event
  pub reads : input_of request seen ≡ tree_input bytes table tree
  pub out : List ℕ
  pub out_there : seen out_name ≡ Some out
  pub cert : List ℕ
  pub cert_there : seen cert_name ≡ Some cert
  pub denies : (checked_ending request.writing.rules table tree out cert).status ≡ status.No
  pub files : after.files ≡ before.files
  pub line : Prints (checked_ending request.writing.rules table tree out cert).line before after

-- the files give a tree, whose lines are shown
pub record HasShown (request : Asked) (before after : Outside) : Type 0 where
  pub seen : Contents
  pub are_told : AreTold before.files seen
  pub bytes : ℕ
  pub table : List Entry
  pub tree : List Event
  pub reads : input_of request seen ≡ tree_input bytes table tree
  pub files : after.files ≡ before.files
  pub lines : Prints (dump_of tree) before after

-- the files give a tree, and its JSON is printed
pub record HasToldJson (request : Asked) (before after : Outside) : Type 0 where
  pub seen : Contents
  pub are_told : AreTold before.files seen
  pub bytes : ℕ
  pub table : List Entry
  pub tree : List Event
  pub reads : input_of request seen ≡ tree_input bytes table tree
  pub files : after.files ≡ before.files
  pub lines : Prints (json_text tree ++ 10 ∷ []) before after

-- The files give a table and the tree of a page of `bytes` bytes. The line says how many bytes the page has, how many the
-- tree written shortest, and how many layers its graph.
pub record HasMeasured (request : Asked) (before after : Outside) : Type 0 where
  pub seen : Contents
  pub are_told : AreTold before.files seen
  pub bytes : ℕ
  pub table : List Entry
  pub tree : List Event
  pub reads : input_of request seen ≡ tree_input bytes table tree
  pub out : List ℕ
  pub cert : List ℕ
  pub shortest : IsShortest table request.writing.rules (format_of request.writing.sparse) tree out cert
  pub files : after.files ≡ before.files
  pub line : Prints (measured_line bytes (length out) (layer_count request.writing.rules tree)) before after

-- The file of that name holds a page that is refused, and three lines say where and why.
pub record HasExplained (request : Asked) (page_name : List ℕ) (before after : Outside) : Type 0 where
  pub seen : Contents
  pub are_told : AreTold before.files seen
  pub page : List ℕ
  pub there : seen page_name ≡ Some page
  pub rule : Rule
  pub at : ℕ
  pub reads : input_of request seen ≡ bad_page rule at
  pub files : after.files ≡ before.files
  pub lines : Prints (explained_page page_name page rule at) before after

-- The file of that name holds a page that gives a tree. The line says how many bytes the page has, and how many the tree written
-- shortest.
pub record HasSettled (request : Asked) (page_name : List ℕ) (before after : Outside) : Type 0 where
  pub seen : Contents
  pub are_told : AreTold before.files seen
  pub page : List ℕ
  pub there : seen page_name ≡ Some page
  pub table : List Entry
  pub tree : List Event
  pub reads : input_of request seen ≡ tree_input (length page) table tree
  pub out : List ℕ
  pub cert : List ℕ
  pub shortest : IsShortest table request.writing.rules (format_of request.writing.sparse) tree out cert
  pub files : after.files ≡ before.files
  pub line : Prints (settled_line page_name (length page) (length out)) before after

-- ---- Whatever is done

-- the files give a page that is refused, and the line says by which rule and where
pub record HasRefusedPage (request : Asked) (before after : Outside) : Type 0 where
  pub seen : Contents
  pub are_told : AreTold before.files seen
  pub rule : Rule
  pub at : ℕ
  pub reads : input_of request seen ≡ bad_page rule at
  pub files : after.files ≡ before.files
  pub line : Prints (refused_line rule at) before after

-- the files give JSON that stands for no tree, and the line says by which fault
pub record HasRefusedJson (request : Asked) (before after : Outside) : Type 0 where
  pub seen : Contents
  pub are_told : AreTold before.files seen
  pub fault : JsonFault
  pub reads : input_of request seen ≡ bad_json fault
  pub files : after.files ≡ before.files
  pub line : Prints (json_line fault) before after

-- the files give a table that is refused, and the line says for which fault
pub record HasRefusedTable (request : Asked) (before after : Outside) : Type 0 where
  pub seen : Contents
  pub are_told : AreTold before.files seen
  pub fault : TableFault
  pub reads : input_of request seen ≡ bad_table fault
  pub files : after.files ≡ before.files
  pub line : Prints (table_line fault) before after
