use Rattle.hm_store.proofs.NamedFileLemmas.{set_files, set_places, set_named}
use Rattle.hm_store.proofs.file_table.FileTable.set.Goals as goal

pub returns-clause-files : goal.returns-clause-files
returns-clause-files c =
    set_files c.self.inside.files c.insert_full.new.self c.in_ok-name.name c.in_ok-bytes.bytes c.args.name.now c.args.bytes.now c.args.self.now c.self.view_is c.in_ok-place.ensures.updates c.in_ok-name.ensures.ok c.in_ok-bytes.ensures.items

pub returns-clause-places : goal.returns-clause-places
returns-clause-places c = set_places c.self.inside.files.entries c.insert_full.new.self.entries c.in_ok-name.name c.in_ok-bytes.bytes c.args.self.now c.self.view_is c.in_ok-place.ensures.entries

pub returns-clause-named : goal.returns-clause-named
returns-clause-named c =
    set_named c.self.inside.files.entries c.insert_full.new.self.entries c.in_ok-name.name c.in_ok-bytes.bytes c.in_ok-place.place c.args.name.now c.in_ok-place.ensures.entries c.in_ok-place.ensures.index c.in_ok-name.ensures.ok
