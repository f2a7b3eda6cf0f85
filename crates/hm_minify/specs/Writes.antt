-- What is written to files, and the files afterwards.
use Rattle.std.specs.Prelude.{ℕ, ◌≡◌, ◌⊎◌, List, [], ◌∷◌, refl}
use Rattle.std.specs.declared.option.Option.{Option}
use Rattle.std.specs.Coded.{Coded, code_by, coded×, coded_ℕ, coded_list}
use Rattle.hm_store.specs.Files.{FileMap, with_file, HasFront}

-- a file that is written, with its bytes
pub record Write : Type 0 where
  pub name : List ℕ
  pub bytes : List ℕ

abbrev pub write : List ℕ → List ℕ → Write
write name bytes = record { name = name; bytes = bytes }

-- it is stored as the pair of its fields
abbrev pub write_code : Coded Write
write_code = code_by (List ℕ × List ℕ) (coded× (coded_list coded_ℕ) (coded_list coded_ℕ)) (λ w. (w.name, w.bytes)) (λ p. record { name = p.0; bytes = p.1 }) (λ _. refl)

-- the files after these writes, in their order
abbrev pub after_writes : Option FileMap → List Write → Option FileMap
after_writes told [] = told
after_writes told (w ∷ ws) = after_writes (with_file told w.name w.bytes) ws

-- the files after a prefix of these writes: each earlier one is whole, and of the last there may be only a prefix
abbrev pub IsLeft : Option FileMap → List Write → Option FileMap → Type 0
IsLeft old [] new = new ≡ old
IsLeft old (w ∷ ws) new = (new ≡ old) ⊎ (HasFront old new w.name w.bytes ⊎ IsLeft (with_file old w.name w.bytes) ws new)
