-- What the class of a name says of it.
use Rattle.std.proofs.Common.{◌≡◌, ℕ, Bool, true, false, cond, bytes_eq, List, refl, sym, ap, ◌∙◌}
use Rattle.hm_elements.specs.declared.class.Class.{Class}
use Rattle.hm_elements.specs.declared.class.Class.TheVariants.{Root, Void, Rcdata, Raw, Script, TablePart, Ordinary, Refused}
use Rattle.hm_elements.specs.Classes.{holds_nothing, is_not_read}
use Rattle.hm_elements.specs.Names.{script}
use Rattle.hm_elements.specs.Tables.{is_root, is_void, is_rcdata, is_raw, is_refused, is_table_part, class_of}
use Rattle.hm_elements.proofs.ClassFacts.{void_by_class, refused_by_class}

abbrev pub is_root_class : Class → Bool
is_root_class Root = true
is_root_class _ = false

-- the class of a name that is neither a root nor void
abbrev last_class : List ℕ → Class
last_class n = cond (is_rcdata n) Rcdata (cond (is_raw n) (cond (bytes_eq n script) Script Raw) (cond (is_table_part n) TablePart (cond (is_refused n) Refused Ordinary)))

either : (b : Bool) (x y : Class) → is_root_class x ≡ false → is_root_class y ≡ false → is_root_class (cond b x y) ≡ false
either true x y here there = here
either false x y here there = there

last_is_no_root : (n : List ℕ) → is_root_class (last_class n) ≡ false
last_is_no_root n =
    either (is_rcdata n) Rcdata _ refl
    (either (is_raw n) _ _ (either (bytes_eq n script) Script Raw refl refl)
    (either (is_table_part n) TablePart _ refl (either (is_refused n) Refused Ordinary refl refl)))

root_class : (n : List ℕ) → is_root_class (class_of n) ≡ is_root n
unfolding class_of
root_class n = by (is_root n)
  where
    by : (b : Bool) → is_root_class (cond b Root (cond (is_void n) Void (last_class n))) ≡ b
    by true = refl
    by false = either (is_void n) Void (last_class n) refl (last_is_no_root n)

-- what a class says of a name that isn't refused
pub record IsKnown (n : List ℕ) (c : Class) : Type 0 where
  pub not_refused : is_refused n ≡ false
  pub not_root : is_root n ≡ false
  pub void : is_void n ≡ holds_nothing c

other_than_refused : (c : Class) → (c ≡ Refused → ⊥) → is_not_read c ≡ false
other_than_refused Refused h = absurd (h refl)
other_than_refused Root h = refl
other_than_refused Void h = refl
other_than_refused Rcdata h = refl
other_than_refused Raw h = refl
other_than_refused Script h = refl
other_than_refused TablePart h = refl
other_than_refused Ordinary h = refl

other_than_root : (c : Class) → (c ≡ Root → ⊥) → is_root_class c ≡ false
other_than_root Root h = absurd (h refl)
other_than_root Refused h = refl
other_than_root Void h = refl
other_than_root Rcdata h = refl
other_than_root Raw h = refl
other_than_root Script h = refl
other_than_root TablePart h = refl
other_than_root Ordinary h = refl

pub other_than_void : (c : Class) → (c ≡ Void → ⊥) → holds_nothing c ≡ false
other_than_void Void h = absurd (h refl)
other_than_void Root h = refl
other_than_void Refused h = refl
other_than_void Rcdata h = refl
other_than_void Raw h = refl
other_than_void Script h = refl
other_than_void TablePart h = refl
other_than_void Ordinary h = refl

pub class_known : (n : List ℕ) (c : Class) → c ≡ class_of n → (c ≡ Refused → ⊥) → (c ≡ Root → ⊥) → IsKnown n c
class_known n c e kept other =
    record {
      not_refused = sym (refused_by_class n) ∙ ap is_not_read (sym e) ∙ other_than_refused c kept;
      not_root = sym (root_class n) ∙ ap is_root_class (sym e) ∙ other_than_root c other;
      void = sym (void_by_class n) ∙ ap holds_nothing (sym e);
    }

pub class_refused : (n : List ℕ) → Refused ≡ class_of n → is_refused n ≡ true
class_refused n e = sym (refused_by_class n) ∙ ap is_not_read (sym e)

pub class_root : (n : List ℕ) → Root ≡ class_of n → (is_refused n ≡ false) × (is_root n ≡ true)
class_root n e = (sym (refused_by_class n) ∙ ap is_not_read (sym e), sym (root_class n) ∙ ap is_root_class (sym e))
