-- What the tables say of a name, its class says.
use Rattle.std.proofs.Common.{◌≡◌, ℕ, Bool, true, false, List, refl}
use Rattle.std.specs.List.{list_all}
use Rattle.hm_base.specs.Walks.{same_flag}
use Rattle.hm_elements.specs.Classes.{holds_nothing, holds_one_text, is_not_read}
use Rattle.hm_elements.specs.Names.{is_among}
use Rattle.hm_elements.specs.Tables.{roots, voids, rcdata_names, raw_names, refused_names, parts, is_root, is_void, is_rcdata, is_raw, holds_text, is_refused, is_table_part, class_of}
use Rattle.hm_elements.proofs.TableTools.{entry_passes}
use Rattle.hm_elements.proofs.Events.{same_is}
use Rattle.hm_elements.proofs.Listed.{listed, is_listed, no_class, no_void, no_rcdata, no_raw, not_refused}

-- a test that holds of listed names and of all others holds of every name
pub by_list : (test : List ℕ → Bool) (n : List ℕ) → list_all test listed ≡ true → (is_listed n ≡ false → test n ≡ true) → test n ≡ true
by_list test n all other = by (is_listed n) refl
  where
    by : (b : Bool) → is_listed n ≡ b → test n ≡ true
    by true e = entry_passes test n listed all e
    by false e = other e

void_agrees : List ℕ → Bool
void_agrees n = same_flag (holds_nothing (class_of n)) (is_void n)

listed_voids : list_all void_agrees listed ≡ true
unfolding void_agrees class_of is_root roots is_void voids is_rcdata rcdata_names is_raw raw_names is_table_part parts is_refused refused_names is_among
listed_voids = refl

pub void_by_class : (n : List ℕ) → holds_nothing (class_of n) ≡ is_void n
unfolding void_agrees
void_by_class n = same_is (holds_nothing (class_of n)) (is_void n) (by_list void_agrees n listed_voids (λ e. rw (no_class n e, no_void n e) refl))

text_agrees : List ℕ → Bool
text_agrees n = same_flag (holds_one_text (class_of n)) (holds_text n)

listed_texts : list_all text_agrees listed ≡ true
unfolding text_agrees class_of holds_text is_root roots is_void voids is_rcdata rcdata_names is_raw raw_names is_table_part parts is_refused refused_names is_among
listed_texts = refl

pub text_by_class : (n : List ℕ) → holds_one_text (class_of n) ≡ holds_text n
unfolding text_agrees holds_text
text_by_class n = same_is (holds_one_text (class_of n)) (holds_text n) (by_list text_agrees n listed_texts (λ e. rw (no_class n e, no_raw n e, no_rcdata n e) refl))

refused_agrees : List ℕ → Bool
refused_agrees n = same_flag (is_not_read (class_of n)) (is_refused n)

listed_refused : list_all refused_agrees listed ≡ true
unfolding refused_agrees class_of is_root roots is_void voids is_rcdata rcdata_names is_raw raw_names is_table_part parts is_refused refused_names is_among
listed_refused = refl

pub refused_by_class : (n : List ℕ) → is_not_read (class_of n) ≡ is_refused n
unfolding refused_agrees
refused_by_class n = same_is (is_not_read (class_of n)) (is_refused n) (by_list refused_agrees n listed_refused (λ e. rw (no_class n e, not_refused n e) refl))
