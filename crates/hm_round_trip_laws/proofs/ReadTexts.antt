-- Texts that are read one after another.
use Rattle.std.proofs.Common.{◌≡◌, ℕ, true, List, [], ◌∷◌, ◌++◌, map, encode_utf8_all, refl, ap, sym, ◌∙◌, append_assoc}
use Rattle.std.proofs.lemmas.Bool.{and_parts, and_from}
use Rattle.hm_refs.specs.Names.{Entry}
use Rattle.hm_tree.specs.Tokens.{Seen, doctype, start_tag, end_tag, slice, points, comment}
use Rattle.hm_token_laws.specs.First.{Mode}
use Rattle.hm_token_laws.specs.Decided.{in_mode, texts_of, is_text, are_texts, IsReadAs}
use Rattle.hm_token_laws.specs.Readings.{ReadsAs}

reads_join : (t : List Entry) (mode : Mode) (ks js : List Seen) (s left rest : List ℕ) → ReadsAs t (map (in_mode mode) ks) s left → ReadsAs t (map (in_mode mode) js) left rest → ReadsAs t (map (in_mode mode) (ks ++ js)) s rest
reads_join t mode [] js s left rest h i = rw h i
reads_join t mode (k ∷ ks) js s left rest (n, next, h, more) i = (n, next, h, reads_join t mode ks js next left rest more i)

texts_join : (ks js : List Seen) → are_texts ks ≡ true → are_texts js ≡ true → are_texts (ks ++ js) ≡ true
texts_join [] js h i = i
texts_join (k ∷ ks) js h i = let both = and_parts (is_text k) (are_texts ks) h in and_from (is_text k) (are_texts (ks ++ js)) both.0 (texts_join ks js both.1 i)

texts_of_join : (ks js : List Seen) → texts_of (ks ++ js) ≡ texts_of ks ++ texts_of js
texts_of_join [] js = refl
texts_of_join (slice s ∷ ks) js = ap (λ x. s ++ x) (texts_of_join ks js) ∙ sym (append_assoc s (texts_of ks) (texts_of js))
texts_of_join (points qs ∷ ks) js = ap (λ x. encode_utf8_all qs ++ x) (texts_of_join ks js) ∙ sym (append_assoc (encode_utf8_all qs) (texts_of ks) (texts_of js))
texts_of_join (doctype legacy ∷ ks) js = texts_of_join ks js
texts_of_join (start_tag name attributes slash ∷ ks) js = texts_of_join ks js
texts_of_join (end_tag name ∷ ks) js = texts_of_join ks js
texts_of_join (comment s ∷ ks) js = texts_of_join ks js

pub read_nothing : (t : List Entry) (mode : Mode) (s : List ℕ) → IsReadAs t mode s s []
read_nothing t mode s = record { tokens = []; reads = refl; texts = refl; joined = refl }

pub read_both : (t : List Entry) (mode : Mode) (s left rest text more : List ℕ) → IsReadAs t mode s left text → IsReadAs t mode left rest more → IsReadAs t mode s rest (text ++ more)
read_both t mode s left rest text more h i = record {
  tokens = h.tokens ++ i.tokens;
  reads = reads_join t mode h.tokens i.tokens s left rest h.reads i.reads;
  texts = texts_join h.tokens i.tokens h.texts i.texts;
  joined = texts_of_join h.tokens i.tokens ∙ ap (λ x. x ++ texts_of i.tokens) h.joined ∙ ap (λ x. text ++ x) i.joined;
}
