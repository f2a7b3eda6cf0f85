-- What the checker computes of the constants.
use Rattle.std.proofs.Common.{◌≡◌, ℕ, true, List, [], ◌∷◌, map, length, drop, get_or, None, Ok, refl, arith}
use Rattle.std.specs.List.{list_all}
use Rattle.hm_base.specs.Bytes.{is_alnum, is_digit_of, is_letter}
use Rattle.hm_refs.specs.Names.{Entry, is_good_name}
use Rattle.hm_refs.specs.Tables.{are_points, names_in}
use Rattle.hm_refs.specs.Json.{checked, first_lone}
use Rattle.hm_refs.specs.Firsts.{IsInOrder}
use Rattle.hm_refs.specs.Ready.{IsReady, are_cut, entries_from, nodes_from}
use Rattle.hm_refs.specs.declared.nodes.TrieNode.{TrieNode}
use Rattle.hm_refs.proofs.Picks.{blocks}
use Rattle.hm_refs.proofs.ReadyTables.{Computed, are_placed, are_uncrowded, fronts_by, is_named, passes_checks, ready}
use Rattle.hm_refs.proofs.ReadyTrie.{are_spread}
use Rattle.hm_refs.proofs.Selecting.{by_bits, climbs_from, in_order, pairs_from, pairs_of}
use Rattle.hm_refs.proofs.Sortings.{rises, with_length}
use Rattle.hm_html_names.specs.declared.names.TheConstants.{LENGTHS, TEXT}
use Rattle.hm_html_names.specs.declared.points.TheConstants.{FIRSTS, SECONDS}
use Rattle.hm_html_names.specs.declared.prefixes.TheConstants.{NAMES}
use Rattle.hm_html_names.specs.declared.places.TheConstants.{PLACES}
use Rattle.hm_html_names.specs.declared.index.TheConstants.{NUMBERS, POINTS}
use Rattle.hm_html_names.specs.declared.counts.TheConstants.{COUNTS}
use Rattle.hm_html_names.specs.declared.depths.TheConstants.{DEPTHS}
use Rattle.hm_html_names.specs.declared.last_bytes.TheConstants.{BYTES}

unfoldable entries : List Entry
entries = entries_from TEXT.now LENGTHS FIRSTS SECONDS

unfoldable trie : List TrieNode
trie = nodes_from 1 NAMES DEPTHS BYTES COUNTS

pub cut : are_cut TEXT.now LENGTHS ≡ true
cut = refl

-- ---- the names

many : length entries ≡ 2231
unfolding entries
many = refl

ascending : rises (names_in entries) ≡ true
unfolding entries
ascending = refl

good : list_all (λ (e : Entry). is_good_name e.name) entries ≡ true
unfolding entries is_alnum is_letter is_digit_of
good = refl

pointed : list_all (λ (e : Entry). are_points e.points) entries ≡ true
unfolding entries
pointed = refl

uncrowded : are_uncrowded 64 64 entries ≡ true
unfolding entries
uncrowded = refl

paired : first_lone entries entries ≡ None
unfolding entries
paired = refl

-- ---- their trie

unfoldable fronts : List (List ℕ)
fronts = fronts_by (blocks 47 48 entries) trie

nodes_many : length trie ≡ 9854
unfolding trie
nodes_many = refl

named : list_all (is_named 2231 47) trie ≡ true
unfolding trie
named = refl

root : get_or fronts 0 [] ≡ 38 ∷ []
unfolding fronts entries trie
root = refl

apart : rises (map with_length fronts) ≡ true
unfolding fronts entries trie
apart = refl

spread : are_spread 1 fronts trie (drop 1 fronts) (drop 1 trie) ≡ true
unfolding fronts entries trie
spread = refl

placed : are_placed 9854 95 (blocks 95 104 fronts) entries PLACES ≡ true
unfolding fronts entries trie
placed = refl

-- ---- their index

climbs : climbs_from 0 POINTS ≡ true
climbs = refl

index_long : length NUMBERS ≡ length POINTS
index_long = refl

-- the pairs are sorted by the 21 bits of a code point
index_sorted : pairs_of POINTS NUMBERS ≡ by_bits 21 1 (pairs_from 0 entries)
unfolding entries
index_sorted = refl

pub is_in_order : IsInOrder (entries_from TEXT.now LENGTHS FIRSTS SECONDS) POINTS NUMBERS
unfolding entries
is_in_order = in_order entries POINTS NUMBERS 21 climbs index_long index_sorted

-- ---- all together

computed : Computed 2231 47 9854 95 entries trie PLACES
unfolding fronts
computed = record {
  many = many;
  few = omega arith;
  ascending = ascending;
  good = good;
  pointed = pointed;
  uncrowded = uncrowded;
  paired = paired;
  nodes_many = nodes_many;
  nodes_some = omega arith;
  nodes_few = omega arith;
  named = named;
  root = root;
  apart = apart;
  spread = spread;
  placed = placed;
}

pub is_checked : checked (entries_from TEXT.now LENGTHS FIRSTS SECONDS) ≡ Ok (entries_from TEXT.now LENGTHS FIRSTS SECONDS)
unfolding entries
is_checked = passes_checks 2231 47 9854 95 entries trie PLACES computed

pub is_ready : IsReady (entries_from TEXT.now LENGTHS FIRSTS SECONDS) (nodes_from 1 NAMES DEPTHS BYTES COUNTS) PLACES
unfolding entries trie
is_ready = ready 2231 47 9854 95 entries trie PLACES computed
