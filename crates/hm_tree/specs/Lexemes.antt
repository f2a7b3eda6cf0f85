-- Tokens whose name and attributes, where they are tags, stand in a place of their own.
use Rattle.std.specs.Prelude.{Option, Some, None, string_bytes}
use Rattle.hm_tree.specs.declared.tokens.Lexeme.{Lexeme}
use Rattle.hm_tree.specs.declared.tokens.Lexeme.TheVariants as lexemes
use Rattle.hm_tree.specs.declared.tokens.Placed.{Placed}
use Rattle.hm_tree.specs.declared.tokens.Spanned.{Spanned}
use Rattle.hm_tree.specs.declared.tokens.Tag.{Tag}
use Rattle.hm_tree.specs.declared.tokens.Token.{Token}
use Rattle.hm_tree.specs.declared.tokens.Token.TheVariants as tokens

-- the token, with the name and the attributes that stand in the place
abbrev pub token_of : Lexeme → Tag → Token
token_of (lexemes.Doctype legacy) tag = tokens.Doctype legacy
token_of (lexemes.StartTag slash) tag = tokens.StartTag (string_bytes tag.name) tag.attrs slash
token_of lexemes.EndTag tag = tokens.EndTag (string_bytes tag.name)
token_of (lexemes.Slice from to) tag = tokens.Slice from to
token_of (lexemes.Points points) tag = tokens.Points points
token_of (lexemes.Comment from to) tag = tokens.Comment from to

abbrev pub spanned_of : Placed → Tag → Spanned
spanned_of placed tag = record { token = token_of placed.lexeme tag; from = placed.from; to = placed.to }

-- the same where there may be no token
abbrev pub next_of : Option Placed → Tag → Option Spanned
next_of None tag = None
next_of (Some placed) tag = Some (spanned_of placed tag)
